-- The layout of a case: the octets of a case say its parts, and parts that are said are those of the case.
-- Assumes nothing.
use Prim.Native.Nat.{ℕ, zero, suc, ◌+◌, ◌*◌, ◌/◌, ◌%◌, ◌≤◌, ◌<◌}
use mathlib.Core.Path.{◌≡◌, refl, sym, ap, ap₂, subst, ◌∙◌}
use mathlib.Core.Logic.{◌↔◌}
use mathlib.Core.List.Memᴰ
use mathlib.Core.List.{List, [], ◌∷◌, ◌++◌, map, Memᴰ}
use native.Mathlib.Nat.{div-add-mod}
use native.Mathlib.Omega.{arith}
use lib.ListN.{length, take, drop, get_or, length-append, length-take, length-drop, take-append-drop, length-map}
use lib.Dec.{lit<}
use lib.Seq.{get_or-drop, get_or-take, take-append_seam, drop-append_seam, drop-drop, length-take-le, drop_at}
use Rattle.run.specs.Answers.{given}
use Rattle.case_table.specs.Layout.{version_1, mark, big16, page_count, header, lengths_in, total, of_form, cut, header_part, table_part}
use Rattle.case_table.specs.Layout.{sizes, joined, case_of, case_with}
use Rattle.case_table.specs.PagePlaces.{Right, behind_header}
use Rattle.case_table.specs.Check.{says, header_of, lengths_of, pages_of}
use Rattle.case_table.specs.Grammar.{Octets, CaseOf, Sound, size_said}
use Rattle.case_table.proofs.Lengths.{lengths_take}
use Rattle.case_table.proofs.Checked.{sound_exactly}
use Rattle.case_table.proofs.PagePlaces.{right_header, pages_cut}
use Rattle.sorts.specs.Forms.{IsForm}
use Rattle.sorts.proofs.FormNumbers.{found_is}

-- ---- numbers of two octets

-- the octets of a number say it
pub said : (n : ℕ) → 0x100 * (n / 0x100) + n % 0x100 ≡ n
said n = div-add-mod n 0x100

-- two octets are those of the number that they say
pub saying : (a b : ℕ) → b < 0x100 → ((0x100 * a + b) / 0x100 ≡ a) × ((0x100 * a + b) % 0x100 ≡ b)
saying a b h = (omega arith, omega arith)

-- ---- the table

-- an entry has two octets
pub table_length : (ns : List ℕ) → length (given big16 ns) ≡ 2 * length ns
unfolding given
table_length [] = refl
table_length (n ∷ ns) = omega (arith, table_length ns)

-- a table of entries says their pages' lengths
pub table_says : (ns s : List ℕ) → lengths_in version_1 (length ns) (given big16 ns ++ s) ≡ ns
unfolding lengths_in given
table_says [] s = refl
table_says (n ∷ ns) s = ap₂ ◌∷◌ (said n) (table_says ns s)

-- what a table says, written again, is the table
pub table_again : (n : ℕ) (s : List ℕ) → Octets s → 2 * n ≤ length s → given big16 (lengths_in version_1 n s) ≡ take (2 * n) s
unfolding lengths_in given
table_again zero s o h = refl
table_again (suc n) [] o h = absurd (omega arith)
table_again (suc n) (a ∷ []) o h = absurd (omega arith)
table_again (suc n) (a ∷ b ∷ s) o h =
    let e = saying a b (o 1) in
    let k : 2 * suc n ≡ suc (suc (2 * n)) = omega arith in
    let i = table_again n s (λ j. o (suc (suc j))) (omega arith) in
    ap₂ (λ (x : ℕ) (l : List ℕ). x ∷ ((0x100 * a + b) % 0x100) ∷ l) e.0 i
    ∙ ap (λ (x : ℕ). a ∷ x ∷ take (2 * n) s) e.1
    ∙ ap (λ (m : ℕ). take m (a ∷ b ∷ s)) (sym k)

pub lengths_count : (n : ℕ) (s : List ℕ) → length (lengths_in version_1 n s) ≡ n
unfolding lengths_in
lengths_count zero s = refl
lengths_count (suc n) s = ap suc (lengths_count n (drop 2 s))

-- ---- the pages

-- pages that stand one behind the other are cut out again
pub cut_joined : (pages : List (List ℕ)) → cut (sizes pages) (joined pages) ≡ pages
unfolding cut given
cut_joined [] = refl
cut_joined (page ∷ pages) =
    ap₂ ◌∷◌ (take-append_seam page (joined pages)) (ap (cut (sizes pages)) (drop-append_seam page (joined pages)) ∙ cut_joined pages)

pub joined_length : (pages : List (List ℕ)) → length (joined pages) ≡ total (sizes pages)
unfolding given total
joined_length [] = refl
joined_length (page ∷ pages) = omega (arith, length-append page (joined pages), joined_length pages)

-- pages that are cut out stand one behind the other, and have the lengths
pub joined_cut : (ns s : List ℕ) → total ns ≡ length s → joined (cut ns s) ≡ s
unfolding cut given total
joined_cut [] [] h = refl
joined_cut [] (a ∷ s) h = absurd (omega arith)
joined_cut (n ∷ ns) s h =
    ap (λ (l : List ℕ). take n s ++ l) (joined_cut ns (drop n s) (omega (arith, length-drop n s))) ∙ take-append-drop n s

pub sizes_cut : (ns s : List ℕ) → total ns ≤ length s → sizes (cut ns s) ≡ ns
unfolding cut total
sizes_cut [] s h = refl
sizes_cut (n ∷ ns) s h =
    ap₂ ◌∷◌ (length-take-le n s (omega arith)) (sizes_cut ns (drop n s) (omega (arith, length-drop n s)))

pub cut_count : (ns s : List ℕ) → length (cut ns s) ≡ length ns
unfolding cut
cut_count [] s = refl
cut_count (n ∷ ns) s = ap suc (cut_count ns (drop n s))

entries_are : (pages : List (List ℕ)) → given (λ (page : List ℕ). big16 (length page)) pages ≡ given big16 (sizes pages)
unfolding given
entries_are [] = refl
entries_are (page ∷ pages) = ap (λ (l : List ℕ). big16 (length page) ++ l) (entries_are pages)

-- a case of pages is the case of their lengths and octets
pub case_parts : (form : ℕ) (pages : List (List ℕ)) → case_of form pages ≡ case_with form (sizes pages) (joined pages)
case_parts form pages =
    ap₂ (λ (n : ℕ) (l : List ℕ). header 1 form n ++ (l ++ joined pages)) (sym (length-map pages length)) (entries_are pages)

pub parts_case : (form : ℕ) (lengths octets : List ℕ) → total lengths ≡ length octets
    → case_with form lengths octets ≡ case_of form (cut lengths octets)
parts_case form lengths octets h =
    sym (case_parts form (cut lengths octets)
    ∙ ap₂ (case_with form) (sizes_cut lengths octets (omega arith)) (joined_cut lengths octets h))

-- what a page is without its form
octets_of_lem : (form : ℕ) (pages : List (List ℕ)) → map (λ (page : ℕ × List ℕ). page.1) (of_form form pages) ≡ pages
octets_of_lem form [] = refl
octets_of_lem form (page ∷ pages) = ap (λ (l : List (List ℕ)). page ∷ l) (octets_of_lem form pages)

pub joined_pages : (form : ℕ) (pages : List (List ℕ)) → given (λ (page : ℕ × List ℕ). page.1) (of_form form pages) ≡ joined pages
unfolding given
joined_pages form [] = refl
joined_pages form (page ∷ pages) = ap (λ (l : List ℕ). page ++ l) (joined_pages form pages)

-- ---- a case that is laid out so is right, and says its parts

module _ (form : ℕ) (lengths octets : List ℕ) (i : IsForm form) (few : length lengths ≤ 0x100) (sum : total lengths ≡ length octets) where
  abbrev whole : List ℕ
  whole = case_with form lengths octets

  count_said : page_count (header_part whole) ≡ length lengths
  count_said = said (length lengths)

  lengths_said : lengths_in version_1 (page_count (header_part whole)) (table_part version_1 whole) ≡ lengths
  lengths_said =
      lengths_take version_1 (page_count (header_part whole)) (behind_header whole)
      ∙ ap (λ (k : ℕ). lengths_in version_1 k (behind_header whole)) count_said
      ∙ table_says lengths octets

  whole_size : length whole ≡ size_said version_1 (header_part whole) (table_part version_1 whole)
  whole_size =
      omega (arith, length-append (given big16 lengths) octets, table_length lengths, count_said, ap total lengths_said)

  whole_sound : Sound whole
  whole_sound =
      record {
        before =
            record {
              before = record { before = record { eight = omega (arith, whole_size); marked = refl }; version = refl };
              form = i;
            };
        few = omega (arith, count_said);
        size_is_said = whole_size;
      }

  -- header and table say the form and how many pages
  pub header_says : header_of whole ≡ says form (length lengths)
  header_says = (sound_exactly whole form (length lengths)).1 (whole_sound, refl, count_said)

  -- the table says the lengths
  pub lengths_are : lengths_of whole ≡ lengths
  unfolding lengths_of
  lengths_are = lengths_said

  -- the pages are those that the lengths cut from the octets
  pub pages_said : pages_of whole ≡ of_form form (cut lengths octets)
  pages_said =
      pages_cut (right_header whole form (length lengths) header_says)
      ∙ ap₂ (λ (ns s : List ℕ). of_form form (cut ns s)) (table_says lengths octets)
      (drop_at (header 1 form (length lengths) ++ given big16 lengths) octets (8 + 2 * length lengths)
      (omega (arith, table_length lengths)))

-- ---- a case that is right is laid out so

octets_drop : (k : ℕ) (s : List ℕ) → Octets s → Octets (drop k s)
octets_drop k s o i = subst (λ (n : ℕ). n < 0x100) (sym (get_or-drop k s i 0)) (o (k + i))

-- the eight octets of a right header
header_octets : (case : List ℕ) (form pages : ℕ) → Octets case → Right case form pages → take 8 case ≡ header 1 form pages
header_octets [] form pages o r = absurd (omega (arith, r.sound.before.before.before.eight))
header_octets (a ∷ []) form pages o r = absurd (omega (arith, r.sound.before.before.before.eight))
header_octets (a ∷ b ∷ []) form pages o r = absurd (omega (arith, r.sound.before.before.before.eight))
header_octets (a ∷ b ∷ c ∷ []) form pages o r = absurd (omega (arith, r.sound.before.before.before.eight))
header_octets (a ∷ b ∷ c ∷ d ∷ []) form pages o r = absurd (omega (arith, r.sound.before.before.before.eight))
header_octets (a ∷ b ∷ c ∷ d ∷ e ∷ []) form pages o r = absurd (omega (arith, r.sound.before.before.before.eight))
header_octets (a ∷ b ∷ c ∷ d ∷ e ∷ g ∷ []) form pages o r = absurd (omega (arith, r.sound.before.before.before.eight))
header_octets (a ∷ b ∷ c ∷ d ∷ e ∷ g ∷ h ∷ []) form pages o r = absurd (omega (arith, r.sound.before.before.before.eight))
header_octets (a ∷ b ∷ c ∷ d ∷ e ∷ g ∷ h ∷ i ∷ s) form pages o r =
    let m : a ∷ b ∷ c ∷ [] ≡ mark = r.sound.before.before.before.marked in
    let ea : a ≡ 0x54 = cc in
    let eb : b ≡ 0x4C = cc in
    let ec : c ≡ 0x58 = cc in
    let v : 0x100 * d + e ≡ 1 = r.sound.before.before.version in
    let n : pages ≡ 0x100 * h + i = sym r.page_count_is in
    let ed : d ≡ 0 = omega arith in
    let ee : e ≡ 1 = omega arith in
    let eg : g ≡ form = r.form_octet_is in
    let k = saying h i (o 7) in
    let eh : h ≡ pages / 0x100 = sym (ap (λ (x : ℕ). x / 0x100) n ∙ k.0) in
    let ei : i ≡ pages % 0x100 = sym (ap (λ (x : ℕ). x % 0x100) n ∙ k.1) in
    cc

-- a right case is the case of the parts that it says
said_parts : (case : List ℕ) (form pages : ℕ) → Octets case → Right case form pages
    → case ≡ case_with form (lengths_in version_1 pages (behind_header case)) (drop (8 + 2 * pages) case)
said_parts case form pages o r =
    let t = table_again pages (behind_header case) (octets_drop 8 case o) (omega (arith, r.size, length-drop 8 case)) in
    sym (take-append-drop 8 case)
    ∙ ap₂ ◌++◌ (header_octets case form pages o r ∙ ap (header 1 form) (sym (lengths_count pages (behind_header case))))
    (sym (take-append-drop (2 * pages) (behind_header case)) ∙ ap₂ ◌++◌ (sym t) (drop-drop (2 * pages) 8 case))

said_size : (case : List ℕ) (form pages : ℕ) → Right case form pages
    → total (lengths_in version_1 pages (behind_header case)) ≡ length (drop (8 + 2 * pages) case)
said_size case form pages r = omega (arith, r.size, length-drop (8 + 2 * pages) case)

-- a page that a table cuts out has at most 65,535 octets
short_by : (n : ℕ) (s t : List ℕ) → Octets s → (page : List ℕ) → Memᴰ page (cut (lengths_in version_1 n s) t) → length page ≤ 0xFFFF
unfolding lengths_in cut
short_by zero s t o page m = absurd (Memᴰ.not-nil m)
short_by (suc n) s t o page (Memᴰ.head p) =
    let a : get_or (take 2 s) 0 0 < 0x100 = subst (λ (k : ℕ). k < 0x100) (sym (get_or-take 2 s 0 0 (lit< tt))) (o 0) in
    let b : get_or (take 2 s) 1 0 < 0x100 = subst (λ (k : ℕ). k < 0x100) (sym (get_or-take 2 s 1 0 (lit< tt))) (o 1) in
    omega (arith, ap length p, length-take (0x100 * get_or (take 2 s) 0 0 + get_or (take 2 s) 1 0) t)
short_by (suc n) s t o page (Memᴰ.tail m) = short_by n (drop 2 s) _ (octets_drop 2 s o) page m

laid_out : (case : List ℕ) (form pages : ℕ) → Octets case → Right case form pages
    → CaseOf case form (cut (lengths_in version_1 pages (behind_header case)) (drop (8 + 2 * pages) case))
laid_out case form pages o r =
    let lengths = lengths_in version_1 pages (behind_header case) in
    let octets = drop (8 + 2 * pages) case in
    record {
      is_form = found_is form r.the_form r.is_form;
      few = omega (arith, r.few, cut_count lengths octets, lengths_count pages (behind_header case));
      short = short_by pages (behind_header case) octets (octets_drop 8 case o);
      is = said_parts case form pages o r ∙ parts_case form lengths octets (said_size case form pages r);
    }

-- ---- the case of pages

module _ (case : List ℕ) (form : ℕ) (pages : List (List ℕ)) (laid : CaseOf case form pages) where
  its_few : length (sizes pages) ≤ 0x100
  its_few = omega (arith, length-map pages length, laid.few)

  its_parts : case ≡ case_with form (sizes pages) (joined pages)
  its_parts = laid.is ∙ case_parts form pages

  -- a case is read as its parts: the form, how many pages, and each page, which is of that form
  pub case_header : header_of case ≡ says form (length pages)
  case_header =
      ap header_of its_parts
      ∙ header_says form (sizes pages) (joined pages) laid.is_form its_few (sym (joined_length pages))
      ∙ ap (says form) (length-map pages length)

  pub case_pages : pages_of case ≡ of_form form pages
  case_pages =
      ap pages_of its_parts
      ∙ pages_said form (sizes pages) (joined pages) laid.is_form its_few (sym (joined_length pages))
      ∙ ap (of_form form) (cut_joined pages)

-- Header and table are right exactly when the octets are the case of a form and pages.
pub laid_exactly : (case : List ℕ) → Octets case → (form n : ℕ)
    → (header_of case ≡ says form n) ↔ ((pages : List (List ℕ)) × (length pages ≡ n) × CaseOf case form pages)
laid_exactly case o form n = (forth, λ c. case_header case form c.0 c.2 ∙ ap (says form) c.1)
  where
    forth : header_of case ≡ says form n → (pages : List (List ℕ)) × (length pages ≡ n) × CaseOf case form pages
    forth q =
        let lengths = lengths_in version_1 n (behind_header case) in
        let octets = drop (8 + 2 * n) case in (
          cut lengths octets,
          cut_count lengths octets ∙ lengths_count n (behind_header case),
          laid_out case form n o (right_header case form n q),
        )

-- pages are told by their octets
same_pages : (form form' : ℕ) (pages pages' : List (List ℕ)) → of_form form pages ≡ of_form form' pages' → pages ≡ pages'
same_pages form form' pages pages' e =
    sym (octets_of_lem form pages) ∙ ap (map (λ (page : ℕ × List ℕ). page.1)) e ∙ octets_of_lem form' pages'

-- They are so of one list of pages.
pub one_case : (case : List ℕ) (form form' : ℕ) (pages pages' : List (List ℕ)) → CaseOf case form pages → CaseOf case form' pages'
    → (form ≡ form') × (pages ≡ pages')
one_case case form form' pages pages' a b =
    let q = sym (case_header case form pages a) ∙ case_header case form' pages' b in
    (cc, same_pages form form' pages pages' (sym (case_pages case form pages a) ∙ case_pages case form' pages' b))
