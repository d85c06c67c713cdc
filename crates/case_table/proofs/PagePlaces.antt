-- Where the pages of a case stand whose header and table are right: each behind those before it, of the length that its entry says.
-- Assumes nothing.
use Prim.Native.Nat.{ℕ, ◌+◌, ◌*◌, ◌-◌, ◌≤◌, ◌<◌}
use mathlib.Core.Path.{◌≡◌, sym, ap, ap₂, ◌∙◌}
use mathlib.Core.List.{List, [], ◌∷◌}
use native.Mathlib.Numerals.{add-one}
use native.Mathlib.Omega.{arith}
use lib.ListN.{length, take, drop, get_or}
use lib.Seq.{drop-drop, drop-cons}
use Rattle.run.proofs.Puts.{behind_is}
use Rattle.sorts.specs.Forms.{form_of}
use Rattle.case_table.specs.Layout.{version_1, number16, form_octet, page_count, lengths_in, total, of_form, cut, pages_in, header_part}
use Rattle.case_table.specs.Layout.{table_part, pages_part}
use Rattle.case_table.specs.Check.{says, total_in, header_of, lengths_of, pages_of}
use Rattle.case_table.specs.PagePlaces.{behind_header, total_before, between, Right}
use Rattle.case_table.proofs.Lengths.{lengths_take, total_few, pages_cut_out, pages_count, page_at, said_behind, total_next}
use Rattle.case_table.proofs.Lengths.{total_fewer}
use Rattle.case_table.proofs.Checked.{sound_exactly}
use Rattle.sorts.proofs.FormNumbers.{is_found}

-- ---- what a right header says

-- the table may be taken with what stands behind it
table_lengths : (case : List ℕ) → lengths_of case ≡ lengths_in version_1 (page_count (header_part case)) (behind_header case)
unfolding lengths_of
table_lengths case = lengths_take version_1 (page_count (header_part case)) (behind_header case)

pub right_header : (case : List ℕ) (form pages : ℕ) → header_of case ≡ says form pages → Right case form pages
unfolding lengths_of
right_header case form pages q =
    let s = (sound_exactly case form pages).0 q in
    let f = is_found (form_octet (header_part case)) s.0.before.form in
    let n : ℕ = page_count (header_part case) in
    record {
      sound = s.0;
      form_octet_is = s.1;
      page_count_is = s.2;
      the_form = f.0;
      is_form = sym (ap form_of s.1) ∙ f.1;
      few = omega (arith, s.0.few, s.2);
      size =
          s.0.size_is_said
          ∙ ap (λ (l : List ℕ). 8 + 2 * n + total l) (table_lengths case)
          ∙ ap (λ (k : ℕ). 8 + 2 * k + total_before case k) s.2;
    }

module _ {case : List ℕ} {form pages : ℕ} (right : Right case form pages) where
  pub lengths_counted : lengths_of case ≡ lengths_in version_1 pages (behind_header case)
  lengths_counted = table_lengths case ∙ ap (λ (k : ℕ). lengths_in version_1 k (behind_header case)) right.page_count_is

  pub pages_cut : pages_of case ≡ of_form form (cut (lengths_in version_1 pages (behind_header case)) (drop (8 + 2 * pages) case))
  unfolding pages_of lengths_of
  pages_cut =
      let front : List ℕ = header_part case in
      pages_cut_out (form_octet front) (page_count front) (table_part version_1 case) (pages_part version_1 case)
      ∙ ap₂ (λ (k : ℕ) (l : List ℕ). of_form k (cut l (pages_part version_1 case))) right.form_octet_is lengths_counted
      ∙ ap (λ (k : ℕ). of_form form (cut (lengths_in version_1 pages (behind_header case)) (drop (2 * k) (behind_header case))))
      right.page_count_is
      ∙ ap (λ (l : List ℕ). of_form form (cut (lengths_in version_1 pages (behind_header case)) l)) (drop-drop (2 * pages) 8 case)

  pages_in_lem : pages_of case ≡ pages_in version_1 form pages (behind_header case) (drop (8 + 2 * pages) case)
  pages_in_lem = pages_cut ∙ sym (pages_cut_out form pages (behind_header case) (drop (8 + 2 * pages) case))

  pub pages_counted : length (pages_of case) ≡ pages
  pages_counted = ap length pages_in_lem ∙ pages_count version_1 form pages (behind_header case) (drop (8 + 2 * pages) case)

-- ---- one page, which begins at `start`

-- the lengths before a page, added up from the octets behind the header
pub summed_before : (case : List ℕ) {page sum : ℕ} → page ≤ 256 → sum ≡ total_in version_1 page (between case 8 (length case))
    → sum ≡ total_before case page
summed_before case {page} h e =
    e
    ∙ ap (total_in version_1 page) (behind_is case 8)
    ∙ total_few (behind_header case) page h

module _ {case : List ℕ} {form pages page start len : ℕ} (right : Right case form pages) (h : page < pages)
    (s : start ≡ 8 + 2 * pages + total_before case page) (e : len ≡ number16 case (8 + 2 * page)) where
  -- the next page begins where it ends
  pub start_next : start + len ≡ 8 + 2 * pages + total_before case (page + 1)
  start_next = omega (arith, s, e, total_next page (behind_header case), said_behind 8 case (2 * page))

  -- it lies in the case
  pub page_inside : start + len ≤ length case
  page_inside =
      let l : page + 1 ≤ pages = omega arith in
      omega (arith, start_next, right.size, total_fewer (page + 1) pages (behind_header case) l)

  pub page_is : (other : ℕ × List ℕ) → get_or (pages_of case) page other ≡ (form, between case start (start + len))
  page_is other =
      let b : List ℕ = drop (8 + 2 * pages) case in
      let k : number16 (behind_header case) (2 * page) ≡ start + len - start = omega (arith, e, said_behind 8 case (2 * page)) in
      ap (λ (l : List (ℕ × List ℕ)). get_or l page other) (pages_in_lem right)
      ∙ page_at form pages page (behind_header case) b other h
      ∙ ap₂ (λ (i : ℕ) (l : List ℕ). (form, take i l)) k
      (drop-drop (total_before case page) (8 + 2 * pages) case ∙ ap (λ (i : ℕ). drop i case) (sym s))

  -- it is the first of those that are left
  pub page_next : drop page (pages_of case) ≡ (form, between case start (start + len)) ∷ drop (page + 1) (pages_of case)
  page_next =
      let n = pages_counted right in
      drop-cons (pages_of case) page (0, []) (omega arith)
      ∙ ap₂ (λ (x : ℕ × List ℕ) (k : ℕ). x ∷ drop k (pages_of case)) (page_is (0, [])) (sym (add-one page))
