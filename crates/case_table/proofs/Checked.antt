-- A case is turned away with 13, 14, 11 or 15 exactly when document 01's table and order say so: of header, table and size, and of a whole
-- case.
-- Assumes nothing.
use Prim.Native.Nat.{ℕ, ◌≤◌}
use mathlib.Core.Path.{◌≡◌, refl, sym, ap, ap₂, subst, ◌∙◌}
use mathlib.Core.Logic.{◌↔◌}
use mathlib.Core.Bool.{Bool, true, false}
use mathlib.Core.List.{List}
use native.Mathlib.Omega.{arith}
use lib.Dec.{eqb, leb}
use lib.ListN.{length, take}
use lib.Pointwise.{bytes_decides}
use borrow.Author.Tests.{eqb-true, eqb-false, leb-true, leb-false}
use Rattle.std.proofs.Common.{Err}
use Rattle.sorts.specs.declared.Form.{Form}
use Rattle.std.specs.Prelude.{Option, Some, None}
use Rattle.sorts.specs.Forms.{form_of}
use Rattle.case_table.specs.declared.HeaderFault.{HeaderFault}
use Rattle.case_table.specs.declared.HeaderFault.TheVariants.{NoCase, OtherVersion, NoForm, WrongSize}
use Rattle.case_table.specs.Layout.{Layout, version_1, mark, version_of, form_octet, page_count, header_part, table_part}
use Rattle.case_table.specs.Check.{Said, says, begins, header_in, header_of}
use Rattle.case_table.specs.HeaderNumbers.{RefusedWith, fault_number, header_answer, header_form, header_pages, HeaderTable, HeaderTableOf}
use Rattle.case_table.specs.Grammar.{Marked, Versioned, WithForm, TurnedBy, SoundIn, Turned, Sound, size_said}
use Rattle.case_table.proofs.Headers.{front_begins, Begun, Known, short, unmarked, other_version, no_form, many, wrong_size, right}
use Rattle.sorts.proofs.FormNumbers.{found_is, is_found, none_exactly}

-- ---- the mark

mark_begins : (s : List ℕ) → take 3 s ≡ mark → begins mark s ≡ true
mark_begins s e = sym (front_begins mark s) ∙ (bytes_decides mark (take 3 s)).1 (sym e)

begins_mark : (s : List ℕ) → begins mark s ≡ true → take 3 s ≡ mark
begins_mark s e = sym ((bytes_decides mark (take 3 s)).0 (front_begins mark s ∙ e))

false_true : false ≡ true → ⊥
false_true e = let z : ◌≡◌ {A = ℕ} 0 1 = cc in omega arith

no_mark : (s : List ℕ) (t : Bool) → begins mark s ≡ t → (take 3 s ≡ mark → ⊥) → t ≡ false
no_mark s true e n = absurd (n (begins_mark s e))
no_mark s false e n = refl

-- ---- which it is

data Decided (layout : Layout) (header table : List ℕ) (size : ℕ) : Said → Type 0 where
  turned : {fault : HeaderFault} → TurnedBy layout header table size (fault_number fault) → Decided layout header table size (Err fault)
  sound : SoundIn layout header table size → Decided layout header table size (says (form_octet header) (page_count header))

begun : {header : List ℕ} {size : ℕ} → Marked header size → Begun header size
begun {header} w = record { eight = w.eight; marked = mark_begins header w.marked }

known : {layout : Layout} {header : List ℕ} {size : ℕ} → WithForm layout header size → Known layout header size
known {header = header} w =
    let f = is_found (form_octet header) w.form in
    record { begun = begun w.before.before; version = w.before.version; the_form = f.0; is_form = f.1 }

module _ (layout : Layout) (header table : List ℕ) (size : ℕ) where
  abbrev asked : Said
  asked = header_in layout header table size

  abbrev Says : Said → Type 0
  Says = Decided layout header table size

  by_size : (w : WithForm layout header size) → page_count header ≤ 0x100 → (t : Bool) → eqb size (size_said layout header table) ≡ t
      → Says asked
  by_size w h true e =
      let z = eqb-true size (size_said layout header table) e in
      subst Says (right layout header table size (known w) h z) (sound (record { before = w; few = h; size_is_said = z }))
  by_size w h false e =
      let z = eqb-false size (size_said layout header table) e in
      subst Says (wrong_size layout header table size (known w) h z) (turned (TurnedBy.wrong_size w h z))

  by_pages : (w : WithForm layout header size) (t : Bool) → leb (page_count header) 0x100 ≡ t → Says asked
  by_pages w true e = by_size w (leb-true (page_count header) 0x100 e) (eqb size (size_said layout header table)) refl
  by_pages w false e =
      let z = leb-false (page_count header) 0x100 e in
      subst Says (many layout header table size (known w) z) (turned (TurnedBy.over_256 w z))

  by_form : (w : Versioned layout header size) (y : Option Form) → form_of (form_octet header) ≡ y → Says asked
  by_form w (Some f) q =
      by_pages (record { before = w; form = found_is (form_octet header) f q }) (leb (page_count header) 0x100) refl
  by_form w None q =
      subst Says (no_form layout header table size (begun w.before) w.version q)
      (turned (TurnedBy.no_form w ((none_exactly (form_octet header)).0 q)))

  by_version : (w : Marked header size) (t : Bool) → eqb (version_of header) layout.version ≡ t → Says asked
  by_version w true e =
      by_form (record { before = w; version = eqb-true (version_of header) layout.version e }) (form_of (form_octet header)) refl
  by_version w false e =
      let z = eqb-false (version_of header) layout.version e in
      subst Says (other_version layout header table size (begun w) z) (turned (TurnedBy.other_version w z))

  by_mark : 8 ≤ size → (t : Bool) → begins mark header ≡ t → Says asked
  by_mark h true e =
      by_version (record { eight = h; marked = begins_mark header e }) (eqb (version_of header) layout.version) refl
  by_mark h false e =
      subst Says (unmarked layout header table size h e) (turned (TurnedBy.wrong_mark h (λ m. false_true (sym e ∙ mark_begins header m))))

  by_eight : (t : Bool) → leb 8 size ≡ t → Says asked
  by_eight true e = by_mark (leb-true 8 size e) (begins mark header) refl
  by_eight false e = let z = leb-false 8 size e in subst Says (short layout header table size z) (turned (TurnedBy.under_8 z))

  decided : Says asked
  decided = by_eight (leb 8 size) refl

  row_of : {h : Said} → Says h → HeaderTable layout header table size (header_answer h) (header_form h) (header_pages h)
  row_of (turned t) = HeaderTable.refused t
  row_of (sound s) = HeaderTable.right s

  -- what header and table say is a row of 01's numbers
  pub row_in : {r : Said} → r ≡ header_in layout header table size
      → HeaderTable layout header table size (header_answer r) (header_form r) (header_pages r)
  row_in e = row_of (subst Says (sym e) decided)

  turned_of : {h : Said} → Says h → (r : ℕ) → RefusedWith h r → TurnedBy layout header table size r
  turned_of (turned {fault} t) r w =
      let q = w.1 in
      let i : fault ≡ w.0 = cc in
      subst (TurnedBy layout header table size) (ap fault_number i ∙ w.2) t
  turned_of (sound s) r w = let q = w.1 in let z : ◌≡◌ {A = ℕ} 0 1 = cc in absurd (omega arith)

  sound_of : {h : Said} → Says h → (form n : ℕ) → h ≡ says form n
      → SoundIn layout header table size × (form_octet header ≡ form) × (page_count header ≡ n)
  sound_of (turned t) form n q = let z : ◌≡◌ {A = ℕ} 0 1 = cc in absurd (omega arith)
  sound_of (sound s) form n q = (s, ap header_form q, ap header_pages q)

  turned_refused : {r : ℕ} → TurnedBy layout header table size r → RefusedWith asked r
  turned_refused (TurnedBy.under_8 h) = (NoCase, sym (short layout header table size h), refl)
  turned_refused (TurnedBy.wrong_mark h n) =
      (NoCase, sym (unmarked layout header table size h (no_mark header (begins mark header) refl n)), refl)
  turned_refused (TurnedBy.other_version w n) = (OtherVersion, sym (other_version layout header table size (begun w) n), refl)
  turned_refused (TurnedBy.no_form w n) =
      (NoForm, sym (no_form layout header table size (begun w.before) w.version ((none_exactly (form_octet header)).1 n)), refl)
  turned_refused (TurnedBy.over_256 w h) = (WrongSize, sym (many layout header table size (known w) h), refl)
  turned_refused (TurnedBy.wrong_size w h n) = (WrongSize, sym (wrong_size layout header table size (known w) h n), refl)

  sound_header : SoundIn layout header table size → asked ≡ says (form_octet header) (page_count header)
  sound_header s = sym (right layout header table size (known s.before) s.few s.size_is_said)

  -- 13, 14, 11 and 15 are given exactly when the table and its order say so
  pub turned_in : (r : ℕ) → RefusedWith (header_in layout header table size) r ↔ TurnedBy layout header table size r
  turned_in r = (turned_of decided r, turned_refused)

  -- and otherwise header and table are right, with the form and the count that they say
  pub sound_in : (form n : ℕ)
      → (header_in layout header table size ≡ says form n)
      ↔ (SoundIn layout header table size × (form_octet header ≡ form) × (page_count header ≡ n))
  sound_in form n = (λ q. sound_of decided form n q, λ s. sound_header s.0 ∙ ap₂ says s.1 s.2)

-- ---- a whole case

module _ (case : List ℕ) where
  pub turned_exactly : (r : ℕ) → RefusedWith (header_of case) r ↔ Turned case r
  unfolding header_of
  turned_exactly = turned_in version_1 (header_part case) (table_part version_1 case) (length case)

  pub sound_exactly : (form n : ℕ)
      → (header_of case ≡ says form n) ↔ (Sound case × (form_octet (header_part case) ≡ form) × (page_count (header_part case) ≡ n))
  unfolding header_of
  sound_exactly = sound_in version_1 (header_part case) (table_part version_1 case) (length case)

  pub row_exactly : {r : Said} → r ≡ header_of case → HeaderTableOf case (header_answer r) (header_form r) (header_pages r)
  unfolding header_of
  row_exactly e = row_in version_1 (header_part case) (table_part version_1 case) (length case) e
