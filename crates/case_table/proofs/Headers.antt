-- The laws of a header: each way out of what is asked of it.
-- Assumes nothing.
use Prim.Native.Nat.{ℕ, ◌+◌, ◌*◌, ◌≤◌, ◌<◌}
use mathlib.Core.Path.{◌≡◌, refl, sym, ap, ◌∙◌}
use mathlib.Core.Bool.{Bool, true, false, ◌&&◌}
use mathlib.Core.List.{List, [], ◌∷◌}
use native.Mathlib.Omega.{arith}
use lib.Dec.{eqb, leb}
use lib.ListN.{length, take, drop}
use lib.Pointwise.{pointwise}
use borrow.Author.Tests.{eq-eqb, ne_eqb, le-leb, lt-leb}
use Rattle.std.proofs.Common.{Err}
use Rattle.run.specs.Choice.{pick}
use Rattle.sorts.specs.declared.Form.{Form}
use Rattle.std.specs.Prelude.{Some, None}
use Rattle.sorts.specs.Forms.{form_of}
use Rattle.case_table.specs.declared.HeaderFault.TheVariants.{NoCase, OtherVersion, NoForm, WrongSize}
use Rattle.case_table.specs.Layout.{Layout, version_1, mark, version_of, form_octet, page_count, lengths_in, total}
use Rattle.case_table.specs.Check.{says, begins, total_in, header_in, header_of}
use Rattle.case_table.specs.Grammar.{size_said}
use Rattle.case_table.proofs.Lengths.{lengths_take, total_few}

-- ---- the mark

-- the library's test of a front
pub front_begins : (m s : List ℕ) → pointwise eqb m (take (length m) s) ≡ begins m s
unfolding begins
front_begins [] s = refl
front_begins (m ∷ ms) [] = refl
front_begins (m ∷ ms) (o ∷ s) = by (eqb m o) (front_begins ms s)
  where
    by : (t : Bool) {a b : Bool} → a ≡ b → (t && a) ≡ pick t b false
    by true e = e
    by false e = refl

-- ---- what is answered

-- the header is marked
pub record Begun (header : List ℕ) (size : ℕ) : Type 0 where
  pub eight : 8 ≤ size
  pub marked : begins mark header ≡ true

-- and of the version, and of a form
pub record Known (layout : Layout) (header : List ℕ) (size : ℕ) : Type 0 where
  pub begun : Begun header size
  pub version : version_of header ≡ layout.version
  pub the_form : Form
  pub is_form : form_of (form_octet header) ≡ Some the_form

module _ (layout : Layout) (header table : List ℕ) (size : ℕ) where
  pub short : size < 8 → Err NoCase ≡ header_in layout header table size
  unfolding header_in
  short h = sym (simp (lt-leb 8 size h))

  pub unmarked : 8 ≤ size → begins mark header ≡ false → Err NoCase ≡ header_in layout header table size
  unfolding header_in
  unmarked h m = sym (simp (le-leb 8 size h, m))

  pub other_version : Begun header size → (version_of header ≡ layout.version → ⊥) → Err OtherVersion ≡ header_in layout header table size
  unfolding header_in
  other_version b n =
      sym (simp (le-leb 8 size b.eight, b.marked, ne_eqb (version_of header) layout.version n))

  pub no_form : Begun header size → version_of header ≡ layout.version → form_of (form_octet header) ≡ None
      → Err NoForm ≡ header_in layout header table size
  unfolding header_in
  no_form b v q =
      sym (simp (le-leb 8 size b.eight, b.marked, eq-eqb (version_of header) layout.version v, q))

  module _ (k : Known layout header size) where
    -- what is left to ask then
    by_pages : header_in layout header table size ≡ pick (leb (page_count header) 0x100)
        (pick (eqb size (size_said layout header table)) (says (form_octet header) (page_count header)) (Err WrongSize)) (Err WrongSize)
    unfolding header_in
    by_pages =
        simp (le-leb 8 size k.begun.eight, k.begun.marked, eq-eqb (version_of header) layout.version k.version, k.is_form)

    pub many : 0x100 < page_count header → Err WrongSize ≡ header_in layout header table size
    many h = sym (by_pages ∙ simp (lt-leb (page_count header) 0x100 h))

    pub wrong_size : page_count header ≤ 0x100 → (size ≡ size_said layout header table → ⊥) → Err WrongSize ≡ header_in layout header table size
    wrong_size h n = sym (by_pages ∙ simp (le-leb (page_count header) 0x100 h, ne_eqb size _ n))

    pub right : page_count header ≤ 0x100 → size ≡ size_said layout header table
        → says (form_octet header) (page_count header) ≡ header_in layout header table size
    right h e = sym (by_pages ∙ simp (le-leb (page_count header) 0x100 h, eq-eqb size _ e))

-- ---- a whole case

-- the table may be lent with what stands behind it
pub header_parts : (case : List ℕ) → header_in version_1 (take 8 case) (drop 8 case) (length case) ≡ header_of case
unfolding header_of header_in
header_parts case =
    let front : List ℕ = take 8 case in
    let e = lengths_take version_1 (page_count front) (drop 8 case) in
    simp e

pub case_short : (case : List ℕ) → length case < 8 → Err NoCase ≡ header_of case
unfolding header_of
case_short case h = short version_1 _ _ (length case) h

-- the size that a table says, where it was added up
pub sized : (header table : List ℕ) (pages sum : ℕ) → pages ≡ page_count header → sum ≡ total_in version_1 pages table → pages ≤ 256
    → 8 + 2 * pages + sum ≡ size_said version_1 header table
sized header table pages sum p s h =
    omega (arith, p, s, total_few table pages h, ap (λ (k : ℕ). total (lengths_in version_1 k table)) p)
