-- The table of the supplementary set is the definition's list of cells: looked up by its octet, and, by pages, by its character.
-- Assumes nothing.
use Prim.Native.Nat.{ℕ, ◌-◌, ◌/◌, ◌%◌, ◌≤◌, ◌<◌}
use mathlib.Core.Path.{◌≡◌, refl, sym, ap, ◌∙◌}
use mathlib.Core.Bool.{true}
use mathlib.Core.List.{List, [], ◌∷◌}
use native.Mathlib.Omega.{arith}
use lib.Dec.{eqb}
use lib.ListN.{get_or}
use borrow.Author.Tests.{eq-eqb, ne_eqb}
use Rattle.run.specs.Choice.{pick}
use Rattle.run.proofs.Range.{within, Rest, single}
use Rattle.run.proofs.Search.{found_alike}
use Rattle.std.specs.Prelude.{Option, Some, None}
use Rattle.sorts.specs.declared.Sort.TheVariants.{Refused}
use Rattle.sorts.specs.Cells.{meaning, octet_in, number}
use Rattle.sorts.specs.Tables.{supplementary}
use Rattle.sorts.specs.Sorts.{entry, upper_at, spacing_of, page_of, spacing_page}
use Rattle.sorts.proofs.Tests.{Alike}
use Rattle.sorts.proofs.Lookups.{is_octet}
use Rattle.sorts.proofs.TablePages.{in_page, empty_page}

-- ---- from an octet to its character

pub below : (o : ℕ) → o < 0xA0 → Refused 1 ≡ spacing_of o
unfolding spacing_of
below o h = within (λ i. Refused 1) spacing_of 0 0xA0 refl o (omega arith) h

pub above : (o : ℕ) → 0xA0 ≤ o → o < 0x100 → entry (upper_at (o - 0xA0)) ≡ spacing_of o
unfolding spacing_of upper_at
above = within (λ i. entry (upper_at (i - 0xA0))) spacing_of 0xA0 0x100 refl

-- ---- from a character to its octet

-- the pages of `spacing_page`, from its last arm
abbrev pub spacing_pages : List (List ℕ)
spacing_pages =
    (0x133 ∷ []) ∷ (0x10C ∷ []) ∷ (0x10A ∷ []) ∷ (0x109 ∷ []) ∷ (0x100 ∷ []) ∷ (0x00B ∷ []) ∷ (0x00A ∷ []) ∷ (0x009 ∷ []) ∷ (0x008 ∷ []) ∷
    (0x007 ∷ []) ∷ (0x006 ∷ []) ∷ (0x005 ∷ []) ∷ []

-- the test: each supplementary character is in one of them
pages_test : Alike (λ cell. single spacing_pages (meaning cell / 32)) (λ cell. true) supplementary
unfolding supplementary
pages_test = refl

pub no_spacing_page : (page : ℕ) → Rest spacing_pages page → page_of (λ c. 0) page ≡ spacing_page page
unfolding spacing_page
no_spacing_page = empty_page meaning is_octet None number supplementary spacing_pages pages_test refl

-- what `find_spacing` makes of an entry
abbrev as_octet : ℕ → Option ℕ
as_octet x = pick (eqb x 0) None (Some x)

-- the test: each octet is what is made of its number
octet_test : Alike (λ cell. as_octet (number (is_octet cell))) is_octet supplementary
unfolding supplementary
octet_test = refl

-- what each way out of `find_spacing` rests on: `page` is what `spacing_page` gave
module _ (c : ℕ) (page : List ℕ) (ep : page ≡ spacing_page (c / 32)) where
  here : as_octet (get_or page (c % 32) 0) ≡ octet_in supplementary c
  unfolding spacing_page
  here =
      ap as_octet (ap (λ (l : List ℕ). get_or l (c % 32) 0) ep ∙ in_page (λ k. number (octet_in supplementary k)) c)
      ∙ found_alike meaning is_octet None (λ x. as_octet (number x)) (λ x. x) supplementary refl octet_test c

  pub no_spacing : get_or page (c % 32) 0 ≡ 0 → None ≡ octet_in supplementary c
  no_spacing e = sym (sym here ∙ simp (eq-eqb (get_or page (c % 32) 0) 0 e))

  pub spacing_there : (get_or page (c % 32) 0 ≡ 0 → ⊥) → Some (get_or page (c % 32) 0) ≡ octet_in supplementary c
  spacing_there n = sym (sym here ∙ simp (ne_eqb (get_or page (c % 32) 0) 0 n))
