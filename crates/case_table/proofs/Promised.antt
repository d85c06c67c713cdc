-- The theorems of record of a case's header and table: what `header_in` and `header_of` are worth, from their promises' own words.
-- Assumes nothing.
use Prim.Native.Nat.{ℕ, ◌<◌}
use mathlib.Core.Path.{◌≡◌, refl, sym, ap, subst, ◌∙◌}
use mathlib.Core.Logic.{◌↔◌}
use mathlib.Core.List.{List}
use native.Mathlib.Omega.{arith}
use lib.Dec.{lit<}
use lib.ListN.{length}
use Rattle.run.specs.declared.Answer.{Answer}
use Rattle.case_table.specs.Layout.{Layout, version_1}
use Rattle.case_table.specs.Check.{Said, says}
use Rattle.case_table.specs.Grammar.{CaseOf, TurnedBy, SoundIn, Turned, Sound}
use Rattle.case_table.specs.HeaderNumbers.{RefusedWith, header_answer, HeaderTable}
use Rattle.case_table.specs.Promises.{HeaderInPromise, HeaderOfPromise}
use Rattle.case_table.proofs.Checked.{turned_in, sound_in, turned_exactly, sound_exactly}
use Rattle.case_table.proofs.Laid.{laid_exactly}

-- ---- the number of a row tells which it is

-- what turns a case away has a number above 10, and not 12
pub turned_number : {layout : Layout} {header table : List ℕ} {size r : ℕ} → TurnedBy layout header table size r → (10 < r) × (r ≡ 12 → ⊥)
turned_number (TurnedBy.under_8 h) = (lit< tt, λ e. omega arith)
turned_number (TurnedBy.wrong_mark h n) = (lit< tt, λ e. omega arith)
turned_number (TurnedBy.other_version w n) = (lit< tt, λ e. omega arith)
turned_number (TurnedBy.no_form w n) = (lit< tt, λ e. omega arith)
turned_number (TurnedBy.over_256 w h) = (lit< tt, λ e. omega arith)
turned_number (TurnedBy.wrong_size w h n) = (lit< tt, λ e. omega arith)

module _ {layout : Layout} {header table : List ℕ} {size : ℕ} where
  row_turned : {a : Answer} {form pages : ℕ} → HeaderTable layout header table size a form pages → (n : ℕ) → 0 < n → a.number ≡ n
      → TurnedBy layout header table size n
  row_turned (HeaderTable.refused t) n h e = subst (TurnedBy layout header table size) e t
  row_turned (HeaderTable.right s) n h e = absurd (omega arith)

  row_sound : {a : Answer} {form pages : ℕ} → HeaderTable layout header table size a form pages → a.number ≡ 0
      → SoundIn layout header table size
  row_sound (HeaderTable.refused t) e = absurd (omega (arith, (turned_number t).0))
  row_sound (HeaderTable.right s) e = s

abbrev number : Said → ℕ
number r = (header_answer r).number

with_number : {r asked : Said} {n : ℕ} → r ≡ asked → RefusedWith asked n → number r ≡ n
with_number e w = ap number (e ∙ w.1) ∙ w.2

-- ---- of header, table and size

module _ (header table : List ℕ) (size : ℕ) (r : Said) (promise : HeaderInPromise header table size r) where
  -- 13, 14, 11 and 15 are given exactly when the table and its order say so,
  pub header_in_turned : (n : ℕ) → 0 < n → ((header_answer r).number ≡ n) ↔ TurnedBy version_1 header table size n
  header_in_turned n h =
      (row_turned promise.1 n h, λ t. with_number promise.0 ((turned_in version_1 header table size n).1 t))

  -- and 0 exactly when none of them is.
  pub header_in_right : ((header_answer r).number ≡ 0) ↔ SoundIn version_1 header table size
  header_in_right =
      (row_sound promise.1, λ s. ap number (promise.0 ∙ (sound_in version_1 header table size _ _).1 (s, refl, refl)))

-- ---- of a whole case

module _ (case : List ℕ) (r : Said) (promise : HeaderOfPromise case r) where
  pub header_of_turned : (n : ℕ) → 0 < n → ((header_answer r).number ≡ n) ↔ Turned case n
  header_of_turned n h = (row_turned promise.1 n h, λ t. with_number promise.0 ((turned_exactly case n).1 t))

  pub header_of_right : ((header_answer r).number ≡ 0) ↔ Sound case
  header_of_right = (row_sound promise.1, λ s. ap number (promise.0 ∙ (sound_exactly case _ _).1 (s, refl, refl)))

  -- The form and the page count are answered exactly when the octets are the case of that form and of so many pages.
  pub header_of_laid : (form n : ℕ) → (r ≡ says form n) ↔ ((pages : List (List ℕ)) × (length pages ≡ n) × CaseOf case form pages)
  header_of_laid form n =
      let l = laid_exactly case promise.2 form n in
      (λ e. l.0 (sym promise.0 ∙ e), λ p. promise.0 ∙ l.1 p)
