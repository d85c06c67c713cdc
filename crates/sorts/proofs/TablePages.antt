-- A table by pages of 32 entries: a number's entry is in its page, and a page that a `match` has no arm for has no entry.
-- Assumes nothing.
use Prim.Native.Nat.{ℕ, zero, suc, ◌+◌, ◌*◌, ◌/◌, ◌%◌, ◌<◌}
use mathlib.Core.Path.{◌≡◌, refl, sym, ap, ap₂, subst, ◌∙◌}
use mathlib.Core.List.{List, ◌∷◌, map}
use mathlib.Core.Bool.{true}
use native.Mathlib.Nat.{add-zero, add-suc, suc-add, le_of_suc-le-suc, not-suc-le-zero}
use native.Mathlib.Omega.{arith}
use lib.ListN.{get_or}
use Rattle.run.specs.Choice.{first_by}
use Rattle.run.proofs.Range.{Rest, single, none_single}
use Rattle.run.proofs.Search.{unmet}
use Rattle.sorts.specs.Tables.{consecutive}
use Rattle.sorts.specs.Sorts.{page_of}
use Rattle.sorts.proofs.Tests.{Alike}

-- ---- the values of a function, listed

-- the entry at a place
pub at_consecutive : (g : ℕ → ℕ) (a n k : ℕ) → k < n → get_or (map g (consecutive a n)) k 0 ≡ g (a + k)
at_consecutive g a zero k h = absurd (not-suc-le-zero h)
at_consecutive g a (suc n) zero h = ap g (sym (add-zero a))
at_consecutive g a (suc n) (suc k) h = at_consecutive g (suc a) n k (le_of_suc-le-suc h) ∙ ap g (suc-add a k ∙ sym (add-suc a k))

-- two functions that agree at each place
alike : (f g : ℕ → ℕ) (a n : ℕ) → ((k : ℕ) → k < n → f (a + k) ≡ g (a + k)) → map f (consecutive a n) ≡ map g (consecutive a n)
alike f g a zero e = refl
alike f g a (suc n) e =
    let first : f a ≡ g a = subst (λ (m : ℕ). f m ≡ g m) (add-zero a) (e 0 (omega arith)) in
    let rest = alike f g (suc a) n (λ k h. subst (λ (m : ℕ). f m ≡ g m) (add-suc a k ∙ sym (suc-add a k)) (e (suc k) (omega arith))) in
    ap₂ (λ (x : ℕ) (l : List ℕ). x ∷ l) first rest

-- ---- pages

-- a number's entry, in its page
pub in_page : (f : ℕ → ℕ) (c : ℕ) → get_or (page_of f (c / 32)) (c % 32) 0 ≡ f c
in_page f c =
    let whole : c / 32 * 32 + c % 32 ≡ c = omega arith in
    at_consecutive f (c / 32 * 32) 32 (c % 32) (omega arith) ∙ ap f whole

-- A look-up by key that is kept as pages: `pages` are those of a match's arms, `kept` the test that each key of the list lies in one of
-- them. Any other page has zeros alone.
module _ {A B : Type 0} (key : A → ℕ) (gives : A → B) (missing : B) (number : B → ℕ) (l : List A) (pages : List (List ℕ))
    (kept : Alike (λ a. single pages (key a / 32)) (λ a. true) l) (zero-missing : number missing ≡ 0) where
  pub empty_page : (page : ℕ) → Rest pages page → page_of (λ c. 0) page ≡ page_of (λ c. number (first_by key gives missing l c)) page
  empty_page page none =
      alike (λ c. 0) (λ c. number (first_by key gives missing l c)) (page * 32) 32 (λ k h. sym (at_none (page * 32 + k) (omega arith)))
    where
      at_none : (c : ℕ) → c / 32 ≡ page → number (first_by key gives missing l c) ≡ 0
      at_none c e =
          let nowhere = none_single pages (c / 32) (subst (Rest pages) (sym e) none) in
          ap number (unmet key gives missing (λ k. single pages (k / 32)) l kept c nowhere) ∙ zero-missing
