-- Two functions that agree at each number of a range, or at each of some single numbers, by one test that antt computes: their values are
-- listed, and the lists are one. The ranges and single numbers are in the words of the tests that a `match` on numbers is lowered to.
-- Assumes nothing.
use mathlib.Core.Path.{◌≡◌, ◌∙◌, subst, sym}
use mathlib.Core.List.{List, [], ◌∷◌, map}
use mathlib.Core.Bool.{Bool, true, false, ◌||◌}
use mathlib.Core.Logic.{inl, inr, ⊎_elim}
use Prim.Native.Nat.{ℕ, zero, suc, ◌+◌, ◌-◌, ◌≤◌, ◌<◌}
use native.Mathlib.Nat.{add-zero, suc-add, add-suc, le_of_suc-le-suc, not-suc-le-zero, add-sub_of_le, sub-zero}
use native.Mathlib.Omega.{arith}
use lib.Dec.{T}
use mir.Val.{has_key}
use mir.Facts.{or_yes}
use types.Run.{OneOf, hit}
use Rattle.run.specs.Choice.{pick}
use Rattle.run.proofs.Members.{same_first, same_rest}

-- the single numbers of a match's arms, from the last arm that has some to the first: k is none of them (what `c.match.rest` says)
abbrev pub Rest : List (List ℕ) → ℕ → Type 0
Rest [] k = Unit {0}
Rest (ks ∷ kss) k = Rest kss k × (OneOf ks k → ⊥)

-- the test of it
abbrev pub single : List (List ℕ) → ℕ → Bool
single [] k = false
single (ks ∷ kss) k = has_key ks k || single kss k

pub none_single : (kss : List (List ℕ)) (k : ℕ) → Rest kss k → T (single kss k) → ⊥
none_single [] k n t = t
none_single (ks ∷ kss) k n t = ⊎_elim (λ h. n.1 (hit ks k h)) (λ h. none_single kss k n.0 h) (or_yes (has_key ks k) (single kss k) t)

not_picked : {A : Type 0} (t : Bool) (a b : A) → (T t → ⊥) → pick t b a ≡ b → a ≡ b
not_picked true a b n e = absurd (n tt)
not_picked false a b n e = e

module _ {A : Type 0} where
  -- the n values of f from lo on
  abbrev pub listed : (ℕ → A) → ℕ → ℕ → List A
  listed f lo zero = []
  listed f lo (suc n) = f lo ∷ listed f (suc lo) n

  from : (f g : ℕ → A) (lo n : ℕ) → listed f lo n ≡ listed g lo n → (k : ℕ) → k < n → f (lo + k) ≡ g (lo + k)
  from f g lo zero e k h = absurd (not-suc-le-zero h)
  from f g lo (suc n) e zero h = subst (λ (m : ℕ). f m ≡ g m) (sym (add-zero lo)) (same_first e)
  from f g lo (suc n) e (suc k) h =
      subst (λ (m : ℕ). f m ≡ g m) (suc-add lo k ∙ sym (add-suc lo k)) (from f g (suc lo) n (same_rest e) k (le_of_suc-le-suc h))

  -- f and g agree from lo up to end
  pub within : (f g : ℕ → A) (lo end : ℕ) → listed f lo (end - lo) ≡ listed g lo (end - lo) → (k : ℕ) → lo ≤ k → k < end → f k ≡ g k
  within f g lo end e k l h =
      subst (λ (m : ℕ). f m ≡ g m) (add-sub_of_le l) (from f g lo (end - lo) e (k - lo) (omega arith))

  -- f and g agree from lo up to end but at the single numbers of the match's arms
  pub without : (f g : ℕ → A) (kss : List (List ℕ)) (lo end : ℕ)
      → listed (λ k. pick (single kss k) (g k) (f k)) lo (end - lo) ≡ listed g lo (end - lo) → (k : ℕ) → Rest kss k → lo ≤ k → k < end
      → f k ≡ g k
  without f g kss lo end e k n l h =
      not_picked (single kss k) (f k) (g k) (none_single kss k n) (within (λ i. pick (single kss i) (g i) (f i)) g lo end e k l h)

  -- f and g agree at an arm's single numbers
  pub at_keys : (f g : ℕ → A) (ks : List ℕ) → map f ks ≡ map g ks → (k : ℕ) → OneOf ks k → f k ≡ g k
  at_keys f g [] e k h = absurd h
  at_keys f g (x ∷ []) e k h = subst (λ (m : ℕ). f m ≡ g m) (sym h) (same_first e)
  at_keys f g (x ∷ (y ∷ ks)) e k (inl h) = subst (λ (m : ℕ). f m ≡ g m) (sym h) (same_first e)
  at_keys f g (x ∷ (y ∷ ks)) e k (inr h) = at_keys f g (y ∷ ks) (same_rest e) k h

-- two functions of two numbers agree at all pairs below a and b
pub within² : {A : Type 0} (f g : ℕ → ℕ → A) (a b : ℕ) → listed (λ i. listed (f i) 0 b) 0 a ≡ listed (λ i. listed (g i) 0 b) 0 a → (i j : ℕ)
    → i < a → j < b → f i j ≡ g i j
within² f g a b e i j hi hj =
    within (f i) (g i) 0 b (rw sub-zero (within (λ k. listed (f k) 0 b) (λ k. listed (g k) 0 b) 0 a (rw sub-zero e) i (omega arith) hi)) j
    (omega arith) hj
