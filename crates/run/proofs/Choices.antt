-- A choice by a test, taken apart; a test of membership, as membership.
-- Assumes nothing.
use Prim.Native.Nat.{ℕ, ◌≤◌}
use mathlib.Core.Path.{◌≡◌, refl, sym, ap₂}
use mathlib.Core.List.{List, [], ◌∷◌, Memᴰ}
use mathlib.Core.Bool.{Bool, true, false}
use native.Mathlib.Omega.{arith}
use lib.Dec.{eqb, leb}
use borrow.Author.Tests.{eqb-true, eq-eqb, leb-true}
use Rattle.run.specs.Choice.{pick, within, one_of, same_octets}

-- what holds of both branches, each under its test, holds of the choice
pub pick_case : {A : Type 0} (P : A → Type 0) (t : Bool) (x y : A) → (t ≡ true → P x) → (t ≡ false → P y) → P (pick t x y)
pick_case P true x y f g = f refl
pick_case P false x y f g = g refl

-- two tests, one after the other, both hold
pub both_true : (t u : Bool) → pick t u false ≡ true → (t ≡ true) × (u ≡ true)
both_true true u h = (refl, h)
both_true false u h = let z : ◌≡◌ {A = ℕ} 0 1 = cc in absurd (omega arith)

-- and back
pub true_both : (t u : Bool) → t ≡ true → u ≡ true → pick t u false ≡ true
true_both t u p q = rw (p, q)

-- a test that does not hold fails
pub is_false : (t : Bool) → (t ≡ true → ⊥) → t ≡ false
is_false true n = absurd (n refl)
is_false false n = refl

-- two tests that hold of the same are the same
pub alike_tests : (a b : Bool) → (a ≡ true → b ≡ true) → (b ≡ true → a ≡ true) → a ≡ b
alike_tests true b h k = sym (h refl)
alike_tests false true h k = k refl
alike_tests false false h k = refl

-- a test that two lists of octets are the same says so, and holds of each with itself
pub same_octets_are : (s t : List ℕ) → same_octets s t ≡ true → s ≡ t
same_octets_are [] [] e = refl
same_octets_are [] (u ∷ t) e = let z : ◌≡◌ {A = ℕ} 0 1 = cc in absurd (omega arith)
same_octets_are (o ∷ s) [] e = let z : ◌≡◌ {A = ℕ} 0 1 = cc in absurd (omega arith)
same_octets_are (o ∷ s) (u ∷ t) e =
    let b = both_true (eqb o u) (same_octets s t) e in ap₂ ◌∷◌ (eqb-true o u b.0) (same_octets_are s t b.1)

pub are_same_octets : (s : List ℕ) → same_octets s s ≡ true
are_same_octets [] = refl
are_same_octets (o ∷ s) = true_both (eqb o o) (same_octets s s) (eq-eqb o o refl) (are_same_octets s)

-- a number that passes the test of a range is in it
pub within_range : (lo hi n : ℕ) → within lo hi n ≡ true → (lo ≤ n) × (n ≤ hi)
within_range lo hi n e =
    let h = both_true (leb lo n) (leb n hi) e in
    (leb-true lo n h.0, leb-true n hi h.1)

-- a number that passes the test of a list is a member of it
pub one_of_lem : (ks : List ℕ) (n : ℕ) → one_of ks n ≡ true → Memᴰ n ks
one_of_lem [] n h = let z : ◌≡◌ {A = ℕ} 0 1 = cc in absurd (omega arith)
one_of_lem (k ∷ ks) n h = go (eqb k n) refl h (one_of_lem ks n)
  where
    go : (t : Bool) → eqb k n ≡ t → pick t true (one_of ks n) ≡ true → (one_of ks n ≡ true → Memᴰ n ks) → Memᴰ n (k ∷ ks)
    go true e q ih = Memᴰ.head (sym (eqb-true k n e))
    go false e q ih = Memᴰ.tail (ih q)
