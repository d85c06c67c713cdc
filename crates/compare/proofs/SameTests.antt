-- A test that two elements are the same says so, and holds of each with itself; two lists of octets that differ fail theirs.
-- Assumes nothing.
use Prim.Native.Nat.{ℕ}
use mathlib.Core.Path.{◌≡◌, refl, sym, ap, ◌∙◌}
use mathlib.Core.Bool.{true, false}
use mathlib.Core.List.{List}
use native.Mathlib.Omega.{arith}
use lib.Dec.{eqb}
use borrow.Author.Tests.{eqb-true, eq-eqb}
use Rattle.run.specs.Choice.{same_octets}
use Rattle.run.proofs.Choices.{both_true, true_both, is_false, alike_tests, same_octets_are, are_same_octets}
use Rattle.element_words.specs.declared.Element.{Element}
use Rattle.element_words.specs.declared.Element.TheVariants.{One, Sequence as SequenceOf}
use Rattle.compare.specs.Comparing.{same_element}

-- ---- octets

pub other_octets : (s t : List ℕ) → (s ≡ t → ⊥) → same_octets s t ≡ false
other_octets s t h = is_false (same_octets s t) (λ e. h (same_octets_are s t e))

pub octets_exchanged : (s t : List ℕ) → same_octets s t ≡ same_octets t s
octets_exchanged s t =
    alike_tests (same_octets s t) (same_octets t s) (λ e. turned s t (same_octets_are s t e)) (λ e. turned t s (same_octets_are t s e))
  where
    turned : (a b : List ℕ) → a ≡ b → same_octets b a ≡ true
    turned a b q = ap (λ (l : List ℕ). same_octets l a) (sym q) ∙ are_same_octets a

-- ---- elements

pub same_element_is : (a b : Element) → same_element a b ≡ true → a ≡ b
same_element_is (One v) (One w) e = ap One (eqb-true v w e)
same_element_is (One v) (SequenceOf h n vs) e = let z : ◌≡◌ {A = ℕ} 0 1 = cc in absurd (omega arith)
same_element_is (SequenceOf h n vs) (One w) e = let z : ◌≡◌ {A = ℕ} 0 1 = cc in absurd (omega arith)
same_element_is (SequenceOf h n vs) (SequenceOf i m ws) e =
    let t = both_true (eqb h i) _ e in
    let u = both_true (eqb n m) _ t.1 in
    let q = eqb-true h i t.0 in
    let r = eqb-true n m u.0 in
    let v = same_octets_are vs ws u.1 in
    cc

pub is_same_element : (a : Element) → same_element a a ≡ true
is_same_element (One w) = eq-eqb w w refl
is_same_element (SequenceOf h n vs) =
    true_both (eqb h h) _ (eq-eqb h h refl) (true_both (eqb n n) _ (eq-eqb n n refl) (are_same_octets vs))

pub other_element : (a b : Element) → (a ≡ b → ⊥) → same_element a b ≡ false
other_element a b h = is_false (same_element a b) (λ e. h (same_element_is a b e))

pub element_exchanged : (a b : Element) → same_element a b ≡ same_element b a
element_exchanged a b =
    alike_tests (same_element a b) (same_element b a) (λ e. turned a b (same_element_is a b e)) (λ e. turned b a (same_element_is b a e))
  where
    turned : (x y : Element) → x ≡ y → same_element y x ≡ true
    turned x y q = ap (λ (z : Element). same_element z x) (sym q) ∙ is_same_element x
