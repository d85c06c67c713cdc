-- What each function that answers an enum finds keeps its promise: 3, or no pair, exactly where no square is filled so; a character, or a
-- pair, exactly where that square is.
-- Assumes nothing.
use Prim.Native.Nat.{ℕ}
use mathlib.Core.Path.{◌≡◌, refl, sym, ap, ◌∙◌}
use mathlib.Core.List.{[], ◌∷◌, Memᴰ}
use native.Mathlib.Omega.{arith}
use Rattle.std.proofs.lemmas.Option.{none-some}
use Rattle.run.proofs.Members.{same_first, same_rest}
use Rattle.std.specs.Prelude.{Option, Some, None}
use Rattle.squares.specs.Squares.{sq, squares, square_of, found_number, found_values, pair_of, pairing_values}
use Rattle.squares.specs.Promises.{PairedPromise, PairedNumbers, FindPairPromise, FindPairNumbers}
use Rattle.squares.proofs.TableRule.{filled_member, member_filled, inverse, forward}

is_3 : (x : Option ℕ) → found_number x ≡ 3 → x ≡ None
is_3 (Some c) h = absurd (omega arith)
is_3 None h = refl

is_char : (c : ℕ) (x : Option ℕ) → found_values x ≡ c ∷ [] → x ≡ Some c
is_char c (Some d) h = ap Some (same_first h)
is_char c None h = let z : ◌≡◌ {A = ℕ} 0 1 = cc in absurd (omega arith)

pub paired_kept : (m l : ℕ) (r : Option ℕ) → r ≡ square_of m l → PairedPromise m l r
paired_kept m l r e = (
  e,
  (
    (λ h c k. none-some _ (sym (is_3 r h) ∙ e ∙ member_filled m l c k), back r e),
    λ c. (λ h. filled_member m l c (sym e ∙ is_char c r h), λ k. ap found_values (e ∙ member_filled m l c k)),
  ),
)
  where
    back : (x : Option ℕ) → x ≡ square_of m l → ((c : ℕ) → Memᴰ (sq m l c) squares → ⊥) → found_number x ≡ 3
    back (Some c) q none = absurd (none c (filled_member m l c (sym q)))
    back None q none = refl

-- 01's number and values fix the answer
pub paired_by : (m l : ℕ) (r : Option ℕ) → PairedNumbers m l r → r ≡ square_of m l
paired_by m l r p = go (square_of m l) refl
  where
    go : (x : Option ℕ) → square_of m l ≡ x → r ≡ square_of m l
    go (Some c) q = is_char c r ((p.1 c).1 (filled_member m l c q)) ∙ sym q
    go None q = is_3 r (p.0.1 (λ c k. none-some _ (sym q ∙ member_filled m l c k))) ∙ sym q

is_none : (x : Option (ℕ × ℕ)) → pairing_values x ≡ [] → x ≡ None
is_none (Some (m, l)) h = let z : ◌≡◌ {A = ℕ} 0 1 = cc in absurd (omega arith)
is_none None h = refl

is_pair : (m l : ℕ) (x : Option (ℕ × ℕ)) → pairing_values x ≡ m ∷ l ∷ [] → x ≡ Some (m, l)
is_pair m l (Some (a, b)) h =
    let ea : a ≡ m = same_first h in
    let eb : b ≡ l = same_first (same_rest h) in
    cc
is_pair m l None h = let z : ◌≡◌ {A = ℕ} 0 1 = cc in absurd (omega arith)

pub pair_kept : (c : ℕ) (r : Option (ℕ × ℕ)) → r ≡ pair_of c → FindPairPromise c r
pair_kept c r e = (
  e,
  (
    (λ h m l k. none-some _ (sym (is_none r h) ∙ e ∙ inverse m l c (member_filled m l c k)), back r e),
    λ m l. (
      λ h. filled_member m l c (forward m l c (sym e ∙ is_pair m l r h)),
      λ k. ap pairing_values (e ∙ inverse m l c (member_filled m l c k)),
    ),
  ),
)
  where
    back : (x : Option (ℕ × ℕ)) → x ≡ pair_of c → ((m l : ℕ) → Memᴰ (sq m l c) squares → ⊥) → pairing_values x ≡ []
    back (Some (m, l)) q none = absurd (none m l (filled_member m l c (forward m l c (sym q))))
    back None q none = refl

pub pair_by_lem : (c : ℕ) (r : Option (ℕ × ℕ)) → FindPairNumbers c r → r ≡ pair_of c
pair_by_lem c r p = go (pair_of c) refl
  where
    go : (x : Option (ℕ × ℕ)) → pair_of c ≡ x → r ≡ pair_of c
    go (Some (m, l)) q = is_pair m l r ((p.1 m l).1 (filled_member m l c (forward m l c q))) ∙ sym q
    go None q = is_none r (p.0.1 (λ m l k. none-some _ (sym q ∙ inverse m l c (member_filled m l c k)))) ∙ sym q
