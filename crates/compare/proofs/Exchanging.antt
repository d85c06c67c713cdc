-- With the texts exchanged, where both are accepted: the same verdict, the places exchanged, and the part of the other one of the two
-- exactly where one ends first.
-- Assumes nothing.
use Prim.Native.Nat.{ℕ, ◌≤◌, ◌<◌}
use mathlib.Core.Path.{◌≡◌, refl, sym, ap, ap₂, ◌∙◌, subst}
use mathlib.Core.Logic.{◌⊎◌, inl, inr}
use mathlib.Core.Bool.{Bool, true, false}
use mathlib.Core.List.{List}
use native.Mathlib.Omega.{arith}
use lib.Dec.{ltb}
use lib.ListN.{length}
use borrow.Author.Tests.{ltb-true, ltb-false}
use Rattle.sorts.specs.declared.Form.{Form}
use Rattle.compare.specs.declared.Comparison.{Comparison}
use Rattle.compare.specs.declared.Shared.{Shared}
use Rattle.compare.specs.WhatChanged.{BothRun, FormAndLimit}
use Rattle.compare.specs.Comparing.{shared, told_as, told_by, by_readings, comparison}
use Rattle.compare.specs.TheoremWords.{Exchanged}
use Rattle.compare.proofs.Sharing.{exchanged, shared_exchanged, shared_inside}
use Rattle.compare.proofs.Segments.{beside}
use Rattle.compare.proofs.Meetings.{read_length}
use Rattle.compare.proofs.Exactly.{readable_is}

-- 1 is no 2
one_only : ((◌≡◌ {A = ℕ} 1 1) × (◌≡◌ {A = ℕ} 1 2)) ⊎ ((◌≡◌ {A = ℕ} 1 2) × (◌≡◌ {A = ℕ} 1 1)) → ⊥
one_only (inl e) = omega (arith, e.1)
one_only (inr e) = omega (arith, e.0)

-- by which of the two goes on
module _ (first second : List ℕ) (s : Shared) (l : s.first ≤ length first) (m : s.second ≤ length second) where
  turned : (a b : Bool) → ltb s.first (length first) ≡ a → ltb s.second (length second) ≡ b
      → Exchanged first second (told_as s a b) (told_as (exchanged s) b a)
  turned true true p q =
      let h = ltb-true s.first (length first) p in
      let k = ltb-true s.second (length second) q in
      record {
        answers = refl;
        same = refl;
        otherwise = refl;
        first_place = refl;
        second_place = refl;
        tail_moves = (λ n. absurd (one_only n), λ e. absurd (neither h k e.1));
        same_tail = λ e. absurd (neither h k e.1);
        tail_stays = λ n. (refl, refl);
      }
    where
      neither : s.first < length first → s.second < length second → (s.first ≡ length first) ⊎ (s.second ≡ length second) → ⊥
      neither h k (inl e) = omega arith
      neither h k (inr e) = omega arith
  turned true false p q =
      let k = ltb-false s.second (length second) q in
      record {
        answers = refl;
        same = refl;
        otherwise = refl;
        first_place = refl;
        second_place = refl;
        tail_moves = (λ n. (refl, inr (omega (arith, k, m))), λ e. inl (refl, refl));
        same_tail = λ e. (refl, refl);
        tail_stays = λ n. absurd (n (refl, inr (omega (arith, k, m))));
      }
  turned false true p q =
      let h = ltb-false s.first (length first) p in
      record {
        answers = refl;
        same = refl;
        otherwise = refl;
        first_place = refl;
        second_place = refl;
        tail_moves = (λ n. (refl, inl (omega (arith, h, l))), λ e. inr (refl, refl));
        same_tail = λ e. (refl, refl);
        tail_stays = λ n. absurd (n (refl, inl (omega (arith, h, l))));
      }
  turned false false p q =
      record {
        answers = refl;
        same = refl;
        otherwise = refl;
        first_place = refl;
        second_place = refl;
        tail_moves = (λ n. absurd (one_only n), λ e. absurd (omega (arith, e.0)));
        same_tail = λ e. absurd (omega (arith, e.0));
        tail_stays = λ n. (refl, refl);
      }

-- With the texts exchanged, where both are accepted: same, element and otherwise equal, the places exchanged; the tail moves to the other
-- text exactly where one ends first.
pub texts_exchanged : (form : ℕ) (first second : List ℕ) {f : Form} → FormAndLimit form first second f → BothRun f first second
    → Exchanged first second (comparison form first second) (comparison form second first)
texts_exchanged form first second {f} r b =
    let x = beside f b.run.1 in
    let y = beside f b.run'.1 in
    let s = shared x.segments y.segments in
    let i = shared_inside x.segments y.segments in
    let l : s.first ≤ length first = omega (arith, i.0, read_length f first x.segments x.reads_so) in
    let m : s.second ≤ length second = omega (arith, i.1, read_length f second y.segments y.reads_so) in
    let c : comparison form first second ≡ told_by s (length first) (length second) =
    readable_is form first second r ∙ ap₂ (by_readings (length first) (length second)) x.reads_so y.reads_so in
    let d : comparison form second first ≡ told_by (exchanged s) (length second) (length first) =
    readable_is form second first (record { is_form = r.is_form; first_within = r.second_within; second_within = r.first_within })
    ∙ ap₂ (by_readings (length second) (length first)) y.reads_so x.reads_so
    ∙ ap (λ (z : Shared). told_by z (length second) (length first)) (shared_exchanged x.segments y.segments) in
    subst (λ (z : Comparison). Exchanged first second z (comparison form second first)) (sym c)
    (subst (Exchanged first second (told_by s (length first) (length second))) (sym d)
    (turned first second s l m (ltb s.first (length first)) (ltb s.second (length second)) refl refl))
