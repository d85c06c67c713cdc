-- A part that is out of range rules the sequence out (not_fine); where each is in range, the values decide (fine_by_values).
use mathlib.Core.Path.{◌∙◌}
use mathlib.Core.Logic.{inl, inr, ⊎_elim}
use native.Mathlib.Omega.{arith}
use Rattle.sequence_spelling.proofs.Puts.{not_fine, fine_by_values}
use Rattle.sequence_spelling.proofs.Sequence.is_fine.Goals as goal
use Rattle.sequence_spelling.proofs.Sequence.is_fine.Goals.{in_default, in_default-2, in-0, in-0-2}
use Rattle.sequence_spelling.proofs.Sequence.is_fine.Goals.{then-matches+in-64-to-126, then-matches+in_default-matches}
use Rattle.sequence_spelling.proofs.Sequence.is_fine.Goals.{then-matches+in_default-matches-2, else-matches}
use Rattle.sequence_spelling.proofs.Sequence.is_fine.Goals.{then-matches-2+in-1-to-8, then-matches-2+in_default-matches-2}
use Rattle.sequence_spelling.proofs.Sequence.is_fine.Goals.{then-matches-2+in_default-matches-2-2, else-matches-2}

pub returns-then-matches-3 : goal.returns-then-matches-3
returns-then-matches-3 c =
    elim c.if-matches-2.branch [
      | then-matches-2+in-1-to-8 w ↦
          elim c.if-matches.branch [
            | then-matches+in-64-to-126 x ↦
                elim c.match-matches.branch [
                  | in_default y ↦ cc
                  | in_default-2 y ↦ cc
                  | in-0 y ↦ fine_by_values _ _ _ _ (inl (omega arith)) (omega arith, omega arith) (omega arith, omega arith) c.are_small.ensures
                  | in-0-2 y ↦
                      fine_by_values _ _ _ _ (inr (omega arith, omega arith)) (omega arith, omega arith) (omega arith, omega arith)
                      c.are_small.ensures
                ]
            | then-matches+in_default-matches x ↦ cc
            | then-matches+in_default-matches-2 x ↦ cc
            | else-matches x ↦ cc
          ]
      | then-matches-2+in_default-matches-2 w ↦ cc
      | then-matches-2+in_default-matches-2-2 w ↦ cc
      | else-matches-2 w ↦ cc
    ]

pub returns-else-matches-3 : goal.returns-else-matches-3
returns-else-matches-3 c =
    c.if-matches-3.false
    ∙ elim c.if-matches-2.branch [
      | then-matches-2+in-1-to-8 w ↦ cc
      | then-matches-2+in_default-matches-2 w ↦ not_fine _ (λ f. omega (arith, f.some))
      | then-matches-2+in_default-matches-2-2 w ↦ not_fine _ (λ f. omega (arith, f.eight))
      | else-matches-2 w ↦
          elim c.if-matches.branch [
            | then-matches+in-64-to-126 x ↦ cc
            | then-matches+in_default-matches x ↦ not_fine _ (λ f. omega (arith, f.low))
            | then-matches+in_default-matches-2 x ↦ not_fine _ (λ f. omega (arith, f.high))
            | else-matches x ↦
                elim c.match-matches.branch [
                  | in_default y ↦ not_fine _ (λ f. ⊎_elim (λ z. omega arith) (λ z. omega arith) f.middle)
                  | in_default-2 y ↦ not_fine _ (λ f. ⊎_elim (λ z. omega arith) (λ z. omega arith) f.middle)
                  | in-0 y ↦ cc
                  | in-0-2 y ↦ cc
                ]
          ]
    ]
