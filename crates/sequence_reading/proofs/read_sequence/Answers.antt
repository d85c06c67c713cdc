-- What is left of the text reads as the whole does (the invariant), up to a final, a refusal or the end.
use mathlib.Core.Path.{refl, sym, ap, ◌∙◌}
use Rattle.sequence_reading.proofs.Places.{none_left, no_sequence, reached_start, reached_more, reached_value, reached_last}
use Rattle.sequence_reading.proofs.Places.{reached_bad, reached_end}
use Rattle.sequence_reading.proofs.NumbersExactly.{reading_kept}
use native.Mathlib.Omega.{arith}
use Rattle.std.proofs.Common.{Ok}
use Rattle.sequence_reading.proofs.read_sequence.Goals as goal
use Rattle.sequence_reading.proofs.read_sequence.Goals.{in-More, in-Value}

pub returns-then-text-at : goal.returns-then-text-at
returns-then-text-at c = reading_kept _ _ _ (none_left _ _ (omega arith))

pub returns-then-text-at-2 : goal.returns-then-text-at-2
returns-then-text-at-2 c = reading_kept _ _ _ (no_sequence _ _ (omega arith) (omega arith))

pub loop-i-init : goal.loop-i-init
loop-i-init c = reached_start _ _ (omega arith) (omega arith)

pub returns-in-Last : goal.returns-in-Last
returns-in-Last c =
    reading_kept _ _ _
    (reached_last _ _ _ _ _ c.loop-i.invariant c.loop-i-test.true _
    (sym c.step.ensures ∙ c.in-Ok.is ∙ ap Ok c.in-Last.is) refl)

pub returns-in-Err : goal.returns-in-Err
returns-in-Err c =
    reading_kept _ _ _
    (reached_bad _ _ _ _ _ c.loop-i.invariant c.loop-i-test.true _
    (sym c.step.ensures ∙ c.in-Err.is))

pub loop-i-preserved : goal.loop-i-preserved
loop-i-preserved c =
    let r = c.loop-i.invariant in
    let h = c.loop-i-test.true in
    let e = sym c.step.ensures ∙ c.in-Ok.is in
    elim c.match-next.branch [
      | in-More w ↦ rw (w.values-is, w.s-is) (reached_more _ _ _ _ _ r h _ (e ∙ ap Ok w.in-More.is))
      | in-Value w ↦ rw (w.values-is, w.s-is) (reached_value _ _ _ _ _ r h _ (e ∙ ap Ok w.in-Value.is) refl)
    ]

pub returns : goal.returns
returns c = reading_kept _ _ _ (reached_end _ _ _ _ _ c.loop-i.invariant c.loop-i-test.false)
