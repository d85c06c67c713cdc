-- The sequence reader's answer, taken apart: a sequence (sequence_whole), a refusal (sequence_stopped), the end (sequence_ended).
use mathlib.Core.Path.{sym, ◌∙◌}
use native.Mathlib.Omega.{arith}
use Rattle.element_reading.proofs.Steps.{sequence_inside, sequence_whole, sequence_stopped, sequence_ended}
use Rattle.element_reading.proofs.sequence_step.Goals as goal

pub slice_bounds-sequence_is_canonical-end : goal.slice_bounds-sequence_is_canonical-end
slice_bounds-sequence_is_canonical-end c =
    let i = sequence_inside _ _ _ _ _ _ _ (sym c.read_sequence.ensures.0 ∙ c.in-Whole.is) in
    omega (arith, i.1, i.2)

pub returns-in-Refused : goal.returns-in-Refused
returns-in-Refused c f =
    c.refused_at.ensures
    ∙ sequence_stopped _ _ _ _ (sym c.read_sequence.ensures.0 ∙ c.in-Refused.is) f

pub returns-in-Whole : goal.returns-in-Whole
returns-in-Whole c =
    sequence_whole _ _ _ _ _ _ _ _ _ (sym c.read_sequence.ensures.0 ∙ c.in-Whole.is)
    c.head_word.ensures c.sequence_is_canonical.ensures

pub returns-in-End : goal.returns-in-End
returns-in-End c = sequence_ended _ _ (sym c.read_sequence.ensures.0 ∙ c.in-End.is)
