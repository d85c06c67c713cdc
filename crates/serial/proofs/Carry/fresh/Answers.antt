-- The form's number has a form, or none (no_form, a_form).
use mathlib.Core.Path.{sym, ap, ◌∙◌}
use Rattle.serial.specs.Feeding.{kept_by, fresh_answer}
use Rattle.text_reading.proofs.Edges.{no_form, a_form}
use Rattle.serial.proofs.Carry.fresh.Goals as goal

pub returns-in_default : goal.returns-in_default
unfolding fresh_answer
returns-in_default c =
    let e = sym c.in_default.ensures.0 in
    c.kept.ensures ∙ ap (kept_by _) c.bare_answer.ensures ∙ no_form _ _ _ e

pub returns : goal.returns
unfolding fresh_answer
returns c =
    let e = sym c.in-Ok.ensures.0 in
    a_form _ _ _ _ _ e (c.kept-2.ensures ∙ ap (kept_by _) c.bare_answer-2.ensures)
