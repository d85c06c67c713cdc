-- No form is 11 (no_form), over the limit is 12 (over), else the element's own step (within); and it stands in 01's row (lone_kept).
use mathlib.Core.Path.{sym, ◌∙◌}
use Rattle.text_reading.specs.ReadAnswers.{lone_step}
use Rattle.text_reading.proofs.Edges.{no_form, a_form, over, within}
use Rattle.text_reading.proofs.Lone.{lone_kept}
use Rattle.text_reading.proofs.read_element.Goals as goal

pub returns-in_default : goal.returns-in_default
unfolding lone_step
returns-in_default c =
    let a = c.args in
    lone_kept a.form a.text.now a.at _
    (no_form _ _ _ (sym c.in_default.ensures.0))

pub returns-then-text-gt-LIMIT : goal.returns-then-text-gt-LIMIT
unfolding lone_step
returns-then-text-gt-LIMIT c =
    let a = c.args in
    let q = sym c.in-Ok.ensures.0 in
    lone_kept a.form a.text.now a.at _ (a_form _ _ _ _ _ q (over a.text.now _ _ c.if-text-gt-LIMIT.true))

pub returns : goal.returns
unfolding lone_step
returns c =
    let a = c.args in
    let q = sym c.in-Ok.ensures.0 in
    lone_kept a.form a.text.now a.at _
    (a_form _ _ _ _ _ q (c.element_at.ensures.0 ∙ within a.text.now _ _ c.if-text-gt-LIMIT.false))
