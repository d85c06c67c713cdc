-- No form is 11 (no_form), over the limit is 12 (over), else what is counted, for which the room is enough (enough); with the fifth number
-- (carried), or 0 (carried_bare).
use mathlib.Core.Path.{sym, ap, ◌∙◌}
use native.Mathlib.Omega.{arith}
use Rattle.text_loops.specs.declared.Measured.{Measured}
use Rattle.text_reading.specs.ReadAnswers.{read_answer, respelled_in}
use Rattle.text_reading.proofs.ReadTexts.{enough}
use Rattle.text_reading.proofs.Edges.{no_form, a_form, over, within, carried_bare, carried}
use Rattle.text_reading.proofs.measure.Goals as goal

pub returns-in_default : goal.returns-in_default
unfolding read_answer
returns-in_default c =
    let q = sym c.in_default.ensures.0 in
    carried_bare _ _ _ _ c.reading_of.ensures c.bare_answer.ensures (omega arith)
    (c.bare_answer.ensures ∙ no_form _ _ _ q)

pub returns-then-text-gt-LIMIT : goal.returns-then-text-gt-LIMIT
unfolding read_answer
returns-then-text-gt-LIMIT c =
    let is_form = sym c.in-Ok.ensures.0 in
    let a = c.args in
    carried_bare _ _ _ _ c.reading_of-then-text-gt-LIMIT.ensures c.bare_answer-then-text-gt-LIMIT.ensures (omega arith)
    (c.bare_answer-then-text-gt-LIMIT.ensures ∙ a_form _ _ _ _ _ is_form (over a.text.now _ _ c.if-text-gt-LIMIT.true))

pub returns : goal.returns
unfolding read_answer respelled_in
returns c =
    let is_form = sym c.in-Ok.ensures.0 in
    let a = c.args in
    let e = ap (λ (m : Measured). m.answer) c.measure_front-m.ensures ∙ enough _ a.text.now in
    let k = ap (λ (m : Measured). m.respelled) c.measure_front-m.ensures in
    carried _ _ _ _ c.reading_of-2.ensures (a_form _ _ _ _ _ is_form (e ∙ within a.text.now _ _ c.if-text-gt-LIMIT.false))
    (a_form _ _ _ _ _ is_form k)
