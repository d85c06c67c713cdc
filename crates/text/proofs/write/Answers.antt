-- No form is 11 (asked_none), else what writing in the form promises (a_form).
use mathlib.Core.Path.{sym}
use Rattle.text.specs.WriteAnswers.{write_answer, write_text}
use Rattle.text_reading.proofs.Edges.{asked_none, a_form}
use Rattle.text.proofs.write.Goals as goal

pub returns-in_default : goal.returns-in_default
unfolding write_answer write_text
returns-in_default c =
    let a = c.args in
    asked_none _ a.words.now _ _ _ c.bare_answer.ensures (sym c.in_default.ensures.0)

pub returns : goal.returns
unfolding write_answer write_text
returns c =
    let is_form = sym c.in-Ok.ensures.0 in
    let e = c.write_in.ensures in
    let q = is_form in
    (a_form _ _ _ _ _ q e.0, a_form _ _ _ _ _ q e.1)
