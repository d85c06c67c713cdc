-- No form is 11, of the source, then of the target (no_form), and carries 0 (carried_bare); else what respelling promises (promised).
use mathlib.Core.Path.{sym, ◌∙◌}
use native.Mathlib.Omega.{arith}
use Rattle.text.specs.WriteAnswers.{convert_answer, convert_text}
use Rattle.text_reading.proofs.Edges.{no_form, a_form, carried_bare}
use Rattle.text.proofs.Converting.{promised}
use Rattle.text.proofs.convert.Goals as goal

pub returns-in_default : goal.returns-in_default
unfolding convert_answer convert_text
returns-in_default c =
    let is = c.bare_answer.ensures in
    let q = sym c.in_default.ensures.0 in
    (carried_bare _ _ _ _ c.reading_of.ensures is (omega arith) (is ∙ no_form _ _ _ q), no_form _ _ _ q)

pub returns-in_default-try_from : goal.returns-in_default-try_from
unfolding convert_answer convert_text
returns-in_default-try_from c =
    let is_source = sym c.in-Ok.ensures.0 in
    let is = c.bare_answer-in_default-try_from.ensures in
    let q = is_source in
    let p = sym c.in_default-try_from.ensures.0 in (
      carried_bare _ _ _ _ c.reading_of-in_default-try_from.ensures is (omega arith) (is ∙ a_form _ _ _ _ _ q (no_form _ _ _ p)),
      a_form _ _ _ _ _ q (no_form _ _ _ p),
    )

pub returns : goal.returns
returns c =
    let is_source = sym c.in-Ok.ensures.0 in
    let is_target = sym c.in-Ok-try_from.ensures.0 in
    let a = c.args in
    promised a.source a.target _ _ is_source is_target a.text.now a.out.now c.respell.ensures
