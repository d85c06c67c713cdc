-- No octets, or those of the spelling and one for CC (none_size, after_size, bare_size).
use mathlib.Core.Path.{sym, ◌∙◌}
use native.Mathlib.Omega.{arith}
use Rattle.element_spelling.proofs.Steps.{one_more, none_size, bare_size, after_size}
use Rattle.element_spelling.proofs.word_size.Goals as goal

pub returns-in_default : goal.returns-in_default
returns-in_default c = let a = c.args in none_size a.form a.w (sym c.word_spelling.ensures ∙ c.in_default.is)

pub overflow_add-result : goal.overflow_add-result
overflow_add-result c = omega (arith, one_more c.in-Some.x _ c.octets_in-n.ensures)

pub returns-then-is_underlined : goal.returns-then-is_underlined
returns-then-is_underlined c =
    let a = c.args in
    after_size a.form a.w _ _ c.octets_in-n.ensures (sym c.word_spelling.ensures ∙ c.in-Some.is)
    (sym c.is_underlined.ensures ∙ c.if-is_underlined.true)

pub returns : goal.returns
returns c =
    let a = c.args in
    bare_size a.form a.w _ _ c.octets_in-n.ensures (sym c.word_spelling.ensures ∙ c.in-Some.is)
    (sym c.is_underlined.ensures ∙ c.if-is_underlined.false)
