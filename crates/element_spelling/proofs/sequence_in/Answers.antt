-- An intermediate is one octet (middle_small).
use mathlib.Core.Path.{sym, ◌∙◌}
use native.Mathlib.Omega.{arith}
use Rattle.element_words.proofs.HeadWords.{middle_small}
use Rattle.element_spelling.proofs.sequence_in.Goals as goal

pub overflow_cast-result : goal.overflow_cast-result
overflow_cast-result c =
    let a = c.args in
    omega (arith, middle_small a.head a.values.now (sym c.is_sequence.ensures ∙ c.if-not-is_sequence.false))
