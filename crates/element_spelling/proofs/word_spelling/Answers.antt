-- No control is past one octet (word_high).
use mathlib.Core.Path.{sym}
use Rattle.element_spelling.proofs.Steps.{word_high}
use Rattle.element_spelling.proofs.word_spelling.Goals as goal

pub returns : goal.returns
returns c = sym (word_high _ _ c.if-w-lt-PAST_CONTROLS.false)
