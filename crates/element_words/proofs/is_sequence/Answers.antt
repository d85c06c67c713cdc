-- No sequence where a part is out of range (high_middle, no_size); else its count decides (by_count).
use mathlib.Core.Path.{sym, ◌∙◌}
use Rattle.element_words.proofs.HeadWords.{high_middle, no_size, by_count}
use Rattle.element_words.proofs.is_sequence.Goals as goal

pub returns-then-middle-gt47 : goal.returns-then-middle-gt47
returns-then-middle-gt47 c = high_middle _ _ c.if-middle-gt47.true

pub returns-then-size-ne0 : goal.returns-then-size-ne0
returns-then-size-ne0 c =
    by_count _ _ c.if-head-lt-SEQUENCES_FROM.false c.if-middle-gt47.false (λ e. c.if-size-ne0.true (c.size.ensures ∙ e))

pub returns-else-size-ne0 : goal.returns-else-size-ne0
returns-else-size-ne0 c = let z = c.if-size-ne0.false in rw z (no_size _ _ (sym c.size.ensures ∙ z))
