-- By the first word: none (no_word), one element of one word (one_word), a sequence (are_words), none at all (cut_words, not_words).
use mathlib.Core.Path.{sym, ◌∙◌}
use Rattle.element_words.proofs.Meanings.{no_word, one_word, cut_words, are_words, not_words}
use Rattle.element_words.proofs.NumbersExactly.{meant_kept}
use Rattle.element_words.proofs.element_of.Goals as goal

pub returns-then-words-at : goal.returns-then-words-at
returns-then-words-at c = meant_kept _ _ _ (no_word _ _ c.if-words-at.true)

pub returns-then-w-lt-SEQUENCES_FROM : goal.returns-then-w-lt-SEQUENCES_FROM
returns-then-w-lt-SEQUENCES_FROM c = meant_kept _ _ _ (one_word _ _ c.if-words-at.false c.if-w-lt-SEQUENCES_FROM.true)

pub returns-then-words-first : goal.returns-then-words-first
returns-then-words-first c = meant_kept _ _ _ (cut_words _ _ c.if-words-at.false c.if-w-lt-SEQUENCES_FROM.false c.if-words-first.true)

pub returns-then-is_sequence : goal.returns-then-is_sequence
returns-then-is_sequence c =
    meant_kept _ _ _
    (are_words _ _ c.if-words-at.false c.if-w-lt-SEQUENCES_FROM.false _ (sym c.is_sequence.ensures ∙ c.if-is_sequence.true)
    c.values_of.ensures)

pub returns : goal.returns
returns c =
    meant_kept _ _ _
    (not_words _ _ c.if-words-at.false c.if-w-lt-SEQUENCES_FROM.false (sym c.is_sequence.ensures ∙ c.if-is_sequence.false))
