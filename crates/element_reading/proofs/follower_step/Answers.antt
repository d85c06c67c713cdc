-- The end (follower_end), a listed follower (follower_is), any other (follower_not).
use mathlib.Core.Path.{sym, ap, ◌∙◌}
use Rattle.squares.proofs.SquareFacts.{square_small}
use Rattle.element_reading.specs.ElementHead.{high_or}
use Rattle.element_reading.proofs.Steps.{follower_end, follower_not, follower_is}
use Rattle.element_reading.proofs.follower_step.Goals as goal

pub returns-then-text-i : goal.returns-then-text-i
returns-then-text-i c = c.refused_at.ensures ∙ follower_end _ _ _ _ _ _ c.requires.0 c.if-text-i.true

pub returns-in_default : goal.returns-in_default
returns-in_default c =
    c.refused_at-in_default.ensures ∙ follower_not _ _ _ _ _ _ c.requires.0 _ c.if-text-i.false
    (sym c.paired.ensures.0 ∙ c.in_default.is)
    (c.high_or.ensures ∙ ap (high_or 3) c.sort_in.ensures.0)

pub graphic_word-word-requires : goal.graphic_word-word-requires
graphic_word-word-requires c = square_small _ _ _ (sym c.paired.ensures.0 ∙ c.in-Some.is)

pub returns : goal.returns
returns c =
    follower_is _ _ _ _ _ _ c.requires.0 _ _ _ c.if-text-i.false (sym c.paired.ensures.0 ∙ c.in-Some.is)
    c.graphic_word-word.ensures c.word_is_canonical.ensures
