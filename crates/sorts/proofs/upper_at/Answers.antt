-- The source's table is the definition's, entry by entry (`in_upper`); past it there is none (`past_upper`).
use mathlib.Core.Path.{◌∙◌}
use Rattle.sorts.proofs.Upper.{upper, in_upper, past_upper}
use Rattle.sorts.proofs.upper_at.Goals as goal

pub returns-then-i-ge96 : goal.returns-then-i-ge96
returns-then-i-ge96 c = past_upper _ c.if-i-ge96.true

pub returns : goal.returns
unfolding upper
returns c = c.from.ensures ∙ in_upper _ c.if-i-ge96.false
