-- `spacing_of`: below A0 there is none (`below`), and above it is an entry of the table (`above`).
use mathlib.Core.Path.{ap, ◌∙◌}
use Rattle.sorts.specs.Sorts.{entry}
use Rattle.sorts.proofs.Spacings.{below, above}
use borrow.Author.Rules.{rules}
use Rattle.sorts.proofs.spacing.Goals as goal

pub returns-then-octet-lt160 : goal.returns-then-octet-lt160
returns-then-octet-lt160 c = below _ c.if-octet-lt160.true

pub returns : goal.returns
returns c = c.graphic.ensures ∙ ap entry c.upper_at.ensures ∙ above _ c.if-octet-lt160.false (search rules)
