-- `square_in`, by its tests: 0 past the last row or column, else the entry.
use mathlib.Core.Path.{sym, ◌∙◌}
use borrow.Author.Tests.{le-leb, lt-leb}
use Rattle.squares.proofs.square_in.Goals as goal

pub returns-then-row-ge13 : goal.returns-then-row-ge13
returns-then-row-ge13 c = sym (simp (le-leb 13 _ c.if-row-ge13.true))

pub returns-then-column-ge53 : goal.returns-then-column-ge53
returns-then-column-ge53 c = sym (simp (lt-leb 13 _ c.if-row-ge13.false, le-leb 53 _ c.if-column-ge53.true))

pub returns : goal.returns
returns c = c.from.ensures ∙ sym (simp (lt-leb 13 _ c.if-row-ge13.false, lt-leb 53 _ c.if-column-ge53.false))
