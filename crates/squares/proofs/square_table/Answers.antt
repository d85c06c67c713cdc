-- The source's table is the definition's: the check compares them, entry by entry.
use Rattle.squares.specs.Squares.{square_table}
use borrow.Author.Rules.{rules}
use Rattle.squares.proofs.square_table.Goals as goal

pub returns : goal.returns
unfolding square_table
returns c = search rules
