-- The square of a mark and a follower is the entry at their row and column, by a test over all pairs of octets (`empty`, `filled`).
use Rattle.squares.specs.Squares.{square_table}
use mathlib.Core.Path.{refl}
use Rattle.squares.proofs.Pairs.{entry_of, empty, filled}
use Rattle.squares.proofs.NumbersExactly.{paired_kept}
use borrow.Author.Rules.{rules}
use Rattle.squares.proofs.paired.Goals as goal

pub returns-then-x-eq0 : goal.returns-then-x-eq0
unfolding square_table
returns-then-x-eq0 c =
    let row = c.row_of in
    let column = c.column_of in
    let entry = entry_of _ row.result column.result refl c.square_in-x.ensures in
    paired_kept _ _ _ (empty _ _ _ _ _ row.ensures column.ensures entry (search rules) (search rules) c.if-x-eq0.true)

pub returns : goal.returns
unfolding square_table
returns c =
    let row = c.row_of in
    let column = c.column_of in
    let entry = entry_of _ row.result column.result refl c.square_in-x.ensures in
    paired_kept _ _ _ (filled _ _ _ _ _ row.ensures column.ensures entry (search rules) (search rules) c.if-x-eq0.false)
