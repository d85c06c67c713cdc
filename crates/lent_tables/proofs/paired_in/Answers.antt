-- `paired_in`, by its test: no mark below 2^15, else the entry at the row and the column.
use mathlib.Core.Path.{sym}
use borrow.Author.Tests.{lt-ltb, le-ltb}
use Rattle.lent_tables.proofs.paired_in.Goals as goal

pub returns-then-code-lt-NO_CHARACTER : goal.returns-then-code-lt-NO_CHARACTER
returns-then-code-lt-NO_CHARACTER c = sym (simp (lt-ltb _ 0x8000 c.if-code-lt-NO_CHARACTER.true))

pub returns : goal.returns
returns c = rw (le-ltb _ 0x8000 c.if-code-lt-NO_CHARACTER.false, sym c.column_of.ensures) c.square_in.ensures
