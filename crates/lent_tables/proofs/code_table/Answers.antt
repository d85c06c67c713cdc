-- The source's table is the definition's: the check compares them, entry by entry.
use mathlib.Core.Path.{ap, sym}
use Rattle.lent_tables.specs.CodeTables.{code_table}
use Rattle.lent_tables.proofs.code_table.Goals as goal

pub returns-in-Eight : goal.returns-in-Eight
unfolding code_table
returns-in-Eight c = ap code_table (sym c.in-Eight.is)

pub returns-in-Seven : goal.returns-in-Seven
unfolding code_table
returns-in-Seven c = ap code_table (sym c.in-Seven.is)

pub returns-in-Basic : goal.returns-in-Basic
unfolding code_table
returns-in-Basic c = ap code_table (sym c.in-Basic.is)
