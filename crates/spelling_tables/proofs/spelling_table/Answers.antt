-- The source's tables are the definition's: the check compares them, entry by entry.
use mathlib.Core.Path.{ap, sym}
use Rattle.sorts.specs.Forms.{alphabet_of}
use Rattle.squares.specs.Squares.{squares, pair_of}
use Rattle.spelling.specs.SpellingGiven.{spell_in}
use Rattle.spelling_tables.specs.PackedSpellings.{spelling_table}
use Rattle.spelling_tables.proofs.spelling_table.Goals as goal

pub returns-in-Eight : goal.returns-in-Eight
unfolding spelling_table spell_in alphabet_of pair_of squares
returns-in-Eight c = ap spelling_table (sym c.in-Eight.is)

pub returns-in-Seven : goal.returns-in-Seven
unfolding spelling_table spell_in alphabet_of pair_of squares
returns-in-Seven c = ap spelling_table (sym c.in-Seven.is)

pub returns-in-Basic : goal.returns-in-Basic
unfolding spelling_table spell_in alphabet_of pair_of squares
returns-in-Basic c = ap spelling_table (sym c.in-Basic.is)
