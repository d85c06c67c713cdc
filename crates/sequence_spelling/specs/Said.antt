-- To be believed: what the struct that the spellers take says.
-- Assumes nothing.
use Rattle.sequence_reading.specs.Grammar.{Sequence}
use Rattle.sequence_spelling.specs.declared.Sequence.{Sequence as Given}

-- the sequence that it says: its intermediate (0 if none), its final, its values
abbrev pub said : Given → Sequence
said q = record { middle = q.middle; last = q.last; values = q.values.now }
