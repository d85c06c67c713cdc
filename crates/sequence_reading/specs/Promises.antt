-- To be believed: the promise of each public function, by its name; its arguments, at entry, then its result. Where the result is an enum,
-- the second part says of 01's number and values of it when they are given.
-- Assumes nothing.
use Rattle.std.specs.Prelude.{ℕ, ◌≡◌, ◌↔◌, List, get_or}
use Rattle.sequence_reading.specs.declared.Kind.{Kind}
use Rattle.sequence_reading.specs.declared.Reading.{Reading}
use Rattle.sequence_reading.specs.Kinds.{kind_of, kind_number, kind_value, OfNoSequence, KindRow}
use Rattle.sequence_reading.specs.SequenceHead.{reading_at}
use Rattle.sequence_reading.specs.SequenceNumbers.{reading_answer, sequence_read, SequenceRow}

-- what an octet is inside a sequence: its kind, number and value stand in 01's row for what it counts as, and 6 is given exactly for what
-- is no octet of one
abbrev pub KindOfPromise : ℕ → Kind → Type 0
KindOfPromise b r = (r ≡ kind_of b) × KindRow b r (kind_number r) (kind_value r) × ((kind_number r ≡ 6) ↔ OfNoSequence b)

-- the value at an index; past the eight it is 0
abbrev pub ValueAtPromise : List ℕ → ℕ → ℕ → Type 0
ValueAtPromise v k r = r ≡ get_or v k 0

-- the sequence at a place; its four numbers, and the sequence, stand in 01's row for that place
abbrev pub ReadSequencePromise : List ℕ → ℕ → Reading → Type 0
ReadSequencePromise text at r = (r ≡ reading_at text at) × SequenceRow text at (reading_answer at r) (sequence_read r)
