-- To be believed: the promise of each public function, by its name; its arguments, at entry, then its result, then what a lent buffer holds
-- after.
-- Assumes nothing.
use Rattle.std.specs.Prelude.{ℕ, ◌≡◌, List}
use Rattle.run.specs.Put.{Put}
use Rattle.sequence_spelling.specs.SequenceOctets.{size_of, put_sequence}

-- how many octets the sequence of an intermediate, a final and values is spelt with; 0 where these cannot be one
abbrev pub SequenceSizePromise : ℕ → ℕ → List ℕ → ℕ → Type 0
SequenceSizePromise middle last values r = r ≡ size_of (record { middle = middle; last = last; values = values })

-- its spelling, from a place on, where there is room for it and these can be a sequence; else nothing; and the place behind
abbrev pub PutSequencePromise : ℕ → ℕ → List ℕ → List ℕ → ℕ → ℕ → List ℕ → Type 0
PutSequencePromise middle last values out at r after =
    Put out at (put_sequence out at (record { middle = middle; last = last; values = values })) after r
