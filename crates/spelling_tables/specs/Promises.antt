-- To be believed: the promise of each public function, by its name; its arguments, at entry, then its result. They
-- go by PackedSpellings, parts of the code; what a writer makes of them stands in proofs/LentSpellings.
-- Assumes nothing.
use Rattle.std.specs.Prelude.{ℕ, ◌≡◌, List}
use Rattle.run.specs.Put.{Put, what_fits}
use Rattle.sorts.specs.declared.Form.{Form}
use Rattle.spelling_tables.specs.PackedSpellings.{spelling_table, packed_in, low_in, packed_size, packed_octets}

-- the table of a form's packed spellings
abbrev pub SpellingTablePromise : Form → List ℕ → Type 0
SpellingTablePromise form r = r ≡ spelling_table form

-- the packed spelling of a character, by a lent table
abbrev pub PackedInPromise : List ℕ → ℕ → ℕ → Type 0
PackedInPromise table c r = r ≡ packed_in table c

-- the same of a character below U+0180, and 0 of any other
abbrev pub LowInPromise : List ℕ → ℕ → ℕ → Type 0
LowInPromise table c r = r ≡ low_in table c

-- how many octets it has
abbrev pub PackedSizePromise : ℕ → ℕ → Type 0
PackedSizePromise p r = r ≡ packed_size p

-- its octets, from a place on: all of them where there is room, else none
abbrev pub PutPackedPromise : ℕ → List ℕ → ℕ → ℕ → List ℕ → Type 0
PutPackedPromise p before at r after = Put before at (what_fits before at (packed_octets p)) after r

-- a speller of the form
abbrev pub OfFormPromise : Form → Form → Type 0
OfFormPromise form r = r ≡ form

-- a speller's form
abbrev pub FormPromise : Form → Form → Type 0
FormPromise speller r = r ≡ speller

-- the packed spelling of a character in a speller's form
abbrev pub PackedPromise : Form → ℕ → ℕ → Type 0
PackedPromise speller c r = r ≡ packed_in (spelling_table speller) c

-- the same of a character below U+0180, and 0 of any other
abbrev pub LowPromise : Form → ℕ → ℕ → Type 0
LowPromise speller c r = r ≡ low_in (spelling_table speller) c
