-- To be believed: the promise of each public function, by its name; its arguments, at entry, then its result. They go by
-- CodeTables, parts of the code; what a reader makes of them stands in proofs/LentEntries.
-- Assumes nothing.
use Rattle.std.specs.Prelude.{ℕ, ◌≡◌, List}
use Rattle.sorts.specs.declared.Form.{Form}
use Rattle.squares.specs.Squares.{square_table}
use Rattle.lent_tables.specs.CodeTables.{code_table, code_in, paired_in}

-- the table of what each octet of a form is by itself
abbrev pub CodeTablePromise : Form → List ℕ → Type 0
CodeTablePromise form r = r ≡ code_table form

-- what an octet is by itself, by a lent table
abbrev pub CodeInPromise : List ℕ → ℕ → ℕ → Type 0
CodeInPromise table octet r = r ≡ code_in table octet

-- the character of a mark's code and a follower, by a lent table
abbrev pub PairedInPromise : List (List ℕ) → ℕ → ℕ → ℕ → Type 0
PairedInPromise table code follower r = r ≡ paired_in table code follower

-- a reader of the form
abbrev pub OfFormPromise : Form → Form → Type 0
OfFormPromise form r = r ≡ form

-- a reader's form
abbrev pub FormPromise : Form → Form → Type 0
FormPromise reader r = r ≡ reader

-- what an octet of a reader's form is by itself
abbrev pub CodePromise : Form → ℕ → ℕ → Type 0
CodePromise reader octet r = r ≡ code_in (code_table reader) octet

-- the character of a mark's code and a follower
abbrev pub PairPromise : Form → ℕ → ℕ → ℕ → Type 0
PairPromise reader code follower r = r ≡ paired_in square_table code follower
