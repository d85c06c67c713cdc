-- To be believed: the promise of each public function, by its name; its arguments, at entry, then its result. Where the result is
-- an enum, the second part says which of 01's numbers and values it has.
-- Assumes nothing.
use Rattle.std.specs.Prelude.{ℕ, ◌*◌, ◌≤◌, ◌<◌, ◌≡◌, List}
use Rattle.case_table.specs.declared.HeaderFault.{HeaderFault}
use Rattle.case_table.specs.Layout.{number16, version_1}
use Rattle.case_table.specs.Check.{Said, total_in, header_in, header_of}
use Rattle.case_table.specs.Grammar.{Octets}
use Rattle.case_table.specs.HeaderNumbers.{fault_number, header_answer, header_form, header_pages, HeaderTable, HeaderTableOf}

-- the number of a refusal
abbrev pub NumberPromise : HeaderFault → ℕ → Type 0
NumberPromise fault r = r ≡ fault_number fault

-- "big-endian 16-bit": the number in the two octets from a place on
abbrev pub NumberAtPromise : List ℕ → ℕ → ℕ → Type 0
NumberAtPromise octets at r = (r ≡ number16 octets at) × (r < 0x10000)

-- the first lengths of a table, added up
abbrev pub TotalOfPromise : List ℕ → ℕ → ℕ → Type 0
TotalOfPromise table n r = (r ≡ total_in version_1 n table) × (r ≤ 65535 * n) × (r ≤ 16776960)

-- what header and table say of a case of so many octets, and its row of 01's numbers
abbrev pub HeaderInPromise : List ℕ → List ℕ → ℕ → Said → Type 0
HeaderInPromise header table size r =
    (r ≡ header_in version_1 header table size)
    × HeaderTable version_1 header table size (header_answer r) (header_form r) (header_pages r)

-- the same of a whole case, whose entries are octets
abbrev pub HeaderOfPromise : List ℕ → Said → Type 0
HeaderOfPromise case r =
    (r ≡ header_of case) × HeaderTableOf case (header_answer r) (header_form r) (header_pages r) × Octets case
