-- To be believed: the promise of each public function, by its name; its arguments, at entry, then its result. They go by Tests, parts of
-- the code; that these tell what is canonical stands in proofs/TestsRight.
-- Assumes nothing.
use Rattle.std.specs.Prelude.{ℕ, ◌≡◌, Bool, true, List, drop}
use Rattle.run.specs.Choice.{pick}
use Rattle.sorts.specs.declared.Form.{Form}
use Rattle.sequence_spelling.specs.SequenceOctets.{canonical_behind}
use Rattle.canonical_tests.specs.Tests.{word_canonical}

-- of an element of one word, by the word, the last of its octets, and how many they are
abbrev pub WordIsCanonicalPromise : Form → ℕ → ℕ → ℕ → Bool → Type 0
WordIsCanonicalPromise form word last size r = r ≡ word_canonical form word last size

-- of a control sequence, by its octets
abbrev pub SequenceIsCanonicalPromise : List ℕ → Bool → Type 0
SequenceIsCanonicalPromise octets r = r ≡ canonical_behind true (drop 1 octets)

-- what an element adds to the number of those that are not canonical
abbrev pub NotCanonicalPromise : Bool → ℕ → Type 0
NotCanonicalPromise canonical r = r ≡ pick canonical 0 1
