-- To be believed: the promise of each public function, by its name; its arguments, at entry, then its result, then what a lent buffer holds
-- after.
-- Assumes nothing.
use Rattle.std.specs.Prelude.{ℕ, ◌≡◌, Bool, List, ◌++◌}
use Rattle.sorts.specs.declared.Form.{Form}
use Rattle.text_loops.specs.declared.Measured.{Measured}
use Rattle.open_elements.specs.OpenElements.{is_open, read_on, read_on_words}
use Rattle.open_elements.specs.Steps.{Gathered}

-- whether octets that wait are none, or an unfinished element's
abbrev pub IsOpenPromise : Form → List ℕ → Bool → Type 0
IsOpenPromise form waiting r = r ≡ is_open form waiting

-- the octets that wait and then the piece, from a place of both on, as far as there is room; how many they are
abbrev pub GatherPromise : List ℕ → List ℕ → ℕ → List ℕ → ℕ → List ℕ → Type 0
GatherPromise waiting piece from into r after = Gathered (waiting ++ piece) from into r after

-- the octets that wait and the piece, read as one
abbrev pub ReadOnPromise : Form → List ℕ → List ℕ → List ℕ → Measured → List ℕ → Type 0
ReadOnPromise form waiting piece words r after = (r ≡ read_on form waiting piece) × (after ≡ read_on_words form waiting piece words)
