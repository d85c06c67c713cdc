-- To be believed: the promise of the public function, by its name; its arguments, at entry, then its result, then what the lent buffer
-- holds after.
-- Assumes nothing.
use Rattle.std.specs.Prelude.{ℕ, ◌≡◌, List, length}
use Rattle.run.specs.declared.Answer.{Answer}
use Rattle.case_writing.specs.FromParts.{write_case_answer, write_case_octets}

-- a case, written from its parts
abbrev pub WriteCasePromise : ℕ → List ℕ → List ℕ → List ℕ → Answer → List ℕ → Type 0
WriteCasePromise form lengths octets case r after =
    (r ≡ write_case_answer form lengths octets (length case)) × (after ≡ write_case_octets form lengths octets case)
