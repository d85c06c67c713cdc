-- To be believed: the promise of each public function, by its name; its arguments, at entry, then its result. That the comparison cited is
-- document 02's is proved in proofs/Exactly.
-- Assumes nothing.
use Rattle.std.specs.Prelude.{ℕ, ◌≡◌, List}
use Rattle.std.specs.Borrow.{Bor}
use Rattle.compare.specs.declared.Comparison.{Comparison}
use Rattle.compare.specs.Comparing.{comparison, part_of, lie_of}

-- what changed between two texts of one form, in numbers
abbrev pub ComparedPromise : ℕ → List ℕ → List ℕ → Comparison → Type 0
ComparedPromise form first second r = r ≡ comparison form first second

-- and the part that is handed back: its octets, and where it lies, are those of the text that the numbers say, from the place that they say
-- to its end. A lent slice (`Bor`) is where it lies, `ref_ptr`, and what it holds, `now`.
abbrev pub ComparePromise : ℕ → Bor (List ℕ) → Bor (List ℕ) → List ℕ → ℕ × ℕ → Type 0
ComparePromise form first second part at =
    let c = comparison form first.now second.now in
    (part ≡ part_of c first.now second.now) × (at ≡ lie_of c first.ref_ptr second.ref_ptr)
