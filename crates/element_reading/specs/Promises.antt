-- To be believed: the promise of the public function, by its name; its arguments, at entry, then its result. The second part says of 01's
-- number and values of the result, and of the fifth number, when they are given.
-- Assumes nothing.
use Rattle.std.specs.Prelude.{ℕ, ◌≡◌, List}
use Rattle.sorts.specs.declared.Form.{Form}
use Rattle.element_reading.specs.declared.Step.{Step}
use Rattle.element_reading.specs.ElementHead.{step_at}
use Rattle.element_reading.specs.ElementNumbers.{step_reading, step_words, ElementRow}

-- the element at a place of a text; its five numbers, and its words, stand in 01's row for that place
abbrev pub ElementAtPromise : Form → List ℕ → ℕ → Step → Type 0
ElementAtPromise form text at r = (r ≡ step_at form text at) × ElementRow form text at (step_reading r) (step_words r)
