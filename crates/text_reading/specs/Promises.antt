-- To be believed: the promise of each public function, by its name; its arguments, at entry, then its result, then what a lent buffer holds
-- after. That the answers cited are document 01's table is proved in `text` (Demands).
-- Assumes nothing.
use Rattle.std.specs.Prelude.{ℕ, ◌≡◌, List, length}
use Rattle.run.specs.declared.ReadAnswer.{ReadAnswer}
use Rattle.element_reading.specs.declared.Step.{Step}
use Rattle.element_reading.specs.ElementNumbers.{step_reading, step_words}
use Rattle.text_reading.specs.ReadAnswers.{read_reading, read_words, lone_step, one_reading, one_words}
use Rattle.text_reading.specs.ReadingNumbers.{LoneTable}

-- what a whole text comes to, read with room for as many words as it has octets
abbrev pub MeasurePromise : ℕ → List ℕ → ReadAnswer → Type 0
MeasurePromise form text r = r ≡ read_reading form text (length text)

-- a whole text, read into the words lent
abbrev pub ReadPromise : ℕ → List ℕ → List ℕ → ReadAnswer → List ℕ → Type 0
ReadPromise form text words r after = (r ≡ read_reading form text (length words)) × (after ≡ read_words form text words)

-- one element of a text, at a place; its five numbers, and its words, stand in the row for it
abbrev pub ReadElementPromise : ℕ → List ℕ → ℕ → Step → Type 0
ReadElementPromise form text at r = (r ≡ lone_step form text at) × LoneTable form text at (step_reading r) (step_words r)

-- the same, its words into the words lent
abbrev pub ReadOnePromise : ℕ → List ℕ → ℕ → List ℕ → ReadAnswer → List ℕ → Type 0
ReadOnePromise form text at words r after =
    (r ≡ one_reading form text at (length words)) × (after ≡ one_words form text at words)
