-- To be believed: the promise of each public function, by its name; its arguments, at entry, then its result, then what a lent buffer holds
-- after.
-- Assumes nothing.
use Rattle.std.specs.Prelude.{ℕ, ◌≡◌, Bool, List}
use Rattle.std.proofs.lemmas.List.Edits.{sets}
use Rattle.run.specs.declared.Answer.{Answer}
use Rattle.run.specs.Put.{what_fits}
use Rattle.sorts.specs.declared.Form.{Form}
use Rattle.element_reading.specs.declared.Step.{Step}
use Rattle.text_loops.specs.declared.Measured.{Measured}
use Rattle.text_loops.specs.Fronts.{read_in, words_before, measured, asked_for, step_answer_after}

-- "the text reader puts its own count there": a step's answer, after n elements
abbrev pub StepAnswerPromise : Step → ℕ → Answer → Type 0
StepAnswerPromise step n r = r ≡ step_answer_after n step

-- how far a text is read, how many words its elements up to there have, and how many of these are not canonical
abbrev pub MeasureFrontPromise : Form → List ℕ → Measured → Type 0
MeasureFrontPromise form text r = r ≡ measured form text

-- the same, and those words into the words lent, from the place o on, where all that is asked for fits; else nothing is written
abbrev pub ReadFrontPromise : Form → List ℕ → List ℕ → ℕ → Bool → Measured → List ℕ → Type 0
ReadFrontPromise form text words o whole r after =
    (r ≡ measured form text)
    × (after ≡ sets words o (what_fits words o (asked_for whole (read_in form text) (words_before form text))))
