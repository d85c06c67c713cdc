-- Each promise of a public function allows only one answer.
-- Assumes nothing.
use Prim.Native.Nat.{ℕ}
use mathlib.Core.Bool.{Bool}
use mathlib.Core.List.{List}
use lib.Seq.{sets}
use Rattle.run.specs.OneAnswer.{Once, OnceBoth}
use Rattle.run.specs.Put.{what_fits}
use Rattle.run.proofs.OneAnswer.{once, once_both}
use Rattle.sorts.specs.declared.Form.{Form}
use Rattle.element_reading.specs.declared.Step.{Step}
use Rattle.text_loops.specs.Fronts.{read_in, words_before, measured, asked_for, step_answer_after}
use Rattle.text_loops.specs.Promises.{StepAnswerPromise, MeasureFrontPromise, ReadFrontPromise}

pub one_answer : (step : Step) (n o : ℕ) (form : Form) (text words : List ℕ) (whole : Bool)
    → Once (StepAnswerPromise step n)
    × Once (MeasureFrontPromise form text)
    × OnceBoth (ReadFrontPromise form text words o whole)
one_answer step n o form text words whole = (
  once (StepAnswerPromise step n) (step_answer_after n step) (λ r p. p),
  once (MeasureFrontPromise form text) (measured form text) (λ r p. p),
  once_both (ReadFrontPromise form text words o whole) (measured form text)
      (sets words o (what_fits words o (asked_for whole (read_in form text) (words_before form text)))) (λ r after p. p),
)
