-- Proved equal to document 01's table of numbers and its order of refusals (ReadingNumbers, by proofs/Demands of `text`: read_exactly,
-- read_element_exactly, read_one_exactly) and, of the fifth number, to what No. 5 of document 02 counts (`NotCanonical`, by
-- proofs/Respelled: counts_exactly): the answers of the public functions, and what a lent buffer holds after.
-- Assumes nothing.
use Rattle.std.specs.Prelude.{ℕ, List, length, leb}
use Rattle.run.specs.Choice.{pick}
use Rattle.run.specs.declared.Answer.{Answer}
use Rattle.run.specs.declared.ReadAnswer.{ReadAnswer}
use Rattle.run.specs.Answers.{bare, short_room, over, carrying, answer_of, written_of}
use Rattle.sorts.specs.Forms.{form_of, in_form}
use Rattle.element_reading.specs.declared.Step.{Step}
use Rattle.element_reading.specs.declared.Step.TheVariants.{Refused}
use Rattle.element_words.specs.Words.{words_of}
use Rattle.element_reading.specs.ElementHead.{step_at}
use Rattle.element_reading.specs.ElementNumbers.{step_reading, step_words}
use Rattle.text_loops.specs.Fronts.{read_in, respelled_before}
use Rattle.text_reading.specs.ReadingNumbers.{limit}

-- x where the input is over the limit
abbrev pub within_limit : {A : Type 0} → List ℕ → A → A → A
within_limit input x a = pick (leb (length input) limit) a x

-- ---- reading: 11, 12, the reading's refusal, 9

unfoldable pub read_answer : ℕ → List ℕ → ℕ → Answer
read_answer form text room =
    in_form (form_of form) (bare 11) (λ f. within_limit text (bare 12) (answer_of words_of (length text) room (read_in f text)))

unfoldable pub read_words : ℕ → List ℕ → List ℕ → List ℕ
read_words form text words =
    in_form (form_of form) words (λ f. within_limit text words (written_of words_of words (read_in f text)))

-- ---- the fifth number: of a text up to its end or its first fault; an accepted reading carries it, and a refusal 0

unfoldable pub respelled_in : ℕ → List ℕ → ℕ
respelled_in form text = in_form (form_of form) 0 (λ f. respelled_before f text)

abbrev pub read_reading : ℕ → List ℕ → ℕ → ReadAnswer
read_reading form text room = carrying (read_answer form text room) (respelled_in form text)

-- ---- a lone read: 11, 12, then as an element is read

unfoldable pub lone_step : ℕ → List ℕ → ℕ → Step
lone_step form text at =
    in_form (form_of form) (Refused 11 0 0) (λ f. within_limit text (Refused 12 0 0) (step_at f text at))

-- ---- a lone read into words: as before, and 9 where its words do not fit

abbrev pub fits_or : {A : Type 0} → Step → ℕ → A → A → A
fits_or step room a x = pick (leb (length (step_words step)) room) a x

unfoldable pub one_reading : ℕ → List ℕ → ℕ → ℕ → ReadAnswer
one_reading form text at room =
    let step : Step = lone_step form text at in
    fits_or step room (step_reading step) (carrying (short_room (length (step_words step))) 0)

unfoldable pub one_words : ℕ → List ℕ → ℕ → List ℕ → List ℕ
one_words form text at words =
    let step : Step = lone_step form text at in
    fits_or step (length words) (over words (step_words step)) words
