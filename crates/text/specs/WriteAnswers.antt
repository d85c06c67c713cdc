-- Proved equal to document 01's table of numbers and its order of refusals (WritingNumbers, by proofs/Demands: write_exactly,
-- convert_exactly): the answers of writing and of converting, and what the lent buffer holds after. A conversion's fifth number is the one
-- that its text has in `text_reading`.
-- Assumes nothing.
use Rattle.std.specs.Prelude.{ℕ, List, length}
use Rattle.run.specs.declared.Answer.{Answer}
use Rattle.run.specs.declared.ReadAnswer.{ReadAnswer}
use Rattle.run.specs.Answers.{bare, carrying, answer_of, written_of, same}
use Rattle.sorts.specs.Forms.{form_of, in_form}
use Rattle.text_reading.specs.ReadAnswers.{within_limit, respelled_in}
use Rattle.text.specs.Outcomes.{write_in, convert_in}

-- ---- writing: 11, 12, 10, 9

unfoldable pub write_answer : ℕ → List ℕ → ℕ → Answer
write_answer form words room =
    in_form (form_of form) (bare 11) (λ f. within_limit words (bare 12) (answer_of same (length words) room (write_in f words)))

unfoldable pub write_text : ℕ → List ℕ → List ℕ → List ℕ
write_text form words text =
    in_form (form_of form) text (λ f. within_limit words text (written_of same text (write_in f words)))

-- ---- converting: 11 for the source, then for the target, 12, the reading's refusal, 10, 9

unfoldable pub convert_answer : ℕ → ℕ → List ℕ → ℕ → Answer
convert_answer source target text room =
    in_form (form_of source) (bare 11) (λ f. in_form (form_of target) (bare 11)
    (λ g. within_limit text (bare 12) (answer_of same (length text) room (convert_in f g text))))

unfoldable pub convert_text : ℕ → ℕ → List ℕ → List ℕ → List ℕ
convert_text source target text out =
    in_form (form_of source) out (λ f. in_form (form_of target) out
    (λ g. within_limit text out (written_of same out (convert_in f g text))))

-- "An accepted .. conversion between forms carries a fifth number: elements not canonical in the source form"; a refusal 0
abbrev pub convert_reading : ℕ → ℕ → List ℕ → ℕ → ReadAnswer
convert_reading source target text room = carrying (convert_answer source target text room) (respelled_in source text)
