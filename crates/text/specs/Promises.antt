-- To be believed: the promise of each public function, by its name; its arguments, at entry, then its result, then what a lent buffer holds
-- after. That the answers cited are document 01's table is proved in proofs/Demands.
-- Assumes nothing.
use Rattle.std.specs.Prelude.{ℕ, ◌≡◌, List, length}
use Rattle.run.specs.declared.Answer.{Answer}
use Rattle.run.specs.declared.ReadAnswer.{ReadAnswer}
use Rattle.text.specs.WriteAnswers.{write_answer, write_text, convert_reading, convert_text}

-- words, written as a text into the octets lent
abbrev pub WritePromise : ℕ → List ℕ → List ℕ → Answer → List ℕ → Type 0
WritePromise form words text r after = (r ≡ write_answer form words (length text)) × (after ≡ write_text form words text)

-- a text, converted from one form to another, or within one, into the octets lent
abbrev pub ConvertPromise : ℕ → ℕ → List ℕ → List ℕ → ReadAnswer → List ℕ → Type 0
ConvertPromise source target text out r after =
    (r ≡ convert_reading source target text (length out)) × (after ≡ convert_text source target text out)
