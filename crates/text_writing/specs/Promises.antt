-- To be believed: the promise of each public function, by its name; its arguments, at entry, then its result, then what the lent buffer
-- holds after, where there is one. What writing promises is what `text` says of it, once the form is known.
-- Assumes nothing.
use Rattle.std.specs.Prelude.{◌≡◌, List, ℕ, length}
use Rattle.run.specs.Head.{outcome}
use Rattle.run.specs.declared.Answer.{Answer}
use Rattle.run.specs.Answers.{answer, bare, answer_of, written_of, same}
use Rattle.sorts.specs.declared.Form.{Form}
use Rattle.element_spelling.specs.ElementOctets.{spell_head}
use Rattle.text_reading.specs.ReadAnswers.{within_limit}

-- 10, after so many elements, at a place
abbrev pub NotHeldPromise : ℕ → ℕ → Answer → Type 0
NotHeldPromise n at r = r ≡ answer 10 n at 0

-- words, written in a form into the octets lent
abbrev pub WriteInPromise : Form → List ℕ → List ℕ → Answer → List ℕ → Type 0
WriteInPromise form words text r after =
    (r ≡ within_limit words (bare 12) (answer_of same (length words) (length text) (outcome (spell_head form) words)))
    × (after ≡ within_limit words text (written_of same text (outcome (spell_head form) words)))
