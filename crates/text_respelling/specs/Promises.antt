-- To be believed: the promise of each public function, by its name; its arguments, at entry, then its result, then what the lent buffer
-- holds after. It is what `text` says of converting, once the forms are known; `respelt_after_reading`, a part of the code, is its
-- `convert_in`, and `respelled_before` its `respelled_in`.
-- Assumes nothing.
use Rattle.std.specs.Prelude.{◌≡◌, List, ℕ, length}
use Rattle.run.specs.declared.ReadAnswer.{ReadAnswer}
use Rattle.run.specs.Answers.{bare, carrying, answer_of, written_of, same}
use Rattle.sorts.specs.declared.Form.{Form}
use Rattle.text_loops.specs.Fronts.{respelled_before}
use Rattle.text_reading.specs.ReadAnswers.{within_limit}
use Rattle.text_respelling.specs.Parts.{respelt_after_reading}

-- a text of the first form, respelt in the second into the octets lent; an accepted answer carries how many of its elements were "not
-- canonical in the source form"
abbrev pub RespellPromise : Form → Form → List ℕ → List ℕ → ReadAnswer → List ℕ → Type 0
RespellPromise source target text out r after =
    (r ≡ carrying (within_limit text (bare 12) (answer_of same (length text) (length out) (respelt_after_reading source target text)))
    (respelled_before source text))
    × (after ≡ within_limit text out (written_of same out (respelt_after_reading source target text)))
