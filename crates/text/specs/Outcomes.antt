-- To be believed, `Respells`: which octets of one form are respelt as which of another. Proved equal to its runs and to those of `Writes`
-- (proofs/Demands: convert_exactly, write_exactly), the outcomes: what a text comes to, converted to a form, and what words come to,
-- written in a form.
-- Assumes nothing.
use Rattle.std.specs.Prelude.{ℕ, List}
use Rattle.run.specs.Head.{Head, Outcome, outcome}
use Rattle.run.specs.Answers.{after_reading}
use Rattle.run.specs.Speller.{spelt_by}
use Rattle.sorts.specs.declared.Form.{Form}
use Rattle.element_words.specs.declared.Element.{Element}
use Rattle.element_reading.specs.Grammar.{Spells}
use Rattle.element_reading.specs.ElementHead.{head_in}
use Rattle.element_spelling.specs.ElementOctets.{CanonicalElement, Held, spell_element, spell_head}
use Rattle.text_loops.specs.Fronts.{read_in}

-- words, written in a form: the octets of each element, or the first refusal
abbrev pub write_in : Form → List ℕ → Outcome (List ℕ)
write_in f words = outcome (spell_head f) words

-- ---- conversion

-- these octets of the form f are respelt as those of the form g
pub data Respells (f g : Form) : List ℕ → List ℕ → Type 0 where
  respells : {p s : List ℕ} {e : Element} → Spells f p e → Held g e → CanonicalElement g s e → Respells f g p s

-- what stands at the head of a text of the form f, as octets of the form g; number 10 where g does not hold it
abbrev pub respell_head : Form → Form → List ℕ → Head (List ℕ)
respell_head f g = spelt_by (spell_element g) (head_in f)

-- a text, respelt element after element
abbrev pub respell_in : Form → Form → List ℕ → Outcome (List ℕ)
respell_in f g text = outcome (respell_head f g) text

-- "Order: .. reading .., 10, 9": the whole text is read first, and then each element is respelt
unfoldable pub convert_in : Form → Form → List ℕ → Outcome (List ℕ)
convert_in f g text = after_reading (read_in f text) (respell_in f g text)
