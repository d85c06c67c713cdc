-- To be believed: 01's number and values of each answer of the reader of an element, with the fifth of document 02, No. 5, and when each
-- is given.
-- Assumes nothing.
use Rattle.std.specs.Prelude.{ℕ, ◌+◌, ◌≤◌, ◌<◌, ◌≡◌, List, [], length, drop}
use Rattle.run.specs.Choice.{pick}
use Rattle.run.specs.declared.Answer.{Answer}
use Rattle.run.specs.declared.ReadAnswer.{ReadAnswer}
use Rattle.run.specs.Answers.{answer, bare}
use Rattle.run.specs.Grammar.{Begins}
use Rattle.sorts.specs.declared.Form.{Form}
use Rattle.element_words.specs.declared.Element.{Element}
use Rattle.element_words.specs.Words.{words_of}
use Rattle.element_spelling.specs.ElementOctets.{CanonicalElement}
use Rattle.element_reading.specs.declared.Step.{Step}
use Rattle.element_reading.specs.declared.Step.TheVariants.{Element as Read, Refused as Stopped, End}
use Rattle.element_reading.specs.Grammar.{Spells, Refuses}

-- 01's four numbers of each answer: an element read is one element, its place the place after it, its count its words; "A lone read's
-- refusal has element 0"; nothing where none is left
abbrev pub step_answer : Step → Answer
step_answer (Read e next canonical) = answer 0 1 next (length (words_of e))
step_answer (Stopped r p c) = answer r 0 p c
step_answer End = bare 0

-- the fifth: 1 of an element that did not stand in its canonical spelling, else 0
abbrev pub step_respelled : Step → ℕ
step_respelled (Read e next canonical) = pick canonical 0 1
step_respelled (Stopped r p c) = 0
step_respelled End = 0

abbrev pub step_reading : Step → ReadAnswer
step_reading step = record { answer = step_answer step; respelled = step_respelled step }

-- the words of the element that was read; none in any other answer
abbrev pub step_words : Step → List ℕ
step_words (Read e next canonical) = words_of e
step_words (Stopped r p c) = []
step_words End = []

-- the five numbers
abbrev pub reading : Answer → ℕ → ReadAnswer
reading a k = record { answer = a; respelled = k }

-- 01's rows for one element at a place of a text in a form: the four numbers, the fifth, and the element's words
pub data ElementRow (f : Form) (text : List ℕ) (at : ℕ) : ReadAnswer → List ℕ → Type 0 where
  -- "Asked at or past the end of the text, it answers that none is left."
  none_left : length text ≤ at → ElementRow f text at (reading (bare 0) 0) []
  -- "Each element read answers with the element and the place after it": its k octets stand there; 02: they are "its form's canonical
  -- spelling",
  canonical : {e : Element} {k : ℕ} (begins : Begins (Spells f) (drop at text) e k) → CanonicalElement f begins.front e
      → ElementRow f text at (reading (answer 0 1 (at + k) (length (words_of e))) 0) (words_of e)
  -- or not
  otherwise : {e : Element} {k : ℕ} (begins : Begins (Spells f) (drop at text) e k) → (CanonicalElement f begins.front e → ⊥)
      → ElementRow f text at (reading (answer 0 1 (at + k) (length (words_of e))) 1) (words_of e)
  -- ", or with its refusal": 1 to 8, the deciding octet d octets behind the first; "A lone read's refusal has element 0"
  refused : {r d : ℕ} → Refuses f (drop at text) r d → ElementRow f text at (reading (answer r 0 at (at + d)) 0) []

-- a step goes on, inside the text; a refusal stands at the place asked for, its deciding octet in the text or at its end
abbrev pub InsideText : List ℕ → ℕ → Step → Type 0
InsideText text at (Read e next b) = (at < next) × (next ≤ length text)
InsideText text at (Stopped r p d) = (0 < r) × (p ≡ at) × (at < length text) × (at ≤ d) × (d ≤ length text)
InsideText text at End = length text ≤ at
