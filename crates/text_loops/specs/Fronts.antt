-- Proved equal to the runs and refusals of the grammar: what is read of a text up to its end or its first fault (`read_in`: text_reading,
-- proofs/ReadTexts, accepted_exactly and refused_exactly; `elements_before`: run, proofs/Before, before_accepted and before_refused;
-- `respelled_before`: text_reading, proofs/Respelled, respelled_exactly). Below, where it is said, parts of the code.
-- Assumes nothing.
use Rattle.std.specs.Prelude.{ℕ, ◌+◌, ◌≡◌, Bool, true, false, List, [], eqb, leb, length}
use Rattle.run.specs.Choice.{pick}
use Rattle.run.specs.Head.{Outcome, accepted, refusal, outcome}
use Rattle.run.specs.Before.{whats, before}
use Rattle.run.specs.Tally.{tally_of}
use Rattle.run.specs.declared.Answer.{Answer}
use Rattle.run.specs.Answers.{answer, given, roomy_answer}
use Rattle.run.specs.Put.{Put}
use Rattle.sorts.specs.declared.Form.{Form}
use Rattle.element_words.specs.declared.Element.{Element}
use Rattle.element_words.specs.Words.{words_of}
use Rattle.element_spelling.specs.ElementOctets.{is_canonical}
use Rattle.element_reading.specs.declared.Step.{Step}
use Rattle.element_reading.specs.ElementHead.{head_in}
use Rattle.element_reading.specs.ElementNumbers.{step_answer}
use Rattle.text_loops.specs.declared.Measured.{Measured}

-- a text of a form, read: its elements, or the first refusal
abbrev pub read_in : Form → List ℕ → Outcome Element
read_in f text = outcome (head_in f) text

-- the elements of a text before its end or its first fault, and their words
abbrev pub elements_before : Form → List ℕ → List Element
elements_before f text = whats (before (head_in f) text)

abbrev pub words_before : Form → List ℕ → List ℕ
words_before f text = given words_of (elements_before f text)

-- how many of them did not stand in their canonical spelling
abbrev pub respelled_before : Form → List ℕ → ℕ
respelled_before f text = tally_of (is_canonical f) (head_in f) text

-- what measuring a text answers: as with room enough; how many words stand before its end or its first fault; and how many elements that
-- were not canonical
abbrev pub measured : Form → List ℕ → Measured
measured f text =
    record {
      answer = roomy_answer words_of (length text) (read_in f text);
      words = length (words_before f text);
      respelled = respelled_before f text;
    }

-- what is asked for of a text's words: where only a whole text is wanted, nothing of one that is refused
abbrev pub asked_for : Bool → Outcome Element → List ℕ → List ℕ
asked_for whole (accepted es) ws = ws
asked_for whole (refusal r n p d) ws = pick whole [] ws

-- ---- parts of the code

-- a text of fewer octets is read in one pass
abbrev pub short : ℕ
short = 12

-- what reading a text into a buffer with room enough leaves: how far it came, and the words up to there over the buffer's first entries
pub record ReadInto (f : Form) (text into : List ℕ) (m : Measured) (after : List ℕ) : Type 0 where
  pub measures : m ≡ measured f text
  pub puts : Put into 0 (words_before f text) after m.words

-- what was measured is asked for, and a buffer of `room` entries holds its words from the place o on
abbrev pub is_wanted : Measured → ℕ → ℕ → Bool → Bool
is_wanted m room o whole = pick (leb (o + m.words) room) (pick whole (eqb m.answer.number 0) true) false

-- "A lone read's refusal has element 0; the text reader puts its own count there": the answer of a step after n elements
abbrev pub step_answer_after : ℕ → Step → Answer
step_answer_after n step = answer (step_answer step).number n (step_answer step).place (step_answer step).count
