-- To be believed: document 01's table of numbers and its order of refusals. For a whole text: which four numbers are given, and what the
-- lent buffer holds after; and the fifth, of document 02, of an accepted text (`NotCanonical`). For one element: all five, and its words.
-- What is read and refused is in the words of the grammar (`Spells`, `Refuses`); nothing here speaks of a reader.
-- Assumes nothing.
use Rattle.std.specs.Prelude.{ℕ, ◌≤◌, ◌<◌, ◌≡◌, List, [], length, Some}
use Rattle.run.specs.Grammar.{Run, RunOf, Stopped}
use Rattle.run.specs.Tally.{Apart}
use Rattle.run.specs.declared.Answer.{Answer}
use Rattle.run.specs.declared.ReadAnswer.{ReadAnswer}
use Rattle.run.specs.Answers.{answer, bare, short_room, count_of, given, over}
use Rattle.sorts.specs.declared.Form.{Form}
use Rattle.sorts.specs.Forms.{form_of, NoForm}
use Rattle.element_words.specs.declared.Element.{Element}
use Rattle.element_words.specs.Words.{words_of}
use Rattle.element_spelling.specs.ElementOctets.{CanonicalElement}
use Rattle.element_reading.specs.Grammar.{Spells, Refuses}
use Rattle.element_reading.specs.ElementNumbers.{reading, ElementRow}

-- 12: "input over 1,048,576 entries"
abbrev pub limit : ℕ
limit = 1048576

-- ---- what is refused, behind a run of n elements, at the place p, with the deciding place d

-- 1 to 8: what is left is refused by the table
abbrev pub ReadingFault : Form → List ℕ → ℕ → ℕ → ℕ → ℕ → Type 0
ReadingFault f text r n p d = Stopped (Spells f) (λ rest b. Refuses f rest r b) text n p d

-- ---- the answer, in order: 12; 1 to 8 and 10; 9; accepted
-- `Runs es`: the input is a run of the elements es. `Fault`: it is refused so. `gives`: what an element puts into the lent buffer.

module _ {A : Type 0} (gives : A → List ℕ) (Runs : List A → Type 0) (Fault : ℕ → ℕ → ℕ → ℕ → Type 0) (input buffer : List ℕ) where
  -- how many entries the elements give
  abbrev Size : List A → ℕ
  Size es = length (given gives es)

  pub data Answered : Answer → List ℕ → Type 0 where
    -- 12: "input over 1,048,576 entries"
    over_limit : limit < length input → Answered (bare 12) buffer
    -- 1 to 8, 10: number, element, place, count. "A refusal writes nothing to any buffer."
    fault : {r n p d : ℕ} → length input ≤ limit → Fault r n p d → Answered (answer r n p (count_of r d)) buffer
    -- 9: "lent room is short": "0; room needed"
    room_is_short : {es : List A} → length input ≤ limit → Runs es → length buffer < Size es → Answered (short_room (Size es)) buffer
    -- "Accepted: 0, elements, input length, entries written. Entries past the count stay."
    accepted : {es : List A} → length input ≤ limit → Runs es → Size es ≤ length buffer
        → Answered (answer 0 (length es) (length input) (Size es)) (over buffer (given gives es))

  -- The number tells the row: what the input is, the four numbers, and what the buffer holds.
  pub record Tells (a : Answer) (after : List ℕ) : Type 0 where
    pub not_11 : a.number ≡ 11 → ⊥
    pub is_12 : a.number ≡ 12 → (limit < length input) × (a ≡ bare 12)
    pub is_9 : a.number ≡ 9
        → (es : List A) × (length input ≤ limit) × Runs es × (length buffer < Size es) × (a ≡ short_room (Size es))
    pub is_0 : a.number ≡ 0
        → (es : List A) × (length input ≤ limit) × Runs es × (Size es ≤ length buffer)
        × (a ≡ answer 0 (length es) (length input) (Size es)) × (after ≡ over buffer (given gives es))
    pub is_fault : 0 < a.number → a.number < 11 → (a.number ≡ 9 → ⊥)
        → (d : ℕ) × (length input ≤ limit) × Fault a.number a.element a.place d × (a.count ≡ count_of a.number d)
    -- "A refusal writes nothing to any buffer."
    pub kept : (a.number ≡ 0 → ⊥) → after ≡ buffer

-- 11 goes before
pub data Formed (form : ℕ) (buffer : List ℕ) (Inside : Form → Answer → List ℕ → Type 0) : Answer → List ℕ → Type 0 where
  no_form : NoForm form → Formed form buffer Inside (bare 11) buffer
  of_a_form : {f : Form} {a : Answer} {after : List ℕ} → form_of form ≡ Some f → Inside f a after → Formed form buffer Inside a after

-- "Order: 11 (source, then target), 12, reading .., 10, 9."
abbrev pub ReadTable : ℕ → List ℕ → List ℕ → Answer → List ℕ → Type 0
ReadTable form text words = Formed form words (λ f. Answered words_of (RunOf (Spells f) text) (ReadingFault f text) text words)

-- ---- document 02, No. 5: "elements not canonical in the source form": so many pieces of the one run that a text is in its form

pub record NotCanonical (form : ℕ) (text : List ℕ) (k : ℕ) : Type 0 where
  pub the_form : Form
  pub is_form : form_of form ≡ Some the_form
  pub pieces : List (List ℕ)
  pub elements : List Element
  pub run : Run (Spells the_form) text pieces elements
  pub counted : Apart (CanonicalElement the_form) pieces elements k

-- ---- one element at a place: 11, 12, then none left, the element or its refusal: the five numbers, and the element's words

module _ (form : ℕ) (text : List ℕ) (at : ℕ) where
  pub data LoneTable : ReadAnswer → List ℕ → Type 0 where
    no_form : NoForm form → LoneTable (reading (bare 11) 0) []
    over_limit : {f : Form} → form_of form ≡ Some f → limit < length text → LoneTable (reading (bare 12) 0) []
    -- "the element and the place after it, or .. its refusal"; "that none is left"
    one_element : {f : Form} {a : ReadAnswer} {words : List ℕ} → form_of form ≡ Some f → length text ≤ limit → ElementRow f text at a words
        → LoneTable a words

  -- its words into the words lent, where they fit; 9: "lent room is short": "0; room needed"
  pub data OneTable (lent : List ℕ) : ReadAnswer → List ℕ → Type 0 where
    fits : {a : ReadAnswer} {words : List ℕ} → LoneTable a words → length words ≤ length lent → OneTable lent a (over lent words)
    room_is_short : {a : ReadAnswer} {words : List ℕ} → LoneTable a words → length lent < length words
        → OneTable lent (reading (short_room (length words)) 0) lent
