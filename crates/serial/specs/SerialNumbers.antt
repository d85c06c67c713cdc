-- To be believed: the rows of request No. 1, for one call: which four numbers it answers, with the fifth of request No. 5, how many words
-- it hands out, and what the lent words hold after. What is read and refused is in the words of the grammar (`Spells`, `Refuses`), and what
-- is canonical in those of `CanonicalElement`, over the octets since fresh; nothing here speaks of a carry or of a reader.
-- Assumes nothing.
use Rattle.std.specs.Prelude.{ℕ, ◌≤◌, ◌<◌, ◌≡◌, Bool, true, false, List, ◌++◌, length}
use Rattle.run.specs.Grammar.{Run, RunOf}
use Rattle.run.specs.Tally.{Apart}
use Rattle.run.specs.declared.Answer.{Answer}
use Rattle.run.specs.Answers.{answer, bare, short_room, given, over}
use Rattle.sorts.specs.declared.Form.{Form}
use Rattle.element_words.specs.declared.Element.{Element}
use Rattle.element_words.specs.Words.{words_of}
use Rattle.element_spelling.specs.ElementOctets.{CanonicalElement}
use Rattle.element_reading.specs.Grammar.{Spells}
use Rattle.text_reading.specs.ReadingNumbers.{limit, ReadingFault}

-- "the elements before it": those of a text up to its end or its first fault
pub data UpToFault (f : Form) (text : List ℕ) : List Element → Type 0 where
  to_the_end : {es : List Element} → RunOf (Spells f) text es → UpToFault f text es
  to_a_fault : {r n p d : ℕ} (at : ReadingFault f text r n p d) → UpToFault f text at.elements

-- the words of a text's elements up to its end or its first fault
pub data WordsUpToFault (f : Form) (text : List ℕ) : List ℕ → Type 0 where
  words_of_all : {es : List Element} → UpToFault f text es → WordsUpToFault f text (given words_of es)

-- what a piece adds to the words of the octets taken before it: "the words to hand out"
pub record NewWords (f : Form) (taken piece ws : List ℕ) : Type 0 where
  pub before : List ℕ
  pub were : WordsUpToFault f taken before
  pub are : WordsUpToFault f (taken ++ piece) (before ++ ws)

-- the octets are elements, each its piece, and perhaps the beginning of one more: "carries an unfinished element"
pub data GoesOn (f : Form) (text : List ℕ) : List (List ℕ) → List Element → Type 0 where
  finished : {ps : List (List ℕ)} {es : List Element} → Run (Spells f) text ps es → GoesOn f text ps es
  unfinished : {n p d : ℕ} (at : ReadingFault f text 4 n p d) → GoesOn f text at.run.0 at.elements

-- One call of a page that goes on: the octets taken since fresh, before it; its piece; whether it is told that the page ends; the words
-- lent. In order. What 11 and a page that stopped answer is said of calls (Calls: Repeats). A row has the four numbers, the fifth, which
-- "is 0 on a refusal", how many words are handed out, and what the lent words hold after.
module _ (f : Form) (taken piece : List ℕ) (ended : Bool) (words : List ℕ) where
  pub data FedRow : Answer → ℕ → ℕ → List ℕ → Type 0 where
    -- "12 when a piece would pass the limit, before reading it"; "The limit counts octets since fresh."
    over_limit : limit < length (taken ++ piece) → FedRow (bare 12) 0 0 words
    -- "then 9 if the words to hand out don't fit, even where a fault follows"; "Short room hands out nothing"
    room_is_short : {ws : List ℕ} → length (taken ++ piece) ≤ limit → NewWords f taken piece ws → length words < length ws
        → FedRow (short_room (length ws)) 0 0 words
    -- "then the reading refusal"; 4 is one when told that the page ends. "A call that meets a fault still hands out the words before it; ..
    -- only entries past them stay untouched"
    fault : {ws : List ℕ} {r n p d : ℕ} → length (taken ++ piece) ≤ limit → NewWords f taken piece ws → length ws ≤ length words
        → ReadingFault f (taken ++ piece) r n p d → (r ≡ 4 → ended ≡ true) → FedRow (answer r n p d) 0 (length ws) (over words ws)
    -- "before the end it answers 0 with the elements, octets taken and words since fresh"; No. 5: "a fifth number: elements not canonical",
    -- of the elements since fresh
    so_far : {ws : List ℕ} {ps : List (List ℕ)} {es : List Element} {k : ℕ} → length (taken ++ piece) ≤ limit → NewWords f taken piece ws
        → length ws ≤ length words → GoesOn f (taken ++ piece) ps es → Apart (CanonicalElement f) ps es k → ended ≡ false
        → FedRow (answer 0 (length es) (length (taken ++ piece)) (length (given words_of es))) k (length ws) (over words ws)
    -- "the final answer is the whole page's under 01, the count on acceptance being of all words handed out"; No. 5: "An accepted reading
    -- (of a .. serial page too) .. carries a fifth number"
    accepted : {ws : List ℕ} {ps : List (List ℕ)} {es : List Element} {k : ℕ} → length (taken ++ piece) ≤ limit → NewWords f taken piece ws
        → length ws ≤ length words → Run (Spells f) (taken ++ piece) ps es → Apart (CanonicalElement f) ps es k → ended ≡ true
        → FedRow (answer 0 (length es) (length (taken ++ piece)) (length (given words_of es))) k (length ws) (over words ws)
