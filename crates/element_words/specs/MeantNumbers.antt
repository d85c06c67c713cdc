-- To be believed: 01's number and values of each answer for the words at a place, and when each is given.
-- Assumes nothing.
use Rattle.std.specs.Prelude.{ℕ, ◌+◌, ◌≤◌, ◌<◌, List, [], length, drop}
use Rattle.run.specs.declared.Answer.{Answer}
use Rattle.run.specs.Answers.{answer, bare}
use Rattle.run.specs.Grammar.{Begins}
use Rattle.element_words.specs.declared.Element.{Element}
use Rattle.element_words.specs.declared.Meant.{Meant}
use Rattle.element_words.specs.declared.Meant.TheVariants.{Element as Word, NoElement, End}
use Rattle.element_words.specs.Words.{words_of, Means}

-- 01's four numbers of each answer: an element is one element, its place the place after it, its count its words; 10 has the place of its
-- first word, and no count; nothing where none is left
abbrev pub meant_answer : ℕ → Meant → Answer
meant_answer at (Word e next) = answer 0 1 next (length (words_of e))
meant_answer at NoElement = answer 10 0 at 0
meant_answer at End = bare 0

-- the words of the element; none in any other answer
abbrev pub meant_words : Meant → List ℕ
meant_words (Word e next) = words_of e
meant_words NoElement = []
meant_words End = []

-- 01's rows for one element at a place of a list of words: the four numbers, and its words
pub data MeantRow (words : List ℕ) (at : ℕ) : Answer → List ℕ → Type 0 where
  -- none is left at or past the end
  none_left : length words ≤ at → MeantRow words at (bare 0) []
  -- the words of an element stand there
  element : {e : Element} {k : ℕ} → Begins Means (drop at words) e k
      → MeantRow words at (answer 0 1 (at + k) (length (words_of e))) (words_of e)
  -- 10: "words that are no element or are cut off": words stand there, and no element's are the first of them
  no_element : at < length words → ((e : Element) (k : ℕ) → Begins Means (drop at words) e k → ⊥) → MeantRow words at (answer 10 0 at 0) []
