-- To be believed: the promise of each public function, by its name; its arguments, at entry, then its result, then what a lent buffer holds
-- after. Where the result is an enum, the second part says of 01's number and values of it when they are given.
-- Assumes nothing.
use Rattle.std.specs.Prelude.{ℕ, min, ◌≡◌, Bool, List, length}
use Rattle.run.specs.Put.{Put, what_fits}
use Rattle.element_words.specs.declared.Element.{Element}
use Rattle.element_words.specs.declared.Meant.{Meant}
use Rattle.element_words.specs.Words.{words_of, is_sequence, meant_at}
use Rattle.element_words.specs.MeantNumbers.{meant_answer, meant_words, MeantRow}

-- whether a head word and values are a sequence
abbrev pub IsSequencePromise : ℕ → List ℕ → Bool → Type 0
IsSequencePromise head values r = r ≡ is_sequence head values

-- the element that the words at a place are; its four numbers, and its words, stand in 01's row for that place
abbrev pub ElementOfPromise : List ℕ → ℕ → Meant → Type 0
ElementOfPromise words at r = (r ≡ meant_at words at) × MeantRow words at (meant_answer at r) (meant_words r)

-- how many of its eight a sequence's values are
abbrev pub KeptPromise : ℕ → ℕ → Type 0
KeptPromise count r = r ≡ min count 8

-- how many words an element has
abbrev pub WordsInPromise : Element → ℕ → Type 0
WordsInPromise e r = r ≡ length (words_of e)

-- its words, from a place on, where there is room for all of them; else nothing; and the place behind
abbrev pub PutWordsPromise : Element → List ℕ → ℕ → ℕ → List ℕ → Type 0
PutWordsPromise e words at r after = Put words at (what_fits words at (words_of e)) after r
