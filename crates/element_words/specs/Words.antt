-- To be believed: the words of an element (document 01, "Elements as words"). Proved equal to `Means` and to 01's rows: what stands at the
-- head of a list of words (Words: words_read; NumbersExactly: meant_exactly). One word below 2^26 is an element by its shape; whether a
-- form has it is `Held`'s question.
-- Assumes nothing.
use Rattle.std.specs.Prelude.{ℕ, ◌+◌, ◌*◌, ◌-◌, ◌/◌, ◌%◌, ◌<◌, min, Bool, true, false, List, [], ◌∷◌, length, take, drop, eqb, ltb}
use Rattle.run.specs.Choice.{pick}
use Rattle.run.specs.Head.{Head, element, refused, none}
use Rattle.sequence_reading.specs.Grammar.{Sequence}
use Rattle.sequence_reading.specs.EightValues.{values_of}
use Rattle.sequence_spelling.specs.SequenceOctets.{Fine, is_fine}
use Rattle.element_words.specs.declared.Element.{Element}
use Rattle.element_words.specs.declared.Element.TheVariants.{One, Sequence as SequenceOf}
use Rattle.element_words.specs.declared.Meant.{Meant}
use Rattle.element_words.specs.declared.Meant.TheVariants.{Element as Word, NoElement, End}

-- "Graphic: its code point, plus 2^24 if underlined."
abbrev pub underlined_from : ℕ
underlined_from = 0x1000000

abbrev pub graphic_word : Bool → ℕ → ℕ
graphic_word false c = c
graphic_word true c = underlined_from + c

-- "Control: 2^25 + octet."
abbrev pub controls_from : ℕ
controls_from = 0x2000000

abbrev pub control_word : ℕ → ℕ
control_word o = controls_from + o

-- "Sequence: 2^26 + 65536 x intermediate (0 if none) + 256 x final + number of values, then one word a value."
abbrev pub sequences_from : ℕ
sequences_from = 0x4000000

abbrev pub head_word : Sequence → ℕ
head_word q = sequences_from + 0x10000 * q.middle + 0x100 * q.last + length q.values

abbrev pub sequence_element : Sequence → Element
sequence_element q = SequenceOf (head_word q) (length q.values) (values_of q.values)

-- the words of an element: of a sequence its head word, and as many of its eight values as it counts
abbrev pub words_of : Element → List ℕ
words_of (One w) = w ∷ []
words_of (SequenceOf h n vs) = h ∷ take (min n 8) vs

-- an element that some words are: one word below 2^26, or a sequence that can be
pub data Proper : Element → Type 0 where
  one : {w : ℕ} → w < sequences_from → Proper (One w)
  sequence : {q : Sequence} → Fine q → Proper (sequence_element q)

-- these words are this element
pub data Means : List ℕ → Element → Type 0 where
  means : {e : Element} → Proper e → Means (words_of e) e

-- ---- from words to an element

-- the sequence of a head word and its values
abbrev pub sequence_of : ℕ → List ℕ → Sequence
sequence_of h vs = record { middle = (h - sequences_from) / 0x10000; last = h / 0x100 % 0x100; values = vs }

-- a head word and values that are a sequence: one that can be, and its own head word
abbrev pub is_sequence : ℕ → List ℕ → Bool
is_sequence h vs = pick (is_fine (sequence_of h vs)) (eqb (head_word (sequence_of h vs)) h) false

-- what stands at the head of a list of words; number 10: "words that are no element or are cut off"
unfoldable pub word_head : List ℕ → Head Element
word_head [] = none
word_head (w ∷ ws) =
    pick (ltb w sequences_from) (element (One w) 1)
    (pick (is_sequence w (take (w % 0x100) ws)) (element (sequence_element (sequence_of w (take (w % 0x100) ws))) (w % 0x100 + 1))
    (refused 10 0))

-- ---- the answer at a place

abbrev pub meant_of : ℕ → Head Element → Meant
meant_of at (element e k) = Word e (at + k)
meant_of at (refused r d) = NoElement
meant_of at none = End

unfoldable pub meant_at : List ℕ → ℕ → Meant
meant_at words at = meant_of at (word_head (drop at words))
