-- Proved equal to the grammar (Reader: reads, refuses_exactly_by) and to 01's rows (NumbersExactly: step_exactly): what the reader of an
-- element answers.
-- Assumes nothing.
use Rattle.std.specs.Prelude.{ℕ, ◌+◌, Bool, true, false, List, [], ◌∷◌, drop, eqb, Option, Some, None}
use Rattle.run.specs.Choice.{pick}
use Rattle.run.specs.Head.{Head, element, refused, none}
use Rattle.run.specs.Tagged.{tagged}
use Rattle.sorts.specs.declared.Form.{Form}
use Rattle.sorts.specs.declared.Sort.{Sort}
use Rattle.sorts.specs.declared.Sort.TheVariants.{Graphic, Mark, Underline, Shift, Control, SequenceStart, Refused}
use Rattle.squares.specs.Squares.{square_of}
use Rattle.sorts.specs.Sorts.{sort_in, shifted_in, sort_number}
use Rattle.sequence_reading.specs.Grammar.{Sequence}
use Rattle.sequence_reading.specs.SequenceHead.{sequence_head}
use Rattle.element_words.specs.declared.Element.{Element}
use Rattle.element_words.specs.declared.Element.TheVariants.{One}
use Rattle.element_reading.specs.declared.Step.{Step}
use Rattle.element_reading.specs.declared.Step.TheVariants.{Element as Read, Refused as Stopped, End}
use Rattle.element_words.specs.Words.{graphic_word, control_word, sequence_element}
use Rattle.element_spelling.specs.ElementOctets.{is_canonical}

-- "at one octet 5 goes first": 5 for an octet of 80 or above in seven bits, else the number of what may not stand there
abbrev pub high_or : ℕ → Sort → ℕ
high_or k s = pick (eqb (sort_number s) 5) 5 k

-- a follower, d octets behind the element's first, that a mark has or has not
abbrev pub pair_head : Bool → ℕ → Option ℕ → Sort → Head Element
pair_head u d (Some c) s = element (One (graphic_word u c)) (d + 1)
pair_head u d None s = refused (high_or 3 s) d

-- what follows a mark
unfoldable pub follower_head : Form → ℕ → Bool → ℕ → List ℕ → Head Element
follower_head f m u d [] = refused 4 d
follower_head f m u d (l ∷ t) = pair_head u d (square_of m l) (sort_in f l)

-- what follows SS2 or CC, by its sort: a spacing character, a mark, or what may not follow, refused with the number k or 5
abbrev pub second_sort : Form → Bool → ℕ → Sort → List ℕ → Head Element
second_sort f u k (Graphic c) t = element (One (graphic_word u c)) 2
second_sort f u k (Mark m) t = follower_head f m u 2 t
second_sort f u k Underline t = refused k 1
second_sort f u k Shift t = refused k 1
second_sort f u k Control t = refused k 1
second_sort f u k SequenceStart t = refused k 1
second_sort f u k (Refused n) t = refused (high_or k (Refused n)) 1

abbrev pub second_head : Form → Bool → ℕ → (ℕ → Sort) → List ℕ → Head Element
second_head f u k sort [] = refused 4 1
second_head f u k sort (o ∷ t) = second_sort f u k (sort o) t

-- what follows SS2
unfoldable pub shifted_head : Form → List ℕ → Head Element
shifted_head f s = second_head f false 1 (shifted_in f) s

-- what follows CC
unfoldable pub underlined_head : Form → List ℕ → Head Element
underlined_head f s = second_head f true 3 (sort_in f) s

-- a control sequence as an element
abbrev pub as_element : Head Sequence → Head Element
as_element (element q k) = element (sequence_element q) k
as_element (refused r d) = refused r d
as_element none = none

abbrev pub head_sort : Form → Sort → ℕ → List ℕ → Head Element
head_sort f (Graphic c) o t = element (One (graphic_word false c)) 1
head_sort f (Mark m) o t = follower_head f m false 1 t
head_sort f Underline o t = underlined_head f t
head_sort f Shift o t = shifted_head f t
head_sort f Control o t = element (One (control_word o)) 1
head_sort f SequenceStart o t = as_element (sequence_head (o ∷ t))
head_sort f (Refused n) o t = refused n 0

-- what stands at the head of a list of octets
unfoldable pub head_in : Form → List ℕ → Head Element
head_in f [] = none
head_in f (o ∷ t) = head_sort f (sort_in f o) o t

-- ---- the answer at a place

-- document 02, No. 5: "Each element read must also say whether it stood in its form's canonical spelling"
abbrev pub canonical_head : Form → List ℕ → Head (Element × Bool)
canonical_head f = tagged (is_canonical f) (head_in f)

abbrev pub step_of : ℕ → Head (Element × Bool) → Step
step_of at (element x k) = Read x.0 (at + k) x.1
step_of at (refused r d) = Stopped r at (at + d)
step_of at none = End

-- "Each element read answers with the element and the place after it, or with its refusal .. Asked at or past the end of the text, it
-- answers that none is left."
unfoldable pub step_at : Form → List ℕ → ℕ → Step
step_at f text at = step_of at (canonical_head f (drop at text))
