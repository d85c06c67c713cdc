-- Proved equal to WhatChanged (proofs/Exactly: compared_exactly): what comparing two texts answers, by the elements of each and the octets
-- that spell them, side by side. Below, where it is said, to be believed: the part that is handed back.
-- Assumes nothing.
use Rattle.std.specs.Prelude.{ℕ, ◌+◌, Bool, false, List, [], ◌∷◌, eqb, ltb, length, drop}
use Rattle.run.specs.Choice.{pick, same_octets}
use Rattle.run.specs.Head.{Outcome, accepted, refusal, outcome}
use Rattle.run.specs.Tagged.{tagged}
use Rattle.run.specs.Answers.{answer, bare, count_of}
use Rattle.sorts.specs.declared.Form.{Form}
use Rattle.sorts.specs.Forms.{form_of, in_form}
use Rattle.element_words.specs.declared.Element.{Element}
use Rattle.element_words.specs.declared.Element.TheVariants.{One, Sequence as SequenceOf}
use Rattle.element_reading.specs.ElementHead.{head_in}
use Rattle.text_reading.specs.ReadAnswers.{within_limit}
use Rattle.compare.specs.declared.Comparison.{Comparison}
use Rattle.compare.specs.declared.Shared.{Shared}
use Rattle.compare.specs.WhatChanged.{refused_by, same_of, differ_at}

-- ---- tests

-- the same element: of two sequences, head word, count and values
abbrev pub same_element : Element → Element → Bool
same_element (One v) (One w) = eqb v w
same_element (One v) (SequenceOf h n vs) = false
same_element (SequenceOf h n vs) (One w) = false
same_element (SequenceOf h n vs) (SequenceOf i m ws) = pick (eqb h i) (pick (eqb n m) (same_octets vs ws) false) false

-- ---- what two texts share, element after element

-- an element, and the octets that spell it
abbrev pub Segment : Type 0
Segment = Element × List ℕ

abbrev pub own_octets : List ℕ → Element → List ℕ
own_octets p e = p

-- a text, read: its elements with their octets, or the first refusal
abbrev pub segments_in : Form → List ℕ → Outcome Segment
segments_in f text = outcome (tagged own_octets (head_in f)) text

abbrev pub shared_of : ℕ → ℕ → ℕ → ℕ → Shared
shared_of n p q k = record { elements = n; first = p; second = q; otherwise = k }

abbrev pub nothing_shared : Shared
nothing_shared = shared_of 0 0 0 0

-- what is shared, and then more
abbrev pub and_then : Shared → Shared → Shared
and_then a b = shared_of (a.elements + b.elements) (a.first + b.first) (a.second + b.second) (a.otherwise + b.otherwise)

-- the same element in both: one, with the octets that it takes in each, and whether they are other ones
abbrev pub one_shared : List ℕ → List ℕ → Shared
one_shared p q = shared_of 1 (length p) (length q) (pick (same_octets p q) 0 1)

-- what both share from their beginning on, up to where they differ or one of them ends
abbrev pub shared : List Segment → List Segment → Shared
shared [] ys = nothing_shared
shared (x ∷ xs) [] = nothing_shared
shared (x ∷ xs) (y ∷ ys) =
    let more = shared xs ys in pick (same_element x.0 y.0) (and_then (one_shared x.1 y.1) more) nothing_shared

-- ---- the answer

-- of two accepted texts, by what they share, and whether the first goes on behind it, and the second
abbrev pub told_as : Shared → Bool → Bool → Comparison
told_as s first_goes_on second_goes_on =
    pick first_goes_on (differ_at s.elements s.first s.second 1 s.first)
    (pick second_goes_on (differ_at s.elements s.first s.second 2 s.second)
    (same_of s.elements s.first s.second s.otherwise))

-- of texts of these lengths
abbrev pub told_by : Shared → ℕ → ℕ → Comparison
told_by s first second = told_as s (ltb s.first first) (ltb s.second second)

abbrev pub by_readings : ℕ → ℕ → Outcome Segment → Outcome Segment → Comparison
by_readings first second (refusal r n p d) y = refused_by (answer r n p (count_of r d)) 1 first
by_readings first second (accepted xs) (refusal r n p d) = refused_by (answer r n p (count_of r d)) 2 first
by_readings first second (accepted xs) (accepted ys) = told_by (shared xs ys) first second

abbrev pub compared_in : Form → List ℕ → List ℕ → Comparison
compared_in f first second = by_readings (length first) (length second) (segments_in f first) (segments_in f second)

unfoldable pub comparison : ℕ → List ℕ → List ℕ → Comparison
comparison form first second =
    in_form (form_of form) (refused_by (bare 11) 0 (length first))
    (λ f. within_limit first (refused_by (bare 12) 1 (length first))
    (within_limit second (refused_by (bare 12) 2 (length first)) (compared_in f first second)))

-- ---- to be believed: the part that is handed back, of the text and from the place that the numbers say, to that text's end

-- its octets,
abbrev pub part_of : Comparison → List ℕ → List ℕ → List ℕ
part_of c first second = pick (eqb c.tail_text 2) (drop c.tail_place second) (drop c.tail_place first)

-- and where it lies: so many octets further on than its text, which lies in a block of memory, from an offset on
abbrev pub further_on : ℕ → ℕ × ℕ → ℕ × ℕ
further_on place at = (at.0, place + at.1)

abbrev pub lie_of : Comparison → ℕ × ℕ → ℕ × ℕ → ℕ × ℕ
lie_of c first second = further_on c.tail_place (pick (eqb c.tail_text 2) second first)
