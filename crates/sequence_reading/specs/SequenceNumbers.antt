-- To be believed: 01's number and values of each answer of the reader of a control sequence, and when each is given.
-- Assumes nothing.
use Rattle.std.specs.Prelude.{ℕ, ◌+◌, ◌≤◌, ◌≡◌, List, [], ◌∷◌, length, take, drop}
use Rattle.run.specs.declared.Answer.{Answer}
use Rattle.run.specs.Answers.{answer, bare}
use Rattle.run.specs.Grammar.{Begins}
use Rattle.sorts.specs.Forms.{CSI}
use Rattle.sequence_reading.specs.declared.Reading.{Reading}
use Rattle.sequence_reading.specs.declared.Reading.TheVariants.{Whole, Refused, End}
use Rattle.sequence_reading.specs.Grammar.{Sequence, SpellsSequence, RefusesSequence}

-- 01's four numbers of each answer for the place `at`: a sequence is one element, its place the place after it, its count its words, a
-- head word and "one word a value"; a refusal has the place of its first octet and that of the deciding one; nothing where none is left
abbrev pub reading_answer : ℕ → Reading → Answer
reading_answer at (Whole m f n vs next) = answer 0 1 next (1 + n)
reading_answer at (Refused r deciding) = answer r 0 at deciding
reading_answer at End = bare 0

-- the sequence that was read: its intermediate (0 if none), its final, as many values as it has; none in any other answer
abbrev pub sequence_read : Reading → List Sequence
sequence_read (Whole m f n vs next) = record { middle = m; last = f; values = take n vs } ∷ []
sequence_read (Refused r deciding) = []
sequence_read End = []

-- 01's rows for one sequence at a place of a text: the four numbers, and the sequence
pub data SequenceRow (text : List ℕ) (at : ℕ) : Answer → List Sequence → Type 0 where
  -- "Asked at or past the end of the text, it answers that none is left."
  none_left : length text ≤ at → SequenceRow text at (bare 0) []
  -- a sequence of k octets stands there
  sequence : {q : Sequence} {k : ℕ} → Begins SpellsSequence (drop at text) q k
      → SequenceRow text at (answer 0 1 (at + k) (1 + length q.values)) (q ∷ [])
  -- 4, 6, 7 or 8, the deciding octet d octets behind the 9B
  refused : {r d : ℕ} → RefusesSequence (drop at text) r d → SequenceRow text at (answer r 0 at (at + d)) []
  -- 6 at once where another octet than 9B stands
  no_sequence : {b : ℕ} {t : List ℕ} → drop at text ≡ b ∷ t → (b ≡ CSI → ⊥) → SequenceRow text at (answer 6 0 at at) []
