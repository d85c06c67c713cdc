-- Proved equal to the grammar (Reader: sequence_reads, refuses_exactly) and to 01's rows (NumbersExactly: reading_exactly): what the reader
-- of a control sequence answers, octet by octet, from the 9B on. A part of the code: `Fair`.
-- Assumes nothing.
use Rattle.std.specs.Prelude.{ℕ, Result, Ok, Err, ◌+◌, ◌*◌, ◌≤◌, List, [], ◌∷◌, ◌++◌, length, drop, leb, eqb}
use Rattle.run.specs.Choice.{pick}
use Rattle.run.specs.Head.{Head, element, refused, none}
use Rattle.sorts.specs.Forms.{CSI}
use Rattle.sequence_reading.specs.declared.Kind.{Kind}
use Rattle.sequence_reading.specs.declared.Kind.TheVariants.{Digit, Separator, Middle, Final, Other}
use Rattle.sequence_reading.specs.declared.Scan.{Scan}
use Rattle.sequence_reading.specs.declared.Next.{Next}
use Rattle.sequence_reading.specs.declared.Next.TheVariants.{More, Value, Last}
use Rattle.sequence_reading.specs.declared.Reading.{Reading}
use Rattle.sequence_reading.specs.declared.Reading.TheVariants.{Whole, Refused, End}
use Rattle.sequence_reading.specs.Kinds.{kind_of}
use Rattle.sequence_reading.specs.Grammar.{Sequence}
use Rattle.sequence_reading.specs.EightValues.{values_of}

-- ---- one octet

-- number 6 after an intermediate
abbrev pub unless_late : Scan → Result Next ℕ → Result Next ℕ
unless_late s n = pick (eqb s.middle 0) n (Err 6)

-- number 8 where this is the 40th octet
abbrev pub unless_full : Scan → Result Next ℕ → Result Next ℕ
unless_full s n = pick (leb 39 s.taken) (Err 8) n

-- a digit: number 7 where the value passes 999
unfoldable pub digit_step : Scan → ℕ → Result Next ℕ
digit_step s d =
    unless_late s
    (pick (leb (s.current * 10 + d) 999)
    (unless_full s (Ok (More (record { current = s.current * 10 + d; closed = s.closed; middle = 0; taken = s.taken + 1 }))))
    (Err 7))

-- a 3B: number 7 where it opens a ninth value
unfoldable pub value_step : Scan → Result Next ℕ
value_step s =
    unless_late s
    (pick (leb 7 s.closed)
    (Err 7)
    (unless_full s (Ok (Value (record { current = 0; closed = s.closed + 1; middle = 0; taken = s.taken + 1 })))))

-- an intermediate
unfoldable pub middle_step : Scan → ℕ → Result Next ℕ
middle_step s i =
    unless_late s
    (unless_full s (Ok (More (record { current = s.current; closed = s.closed; middle = i; taken = s.taken + 1 }))))

abbrev pub kind_step : Kind → Scan → Result Next ℕ
kind_step (Digit d) s = digit_step s d
kind_step Separator s = value_step s
kind_step (Middle i) s = middle_step s i
kind_step (Final f) s = Ok (Last f)
kind_step Other s = Err 6

unfoldable pub step_of : Scan → ℕ → Result Next ℕ
step_of s b = kind_step (kind_of b) s

-- ---- octet after octet: vs are the values that are closed

abbrev pub after : Result Next ℕ → List ℕ → Scan → (List ℕ → Scan → Head Sequence) → Head Sequence
after (Ok (More t)) vs s rest = rest vs t
after (Ok (Value t)) vs s rest = rest (vs ++ (s.current ∷ [])) t
after (Ok (Last f)) vs s rest = element (record { middle = s.middle; last = f; values = vs ++ (s.current ∷ []) }) (s.taken + 1)
after (Err n) vs s rest = refused n s.taken

unfoldable pub scan : List ℕ → Scan → List ℕ → Head Sequence
scan vs s [] = refused 4 s.taken
scan vs s (b ∷ bs) = after (step_of s b) vs s (λ ws t. scan ws t bs)

-- only 9B is taken
abbrev pub begun : Scan
begun = record { current = 0; closed = 0; middle = 0; taken = 1 }

-- what stands at the head of a list: a sequence, or its refusal; 6 at once where no 9B stands there
unfoldable pub sequence_head : List ℕ → Head Sequence
sequence_head [] = none
sequence_head (b ∷ bs) = pick (eqb b CSI) (scan [] begun bs) (refused 6 0)

-- ---- the answer at a place

abbrev pub reading_of : ℕ → Head Sequence → Reading
reading_of at (element q k) = Whole q.middle q.last (length q.values) (values_of q.values) (at + k)
reading_of at (refused r d) = Refused r (at + d)
reading_of at none = End

unfoldable pub reading_at : List ℕ → ℕ → Reading
reading_at text at = reading_of at (sequence_head (drop at text))

-- ---- parts of the code

-- the bounds that a state keeps: the value that is open, the values before it, the octets before the final
pub record Fair (s : Scan) : Type 0 where
  pub small : s.current ≤ 999
  pub few : s.closed ≤ 7
  pub short : s.taken ≤ 39
