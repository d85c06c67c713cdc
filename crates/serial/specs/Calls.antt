-- To be believed: calls one after another, as the theorems of a page in pieces speak of them (proofs/Theorems). What a call answers is the
-- promise of `feed`; which octets are which elements is the grammar's.
-- Assumes nothing.
use Rattle.std.specs.Prelude.{ℕ, ◌≤◌, ◌≡◌, Bool, true, false, ◌⊎◌, List, [], ◌∷◌, ◌++◌, length, take}
use Rattle.run.specs.Choice.{pick, one_of}
use Rattle.run.specs.Grammar.{RunOf}
use Rattle.run.specs.Tally.{Apart}
use Rattle.run.specs.declared.Answer.{Answer}
use Rattle.run.specs.declared.ReadAnswer.{ReadAnswer}
use Rattle.sorts.specs.declared.Form.{Form}
use Rattle.element_words.specs.declared.Element.{Element}
use Rattle.element_spelling.specs.ElementOctets.{CanonicalElement}
use Rattle.element_reading.specs.Grammar.{Spells, CutShort}
use Rattle.serial.specs.declared.Carry.{Carry}
use Rattle.serial.specs.declared.Fed.{Fed}
use Rattle.serial.specs.Feeding.{waiting, numbers_of}
use Rattle.serial.specs.Promises.{FreshPromise, FeedPromise}

-- a call: its piece, whether it is told that the page ends, the words lent, what it answers, and what the words hold after
pub record Call : Type 0 where
  pub piece : List ℕ
  pub ended : Bool
  pub words : List ℕ
  pub fed : Fed
  pub after : List ℕ

abbrev pub answer_to : Call → Answer
answer_to x = x.fed.answer

-- with the fifth number
abbrev pub reading_to : Call → ReadAnswer
reading_to x = numbers_of x.fed

-- each call is given the carry that the one before it left; d is the last carry
pub data Calls : Carry → List Call → Carry → Type 0 where
  none : {c : Carry} → Calls c [] c
  next : {c d : Carry} {x : Call} {xs : List Call}
      → FeedPromise c x.piece x.ended x.words x.fed x.after
      → Calls x.fed.carry xs d → Calls c (x ∷ xs) d

-- made fresh in a form, and then the calls
pub record Session (form : ℕ) (calls : List Call) (d : Carry) : Type 0 where
  pub made : Fed
  pub fresh : FreshPromise form made
  pub fed : Calls made.carry calls d

-- the calls, those answered with one of the numbers left out
unfoldable pub without : List ℕ → List Call → List Call
without numbers [] = []
without numbers (x ∷ xs) =
    let more = without numbers xs in
    pick (one_of numbers (answer_to x).number) more (x ∷ more)

-- the pieces of some calls, joined
unfoldable pub pieces : List Call → List ℕ
pieces [] = []
pieces (x ∷ xs) = x.piece ++ pieces xs

-- the page that the calls hand in: "Short room .. keeps the carry, so the piece can be offered again"
abbrev pub page : List Call → List ℕ
page calls = pieces (without (9 ∷ []) calls)

-- what of it was handed in before the limit was passed; behind a fault it may be more than was read, and its words are the same
abbrev pub taken : List Call → List ℕ
taken calls = pieces (without (9 ∷ 12 ∷ []) calls)

-- the words handed out: the first of each call's buffer, as many as it says
unfoldable pub handed_out : List Call → List ℕ
handed_out [] = []
handed_out (x ∷ xs) = take x.fed.handed x.after ++ handed_out xs

-- none but the last of them is told that the page ends
pub data OnlyLast : List Call → Type 0 where
  none : OnlyLast []
  last : {x : Call} → OnlyLast (x ∷ [])
  earlier : {x : Call} {xs : List Call} → x.ended ≡ false → OnlyLast xs → OnlyLast (x ∷ xs)

-- the last of them is told that the page ends, and none before it; and this is what it answers, five numbers
pub data Ends : List Call → ReadAnswer → Type 0 where
  last : {x : Call} → x.ended ≡ true → Ends (x ∷ []) (reading_to x)
  earlier : {x : Call} {xs : List Call} {a : ReadAnswer} → x.ended ≡ false → Ends xs a → Ends (x ∷ xs) a

-- each of them answers a, all five numbers, hands out nothing, and leaves its words as they stood
pub data Repeats (a : ReadAnswer) : List Call → Type 0 where
  none : Repeats a []
  next : {x : Call} {xs : List Call} → reading_to x ≡ a → x.fed.handed ≡ 0 → x.after ≡ x.words → Repeats a xs → Repeats a (x ∷ xs)

-- the page goes on after each of them: it is answered 9, or 0 before the end
pub data AllGo : List Call → Type 0 where
  none : AllGo []
  short : {x : Call} {xs : List Call} → (answer_to x).number ≡ 9 → AllGo xs → AllGo (x ∷ xs)
  goes : {x : Call} {xs : List Call} → (answer_to x).number ≡ 0 → x.ended ≡ false → AllGo xs → AllGo (x ∷ xs)

-- "Any other refusal, or the final answer": any number but 9, and 0 only when told that the page ends
pub record Final (x : Call) : Type 0 where
  pub not_9 : (answer_to x).number ≡ 9 → ⊥
  pub at_end : (answer_to x).number ≡ 0 → x.ended ≡ true

-- "carries an unfinished element of at most 39 octets": the octets taken are elements, and those that wait; it counts the elements that are
-- not canonical
pub record Carried (f : Form) (octets : List ℕ) (c : Carry) : Type 0 where
  pub front : List ℕ
  pub elements : List Element
  pub whole : octets ≡ front ++ waiting c
  pub run : RunOf (Spells f) front elements
  pub respelled : Apart (CanonicalElement f) run.0 elements c.respelled
  pub unfinished : (waiting c ≡ []) ⊎ CutShort f (waiting c)
  pub size : c.holds ≡ length (waiting c)
  pub few : c.holds ≤ 39
