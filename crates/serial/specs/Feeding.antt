-- To be believed, `CouldGo` and `could_stop`: which carries are read on, and which repeat their answer: those within these bounds, which all
-- that feeding leaves keep; every other answers 11. Proved equal, `could_go` (proofs/Could: could_go_exactly); and, for a carry that feeding
-- left, to the rows of SerialNumbers (proofs/Theorems: call_row), what a call answers and what the lent words hold after.
-- Assumes nothing.
use Rattle.std.specs.Prelude.{ℕ, ◌+◌, ◌-◌, ◌≤◌, ◌≡◌, ◌⊎◌, Bool, true, false, List, [], ◌++◌, eqb, leb, length, take, drop, replicate}
use Rattle.run.specs.Choice.{pick}
use Rattle.run.specs.declared.Answer.{Answer}
use Rattle.run.specs.declared.ReadAnswer.{ReadAnswer}
use Rattle.run.specs.Answers.{answer, bare, short_room, over}
use Rattle.sorts.specs.declared.Form.{Form}
use Rattle.sorts.specs.Forms.{form_of, in_form}
use Rattle.element_reading.specs.Grammar.{CutShort}
use Rattle.element_reading.specs.ElementNumbers.{reading}
use Rattle.text_loops.specs.declared.Measured.{Measured}
use Rattle.text_loops.specs.Fronts.{measured, words_before}
use Rattle.text_reading.specs.ReadingNumbers.{limit}
use Rattle.open_elements.specs.OpenElements.{is_open}
use Rattle.serial.specs.declared.Carry.{Carry}
use Rattle.serial.specs.declared.Fed.{Fed}

-- ---- which carries are read on, and which repeat their answer

-- the octets that wait
abbrev pub waiting : Carry → List ℕ
waiting c = take c.holds c.held

abbrev both : Bool → Bool → Bool
both a b = pick a b false

-- Of a page that goes on: number 0; no more elements that were not canonical than elements; "an unfinished element of at most 39 octets";
-- the octets taken are within the limit, and those that wait among them; no more elements and no more words than octets were read; what
-- waits is an open element's.
pub record CouldGo (f : Form) (c : Carry) : Type 0 where
  pub number : c.answer.number ≡ 0
  pub respelled : c.respelled ≤ c.answer.element
  pub few : c.holds ≤ 39
  pub within : c.answer.place ≤ limit
  pub held : c.holds ≤ c.answer.place
  pub elements : c.answer.element ≤ c.answer.place - c.holds
  pub words : c.answer.count ≤ c.answer.place - c.holds
  pub unfinished : (waiting c ≡ []) ⊎ CutShort f (waiting c)

-- the same as a test
abbrev pub could_go : Form → Carry → Bool
could_go f c =
    both (eqb c.answer.number 0)
    (both (leb c.respelled c.answer.element)
    (both (leb c.holds 39)
    (both (leb c.answer.place limit)
    (both (leb c.holds c.answer.place)
    (both (leb c.answer.element (c.answer.place - c.holds))
    (both (leb c.answer.count (c.answer.place - c.holds))
    (is_open f (waiting c))))))))

-- Of a page that ended or was refused, its answer: 12 with zeros; else 0 to 8, with no more elements than octets before them; accepted, no
-- more words than octets; refused, the deciding place behind the first; all within the limit.
abbrev pub could_end : Answer → Bool
could_end a =
    pick (eqb a.number 12) (both (eqb a.element 0) (both (eqb a.place 0) (eqb a.count 0)))
    (both (leb a.number 8)
    (both (leb a.element a.place)
    (pick (eqb a.number 0) (both (leb a.place limit) (leb a.count a.place))
    (both (leb a.count limit) (leb a.place a.count)))))

-- its fifth number: accepted, no more than elements; "0 on a refusal"
abbrev pub could_carry : Answer → ℕ → Bool
could_carry a k = pick (eqb a.number 0) (leb k a.element) (eqb k 0)

-- and nothing waits
abbrev pub could_stop : Carry → Bool
could_stop c =
    both (eqb c.stopped 1) (both (eqb c.holds 0) (both (could_carry c.answer c.respelled) (could_end c.answer)))

-- ---- what a call answers

-- the five numbers of an answer
abbrev pub numbers_of : Fed → ReadAnswer
numbers_of fed = reading fed.answer fed.respelled

-- nothing handed out, the carry as it was
abbrev pub unmoved : Carry → ReadAnswer → Fed
unmoved c a = record { carry = c; answer = a.answer; respelled = a.respelled; handed = 0 }

-- with no fifth number: a refusal, or what a fresh page answers
abbrev pub kept_by : Carry → Answer → Fed
kept_by c a = unmoved c (reading a 0)

-- with what the carry says, so many words handed out
abbrev pub handed_by : Carry → ℕ → Fed
handed_by c handed = record { carry = c; answer = c.answer; respelled = c.respelled; handed = handed }

-- none: the answer of a page that ended or was refused, again
abbrev pub repeated_by : Carry → Fed
repeated_by c = unmoved c (reading c.answer c.respelled)

-- no octets wait: the array's entries
abbrev pub no_octets : List ℕ
no_octets = replicate 39 0

-- "Any other refusal, or the final answer, is repeated"; k is the fifth number
abbrev pub stopped_by : ℕ → Answer → ℕ → ℕ → Fed
stopped_by form a k handed =
    record {
      carry = record { answer = a; respelled = k; holds = 0; form = form; stopped = 1; held = no_octets };
      answer = a;
      respelled = k;
      handed = handed;
    }

-- the page goes on, and the octets s wait
abbrev pub gone_on : ℕ → List ℕ → Answer → ℕ → ℕ → Fed
gone_on form s a k handed =
    record {
      carry = record { answer = a; respelled = k; holds = length s; form = form; stopped = 0; held = over no_octets s };
      answer = a;
      respelled = k;
      handed = handed;
    }

-- a refusal stops the page; 4 only when told that the page ends
abbrev pub stops_page : ℕ → Bool → Bool
stops_page number ended = pick (eqb number 4) ended (pick (eqb number 0) false true)

-- since fresh: elements, octets taken and words, after a piece of n octets of which m was read
abbrev pub so_far : Answer → ℕ → Measured → Answer
so_far a n m = answer 0 (a.element + m.answer.element) (a.place + n) (a.count + m.words)

-- and the fifth number
abbrev pub respelled_so_far : Carry → Measured → ℕ
respelled_so_far c m = c.respelled + m.respelled

-- a fault, its places counted since fresh
abbrev pub fault_at : Answer → ℕ → Answer → Answer
fault_at a holds x =
    answer x.number (a.element + x.element) (a.place - holds + x.place) (a.place - holds + x.count)

-- by what was read of the octets s, those that waited and the piece of n octets: a fault, which has no fifth number; the end; or more is to
-- come
abbrev pub faulted_by : Carry → Measured → Fed
faulted_by c m = stopped_by c.form (fault_at c.answer c.holds m.answer) 0 m.words

abbrev pub ended_by : Carry → ℕ → Measured → Fed
ended_by c n m = stopped_by c.form (so_far c.answer n m) (respelled_so_far c m) m.words

abbrev pub waits_by : Carry → ℕ → List ℕ → Measured → Fed
waits_by c n s m = gone_on c.form (drop m.answer.place s) (so_far c.answer n m) (respelled_so_far c m) m.words

abbrev pub fed_by : Carry → ℕ → Bool → List ℕ → Measured → Fed
fed_by c n ended s m = pick (stops_page m.answer.number ended) (faulted_by c m) (pick ended (ended_by c n m) (waits_by c n s m))

-- a piece within the limit, of a page that goes on: 9, or what was read of it
abbrev pub fed_in : Form → Carry → List ℕ → Bool → ℕ → Fed
fed_in f c piece ended room =
    let s : List ℕ = waiting c ++ piece in
    let m : Measured = measured f s in
    pick (leb m.words room) (fed_by c (length piece) ended s m) (kept_by c (short_room m.words))

abbrev pub words_in : Form → Carry → List ℕ → List ℕ → List ℕ
words_in f c piece words =
    let ws : List ℕ = words_before f (waiting c ++ piece) in
    pick (leb (length ws) (length words)) (over words ws) words

-- by what the carry is: outside the bounds; of a page that stopped; of one that goes on
abbrev pub by_carry : {A : Type 0} → Form → Carry → A → A → A → A
by_carry f c nobodys stopped goes =
    pick (eqb c.stopped 0) (pick (could_go f c) goes nobodys) (pick (could_stop c) stopped nobodys)

-- within the limit, or 12
abbrev pub unless_past : {A : Type 0} → Carry → List ℕ → A → A → A
unless_past c piece past a = pick (leb (c.answer.place + length piece) limit) a past

unfoldable pub feed_answer : Carry → List ℕ → Bool → ℕ → Fed
feed_answer c piece ended room =
    in_form (form_of c.form) (kept_by c (bare 11))
    (λ f. by_carry f c (kept_by c (bare 11)) (repeated_by c)
    (unless_past c piece (stopped_by c.form (bare 12) 0 0) (fed_in f c piece ended room)))

unfoldable pub feed_words : Carry → List ℕ → List ℕ → List ℕ
feed_words c piece words =
    in_form (form_of c.form) words (λ f. by_carry f c words words (unless_past c piece words (words_in f c piece words)))

-- ---- making fresh

-- "A fresh carry holds no octets and has read no elements."
abbrev pub fresh_carry : ℕ → Carry
fresh_carry form = record { answer = bare 0; respelled = 0; holds = 0; form = form; stopped = 0; held = no_octets }

-- "11 when made fresh": then it has no form
unfoldable pub fresh_answer : ℕ → Fed
fresh_answer form = in_form (form_of form) (kept_by (fresh_carry 0) (bare 11)) (λ f. kept_by (fresh_carry form) (bare 0))
