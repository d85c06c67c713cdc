-- Parts of the code: the words in which the laws of the loops are stated (proofs/Steps, Tallied, RunsAndPairs; `text_respelling`); no
-- promise and no statement of a theorem of record has them.
-- Assumes nothing.
use Rattle.std.specs.Prelude.{ℕ, ◌+◌, ◌≡◌, List, drop}
use Rattle.run.specs.Head.{Head, element, refused}
use Rattle.run.specs.Loops.{Counted, Taken}
use Rattle.run.specs.Tally.{noted}
use Rattle.run.specs.declared.Answer.{Answer}
use Rattle.run.specs.Answers.{answer, count_of}
use Rattle.sorts.specs.declared.Form.{Form}
use Rattle.element_words.specs.declared.Element.TheVariants.{One}
use Rattle.element_words.specs.Words.{words_of}
use Rattle.element_reading.specs.declared.Step.{Step}
use Rattle.element_reading.specs.ElementHead.{head_in, canonical_head}
use Rattle.text_loops.specs.declared.Character.{Character}
use Rattle.text_loops.specs.Fronts.{step_answer_after}

-- the element e stands at the head, and the place next is the one after it
pub record HereStands {A : Type 0} (h : Head A) (at : ℕ) (e : A) (next : ℕ) : Type 0 where
  pub size : ℕ
  pub here : h ≡ element e size
  pub onward : next ≡ at + size

-- a character stands at the place, in so many octets, told whether they are its canonical spelling
abbrev pub CharacterStands : Form → List ℕ → ℕ → Character → Type 0
CharacterStands f text at x = HereStands (canonical_head f (drop at text)) at (One x.code, x.canonical) (at + x.size)

-- up to the place `at` stand n elements, of which k are not canonical: counted as a loop counts words, by the head that tells it
abbrev pub Tallied : Form → List ℕ → ℕ → ℕ → ℕ → Type 0
Tallied f text at n k = Counted (canonical_head f) noted 1 text at n k

-- measuring: the four numbers counted on the way, and the fifth
pub record CountedBoth (f : Form) (text : List ℕ) (at n count k : ℕ) : Type 0 where
  pub counted : Counted (head_in f) words_of 34 text at n count
  pub tallied : Tallied f text at n k

-- the same of a loop that puts each element's words as it goes
pub record TakenBoth (f : Form) (text into : List ℕ) (at n o k : ℕ) (l : List ℕ) : Type 0 where
  pub taken : Taken (head_in f) words_of 34 text into at n o l
  pub tallied : Tallied f text at n k

-- a refusal stands at the place, and the step x answers it, after n elements
pub record RefusedStep (f : Form) (text : List ℕ) (at : ℕ) (x : Step) : Type 0 where
  pub number : ℕ
  pub behind : ℕ
  pub here : head_in f (drop at text) ≡ refused number behind
  pub answers : (n : ℕ) → ◌≡◌ {A = Answer} (step_answer_after n x) (answer number n at (count_of number (at + behind)))
