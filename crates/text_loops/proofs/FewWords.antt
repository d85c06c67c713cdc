-- No element has more than 34 words, and no octet gives more than one.
-- Assumes nothing.
use Prim.Native.Nat.{ℕ, ◌≤◌}
use mathlib.Core.List.{List}
use native.Mathlib.Omega.{arith}
use lib.ListN.{length, length-append}
use lib.Seq.{length-take-le}
use Rattle.run.specs.Loops.{Bounded, Counted}
use Rattle.run.specs.Grammar.{Run, done, more}
use Rattle.run.specs.Answers.{given}
use Rattle.run.proofs.Outcomes.{accepts}
use Rattle.sorts.specs.declared.Form.{Form}
use Rattle.element_words.specs.declared.Element.{Element}
use Rattle.element_words.specs.Words.{words_of}
use Rattle.element_words.proofs.Words.{words_short}
use Rattle.element_reading.specs.ElementHead.{head_in}
use Rattle.element_reading.specs.Grammar.{Spells}
use Rattle.element_reading.proofs.Reader.{reads}
use Rattle.element_reading.proofs.Sizes.{words_few}

-- an element has at most 34 words
pub few_words : (f : Form) → Bounded (Spells f) words_of 34
few_words f = record { bound = λ p e h. words_short e }

-- No octet gives more than one word: room for as many words as the text has octets is never short.
pub words_fit : {f : Form} {text : List ℕ} {ps : List (List ℕ)} {es : List Element} → Run (Spells f) text ps es
    → length (given words_of es) ≤ length text
unfolding given
words_fit done = omega arith
words_fit (more {p} {s} {e = e} {es = es} sp r) =
    omega (arith, words_fit r, words_few sp, length-append p s, length-append (words_of e) (given words_of es))

-- So a loop that counts words has counted no more of them than octets, and no elements more.
pub counted_fits : (f : Form) (text : List ℕ) {at n count : ℕ} → Counted (head_in f) words_of 34 text at n count
    → (n ≤ at) × (count ≤ at) × (at ≤ length text)
counted_fits f text {at} was =
    let r = (accepts (reads f) _ was.es).0 was.passed.front in
    omega (
      arith,
      was.number,
      was.counted,
      was.passed.few.few,
      was.passed.inside,
      words_fit r.1,
      length-take-le at text was.passed.inside,
    )
