-- Each promise of a public function allows only one answer.
-- Assumes nothing.
use Prim.Native.Nat.{ℕ}
use mathlib.Core.List.{List}
use lib.ListN.{length}
use Rattle.run.specs.Head.{outcome}
use Rattle.run.specs.Answers.{answer, bare, answer_of, written_of, same}
use Rattle.run.specs.OneAnswer.{Once, OnceBoth}
use Rattle.run.proofs.OneAnswer.{once, once_both}
use Rattle.sorts.specs.declared.Form.{Form}
use Rattle.element_spelling.specs.ElementOctets.{spell_head}
use Rattle.text_reading.specs.ReadAnswers.{within_limit}
use Rattle.text_writing.specs.Promises.{NotHeldPromise, WriteInPromise}

pub one_answer : (form : Form) (n at : ℕ) (words out : List ℕ)
    → Once (NotHeldPromise n at)
    × OnceBoth (WriteInPromise form words out)
one_answer form n at words out = (
  once (NotHeldPromise n at) (answer 10 n at 0) (λ r p. p),
  once_both (WriteInPromise form words out)
      (within_limit words (bare 12) (answer_of same (length words) (length out) (outcome (spell_head form) words)))
      (within_limit words out (written_of same out (outcome (spell_head form) words))) (λ r after p. p),
)
