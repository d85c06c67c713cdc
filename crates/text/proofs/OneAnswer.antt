-- Each promise of a public function allows only one answer.
-- Assumes nothing.
use Prim.Native.Nat.{ℕ}
use mathlib.Core.List.{List}
use lib.ListN.{length}
use Rattle.run.specs.OneAnswer.{OnceBoth}
use Rattle.run.proofs.OneAnswer.{once_both}
use Rattle.text.specs.WriteAnswers.{write_answer, write_text, convert_reading, convert_text}
use Rattle.text.specs.Promises.{WritePromise, ConvertPromise}

pub one_answer : (form target : ℕ) (text words out : List ℕ)
    → OnceBoth (WritePromise form words out)
    × OnceBoth (ConvertPromise form target text out)
one_answer form target text words out = (
  once_both (WritePromise form words out) (write_answer form words (length out)) (write_text form words out) (λ r after p. p),
  once_both (ConvertPromise form target text out) (convert_reading form target text (length out)) (convert_text form target text out)
      (λ r after p. p),
)
