-- Each promise of a public function allows only one answer.
-- Assumes nothing.
use Prim.Native.Nat.{ℕ}
use mathlib.Core.List.{List}
use lib.ListN.{length}
use Rattle.run.specs.Answers.{bare, carrying, answer_of, written_of, same}
use Rattle.run.specs.OneAnswer.{OnceBoth}
use Rattle.run.proofs.OneAnswer.{once_both}
use Rattle.sorts.specs.declared.Form.{Form}
use Rattle.text_loops.specs.Fronts.{respelled_before}
use Rattle.text_reading.specs.ReadAnswers.{within_limit}
use Rattle.text_respelling.specs.Parts.{respelt_after_reading}
use Rattle.text_respelling.specs.Promises.{RespellPromise}

pub one_answer : (form target : Form) (text out : List ℕ) → OnceBoth (RespellPromise form target text out)
one_answer form target text out =
    once_both (RespellPromise form target text out)
    (carrying (within_limit text (bare 12) (answer_of same (length text) (length out) (respelt_after_reading form target text)))
    (respelled_before form text))
    (within_limit text out (written_of same out (respelt_after_reading form target text))) (λ r after p. p)
