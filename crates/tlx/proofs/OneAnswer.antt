-- Each promise of a public function allows only one answer, and one thing that a lent buffer holds after. Of what is handed on,
-- `case_table` and `case_writing` say it.
-- Assumes nothing.
use Prim.Native.Nat.{ℕ}
use mathlib.Core.List.{List}
use Rattle.run.specs.OneAnswer.{Once, OnceBoth}
use Rattle.run.proofs.OneAnswer.{once, once_both}
use Rattle.tlx.specs.CaseReading.{page_answer}
use Rattle.tlx.specs.Promises.{PageElementsPromise, ReadCasePromise}

pub one_answer : (case words : List ℕ) (page : ℕ) → Once (PageElementsPromise case page) × OnceBoth (ReadCasePromise case words)
one_answer case words page = (
  once (PageElementsPromise case page) (page_answer case page) (λ r p. p.0),
  once_both (ReadCasePromise case words) _ _ (λ r after p. (p.0, p.1)),
)
