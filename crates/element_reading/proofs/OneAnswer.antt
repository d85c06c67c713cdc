-- The public function's promise allows only one answer: two results that keep it, of the same arguments, are equal.
-- Assumes nothing.
use Prim.Native.Nat.{ℕ}
use mathlib.Core.List.{List}
use Rattle.run.specs.OneAnswer.{Once}
use Rattle.run.proofs.OneAnswer.{once}
use Rattle.sorts.specs.declared.Form.{Form}
use Rattle.element_reading.specs.ElementHead.{step_at}
use Rattle.element_reading.specs.Promises.{ElementAtPromise}

pub one_answer : (form : Form) (text : List ℕ) (at : ℕ) → Once (ElementAtPromise form text at)
one_answer form text at = once (ElementAtPromise form text at) (step_at form text at) (λ r p. p.0)
