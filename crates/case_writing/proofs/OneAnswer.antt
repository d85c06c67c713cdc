-- The promise of the public function allows only one answer, and one thing that the lent buffer holds after.
-- Assumes nothing.
use Prim.Native.Nat.{ℕ}
use mathlib.Core.List.{List}
use Rattle.run.specs.OneAnswer.{OnceBoth}
use Rattle.run.proofs.OneAnswer.{once_both}
use Rattle.case_writing.specs.Promises.{WriteCasePromise}

pub one_answer : (form : ℕ) (lengths octets case : List ℕ) → OnceBoth (WriteCasePromise form lengths octets case)
one_answer form lengths octets case = once_both (WriteCasePromise form lengths octets case) _ _ (λ r after p. p)
