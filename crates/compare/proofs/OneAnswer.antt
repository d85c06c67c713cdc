-- Each public function's promise allows only one answer: of the part that is handed back, its octets and where it lies.
-- Assumes nothing.
use Prim.Native.Nat.{ℕ}
use mathlib.Core.List.{List}
use denote.Ref.{Bor}
use Rattle.run.specs.OneAnswer.{Once, OnceBoth}
use Rattle.run.proofs.OneAnswer.{once, once_both}
use Rattle.compare.specs.Comparing.{comparison, part_of, lie_of}
use Rattle.compare.specs.Promises.{ComparedPromise, ComparePromise}

pub one_answer : (form : ℕ) (first second : List ℕ) (lent lent' : Bor (List ℕ))
    → Once (ComparedPromise form first second)
    × OnceBoth (ComparePromise form lent lent')
one_answer form first second lent lent' =
    let c = comparison form lent.now lent'.now in (
      once (ComparedPromise form first second) (comparison form first second) (λ r p. p),
      once_both (ComparePromise form lent lent') (part_of c lent.now lent'.now) (lie_of c lent.ref_ptr lent'.ref_ptr) (λ part at p. p),
    )
