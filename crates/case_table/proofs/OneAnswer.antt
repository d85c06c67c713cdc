-- Each promise of a public function allows only one answer.
-- Assumes nothing.
use Prim.Native.Nat.{ℕ}
use mathlib.Core.List.{List}
use Rattle.run.specs.OneAnswer.{Once}
use Rattle.run.proofs.OneAnswer.{once}
use Rattle.case_table.specs.Layout.{number16, version_1}
use Rattle.case_table.specs.Check.{total_in, header_in, header_of}
use Rattle.case_table.specs.declared.HeaderFault.{HeaderFault}
use Rattle.case_table.specs.HeaderNumbers.{fault_number}
use Rattle.case_table.specs.Promises.{NumberPromise, NumberAtPromise, TotalOfPromise, HeaderInPromise, HeaderOfPromise}

pub one_answer : (octets header entries case : List ℕ) (at n size : ℕ)
    (fault : HeaderFault)
    → Once (NumberPromise fault)
    × Once (NumberAtPromise octets at)
    × Once (TotalOfPromise entries n)
    × Once (HeaderInPromise header entries size)
    × Once (HeaderOfPromise case)
one_answer octets header entries case at n size fault = (
  once (NumberPromise fault) (fault_number fault) (λ r p. p),
  once (NumberAtPromise octets at) (number16 octets at) (λ r p. p.0),
  once (TotalOfPromise entries n) (total_in version_1 n entries) (λ r p. p.0),
  once (HeaderInPromise header entries size) (header_in version_1 header entries size) (λ r p. p.0),
  once (HeaderOfPromise case) (header_of case) (λ r p. p.0),
)
