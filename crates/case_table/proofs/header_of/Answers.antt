-- `header_of` meets its contract: `header_in` of the case's parts (`header_parts`); a case too short to have a header is refused by its
-- size (`case_short`); that its entries are octets is what `first_octet` ensures.
use mathlib.Core.Path.{◌≡◌, ap, ◌∙◌}
use mathlib.Core.List.{List}
use Prim.Native.Nat.{ℕ}
use native.Mathlib.Omega.{arith}
use lib.ListN.{length, take}
use Rattle.run.proofs.Puts.{behind_is}
use Rattle.case_table.specs.Layout.{version_1}
use Rattle.case_table.specs.Check.{Said, header_in, header_of}
use Rattle.case_table.specs.Grammar.{Octets}
use Rattle.case_table.specs.Promises.{HeaderOfPromise}
use Rattle.case_table.proofs.Checked.{row_exactly}
use Rattle.case_table.proofs.Headers.{header_parts, case_short}
use Rattle.case_table.proofs.header_of.Goals as goal

-- what is the answer is its row
promised : (case : List ℕ) (r : Said) → Octets case → r ≡ header_of case → HeaderOfPromise case r
promised case r o e = (e, row_exactly case e, o)

pub returns-then-case-lt8 : goal.returns-then-case-lt8
returns-then-case-lt8 c = promised _ _ (λ i. omega (arith, c.type_inv.case i)) (case_short _ c.if-case-lt8.true)

pub returns : goal.returns
returns c =
    let case = c.args.case.now in
    promised _ _ (λ i. omega (arith, c.type_inv.case i))
    (c.header_in.ensures.0
    ∙ ap (λ (l : List ℕ). header_in version_1 (take 8 case) l (length case)) (behind_is case 8)
    ∙ header_parts case)
