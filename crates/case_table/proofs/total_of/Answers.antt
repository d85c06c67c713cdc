-- `total_of` meets its contract: after each entry the sum is that of the lengths passed (`total_next`).
use mathlib.Core.Path.{◌≡◌, refl, sym, ◌∙◌}
use native.Mathlib.Omega.{arith}
use Rattle.case_table.specs.Layout.{lengths_in, total}
use Rattle.case_table.proofs.Lengths.{total_next, total_few, total_many}
use Rattle.case_table.proofs.total_of.Goals as goal

pub returns-then-n-gt256 : goal.returns-then-n-gt256
returns-then-n-gt256 c = (total_many _ _ c.if-n-gt256.true, omega arith, omega arith)

pub loop-i-init : goal.loop-i-init
unfolding total lengths_in
loop-i-init c = (refl, omega arith)

pub loop-i-preserved : goal.loop-i-preserved
loop-i-preserved c =
    let next = total_next c.loop-i.i c.args.table.now in
    (omega (arith, next), omega arith)

pub returns : goal.returns
returns c =
    let ended : c.loop-i.i ≡ c.args.n = omega arith in
    (rw ended at c.loop-i.invariant.0 ∙ sym (total_few _ _ (omega arith)), omega arith, omega arith)
