-- `start_of` meets its contract: the lengths before the page, added up (`summed_before`).
use native.Mathlib.Omega.{arith}
use Prim.Native.Nat.{◌≤◌}
use Rattle.case_table.proofs.PagePlaces.{summed_before}
use Rattle.tlx.proofs.CasePages.start_of.Goals as goal

pub returns : goal.returns
returns c =
    let few : c.args.page ≤ 256 = omega arith in
    omega (arith, summed_before c.args.self.case.now few c.total_of.ensures.0)
