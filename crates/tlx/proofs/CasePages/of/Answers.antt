-- `of` meets its contract: what a right header says of the case (`right_header`).
use mathlib.Core.Path.{sym, ◌∙◌}
use native.Mathlib.Omega.{arith}
use Rattle.case_table.proofs.PagePlaces.{right_header}
use Rattle.tlx.proofs.CasePages.of.Goals as goal

pub invariant_of-result : goal.invariant_of-result
invariant_of-result c =
    let header = sym c.header_of.ensures.0 ∙ c.in_ok-header.was in
    let right = right_header _ _ _ header in
    record { right = header; few = right.few; inside = omega (arith, right.size) }
