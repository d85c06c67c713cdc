-- `part` meets its contract: the page lies in the case (`page_inside`).
use native.Mathlib.Omega.{arith}
use Rattle.case_table.proofs.PagePlaces.{right_header, page_inside}
use Rattle.tlx.proofs.CasePages.part.Goals as goal

pub slice_bounds-result-end : goal.slice_bounds-result-end
slice_bounds-result-end c =
    page_inside (right_header _ _ _ c.args.self.right) c.requires.inside c.requires.begins c.number_at.ensures.0

pub overflow_add-end : goal.overflow_add-end
overflow_add-end c =
    let inside = page_inside (right_header _ _ _ c.args.self.right) c.requires.inside c.requires.begins c.number_at.ensures.0 in
    omega (arith, inside, (right_header _ _ _ c.args.self.right).size)
