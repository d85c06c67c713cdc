-- `fill_pages` meets its contract: at each page the words of those before it stand over the buffer's first entries (`Filled`).
use native.Mathlib.Omega.{arith}
use Rattle.tlx.proofs.Fills.{fill_start, fill_place, fill_small, fill_turn, fill_all}
use Rattle.tlx.proofs.fill_pages.Goals as goal

pub loop-page-init : goal.loop-page-init
loop-page-init c = fill_start _ c.args.pages.right c.start_of-start.ensures

pub slice_bounds-read-count : goal.slice_bounds-read-count
slice_bounds-read-count c = fill_place c.requires c.loop-page.invariant

pub slice_bounds-read-start : goal.slice_bounds-read-start
slice_bounds-read-start c = fill_place c.requires c.loop-page.invariant

pub overflow_add-next : goal.overflow_add-next
overflow_add-next c =
    omega (arith, fill_small c.requires c.loop-page.invariant c.loop-page-test.true c.part-part.ensures c.read-a.ensures)

pub loop-page-preserved : goal.loop-page-preserved
loop-page-preserved c = fill_turn c.requires c.loop-page.invariant c.loop-page-test.true c.part-part.ensures c.read-a.ensures

pub returns : goal.returns
returns c = fill_all c.requires c.loop-page.invariant c.loop-page-test.false
