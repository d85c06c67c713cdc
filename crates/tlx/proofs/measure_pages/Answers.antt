-- `measure_pages` meets its contract: at each page those before it are counted (`Measured`), and a refused page is the case's answer
-- (`measure_stop`).
use mathlib.Core.Path.{◌∙◌}
use native.Mathlib.Omega.{arith}
use Rattle.tlx.proofs.Pages.{measure_start, measured_small, measure_turn, measure_stop, measure_all}
use Rattle.tlx.proofs.measure_pages.Goals as goal

pub loop-page-init : goal.loop-page-init
loop-page-init c = measure_start c.args.pages.right c.start_of-start.ensures

pub returns-then-alone-ne0 : goal.returns-then-alone-ne0
returns-then-alone-ne0 c =
    c.beside.ensures
    ∙ measure_stop c.loop-page.invariant c.loop-page-test.true c.part-part.ensures c.measure-m.ensures c.if-alone-ne0.true

pub overflow_add-n : goal.overflow_add-n
overflow_add-n c =
    omega (
      arith,
      measured_small (measure_turn c.loop-page.invariant c.loop-page-test.true c.part-part.ensures c.measure-m.ensures c.if-alone-ne0.false),
    )

pub overflow_add-count : goal.overflow_add-count
overflow_add-count c =
    omega (
      arith,
      measured_small (measure_turn c.loop-page.invariant c.loop-page-test.true c.part-part.ensures c.measure-m.ensures c.if-alone-ne0.false),
    )

pub overflow_add-respelled : goal.overflow_add-respelled
overflow_add-respelled c =
    omega (
      arith,
      measured_small (measure_turn c.loop-page.invariant c.loop-page-test.true c.part-part.ensures c.measure-m.ensures c.if-alone-ne0.false),
    )

pub loop-page-preserved : goal.loop-page-preserved
loop-page-preserved c =
    measure_turn c.loop-page.invariant c.loop-page-test.true c.part-part.ensures c.measure-m.ensures c.if-alone-ne0.false

pub returns : goal.returns
returns c = measure_all c.loop-page.invariant c.loop-page-test.false
