-- `measure_pages` meets its contract: at each page those before it are counted (`Measured`), and a refused page is the case's answer
-- (`measure_stop`).
use Rattle.tlx.proofs.Pages.{Measured}
use Rattle.tlx.proofs.measure_pages.Given as goal

abbrev pub invariant-loop-page : goal.invariant-loop-page
invariant-loop-page l =
    Measured l.pages.case.now l.pages.header.form l.pages.header.pages l.start l.page l.n l.count l.respelled
