-- `fill_pages` meets its contract: at each page the words of those before it stand over the buffer's first entries (`Filled`).
use Rattle.tlx.proofs.Fills.{Filled}
use Rattle.tlx.proofs.fill_pages.Given as goal

abbrev pub invariant-loop-page : goal.invariant-loop-page
invariant-loop-page l =
    Filled l.pages.case.now l.pages.header.form l.pages.header.pages l.start l.page l.initial.words l.words l.next
