-- `read_case` meets its contract: a refused header is the case's answer (`turned_readings`), and else the pages are read.
use mathlib.Core.Path.{sym, ap, ◌∙◌}
use Rattle.tlx.specs.CaseReadingNumbers.{beside}
use Rattle.tlx.proofs.Rooms.{turned_readings}
use Rattle.tlx.proofs.read_case.Goals as goal

pub returns-in-Err : goal.returns-in-Err
returns-in-Err c =
    let t = turned_readings _ _ c.args.words.now (c.in-Err.fault, c.in-Err.ensures.said, sym c.number.ensures) in
    (c.beside.ensures ∙ ap (beside 0) c.bare_answer.ensures ∙ t.0, t.1, c.of.ensures.octets)
