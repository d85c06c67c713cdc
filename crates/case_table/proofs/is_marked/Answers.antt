-- `is_marked` meets its contract: the library's test of a front is the definition's (`front_begins`).
use mathlib.Core.Path.{◌∙◌}
use Rattle.case_table.specs.Layout.{mark}
use Rattle.case_table.proofs.Headers.{front_begins}
use Rattle.case_table.proofs.is_marked.Goals as goal

pub returns : goal.returns
returns c = c.starts_with.ensures.value ∙ front_begins mark c.args.header.now
