-- `number_at` meets its contract: it is `number16` by its definition, and 0 past the end (`past_16`).
use mathlib.Core.Path.{sym}
use native.Mathlib.Omega.{arith}
use Rattle.case_table.proofs.Lengths.{past_16}
use Rattle.case_table.proofs.number_at.Goals as goal

pub returns-then-octets-at : goal.returns-then-octets-at
returns-then-octets-at c = (sym (past_16 c.args.octets.now _ c.if-octets-at.true), omega arith)
