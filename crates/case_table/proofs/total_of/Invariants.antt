-- `total_of` meets its contract: after each entry the sum is that of the lengths passed (`total_next`).
use mathlib.Core.Path.{◌≡◌}
use Prim.Native.Nat.{◌*◌, ◌≤◌}
use Rattle.case_table.specs.Layout.{version_1, lengths_in, total}
use Rattle.case_table.proofs.total_of.Given as goal

abbrev pub invariant-loop-i : goal.invariant-loop-i
invariant-loop-i l = (l.sum ≡ total (lengths_in version_1 l.i l.table)) × (l.sum ≤ 65535 * l.i)
