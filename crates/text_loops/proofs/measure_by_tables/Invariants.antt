-- The loop knows what it has counted, and that it is small (Measuring): behind a run (behind_run), behind a pair (behind_pair) and behind an
-- element (behind_element); a step that is none is the refusal (read_stop), and at the end all is counted (read_end).
use Prim.Native.Nat.{◌-◌}
use lib.ListN.{length}
use Rattle.text_loops.proofs.Steps.{Measuring}
use Rattle.text_loops.proofs.measure_by_tables.Given as goal

abbrev pub invariant-loop-at : goal.invariant-loop-at
invariant-loop-at l = Measuring l.reader l.text l.at l.n l.count l.respelled

abbrev pub decreases-loop-at : goal.decreases-loop-at
decreases-loop-at l = length l.text - l.at
