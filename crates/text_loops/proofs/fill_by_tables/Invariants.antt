-- The loop knows what stands in the buffer (Filling): behind a run (filled_run), behind a pair (filled_pair) and behind an element
-- (filled_element); an accepted text has an element at each place (read_never), and at the end all is written (fill_end).
use Prim.Native.Nat.{◌-◌}
use lib.ListN.{length}
use Rattle.text_loops.proofs.Steps.{Filling}
use Rattle.text_loops.proofs.fill_by_tables.Given as goal

abbrev pub invariant-loop-at : goal.invariant-loop-at
invariant-loop-at l = Filling l.reader l.text l.initial.words l.at l.o l.words

abbrev pub decreases-loop-at : goal.decreases-loop-at
decreases-loop-at l = length l.text - l.at
