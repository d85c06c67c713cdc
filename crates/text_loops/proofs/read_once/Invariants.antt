-- The loop knows what it has counted and put, and that it is small (Taking): behind a character and behind an element (taken_element), which
-- have room (take_room); a step that is none is the refusal (into_stop), and at the end all is read (into_end).
use Prim.Native.Nat.{◌-◌}
use lib.ListN.{length}
use Rattle.text_loops.proofs.Steps.{Taking}
use Rattle.text_loops.proofs.read_once.Given as goal

abbrev pub invariant-loop-at : goal.invariant-loop-at
invariant-loop-at l = Taking l.reader l.text l.initial.into l.at l.elements l.o l.respelled l.into

abbrev pub decreases-loop-at : goal.decreases-loop-at
decreases-loop-at l = length l.text - l.at
