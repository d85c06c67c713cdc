-- The loop knows which of the words stand in the buffer (Put).
use Prim.Native.Nat.{◌+◌}
use lib.ListN.{take}
use Rattle.run.specs.Put.{Put}
use Rattle.text_loops.proofs.put_first.Given as goal

abbrev pub invariant-loop-i : goal.invariant-loop-i
invariant-loop-i l = Put l.initial.words l.o (take l.i l.first) l.words (l.o + l.i)
