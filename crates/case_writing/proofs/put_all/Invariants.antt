-- `put_all` meets its contract: the octets so far stand in the buffer.
use Prim.Native.Nat.{◌+◌}
use lib.ListN.{take}
use Rattle.run.specs.Put.{Put}
use Rattle.case_writing.proofs.put_all.Given as goal

abbrev pub invariant-loop-i : goal.invariant-loop-i
invariant-loop-i l = Put l.initial.out l.at (take l.i l.octets) l.out (l.at + l.i)
