-- Value after value: what is written is the first of the list.
use Prim.Native.Nat.{◌+◌}
use lib.ListN.{take}
use Rattle.run.specs.Put.{Put}
use Rattle.element_words.proofs.put_values.Given as goal

abbrev pub invariant-loop-k : goal.invariant-loop-k
invariant-loop-k l = Put l.initial.words l.at (take l.k l.values) l.words (l.at + l.k)
