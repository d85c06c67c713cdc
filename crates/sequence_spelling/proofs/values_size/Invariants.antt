-- Value after value: what is counted and what is left is the whole (rest_step, rest_end).
use Prim.Native.Nat.{◌+◌}
use mathlib.Core.Path.{◌≡◌}
use lib.ListN.{length, drop}
use Rattle.sequence_spelling.specs.SequenceOctets.{spell_rest}
use Rattle.sequence_spelling.proofs.values_size.Given as goal

abbrev pub invariant-loop-v : goal.invariant-loop-v
invariant-loop-v l = l.n + length (spell_rest (drop l.v-index l.values)) ≡ length (spell_rest l.values)
