-- The loop knows what both texts share up to its places (Walked); what is left of the first text gets less.
use Prim.Native.Nat.{◌-◌}
use lib.ListN.{length}
use Rattle.compare.proofs.Walks.{Walked}
use Rattle.compare.proofs.walk.Given as goal

abbrev pub invariant-loop-shared : goal.invariant-loop-shared
invariant-loop-shared l = Walked l.reader l.first l.second l.shared

abbrev pub decreases-loop-shared : goal.decreases-loop-shared
decreases-loop-shared l = length l.first - l.shared.first
