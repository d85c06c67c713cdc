-- `lines::room::keeps` has found each entry so far kept. Assumes nothing.
use Rattle.std.proofs.Common.{◌≡◌, ◌<◌, ◌+◌, ℕ, true}
use Rattle.std.specs.Prelude.{slice_get, IfSome}
use Rattle.lines.proofs.room.keeps.Given as goal

abbrev pub invariant-loop-place : goal.invariant-loop-place
invariant-loop-place g l = (k : ℕ) → l.from + k < l.place → IfSome (slice_get l.room (l.from + k)) (λ e. g.E.PartialEq.eq e (g.E.Entry.stands (l.from + k)) ≡ true)
