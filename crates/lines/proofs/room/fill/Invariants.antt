-- `lines::room::fill` has put at each place so far what stands there. Assumes nothing.
use Rattle.std.proofs.Common.{◌≡◌, ◌<◌, ℕ}
use Rattle.std.specs.Prelude.{slice_get, IfSome}
use Rattle.lines.proofs.room.fill.Given as goal

abbrev pub invariant-loop-place : goal.invariant-loop-place
invariant-loop-place g l = (k : ℕ) → k < l.place → IfSome (slice_get l.room k) (λ e. e ≡ g.E.Entry.stands k)
