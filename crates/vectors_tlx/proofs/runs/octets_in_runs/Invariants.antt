-- `vectors_tlx::runs::octets_in_runs` has put no more octets than it may. Assumes nothing.
use Rattle.std.proofs.Common.{◌≤◌, vec_len}
use Rattle.vectors_tlx.proofs.runs.octets_in_runs.Given as goal

abbrev pub invariant-loop-run : goal.invariant-loop-run
invariant-loop-run l = vec_len l.octets ≤ l.most
