-- What `lines::fields::after` leaves is no longer than the text. Assumes nothing.
use Rattle.std.proofs.Common.{◌≤◌, length}
use Rattle.lines.proofs.fields.after.Given as goal

abbrev pub invariant-loop : goal.invariant-loop
invariant-loop l = length l.parts.rest.now ≤ length l.text
