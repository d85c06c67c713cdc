-- The number of so many digits, in `lines::fields::number_in`. Assumes nothing.
use Rattle.std.proofs.Common.{◌<◌, ◌^◌}
use Rattle.lines.proofs.fields.number_in.Given as goal

abbrev pub invariant-loop-digit : goal.invariant-loop-digit
invariant-loop-digit l = l.n < 16 ^ l.digit-index
