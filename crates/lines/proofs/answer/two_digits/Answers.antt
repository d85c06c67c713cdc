-- Any place of `lines::answer::two_digits` is between characters. Assumes nothing.
use Rattle.std.proofs.Common.{arith, ◌+◌}
use Rattle.std.proofs.lemmas.Str.{IsCharBoundary-from_ascii}
use Rattle.lines.proofs.AllAscii.{ascii}
use Rattle.lines.proofs.answer.two_digits.Goals as goal

pub range-requires-clause-start_boundary : goal.range-requires-clause-start_boundary
range-requires-clause-start_boundary c = λ h. IsCharBoundary-from_ascii c.args.digits.now c.args.at (ascii c.args.digits.now c.requires.ascii) (omega arith)

pub range-requires-clause-end_boundary : goal.range-requires-clause-end_boundary
range-requires-clause-end_boundary c = IsCharBoundary-from_ascii c.args.digits.now (c.args.at + 2) (ascii c.args.digits.now c.requires.ascii) (omega arith)
