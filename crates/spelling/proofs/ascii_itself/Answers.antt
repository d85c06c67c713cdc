-- `itself`, by its test: within 20 to 7E, or not.
use mathlib.Core.Path.{sym}
use borrow.Author.Tests.{le-leb, lt-leb}
use native.Mathlib.Omega.{arith}
use Rattle.spelling.proofs.ascii_itself.Goals as goal

pub returns-in-32-to-126 : goal.returns-in-32-to-126
returns-in-32-to-126 c = let n = c.args.c in sym (simp (le-leb 0x20 n (omega arith), le-leb n 0x7E (omega arith)))

pub returns-in_default : goal.returns-in_default
returns-in_default c = let n = c.args.c in sym (simp (lt-leb 0x20 n (omega arith)))

pub returns-in_default-2 : goal.returns-in_default-2
returns-in_default-2 c = let n = c.args.c in sym (simp (le-leb 0x20 n (omega arith), lt-leb n 0x7E (omega arith)))
