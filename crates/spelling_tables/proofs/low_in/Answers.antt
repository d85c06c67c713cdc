-- `low_in`, by its test: the entry below U+0180, else 0.
use mathlib.Core.Path.{sym}
use native.Mathlib.Omega.{arith}
use borrow.Author.Tests.{lt-ltb, le-ltb}
use Rattle.spelling_tables.proofs.low_in.Goals as goal

pub returns-then-c-gt383 : goal.returns-then-c-gt383
returns-then-c-gt383 c = sym (simp (le-ltb _ 0x0180 c.if-c-gt383.true))

pub returns : goal.returns
returns c = sym (simp (lt-ltb c.args.c 0x0180 (omega (arith, c.if-c-gt383.false))))
