-- The octets so far are such characters, and one more (run_more); up to the first that is none (run_stop), or the end (run_few).
use lib.ListN.{length}
use native.Mathlib.Omega.{arith}
use Rattle.lent_tables.specs.CodeTables.{code_table}
use Rattle.text_loops.proofs.RunsAndPairs.{run_few, run_more, run_stop}
use Rattle.text_loops.proofs.run_within.Goals as goal

pub returns-then-code-ge-NO_CHARACTER-clause-counted : goal.returns-then-code-ge-NO_CHARACTER-clause-counted
returns-then-code-ge-NO_CHARACTER-clause-counted c =
    let a = c.args in
    run_stop (code_table a.reader.now) a.octets.now _ c.loop-i-test.true c.loop-i.invariant
    (omega (arith, c.code.ensures, c.if-code-ge-NO_CHARACTER.true))

pub loop-i-preserved : goal.loop-i-preserved
loop-i-preserved c =
    let a = c.args in
    let more = run_more (code_table a.reader.now) a.octets.now _ c.loop-i-test.true c.loop-i.invariant (omega (arith, c.code.ensures)) in
    omega (arith, more.0)

pub returns-clause-counted : goal.returns-clause-counted
returns-clause-counted c =
    let a = c.args in
    omega (arith, run_few (code_table a.reader.now) (length a.octets.now) a.octets.now)
