-- The loop knows that the octets so far are such characters (run_more), up to the first that is none (run_stop) or the end (run_few).
use Prim.Native.Nat.{◌≤◌}
use lib.ListN.{length}
use Rattle.lent_tables.specs.CodeTables.{code_table}
use Rattle.text_loops.proofs.RunsAndPairs.{all_words}
use Rattle.text_loops.proofs.run_within.Given as goal

abbrev pub invariant-loop-i : goal.invariant-loop-i
invariant-loop-i l = l.i ≤ length (all_words (code_table l.reader) l.octets)
