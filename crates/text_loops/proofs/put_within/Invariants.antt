-- The loop knows that the octets so far are such characters, which stand in the buffer.
use Prim.Native.Nat.{◌≤◌, ◌+◌}
use lib.ListN.{length, take}
use Rattle.run.specs.Put.{Put}
use Rattle.lent_tables.specs.CodeTables.{code_table}
use Rattle.text_loops.proofs.RunsAndPairs.{all_words}
use Rattle.text_loops.proofs.put_within.Given as goal

abbrev pub invariant-loop-i : goal.invariant-loop-i
invariant-loop-i l =
    let ws = all_words (code_table l.reader) l.octets in
    (l.i ≤ length ws) × Put l.initial.words l.o (take l.i ws) l.words (l.o + l.i)
