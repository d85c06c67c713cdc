-- The octets so far are such characters, which stand in the buffer, and one more (run_more, put_next); up to the first that is none
-- (run_stop), or the end (run_few).
use Prim.Native.Nat.{◌+◌}
use mathlib.Core.Path.{◌≡◌, sym, subst, ◌∙◌}
use native.Mathlib.Omega.{arith}
use lib.ListN.{length, take, set}
use Rattle.run.specs.Put.{Put}
use Rattle.run.proofs.Puts.{put_length, put_next}
use Rattle.lent_tables.specs.CodeTables.{code_table}
use Rattle.text_loops.proofs.RunsAndPairs.{all_words, run_few, run_more, run_stop, run_put}
use Rattle.text_loops.proofs.put_within.Goals as goal

pub returns-then-w-ge-NO_CHARACTER : goal.returns-then-w-ge-NO_CHARACTER
returns-then-w-ge-NO_CHARACTER c =
    let a = c.args in
    let all = run_stop (code_table a.reader.now) a.octets.now _ c.loop-i-test.true c.loop-i.invariant.0 (omega (arith, c.code-w.ensures, c.if-w-ge-NO_CHARACTER.true)) in
    record { inside = omega arith; counted = all; put = run_put all c.loop-i.invariant.1 }

pub bounds-words-o : goal.bounds-words-o
bounds-words-o c =
    let a = c.args in
    let more = run_more (code_table a.reader.now) a.octets.now _ c.loop-i-test.true c.loop-i.invariant.0 (omega (arith, c.code-w.ensures, c.if-w-ge-NO_CHARACTER.false)) in
    omega (arith, more.0, put_length c.loop-i.invariant.1)

pub loop-i-preserved : goal.loop-i-preserved
loop-i-preserved c =
    let a = c.args in
    let i = c.loop-i in
    let ws = all_words (code_table a.reader.now) a.octets.now in
    let more = run_more (code_table a.reader.now) a.octets.now _ c.loop-i-test.true i.invariant.0 (omega (arith, c.code-w.ensures, c.if-w-ge-NO_CHARACTER.false)) in
    (omega (arith, more.0), subst (λ w. Put a.words.now a.o (take (i.i + 1) ws) (set i.words (a.o + i.i) w) (a.o + (i.i + 1))) (more.1 ∙ sym c.code-w.ensures) (put_next ws i.i more.0 i.invariant.1))

pub returns : goal.returns
returns c =
    let a = c.args in
    let i = c.loop-i in
    let n : i.i ≡ length a.octets.now = omega arith in
    let all : i.i ≡ length (all_words (code_table a.reader.now) a.octets.now) = omega (arith, i.invariant.0, run_few (code_table a.reader.now) (length a.octets.now) a.octets.now) in
    record { inside = omega arith; counted = sym n ∙ all; put = subst (λ k. Put a.words.now a.o (all_words (code_table a.reader.now) a.octets.now) i.words (a.o + k)) n (run_put all i.invariant.1) }
