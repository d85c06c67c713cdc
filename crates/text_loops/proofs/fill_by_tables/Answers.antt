-- The loop knows what stands in the buffer (Filling): behind a run (filled_run), behind a pair (filled_pair) and behind an element
-- (filled_element); an accepted text has an element at each place (read_never), and at the end all is written (fill_end).
use mathlib.Core.Path.{sym, ◌∙◌}
use native.Mathlib.Omega.{arith}
use Rattle.run.proofs.Loops.{fill_start, fill_end}
use Rattle.element_reading.proofs.Reader.{reads}
use Rattle.text_loops.proofs.FewWords.{few_words}
use Rattle.text_loops.proofs.Steps.{filling, filled_element, read_never}
use Rattle.text_loops.proofs.RunsAndPairs.{room_for_run, filled_run, room_for_pair, filled_pair}
use Rattle.text_loops.proofs.fill_by_tables.Goals as goal

pub loop-at-init : goal.loop-at-init
loop-at-init c =
    let f = c.args.reader.now in
    filling f _ _ c.requires (fill_start (reads f) (few_words f) c.args.text.now c.args.words.now)

pub put_run-k-requires-clause-room : goal.put_run-k-requires-clause-room
put_run-k-requires-clause-room c = room_for_run _ _ _ c.requires c.loop-at.invariant.filled

pub bounds-words-o : goal.bounds-words-o
bounds-words-o c =
    let run = filled_run _ _ _ c.requires c.loop-at.invariant.filled c.put_run-k.ensures.counted c.put_run-k.ensures.put in
    room_for_pair _ _ _ c.requires run c.pair_at-x.ensures c.if-x-ne0.true

pub loop-at-preserved-then-x-ne0 : goal.loop-at-preserved-then-x-ne0
loop-at-preserved-then-x-ne0 c =
    let run = filled_run _ _ _ c.requires c.loop-at.invariant.filled c.put_run-k.ensures.counted c.put_run-k.ensures.put in
    filling _ _ _ c.requires (filled_pair _ _ _ c.requires run c.pair_at-x.ensures c.if-x-ne0.true)

pub returns-in_default : goal.returns-in_default
returns-in_default c =
    let run = filled_run _ _ _ c.requires c.loop-at.invariant.filled c.put_run-k.ensures.counted c.put_run-k.ensures.put in
    let step = rw c.form.ensures at c.element_at-step.ensures.0 in
    absurd (read_never _ _ _ c.requires _ run step c.in_default.not-Element c.if-at-text.true)

pub loop-at-smaller-in-Element : goal.loop-at-smaller-in-Element
loop-at-smaller-in-Element c =
    let run = filled_run _ _ _ c.requires c.loop-at.invariant.filled c.put_run-k.ensures.counted c.put_run-k.ensures.put in
    let step = rw c.form.ensures at c.element_at-step.ensures.0 in
    let on = filled_element _ _ _ c.requires run (sym step ∙ c.in-Element.is) c.put_words-o.ensures in
    omega (arith, on.0, on.1.passed.inside)

pub loop-at-preserved-in-Element : goal.loop-at-preserved-in-Element
loop-at-preserved-in-Element c =
    let run = filled_run _ _ _ c.requires c.loop-at.invariant.filled c.put_run-k.ensures.counted c.put_run-k.ensures.put in
    let step = rw c.form.ensures at c.element_at-step.ensures.0 in
    filling _ _ _ c.requires (filled_element _ _ _ c.requires run (sym step ∙ c.in-Element.is) c.put_words-o.ensures).1

pub loop-at-preserved : goal.loop-at-preserved
loop-at-preserved c =
    filling _ _ _ c.requires
    (filled_run _ _ _ c.requires c.loop-at.invariant.filled c.put_run-k.ensures.counted c.put_run-k.ensures.put)

pub returns : goal.returns
returns c =
    let f = c.args.reader.now in
    fill_end (reads f) (few_words f) _ _ c.requires c.loop-at.invariant.filled c.loop-at-test.false
