-- The loop knows what it has counted, and that it is small (Measuring): behind a run (behind_run), behind a pair (behind_pair) and behind an
-- element (behind_element); a step that is none is the refusal (read_stop), and at the end all is counted (read_end).
use mathlib.Core.Path.{sym, ◌∙◌}
use native.Mathlib.Omega.{arith}
use Rattle.run.proofs.Loops.{count_start}
use Rattle.element_reading.proofs.Reader.{reads}
use Rattle.text_loops.proofs.FewWords.{few_words}
use Rattle.text_loops.proofs.Tallied.{tally_start}
use Rattle.text_loops.proofs.Steps.{measuring, behind_element, read_stop, read_end}
use Rattle.text_loops.proofs.RunsAndPairs.{behind_run, behind_pair}
use Rattle.text_loops.proofs.measure_by_tables.Goals as goal

pub loop-at-init : goal.loop-at-init
loop-at-init c =
    let f = c.args.reader.now in
    let s = c.args.text.now in
    measuring f s (record { counted = count_start (reads f) (few_words f) s; tallied = tally_start f s })

pub returns-in_default : goal.returns-in_default
returns-in_default c =
    let run = behind_run _ _ c.loop-at.invariant.both c.spacing_run-k.ensures.counted in
    let step = rw c.form.ensures at c.element_at-step.ensures.0 in
    read_stop _ _ _ run step c.in_default.not-Element c.if-at-text.true c.step_answer.ensures

pub loop-at-preserved-then-x-ge-PAIRS_FROM : goal.loop-at-preserved-then-x-ge-PAIRS_FROM
loop-at-preserved-then-x-ge-PAIRS_FROM c =
    let run = behind_run _ _ c.loop-at.invariant.both c.spacing_run-k.ensures.counted in
    measuring _ _ (behind_pair _ _ run c.pair_at-x.ensures c.if-x-ge-PAIRS_FROM.true)

pub loop-at-smaller-in-Element : goal.loop-at-smaller-in-Element
loop-at-smaller-in-Element c =
    let run = behind_run _ _ c.loop-at.invariant.both c.spacing_run-k.ensures.counted in
    let step = rw c.form.ensures at c.element_at-step.ensures.0 in
    let on = behind_element _ _ run (sym step ∙ c.in-Element.is) c.words_in-count.ensures c.not_canonical-respelled.ensures in
    omega (arith, on.0, on.1.counted.passed.inside)

pub loop-at-preserved-in-Element : goal.loop-at-preserved-in-Element
loop-at-preserved-in-Element c =
    let run = behind_run _ _ c.loop-at.invariant.both c.spacing_run-k.ensures.counted in
    let step = rw c.form.ensures at c.element_at-step.ensures.0 in
    let on = behind_element _ _ run (sym step ∙ c.in-Element.is) c.words_in-count.ensures c.not_canonical-respelled.ensures in
    measuring _ _ on.1

pub loop-at-preserved : goal.loop-at-preserved
loop-at-preserved c = measuring _ _ (behind_run _ _ c.loop-at.invariant.both c.spacing_run-k.ensures.counted)

pub returns : goal.returns
returns c = read_end _ _ c.loop-at.invariant.both c.loop-at-test.false
