-- The loop over a text knows what it has counted, and that it is small (Respelling): behind a run (respelt_run), behind a character that the
-- tables read and spell (respelt_character), and behind an element (respelt_element); a step that is no element is reading's refusal
-- (spelt_stop), an element that the target does not hold is the refusal 10 (spelt_ten), and either carries 0 (respelt_refused); at the end
-- all is counted (respelt_end).
use mathlib.Core.Path.{refl, sym, ◌∙◌}
use native.Mathlib.Omega.{arith}
use Rattle.run.proofs.SpeltLoops.{spelt_stop, spelt_ten}
use Rattle.element_reading.proofs.Reader.{reads}
use Rattle.element_spelling.specs.ElementOctets.{spell_element}
use Rattle.element_spelling.proofs.SpeltSizes.{spelt_short}
use Rattle.text_loops.proofs.Steps.{here, step_refused}
use Rattle.text_respelling.proofs.Counting.{respelling, respelt_start, respelt_character, respelt_run, respelt_element}
use Rattle.text_respelling.proofs.Counting.{respelt_refused, respelt_end}
use Rattle.text_respelling.proofs.measure_convert.Goals.{else-loop-at-test, then-loop-at-test+then-text-at}
use Rattle.text_respelling.proofs.measure_convert.Goals as goal

pub loop-at-init : goal.loop-at-init
loop-at-init c = respelling _ _ _ (respelt_start _ _ _)

pub loop-at-preserved-then-p-ne0 : goal.loop-at-preserved-then-p-ne0
loop-at-preserved-then-p-ne0 c =
    let run = respelt_run _ _ _ c.loop-at.invariant.both c.count_characters-run.ensures.counted in
    respelling _ _ _
    (respelt_character _ _ _ run c.in-Some.x c.in-Some.ensures _ c.packed-p.ensures c.if-p-ne0.true c.packed_size-count.ensures).1

pub returns-in_default-step : goal.returns-in_default-step
returns-in_default-step c =
    let f = c.args.reader.now in
    let g = c.args.speller.now in
    let run = respelt_run _ _ _ c.loop-at.invariant.both c.count_characters-run.ensures.counted in
    let step = rw c.form.ensures at c.element_at-step.ensures.0 in
    let h = step_refused f _ _ _ step c.in_default-step.not-Element c.if-text-at.false in
    let end = spelt_stop (reads f) (spell_element g) (spelt_short g) _ run.counted h.here refl in
    respelt_refused f g _ c.reading_of.ensures (c.step_answer.ensures ∙ h.answers _) ((reads f).numbered _ _ _ h.here) end

pub returns-then-size-eq0 : goal.returns-then-size-eq0
returns-then-size-eq0 c =
    let f = c.args.reader.now in
    let g = c.args.speller.now in
    let run = respelt_run _ _ _ c.loop-at.invariant.both c.count_characters-run.ensures.counted in
    let step = rw c.form.ensures at c.element_at-step.ensures.0 in
    let size = rw c.form-in-loop-at.ensures at c.spelt_size-size.ensures in
    let h = here f _ _ _ _ _ (sym step ∙ c.in-Element.is) in
    let end = spelt_ten (reads f) (spell_element g) (spelt_short g) _ run.counted h.here size c.if-size-eq0.true in
    respelt_refused f g _ c.reading_of-then-size-eq0.ensures c.not_held.ensures (omega arith) end

pub overflow_add-count-in-loop-at : goal.overflow_add-count-in-loop-at
overflow_add-count-in-loop-at c = omega (arith, spelt_short c.form-in-loop-at.result c.in-Element.e, c.spelt_size-size.ensures)

pub loop-at-smaller : goal.loop-at-smaller
loop-at-smaller c =
    let run = respelt_run _ _ _ c.loop-at.invariant.both c.count_characters-run.ensures.counted in
    let step = rw c.form.ensures at c.element_at-step.ensures.0 in
    let size = rw c.form-in-loop-at.ensures at c.spelt_size-size.ensures in
    let on = respelt_element _ _ _ run (sym step ∙ c.in-Element.is) size c.if-size-eq0.false c.not_canonical-respelled.ensures in
    omega (arith, on.0, on.1.counted.passed.inside)

pub loop-at-preserved : goal.loop-at-preserved
loop-at-preserved c =
    let run = respelt_run _ _ _ c.loop-at.invariant.both c.count_characters-run.ensures.counted in
    let step = rw c.form.ensures at c.element_at-step.ensures.0 in
    let size = rw c.form-in-loop-at.ensures at c.spelt_size-size.ensures in
    let on = respelt_element _ _ _ run (sym step ∙ c.in-Element.is) size c.if-size-eq0.false c.not_canonical-respelled.ensures in
    respelling _ _ _ on.1

pub returns : goal.returns
returns c =
    elim c.loop-at-test.branch [
      | else-loop-at-test w ↦
          respelt_end _ _ _ c.loop-at.invariant.both (rw (w.at-is, w.n-is, w.count-is) at c.reading_of-2.ensures) w.loop-at-test.false
      | then-loop-at-test+then-text-at w ↦
          respelt_end _ _ _ (respelt_run _ _ _ c.loop-at.invariant.both w.count_characters-run.ensures.counted)
          (rw (w.at-is, w.n-is, w.count-is) at c.reading_of-2.ensures) w.if-text-at.true
    ]
