-- The loop knows what it has counted and put, and that it is small (Taking): behind a character and behind an element (taken_element), which
-- have room (take_room); a step that is none is the refusal (into_stop), and at the end all is read (into_end).
use mathlib.Core.Path.{refl, sym, ◌∙◌}
use native.Mathlib.Omega.{arith}
use Rattle.run.proofs.Loops.{take_start}
use Rattle.run.proofs.Puts.{put_entry, put_fits}
use Rattle.element_words.specs.Words.{words_of}
use Rattle.element_reading.proofs.Reader.{reads}
use Rattle.text_loops.proofs.FewWords.{few_words}
use Rattle.text_loops.proofs.Tallied.{told_here, tally_start}
use Rattle.text_loops.proofs.Steps.{taking, take_room, taken_element, into_stop, into_end}
use Rattle.text_loops.proofs.read_once.Goals as goal

pub loop-at-init : goal.loop-at-init
loop-at-init c =
    let f = c.args.reader.now in
    let s = c.args.text.now in
    taking f s _ (record { taken = take_start (reads f) (few_words f) s c.args.into.now; tallied = tally_start f s })

pub overflow_add-at : goal.overflow_add-at
overflow_add-at c =
    let on = taken_element _ _ _ c.loop-at.invariant.both c.in-Some.ensures refl put_entry in
    omega (arith, on.1.taken.counted.passed.inside)

pub loop-at-smaller-in-Some : goal.loop-at-smaller-in-Some
loop-at-smaller-in-Some c =
    let on = taken_element _ _ _ c.loop-at.invariant.both c.in-Some.ensures c.not_canonical-respelled.ensures put_entry in
    omega (arith, on.0, on.1.taken.counted.passed.inside)

pub loop-at-preserved-in-Some : goal.loop-at-preserved-in-Some
loop-at-preserved-in-Some c =
    let on = taken_element _ _ _ c.loop-at.invariant.both c.in-Some.ensures c.not_canonical-respelled.ensures put_entry in
    taking _ _ _ on.1

pub returns-in_default-step : goal.returns-in_default-step
returns-in_default-step c =
    let step = rw c.form.ensures at c.element_at-step.ensures.0 in
    into_stop _ _ c.loop-at.invariant.both _ step c.in_default-step.not-Element c.loop-at-test.true c.step_answer.ensures

pub loop-at-smaller : goal.loop-at-smaller
loop-at-smaller c =
    let step = rw c.form.ensures at c.element_at-step.ensures.0 in
    let told = told_here _ _ _ _ _ _ (sym step ∙ c.in-Element.is) in
    let room = take_room _ _ _ c.loop-at.invariant.both told c.requires in
    let put = put_fits (words_of c.in-Element.e) room c.put_words-o.ensures in
    let on = taken_element _ _ _ c.loop-at.invariant.both told c.not_canonical-respelled-in_default.ensures put in
    omega (arith, on.0, on.1.taken.counted.passed.inside)

pub loop-at-preserved : goal.loop-at-preserved
loop-at-preserved c =
    let step = rw c.form.ensures at c.element_at-step.ensures.0 in
    let told = told_here _ _ _ _ _ _ (sym step ∙ c.in-Element.is) in
    let room = take_room _ _ _ c.loop-at.invariant.both told c.requires in
    let put = put_fits (words_of c.in-Element.e) room c.put_words-o.ensures in
    taking _ _ _ (taken_element _ _ _ c.loop-at.invariant.both told c.not_canonical-respelled-in_default.ensures put).1

pub returns : goal.returns
returns c = into_end _ _ c.loop-at.invariant.both c.loop-at-test.false
