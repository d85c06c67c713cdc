-- The loop over a text knows what stands in the buffer (Writing): behind a run (fill_spelt_on), behind a character that the tables read and
-- spell (run_put), and behind an element (element_put); an accepted text has an element at each place (fill_spelt_never), and at the end all
-- is written (fill_spelt_end).
use mathlib.Core.Path.{sym}
use native.Mathlib.Omega.{arith}
use Rattle.run.proofs.SpeltLoops.{fill_spelt_start, fill_spelt_end, fill_spelt_never, fill_spelt_rest, fill_spelt_on}
use Rattle.element_reading.proofs.Reader.{reads}
use Rattle.element_spelling.specs.ElementOctets.{spell_element}
use Rattle.element_spelling.proofs.SpeltSizes.{spelt_short}
use Rattle.text_loops.proofs.Steps.{here, step_refused}
use Rattle.text_writing.proofs.Runs.{writing, run_put, element_put}
use Rattle.text_respelling.proofs.Characters.{text_spelt}
use Rattle.text_respelling.proofs.fill_convert.Goals as goal

pub loop-at-init : goal.loop-at-init
loop-at-init c =
    let a = c.args in
    let g = a.speller.now in
    writing (reads a.reader.now) c.requires (fill_spelt_start (reads a.reader.now) (spell_element g) (spelt_short g) a.text.now a.out.now)

pub put_characters-run-requires : goal.put_characters-run-requires
put_characters-run-requires c =
    let g = c.args.speller.now in
    fill_spelt_rest (reads c.args.reader.now) (spell_element g) (spelt_short g) _ _ c.requires c.loop-at.invariant.filled

pub loop-at-preserved-then-p-ne0 : goal.loop-at-preserved-then-p-ne0
loop-at-preserved-then-p-ne0 c =
    let f = c.args.reader.now in
    let g = c.args.speller.now in
    let run = fill_spelt_on (reads f) (spell_element g) (spelt_short g) _ _ c.requires c.loop-at.invariant.filled c.put_characters-run.ensures.filled in
    let x = text_spelt f g _ _ c.in-Some.x c.in-Some.ensures _ c.packed-p.ensures c.if-p-ne0.true in
    writing (reads f) c.requires (run_put (reads f) x c.requires run c.put_packed-o.ensures).1

pub returns-in_default-element_at : goal.returns-in_default-element_at
returns-in_default-element_at c =
    let f = c.args.reader.now in
    let g = c.args.speller.now in
    let run = fill_spelt_on (reads f) (spell_element g) (spelt_short g) _ _ c.requires c.loop-at.invariant.filled c.put_characters-run.ensures.filled in
    let step = rw c.form.ensures at c.element_at.ensures.0 in
    let h = step_refused f _ _ _ step c.in_default-element_at.not-Element c.if-text-at.false in
    absurd (fill_spelt_never (reads f) (spell_element g) (spelt_short g) _ _ c.requires run h.here)

pub loop-at-smaller : goal.loop-at-smaller
loop-at-smaller c =
    let f = c.args.reader.now in
    let g = c.args.speller.now in
    let run = fill_spelt_on (reads f) (spell_element g) (spelt_short g) _ _ c.requires c.loop-at.invariant.filled c.put_characters-run.ensures.filled in
    let step = rw c.form.ensures at c.in-Element.ensures.0 in
    let put = rw c.form-in-loop-at.ensures at c.put_spelling-o.ensures in
    let on = element_put (reads f) g c.requires run (here f _ _ _ _ _ (sym step)) put in
    omega (arith, on.0, on.1.passed.inside)

pub loop-at-preserved : goal.loop-at-preserved
loop-at-preserved c =
    let f = c.args.reader.now in
    let g = c.args.speller.now in
    let run = fill_spelt_on (reads f) (spell_element g) (spelt_short g) _ _ c.requires c.loop-at.invariant.filled c.put_characters-run.ensures.filled in
    let step = rw c.form.ensures at c.in-Element.ensures.0 in
    let put = rw c.form-in-loop-at.ensures at c.put_spelling-o.ensures in
    writing (reads f) c.requires (element_put (reads f) g c.requires run (here f _ _ _ _ _ (sym step)) put).1

pub returns-after-loop-at : goal.returns-after-loop-at
returns-after-loop-at c =
    let g = c.args.speller.now in
    fill_spelt_end (reads c.args.reader.now) (spell_element g) (spelt_short g) _ _ c.requires c.loop-at.invariant.filled c.loop-at-test.false

pub returns-then-text-at : goal.returns-then-text-at
returns-then-text-at c =
    let f = c.args.reader.now in
    let g = c.args.speller.now in
    let run = fill_spelt_on (reads f) (spell_element g) (spelt_short g) _ _ c.requires c.loop-at.invariant.filled c.put_characters-run.ensures.filled in
    fill_spelt_end (reads f) (spell_element g) (spelt_short g) _ _ c.requires run c.if-text-at.true
