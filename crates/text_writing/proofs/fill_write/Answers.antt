-- The loop over words knows what stands in the buffer (Writing): behind a run (fill_spelt_on), behind a character that the table spells
-- (run_put), and behind an element (element_put); accepted words have an element at each place (fill_spelt_never), and at the end all is
-- written (fill_spelt_end).
use mathlib.Core.Path.{sym}
use native.Mathlib.Omega.{arith}
use Rattle.run.proofs.SpeltLoops.{fill_spelt_start, fill_spelt_end, fill_spelt_never, fill_spelt_rest, fill_spelt_on}
use Rattle.element_words.proofs.Words.{words_read}
use Rattle.element_spelling.specs.ElementOctets.{spell_element}
use Rattle.element_spelling.proofs.SpeltSizes.{spelt_short}
use Rattle.text_writing.proofs.Places.{word_here, no_word_here}
use Rattle.text_writing.proofs.Runs.{word_spelt, writing, run_put, element_put}
use Rattle.text_writing.proofs.fill_write.Goals as goal

pub loop-at-init : goal.loop-at-init
loop-at-init c =
    let f = c.args.speller.now in
    writing words_read c.requires (fill_spelt_start words_read (spell_element f) (spelt_short f) c.args.words.now c.args.text.now)

pub put_words-run-requires : goal.put_words-run-requires
put_words-run-requires c =
    let f = c.args.speller.now in
    fill_spelt_rest words_read (spell_element f) (spelt_short f) _ _ c.requires c.loop-at.invariant.filled

pub loop-at-preserved-then-p-ne0 : goal.loop-at-preserved-then-p-ne0
loop-at-preserved-then-p-ne0 c =
    let f = c.args.speller.now in
    let run = fill_spelt_on words_read (spell_element f) (spelt_short f) _ _ c.requires c.loop-at.invariant.filled c.put_words-run.ensures.filled in
    let x = word_spelt _ _ _ _ c.if-at-words.true c.packed-p.ensures c.if-p-ne0.true in
    writing words_read c.requires (run_put words_read x c.requires run c.put_packed-o.ensures).1

pub returns-in_default : goal.returns-in_default
returns-in_default c =
    let f = c.args.speller.now in
    let run = fill_spelt_on words_read (spell_element f) (spelt_short f) _ _ c.requires c.loop-at.invariant.filled c.put_words-run.ensures.filled in
    let q = no_word_here c.args.words.now _ c.if-at-words.true _ c.element_of.ensures.0 c.in_default.not-Element in
    absurd (fill_spelt_never words_read (spell_element f) (spelt_short f) _ _ c.requires run q)

pub loop-at-smaller-else-p-ne0 : goal.loop-at-smaller-else-p-ne0
loop-at-smaller-else-p-ne0 c =
    let f = c.args.speller.now in
    let run = fill_spelt_on words_read (spell_element f) (spelt_short f) _ _ c.requires c.loop-at.invariant.filled c.put_words-run.ensures.filled in
    let word = word_here _ _ _ _ (sym c.in-Element.ensures.0) in
    let on = element_put words_read f c.requires run word (rw c.form.ensures at c.put_spelling-o.ensures) in
    omega (arith, on.0, on.1.passed.inside)

pub loop-at-preserved-else-p-ne0 : goal.loop-at-preserved-else-p-ne0
loop-at-preserved-else-p-ne0 c =
    let f = c.args.speller.now in
    let run = fill_spelt_on words_read (spell_element f) (spelt_short f) _ _ c.requires c.loop-at.invariant.filled c.put_words-run.ensures.filled in
    let word = word_here _ _ _ _ (sym c.in-Element.ensures.0) in
    writing words_read c.requires (element_put words_read f c.requires run word (rw c.form.ensures at c.put_spelling-o.ensures)).1

pub loop-at-preserved : goal.loop-at-preserved
loop-at-preserved c =
    let f = c.args.speller.now in
    writing words_read c.requires
    (fill_spelt_on words_read (spell_element f) (spelt_short f) _ _ c.requires c.loop-at.invariant.filled c.put_words-run.ensures.filled)

pub returns : goal.returns
returns c =
    let f = c.args.speller.now in
    fill_spelt_end words_read (spell_element f) (spelt_short f) _ _ c.requires c.loop-at.invariant.filled c.loop-at-test.false
