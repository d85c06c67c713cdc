-- The loop over words knows what it has counted, and that it is small (Counting): behind a run (spelt_on), behind a character that the table
-- spells (run_turn), and behind an element (element_turn); words that are no element, and an element without octets, are the refusal 10
-- (spelt_stop, spelt_ten), and at the end all is counted (spelt_end, which the search finds).
use mathlib.Core.Path.{refl, sym, ◌∙◌}
use native.Mathlib.Omega.{arith}
use Rattle.run.proofs.SpeltLoops.{spelt_start, spelt_stop, spelt_ten, spelt_on}
use Rattle.element_words.proofs.Words.{words_read}
use Rattle.element_spelling.specs.ElementOctets.{spell_element}
use Rattle.element_spelling.proofs.SpeltSizes.{spelt_short}
use Rattle.text_writing.proofs.Places.{word_here, no_word_here}
use Rattle.text_writing.proofs.Runs.{word_spelt, counting, run_turn, element_turn}
use Rattle.text_writing.proofs.measure_write.Goals as goal

pub loop-at-init : goal.loop-at-init
loop-at-init c =
    let f = c.args.speller.now in
    counting words_read (spelt_start words_read (spell_element f) (spelt_short f) c.args.words.now)

pub loop-at-preserved-then-p-ne0 : goal.loop-at-preserved-then-p-ne0
loop-at-preserved-then-p-ne0 c =
    let f = c.args.speller.now in
    let run = spelt_on words_read (spell_element f) (spelt_short f) _ c.loop-at.invariant.counted c.count_words-run.ensures.counted in
    let x = word_spelt _ _ _ _ c.if-at-words.true c.packed-p.ensures c.if-p-ne0.true in
    counting words_read (run_turn words_read x run c.packed_size-count.ensures).1

pub returns-in_default : goal.returns-in_default
returns-in_default c =
    let f = c.args.speller.now in
    let run = spelt_on words_read (spell_element f) (spelt_short f) _ c.loop-at.invariant.counted c.count_words-run.ensures.counted in
    let q = no_word_here c.args.words.now _ c.if-at-words.true _ c.element_of.ensures.0 c.in_default.not-Element in
    c.not_held.ensures ∙ spelt_stop words_read (spell_element f) (spelt_short f) _ run q refl

pub returns-then-size-eq0 : goal.returns-then-size-eq0
returns-then-size-eq0 c =
    let f = c.args.speller.now in
    let run = spelt_on words_read (spell_element f) (spelt_short f) _ c.loop-at.invariant.counted c.count_words-run.ensures.counted in
    let word = word_here _ _ _ _ (sym c.in-Element.ensures.0) in
    let size = rw c.form.ensures at c.spelt_size-size.ensures in
    c.not_held-then-size-eq0.ensures ∙ spelt_ten words_read (spell_element f) (spelt_short f) _ run word.here size c.if-size-eq0.true

pub overflow_add-count-else-p-ne0 : goal.overflow_add-count-else-p-ne0
overflow_add-count-else-p-ne0 c = omega (arith, spelt_short c.form.result c.in-Element.e, c.spelt_size-size.ensures)

pub loop-at-smaller-else-p-ne0 : goal.loop-at-smaller-else-p-ne0
loop-at-smaller-else-p-ne0 c =
    let f = c.args.speller.now in
    let run = spelt_on words_read (spell_element f) (spelt_short f) _ c.loop-at.invariant.counted c.count_words-run.ensures.counted in
    let word = word_here _ _ _ _ (sym c.in-Element.ensures.0) in
    let size = rw c.form.ensures at c.spelt_size-size.ensures in
    let on = element_turn words_read f run word size c.if-size-eq0.false in
    omega (arith, on.0, on.1.passed.inside)

pub loop-at-preserved-else-p-ne0 : goal.loop-at-preserved-else-p-ne0
loop-at-preserved-else-p-ne0 c =
    let f = c.args.speller.now in
    let run = spelt_on words_read (spell_element f) (spelt_short f) _ c.loop-at.invariant.counted c.count_words-run.ensures.counted in
    let word = word_here _ _ _ _ (sym c.in-Element.ensures.0) in
    let size = rw c.form.ensures at c.spelt_size-size.ensures in
    counting words_read (element_turn words_read f run word size c.if-size-eq0.false).1

pub loop-at-preserved : goal.loop-at-preserved
loop-at-preserved c =
    let f = c.args.speller.now in
    counting words_read
    (spelt_on words_read (spell_element f) (spelt_short f) _ c.loop-at.invariant.counted c.count_words-run.ensures.counted)
