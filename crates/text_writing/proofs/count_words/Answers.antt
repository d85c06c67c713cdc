-- The loop over the run knows what it has counted, and that it is small (Counting): each character is counted by run_turn.
use Rattle.run.proofs.SpeltLoops.{spelt_start}
use Rattle.spelling_tables.proofs.LentSpellings.{sized}
use Rattle.element_words.proofs.Words.{words_read}
use Rattle.element_spelling.specs.ElementOctets.{spell_element}
use Rattle.element_spelling.proofs.SpeltSizes.{spelt_short}
use Rattle.text_writing.proofs.Runs.{low_spelt, counting, run_turn}
use Rattle.text_writing.proofs.count_words.Goals as goal

pub loop-i-init : goal.loop-i-init
loop-i-init c =
    let f = c.args.speller.now in
    counting words_read (spelt_start words_read (spell_element f) (spelt_short f) c.args.words.now)

pub loop-i-preserved : goal.loop-i-preserved
loop-i-preserved c =
    let some = sized _ _ c.packed_size-size.ensures c.if-size-eq0.false in
    let x = low_spelt _ _ _ _ c.loop-i-test.true c.low.ensures some in
    counting words_read (run_turn words_read x c.loop-i.invariant.counted c.packed_size-size.ensures).1
