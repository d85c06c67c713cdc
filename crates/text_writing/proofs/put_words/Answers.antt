-- The loop over the run knows what stands in the buffer (Writing): each character is put by run_put.
use Rattle.run.proofs.SpeltLoops.{fill_spelt_start}
use Rattle.element_words.proofs.Words.{words_read}
use Rattle.element_spelling.specs.ElementOctets.{spell_element}
use Rattle.element_spelling.proofs.SpeltSizes.{spelt_short}
use Rattle.text_writing.proofs.Runs.{low_spelt, writing, run_put}
use Rattle.text_writing.proofs.put_words.Goals as goal

pub loop-i-init : goal.loop-i-init
loop-i-init c =
    let f = c.args.speller.now in
    writing words_read c.requires (fill_spelt_start words_read (spell_element f) (spelt_short f) c.args.words.now c.args.text.now)

pub loop-i-preserved : goal.loop-i-preserved
loop-i-preserved c =
    let x = low_spelt _ _ _ _ c.loop-i-test.true c.low-p.ensures c.if-p-eq0.false in
    writing words_read c.requires (run_put words_read x c.requires c.loop-i.invariant.filled c.put_packed-octets.ensures).1
