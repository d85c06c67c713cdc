-- The loop over the run knows what stands in the buffer (Writing): each character is put by run_put.
use Rattle.run.proofs.SpeltLoops.{fill_spelt_start}
use Rattle.spelling_tables.specs.PackedSpellings.{spelling_table}
use Rattle.spelling_tables.proofs.LentSpellings.{low_packed}
use Rattle.element_reading.proofs.Reader.{reads}
use Rattle.element_spelling.specs.ElementOctets.{spell_element}
use Rattle.element_spelling.proofs.SpeltSizes.{spelt_short}
use Rattle.text_writing.proofs.Runs.{writing, run_put}
use Rattle.text_respelling.proofs.Characters.{text_spelt}
use Rattle.text_respelling.proofs.put_characters.Goals as goal

pub loop-at-init : goal.loop-at-init
loop-at-init c =
    let a = c.args in
    let g = a.speller.now in
    writing (reads a.reader.now) c.requires (fill_spelt_start (reads a.reader.now) (spell_element g) (spelt_short g) a.text.now a.out.now)

pub loop-at-preserved : goal.loop-at-preserved
loop-at-preserved c =
    let f = c.args.reader.now in
    let looked = low_packed (spelling_table c.args.speller.now) c.in-Some.x.code _ c.low-p.ensures c.if-p-eq0.false in
    let x = text_spelt f c.args.speller.now _ _ c.in-Some.x c.in-Some.ensures _ looked c.if-p-eq0.false in
    writing (reads f) c.requires (run_put (reads f) x c.requires c.loop-at.invariant.filled c.put_packed-o.ensures).1
