-- The loop over the run knows what it has counted, and that it is small (Respelling): each character is counted by respelt_character.
use Rattle.spelling_tables.specs.PackedSpellings.{spelling_table}
use Rattle.spelling_tables.proofs.LentSpellings.{low_packed, sized}
use Rattle.text_respelling.proofs.Counting.{respelling, respelt_start, respelt_character}
use Rattle.text_respelling.proofs.count_characters.Goals as goal

pub loop-at-init : goal.loop-at-init
loop-at-init c = respelling _ _ _ (respelt_start _ _ _)

pub loop-at-preserved : goal.loop-at-preserved
loop-at-preserved c =
    let some = sized _ _ c.packed_size-size.ensures c.if-size-eq0.false in
    let looked = low_packed (spelling_table c.args.speller.now) c.in-Some.x.code _ c.low.ensures some in
    respelling _ _ _ (respelt_character _ _ _ c.loop-at.invariant.both c.in-Some.x c.in-Some.ensures _ looked some c.packed_size-size.ensures).1
