-- The first pass's refusal gives way to the reading's (carries_refusal); where it accepts, the text is read, and the answer is 9 where the
-- room is short (carries_short), and its own, with what it has counted, where there is room (carries_count); within the limit, that is the
-- whole answer (respell_within). That over the limit it is 12 the search finds.
use Prim.Native.Nat.{◌≤◌}
use mathlib.Core.Path.{ap}
use native.Mathlib.Omega.{arith}
use lib.ListN.{length}
use Rattle.run.specs.declared.ReadAnswer.{ReadAnswer}
use Rattle.text_reading.specs.ReadingNumbers.{limit}
use Rattle.text_respelling.proofs.ReadingFirst.{carries_refusal, carries_short, has_room, carries_count, respell_within}
use Rattle.text_respelling.proofs.respell.Goals as goal

pub returns-then-m-ne0 : goal.returns-then-m-ne0
returns-then-m-ne0 c =
    let l : length c.args.text.now ≤ limit = omega arith in
    let m = rw (c.of_form-reader.ensures, c.of_form-speller.ensures) at c.measure_convert-m.ensures in
    let four = ap (λ (r : ReadAnswer). r.answer) m in
    respell_within _ _ _ _ l (carries_refusal _ _ _ _ _ four c.if-m-ne0.true c.reading_first.ensures c.reading_of-then-m-ne0.ensures)

pub returns-then-out-m : goal.returns-then-out-m
returns-then-out-m c =
    let l : length c.args.text.now ≤ limit = omega arith in
    let m = rw (c.of_form-reader.ensures, c.of_form-speller.ensures) at c.measure_convert-m.ensures in
    let four = ap (λ (r : ReadAnswer). r.answer) m in
    respell_within _ _ _ _ l
    (carries_short _ _ _ _ _ four c.if-m-ne0.false c.if-out-m.true c.short_room.ensures c.reading_of-then-out-m.ensures)

pub fill_convert-requires : goal.fill_convert-requires
fill_convert-requires c =
    let four = ap (λ (r : ReadAnswer). r.answer) c.measure_convert-m.ensures in
    has_room _ _ _ c.args.out.now _ four c.if-m-ne0.false c.if-out-m.false

pub returns : goal.returns
returns c =
    let l : length c.args.text.now ≤ limit = omega arith in
    let m = rw (c.of_form-reader.ensures, c.of_form-speller.ensures) at c.measure_convert-m.ensures in
    let four = ap (λ (r : ReadAnswer). r.answer) m in
    let filled = rw (c.of_form-reader.ensures, c.of_form-speller.ensures) at c.fill_convert.ensures in
    respell_within _ _ _ _ l (carries_count _ _ _ _ _ four c.if-m-ne0.false c.if-out-m.false m filled)
