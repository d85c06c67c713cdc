-- 9 where the room is short (short), else all is written (roomy). The search finds the rest: 12, and 10.
use Prim.Native.Nat.{◌≤◌}
use mathlib.Core.Path.{◌∙◌}
use native.Mathlib.Omega.{arith}
use lib.ListN.{length}
use Rattle.run.specs.Answers.{same}
use Rattle.run.proofs.Rooms.{numbered, short, roomy}
use Rattle.element_spelling.proofs.Writer.{writer_reads}
use Rattle.text_reading.specs.ReadingNumbers.{limit}
use Rattle.text_reading.proofs.Edges.{within}
use Rattle.text_writing.proofs.write_in.Goals as goal

pub returns-then-text-m : goal.returns-then-text-m
returns-then-text-m c =
    let words = c.args.words.now in
    let l : length words ≤ limit = omega arith in
    let m = rw c.of_form-speller.ensures at c.measure_write-m.ensures in
    let e = short same _ c.args.text.now _ _ (numbered (writer_reads c.args.form) words) m c.if-m-ne0.false c.if-text-m.true in
    (c.short_room.ensures ∙ e.0 ∙ within words _ _ l, e.1 ∙ within words _ _ l)

pub fill_write-requires : goal.fill_write-requires
fill_write-requires c =
    let f = c.of_form-speller.result in
    (roomy same _ c.args.text.now _ _ (numbered (writer_reads f) c.args.words.now) c.measure_write-m.ensures c.if-m-ne0.false c.if-text-m.false).0
