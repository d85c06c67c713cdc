-- `read_pages` meets its contract: what is measured, with the room, is the whole answer (`refuses`, `short`, `roomy`).
use mathlib.Core.Path.{◌∙◌}
use native.Mathlib.Omega.{arith}
use Rattle.tlx.proofs.Rooms.{refuses, short, roomy}
use Rattle.tlx.proofs.read_pages.Goals as goal

pub returns-then-numbers-ne0 : goal.returns-then-numbers-ne0
returns-then-numbers-ne0 c = refuses _ _ _ c.args.pages.right c.args.words.now _ c.measure_pages-a.ensures c.if-numbers-ne0.true

pub returns-then-words-count : goal.returns-then-words-count
returns-then-words-count c =
    let m = c.measure_pages-a.ensures in
    let s = short _ _ _ c.args.pages.right c.args.words.now _ m (omega arith) _ c.short_room.ensures c.if-words-count.true in
    (c.beside.ensures ∙ s.0, s.1)

pub fill_pages-requires : goal.fill_pages-requires
fill_pages-requires c =
    (roomy _ _ _ c.args.pages.right c.args.words.now _ c.measure_pages-a.ensures (omega arith) (omega arith)).0

pub returns : goal.returns
returns c =
    let r = roomy _ _ _ c.args.pages.right c.args.words.now _ c.measure_pages-a.ensures (omega arith) (omega arith) in
    (r.1, c.fill_pages.ensures)
