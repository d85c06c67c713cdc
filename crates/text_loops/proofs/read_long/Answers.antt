-- What is wanted has room (wanted_room), and is written (wanted_written).
use mathlib.Core.Path.{sym, ◌∙◌}
use lib.Seq.{length-take-le}
use Rattle.text_loops.proofs.Fronts.{wanted_inside, wanted_room, wanted_written}
use Rattle.text_loops.proofs.read_long.Goals as goal

pub slice_bounds-fill_by_tables-end : goal.slice_bounds-fill_by_tables-end
slice_bounds-fill_by_tables-end c =
    let inside = wanted_inside _ _ _ _ _ _ c.measure_by_tables-m.ensures (sym c.is_wanted.ensures ∙ c.if-is_wanted.true) in
    sym (length-take-le _ _ inside.0)

pub fill_by_tables-requires : goal.fill_by_tables-requires
fill_by_tables-requires c =
    wanted_room _ _ _ _ _ _ c.measure_by_tables-m.ensures (sym c.is_wanted.ensures ∙ c.if-is_wanted.true)

pub returns-then-is_wanted : goal.returns-then-is_wanted
returns-then-is_wanted c =
    wanted_written _ _ _ _ _ _ c.measure_by_tables-m.ensures (sym c.is_wanted.ensures ∙ c.if-is_wanted.true) _
    c.fill_by_tables.ensures
