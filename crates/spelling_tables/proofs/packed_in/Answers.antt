-- `packed_in`: the entry at the character's place, which is within the table (`slot_small`).
use Prim.Native.Nat.{ℕ}
use mathlib.Core.Path.{ap}
use lib.ListN.{get_or}
use Rattle.spelling_tables.proofs.Slots.{slot_small}
use borrow.Author.Rules.{rules}
use Rattle.spelling_tables.proofs.packed_in.Goals as goal

pub offset_bounds-table-slot_of : goal.offset_bounds-table-slot_of
offset_bounds-table-slot_of c = search (rules, slot_small c.args.c)

pub bounds-table-slot_of : goal.bounds-table-slot_of
bounds-table-slot_of c = search (rules, slot_small c.args.c)

pub returns : goal.returns
returns c = ap (λ (i : ℕ). get_or c.args.table.now i 0) c.slot_of.ensures
