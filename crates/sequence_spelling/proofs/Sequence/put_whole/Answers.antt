-- The spelling is its parts, written one after another (whole_put); there is room for each (value_room, rest_room, middle_room).
use mathlib.Core.Path.{◌≡◌, ap}
use mathlib.Core.List.{List}
use Prim.Native.Nat.{ℕ, ◌-◌}
use lib.ListN.{length, take, drop, length-drop}
use lib.Seq.{take_all}
use native.Mathlib.Omega.{arith}
use Rattle.run.proofs.Puts.{put_as}
use Rattle.sequence_spelling.specs.SequenceOctets.{spell_rest}
use Rattle.sequence_spelling.proofs.Puts.{value_room, rest_room, middle_room, whole_put}
use Rattle.sequence_spelling.proofs.Sequence.put_whole.Goals as goal

-- the slice behind the first value
behind_first : (vs : List ℕ) → take (length vs - 1) (drop 1 vs) ≡ drop 1 vs
behind_first vs = take_all (length vs - 1) (drop 1 vs) (omega (arith, length-drop 1 vs))

pub put_value-b-requires : goal.put_value-b-requires
put_value-b-requires c =
    value_room c.args.self.middle c.args.self.last c.args.self.values.now c.args.out.now c.args.at c.requires.some_value c.requires.room
    c.put-a.ensures

pub put_rest-c-requires : goal.put_rest-c-requires
put_rest-c-requires c =
    omega (
      arith,
      ap (λ (l : List ℕ). length (spell_rest l)) (behind_first c.args.self.values.now),
      rest_room c.args.self.middle c.args.self.last c.args.self.values.now c.args.out.now c.args.at c.requires.some_value c.requires.room
          c.put-a.ensures c.put_value-b.ensures,
    )

pub put_middle-d-requires : goal.put_middle-d-requires
put_middle-d-requires c =
    omega (
      arith,
      middle_room c.args.self.middle c.args.self.last c.args.self.values.now c.args.out.now c.args.at c.requires.some_value c.requires.room
          c.put-a.ensures c.put_value-b.ensures (put_as (ap spell_rest (behind_first c.args.self.values.now)) c.put_rest-c.ensures),
    )

pub returns : goal.returns
returns c =
    whole_put c.args.self.middle c.args.self.last c.args.self.values.now c.args.out.now c.args.at c.requires.some_value c.requires.room
    c.put-a.ensures c.put_value-b.ensures (put_as (ap spell_rest (behind_first c.args.self.values.now)) c.put_rest-c.ensures)
    c.put_middle-d.ensures c.put.ensures
