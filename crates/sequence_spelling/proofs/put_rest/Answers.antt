-- Value after value: what is written and what is left is the whole (Partly: partly_start, partly_more, partly_end).
use Rattle.run.proofs.Puts.{put_length, put_one}
use Rattle.sequence_spelling.proofs.Puts.{partly_room, partly_more, partly_end}
use native.Mathlib.Omega.{arith}
use Rattle.sequence_spelling.proofs.put_rest.Goals as goal

pub put_value-i-requires : goal.put_value-i-requires
put_value-i-requires c =
    let room = partly_room _ _ _ _ _ _ c.loop-v.invariant c.loop-v-test.true in
    let kept = put_length c.loop-v.invariant.put in
    let p = put_one (omega (arith, room, kept)) c.put-i.ensures in
    omega (arith, room, kept, put_length p, p.place)

pub loop-v-preserved : goal.loop-v-preserved
loop-v-preserved c =
    let more = c.loop-v-test.true in
    let room = partly_room _ _ _ _ _ _ c.loop-v.invariant more in
    let p =
    put_one (omega (arith, room, put_length c.loop-v.invariant.put))
    c.put-i.ensures in
    partly_more _ _ _ _ _ _ c.loop-v.invariant more p c.put_value-i.ensures

pub returns : goal.returns
returns c = partly_end _ _ _ _ _ _ c.loop-v.invariant c.loop-v-test.false
