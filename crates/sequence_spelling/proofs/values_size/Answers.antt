-- Value after value: what is counted and what is left is the whole (rest_step, rest_end).
use Rattle.sequence_spelling.proofs.Exactly.{rest_short}
use Rattle.sequence_spelling.proofs.Puts.{rest_step, rest_end}
use native.Mathlib.Omega.{arith}
use Rattle.sequence_spelling.proofs.values_size.Goals as goal

pub overflow_add-n : goal.overflow_add-n
overflow_add-n c =
    let vs = c.args.values.now in
    omega (arith, rest_step vs c.loop-v.v-index c.loop-v-test.true, rest_short vs, c.value_size.ensures)

pub overflow_add-n-in-loop-v : goal.overflow_add-n-in-loop-v
overflow_add-n-in-loop-v c =
    let vs = c.args.values.now in
    omega (arith, rest_step vs c.loop-v.v-index c.loop-v-test.true, rest_short vs, c.value_size.ensures)

pub loop-v-preserved : goal.loop-v-preserved
loop-v-preserved c = omega (arith, rest_step c.args.values.now c.loop-v.v-index c.loop-v-test.true, c.value_size.ensures)

pub returns : goal.returns
returns c = omega (arith, rest_end c.args.values.now c.loop-v.v-index c.loop-v-test.false)
