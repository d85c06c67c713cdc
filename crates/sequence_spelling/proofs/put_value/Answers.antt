-- As many digits as the value has: none (digits_none), one (digits_one), two (digits_two), three (digits_three).
use mathlib.Core.Path.{sym, ap}
use lib.ListN.{length}
use Rattle.run.proofs.Puts.{put_none, put_as, put_one, put_two, put_three}
use Rattle.sequence_spelling.proofs.Exactly.{digits_none, digits_one, digits_two, digits_three}
use native.Mathlib.Omega.{arith}
use Rattle.sequence_spelling.proofs.put_value.Goals as goal

pub returns-then-v-lt1 : goal.returns-then-v-lt1
returns-then-v-lt1 c = put_as (sym (digits_none c.args.v (omega arith))) (put_none _ _)

pub returns-then-v-lt10 : goal.returns-then-v-lt10
returns-then-v-lt10 c =
    let d = digits_one c.args.v (omega arith) (omega arith) in
    put_as (cc d) (put_one (omega (arith, ap length d)) c.put.ensures)

pub returns-then-v-lt100 : goal.returns-then-v-lt100
returns-then-v-lt100 c =
    let d = digits_two c.args.v (omega arith) (omega arith) in
    put_as (cc d) (put_two (omega (arith, ap length d)) c.put-i.ensures c.put-then-v-lt100.ensures)

pub returns : goal.returns
returns c =
    let d = digits_three c.args.v (omega arith) in
    put_as (cc d) (put_three (omega (arith, ap length d)) c.put-i-2.ensures c.put-j.ensures c.put-2.ensures)
