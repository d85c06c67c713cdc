-- 0 is no octet (middle_none), any other is its own (middle_one).
use mathlib.Core.Path.{sym, ap}
use lib.ListN.{length}
use Rattle.run.proofs.Puts.{put_none, put_as, put_one}
use Rattle.sequence_spelling.proofs.Exactly.{middle_none, middle_one}
use native.Mathlib.Omega.{arith}
use Rattle.sequence_spelling.proofs.put_middle.Goals as goal

pub returns-then-middle-eq0 : goal.returns-then-middle-eq0
returns-then-middle-eq0 c = put_as (sym (middle_none c.args.middle c.if-middle-eq0.true)) (put_none _ _)

pub returns : goal.returns
returns c =
    let is_one =
    middle_one c.args.middle c.if-middle-eq0.false in
    put_as (sym is_one) (put_one (omega (arith, ap length is_one)) c.put.ensures)
