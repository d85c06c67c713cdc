-- `put_all` meets its contract: each turn puts the next octet (`put_next`).
use Rattle.run.proofs.Puts.{put_next}
use Rattle.case_writing.proofs.put_all.Goals as goal

pub loop-i-preserved : goal.loop-i-preserved
loop-i-preserved c = put_next _ _ c.loop-i-test.true c.loop-i.invariant
