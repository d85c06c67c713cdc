-- Each turn puts the next word (put_next).
use Rattle.run.proofs.Puts.{put_next}
use Rattle.text_loops.proofs.put_first.Goals as goal

pub loop-i-preserved : goal.loop-i-preserved
loop-i-preserved c = put_next _ _ c.loop-i-test.true c.loop-i.invariant
