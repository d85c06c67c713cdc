-- `put_table` meets its contract: after each length, the entries of those before it are put.
use native.Mathlib.Omega.{arith}
use Rattle.run.specs.Answers.{given}
use Rattle.run.proofs.Members.{member_at}
use Rattle.run.proofs.Puts.{put_none, put_both, put_as, put_length}
use Rattle.case_writing.proofs.Parts.{table_more, table_place, none_over_lem}
use Rattle.case_writing.proofs.put_table.Goals as goal

pub loop-length-init : goal.loop-length-init
unfolding given
loop-length-init c = put_none _ _

pub put_number-next-requires : goal.put_number-next-requires
put_number-next-requires c =
    let l = c.loop-length in
    let small = none_over_lem 0xFFFF _ c.requires.1 _ (member_at _ 0 l.length-index c.loop-length-test.true) in
    (omega (arith, table_place _ _ l.invariant c.loop-length-test.true, put_length l.invariant), omega (arith, small))

pub loop-length-preserved : goal.loop-length-preserved
loop-length-preserved c =
    put_as (table_more _ _ c.loop-length-test.true) (put_both c.loop-length.invariant c.put_number-next.ensures)
