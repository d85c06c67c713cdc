-- `put_table` meets its contract: after each length, the entries of those before it are put.
use lib.ListN.{take}
use Rattle.run.specs.Answers.{given}
use Rattle.run.specs.Put.{Put}
use Rattle.case_table.specs.Layout.{big16}
use Rattle.case_writing.proofs.put_table.Given as goal

abbrev pub invariant-loop-length : goal.invariant-loop-length
invariant-loop-length l = Put l.initial.out l.at (given big16 (take l.length-index l.lengths)) l.out l.next
