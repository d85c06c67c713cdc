-- The loop over the run knows what stands in the buffer (Writing): each character is put by run_put.
use Prim.Native.Nat.{◌-◌}
use lib.ListN.{length}
use Rattle.element_reading.specs.ElementHead.{head_in}
use Rattle.text_writing.proofs.Runs.{Writing}
use Rattle.text_respelling.proofs.put_characters.Given as goal

abbrev pub invariant-loop-at : goal.invariant-loop-at
invariant-loop-at l = Writing (head_in l.reader) l.speller l.text l.initial.out l.at l.o l.out

abbrev pub decreases-loop-at : goal.decreases-loop-at
decreases-loop-at l = length l.text - l.at
