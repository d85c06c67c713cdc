-- The loop over a text knows what stands in the buffer (Writing): behind a run (fill_spelt_on), behind a character that the tables read and
-- spell (run_put), and behind an element (element_put); an accepted text has an element at each place (fill_spelt_never), and at the end all
-- is written (fill_spelt_end).
use Prim.Native.Nat.{◌-◌}
use lib.ListN.{length}
use Rattle.element_reading.specs.ElementHead.{head_in}
use Rattle.text_writing.proofs.Runs.{Writing}
use Rattle.text_respelling.proofs.fill_convert.Given as goal

abbrev pub invariant-loop-at : goal.invariant-loop-at
invariant-loop-at l = Writing (head_in l.reader) l.speller l.text l.initial.out l.at l.o l.out

abbrev pub decreases-loop-at : goal.decreases-loop-at
decreases-loop-at l = length l.text - l.at
