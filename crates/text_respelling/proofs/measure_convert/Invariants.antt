-- The loop over a text knows what it has counted, and that it is small (Respelling): behind a run (respelt_run), behind a character that the
-- tables read and spell (respelt_character), and behind an element (respelt_element); a step that is no element is reading's refusal
-- (spelt_stop), an element that the target does not hold is the refusal 10 (spelt_ten), and either carries 0 (respelt_refused); at the end
-- all is counted (respelt_end).
use Prim.Native.Nat.{◌-◌}
use lib.ListN.{length}
use Rattle.text_respelling.proofs.Counting.{Respelling}
use Rattle.text_respelling.proofs.measure_convert.Given as goal

abbrev pub invariant-loop-at : goal.invariant-loop-at
invariant-loop-at l = Respelling l.reader l.speller l.text l.at l.n l.count l.respelled

abbrev pub decreases-loop-at : goal.decreases-loop-at
decreases-loop-at l = length l.text - l.at
