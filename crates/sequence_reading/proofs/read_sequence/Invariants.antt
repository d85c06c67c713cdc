-- What is left of the text reads as the whole does (the invariant), up to a final, a refusal or the end.
use Rattle.sequence_reading.proofs.Places.{Reached}
use Rattle.sequence_reading.proofs.read_sequence.Given as goal

abbrev pub invariant-loop-i : goal.invariant-loop-i
invariant-loop-i l = Reached l.text l.at l.values l.s l.i
