-- The loop over the run knows what it has counted, and that it is small (Respelling): each character is counted by respelt_character.
use Prim.Native.Nat.{◌-◌}
use lib.ListN.{length}
use Rattle.text_respelling.proofs.Counting.{Respelling}
use Rattle.text_respelling.proofs.count_characters.Given as goal

abbrev pub invariant-loop-at : goal.invariant-loop-at
invariant-loop-at l = Respelling l.reader l.speller l.text l.at l.elements l.octets 0

abbrev pub decreases-loop-at : goal.decreases-loop-at
decreases-loop-at l = length l.text - l.at
