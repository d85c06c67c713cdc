-- The loop over the run knows what it has counted, and that it is small (Counting): each character is counted by run_turn.
use Rattle.element_words.specs.Words.{word_head}
use Rattle.text_writing.proofs.Runs.{Counting}
use Rattle.text_writing.proofs.count_words.Given as goal

abbrev pub invariant-loop-i : goal.invariant-loop-i
invariant-loop-i l = Counting word_head l.speller l.words l.i l.i l.octets
