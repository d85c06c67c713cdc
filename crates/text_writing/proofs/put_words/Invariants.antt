-- The loop over the run knows what stands in the buffer (Writing): each character is put by run_put.
use Rattle.element_words.specs.Words.{word_head}
use Rattle.text_writing.proofs.Runs.{Writing}
use Rattle.text_writing.proofs.put_words.Given as goal

abbrev pub invariant-loop-i : goal.invariant-loop-i
invariant-loop-i l = Writing word_head l.speller l.words l.initial.text l.i l.octets l.text
