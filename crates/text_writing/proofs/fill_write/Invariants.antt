-- The loop over words knows what stands in the buffer (Writing): behind a run (fill_spelt_on), behind a character that the table spells
-- (run_put), and behind an element (fill_spelt_turn); accepted words have an element at each place (fill_spelt_never), and at the end all is
-- written (fill_spelt_end).
use Prim.Native.Nat.{◌-◌}
use lib.ListN.{length}
use Rattle.element_words.specs.Words.{word_head}
use Rattle.text_writing.proofs.Runs.{Writing}
use Rattle.text_writing.proofs.fill_write.Given as goal

abbrev pub invariant-loop-at : goal.invariant-loop-at
invariant-loop-at l = Writing word_head l.speller l.words l.initial.text l.at l.o l.text

abbrev pub decreases-loop-at : goal.decreases-loop-at
decreases-loop-at l = length l.words - l.at
