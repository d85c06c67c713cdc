-- The loop over words knows what it has counted, and that it is small (Counting): behind a run (spelt_on), behind a character that the table
-- spells (run_turn), and behind an element (spelt_turn); words that are no element, and an element without octets, are the refusal 10
-- (spelt_stop, spelt_ten), and at the end all is counted (spelt_end).
use Prim.Native.Nat.{◌-◌}
use lib.ListN.{length}
use Rattle.element_words.specs.Words.{word_head}
use Rattle.text_writing.proofs.Runs.{Counting}
use Rattle.text_writing.proofs.measure_write.Given as goal

abbrev pub invariant-loop-at : goal.invariant-loop-at
invariant-loop-at l = Counting word_head l.speller l.words l.at l.n l.count

abbrev pub decreases-loop-at : goal.decreases-loop-at
decreases-loop-at l = length l.words - l.at
