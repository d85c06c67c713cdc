-- Value after value: what is written and what is left is the whole (Partly: partly_start, partly_more, partly_end).
use Rattle.sequence_spelling.proofs.Puts.{Partly}
use Rattle.sequence_spelling.proofs.put_rest.Given as goal

abbrev pub invariant-loop-v : goal.invariant-loop-v
invariant-loop-v l = Partly l.initial.out l.at l.rest l.out l.i l.v-index
