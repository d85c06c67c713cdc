-- Each public function's promise allows only one answer: two results that keep it, of the same arguments, are equal.
-- Assumes nothing.
use Prim.Native.Nat.{ℕ}
use mathlib.Core.List.{List}
use Rattle.run.specs.OneAnswer.{Once, OnceBoth}
use Rattle.run.proofs.OneAnswer.{once, once_put}
use Rattle.sequence_spelling.specs.SequenceOctets.{size_of}
use Rattle.sequence_spelling.specs.Promises.{SequenceSizePromise, PutSequencePromise}

pub one_answer : (middle last : ℕ) (values out : List ℕ) (at : ℕ)
    → Once (SequenceSizePromise middle last values)
    × OnceBoth (PutSequencePromise middle last values out at)
one_answer middle last values out at = (
  once (SequenceSizePromise middle last values) (size_of (record { middle = middle; last = last; values = values })) (λ r p. p),
  once_put out at _,
)
