-- Each public function's promise allows only one answer: two results that keep it, of the same arguments, are equal.
-- Assumes nothing.
use Prim.Native.Nat.{ℕ}
use mathlib.Core.List.{List}
use lib.ListN.{get_or}
use Rattle.run.specs.OneAnswer.{Once}
use Rattle.run.proofs.OneAnswer.{once}
use Rattle.sequence_reading.specs.Kinds.{kind_of}
use Rattle.sequence_reading.specs.SequenceHead.{reading_at}
use Rattle.sequence_reading.specs.Promises.{KindOfPromise, ValueAtPromise, ReadSequencePromise}

pub one_answer : (octet : ℕ) (v : List ℕ) (k : ℕ) (text : List ℕ) (at : ℕ)
    → Once (KindOfPromise octet)
    × Once (ValueAtPromise v k)
    × Once (ReadSequencePromise text at)
one_answer octet v k text at = (
  once (KindOfPromise octet) (kind_of octet) (λ r p. p.0),
  once (ValueAtPromise v k) (get_or v k 0) (λ r p. p),
  once (ReadSequencePromise text at) (reading_at text at) (λ r p. p.0),
)
