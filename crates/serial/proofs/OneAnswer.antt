-- Each promise of a public function allows only one answer.
-- Assumes nothing.
use Prim.Native.Nat.{ℕ}
use mathlib.Core.Bool.{Bool}
use mathlib.Core.List.{List}
use lib.ListN.{length}
use Rattle.run.specs.OneAnswer.{Once, OnceBoth}
use Rattle.run.proofs.OneAnswer.{once, once_both}
use Rattle.serial.specs.declared.Carry.{Carry}
use Rattle.serial.specs.Feeding.{fresh_answer, feed_answer, feed_words}
use Rattle.serial.specs.Promises.{FreshPromise, FeedPromise}

pub one_answer : (form : ℕ) (carry : Carry) (piece : List ℕ) (ended : Bool) (words : List ℕ)
    → Once (FreshPromise form)
    × OnceBoth (FeedPromise carry piece ended words)
one_answer form carry piece ended words = (
  once (FreshPromise form) (fresh_answer form) (λ r p. p),
  once_both (FeedPromise carry piece ended words) (feed_answer carry piece ended (length words)) (feed_words carry piece words) (λ r b p. p),
)
