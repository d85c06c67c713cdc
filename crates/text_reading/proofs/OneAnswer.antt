-- Each promise of a public function allows only one answer.
-- Assumes nothing.
use Prim.Native.Nat.{ℕ}
use mathlib.Core.List.{List}
use lib.ListN.{length}
use Rattle.run.specs.OneAnswer.{Once, OnceBoth}
use Rattle.run.proofs.OneAnswer.{once, once_both}
use Rattle.text_reading.specs.ReadAnswers.{read_reading, read_words, lone_step, one_reading, one_words}
use Rattle.text_reading.specs.Promises.{MeasurePromise, ReadPromise, ReadElementPromise, ReadOnePromise}

pub one_answer : (form at : ℕ) (text words : List ℕ)
    → Once (MeasurePromise form text)
    × OnceBoth (ReadPromise form text words)
    × Once (ReadElementPromise form text at)
    × OnceBoth (ReadOnePromise form text at words)
one_answer form at text words = (
  once (MeasurePromise form text) (read_reading form text (length text)) (λ r p. p),
  once_both (ReadPromise form text words) (read_reading form text (length words)) (read_words form text words) (λ r after p. p),
  once (ReadElementPromise form text at) (lone_step form text at) (λ r p. p.0),
  once_both (ReadOnePromise form text at words) (one_reading form text at (length words)) (one_words form text at words) (λ r after p. p),
)
