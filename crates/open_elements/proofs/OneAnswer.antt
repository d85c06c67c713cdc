-- Each promise of a public function allows only one answer.
-- Assumes nothing.
use Prim.Native.Nat.{ℕ}
use mathlib.Core.List.{List, ◌++◌}
use lib.ListN.{length, take, drop}
use Rattle.run.specs.Answers.{over}
use Rattle.run.specs.OneAnswer.{Once, OnceBoth}
use Rattle.run.proofs.OneAnswer.{once, once_both}
use Rattle.sorts.specs.declared.Form.{Form}
use Rattle.open_elements.specs.OpenElements.{is_open, read_on, read_on_words}
use Rattle.open_elements.specs.Promises.{IsOpenPromise, GatherPromise, ReadOnPromise}

pub one_answer : (form : Form) (waiting piece : List ℕ) (from : ℕ) (into words : List ℕ)
    → Once (IsOpenPromise form waiting)
    × OnceBoth (GatherPromise waiting piece from into)
    × OnceBoth (ReadOnPromise form waiting piece words)
one_answer form waiting piece from into words =
    let octets : List ℕ = take (length into) (drop from (waiting ++ piece)) in (
      once (IsOpenPromise form waiting) (is_open form waiting) (λ r p. p),
      once_both (GatherPromise waiting piece from into) (length octets) (over into octets) (λ r b p. (p.many, p.stand)),
      once_both (ReadOnPromise form waiting piece words) (read_on form waiting piece) (read_on_words form waiting piece words) (λ r b p. p),
    )
