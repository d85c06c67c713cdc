-- Each promise of a public function allows only one answer.
-- Assumes nothing.
use Prim.Native.Nat.{ℕ}
use mathlib.Core.Bool.{Bool, true}
use mathlib.Core.List.{List}
use lib.ListN.{drop}
use Rattle.run.specs.Choice.{pick}
use Rattle.run.specs.OneAnswer.{Once}
use Rattle.run.proofs.OneAnswer.{once}
use Rattle.sorts.specs.declared.Form.{Form}
use Rattle.sequence_spelling.specs.SequenceOctets.{canonical_behind}
use Rattle.canonical_tests.specs.Tests.{word_canonical}
use Rattle.canonical_tests.specs.Promises.{WordIsCanonicalPromise, SequenceIsCanonicalPromise, NotCanonicalPromise}

pub one_answer : (form : Form) (word last size : ℕ) (octets : List ℕ) (canonical : Bool)
    → Once (WordIsCanonicalPromise form word last size)
    × Once (SequenceIsCanonicalPromise octets)
    × Once (NotCanonicalPromise canonical)
one_answer form word last size octets canonical = (
  once (WordIsCanonicalPromise form word last size) (word_canonical form word last size) (λ r p. p),
  once (SequenceIsCanonicalPromise octets) (canonical_behind true (drop 1 octets)) (λ r p. p),
  once (NotCanonicalPromise canonical) (pick canonical 0 1) (λ r p. p),
)
