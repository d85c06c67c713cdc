-- Each public function's promise allows only one answer: two results that keep it, of the same arguments, are equal.
-- Assumes nothing.
use Prim.Native.Nat.{ℕ}
use mathlib.Core.List.{List}
use Rattle.run.specs.OneAnswer.{Once, OnceBoth}
use Rattle.run.proofs.OneAnswer.{once, once_put}
use Rattle.sorts.specs.declared.Form.{Form}
use Rattle.spelling_tables.specs.PackedSpellings.{spelling_table, packed_in, low_in, packed_size}
use Rattle.spelling_tables.specs.Promises.{SpellingTablePromise, PackedInPromise, LowInPromise, PackedSizePromise}
use Rattle.spelling_tables.specs.Promises.{PutPackedPromise, OfFormPromise, FormPromise, PackedPromise, LowPromise}

pub one_answer : (form : Form) (table out : List ℕ) (c p at : ℕ)
    → Once (SpellingTablePromise form)
    × Once (PackedInPromise table c)
    × Once (LowInPromise table c)
    × Once (PackedSizePromise p)
    × OnceBoth (PutPackedPromise p out at)
    × Once (OfFormPromise form)
    × Once (FormPromise form)
    × Once (PackedPromise form c)
    × Once (LowPromise form c)
one_answer form table out c p at = (
  once (SpellingTablePromise form) (spelling_table form) (λ r q. q),
  once (PackedInPromise table c) (packed_in table c) (λ r q. q),
  once (LowInPromise table c) (low_in table c) (λ r q. q),
  once (PackedSizePromise p) (packed_size p) (λ r q. q),
  once_put out at _,
  once (OfFormPromise form) form (λ r q. q),
  once (FormPromise form) form (λ r q. q),
  once (PackedPromise form c) (packed_in (spelling_table form) c) (λ r q. q),
  once (LowPromise form c) (low_in (spelling_table form) c) (λ r q. q),
)
