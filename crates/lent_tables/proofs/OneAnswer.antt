-- Each public function's promise allows only one answer: two results that keep it, of the same arguments, are equal.
-- Assumes nothing.
use Prim.Native.Nat.{ℕ}
use mathlib.Core.List.{List}
use Rattle.run.specs.OneAnswer.{Once}
use Rattle.run.proofs.OneAnswer.{once}
use Rattle.sorts.specs.declared.Form.{Form}
use Rattle.squares.specs.Squares.{square_table}
use Rattle.lent_tables.specs.CodeTables.{code_table, code_in, paired_in}
use Rattle.lent_tables.specs.Promises.{CodeTablePromise, CodeInPromise, PairedInPromise}
use Rattle.lent_tables.specs.Promises.{OfFormPromise, FormPromise, CodePromise, PairPromise}

pub one_answer : (form : Form) (octet code follower : ℕ) (squares : List (List ℕ)) (codes : List ℕ)
    → Once (CodeTablePromise form)
    × Once (CodeInPromise codes octet)
    × Once (PairedInPromise squares code follower)
    × Once (OfFormPromise form)
    × Once (FormPromise form)
    × Once (CodePromise form octet)
    × Once (PairPromise form code follower)
one_answer form octet code follower squares codes = (
  once (CodeTablePromise form) (code_table form) (λ r p. p),
  once (CodeInPromise codes octet) (code_in codes octet) (λ r p. p),
  once (PairedInPromise squares code follower) (paired_in squares code follower) (λ r p. p),
  once (OfFormPromise form) form (λ r p. p),
  once (FormPromise form) form (λ r p. p),
  once (CodePromise form octet) (code_in (code_table form) octet) (λ r p. p),
  once (PairPromise form code follower) (paired_in square_table code follower) (λ r p. p),
)
