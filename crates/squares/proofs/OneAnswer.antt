-- Each public function's promise allows only one answer: two results that keep it, of the same arguments, are equal. Where the result is
-- an enum, 01's numbers and values alone allow only one.
-- Assumes nothing.
use Prim.Native.Nat.{ℕ}
use mathlib.Core.List.{List}
use Rattle.run.specs.OneAnswer.{Once}
use Rattle.run.proofs.OneAnswer.{once}
use Rattle.squares.specs.Squares.{square_of, pair_of, square_table, square_in, column_of}
use Rattle.squares.specs.Promises.{ColumnOfPromise, SquareTablePromise, SquareInPromise, PairedPromise, FindPairPromise}
use Rattle.squares.specs.Promises.{PairedNumbers, FindPairNumbers}
use Rattle.squares.proofs.NumbersExactly.{paired_by, pair_by_lem}

pub one_answer : (mark follower c row column : ℕ) (lent : List (List ℕ))
    → Once (PairedPromise mark follower)
    × Once (FindPairPromise c)
    × Once SquareTablePromise
    × Once (SquareInPromise lent row column)
    × Once (ColumnOfPromise follower)
one_answer mark follower c row column lent = (
  once (PairedPromise mark follower) (square_of mark follower) (λ r p. p.0),
  once (FindPairPromise c) (pair_of c) (λ r p. p.0),
  once SquareTablePromise square_table (λ r p. p),
  once (SquareInPromise lent row column) (square_in lent row column) (λ r p. p),
  once (ColumnOfPromise follower) (column_of follower) (λ r p. p),
)

pub one_by_numbers : (mark follower c : ℕ) → Once (PairedNumbers mark follower) × Once (FindPairNumbers c)
one_by_numbers mark follower c = (
  once (PairedNumbers mark follower) (square_of mark follower) (paired_by mark follower),
  once (FindPairNumbers c) (pair_of c) (pair_by_lem c),
)
