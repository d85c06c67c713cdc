-- To be believed: the promise of each public function, by its name; its arguments, at entry, then its result. Where the result is an
-- enum, what stands behind the equation, by its own name, says of 01's number of it, and of its values, when they are given.
-- Assumes nothing.
use Rattle.std.specs.Prelude.{ℕ, ◌≡◌, ◌↔◌, Option}
use mathlib.Core.List.{List, [], ◌∷◌, Memᴰ}
use Rattle.squares.specs.Squares.{sq, squares, square_of, found_number, found_values, pair_of, pairing_values, column_of, square_table}
use Rattle.squares.specs.Squares.{square_in}

-- the column of a follower
abbrev pub ColumnOfPromise : ℕ → ℕ → Type 0
ColumnOfPromise follower r = r ≡ column_of follower

-- the table of 13 by 53
abbrev pub SquareTablePromise : List (List ℕ) → Type 0
SquareTablePromise r = r ≡ square_table

-- an entry of a lent table
abbrev pub SquareInPromise : List (List ℕ) → ℕ → ℕ → ℕ → Type 0
SquareInPromise table row column r = r ≡ square_in table row column

-- of a mark, 3 exactly where "what follows a mark isn't its listed follower": the two fill no square. (An octet that is no mark has no
-- follower, and is answered 3 with any; a follower of 80 or above in form 2 is 5's, which the reader asks first.) A character exactly
-- where the two fill its square
abbrev pub PairedNumbers : ℕ → ℕ → Option ℕ → Type 0
PairedNumbers mark follower r =
    ((found_number r ≡ 3) ↔ ((c : ℕ) → Memᴰ (sq mark follower c) squares → ⊥))
    × ((c : ℕ) → (found_values r ≡ c ∷ []) ↔ Memᴰ (sq mark follower c) squares)

-- the character of a mark and a follower
abbrev pub PairedPromise : ℕ → ℕ → Option ℕ → Type 0
PairedPromise mark follower r = (r ≡ square_of mark follower) × PairedNumbers mark follower r

-- no pair exactly where the character fills no square, and a pair exactly where it fills the pair's
abbrev pub FindPairNumbers : ℕ → Option (ℕ × ℕ) → Type 0
FindPairNumbers c r =
    ((pairing_values r ≡ []) ↔ ((m l : ℕ) → Memᴰ (sq m l c) squares → ⊥))
    × ((m l : ℕ) → (pairing_values r ≡ m ∷ l ∷ []) ↔ Memᴰ (sq m l c) squares)

-- the mark and the follower of a character
abbrev pub FindPairPromise : ℕ → Option (ℕ × ℕ) → Type 0
FindPairPromise c r = (r ≡ pair_of c) × FindPairNumbers c r
