-- The test on which distinctness, inverse look-up and apartness rest, over the table of 13 by 53 that the code reads (its constant is
-- `square_table`: `square_table` promises it). Of each filled entry, in the table's order: that it is the next of the filled squares, what
-- its mark and its follower make, the pair that its character is found at, and that the character is no supplementary one. What rests on
-- it is in TableRule.
-- Assumes nothing.
use Prim.Native.Nat.{ℕ, ◌/◌, ◌%◌}
use mathlib.Core.Path.{◌≡◌, refl, sym, ap, ◌∙◌}
use mathlib.Core.List.{List, [], ◌∷◌, map, Memᴰ}
use lib.ListN.{get_or}
use Rattle.run.proofs.Members.{at_member}
use Rattle.run.proofs.Search.{filled}
use Rattle.std.specs.Prelude.{Option, Some, None}
use Rattle.sorts.specs.Cells.{octet_in}
use Rattle.sorts.specs.Tables.{supplementary}
use Rattle.squares.specs.Squares.{Square, sq, squares, square_of, pair_of, marks, followers, square_table, square_in}

-- the entry at a place, counted row by row
abbrev pub place_entry : ℕ → ℕ
place_entry i = square_in square_table (i / 53) (i % 53)

abbrev pub square_at : ℕ → Square
square_at i = sq (get_or marks (i / 53) 0) (get_or followers (i % 53) 0) (place_entry i)

-- the filled ones of the 689 entries, in the table's order
abbrev pub filled_entries : List Square
filled_entries = filled place_entry square_at 0 689

-- what is told of a filled square: itself, the character of its mark and follower, the pair of its character, the supplementary octet of it
data Told : Type 0 where
  tell : Square → Option ℕ → Option (ℕ × ℕ) → Option ℕ → Told

told : Square → Told
told (sq m l c) = tell (sq m l c) (square_of m l) (pair_of c) (octet_in supplementary c)

wanted : Square → Told
wanted (sq m l c) = tell (sq m l c) (Some c) (Some (m, l)) None

-- THE TEST
table_test : map told filled_entries ≡ map wanted squares
unfolding told wanted square_of pair_of supplementary square_table marks followers squares
table_test = refl

-- ---- the table has the filled squares, in their order

told_square : Told → Square
told_square (tell s x p o) = s

squares_told : (l : List Square) → map told_square (map told l) ≡ l
unfolding told told_square
squares_told [] = refl
squares_told (sq m l c ∷ ss) = ap (λ (k : List Square). sq m l c ∷ k) (squares_told ss)

squares_wanted : (l : List Square) → map told_square (map wanted l) ≡ l
unfolding wanted told_square
squares_wanted [] = refl
squares_wanted (sq m l c ∷ ss) = ap (λ (k : List Square). sq m l c ∷ k) (squares_wanted ss)

pub squares_filled : squares ≡ filled_entries
squares_filled = sym (squares_wanted squares) ∙ ap (map told_square) (sym table_test) ∙ squares_told filled_entries

-- ---- what the test says of a filled square
pub record ToldOf (m l c : ℕ) : Type 0 where
  pub forth : square_of m l ≡ Some c
  pub back : pair_of c ≡ Some (m, l)
  pub not_supplementary : octet_in supplementary c ≡ None

pub told_of : (m l c : ℕ) → Memᴰ (sq m l c) squares → ToldOf m l c
unfolding told wanted
told_of m l c h =
    let e = at_member told wanted h (ap (map told) squares_filled ∙ table_test) in
    record { forth = cc e; back = cc e; not_supplementary = cc e }
