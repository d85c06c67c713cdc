-- To be believed: the squares of 13 marks by 53 followers, the character of a mark and its follower, and the pair of a character; behind
-- them, parts of the code: the table of 13 by 53 and its places, and the pages of pairs.
-- Assumes nothing.
use Rattle.std.specs.Prelude.{ℕ, suc, ◌+◌, ◌-◌, ◌*◌, ◌/◌, ◌%◌, List, [], ◌∷◌, ◌++◌, map, eqb, leb, length, get_or, Option, Some, None}
use Rattle.run.specs.Choice.{pick, within, first_by}
use Rattle.sorts.specs.Cells.{Cell, ◌is◌, char_in, number}
use Rattle.sorts.specs.Tables.{Row, row, rows, letters, consecutive}
use Rattle.sorts.specs.Sorts.{page_of}

abbrev pub mark_of : Row → ℕ
mark_of (row m k cs) = m

abbrev pub combining_of : Row → ℕ
combining_of (row m k cs) = k

abbrev pub cells_of : Row → List Cell
cells_of (row m k cs) = cs

-- how many cells some rows have
abbrev pub cell_count : List Row → ℕ
cell_count [] = 0
cell_count (row m k cs ∷ rs) = length cs + cell_count rs

-- the cells of a mark: none of an octet that is no mark
abbrev pub cells_in : List Row → ℕ → List Cell
cells_in = first_by mark_of cells_of []

-- the character of a mark and its listed follower
unfoldable pub square_of : ℕ → ℕ → Option ℕ
unfolding rows
square_of m l = char_in (cells_in rows m) l

-- 01's number of each answer to that: 3 where "what follows a mark isn't its listed follower"
abbrev pub found_number : Option ℕ → ℕ
found_number (Some c) = 0
found_number None = 3

-- and its values: the character, where there is one
abbrev pub found_values : Option ℕ → List ℕ
found_values (Some c) = c ∷ []
found_values None = []

-- a filled square: its mark, its follower, its character
pub data Square : Type 0 where
  sq : ℕ → ℕ → ℕ → Square

abbrev pub in_row : ℕ → List Cell → List Square → List Square
in_row m [] more = more
in_row m (l is c ∷ cs) more = sq m l c ∷ in_row m cs more

abbrev pub squares_in : List Row → List Square
squares_in [] = []
squares_in (row m k cs ∷ rs) = in_row m cs (squares_in rs)

-- the filled squares, row by row
unfoldable pub squares : List Square
unfolding rows
squares = squares_in rows

abbrev pub character : Square → ℕ
character (sq m l c) = c

abbrev pub pairing : Square → Option (ℕ × ℕ)
pairing (sq m l c) = Some (m, l)

-- the first pair that makes a character
abbrev pub pair_in : List Square → ℕ → Option (ℕ × ℕ)
pair_in = first_by character pairing None

unfoldable pub pair_of : ℕ → Option (ℕ × ℕ)
unfolding squares
pair_of c = pair_in squares c

-- 01's values of each answer to that: the mark and the follower. It has no number for either: 10 is a form's that lacks the character
abbrev pub pairing_values : Option (ℕ × ℕ) → List ℕ
pairing_values (Some (m, l)) = m ∷ l ∷ []
pairing_values None = []

-- "13 marks by 53 followers (52 letters and SPACE)": A to Z, a to z, SPACE
unfoldable pub marks : List ℕ
unfolding letters
marks = map mark_of letters

unfoldable pub followers : List ℕ
followers = consecutive 0x41 26 ++ consecutive 0x61 26 ++ (0x20 ∷ [])

-- ---- parts of the code: the table of 13 by 53

-- a square as an entry of the table: 0 where it is empty
unfoldable pub square_table : List (List ℕ)
unfolding square_of marks followers
square_table = map (λ m. map (λ l. number (square_of m l)) followers) marks

-- an entry of such a table: 0 past the table
abbrev pub square_in : List (List ℕ) → ℕ → ℕ → ℕ
square_in table r c = pick (leb 13 r) 0 (pick (leb 53 c) 0 (get_or (get_or table r []) c 0))

-- the place of a mark's row, and how many rows there are where the octet is no mark
abbrev pub place_in : List Row → ℕ → ℕ
place_in [] m = 0
place_in (row a k cs ∷ rs) m = let more = suc (place_in rs m) in pick (eqb a m) 0 more

unfoldable pub row_of : ℕ → ℕ
unfolding rows
row_of m = place_in rows m

-- the column of a follower, 53 where the octet is none
unfoldable pub column_of : ℕ → ℕ
column_of l =
    pick (within 0x41 0x5A l) (l - 0x41)
    (pick (within 0x61 0x7A l) (l - 0x47)
    (pick (eqb l 0x20) 52 53))

-- ---- parts of the code: pages of pairs

-- a pair as one number: 0x100 times its mark, and its follower; 0 where there is none
abbrev pub pair_number : Option (ℕ × ℕ) → ℕ
pair_number (Some (m, l)) = 0x100 * m + l
pair_number None = 0

-- and a number as that pair
abbrev pub pair_from : ℕ → Option (ℕ × ℕ)
pair_from x = pick (eqb x 0) None (Some (x / 0x100, x % 0x100))

-- the pairs of a page's characters
unfoldable pub pair_page : ℕ → List ℕ
unfolding pair_of
pair_page = page_of (λ c. pair_number (pair_of c))
