-- Parts of the code: the tables that a reader of whole texts looks into, which are always there, and what is found in one, by the
-- table's entries alone.
-- Assumes nothing.
use Rattle.std.specs.Prelude.{ℕ, ◌+◌, ◌-◌, ◌≡◌, Bool, true, List, map, eqb, ltb, get_or, Some, Option, None}
use Rattle.run.specs.Choice.{pick}
use Rattle.sorts.specs.declared.Form.{Form}
use Rattle.sorts.specs.declared.Sort.{Sort}
use Rattle.sorts.specs.declared.Sort.TheVariants.{Graphic, Mark, Underline, Shift, Control, SequenceStart, Refused}
use Rattle.sorts.specs.Cells.{octet_in}
use Rattle.sorts.specs.Forms.{alphabet_of}
use Rattle.sorts.specs.Tables.{consecutive}
use Rattle.squares.specs.Squares.{row_of, column_of, square_in, square_of}
use Rattle.sorts.specs.Sorts.{sort_in}

-- What each octet is by itself, as one number: a spacing character that is spelt canonically by it is its code point; from here on there is
-- none (01's highest is 266A)
abbrev pub no_character : ℕ
no_character = 0x8000

-- neither such a spacing character nor a mark: the row behind the last, which `row_of` gives of no mark
abbrev pub neither : ℕ
neither = no_character + 13

-- whether o is the octet that is written for a character, where the form names one: "Form 3 writes the number sign A6 and the currency
-- sign A8."
abbrev pub is_written : Option ℕ → ℕ → Bool
is_written (Some w) o = eqb o w
is_written None o = true

-- what an octet o of the form f is, by its sort: a spacing character where o is written for it, and so canonical; a mark is its row,
-- counted from there
abbrev pub code_of : Form → ℕ → Sort → ℕ
code_of f o (Graphic c) = pick (is_written (octet_in (alphabet_of f).writes c) o) c neither
code_of f o (Mark m) = no_character + row_of m
code_of f o Underline = neither
code_of f o Shift = neither
code_of f o Control = neither
code_of f o SequenceStart = neither
code_of f o (Refused n) = neither

unfoldable pub code_table : Form → List ℕ
unfolding sort_in row_of alphabet_of
code_table f = map (λ o. code_of f o (sort_in f o)) (consecutive 0x00 256)

-- an entry of such a table; past FF there is no octet, and neither
abbrev pub code_in : List ℕ → ℕ → ℕ
code_in table octet = pick (ltb octet 256) (get_or table octet 0) neither

-- the character of a mark's code and a follower: 0 where there is none
abbrev pub paired_in : List (List ℕ) → ℕ → ℕ → ℕ
paired_in table code follower = pick (ltb code no_character) 0 (square_in table (code - no_character) (column_of follower))

-- the mark and its follower, of an entry that is not 0
pub record ListedPair (f : Form) (o l c : ℕ) : Type 0 where
  pub mark : ℕ
  pub sorts : sort_in f o ≡ Mark mark
  pub square : square_of mark l ≡ Some c
