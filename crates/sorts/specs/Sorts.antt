-- Proved equal to 01's lists (SortLists, by proofs/SortsExactly: exactly): what an octet begins, one definition over what document 01 says
-- of a form (`sort_in`, `shifted_in` and what they are made of). To be believed: `sort_number`, `start_number`, `after_shift_number` and the
-- lists and the test that they ask (`too_high`, `beginnings`, `coded_after_shift`). Behind them, a law's word and parts of the code.
-- Assumes nothing.
use Rattle.std.specs.Prelude.{ℕ, ◌+◌, ◌*◌, ◌≡◌, ◌⊎◌, Bool, false, List, ◌++◌, map, eqb, leb, Option, Some, None}
use Rattle.run.specs.Choice.{pick, one_of}
use Rattle.sorts.specs.declared.Form.{Form}
use Rattle.sorts.specs.declared.Sort.{Sort}
use Rattle.sorts.specs.declared.Sort.TheVariants.{Graphic, Mark, Underline, Shift, Control, SequenceStart, Refused}
use Rattle.sorts.specs.Cells.{octet, char_in, octet_in, number}
use Rattle.sorts.specs.Tables.{consecutive, supplementary}
use Rattle.sorts.specs.Forms.{Alphabet, alphabet_of}

-- ---- to be believed

-- 01's number of each sort: a refusal's own, and 0 of what begins something
abbrev pub sort_number : Sort → ℕ
sort_number (Graphic c) = 0
sort_number (Mark m) = 0
sort_number Underline = 0
sort_number Shift = 0
sort_number Control = 0
sort_number SequenceStart = 0
sort_number (Refused n) = n

-- number 5's octets: "form 2, octet 80 or above"
abbrev pub too_high : Alphabet → ℕ → Bool
too_high a o = pick (eqb a.bits 7) (leb 0x80 o) false

-- ---- proved equal to 01's lists

abbrev pub mark_or : Option ℕ → Sort → Sort
mark_or (Some m) other = Mark m
mark_or None other = other

abbrev pub graphic_or : Option ℕ → Sort → Sort
graphic_or (Some c) other = Graphic c
graphic_or None other = other

-- a mark, a spacing character, or number 1: "the octet begins nothing in the form"
abbrev pub mark_or_graphic : Option ℕ → Option ℕ → Sort
mark_or_graphic mark graphic = mark_or mark (graphic_or graphic (Refused 1))

-- the sort of an octet that an element begins with; "at one octet 5 goes first"
abbrev pub sort_by : Alphabet → ℕ → Sort
sort_by a o =
    pick (too_high a o) (Refused 5)
    (pick (one_of a.controls o) Control
    (pick (one_of a.shifts o) Shift
    (pick (one_of a.sequences o) SequenceStart
    (pick (one_of a.underlines o) Underline
    (pick (one_of a.escapes o) (Refused 2)
    (mark_or_graphic (char_in a.marks o) (char_in a.graphics o)))))))

-- the sort of the octet after SS2; number 1 where "after SS2 it codes neither a spacing supplementary nor a mark"
abbrev pub shifted_by : Alphabet → ℕ → Sort
shifted_by a o = pick (too_high a o) (Refused 5) (mark_or_graphic (char_in a.shifted_marks o) (char_in a.shifted_graphics o))

unfoldable pub sort_in : Form → ℕ → Sort
unfolding alphabet_of
sort_in f o = sort_by (alphabet_of f) o

unfoldable pub shifted_in : Form → ℕ → Sort
unfolding alphabet_of
shifted_in f o = shifted_by (alphabet_of f) o

-- ---- to be believed: 01's numbers of an octet, row by row

-- what an element begins with in the form: a control, SS2, a sequence's first octet, CC, a mark, a spacing character
abbrev pub beginnings : Alphabet → List ℕ
beginnings a = a.controls ++ (a.shifts ++ (a.sequences ++ (a.underlines ++ (map octet a.marks ++ map octet a.graphics))))

-- 5: "form 2, octet 80 or above" goes first; 2: "element begins with 0E, 0F, 1B, 1D, and 19 in forms 1 and 3";
-- 1: "the octet begins nothing in the form and isn't number 2's or 5's"; 0 where it begins something
abbrev pub start_number : Alphabet → ℕ → ℕ
start_number a o =
    pick (too_high a o) 5
    (pick (one_of a.escapes o) 2
    (pick (one_of (beginnings a) o) 0 1))

-- what codes a mark or a spacing supplementary after SS2
abbrev pub coded_after_shift : Alphabet → List ℕ
coded_after_shift a = map octet a.shifted_marks ++ map octet a.shifted_graphics

-- the same of the octet after SS2: 5 goes first; 1: "after SS2 it codes neither a spacing supplementary nor a mark"
abbrev pub after_shift_number : Alphabet → ℕ → ℕ
after_shift_number a o =
    pick (too_high a o) 5
    (pick (one_of (coded_after_shift a) o) 0 1)

-- ---- a law's word (SortFacts: after_shift)

-- what an octet after SS2 can be: a spacing character, a mark, or refused with 1 or 5
abbrev pub AfterShift : Sort → Type 0
AfterShift (Graphic c) = Unit {0}
AfterShift (Mark m) = Unit {0}
AfterShift Underline = ⊥
AfterShift Shift = ⊥
AfterShift Control = ⊥
AfterShift SequenceStart = ⊥
AfterShift (Refused n) = (n ≡ 1) ⊎ (n ≡ 5)

-- ---- parts of the code

-- an entry of a table of characters, of which 0 is none
abbrev pub entry : ℕ → Sort
entry x = pick (eqb x 0) (Refused 1) (Graphic x)

-- the table of the supplementary set, counted from A0
unfoldable pub upper_at : ℕ → ℕ
unfolding supplementary
upper_at i = pick (leb 96 i) 0 (number (char_in supplementary (0xA0 + i)))

-- a spacing character of the supplementary set, in its eight-bit octet
unfoldable pub spacing_of : ℕ → Sort
unfolding supplementary
spacing_of o = graphic_or (char_in supplementary o) (Refused 1)

-- a table by pages: the entries of the 32 numbers from 32 times the page's on
abbrev pub page_of : (ℕ → ℕ) → ℕ → List ℕ
page_of f page = map f (consecutive (page * 32) 32)

-- the supplementary octets of a page's characters
unfoldable pub spacing_page : ℕ → List ℕ
unfolding supplementary
spacing_page = page_of (λ c. number (octet_in supplementary c))
