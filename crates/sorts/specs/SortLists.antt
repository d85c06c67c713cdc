-- To be believed: document 01's lists of a form's octets, with no order among them. `SortsExactly` says that the sorts of Sorts are these
-- lists' and no others', and is proved of each form (proofs/SortsExactly).
-- Assumes nothing.
use Rattle.std.specs.Prelude.{ℕ, suc, ◌≤◌, ◌≡◌, ◌↔◌, Bool, true, false, eqb, length}
use mathlib.Core.List.{List, [], ◌∷◌, ◌++◌, map, Memᴰ, Nodup}
use Rattle.run.specs.Choice.{pick, one_of}
use Rattle.sorts.specs.declared.Form.{Form}
use Rattle.sorts.specs.declared.Sort.{Sort}
use Rattle.sorts.specs.declared.Sort.TheVariants.{Graphic, Mark, Underline, Shift, Control, SequenceStart, Refused}
use Rattle.sorts.specs.Cells.{Cell, ◌is◌, octet, meaning}
use Rattle.sorts.specs.Tables.{consecutive}
use Rattle.sorts.specs.Forms.{Alphabet, alphabet_of}
use Rattle.sorts.specs.Sorts.{sort_in, shifted_in, beginnings, coded_after_shift}

-- ---- the lists, one behind another

infix 70 ◌sorts◌
-- an octet of a list, and the sort that the list gives it
pub data Listed : Type 0 where
  ◌sorts◌ : ℕ → Sort → Listed

abbrev pub listed_octet : Listed → ℕ
listed_octet (o sorts s) = o

abbrev pub listed_sort : Listed → Sort
listed_sort (o sorts s) = s

abbrev pub each : Sort → List ℕ → List Listed
each s os = map (λ o. o sorts s) os

abbrev pub each_cell : (ℕ → Sort) → List Cell → List Listed
each_cell s cells = map (λ cell. octet cell sorts s (meaning cell)) cells

-- of the octets that an element begins with
abbrev pub lists : Alphabet → List Listed
lists a =
    each Control a.controls
    ++ (each Shift a.shifts
    ++ (each SequenceStart a.sequences
    ++ (each Underline a.underlines
    ++ (each (Refused 2) a.escapes
    ++ (each_cell Mark a.marks
    ++ each_cell Graphic a.graphics)))))

-- of the octets after SS2
abbrev pub shifted_lists : Alphabet → List Listed
shifted_lists a = each_cell Mark a.shifted_marks ++ each_cell Graphic a.shifted_graphics

-- ---- how long they are

-- the list that a sort is of, counted in that order; 7 where it is of none
abbrev pub list_number : Sort → ℕ
list_number Control = 0
list_number Shift = 1
list_number SequenceStart = 2
list_number Underline = 3
list_number (Refused n) = pick (eqb n 2) 4 7
list_number (Mark m) = 5
list_number (Graphic c) = 6

-- how often k stands in a list
abbrev pub times_in : List ℕ → ℕ → ℕ
times_in [] k = 0
times_in (n ∷ ns) k = let more = times_in ns k in pick (eqb n k) (suc more) more

-- how many of the 256 octets are of each list's sort
abbrev pub tally : (ℕ → Sort) → List ℕ
tally sort = map (times_in (map (λ o. list_number (sort o)) (consecutive 0x00 256))) (consecutive 0 7)

abbrev pub lengths : Alphabet → List ℕ
lengths a =
    length a.controls ∷ length a.shifts ∷ length a.sequences ∷ length a.underlines ∷ length a.escapes ∷
    length a.marks ∷ length a.graphics ∷ []

abbrev pub shifted_lengths : Alphabet → List ℕ
shifted_lengths a = 0 ∷ 0 ∷ 0 ∷ 0 ∷ 0 ∷ length a.shifted_marks ∷ length a.shifted_graphics ∷ []

-- ---- what is computed of them, in one test a form

-- no number of a list stands in it again
abbrev pub no_twice : List ℕ → Bool
no_twice [] = true
no_twice (n ∷ ns) = let more = no_twice ns in pick (one_of ns n) false more

-- the sort of each listed octet; whether none is listed twice; how many of the 256 octets are of each list's sort
abbrev pub Told : Type 0
Told = List Sort × (Bool × List ℕ)

abbrev pub told : (ℕ → Sort) → List Listed → Told
told sort l = (map (λ e. sort (listed_octet e)) l, (no_twice (map listed_octet l), tally sort))

abbrev pub wanted : List Listed → List ℕ → Told
wanted l long = (map listed_sort l, (true, long))

-- ---- what is proved of a form

-- number 5's octets: "form 2, octet 80 or above"
abbrev pub TooHigh : Alphabet → ℕ → Type 0
TooHigh a o = (a.bits ≡ 7) × (0x80 ≤ o)

pub record SortsExactly (f : Form) : Type 0 where
  -- every member of each list sorts so, and only these do
  pub controls : (o : ℕ) → (sort_in f o ≡ Control) ↔ Memᴰ o (alphabet_of f).controls
  pub shifts : (o : ℕ) → (sort_in f o ≡ Shift) ↔ Memᴰ o (alphabet_of f).shifts
  pub sequences : (o : ℕ) → (sort_in f o ≡ SequenceStart) ↔ Memᴰ o (alphabet_of f).sequences
  pub underlines : (o : ℕ) → (sort_in f o ≡ Underline) ↔ Memᴰ o (alphabet_of f).underlines
  pub marks : (o m : ℕ) → (sort_in f o ≡ Mark m) ↔ Memᴰ (o is m) (alphabet_of f).marks
  pub graphics : (o c : ℕ) → (sort_in f o ≡ Graphic c) ↔ Memᴰ (o is c) (alphabet_of f).graphics
  -- 5: "form 2, octet 80 or above"; 2: "element begins with 0E, 0F, 1B, 1D, and 19 in forms 1 and 3"
  pub five : (o : ℕ) → (sort_in f o ≡ Refused 5) ↔ TooHigh (alphabet_of f) o
  pub two : (o : ℕ) → (sort_in f o ≡ Refused 2) ↔ Memᴰ o (alphabet_of f).escapes
  -- 1: "the octet begins nothing in the form and isn't number 2's or 5's"
  pub one : (o : ℕ) → (sort_in f o ≡ Refused 1)
      ↔ ((Memᴰ o (beginnings (alphabet_of f)) → ⊥) × (Memᴰ o (alphabet_of f).escapes → ⊥) × (TooHigh (alphabet_of f) o → ⊥))
  -- the same after SS2; 1: "after SS2 it codes neither a spacing supplementary nor a mark"
  pub shifted_marks_are : (o m : ℕ) → (shifted_in f o ≡ Mark m) ↔ Memᴰ (o is m) (alphabet_of f).shifted_marks
  pub shifted_graphics_are : (o c : ℕ) → (shifted_in f o ≡ Graphic c) ↔ Memᴰ (o is c) (alphabet_of f).shifted_graphics
  pub shifted_five : (o : ℕ) → (shifted_in f o ≡ Refused 5) ↔ TooHigh (alphabet_of f) o
  pub shifted_one : (o : ℕ) → (shifted_in f o ≡ Refused 1)
      ↔ ((Memᴰ o (coded_after_shift (alphabet_of f)) → ⊥) × (TooHigh (alphabet_of f) o → ⊥))
  -- no octet stands twice, in one list or in two
  pub none_twice : Nodup (map listed_octet (lists (alphabet_of f)))
  pub none_twice_shifted : Nodup (map listed_octet (shifted_lists (alphabet_of f)))
  -- as many octets are of each list's sort as the list is long
  pub tallied : tally (sort_in f) ≡ lengths (alphabet_of f)
  pub tallied_shifted : tally (shifted_in f) ≡ shifted_lengths (alphabet_of f)
