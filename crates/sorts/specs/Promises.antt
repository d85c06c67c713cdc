-- To be believed: the promise of each public function, by its name; its arguments, then its result. Where the result is an enum, what
-- stands behind the equation, by its own name, says of 01's number of it, and of its values, when they are given.
-- Assumes nothing.
use Rattle.std.specs.Prelude.{ℕ, ◌≡◌, ◌↔◌, Option, Some, None, Result, Ok, Err}
use mathlib.Core.List.{[], ◌∷◌, Memᴰ}
use Rattle.sorts.specs.declared.Form.{Form}
use Rattle.sorts.specs.declared.UnknownForm.{UnknownForm}
use Rattle.sorts.specs.declared.Sort.{Sort}
use Rattle.sorts.specs.Cells.{◌is◌, octet_in, octet_values}
use Rattle.sorts.specs.Tables.{supplementary}
use Rattle.sorts.specs.Forms.{◌names◌, forms, alphabet_of, form_of, form_number, NoForm}
use Rattle.sorts.specs.Sorts.{sort_in, shifted_in, sort_number, start_number, after_shift_number}
use Rattle.sorts.specs.SortLists.{◌sorts◌, lists, shifted_lists}

-- 11 exactly where the "form not 1 to 3", and a form exactly where 01's list has the number beside it
abbrev pub FormOfNumbers : ℕ → Option Form → Type 0
FormOfNumbers number x =
    ((form_number x ≡ 11) ↔ NoForm number)
    × ((f : Form) → (x ≡ Some f) ↔ Memᴰ (number names f) forms)

-- what `Form::try_from` has found
abbrev pub found_form : Result Form UnknownForm → Option Form
found_form (Ok f) = Some f
found_form (Err e) = None

-- the form of a number, as `Form::try_from` answers it
abbrev pub FormOfPromise : ℕ → Result Form UnknownForm → Type 0
FormOfPromise number r = (found_form r ≡ form_of number) × FormOfNumbers number (found_form r)

-- 5, 2, 1, or 0 where the octet begins something: what 01's lists say that it begins
abbrev pub SortInNumbers : Form → ℕ → Sort → Type 0
SortInNumbers form octet r =
    (sort_number r ≡ start_number (alphabet_of form) octet)
    × (sort_number r ≡ 0 → Memᴰ (octet sorts r) (lists (alphabet_of form)))

-- what an octet begins in a form
abbrev pub SortInPromise : Form → ℕ → Sort → Type 0
SortInPromise form octet r = (r ≡ sort_in form octet) × SortInNumbers form octet r

-- 5, 1, or 0 where the octet after SS2 codes something: what 01's lists say that it codes
abbrev pub SortShiftedNumbers : Form → ℕ → Sort → Type 0
SortShiftedNumbers form octet r =
    (sort_number r ≡ after_shift_number (alphabet_of form) octet)
    × (sort_number r ≡ 0 → Memᴰ (octet sorts r) (shifted_lists (alphabet_of form)))

-- what the octet after SS2 is in a form
abbrev pub SortShiftedPromise : Form → ℕ → Sort → Type 0
SortShiftedPromise form octet r = (r ≡ shifted_in form octet) × SortShiftedNumbers form octet r

-- no octet exactly where the character is not a supplementary one, and an octet exactly where 01's table has it beside the character
abbrev pub FindSpacingNumbers : ℕ → Option ℕ → Type 0
FindSpacingNumbers c r =
    ((octet_values r ≡ []) ↔ ((o : ℕ) → Memᴰ (o is c) supplementary → ⊥))
    × ((o : ℕ) → (octet_values r ≡ o ∷ []) ↔ Memᴰ (o is c) supplementary)

-- the supplementary octet of a character
abbrev pub FindSpacingPromise : ℕ → Option ℕ → Type 0
FindSpacingPromise c r = (r ≡ octet_in supplementary c) × FindSpacingNumbers c r
