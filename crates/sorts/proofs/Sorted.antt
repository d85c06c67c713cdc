-- What a sort says of its octet, of any alphabet: one case a line of the definition.
-- Assumes nothing.
use Prim.Native.Nat.{ℕ}
use mathlib.Core.Path.{◌≡◌, refl, subst}
use mathlib.Core.List.{Memᴰ}
use mathlib.Core.Logic.{◌⊎◌, inl, inr}
use Rattle.run.specs.Choice.{one_of}
use Rattle.run.proofs.Choices.{pick_case, one_of_lem}
use Rattle.sorts.specs.declared.Form.{Form}
use Rattle.sorts.specs.declared.Sort.{Sort}
use Rattle.sorts.specs.declared.Sort.TheVariants.{Graphic, Mark, Underline, Shift, Control, SequenceStart, Refused}
use Rattle.std.specs.Prelude.{Option, Some, None}
use Rattle.sorts.specs.Cells.{◌is◌, char_in}
use Rattle.sorts.specs.Forms.{Alphabet, alphabet_of}
use Rattle.sorts.specs.Sorts.{too_high, mark_or_graphic, sort_by, shifted_by, sort_in, shifted_in}
use Rattle.sorts.proofs.Lookups.{char_cell}

-- ---- what a sort says

-- of the octet that an element begins with
abbrev pub Says : Alphabet → ℕ → Sort → Type 0
Says a o (Graphic c) = Memᴰ (o is c) a.graphics
Says a o (Mark m) = Memᴰ (o is m) a.marks
Says a o Underline = Memᴰ o a.underlines
Says a o Shift = Memᴰ o a.shifts
Says a o Control = Memᴰ o a.controls
Says a o SequenceStart = Memᴰ o a.sequences
Says a o (Refused n) = (n ≡ 1) ⊎ ((n ≡ 2) ⊎ (n ≡ 5))

-- of the octet after SS2
abbrev pub SaysShifted : Alphabet → ℕ → Sort → Type 0
SaysShifted a o (Graphic c) = Memᴰ (o is c) a.shifted_graphics
SaysShifted a o (Mark m) = Memᴰ (o is m) a.shifted_marks
SaysShifted a o Underline = ⊥
SaysShifted a o Shift = ⊥
SaysShifted a o Control = ⊥
SaysShifted a o SequenceStart = ⊥
SaysShifted a o (Refused n) = (n ≡ 1) ⊎ (n ≡ 5)

module _ (a : Alphabet) (o : ℕ) where
  coded : (x y : Option ℕ) → char_in a.marks o ≡ x → char_in a.graphics o ≡ y → Says a o (mark_or_graphic x y)
  coded (Some m) y ex ey = char_cell a.marks o m ex
  coded None (Some c) ex ey = char_cell a.graphics o c ey
  coded None None ex ey = inl refl

  coded_shifted : (x y : Option ℕ) → char_in a.shifted_marks o ≡ x → char_in a.shifted_graphics o ≡ y → SaysShifted a o (mark_or_graphic x y)
  coded_shifted (Some m) y ex ey = char_cell a.shifted_marks o m ex
  coded_shifted None (Some c) ex ey = char_cell a.shifted_graphics o c ey
  coded_shifted None None ex ey = inl refl

  pub says : Says a o (sort_by a o)
  says =
      pick_case (Says a o) (too_high a o) (Refused 5) _ (λ t. inr (inr refl))
      (λ n. pick_case (Says a o) (one_of a.controls o) Control _ (one_of_lem a.controls o)
      (λ n. pick_case (Says a o) (one_of a.shifts o) Shift _ (one_of_lem a.shifts o)
      (λ n. pick_case (Says a o) (one_of a.sequences o) SequenceStart _ (one_of_lem a.sequences o)
      (λ n. pick_case (Says a o) (one_of a.underlines o) Underline _ (one_of_lem a.underlines o)
      (λ n. pick_case (Says a o) (one_of a.escapes o) (Refused 2) _ (λ t. inr (inl refl))
      (λ n. coded (char_in a.marks o) (char_in a.graphics o) refl refl))))))

  pub says_shifted : SaysShifted a o (shifted_by a o)
  says_shifted =
      pick_case (SaysShifted a o) (too_high a o) (Refused 5) _ (λ t. inr refl)
      (λ n. coded_shifted (char_in a.shifted_marks o) (char_in a.shifted_graphics o) refl refl)

-- in a form
pub sort_says : (f : Form) (o : ℕ) (s : Sort) → sort_in f o ≡ s → Says (alphabet_of f) o s
unfolding sort_in
sort_says f o s e = subst (Says (alphabet_of f) o) e (says (alphabet_of f) o)

pub shifted_says : (f : Form) (o : ℕ) (s : Sort) → shifted_in f o ≡ s → SaysShifted (alphabet_of f) o s
unfolding shifted_in
shifted_says f o s e = subst (SaysShifted (alphabet_of f) o) e (says_shifted (alphabet_of f) o)
