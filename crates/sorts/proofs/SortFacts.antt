-- What readers and writers above may rely on of octets and their sorts, over the form. What goes by the form are the tests of its alphabet,
-- which antt computes; a line turns each into the fact.
-- Assumes nothing.
use Prim.Native.Nat.{ℕ, ◌<◌}
use mathlib.Core.Path.{◌≡◌, refl, ap}
use mathlib.Core.Bool.{Bool, true, false}
use mathlib.Core.Logic.{◌⊎◌, inl, inr}
use native.Mathlib.Omega.{arith}
use Rattle.run.proofs.Members.{at_member}
use Rattle.sorts.specs.declared.Form.{Form}
use Rattle.sorts.specs.declared.Form.TheVariants.{Eight, Seven, Basic}
use Rattle.sorts.specs.declared.Sort.{Sort}
use Rattle.sorts.specs.declared.Sort.TheVariants.{Graphic, Mark, Underline, Shift, Control, SequenceStart, Refused}
use Rattle.sorts.specs.Cells.{meaning}
use Rattle.sorts.specs.Forms.{Alphabet, alphabet_of, SS2, CC, CSI}
use Rattle.sorts.specs.Sorts.{sort_by, shifted_by, sort_in, shifted_in, sort_number, AfterShift}
use Rattle.sorts.proofs.Tests.{Alike, AllBelow, below}
use Rattle.sorts.proofs.Sorted.{sort_says, shifted_says}

-- what is left of SS2 in a form with an underline octet
abbrev no_shift : Sort → Bool
no_shift (Graphic c) = true
no_shift (Mark m) = true
no_shift Underline = true
no_shift Shift = false
no_shift Control = true
no_shift SequenceStart = true
no_shift (Refused n) = true

abbrev shift_told : Alphabet → ℕ → ℕ × Sort
shift_told a o = (o, shifted_by a 0x21)

abbrev underline_told : Alphabet → ℕ → ℕ × Bool
underline_told a o = (o, no_shift (sort_by a SS2))

-- what is tested of an alphabet
record Tested (a : Alphabet) : Type 0 where
  pub spaces : sort_by a 0x20 ≡ Graphic 0x20
  pub shift : Alike (shift_told a) (λ o. (SS2, Graphic 0xA1)) a.shifts
  pub underline : Alike (underline_told a) (λ o. (CC, true)) a.underlines
  pub sequence : Alike (λ o. o) (λ o. CSI) a.sequences
  pub control : AllBelow 0x100 (λ o. o) a.controls
  pub mark : AllBelow 0x100 meaning a.marks
  pub graphic : AllBelow 0x8000 meaning a.graphics
  pub shifted : AllBelow 0x10000 meaning a.shifted_graphics

tested : (f : Form) → Tested (alphabet_of f)
unfolding alphabet_of
tested Eight =
    record { spaces = refl; shift = refl; underline = refl; sequence = refl; control = refl; mark = refl; graphic = refl; shifted = refl }
tested Seven =
    record { spaces = refl; shift = refl; underline = refl; sequence = refl; control = refl; mark = refl; graphic = refl; shifted = refl }
tested Basic =
    record { spaces = refl; shift = refl; underline = refl; sequence = refl; control = refl; mark = refl; graphic = refl; shifted = refl }

-- SPACE is a graphic in each form
pub space_sorts : (f : Form) → sort_in f 0x20 ≡ Graphic 0x20
unfolding sort_in
space_sorts f = (tested f).spaces

-- ---- SS2, the underline octet, the sequence start

-- only SS2 shifts, and something may follow it
pub shift_is : (f : Form) (o : ℕ) → sort_in f o ≡ Shift → (o ≡ SS2) × (shifted_in f 0x21 ≡ Graphic 0xA1)
unfolding shifted_in
shift_is f o e =
    let h = at_member {B = ℕ × Sort} (shift_told (alphabet_of f)) (λ o. (SS2, Graphic 0xA1)) (sort_says f o Shift e) (tested f).shift in
    (ap (λ (p : ℕ × Sort). p.0) h, ap (λ (p : ℕ × Sort). p.1) h)

is_shift : (s : Sort) → no_shift s ≡ true → s ≡ Shift → ⊥
is_shift s h e = let w : no_shift s ≡ false = ap no_shift e in let z : ◌≡◌ {A = ℕ} 0 1 = cc in omega arith

-- only CC underlines, and a form that has it has no SS2
pub underline_is : (f : Form) (o : ℕ) → sort_in f o ≡ Underline → (o ≡ CC) × (sort_in f SS2 ≡ Shift → ⊥)
unfolding sort_in
underline_is f o e =
    let m = sort_says f o Underline e in
    let h = at_member {B = ℕ × Bool} (underline_told (alphabet_of f)) (λ o. (CC, true)) m (tested f).underline in
    (ap (λ (p : ℕ × Bool). p.0) h, is_shift (sort_by (alphabet_of f) SS2) (ap (λ (p : ℕ × Bool). p.1) h))

-- only CSI begins a control sequence
pub sequence_is : (f : Form) (o : ℕ) → sort_in f o ≡ SequenceStart → o ≡ CSI
sequence_is f o e = at_member (λ o. o) (λ o. CSI) (sort_says f o SequenceStart e) (tested f).sequence

-- ---- bounds

-- a control is an octet, and so is a mark
pub control_small : (f : Form) (o : ℕ) → sort_in f o ≡ Control → o < 0x100
control_small f o e = below 0x100 (λ o. o) (sort_says f o Control e) (tested f).control

pub mark_small : (f : Form) (o m : ℕ) → sort_in f o ≡ Mark m → m < 0x100
mark_small f o m e = below 0x100 meaning (sort_says f o (Mark m) e) (tested f).mark

-- a spacing character that is one octet has fifteen bits, and one after SS2 sixteen
pub graphic_small : (f : Form) (o c : ℕ) → sort_in f o ≡ Graphic c → c < 0x8000
graphic_small f o c e = below 0x8000 meaning (sort_says f o (Graphic c) e) (tested f).graphic

pub shifted_graphic_small : (f : Form) (o c : ℕ) → shifted_in f o ≡ Graphic c → c < 0x10000
shifted_graphic_small f o c e = below 0x10000 meaning (shifted_says f o (Graphic c) e) (tested f).shifted

-- ---- refusals

-- an octet that begins nothing is refused with 1, 2 or 5; after SS2 with 1 or 5, and else it is a graphic or a mark
pub refused_numbers : (f : Form) (o n : ℕ) → sort_in f o ≡ Refused n → (n ≡ 1) ⊎ ((n ≡ 2) ⊎ (n ≡ 5))
refused_numbers f o n e = sort_says f o (Refused n) e

pub after_shift : (f : Form) (o : ℕ) (s : Sort) → shifted_in f o ≡ s → AfterShift s
after_shift f o (Graphic c) e = tt
after_shift f o (Mark m) e = tt
after_shift f o Underline e = shifted_says f o Underline e
after_shift f o Shift e = shifted_says f o Shift e
after_shift f o Control e = shifted_says f o Control e
after_shift f o SequenceStart e = shifted_says f o SequenceStart e
after_shift f o (Refused n) e = shifted_says f o (Refused n) e

-- an octet begins something, or its number is 1, 2 or 5
pub sort_number_lem : (f : Form) (o : ℕ) → (sort_number (sort_in f o) ≡ 0)
    ⊎ ((sort_number (sort_in f o) ≡ 1) ⊎ ((sort_number (sort_in f o) ≡ 2) ⊎ (sort_number (sort_in f o) ≡ 5)))
sort_number_lem f o = go (sort_in f o) refl
  where
    go : (s : Sort) → sort_in f o ≡ s → (sort_number s ≡ 0) ⊎ ((sort_number s ≡ 1) ⊎ ((sort_number s ≡ 2) ⊎ (sort_number s ≡ 5)))
    go (Graphic c) e = inl refl
    go (Mark m) e = inl refl
    go Underline e = inl refl
    go Shift e = inl refl
    go Control e = inl refl
    go SequenceStart e = inl refl
    go (Refused n) e = inr (refused_numbers f o n e)

-- after SS2 an octet codes something, or its number is 1 or 5
pub shifted_number : (f : Form) (o : ℕ) → (sort_number (shifted_in f o) ≡ 0)
    ⊎ ((sort_number (shifted_in f o) ≡ 1) ⊎ (sort_number (shifted_in f o) ≡ 5))
shifted_number f o = go (shifted_in f o) (after_shift f o (shifted_in f o) refl)
  where
    go : (s : Sort) → AfterShift s → (sort_number s ≡ 0) ⊎ ((sort_number s ≡ 1) ⊎ (sort_number s ≡ 5))
    go (Graphic c) a = inl refl
    go (Mark m) a = inl refl
    go Underline a = absurd a
    go Shift a = absurd a
    go Control a = absurd a
    go SequenceStart a = absurd a
    go (Refused n) a = inr a
