-- What readers and writers above may rely on of marks, followers and squares, over the form. What goes by the form are the tests of its
-- alphabet, which antt computes; a line turns each into the fact.
-- Assumes nothing.
use Prim.Native.Nat.{ℕ, ◌<◌}
use mathlib.Core.Path.{◌≡◌, refl, ap}
use mathlib.Core.Bool.{Bool, true}
use mathlib.Core.Logic.{◌↔◌}
use native.Mathlib.Omega.{arith}
use Rattle.std.specs.Option.{is_some}
use Rattle.run.proofs.Members.{at_member}
use Rattle.sorts.specs.declared.Form.{Form}
use Rattle.sorts.specs.declared.Form.TheVariants.{Eight, Seven, Basic}
use Rattle.sorts.specs.declared.Sort.TheVariants.{Graphic, Mark}
use Rattle.std.specs.Prelude.{Option, Some, None}
use Rattle.sorts.specs.Cells.{Cell, meaning}
use Rattle.sorts.specs.Forms.{Alphabet, alphabet_of}
use Rattle.sorts.specs.Sorts.{sort_by, sort_in, shifted_in}
use Rattle.sorts.proofs.Tests.{Alike, AllBelow, below}
use Rattle.sorts.proofs.Sorted.{sort_says, shifted_says}
use Rattle.squares.specs.Squares.{Square, sq, character, squares, square_of, found_number}
use Rattle.squares.proofs.TableRule.{filled_member}

abbrev follower : Square → ℕ
follower (sq m l c) = l

listed_char : (x : Option ℕ) → is_some x ≡ true → (c : ℕ) × (x ≡ Some c)
listed_char (Some c) e = (c, refl)
listed_char None e = let w : ◌≡◌ {A = ℕ} 0 1 = cc in absurd (omega arith)

-- whether a mark may stand before SPACE
abbrev before_space : Cell → Bool
before_space cell = is_some (square_of (meaning cell) 0x20)

-- what is tested of an alphabet
record Tested (a : Alphabet) : Type 0 where
  pub followers : Alike (λ s. sort_by a (follower s)) (λ s. Graphic (follower s)) squares
  pub marks : Alike before_space (λ cell. true) a.marks
  pub shifted_marks_are : Alike before_space (λ cell. true) a.shifted_marks

tested : (f : Form) → Tested (alphabet_of f)
unfolding alphabet_of squares square_of
tested Eight = record { followers = refl; marks = refl; shifted_marks_are = refl }
tested Seven = record { followers = refl; marks = refl; shifted_marks_are = refl }
tested Basic = record { followers = refl; marks = refl; shifted_marks_are = refl }

-- ---- followers and marks

-- a listed follower is a graphic of each form by itself
pub follower_sorts : (f : Form) (m l c : ℕ) → square_of m l ≡ Some c → sort_in f l ≡ Graphic l
unfolding sort_in
follower_sorts f m l c e =
    at_member (λ s. sort_by (alphabet_of f) (follower s)) (λ s. Graphic (follower s)) (filled_member m l c e) (tested f).followers

-- every mark may stand before SPACE
pub mark_space : (f : Form) (o m : ℕ) → sort_in f o ≡ Mark m → (c : ℕ) × (square_of m 0x20 ≡ Some c)
mark_space f o m e =
    listed_char (square_of m 0x20) (at_member before_space (λ cell. true) (sort_says f o (Mark m) e) (tested f).marks)

pub shifted_mark_space : (f : Form) (o m : ℕ) → shifted_in f o ≡ Mark m → (c : ℕ) × (square_of m 0x20 ≡ Some c)
shifted_mark_space f o m e =
    listed_char (square_of m 0x20) (at_member before_space (λ cell. true) (shifted_says f o (Mark m) e) (tested f).shifted_marks_are)

-- ---- squares

square_test : AllBelow 0x10000 character squares
unfolding squares
square_test = refl

pub square_small : (m l c : ℕ) → square_of m l ≡ Some c → c < 0x10000
square_small m l c e = below 0x10000 character (filled_member m l c e) square_test

-- 3 exactly where the square is not filled
pub found_number_lem : (m l : ℕ) → (found_number (square_of m l) ≡ 0) ↔ ((c : ℕ) × (square_of m l ≡ Some c))
found_number_lem m l = (forth (square_of m l) refl, λ h. ap found_number h.1)
  where
    forth : (x : Option ℕ) → square_of m l ≡ x → found_number x ≡ 0 → (c : ℕ) × (square_of m l ≡ Some c)
    forth (Some c) e h = (c, e)
    forth None e h = absurd (omega arith)
