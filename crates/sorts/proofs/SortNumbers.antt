-- 01's number of a sort, of any alphabet: it is the one that 01's rows give, of an octet that is not number 2's; and of any after SS2.
-- Assumes nothing.
use Prim.Native.Nat.{ℕ}
use mathlib.Core.Path.{◌≡◌, refl, sym, ap, ◌∙◌}
use mathlib.Core.List.{List, [], ◌∷◌, ◌++◌, map}
use mathlib.Core.Bool.{Bool, true, false}
use native.Mathlib.Omega.{arith}
use lib.Dec.{eqb}
use Rattle.std.specs.Option.{is_some}
use Rattle.run.specs.Choice.{pick, one_of}
use Rattle.sorts.specs.declared.Sort.TheVariants.{Control, Shift, SequenceStart, Underline, Refused}
use Rattle.std.specs.Prelude.{Option, Some, None}
use Rattle.sorts.specs.Cells.{Cell, ◌is◌, octet, char_in}
use Rattle.sorts.specs.Forms.{Alphabet}
use Rattle.sorts.specs.Sorts.{too_high, mark_or_graphic, sort_by, shifted_by, sort_number, beginnings, start_number, after_shift_number}

-- a test of two lists joined
both_lists : (xs ys : List ℕ) (o : ℕ) → one_of (xs ++ ys) o ≡ pick (one_of xs o) true (one_of ys o)
both_lists [] ys o = refl
both_lists (x ∷ xs) ys o = go (eqb x o) (both_lists xs ys o)
  where
    go : (t : Bool) → one_of (xs ++ ys) o ≡ pick (one_of xs o) true (one_of ys o)
        → pick t true (one_of (xs ++ ys) o) ≡ pick (pick t true (one_of xs o)) true (one_of ys o)
    go true ih = refl
    go false ih = ih

-- a test of a table's octets, as a look-up in it
in_cells : (cells : List Cell) (o : ℕ) → one_of (map octet cells) o ≡ is_some (char_in cells o)
in_cells [] o = refl
in_cells (k is c ∷ cells) o = go (eqb k o) (in_cells cells o)
  where
    go : (t : Bool) → one_of (map octet cells) o ≡ is_some (char_in cells o)
        → pick t true (one_of (map octet cells) o) ≡ is_some (pick t (Some c) (char_in cells o))
    go true ih = refl
    go false ih = ih

-- a mark or a graphic of two tables
in_tables : (ms gs : List Cell) (o : ℕ)
    → one_of (map octet ms ++ map octet gs) o ≡ pick (is_some (char_in ms o)) true (is_some (char_in gs o))
in_tables ms gs o = both_lists (map octet ms) (map octet gs) o ∙ rw (in_cells ms o, in_cells gs o)

-- the number by the tests' outcomes, of an octet that is not number 2's
by_tests : (t c s q u e : Bool) (m g : Option ℕ) → e ≡ false
    → sort_number
    (pick t (Refused 5) (pick c Control (pick s Shift (pick q SequenceStart (pick u Underline (pick e (Refused 2) (mark_or_graphic m g)))))))
    ≡ pick t 5 (pick e 2 (pick (pick c true (pick s true (pick q true (pick u true (pick (is_some m) true (is_some g)))))) 0 1))
by_tests t c s q u true m g h = let z : ◌≡◌ {A = ℕ} 0 1 = cc in absurd (omega arith)
by_tests true c s q u false m g h = refl
by_tests false true s q u false m g h = refl
by_tests false false true q u false m g h = refl
by_tests false false false true u false m g h = refl
by_tests false false false false true false m g h = refl
by_tests false false false false false false (Some m) g h = refl
by_tests false false false false false false None (Some c) h = refl
by_tests false false false false false false None None h = refl

by_tests_shifted : (t : Bool) (m g : Option ℕ)
    → sort_number (pick t (Refused 5) (mark_or_graphic m g)) ≡ pick t 5 (pick (pick (is_some m) true (is_some g)) 0 1)
by_tests_shifted true m g = refl
by_tests_shifted false (Some m) g = refl
by_tests_shifted false None (Some c) = refl
by_tests_shifted false None None = refl

module _ (a : Alphabet) (o : ℕ) where
  begins : one_of (beginnings a) o
      ≡ pick (one_of a.controls o) true (pick (one_of a.shifts o) true (pick (one_of a.sequences o) true
      (pick (one_of a.underlines o) true (pick (is_some (char_in a.marks o)) true (is_some (char_in a.graphics o))))))
  begins =
      both_lists a.controls _ o
      ∙ ap (pick (one_of a.controls o) true) (both_lists a.shifts _ o
      ∙ ap (pick (one_of a.shifts o) true) (both_lists a.sequences _ o
      ∙ ap (pick (one_of a.sequences o) true) (both_lists a.underlines _ o
      ∙ ap (pick (one_of a.underlines o) true) (in_tables a.marks a.graphics o))))

  -- an octet that is not number 2's
  pub number_else : one_of a.escapes o ≡ false → sort_number (sort_by a o) ≡ start_number a o
  number_else e =
      by_tests (too_high a o) (one_of a.controls o) (one_of a.shifts o) (one_of a.sequences o) (one_of a.underlines o)
      (one_of a.escapes o) (char_in a.marks o) (char_in a.graphics o) e
      ∙ ap (λ (b : Bool). pick (too_high a o) 5 (pick (one_of a.escapes o) 2 (pick b 0 1))) (sym begins)

  pub shifted_number : sort_number (shifted_by a o) ≡ after_shift_number a o
  shifted_number =
      by_tests_shifted (too_high a o) (char_in a.shifted_marks o) (char_in a.shifted_graphics o)
      ∙ ap (λ (b : Bool). pick (too_high a o) 5 (pick b 0 1)) (sym (in_tables a.shifted_marks a.shifted_graphics o))
