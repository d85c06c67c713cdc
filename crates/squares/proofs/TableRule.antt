-- The table's rule (document 01): "no character fills two squares, and none is also a supplementary character"; and the look-ups of a
-- square and of a character undo each other. All by the one test over the 689 entries (TableTest).
-- Assumes nothing.
use Prim.Native.Nat.{ℕ}
use mathlib.Core.Path.{◌≡◌, refl, sym, ap, subst, subst₃, ◌∙◌}
use mathlib.Core.List.Memᴰ
use mathlib.Core.List.{List, [], ◌∷◌, Memᴰ}
use Rattle.std.proofs.lemmas.Option.{none-some}
use Rattle.run.proofs.Members.{same_first, same_rest}
use Rattle.run.proofs.Search.{Hit, hit}
use Rattle.std.specs.Prelude.{Option, Some, None}
use Rattle.sorts.specs.Cells.{Cell, ◌is◌, octet, meaning, octet_in}
use Rattle.sorts.specs.Tables.{Row, row, rows, supplementary}
use Rattle.squares.specs.Squares.{Square, sq, character, pairing, mark_of, cells_of, cells_in, in_row, squares_in, squares, square_of}
use Rattle.squares.specs.Squares.{pair_of, pairing_values}
use Rattle.squares.proofs.TableTest.{told_of}

-- ---- a filled square is a member of the list of squares
abbrev as_square : ℕ → Cell → Square
as_square m cell = sq m (octet cell) (meaning cell)

pass_row : (s : Square) (m : ℕ) (cs : List Cell) {l : List Square} → Memᴰ s l → Memᴰ s (in_row m cs l)
pass_row s m [] h = h
pass_row s m (o is c ∷ cs) h = Memᴰ.tail (pass_row s m cs h)

in_row_lem : (m : ℕ) {cell : Cell} {cs : List Cell} (l : List Square) → Memᴰ cell cs → Memᴰ (as_square m cell) (in_row m cs l)
in_row_lem m l (Memᴰ.head {x = o is c} p) = Memᴰ.head (ap (as_square m) p)
in_row_lem m l (Memᴰ.tail {x = o is c} h) = Memᴰ.tail (in_row_lem m l h)

in_rows : {r : Row} {rs : List Row} {cell : Cell} → Memᴰ r rs → Memᴰ cell (cells_of r)
    → Memᴰ (as_square (mark_of r) cell) (squares_in rs)
in_rows {cell = cell} (Memᴰ.head {x = row m _ cs} {xs = rs} p) h =
    subst (λ (k : ℕ). Memᴰ (as_square k cell) (in_row m cs (squares_in rs))) (sym (ap mark_of p))
    (in_row_lem m (squares_in rs) (subst (λ (r : Row). Memᴰ cell (cells_of r)) p h))
in_rows {r} {cell = cell} (Memᴰ.tail {x = row m _ cs} h) k = pass_row (as_square (mark_of r) cell) m cs (in_rows h k)

pub filled_member : (m l c : ℕ) → square_of m l ≡ Some c → Memᴰ (sq m l c) squares
unfolding square_of squares
filled_member m l c e =
    let h = hit octet (λ cell. Some (meaning cell)) None (cells_in rows m) l (Some c) (none-some _) e in
    let r = hit mark_of cells_of [] rows m (cells_in rows m) (λ q. Memᴰ.not-nil (subst (Memᴰ h.entry) (sym q) h.member)) refl
    in
    let mc : meaning h.entry ≡ c = cc h.is_given in
    subst₃ (λ (a b d : ℕ). Memᴰ (sq a b d) (squares_in rows)) r.has_key h.has_key mc
    (in_rows r.member (subst (Memᴰ h.entry) (sym r.is_given) h.member))

-- and a member of it is filled
pub member_filled : (m l c : ℕ) → Memᴰ (sq m l c) squares → square_of m l ≡ Some c
member_filled m l c h = (told_of m l c h).forth

-- ---- the rules
module _ (m l c : ℕ) (e : square_of m l ≡ Some c) where
  -- the look-up of a filled square's character gives that square
  pub inverse : pair_of c ≡ Some (m, l)
  inverse = (told_of m l c (filled_member m l c e)).back

  -- none is also a supplementary character
  pub apart : octet_in supplementary c ≡ None
  apart = (told_of m l c (filled_member m l c e)).not_supplementary

-- the parts of a pair
same_parts : {a b m l : ℕ} → ◌≡◌ {A = Option (ℕ × ℕ)} (Some (a, b)) (Some (m, l)) → (a ≡ m) × (b ≡ l)
same_parts e = let h = ap pairing_values e in (same_first h, same_first (same_rest h))

-- no character fills two squares
pub no_two : (m l m' l' c : ℕ) → square_of m l ≡ Some c → square_of m' l' ≡ Some c → (m ≡ m') × (l ≡ l')
no_two m l m' l' c e e' = same_parts (sym (inverse m l c e) ∙ inverse m' l' c e')

-- the square that a found pair comes from
pub pair_hit : (c m l : ℕ) → pair_of c ≡ Some (m, l) → Hit character pairing None squares c (Some (m, l))
unfolding pair_of
pair_hit c m l e = hit character pairing None squares c (Some (m, l)) (none-some _) e

same_square : (s : Square) (m l c : ℕ) → pairing s ≡ Some (m, l) → character s ≡ c → s ≡ sq m l c
same_square (sq a b d) m l c p q =
    let ea : a ≡ m = (same_parts p).0 in
    let eb : b ≡ l = (same_parts p).1 in
    cc

-- the square of a found pair has that character
pub forward : (m l c : ℕ) → pair_of c ≡ Some (m, l) → square_of m l ≡ Some c
forward m l c e =
    let h = pair_hit c m l e in
    (told_of m l c (Memᴰ.cast (sym (same_square h.entry m l c h.is_given h.has_key)) h.member)).forth
