-- What a lent table's entries say of the form: what a reader above relies on, who looks into no table itself.
-- Assumes nothing.
use Prim.Native.Nat.{ℕ, ◌+◌, ◌-◌, ◌≤◌, ◌<◌}
use mathlib.Core.Path.{◌≡◌, refl, sym, ap, ◌∙◌, subst}
use mathlib.Core.List.{List, []}
use mathlib.Core.Bool.{Bool, true, false}
use native.Mathlib.Omega.{arith}
use lib.Dec.{leb}
use lib.ListN.{get_or}
use borrow.Author.Tests.{lt-ltb, le-ltb, le-leb, lt-leb, ne_eqb}
use Rattle.run.specs.Choice.{pick}
use Rattle.sorts.specs.declared.Form.{Form}
use Rattle.sorts.specs.declared.Sort.{Sort}
use Rattle.sorts.specs.declared.Sort.TheVariants.{Graphic, Mark, Underline, Shift, Control, SequenceStart, Refused}
use Rattle.squares.specs.Squares.{row_of, column_of, square_table, square_in}
use Rattle.sorts.specs.Cells.{octet_in}
use Rattle.sorts.specs.Forms.{alphabet_of}
use Rattle.sorts.specs.Sorts.{sort_in}
use Rattle.lent_tables.specs.CodeTables.{no_character, neither, is_written, code_of, code_table, code_in, paired_in, ListedPair}
use Rattle.sorts.proofs.TablePages.{at_consecutive}
use Rattle.sorts.proofs.SortFacts.{graphic_small, mark_small}
use Rattle.squares.proofs.Pairs.{filled}

-- ---- what an octet is by itself

at_octet : (f : Form) (o : ℕ) → o < 256 → code_in (code_table f) o ≡ code_of f o (sort_in f o)
unfolding code_table
at_octet f o h =
    let z : 0 + o ≡ o = omega arith in
    simp (lt-ltb o 256 h) (at_consecutive (λ k. code_of f k (sort_in f k)) 0 256 o h ∙ ap (λ (k : ℕ). code_of f k (sort_in f k)) z)

no_octet : (f : Form) (o : ℕ) → 256 ≤ o → code_in (code_table f) o ≡ neither
no_octet f o h = simp (le-ltb o 256 h)

-- the octet is a graphic, the character c, and is written for it
pub record WrittenOctet (f : Form) (o c : ℕ) : Type 0 where
  pub sorts : sort_in f o ≡ Graphic c
  pub written : is_written (octet_in (alphabet_of f).writes c) o ≡ true

graphic_by : (f : Form) (o c : ℕ) (t : Bool) → is_written (octet_in (alphabet_of f).writes c) o ≡ t → sort_in f o ≡ Graphic c
    → pick t c neither < no_character → WrittenOctet f o (pick t c neither)
graphic_by f o c true w q h = record { sorts = q; written = w }
graphic_by f o c false w q h = absurd (omega arith)

graphic_of : (f : Form) (o : ℕ) (s : Sort) → sort_in f o ≡ s → code_of f o s < no_character → WrittenOctet f o (code_of f o s)
graphic_of f o (Graphic c) q h = graphic_by f o c (is_written (octet_in (alphabet_of f).writes c) o) refl q h
graphic_of f o (Mark m) q h = absurd (omega arith)
graphic_of f o Underline q h = absurd (omega arith)
graphic_of f o Shift q h = absurd (omega arith)
graphic_of f o Control q h = absurd (omega arith)
graphic_of f o SequenceStart q h = absurd (omega arith)
graphic_of f o (Refused k) q h = absurd (omega arith)

-- a code below 2^15: the octet is a graphic, that character, and is written for it
pub graphic_code : (f : Form) (o : ℕ) → code_in (code_table f) o < no_character → WrittenOctet f o (code_in (code_table f) o)
graphic_code f o h =
    let past : 256 ≤ o → ⊥ = λ k. let e = no_octet f o k in omega arith in
    let e = at_octet f o (omega (arith, past)) in
    subst (WrittenOctet f o) (sym e) (graphic_of f o (sort_in f o) refl (omega arith))

-- a code from there on, below the one of neither: the octet is a mark
mark_of : (f : Form) (o : ℕ) (s : Sort) → sort_in f o ≡ s → no_character ≤ code_of f o s → code_of f o s < neither → (m : ℕ) × (s ≡ Mark m)
mark_of f o (Graphic c) q l h = absurd (no_mark (is_written (octet_in (alphabet_of f).writes c) o) l h)
  where
    no_mark : (t : Bool) → no_character ≤ pick t c neither → pick t c neither < neither → ⊥
    no_mark true l h = omega (arith, graphic_small f o c q)
    no_mark false l h = omega arith
mark_of f o (Mark m) q l h = (m, refl)
mark_of f o Underline q l h = absurd (omega arith)
mark_of f o Shift q l h = absurd (omega arith)
mark_of f o Control q l h = absurd (omega arith)
mark_of f o SequenceStart q l h = absurd (omega arith)
mark_of f o (Refused k) q l h = absurd (omega arith)

pub mark_code : (f : Form) (o : ℕ) → no_character ≤ code_in (code_table f) o → code_in (code_table f) o < neither
    → (m : ℕ) × (sort_in f o ≡ Mark m)
mark_code f o l h =
    let past : 256 ≤ o → ⊥ = λ k. let e = no_octet f o k in omega arith in
    let e = at_octet f o (omega (arith, past)) in
    mark_of f o (sort_in f o) refl (omega arith) (omega arith)

-- ---- a pair

-- a follower that has a column is an octet
column_small : (l : ℕ) → column_of l < 53 → l < 256
unfolding column_of
column_small l h =
    let past : 256 ≤ l → ⊥ =
    λ k. let e : column_of l ≡ 53 = simp (
      le-leb 0x41 l (omega arith),
      lt-leb l 0x5A (omega arith),
      le-leb 0x61 l (omega arith),
      lt-leb l
          0x7A (omega arith),
      ne_eqb l 0x20 (omega arith),
    ) in omega (arith, e) in
    omega (arith, past)

pick_0 : (b : Bool) → ◌≡◌ {A = ℕ} (pick b 0 0) 0
pick_0 true = refl
pick_0 false = refl

column_inside : (table : List (List ℕ)) (r k : ℕ) → (square_in table r k ≡ 0 → ⊥) → k < 53
column_inside table r k some =
    let past : 53 ≤ k → ⊥ = λ h. some (ap (λ (b : Bool). pick (leb 13 r) 0 (pick b 0 (get_or (get_or table r []) k 0))) (le-leb 53 k h)
    ∙ pick_0 (leb 13 r)) in
    omega (arith, past)

module _ (f : Form) (o l c : ℕ) (some : c ≡ 0 → ⊥) where
  in_row_lem : (m : ℕ) → sort_in f o ≡ Mark m → c ≡ square_in square_table (row_of m) (column_of l) → ListedPair f o l c
  in_row_lem m q e =
      record {
        mark = m;
        sorts = q;
        square = sym
            (filled m l (row_of m) (column_of l) c refl refl e (mark_small f o m q)
            (column_small l (column_inside square_table (row_of m) (column_of l) (λ z. some (e ∙ z)))) some);
      }

  listed_by : (s : Sort) → sort_in f o ≡ s → c ≡ paired_in square_table (code_of f o s) l → ListedPair f o l c
  listed_by (Mark m) q e =
      let r : no_character + row_of m - no_character ≡ row_of m = omega arith in
      in_row_lem m q (e ∙ simp (le-ltb (no_character + row_of m) no_character (omega arith), r))
  listed_by (Graphic k) q e = absurd (some (e ∙ no_pair (is_written (octet_in (alphabet_of f).writes k) o)))
    where
      no_pair : (t : Bool) → paired_in square_table (pick t k neither) l ≡ 0
      no_pair true = simp (lt-ltb k no_character (graphic_small f o k q))
      no_pair false = refl
  listed_by Underline q e = absurd (some e)
  listed_by Shift q e = absurd (some e)
  listed_by Control q e = absurd (some e)
  listed_by SequenceStart q e = absurd (some e)
  listed_by (Refused n) q e = absurd (some e)

  -- a pair's character that is not 0: the octet is a mark, and the follower is listed
  pub pair_code : c ≡ paired_in square_table (code_in (code_table f) o) l → ListedPair f o l c
  pair_code e =
      let past : 256 ≤ o → ⊥ = λ k. some (e ∙ ap (λ (x : ℕ). paired_in square_table x l) (no_octet f o k)) in
      listed_by (sort_in f o) refl (e ∙ ap (λ (x : ℕ). paired_in square_table x l) (at_octet f o (omega (arith, past))))
