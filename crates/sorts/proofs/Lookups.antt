-- What a look-up finds is a cell of its table, from either side; where it finds none, no cell has the key.
-- Assumes nothing.
use Prim.Native.Nat.{ℕ}
use mathlib.Core.Path.{◌≡◌, refl, sym, ap, ◌∙◌}
use mathlib.Core.List.Memᴰ
use mathlib.Core.List.{List, Memᴰ}
use mathlib.Core.Bool.{Bool, true, false}
use native.Mathlib.Omega.{arith}
use lib.Dec.{eqb}
use borrow.Author.Tests.{eqb-false}
use Rattle.std.proofs.lemmas.Option.{none-some}
use Rattle.run.specs.Choice.{pick, first_by}
use Rattle.run.proofs.Search.{Hit, hit}
use Rattle.std.specs.Prelude.{Some, None, Option}
use Rattle.sorts.specs.Cells.{Cell, ◌is◌, octet, meaning, char_in, octet_in}

abbrev pub is_octet : Cell → Option ℕ
is_octet cell = Some (octet cell)

-- the cell that a found octet comes from
pub octet_hit : (cells : List Cell) (c o : ℕ) → octet_in cells c ≡ Some o → Hit meaning is_octet None cells c (Some o)
octet_hit cells c o e = hit meaning is_octet None cells c (Some o) (none-some _) e

same_cell : (x : Cell) (o c : ℕ) → octet x ≡ o → meaning x ≡ c → x ≡ o is c
same_cell (a is d) o c p q = cc

pub octet_cell : (cells : List Cell) (c o : ℕ) → octet_in cells c ≡ Some o → Memᴰ (o is c) cells
octet_cell cells c o e =
    let h = octet_hit cells c o e in
    Memᴰ.cast (sym (same_cell h.entry o c (cc h.is_given) h.has_key)) h.member

-- the cell that a found character comes from
pub char_cell : (cells : List Cell) (o c : ℕ) → char_in cells o ≡ Some c → Memᴰ (o is c) cells
char_cell cells o c e =
    let h = hit octet (λ cell. Some (meaning cell)) None cells o (Some c) (none-some _) e in
    Memᴰ.cast (sym (same_cell h.entry o c h.has_key (cc h.is_given))) h.member

-- ---- where nothing is found

module _ {A B : Type 0} (key : A → ℕ) (gives : A → B) (missing : B) (given : (a : A) → gives a ≡ missing → ⊥) where
  none_by : (x : A) (l : List A) (k : ℕ) (t : Bool) → eqb (key x) k ≡ t → pick t (gives x) (first_by key gives missing l k) ≡ missing
      → (eqb (key x) k ≡ false) × (first_by key gives missing l k ≡ missing)
  none_by x l k true q e = absurd (given x e)
  none_by x l k false q e = (q, e)

  -- no member has a key by which nothing is found
  pub none_there : {a : A} {l : List A} (k : ℕ) → first_by key gives missing l k ≡ missing → Memᴰ a l → key a ≡ k → ⊥
  none_there k e (Memᴰ.head {x = x} {xs = l} p) q =
      eqb-false (key x) k (none_by x l k (eqb (key x) k) refl e).0 (sym (ap key p) ∙ q)
  none_there k e (Memᴰ.tail {x = x} {xs = l} h) q = none_there k (none_by x l k (eqb (key x) k) refl e).1 h q

pub none_octet : (cells : List Cell) (c o : ℕ) → octet_in cells c ≡ None → Memᴰ (o is c) cells → ⊥
none_octet cells c o e h = none_there meaning is_octet None (λ cell q. none-some _ (sym q)) c e h refl

pub none_char : (cells : List Cell) (o c : ℕ) → char_in cells o ≡ None → Memᴰ (o is c) cells → ⊥
none_char cells o c e h = none_there octet (λ cell. Some (meaning cell)) None (λ cell q. none-some _ (sym q)) o e h refl
