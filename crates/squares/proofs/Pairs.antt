-- A look-up in the table of squares is a look-up in the rows; and a look-up in the pages of pairs is one in the list of squares.
-- Assumes nothing.
use Prim.Native.Nat.{ℕ, ◌/◌, ◌%◌, ◌<◌}
use mathlib.Core.Path.{◌≡◌, refl, sym, ap, ◌∙◌}
use mathlib.Core.Bool.{true}
use mathlib.Core.List.{List, [], ◌∷◌}
use lib.Dec.{eqb}
use lib.ListN.{get_or}
use borrow.Author.Tests.{eq-eqb, ne_eqb}
use Rattle.run.specs.Choice.{pick}
use Rattle.run.proofs.Range.{listed, within², Rest, single}
use Rattle.run.proofs.Search.{found_alike}
use Rattle.std.specs.Prelude.{Option, Some, None}
use Rattle.sorts.specs.Sorts.{page_of}
use Rattle.sorts.proofs.Tests.{Alike}
use Rattle.sorts.proofs.TablePages.{in_page, empty_page}
use Rattle.squares.specs.Squares.{character, pairing, squares, pair_of, square_of, row_of, column_of, square_table, square_in}
use Rattle.squares.specs.Squares.{pair_number, pair_from, pair_page}

-- an entry of the table of the code
abbrev pub entry_at : ℕ → ℕ → ℕ
entry_at r c = square_in square_table r c

-- what `square_in` gave of a table that is that
pub entry_of : {x : ℕ} (table : List (List ℕ)) (r c : ℕ) → table ≡ square_table → x ≡ square_in table r c → x ≡ entry_at r c
entry_of table r c q e = e ∙ ap (λ (t : List (List ℕ)). square_in t r c) q

-- ---- from a mark and a follower to a character

-- what `paired` makes of an entry
abbrev found : ℕ → Option ℕ
found x = pick (eqb x 0) None (Some x)

-- the test: all pairs of octets
found_test : listed (λ m. listed (λ l. square_of m l) 0 256) 0 256
    ≡ listed (λ m. listed (λ l. found (entry_at (row_of m) (column_of l))) 0 256) 0 256
unfolding square_table square_of row_of column_of
found_test = refl

-- what each way out of `paired` rests on: r and c are what `row_of` and `column_of` gave
module _ (m l r c x : ℕ) (er : r ≡ row_of m) (ec : c ≡ column_of l) (ex : x ≡ entry_at r c) (hm : m < 256) (hl : l < 256) where
  here : square_of m l ≡ found x
  here = rw (ex, er, ec) (within² square_of (λ i j. found (entry_at (row_of i) (column_of j))) 256 256 found_test m l hm hl)

  pub empty : x ≡ 0 → None ≡ square_of m l
  empty e = sym (here ∙ simp (eq-eqb x 0 e))

  pub filled : (x ≡ 0 → ⊥) → Some x ≡ square_of m l
  filled n = sym (here ∙ simp (ne_eqb x 0 n))

-- ---- from a character to its pair

-- the pages of `pair_page`, from its last arm
abbrev pub pair_pages : List (List ℕ)
pair_pages =
    (0x16 ∷ []) ∷ (0x0B ∷ []) ∷ (0x0A ∷ []) ∷ (0x09 ∷ []) ∷ (0x08 ∷ []) ∷ (0x07 ∷ []) ∷ (0x06 ∷ []) ∷ (0x05 ∷ []) ∷ (0x03 ∷ []) ∷
    (0x02 ∷ []) ∷ []

-- the test: the character of each filled square is in one of them
pages_test : Alike (λ s. single pair_pages (character s / 32)) (λ s. true) squares
unfolding squares
pages_test = refl

pub no_pair_page : (page : ℕ) → Rest pair_pages page → page_of (λ c. 0) page ≡ pair_page page
unfolding pair_page pair_of
no_pair_page = empty_page character pairing None pair_number squares pair_pages pages_test refl

-- the test: each pair is what is made of its number
pair_test : Alike (λ s. pair_from (pair_number (pairing s))) pairing squares
unfolding squares
pair_test = refl

-- what is made of the number in a character's page is its pair: `page` is what `pair_page` gave
pub pair_there : (c : ℕ) (page : List ℕ) → page ≡ pair_page (c / 32) → pair_from (get_or page (c % 32) 0) ≡ pair_of c
unfolding pair_page pair_of
pair_there c page e =
    ap pair_from (ap (λ (l : List ℕ). get_or l (c % 32) 0) e ∙ in_page (λ k. pair_number (pair_of k)) c)
    ∙ found_alike character pairing None (λ p. pair_from (pair_number p)) (λ p. p) squares refl pair_test c
