-- The laws of what a case is written from: the lengths and the octets, entry after entry.
-- Assumes nothing.
use Prim.Native.Nat.{ℕ, ◌+◌, ◌*◌, ◌≤◌, ◌<◌}
use mathlib.Core.Path.{◌≡◌, refl, sym, ap, ◌∙◌}
use mathlib.Core.Bool.{Bool, true, false, ◌&&◌}
use mathlib.Core.List.Memᴰ
use mathlib.Core.List.{List, [], ◌∷◌, ◌++◌, Memᴰ}
use native.Mathlib.Omega.{arith}
use lib.Dec.{eqb, leb}
use Rattle.std.proofs.Common.{sum, nat_le}
use Rattle.std.specs.List.{list_all}
use Rattle.std.proofs.lemmas.List.Sums.{sum_by-cons}
use Rattle.std.proofs.lemmas.List.{take_more}
use lib.ListN.{length, take, get_or}
use lib.Seq.{length-take-le}
use borrow.Author.Tests.{leb-true, eqb-true, le-leb, lt-leb}
use Rattle.run.specs.Choice.{pick}
use Rattle.run.specs.Answers.{given}
use Rattle.run.specs.Put.{Put}
use Rattle.run.proofs.Answers.{given_one}
use Rattle.run.proofs.Choices.{both_true}
use Rattle.case_table.specs.Layout.{total, big16}
use Rattle.case_table.proofs.Laid.{table_length}
use Rattle.case_writing.specs.FromParts.{none_over, fitting}

-- ---- the lengths tested

-- the library's test and sum of a list
all_short : (ns : List ℕ) → list_all (λ n. nat_le n 0xFFFF) ns ≡ none_over 0xFFFF ns
unfolding none_over
all_short [] = refl
all_short (n ∷ ns) = by (leb n 0xFFFF) (all_short ns)
  where
    by : (t : Bool) {a b : Bool} → a ≡ b → (t && a) ≡ pick t b false
    by true e = e
    by false e = refl

sum_total : (ns : List ℕ) → sum ns ≡ total ns
unfolding total
sum_total [] = refl
sum_total (n ∷ ns) = sum_by-cons (λ k. k) n ns ∙ ap (λ (k : ℕ). n + k) (sum_total ns)

module _ (lengths : List ℕ) (size : ℕ) where
  pub over_many : 0x100 < length lengths → false ≡ fitting lengths size
  unfolding fitting
  over_many h = sym (simp (lt-leb (length lengths) 0x100 h))

  module _ (few : length lengths ≤ 0x100) (t : Bool) (e : t ≡ list_all (λ n. nat_le n 0xFFFF) lengths) where
    pub over_long : t ≡ false → t ≡ fitting lengths size
    unfolding fitting
    over_long q = q ∙ sym (simp (le-leb (length lengths) 0x100 few, sym (all_short lengths) ∙ sym e ∙ q))

    pub adds_up : t ≡ true → (s : ℕ) → s ≡ sum lengths → eqb s size ≡ fitting lengths size
    unfolding fitting
    adds_up q s i = sym (simp (le-leb (length lengths) 0x100 few, sym (all_short lengths) ∙ sym e ∙ q, sym (i ∙ sum_total lengths)))

-- ---- what fitting lengths are

-- the test holds exactly when no member is over
pub none_over_lem : (most : ℕ) (ns : List ℕ) → none_over most ns ≡ true → (k : ℕ) → Memᴰ k ns → k ≤ most
unfolding none_over
none_over_lem most [] e k m = absurd (Memᴰ.not-nil m)
none_over_lem most (n ∷ ns) e k (Memᴰ.head p) = omega (arith, leb-true n most (both_true (leb n most) (none_over most ns) e).0, p)
none_over_lem most (n ∷ ns) e k (Memᴰ.tail m) = none_over_lem most ns (both_true (leb n most) (none_over most ns) e).1 k m

pub over_none : (most : ℕ) (ns : List ℕ) → ((k : ℕ) → Memᴰ k ns → k ≤ most) → none_over most ns ≡ true
unfolding none_over
over_none most [] h = refl
over_none most (n ∷ ns) h =
    ap (λ (t : Bool). pick t (none_over most ns) false) (le-leb n most (h n (Memᴰ.head refl)))
    ∙ over_none most ns (λ k m. h k (Memᴰ.tail m))

pub record Fits (lengths : List ℕ) (size : ℕ) : Type 0 where
  pub few : length lengths ≤ 0x100
  pub short : none_over 0xFFFF lengths ≡ true
  pub sum : total lengths ≡ size

-- lengths that pass the test are such
pub fits : (lengths : List ℕ) (size : ℕ) → fitting lengths size ≡ true → Fits lengths size
unfolding fitting
fits lengths size e =
    let few = both_true (leb (length lengths) 0x100) (pick (none_over 0xFFFF lengths) (eqb (total lengths) size) false) e in
    let short = both_true (none_over 0xFFFF lengths) (eqb (total lengths) size) few.1 in
    record { few = leb-true (length lengths) 0x100 few.0; short = short.0; sum = eqb-true (total lengths) size short.1 }

total_most : (ns : List ℕ) → ((k : ℕ) → Memᴰ k ns → k ≤ 0xFFFF) → total ns ≤ 65535 * length ns
unfolding total
total_most [] h = omega arith
total_most (n ∷ ns) h = omega (arith, h n (Memᴰ.head refl), total_most ns (λ k m. h k (Memᴰ.tail m)))

-- fitting lengths are of few octets
pub fits_small : (lengths : List ℕ) (size : ℕ) → Fits lengths size → size ≤ 16776960
fits_small lengths size f = omega (arith, f.few, f.sum, total_most lengths (none_over_lem 0xFFFF lengths f.short))

-- ---- entries written, one after another

-- one entry of the table more
pub table_more : (ns : List ℕ) (i : ℕ) → i < length ns → given big16 (take i ns) ++ big16 (get_or ns i 0) ≡ given big16 (take (i + 1) ns)
table_more ns i h = sym (ap (given big16) (take_more ns i 0 h) ∙ given_one big16 (take i ns) (get_or ns i 0))

-- where the next entry goes
pub table_place : (ns : List ℕ) (i : ℕ) {out₀ out : List ℕ} {at o : ℕ} → Put out₀ at (given big16 (take i ns)) out o → i < length ns
    → o ≡ at + 2 * i
table_place ns i p h =
    let inside : i ≤ length ns = omega arith in
    omega (arith, p.place, table_length (take i ns), length-take-le i ns inside)
