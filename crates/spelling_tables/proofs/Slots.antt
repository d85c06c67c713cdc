-- A character's place in the table: within it; and a character that is in no range has the place of U+0000.
-- Assumes nothing.
use Prim.Native.Nat.{ℕ, zero, suc, ◌+◌, ◌-◌, ◌≤◌, ◌<◌}
use mathlib.Core.Path.{◌≡◌, refl, sym}
use mathlib.Core.Bool.{Bool, true, false}
use mathlib.Core.List.{List, [], ◌∷◌, Memᴰ}
use native.Mathlib.Omega.{arith}
use lib.Dec.{leb, eqb}
use borrow.Author.Tests.{leb-true, eqb-true, eqb-false, le-leb, lt-leb}
use Rattle.run.specs.Choice.{pick, within}
use Rattle.run.proofs.Range.{within as each}
use Rattle.run.proofs.Members.{member_left, member_right}
use Rattle.sorts.specs.Tables.{consecutive}
use Rattle.spelling_tables.specs.PackedSpellings.{Range, range, ranges, in_ranges, is_in, place_by, slot_of}

-- ---- a test of a range

within_low : (lo hi c : ℕ) → within lo hi c ≡ true → lo ≤ c
within_low lo hi c e = go (leb lo c) refl e
  where
    go : (t : Bool) → leb lo c ≡ t → pick t (leb c hi) false ≡ true → lo ≤ c
    go true q z = leb-true lo c q
    go false q z = let w : ◌≡◌ {A = ℕ} 0 1 = cc in absurd (omega arith)

within_high : (lo hi c : ℕ) → within lo hi c ≡ true → c ≤ hi
within_high lo hi c e = go (leb lo c) e
  where
    go : (t : Bool) → pick t (leb c hi) false ≡ true → c ≤ hi
    go true z = leb-true c hi z
    go false z = let w : ◌≡◌ {A = ℕ} 0 1 = cc in absurd (omega arith)

-- ---- the place is within the table

-- each range ends below n
abbrev Ends : List Range → ℕ → Type 0
Ends [] n = Unit {0}
Ends (range lo hi first ∷ rs) n = (hi - lo + first < n) × Ends rs n

place_by_lem : (rs : List Range) (lo hi first n c : ℕ) (t : Bool) → within lo hi c ≡ t → hi - lo + first < n → place_by rs c < n
    → pick t (c - lo + first) (place_by rs c) < n
place_by_lem rs lo hi first n c true q e more = omega (arith, within_low lo hi c q, within_high lo hi c q, e)
place_by_lem rs lo hi first n c false q e more = more

place_small : (rs : List Range) (n c : ℕ) → Ends rs n → 0 < n → place_by rs c < n
place_small [] n c e h = h
place_small (range lo hi first ∷ rs) n c e h = place_by_lem rs lo hi first n c (within lo hi c) refl e.0 (place_small rs n c e.1 h)

pub slot_small : (c : ℕ) → slot_of c < 430
unfolding slot_of
slot_small c =
    place_small ranges 430 c
    (omega arith, (omega arith, (omega arith, (omega arith, (omega arith, (omega arith, (omega arith, tt))))))) (omega arith)

-- below U+0180 it is the code point
pub low_slot : (c : ℕ) → c < 0x0180 → c ≡ slot_of c
low_slot c h = each (λ o. o) slot_of 0x0000 0x0180 (unfold slot_of in refl) c (omega arith) h

-- ---- a character in some range, and one in none

in_by : (lo n c : ℕ) (t : Bool) → eqb c lo ≡ t → ((c ≡ lo → ⊥) → Memᴰ c (consecutive (suc lo) n))
    → Memᴰ c (consecutive lo (suc n))
in_by lo n c true q more = Memᴰ.head (eqb-true c lo q)
in_by lo n c false q more = Memᴰ.tail (more (eqb-false c lo q))

in_consecutive : (lo n c : ℕ) → lo ≤ c → c < lo + n → Memᴰ c (consecutive lo n)
in_consecutive lo zero c l h = absurd (omega arith)
in_consecutive lo (suc n) c l h =
    in_by lo n c (eqb c lo) refl (λ d. in_consecutive (suc lo) n c (omega (arith, d)) (omega arith))

in_range : (rs : List Range) (lo hi first c : ℕ) (t : Bool) → within lo hi c ≡ t → (is_in rs c ≡ true → Memᴰ c (in_ranges rs))
    → pick t true (is_in rs c) ≡ true → Memᴰ c (in_ranges (range lo hi first ∷ rs))
in_range rs lo hi first c true q more z =
    let l = within_low lo hi c q in
    let h = within_high lo hi c q in
    member_left (in_consecutive lo (suc hi - lo) c l (omega arith)) (in_ranges rs)
in_range rs lo hi first c false q more z = member_right (consecutive lo (suc hi - lo)) (more z)

pub in_ranges_lem : (rs : List Range) (c : ℕ) → is_in rs c ≡ true → Memᴰ c (in_ranges rs)
in_ranges_lem [] c e = let w : ◌≡◌ {A = ℕ} 0 1 = cc in absurd (omega arith)
in_ranges_lem (range lo hi first ∷ rs) c e = in_range rs lo hi first c (within lo hi c) refl (in_ranges_lem rs c) e

none_by : (rs : List Range) (lo first c : ℕ) (t : Bool) → (is_in rs c ≡ false → place_by rs c ≡ 0) → pick t true (is_in rs c) ≡ false
    → pick t (c - lo + first) (place_by rs c) ≡ 0
none_by rs lo first c true more z = let w : ◌≡◌ {A = ℕ} 0 1 = cc in absurd (omega arith)
none_by rs lo first c false more z = more z

none_placed : (rs : List Range) (c : ℕ) → is_in rs c ≡ false → place_by rs c ≡ 0
none_placed [] c e = refl
none_placed (range lo hi first ∷ rs) c e = none_by rs lo first c (within lo hi c) (none_placed rs c) e

pub no_slot : (c : ℕ) → is_in ranges c ≡ false → slot_of c ≡ 0
unfolding slot_of
no_slot c = none_placed ranges c

-- past the last range but one, and not U+266A
pub slot_past : (c : ℕ) → 0x2194 ≤ c → (c ≡ 0x266A → ⊥) → 0 ≡ slot_of c
slot_past c h n = sym (no_slot c (go (leb 0x266A c) refl))
  where
    past : (t : Bool) → within 0x266A 0x266A c ≡ t → t ≡ false → is_in ranges c ≡ false
    past t e z = simp (
      le-leb 0x0000 c (omega arith),
      lt-leb c 0x017F (omega arith),
      le-leb 0x02C7 c (omega arith),
      lt-leb c 0x02DD (omega arith),
      le-leb 0x2015 c (omega arith),
      lt-leb c 0x201D (omega arith),
      le-leb 0x2122 c (omega arith),
      lt-leb c 0x2126 (omega arith),
      le-leb 0x215B c (omega arith),
      lt-leb c 0x215E (omega arith),
      le-leb 0x2190 c (omega arith),
      lt-leb c 0x2193 (omega arith),
      e,
      z,
    )

    go : (t : Bool) → leb 0x266A c ≡ t → is_in ranges c ≡ false
    go true e = let l = leb-true 0x266A c e in past false (simp (e, lt-leb c 0x266A (omega (arith, n)))) refl
    go false e = past false (simp e) refl
