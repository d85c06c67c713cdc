-- The octets of a packed spelling, by how many they are: what is stored is they.
-- Assumes nothing.
use Prim.Native.Nat.{ℕ, ◌+◌, ◌/◌, ◌%◌, ◌≤◌, ◌<◌}
use mathlib.Core.Path.{◌≡◌, refl}
use mathlib.Core.List.{List, [], ◌∷◌}
use native.Mathlib.Omega.{arith}
use lib.ListN.{length, set, length-set}
use borrow.Author.Tests.{lt-ltb, le-ltb}
use Rattle.run.specs.Put.{Put}
use Rattle.run.proofs.Puts.{put_both, put_entry}
use Rattle.spelling_tables.specs.PackedSpellings.{packed_octets}

module _ (p : ℕ) where
  pub one_octet : p < 0x2000000 → packed_octets p ≡ p % 0x100 ∷ []
  one_octet h = simp (lt-ltb p 0x2000000 h)

  pub two_octets : 0x2000000 ≤ p → p < 0x3000000 → packed_octets p ≡ p / 0x100 % 0x100 ∷ p % 0x100 ∷ []
  two_octets l h = simp (le-ltb p 0x2000000 l, lt-ltb p 0x3000000 h)

  pub three_octets : 0x3000000 ≤ p → packed_octets p ≡ p / 0x10000 % 0x100 ∷ p / 0x100 % 0x100 ∷ p % 0x100 ∷ []
  three_octets l = simp (le-ltb p 0x2000000 (omega arith), le-ltb p 0x3000000 l)

-- an entry stored leaves the room as it was: for the next, and for the one behind that
pub next_room : (l : List ℕ) (at a n : ℕ) → 2 ≤ n → at + n ≤ length l → at + 1 < length (set l at a)
next_room l at a n k h = omega (arith, length-set l at a)

pub last_room : (l : List ℕ) (at a b : ℕ) → at + 3 ≤ length l → at + 2 < length (set (set l at a) (at + 1) b)
last_room l at a b h = omega (arith, length-set l at a, length-set (set l at a) (at + 1) b)

-- an entry stored, one behind it, and one behind both
entry_at : (l : List ℕ) (at o next after : ℕ) → next ≡ after + 1 → at ≡ after → Put l after (o ∷ []) (set l at o) next
entry_at l at o next after e q = rw (e, q) put_entry

pub stored_two : (l : List ℕ) (at a b : ℕ) → Put l at (a ∷ b ∷ []) (set (set l at a) (at + 1) b) (at + 2)
stored_two l at a b = put_both put_entry (entry_at (set l at a) (at + 1) b (at + 2) (at + 1) (omega arith) refl)

pub stored_three : (l : List ℕ) (at a b c : ℕ)
    → Put l at (a ∷ b ∷ c ∷ []) (set (set (set l at a) (at + 1) b) (at + 2) c) (at + 3)
stored_three l at a b c =
    put_both (stored_two l at a b) (entry_at (set (set l at a) (at + 1) b) (at + 2) c (at + 3) (at + 2) (omega arith) refl)
