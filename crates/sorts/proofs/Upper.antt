-- The table of the supplementary set, as the definition makes it: the check compares it with the numbers of the source, entry by entry.
-- Assumes nothing.
use Prim.Native.Nat.{ℕ, ◌≤◌, ◌<◌}
use mathlib.Core.Path.{◌≡◌, refl, sym}
use mathlib.Core.List.{List}
use lib.ListN.{get_or}
use borrow.Author.Tests.{le-leb}
use native.Mathlib.Omega.{arith}
use Rattle.run.proofs.Range.{listed, within}
use Rattle.sorts.specs.Sorts.{upper_at}

unfoldable pub upper : List ℕ
unfolding upper_at
upper = listed upper_at 0 96

pub in_upper : (i : ℕ) → i < 96 → get_or upper i 0 ≡ upper_at i
unfolding upper
in_upper i h = within (λ k. get_or upper k 0) upper_at 0 96 refl i (omega arith) h

pub past_upper : (i : ℕ) → 96 ≤ i → 0 ≡ upper_at i
unfolding upper_at
past_upper i h = sym (simp (le-leb 96 i h))
