-- A list of eight keeps eight values at most.
-- Assumes nothing.
use Prim.Native.Nat.{ℕ, ◌≤◌}
use mathlib.Core.Path.{◌≡◌, refl}
use mathlib.Core.List.{List, [], ◌∷◌}
use native.Mathlib.Omega.{arith}
use lib.ListN.{length, take}
use Rattle.sequence_reading.specs.EightValues.{values_of}

pub values_back : (vs : List ℕ) → length vs ≤ 8 → take (length vs) (values_of vs) ≡ vs
values_back [] h = refl
values_back (a ∷ []) h = refl
values_back (a ∷ (b ∷ [])) h = refl
values_back (a ∷ (b ∷ (c ∷ []))) h = refl
values_back (a ∷ (b ∷ (c ∷ (d ∷ [])))) h = refl
values_back (a ∷ (b ∷ (c ∷ (d ∷ (e ∷ []))))) h = refl
values_back (a ∷ (b ∷ (c ∷ (d ∷ (e ∷ (g ∷ [])))))) h = refl
values_back (a ∷ (b ∷ (c ∷ (d ∷ (e ∷ (g ∷ (i ∷ []))))))) h = refl
values_back (a ∷ (b ∷ (c ∷ (d ∷ (e ∷ (g ∷ (i ∷ (j ∷ [])))))))) h = refl
values_back (a ∷ (b ∷ (c ∷ (d ∷ (e ∷ (g ∷ (i ∷ (j ∷ (k ∷ vs))))))))) h = absurd (omega arith)
