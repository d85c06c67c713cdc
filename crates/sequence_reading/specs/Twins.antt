-- To be believed: the octets of a sequence behind its 9B, and the same with some of them in the upper half (document 02, No. 6).
-- Assumes nothing.
use Rattle.std.specs.Prelude.{ℕ, ◌+◌, ◌≤◌, List, [], ◌∷◌}

-- an octet as it stands, or one of 21 to 7E with the top bit set, A1 to FE; 20, the SPACE, has no twin there
pub data Twin : ℕ → ℕ → Type 0 where
  as_it_is : {b : ℕ} → Twin b b
  raised : {b : ℕ} → 0x21 ≤ b → b ≤ 0x7E → Twin b (0x80 + b)

-- octet for octet
pub data Twins : List ℕ → List ℕ → Type 0 where
  none : Twins [] []
  and : {b c : ℕ} {s t : List ℕ} → Twin b c → Twins s t → Twins (b ∷ s) (c ∷ t)
