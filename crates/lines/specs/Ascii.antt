-- A part of the code: whether each octet of a text is ASCII, as a test, which of a text that is written out computes.
-- Assumes nothing.
use Rattle.std.specs.Prelude.{ℕ, List, [], ◌∷◌, Bool, true, false, cond, nat_lt}

abbrev pub all_ascii : List ℕ → Bool
all_ascii [] = true
all_ascii (b ∷ bs) = cond (nat_lt b 128) (all_ascii bs) false
