-- To be believed: a choice by a test, and the tests that definitions are made of.
-- Assumes nothing.
use Rattle.std.specs.Prelude.{ℕ, Bool, true, false, List, [], ◌∷◌, eqb, leb}

-- a if the test holds, else b
abbrev pub pick {ℓ} : {A : Type ℓ} → Bool → A → A → A
pick true a b = a
pick false a b = b

-- lo ≤ n ≤ hi
abbrev pub within : ℕ → ℕ → ℕ → Bool
within lo hi n = pick (leb lo n) (leb n hi) false

-- n is one of ns
abbrev pub one_of : List ℕ → ℕ → Bool
one_of [] n = false
one_of (k ∷ ks) n = let more = one_of ks n in pick (eqb k n) true more

-- the same entries, such as octets
abbrev pub same_octets : List ℕ → List ℕ → Bool
same_octets [] [] = true
same_octets [] (o ∷ t) = false
same_octets (o ∷ s) [] = false
same_octets (o ∷ s) (u ∷ t) = let more = same_octets s t in pick (eqb o u) more false

-- what the first of a list's entries that has the key k gives
abbrev pub first_by : {A B : Type 0} → (A → ℕ) → (A → B) → B → List A → ℕ → B
first_by key gives missing [] k = missing
first_by key gives missing (a ∷ as') k = let more = first_by key gives missing as' k in pick (eqb (key a) k) (gives a) more
