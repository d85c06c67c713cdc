-- To be believed, as a relation in document 01's words: the canonical spelling of a control sequence. Proved equal to that, the definition
-- that gives it (Exactly: canonical_exactly, fine_test), and the test of octets that spell a sequence (CanonicalBehind: canonical_behind_lem).
-- Assumes nothing.
use Rattle.std.specs.Prelude.{ℕ, ◌+◌, ◌*◌, ◌/◌, ◌%◌, ◌≤◌, ◌<◌, ◌≡◌, Bool, true, false, List, [], ◌∷◌, ◌++◌, ◌⊎◌, length, leb, ltb, eqb}
use Rattle.run.specs.Choice.{pick, within}
use Rattle.run.specs.Put.{what_fits}
use Rattle.sorts.specs.Forms.{CSI}
use Rattle.sequence_reading.specs.Grammar.{Sequence, Small}

-- ---- the relation: "Values have no leading zeros, 0 is the empty sub-string, and the number of values is kept." 02, No. 6: "Canonical
-- spelling uses the lower half": the octets 20 to 7E themselves.

-- a value without leading zeros; 0 is the empty sub-string
pub data Numeral : List ℕ → ℕ → Type 0 where
  zero : Numeral [] 0
  first : {d : ℕ} → 0 < d → d ≤ 9 → Numeral ((0x30 + d) ∷ []) d
  next : {s : List ℕ} {v d : ℕ} → Numeral s v → 0 < v → d ≤ 9 → Numeral (s ++ ((0x30 + d) ∷ [])) (v * 10 + d)

-- one sub-string a value, 3B between two
pub data Numerals : List ℕ → List ℕ → Type 0 where
  single : {s : List ℕ} {v : ℕ} → Numeral s v → Numerals s (v ∷ [])
  joined : {s p vs : List ℕ} {v : ℕ} → Numeral s v → Numerals p vs → Numerals (s ++ (0x3B ∷ p)) (v ∷ vs)

-- the intermediate is its own octet
pub data MiddleOctet : List ℕ → ℕ → Type 0 where
  none : MiddleOctet [] 0
  one : {i : ℕ} → 0x20 ≤ i → i ≤ 0x2F → MiddleOctet (i ∷ []) i

-- what a sequence can be: one to eight values up to 999, an intermediate of 20 to 2F or none, a final of 40 to 7E
pub record Fine (q : Sequence) : Type 0 where
  pub middle : (q.middle ≡ 0) ⊎ ((0x20 ≤ q.middle) × (q.middle ≤ 0x2F))
  pub low : 0x40 ≤ q.last
  pub high : q.last ≤ 0x7E
  pub some : 1 ≤ length q.values
  pub eight : length q.values ≤ 8
  pub small : Small q.values

pub data CanonicalSequence : List ℕ → Sequence → Type 0 where
  canonical : {p i vs : List ℕ} {m f : ℕ}
      → Fine (record { middle = m; last = f; values = vs }) → Numerals p vs → MiddleOctet i m
      → CanonicalSequence (CSI ∷ (p ++ (i ++ (f ∷ [])))) (record { middle = m; last = f; values = vs })

-- ---- the definition that gives it

-- the last one, two and three decimal digits of a number
abbrev pub last1 : ℕ → List ℕ
last1 v = (0x30 + v % 10) ∷ []

abbrev pub last2 : ℕ → List ℕ
last2 v = (0x30 + v / 10 % 10) ∷ last1 v

abbrev pub last3 : ℕ → List ℕ
last3 v = (0x30 + v / 100 % 10) ∷ last2 v

-- a value up to 999
unfoldable pub digits_of : ℕ → List ℕ
digits_of v = pick (ltb v 1) [] (pick (ltb v 10) (last1 v) (pick (ltb v 100) (last2 v) (last3 v)))

-- each value after a 3B
unfoldable pub spell_rest : List ℕ → List ℕ
spell_rest [] = []
spell_rest (v ∷ vs) = 0x3B ∷ (digits_of v ++ spell_rest vs)

-- the values, with a 3B between two
unfoldable pub spell_values : List ℕ → List ℕ
spell_values [] = []
spell_values (v ∷ vs) = digits_of v ++ spell_rest vs

-- the intermediate, or nothing for 0
unfoldable pub spell_middle : ℕ → List ℕ
spell_middle m = pick (eqb m 0) [] (m ∷ [])

unfoldable pub spell_sequence : Sequence → List ℕ
spell_sequence q = CSI ∷ (spell_values q.values ++ (spell_middle q.middle ++ (q.last ∷ [])))

-- the test of what a sequence can be
abbrev pub all_small : List ℕ → Bool
all_small [] = true
all_small (v ∷ vs) = pick (leb v 999) (all_small vs) false

unfoldable pub is_fine : Sequence → Bool
is_fine q =
    pick (pick (eqb q.middle 0) true (within 0x20 0x2F q.middle))
    (pick (within 0x40 0x7E q.last)
    (pick (within 1 8 (length q.values))
    (all_small q.values) false) false) false

-- how many octets the spelling has; 0 where the sequence cannot be one
unfoldable pub size_of : Sequence → ℕ
size_of q = pick (is_fine q) (length (spell_sequence q)) 0

-- what is written at a place of a buffer: the spelling, where the sequence can be one and there is room; else nothing
unfoldable pub put_sequence : List ℕ → ℕ → Sequence → List ℕ
put_sequence out at q = pick (is_fine q) (what_fits out at (spell_sequence q)) []

-- ---- the test of a canonical spelling, of octets that spell a sequence, behind their 9B

-- each octet is of the lower half: 02, No. 6: "Canonical spelling uses the lower half"; and no value begins with the digit 0: "Values have
-- no leading zeros, 0 is the empty sub-string"; `begins`: a value begins here
abbrev pub canonical_behind : Bool → List ℕ → Bool
canonical_behind begins [] = true
canonical_behind begins (b ∷ s) =
    let more = canonical_behind (eqb b 0x3B) s in
    pick (leb 0x80 b) false (pick (pick begins (eqb b 0x30) false) false more)
