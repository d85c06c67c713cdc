-- Parts of the code: a spelling as one number, and the table of them that a writer of whole texts looks into, which is always there. That what
-- is found in it is `spell_in` stands in proofs/LentSpellings. No promise of writing cites them.
-- Assumes nothing.
use Rattle.std.specs.Prelude.{ℕ, suc, ◌+◌, ◌*◌, ◌-◌, ◌/◌, ◌%◌, Bool, true, false, List, [], ◌∷◌, ◌++◌, map, ltb, length, get_or}
use Rattle.run.specs.Choice.{pick, within}
use Rattle.sorts.specs.declared.Form.{Form}
use Rattle.sorts.specs.Tables.{consecutive}
use Rattle.spelling.specs.CanonicalSpelling.{spelt_octets}
use Rattle.spelling.specs.SpellingGiven.{spell_in}

-- ---- a spelling as one number: how many octets, times 2^24, and the octets, the last of them lowest; 0 where there is none

abbrev pub valued : ℕ → List ℕ → ℕ
valued n [] = n
valued n (o ∷ s) = valued (n * 0x100 + o) s

abbrev pub packed : List ℕ → ℕ
packed s = length s * 0x1000000 + valued 0 s

abbrev pub packed_size : ℕ → ℕ
packed_size p = p / 0x1000000

-- the octets again, of a number that is some spelling's
abbrev pub packed_octets : ℕ → List ℕ
packed_octets p =
    pick (ltb p 0x2000000) (p % 0x100 ∷ [])
    (pick (ltb p 0x3000000) (p / 0x100 % 0x100 ∷ p % 0x100 ∷ [])
    (p / 0x10000 % 0x100 ∷ p / 0x100 % 0x100 ∷ p % 0x100 ∷ []))

-- ---- the characters that have a place of their own in the table: some ranges of code points, the first at the table's first entries

-- from, up to, and the place of the first
pub data Range : Type 0 where
  range : ℕ → ℕ → ℕ → Range

abbrev pub ranges : List Range
ranges =
    range 0x0000 0x017F 0 ∷ range 0x02C7 0x02DD 384 ∷ range 0x2015 0x201D 407 ∷ range 0x2122 0x2126 416 ∷ range 0x215B 0x215E 421 ∷
    range 0x2190 0x2193 425 ∷ range 0x266A 0x266A 429 ∷ []

abbrev pub in_ranges : List Range → List ℕ
in_ranges [] = []
in_ranges (range lo hi first ∷ rs) = consecutive lo (suc hi - lo) ++ in_ranges rs

-- whether a character is in one
abbrev pub is_in : List Range → ℕ → Bool
is_in [] c = false
is_in (range lo hi first ∷ rs) c = let more = is_in rs c in pick (within lo hi c) true more

-- its place; that of U+0000, which no form spells, where it is in none
abbrev pub place_by : List Range → ℕ → ℕ
place_by [] c = 0
place_by (range lo hi first ∷ rs) c = let more = place_by rs c in pick (within lo hi c) (c - lo + first) more

unfoldable pub slot_of : ℕ → ℕ
slot_of c = place_by ranges c

-- ---- the table of a form

unfoldable pub spelling_table : Form → List ℕ
unfolding spell_in
spelling_table f = map (λ c. packed (spelt_octets (spell_in f c))) (in_ranges ranges)

-- an entry of such a table
abbrev pub packed_in : List ℕ → ℕ → ℕ
packed_in table c = get_or table (slot_of c) 0

-- the same of a character of the first range alone: 0 of any other
abbrev pub low_in : List ℕ → ℕ → ℕ
low_in table c = pick (ltb c 0x0180) (get_or table c 0) 0
