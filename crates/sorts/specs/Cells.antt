-- To be believed: a table of document 01, what stands before what, in order. Looked up from either side. Last, a part of the code.
-- Assumes nothing.
use Rattle.std.specs.Prelude.{ℕ, ◌-◌, List, [], ◌∷◌, Option, Some, None}
use Rattle.run.specs.Choice.{pick, within, one_of, first_by}

infix 70 ◌is◌
-- an octet (or a follower), and what it is
pub data Cell : Type 0 where
  ◌is◌ : ℕ → ℕ → Cell

abbrev pub octet : Cell → ℕ
octet (o is c) = o

abbrev pub meaning : Cell → ℕ
meaning (o is c) = c

-- what an octet is
abbrev pub char_in : List Cell → ℕ → Option ℕ
char_in = first_by octet (λ cell. Some (meaning cell)) None

-- the first octet that is c
abbrev pub octet_in : List Cell → ℕ → Option ℕ
octet_in = first_by meaning (λ cell. Some (octet cell)) None

-- 01's values of each answer to that: the octet, where there is one. It has no number for either: nothing is refused by it
abbrev pub octet_values : Option ℕ → List ℕ
octet_values (Some o) = o ∷ []
octet_values None = []

-- the cells but those of some octets
abbrev pub without : List ℕ → List Cell → List Cell
without os [] = []
without os (o is c ∷ cs) = let more = without os cs in pick (one_of os o) more (o is c ∷ more)

-- the cells from an octet to another
abbrev pub part : ℕ → ℕ → List Cell → List Cell
part a b [] = []
part a b (o is c ∷ cs) = let more = part a b cs in pick (within a b o) (o is c ∷ more) more

-- "form 2 uses the low seven bits after SS2"
abbrev pub low : List Cell → List Cell
low [] = []
low (o is c ∷ cs) = (o - 0x80) is c ∷ low cs

-- ---- part of the code

-- what is found, as an entry of a table in the code: 0 where there is none
abbrev pub number : Option ℕ → ℕ
number (Some c) = c
number None = 0
