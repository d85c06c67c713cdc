-- To be believed: the values of a sequence as a list of eight.
-- Assumes nothing.
use Rattle.std.specs.Prelude.{ℕ, List, [], ◌∷◌, get_or}

-- the list's first eight entries, then zeros
abbrev pub values_of : List ℕ → List ℕ
values_of l =
    get_or l 0 0
    ∷ get_or l 1 0
    ∷ get_or l 2 0
    ∷ get_or l 3 0
    ∷ get_or l 4 0
    ∷ get_or l 5 0
    ∷ get_or l 6 0
    ∷ get_or l 7 0
    ∷ []
