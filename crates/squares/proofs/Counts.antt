-- The counts of the definitions. Document 01's: 95 primary characters and 73 supplementary, in form 3 six fewer, which makes 89, and 53, 13
-- marks, 689 entries; document 02's (No. 2): 155 pairs of a mark and a letter, 168 filled squares. Each mark has a combining character of
-- its own.
-- Assumes nothing.
use Prim.Native.Nat.{◌*◌}
use mathlib.Core.Path.{◌≡◌, refl}
use mathlib.Core.List.{map}
use mathlib.Core.Bool.{true}
use lib.ListN.{length}
use Rattle.sorts.specs.Tables.{primary, primary_3, supplementary, supplementary_3, letters}
use Rattle.sorts.specs.SortLists.{no_twice}
use Rattle.squares.specs.Squares.{squares, marks, followers, combining_of, cell_count}

pub counts :
    (length primary ≡ 95)
    × (length supplementary ≡ 73)
    × (length primary_3 ≡ 89)
    × (length supplementary_3 ≡ 53)
    × (cell_count letters ≡ 155)
    × (length squares ≡ 168)
    × (length marks * length followers ≡ 689)
    × (length letters ≡ 13)
    × (no_twice (map combining_of letters) ≡ true)
unfolding primary primary_3 supplementary supplementary_3 letters squares marks followers
counts = (refl, refl, refl, refl, refl, refl, refl, refl, refl)
