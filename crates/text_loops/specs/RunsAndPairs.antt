-- A part of the code: what is read of a text by lent tables, a run of spacing characters and a pair. No public promise cites them.
-- Assumes nothing.
use Rattle.std.specs.Prelude.{ℕ, zero, suc, List, [], ◌∷◌, ltb}
use Rattle.run.specs.Choice.{pick}
use Rattle.lent_tables.specs.CodeTables.{no_character, code_in, paired_in}

-- the spacing characters that a list begins with, each an octet by itself; at most so many
abbrev pub spacing_words : List ℕ → ℕ → List ℕ → List ℕ
spacing_words codes zero s = []
spacing_words codes (suc most) [] = []
spacing_words codes (suc most) (o ∷ s) =
    let more = spacing_words codes most s in
    pick (ltb (code_in codes o) no_character) (code_in codes o ∷ more) []

-- the character of the pair that a list begins with: 0 where it begins with none
abbrev pub pair_word : List ℕ → List (List ℕ) → List ℕ → ℕ
pair_word codes squares [] = 0
pair_word codes squares (o ∷ []) = 0
pair_word codes squares (o ∷ (l ∷ s)) = paired_in squares (code_in codes o) l
