-- Lists of up to seven end in zeros, each longer one in its eighth.
use Rattle.std.proofs.Common.{◌≡◌, ◌∷◌, [], ◌++◌, length, take, drop, min, ℕ, List, refl, arith}
use Rattle.sequence_reading.specs.EightValues.{values_of}
use Rattle.element_words.proofs.values_of.Goals as goal

filled : (l : List ℕ) → take (min (length l) 8) l ++ drop (min (length l) 8) (0 ∷ 0 ∷ 0 ∷ 0 ∷ 0 ∷ 0 ∷ 0 ∷ 0 ∷ []) ≡ values_of l
filled [] = refl
filled (a ∷ []) = refl
filled (a ∷ (b ∷ [])) = refl
filled (a ∷ (b ∷ (c ∷ []))) = refl
filled (a ∷ (b ∷ (c ∷ (d ∷ [])))) = refl
filled (a ∷ (b ∷ (c ∷ (d ∷ (e ∷ []))))) = refl
filled (a ∷ (b ∷ (c ∷ (d ∷ (e ∷ (g ∷ [])))))) = refl
filled (a ∷ (b ∷ (c ∷ (d ∷ (e ∷ (g ∷ (i ∷ []))))))) = refl
filled (a ∷ (b ∷ (c ∷ (d ∷ (e ∷ (g ∷ (i ∷ (j ∷ l)))))))) =
    let n : min (length (a ∷ b ∷ c ∷ d ∷ e ∷ g ∷ i ∷ j ∷ l)) 8 ≡ 8 = omega arith in
    rw n

pub returns : goal.returns
returns c = rw (c.copy_from_slice.ensures.after, c.kept-n.ensures) (filled c.args.values.now)
