-- `spell_spacing` of form 3, arm by arm: each is a test over the arm's octets (`at_keys`, `within`, `without`).
use native.Mathlib.Omega.{arith}
use mathlib.Core.Path.{refl}
use mathlib.Core.List.{List, [], ◌∷◌}
use Prim.Native.Nat.{ℕ}
use Rattle.run.proofs.Range.{at_keys, within, without}
use Rattle.sorts.specs.declared.Form.TheVariants.{Basic}
use Rattle.std.specs.Prelude.{Some, None}
use Rattle.spelling.specs.declared.Spelling.TheVariants.{One}
use Rattle.spelling.specs.SpellingGiven.{spell_spacing}
use Rattle.spelling.proofs.spacing_basic.Goals as goal

-- the single numbers of the match, from its last arm that has some
abbrev singles : List (List ℕ)
singles = (0xAB ∷ []) ∷ (0xA8 ∷ []) ∷ []

pub returns-in-168 : goal.returns-in-168
returns-in-168 c = at_keys (λ o. Some (One 0xA8)) (spell_spacing Basic) (0xA8 ∷ []) (unfold spell_spacing in refl) _ c.in-168.is

pub returns-in_default : goal.returns-in_default
returns-in_default c = within (λ o. None) (spell_spacing Basic) 0x00 0xA1 (unfold spell_spacing in refl) _ (omega arith) (omega arith)

pub returns-in_default-2 : goal.returns-in_default-2
returns-in_default-2 c =
    without (λ o. None) (spell_spacing Basic) singles 0xA8 0xB0 (unfold spell_spacing in refl) _
    c.in_default.in_default-own.rest (omega arith) (omega arith)

pub returns-in_default-3 : goal.returns-in_default-3
returns-in_default-3 c = within (λ o. None) (spell_spacing Basic) 0xB9 0xBB (unfold spell_spacing in refl) _ (omega arith) (omega arith)

pub returns-in_default-4 : goal.returns-in_default-4
returns-in_default-4 c = within (λ o. None) (spell_spacing Basic) 0xC0 0xE0 (unfold spell_spacing in refl) _ (omega arith) (omega arith)

pub returns-in_default-5 : goal.returns-in_default-5
returns-in_default-5 c = within (λ o. None) (spell_spacing Basic) 0xE5 0xE6 (unfold spell_spacing in refl) _ (omega arith) (omega arith)

pub returns-in_default-6 : goal.returns-in_default-6
returns-in_default-6 c = within (λ o. None) (spell_spacing Basic) 0xFF 0x100 (unfold spell_spacing in refl) _ (omega arith) (omega arith)

pub returns-in-161-to-167 : goal.returns-in-161-to-167
returns-in-161-to-167 c = at_keys (λ o. Some (One o)) (spell_spacing Basic) (0xAB ∷ []) (unfold spell_spacing in refl) _ c.in-161-to-167.in-161-to-167-own.keys2

pub returns-in-161-to-167-2 : goal.returns-in-161-to-167-2
returns-in-161-to-167-2 c = within (λ o. Some (One o)) (spell_spacing Basic) 0xA1 0xA8 (unfold spell_spacing in refl) _ (omega arith) (omega arith)

pub returns-in-161-to-167-3 : goal.returns-in-161-to-167-3
returns-in-161-to-167-3 c = within (λ o. Some (One o)) (spell_spacing Basic) 0xB0 0xB9 (unfold spell_spacing in refl) _ (omega arith) (omega arith)

pub returns-in-161-to-167-4 : goal.returns-in-161-to-167-4
returns-in-161-to-167-4 c = within (λ o. Some (One o)) (spell_spacing Basic) 0xBB 0xC0 (unfold spell_spacing in refl) _ (omega arith) (omega arith)

pub returns-in-161-to-167-5 : goal.returns-in-161-to-167-5
returns-in-161-to-167-5 c = within (λ o. Some (One o)) (spell_spacing Basic) 0xE0 0xE5 (unfold spell_spacing in refl) _ (omega arith) (omega arith)

pub returns-in-161-to-167-6 : goal.returns-in-161-to-167-6
returns-in-161-to-167-6 c = within (λ o. Some (One o)) (spell_spacing Basic) 0xE6 0xFF (unfold spell_spacing in refl) _ (omega arith) (omega arith)
