-- `sort_in` of form 1, arm by arm: each is a test over the arm's octets (`at_keys`, `within`, `without`).
use native.Mathlib.Omega.{arith}
use mathlib.Core.Path.{refl, ◌∙◌}
use mathlib.Core.List.{List, [], ◌∷◌}
use Prim.Native.Nat.{ℕ}
use Rattle.run.proofs.Range.{at_keys, within, without}
use Rattle.sorts.specs.declared.Form.TheVariants.{Eight}
use Rattle.sorts.specs.declared.Sort.TheVariants.{Graphic, Mark, Control, Refused}
use Rattle.sorts.specs.Sorts.{sort_in, spacing_of}
use Rattle.sorts.proofs.sort_eight.Goals as goal

-- the single numbers of the match, from its last arm that has some
abbrev singles : List (List ℕ)
singles = (0x19 ∷ []) ∷ (0x1B ∷ 0x1D ∷ []) ∷ (0x0A ∷ 0x0D ∷ []) ∷ []

pub returns-in-10 : goal.returns-in-10
returns-in-10 c = at_keys (λ o. Control) (sort_in Eight) (0x0A ∷ 0x0D ∷ []) (unfold sort_in spacing_of in refl) _ c.in-10.is

pub returns-in-25 : goal.returns-in-25
returns-in-25 c = at_keys (λ o. Refused 2) (sort_in Eight) (0x19 ∷ []) (unfold sort_in spacing_of in refl) _ c.in-25.is

pub returns-in-32-to-126 : goal.returns-in-32-to-126
returns-in-32-to-126 c = within (λ o. Graphic o) (sort_in Eight) 0x20 0x7F (unfold sort_in spacing_of in refl) _ (omega arith) (omega arith)

pub returns-in-160-to-191 : goal.returns-in-160-to-191
returns-in-160-to-191 c = c.spacing.ensures ∙ within (λ o. spacing_of o) (sort_in Eight) 0xA0 0xC0 (unfold sort_in spacing_of in refl) _ (omega arith) (omega arith)

pub returns-in-208-to-255 : goal.returns-in-208-to-255
returns-in-208-to-255 c =
    c.spacing-in-208-to-255.ensures ∙ within (λ o. spacing_of o) (sort_in Eight) 0xD0 0x100 (unfold sort_in spacing_of in refl) _ (omega arith)
    (omega arith)

pub returns-in-193-to-200 : goal.returns-in-193-to-200
returns-in-193-to-200 c = within (λ o. Mark o) (sort_in Eight) 0xC1 0xC9 (unfold sort_in spacing_of in refl) _ (omega arith) (omega arith)

pub returns-in-193-to-200-2 : goal.returns-in-193-to-200-2
returns-in-193-to-200-2 c = within (λ o. Mark o) (sort_in Eight) 0xCA 0xCC (unfold sort_in spacing_of in refl) _ (omega arith) (omega arith)

pub returns-in-193-to-200-3 : goal.returns-in-193-to-200-3
returns-in-193-to-200-3 c = within (λ o. Mark o) (sort_in Eight) 0xCD 0xD0 (unfold sort_in spacing_of in refl) _ (omega arith) (omega arith)

pub returns-in_default : goal.returns-in_default
returns-in_default c =
    without (λ o. Refused 1) (sort_in Eight) singles 0x00 0x0D (unfold sort_in spacing_of in refl) _ c.in_default.in_default-own.rest
    (omega arith) (omega arith)

pub returns-in_default-2 : goal.returns-in_default-2
returns-in_default-2 c =
    without (λ o. Refused 1) (sort_in Eight) singles 0x10 0x20 (unfold sort_in spacing_of in refl) _
    c.in_default.in_default-own.rest (omega arith) (omega arith)

pub returns-in_default-3 : goal.returns-in_default-3
returns-in_default-3 c = within (λ o. Refused 1) (sort_in Eight) 0x7F 0xA0 (unfold sort_in spacing_of in refl) _ (omega arith) (omega arith)

pub returns-in_default-4 : goal.returns-in_default-4
returns-in_default-4 c = within (λ o. Refused 1) (sort_in Eight) 0xC0 0xC1 (unfold sort_in spacing_of in refl) _ (omega arith) (omega arith)

pub returns-in_default-5 : goal.returns-in_default-5
returns-in_default-5 c = within (λ o. Refused 1) (sort_in Eight) 0xC9 0xCA (unfold sort_in spacing_of in refl) _ (omega arith) (omega arith)

pub returns-in_default-6 : goal.returns-in_default-6
returns-in_default-6 c = within (λ o. Refused 1) (sort_in Eight) 0xCC 0xCD (unfold sort_in spacing_of in refl) _ (omega arith) (omega arith)

pub returns-in-14-to-15 : goal.returns-in-14-to-15
returns-in-14-to-15 c = at_keys (λ o. Refused 2) (sort_in Eight) (0x1B ∷ 0x1D ∷ []) (unfold sort_in spacing_of in refl) _ c.in-14-to-15.in-14-to-15-own.keys2

pub returns-in-14-to-15-2 : goal.returns-in-14-to-15-2
returns-in-14-to-15-2 c =
    without (λ o. Refused 2) (sort_in Eight) singles 0x0D 0x10 (unfold sort_in spacing_of in refl) _ c.in-14-to-15.in_default-own.rest
    (omega arith) (omega arith)
