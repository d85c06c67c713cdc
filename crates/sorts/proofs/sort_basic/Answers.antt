-- `sort_in` of form 3, arm by arm: each is a test over the arm's octets (`at_keys`, `within`, `without`).
use native.Mathlib.Omega.{arith}
use mathlib.Core.Path.{refl, ◌∙◌}
use mathlib.Core.List.{List, [], ◌∷◌}
use Prim.Native.Nat.{ℕ}
use Rattle.run.proofs.Range.{at_keys, within, without}
use Rattle.sorts.specs.declared.Form.TheVariants.{Basic}
use Rattle.sorts.specs.declared.Sort.TheVariants.{Graphic, Mark, Underline, Control, SequenceStart, Refused}
use Rattle.sorts.specs.Sorts.{sort_in, spacing_of}
use Rattle.sorts.proofs.sort_basic.Goals as goal

-- the single numbers of the match, from its last arm that has some
abbrev singles : List (List ℕ)
singles =
    (0xCC ∷ []) ∷ (0xAB ∷ []) ∷ (0xA5 ∷ []) ∷ (0xA6 ∷ []) ∷ (0xA4 ∷ []) ∷ (0x9B ∷ []) ∷ (0x5D ∷ 0x5F ∷ 0x7C ∷ []) ∷
    (0x5C ∷ 0x5E ∷ 0x60 ∷ 0x7B ∷ 0x7D ∷ []) ∷ (0x24 ∷ []) ∷ (0x19 ∷ 0x1B ∷ 0x1D ∷ []) ∷ (0x08 ∷ 0x0A ∷ 0x1A ∷ []) ∷ []

pub returns-in-36 : goal.returns-in-36
returns-in-36 c = at_keys (λ o. Graphic 0xA4) (sort_in Basic) (0x24 ∷ []) (unfold sort_in spacing_of in refl) _ c.in-36.is

pub returns-in-92 : goal.returns-in-92
returns-in-92 c = at_keys (λ o. Refused 1) (sort_in Basic) (0x5C ∷ 0x5E ∷ 0x60 ∷ 0x7B ∷ 0x7D ∷ []) (unfold sort_in spacing_of in refl) _ c.in-92.is

pub returns-in-93 : goal.returns-in-93
returns-in-93 c = at_keys (λ o. Graphic o) (sort_in Basic) (0x5D ∷ 0x5F ∷ 0x7C ∷ []) (unfold sort_in spacing_of in refl) _ c.in-93.is

pub returns-in-155 : goal.returns-in-155
returns-in-155 c = at_keys (λ o. SequenceStart) (sort_in Basic) (0x9B ∷ []) (unfold sort_in spacing_of in refl) _ c.in-155.is

pub returns-in-164 : goal.returns-in-164
returns-in-164 c = at_keys (λ o. Graphic 0x24) (sort_in Basic) (0xA4 ∷ []) (unfold sort_in spacing_of in refl) _ c.in-164.is

pub returns-in-166 : goal.returns-in-166
returns-in-166 c = at_keys (λ o. Graphic 0x23) (sort_in Basic) (0xA6 ∷ []) (unfold sort_in spacing_of in refl) _ c.in-166.is

pub returns-in-165 : goal.returns-in-165
returns-in-165 c =
    c.spacing.ensures ∙ at_keys (λ o. spacing_of o) (sort_in Basic) (0xA5 ∷ []) (unfold sort_in spacing_of in refl) _
    c.in-165.is

pub returns-in-171 : goal.returns-in-171
returns-in-171 c =
    c.spacing-in-171.ensures ∙ at_keys (λ o. spacing_of o) (sort_in Basic) (0xAB ∷ []) (unfold sort_in spacing_of in refl) _
    c.in-171.is

pub returns-in-204 : goal.returns-in-204
returns-in-204 c = at_keys (λ o. Underline) (sort_in Basic) (0xCC ∷ []) (unfold sort_in spacing_of in refl) _ c.in-204.is

pub returns-in-32-to-35 : goal.returns-in-32-to-35
returns-in-32-to-35 c = within (λ o. Graphic o) (sort_in Basic) 0x20 0x24 (unfold sort_in spacing_of in refl) _ (omega arith) (omega arith)

pub returns-in-37-to-91 : goal.returns-in-37-to-91
returns-in-37-to-91 c =
    without (λ o. Graphic o) (sort_in Basic) singles 0x24 0x5C (unfold sort_in spacing_of in refl) _
    c.in-37-to-91.in_default-own.rest (omega arith) (omega arith)

pub returns-in-97-to-122 : goal.returns-in-97-to-122
returns-in-97-to-122 c =
    without (λ o. Graphic o) (sort_in Basic) singles 0x5C 0x7B (unfold sort_in spacing_of in refl) _
    c.in-97-to-122.in_default-own.rest (omega arith) (omega arith)

pub returns-in-161-to-163 : goal.returns-in-161-to-163
returns-in-161-to-163 c =
    c.spacing-in-161-to-163.ensures ∙ within (λ o. spacing_of o) (sort_in Basic) 0xA1 0xA4 (unfold sort_in spacing_of in refl) _ (omega arith)
    (omega arith)

pub returns-in-167-to-168 : goal.returns-in-167-to-168
returns-in-167-to-168 c =
    c.spacing-in-167-to-168.ensures ∙ without (λ o. spacing_of o) (sort_in Basic) singles 0xA4 0xA9 (unfold sort_in spacing_of in refl) _
    c.in-167-to-168.in_default-own.rest (omega arith) (omega arith)

pub returns-in-176-to-184 : goal.returns-in-176-to-184
returns-in-176-to-184 c =
    c.spacing-in-176-to-184.ensures ∙ within (λ o. spacing_of o) (sort_in Basic) 0xB0 0xB9 (unfold sort_in spacing_of in refl) _ (omega arith)
    (omega arith)

pub returns-in-187-to-191 : goal.returns-in-187-to-191
returns-in-187-to-191 c =
    c.spacing-in-187-to-191.ensures ∙ within (λ o. spacing_of o) (sort_in Basic) 0xBB 0xC0 (unfold sort_in spacing_of in refl) _ (omega arith)
    (omega arith)

pub returns-in-224-to-228 : goal.returns-in-224-to-228
returns-in-224-to-228 c =
    c.spacing-in-224-to-228.ensures ∙ within (λ o. spacing_of o) (sort_in Basic) 0xE0 0xE5 (unfold sort_in spacing_of in refl) _ (omega arith)
    (omega arith)

pub returns-in-230-to-254 : goal.returns-in-230-to-254
returns-in-230-to-254 c =
    c.spacing-in-230-to-254.ensures ∙ within (λ o. spacing_of o) (sort_in Basic) 0xE6 0xFF (unfold sort_in spacing_of in refl) _ (omega arith)
    (omega arith)

pub returns-in-193-to-200 : goal.returns-in-193-to-200
returns-in-193-to-200 c = within (λ o. Mark o) (sort_in Basic) 0xC1 0xC9 (unfold sort_in spacing_of in refl) _ (omega arith) (omega arith)

pub returns-in-193-to-200-2 : goal.returns-in-193-to-200-2
returns-in-193-to-200-2 c =
    without (λ o. Mark o) (sort_in Basic) singles 0xCA 0xD0 (unfold sort_in spacing_of in refl) _ c.in-193-to-200.in_default-own.rest
    (omega arith) (omega arith)

pub returns-in_default : goal.returns-in_default
returns-in_default c =
    without (λ o. Refused 1) (sort_in Basic) singles 0x00 0x0C (unfold sort_in spacing_of in refl) _ c.in_default.in_default-own.rest
    (omega arith) (omega arith)

pub returns-in_default-2 : goal.returns-in_default-2
returns-in_default-2 c =
    without (λ o. Refused 1) (sort_in Basic) singles 0x10 0x20 (unfold sort_in spacing_of in refl) _
    c.in_default.in_default-own.rest (omega arith) (omega arith)

pub returns-in_default-3 : goal.returns-in_default-3
returns-in_default-3 c =
    without (λ o. Refused 1) (sort_in Basic) singles 0x7B 0x8B (unfold sort_in spacing_of in refl) _ c.in_default.in_default-own.rest
    (omega arith) (omega arith)

pub returns-in_default-4 : goal.returns-in_default-4
returns-in_default-4 c =
    without (λ o. Refused 1) (sort_in Basic) singles 0x8D 0xA1 (unfold sort_in spacing_of in refl) _ c.in_default.in_default-own.rest
    (omega arith) (omega arith)

pub returns-in_default-5 : goal.returns-in_default-5
returns-in_default-5 c =
    without (λ o. Refused 1) (sort_in Basic) singles 0xA9 0xB0 (unfold sort_in spacing_of in refl) _
    c.in_default.in_default-own.rest (omega arith) (omega arith)

pub returns-in_default-6 : goal.returns-in_default-6
returns-in_default-6 c = within (λ o. Refused 1) (sort_in Basic) 0xB9 0xBB (unfold sort_in spacing_of in refl) _ (omega arith) (omega arith)

pub returns-in_default-7 : goal.returns-in_default-7
returns-in_default-7 c = within (λ o. Refused 1) (sort_in Basic) 0xC0 0xC1 (unfold sort_in spacing_of in refl) _ (omega arith) (omega arith)

pub returns-in_default-8 : goal.returns-in_default-8
returns-in_default-8 c = within (λ o. Refused 1) (sort_in Basic) 0xC9 0xCA (unfold sort_in spacing_of in refl) _ (omega arith) (omega arith)

pub returns-in_default-9 : goal.returns-in_default-9
returns-in_default-9 c = within (λ o. Refused 1) (sort_in Basic) 0xD0 0xE0 (unfold sort_in spacing_of in refl) _ (omega arith) (omega arith)

pub returns-in_default-10 : goal.returns-in_default-10
returns-in_default-10 c = within (λ o. Refused 1) (sort_in Basic) 0xE5 0xE6 (unfold sort_in spacing_of in refl) _ (omega arith) (omega arith)

pub returns-in_default-11 : goal.returns-in_default-11
returns-in_default-11 c = within (λ o. Refused 1) (sort_in Basic) 0xFF 0x100 (unfold sort_in spacing_of in refl) _ (omega arith) (omega arith)

pub returns-in-14-to-15 : goal.returns-in-14-to-15
returns-in-14-to-15 c = at_keys (λ o. Refused 2) (sort_in Basic) (0x19 ∷ 0x1B ∷ 0x1D ∷ []) (unfold sort_in spacing_of in refl) _ c.in-14-to-15.in-14-to-15-own.keys2

pub returns-in-14-to-15-2 : goal.returns-in-14-to-15-2
returns-in-14-to-15-2 c = within (λ o. Refused 2) (sort_in Basic) 0x0E 0x10 (unfold sort_in spacing_of in refl) _ (omega arith) (omega arith)

pub returns-in-8 : goal.returns-in-8
returns-in-8 c = at_keys (λ o. Control) (sort_in Basic) (0x08 ∷ 0x0A ∷ 0x1A ∷ []) (unfold sort_in spacing_of in refl) _ c.in-8.in-8-own.keys1

pub returns-in-8-2 : goal.returns-in-8-2
returns-in-8-2 c = within (λ o. Control) (sort_in Basic) 0x0C 0x0E (unfold sort_in spacing_of in refl) _ (omega arith) (omega arith)

pub returns-in-8-3 : goal.returns-in-8-3
returns-in-8-3 c = within (λ o. Control) (sort_in Basic) 0x8B 0x8D (unfold sort_in spacing_of in refl) _ (omega arith) (omega arith)
