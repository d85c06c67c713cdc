-- `shifted_in` of form 2, arm by arm: each is a test over the arm's octets (`within`).
use native.Mathlib.Omega.{arith}
use mathlib.Core.Path.{refl, ◌∙◌}
use Prim.Native.Nat.{◌+◌}
use Rattle.run.proofs.Range.{within}
use Rattle.sorts.specs.declared.Form.TheVariants.{Seven}
use Rattle.sorts.specs.declared.Sort.TheVariants.{Mark, Refused}
use Rattle.sorts.specs.Sorts.{shifted_in, spacing_of}
use Rattle.sorts.proofs.shifted_seven.Goals as goal

pub returns-in-32-to-63 : goal.returns-in-32-to-63
returns-in-32-to-63 c =
    c.spacing.ensures ∙ within (λ o. spacing_of (o + 0x80)) (shifted_in Seven) 0x20 0x40 (unfold shifted_in spacing_of in refl) _
    (omega arith) (omega arith)

pub returns-in-65-to-72 : goal.returns-in-65-to-72
returns-in-65-to-72 c = within (λ o. Mark (o + 0x80)) (shifted_in Seven) 0x41 0x49 (unfold shifted_in spacing_of in refl) _ (omega arith) (omega arith)

pub returns-in-74-to-75 : goal.returns-in-74-to-75
returns-in-74-to-75 c = within (λ o. Mark (o + 0x80)) (shifted_in Seven) 0x4A 0x4C (unfold shifted_in spacing_of in refl) _ (omega arith) (omega arith)

pub returns-in-77-to-79 : goal.returns-in-77-to-79
returns-in-77-to-79 c = within (λ o. Mark (o + 0x80)) (shifted_in Seven) 0x4D 0x50 (unfold shifted_in spacing_of in refl) _ (omega arith) (omega arith)

pub returns-in-80-to-127 : goal.returns-in-80-to-127
returns-in-80-to-127 c =
    c.spacing-in-80-to-127.ensures ∙ within (λ o. spacing_of (o + 0x80)) (shifted_in Seven) 0x50 0x80 (unfold shifted_in spacing_of in refl) _
    (omega arith) (omega arith)

pub returns-in-128-to-255 : goal.returns-in-128-to-255
returns-in-128-to-255 c = within (λ o. Refused 5) (shifted_in Seven) 0x80 0x100 (unfold shifted_in spacing_of in refl) _ (omega arith) (omega arith)

pub returns-in_default : goal.returns-in_default
returns-in_default c = within (λ o. Refused 1) (shifted_in Seven) 0x00 0x20 (unfold shifted_in spacing_of in refl) _ (omega arith) (omega arith)

pub returns-in_default-2 : goal.returns-in_default-2
returns-in_default-2 c = within (λ o. Refused 1) (shifted_in Seven) 0x40 0x41 (unfold shifted_in spacing_of in refl) _ (omega arith) (omega arith)

pub returns-in_default-3 : goal.returns-in_default-3
returns-in_default-3 c = within (λ o. Refused 1) (shifted_in Seven) 0x49 0x4A (unfold shifted_in spacing_of in refl) _ (omega arith) (omega arith)

pub returns-in_default-4 : goal.returns-in_default-4
returns-in_default-4 c = within (λ o. Refused 1) (shifted_in Seven) 0x4C 0x4D (unfold shifted_in spacing_of in refl) _ (omega arith) (omega arith)
