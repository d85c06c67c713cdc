-- By the range of the octet: the definition agrees with each arm of the match over all its octets.
use mathlib.Core.Path.{refl}
use mathlib.Core.List.{[], ◌∷◌}
use Prim.Native.Nat.{◌-◌}
use Rattle.run.proofs.Range.{at_keys, within, without}
use Rattle.sequence_reading.specs.declared.Kind.TheVariants.{Digit, Separator, Middle, Final, Other}
use Rattle.sequence_reading.specs.Kinds.{kind_of}
use native.Mathlib.Omega.{arith}
use Rattle.sequence_reading.proofs.NumbersExactly.{kind_kept}
use Rattle.sequence_reading.proofs.kind_of.Goals as goal

pub returns-in-59 : goal.returns-in-59
returns-in-59 c = kind_kept _ _ (at_keys (λ o. Separator) kind_of (0x3B ∷ []) (unfold kind_of in refl) _ c.in-59.is)

pub returns-in-187 : goal.returns-in-187
returns-in-187 c = kind_kept _ _ (at_keys (λ o. Separator) kind_of (0xBB ∷ []) (unfold kind_of in refl) _ c.in-187.is)

pub returns-in-32-to-47 : goal.returns-in-32-to-47
returns-in-32-to-47 c = kind_kept _ _ (within (λ o. Middle o) kind_of 0x20 0x30 (unfold kind_of in refl) _ (omega arith) (omega arith))

pub returns-in-48-to-57 : goal.returns-in-48-to-57
returns-in-48-to-57 c = kind_kept _ _ (within (λ o. Digit (o - 0x30)) kind_of 0x30 0x3A (unfold kind_of in refl) _ (omega arith) (omega arith))

pub returns-in-64-to-126 : goal.returns-in-64-to-126
returns-in-64-to-126 c = kind_kept _ _ (within (λ o. Final o) kind_of 0x40 0x7F (unfold kind_of in refl) _ (omega arith) (omega arith))

pub returns-in-161-to-175 : goal.returns-in-161-to-175
returns-in-161-to-175 c = kind_kept _ _ (within (λ o. Middle (o - 0x80)) kind_of 0xA1 0xB0 (unfold kind_of in refl) _ (omega arith) (omega arith))

pub returns-in-176-to-185 : goal.returns-in-176-to-185
returns-in-176-to-185 c = kind_kept _ _ (within (λ o. Digit (o - 0xB0)) kind_of 0xB0 0xBA (unfold kind_of in refl) _ (omega arith) (omega arith))

pub returns-in-192-to-254 : goal.returns-in-192-to-254
returns-in-192-to-254 c = kind_kept _ _ (within (λ o. Final (o - 0x80)) kind_of 0xC0 0xFF (unfold kind_of in refl) _ (omega arith) (omega arith))

pub returns-in_default : goal.returns-in_default
returns-in_default c = kind_kept _ _ (within (λ o. Other) kind_of 0 0x20 (unfold kind_of in refl) _ (omega arith) (omega arith))

pub returns-in_default-2 : goal.returns-in_default-2
returns-in_default-2 c =
    kind_kept _ _ (without (λ o. Other) kind_of ((0xBB ∷ []) ∷ (0x3B ∷ []) ∷ []) 0x3A 0x40 (unfold kind_of in refl) _
    c.in_default.in_default-own.rest (omega arith) (omega arith))

pub returns-in_default-3 : goal.returns-in_default-3
returns-in_default-3 c = kind_kept _ _ (within (λ o. Other) kind_of 0x7F 0xA1 (unfold kind_of in refl) _ (omega arith) (omega arith))

pub returns-in_default-4 : goal.returns-in_default-4
returns-in_default-4 c =
    kind_kept _ _ (without (λ o. Other) kind_of ((0xBB ∷ []) ∷ (0x3B ∷ []) ∷ []) 0xBA 0xC0 (unfold kind_of in refl) _
    c.in_default.in_default-own.rest (omega arith) (omega arith))

pub returns-in_default-5 : goal.returns-in_default-5
returns-in_default-5 c = kind_kept _ _ (within (λ o. Other) kind_of 0xFF 0x100 (unfold kind_of in refl) _ (omega arith) (omega arith))
