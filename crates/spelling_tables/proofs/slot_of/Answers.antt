-- `slot_of`, arm by arm: each is a test over the arm's code points (`low_slot`, `at_keys`, `within`), and past them `slot_past`.
use native.Mathlib.Omega.{arith}
use mathlib.Core.Path.{refl}
use mathlib.Core.List.{[], ◌∷◌}
use Prim.Native.Nat.{◌+◌, ◌-◌}
use Rattle.run.proofs.Range.{at_keys, within}
use Rattle.spelling_tables.specs.PackedSpellings.{slot_of}
use Rattle.spelling_tables.proofs.Slots.{low_slot, slot_past}
use Rattle.spelling_tables.proofs.slot_of.Goals as goal

pub returns-then-c-lt384 : goal.returns-then-c-lt384
returns-then-c-lt384 c = low_slot _ c.if-c-lt384.true

pub returns-in-9834 : goal.returns-in-9834
returns-in-9834 c = at_keys (λ o. 429) slot_of (0x266A ∷ []) (unfold slot_of in refl) _ c.in-9834.is

pub returns-in-711-to-733 : goal.returns-in-711-to-733
returns-in-711-to-733 c = within (λ o. o - 0x02C7 + 384) slot_of 0x02C7 0x02DE (unfold slot_of in refl) _ (omega arith) (omega arith)

pub returns-in-8213-to-8221 : goal.returns-in-8213-to-8221
returns-in-8213-to-8221 c = within (λ o. o - 0x2015 + 407) slot_of 0x2015 0x201E (unfold slot_of in refl) _ (omega arith) (omega arith)

pub returns-in-8482-to-8486 : goal.returns-in-8482-to-8486
returns-in-8482-to-8486 c = within (λ o. o - 0x2122 + 416) slot_of 0x2122 0x2127 (unfold slot_of in refl) _ (omega arith) (omega arith)

pub returns-in-8539-to-8542 : goal.returns-in-8539-to-8542
returns-in-8539-to-8542 c = within (λ o. o - 0x215B + 421) slot_of 0x215B 0x215F (unfold slot_of in refl) _ (omega arith) (omega arith)

pub returns-in-8592-to-8595 : goal.returns-in-8592-to-8595
returns-in-8592-to-8595 c = within (λ o. o - 0x2190 + 425) slot_of 0x2190 0x2194 (unfold slot_of in refl) _ (omega arith) (omega arith)

pub returns-in_default : goal.returns-in_default
returns-in_default c = within (λ o. 0) slot_of 0x0180 0x02C7 (unfold slot_of in refl) _ (omega arith) (omega arith)

pub returns-in_default-2 : goal.returns-in_default-2
returns-in_default-2 c = within (λ o. 0) slot_of 0x02DE 0x2015 (unfold slot_of in refl) _ (omega arith) (omega arith)

pub returns-in_default-3 : goal.returns-in_default-3
returns-in_default-3 c = within (λ o. 0) slot_of 0x201E 0x2122 (unfold slot_of in refl) _ (omega arith) (omega arith)

pub returns-in_default-4 : goal.returns-in_default-4
returns-in_default-4 c = within (λ o. 0) slot_of 0x2127 0x215B (unfold slot_of in refl) _ (omega arith) (omega arith)

pub returns-in_default-5 : goal.returns-in_default-5
returns-in_default-5 c = within (λ o. 0) slot_of 0x215F 0x2190 (unfold slot_of in refl) _ (omega arith) (omega arith)

pub returns-in_default-6 : goal.returns-in_default-6
returns-in_default-6 c = slot_past _ (omega arith) c.in_default.in_default-own.rest.1
