-- `row_of`, arm by arm: each is a test over the arm's octets (`within`).
use native.Mathlib.Omega.{arith}
use mathlib.Core.Path.{refl}
use Prim.Native.Nat.{◌-◌}
use Rattle.run.proofs.Range.{within}
use Rattle.squares.specs.Squares.{row_of}
use Rattle.squares.proofs.row_of.Goals as goal

pub returns-in-193-to-200 : goal.returns-in-193-to-200
returns-in-193-to-200 c = within (λ o. o - 0xC1) row_of 0xC1 0xC9 (unfold row_of in refl) _ (omega arith) (omega arith)

pub returns-in-202-to-203 : goal.returns-in-202-to-203
returns-in-202-to-203 c = within (λ o. o - 0xC2) row_of 0xCA 0xCC (unfold row_of in refl) _ (omega arith) (omega arith)

pub returns-in-205-to-207 : goal.returns-in-205-to-207
returns-in-205-to-207 c = within (λ o. o - 0xC3) row_of 0xCD 0xD0 (unfold row_of in refl) _ (omega arith) (omega arith)

pub returns-in_default : goal.returns-in_default
returns-in_default c = within (λ o. 13) row_of 0x00 0xC1 (unfold row_of in refl) _ (omega arith) (omega arith)

pub returns-in_default-2 : goal.returns-in_default-2
returns-in_default-2 c = within (λ o. 13) row_of 0xC9 0xCA (unfold row_of in refl) _ (omega arith) (omega arith)

pub returns-in_default-3 : goal.returns-in_default-3
returns-in_default-3 c = within (λ o. 13) row_of 0xCC 0xCD (unfold row_of in refl) _ (omega arith) (omega arith)

pub returns-in_default-4 : goal.returns-in_default-4
returns-in_default-4 c = within (λ o. 13) row_of 0xD0 0x100 (unfold row_of in refl) _ (omega arith) (omega arith)
