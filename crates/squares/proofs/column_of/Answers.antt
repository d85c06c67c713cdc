-- `column_of`, arm by arm: each is a test over the arm's octets (`at_keys`, `within`, `without`).
use native.Mathlib.Omega.{arith}
use mathlib.Core.Path.{refl}
use mathlib.Core.List.{List, [], ◌∷◌}
use Prim.Native.Nat.{ℕ, ◌-◌}
use Rattle.run.proofs.Range.{at_keys, within, without}
use Rattle.squares.specs.Squares.{column_of}
use Rattle.squares.proofs.column_of.Goals as goal

-- the single numbers of the match, from its last arm that has some
abbrev singles : List (List ℕ)
singles = (0x20 ∷ []) ∷ []

pub returns-in-32 : goal.returns-in-32
returns-in-32 c = at_keys (λ o. 52) column_of (0x20 ∷ []) (unfold column_of in refl) _ c.in-32.is

pub returns-in-65-to-90 : goal.returns-in-65-to-90
returns-in-65-to-90 c = within (λ o. o - 0x41) column_of 0x41 0x5B (unfold column_of in refl) _ (omega arith) (omega arith)

pub returns-in-97-to-122 : goal.returns-in-97-to-122
returns-in-97-to-122 c = within (λ o. o - 0x47) column_of 0x61 0x7B (unfold column_of in refl) _ (omega arith) (omega arith)

pub returns-in_default : goal.returns-in_default
returns-in_default c = without (λ o. 53) column_of singles 0x00 0x41 (unfold column_of in refl) _ c.in_default.in_default-own.rest (omega arith) (omega arith)

pub returns-in_default-2 : goal.returns-in_default-2
returns-in_default-2 c = within (λ o. 53) column_of 0x5B 0x61 (unfold column_of in refl) _ (omega arith) (omega arith)

pub returns-in_default-3 : goal.returns-in_default-3
returns-in_default-3 c = within (λ o. 53) column_of 0x7B 0x100 (unfold column_of in refl) _ (omega arith) (omega arith)
