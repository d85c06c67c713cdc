-- The octet of form 3, arm by arm: tests up to 7E (`at_keys`, `within`, `without`), and above it `none_above`.
use mathlib.Core.Path.{◌≡◌, refl}
use mathlib.Core.Bool.{Bool, true, false}
use mathlib.Core.List.{List, [], ◌∷◌}
use Prim.Native.Nat.{ℕ, ◌≤◌}
use lib.Dec.{ltb}
use borrow.Author.Tests.{ltb-true, ltb-false}
use native.Mathlib.Omega.{arith}
use Rattle.run.proofs.Range.{Rest, at_keys, within, without}
use Rattle.sorts.specs.declared.Form.TheVariants.{Basic}
use Rattle.std.specs.Prelude.{Some, None}
use Rattle.spelling.specs.SpellingGiven.{primary_octet}
use Rattle.spelling.proofs.SpellingWays.{basic_below, none_above}
use Rattle.spelling.proofs.primary_basic.Goals as goal

-- the single numbers of the match, from its last arm that has some
abbrev singles : List (List ℕ)
singles = (0x7C ∷ []) ∷ (0x5F ∷ []) ∷ (0x5D ∷ []) ∷ (0x24 ∷ []) ∷ (0x23 ∷ []) ∷ []

past : (n : ℕ) → Rest singles n → 0x7B ≤ n → None ≡ primary_octet Basic n
past n r h = go (ltb n 0x7F) refl
  where
    go : (t : Bool) → ltb n 0x7F ≡ t → None ≡ primary_octet Basic n
    go true e = without (λ o. None) (primary_octet Basic) singles 0x7B 0x7F (unfold primary_octet in refl) n r h (ltb-true n 0x7F e)
    go false e = none_above Basic 0x7F basic_below n (ltb-false n 0x7F e)

pub returns-in-35 : goal.returns-in-35
returns-in-35 c = at_keys (λ n. Some 0xA6) (primary_octet Basic) (0x23 ∷ []) (unfold primary_octet in refl) _ c.in-35.is

pub returns-in-36 : goal.returns-in-36
returns-in-36 c = at_keys (λ n. Some 0xA4) (primary_octet Basic) (0x24 ∷ []) (unfold primary_octet in refl) _ c.in-36.is

pub returns-in-93 : goal.returns-in-93
returns-in-93 c = at_keys (λ n. Some 0x5D) (primary_octet Basic) (0x5D ∷ []) (unfold primary_octet in refl) _ c.in-93.is

pub returns-in-95 : goal.returns-in-95
returns-in-95 c = at_keys (λ n. Some 0x5F) (primary_octet Basic) (0x5F ∷ []) (unfold primary_octet in refl) _ c.in-95.is

pub returns-in-124 : goal.returns-in-124
returns-in-124 c = at_keys (λ n. Some 0x7C) (primary_octet Basic) (0x7C ∷ []) (unfold primary_octet in refl) _ c.in-124.is

pub returns-in-32-to-34 : goal.returns-in-32-to-34
returns-in-32-to-34 c = within (λ n. Some n) (primary_octet Basic) 0x20 0x23 (unfold primary_octet in refl) _ (omega arith) (omega arith)

pub returns-in-37-to-91 : goal.returns-in-37-to-91
returns-in-37-to-91 c =
    without (λ n. Some n) (primary_octet Basic) singles 0x23 0x5C (unfold primary_octet in refl) _ c.in-37-to-91.in_default-own.rest
    (omega arith) (omega arith)

pub returns-in-97-to-122 : goal.returns-in-97-to-122
returns-in-97-to-122 c = within (λ n. Some n) (primary_octet Basic) 0x61 0x7B (unfold primary_octet in refl) _ (omega arith) (omega arith)

pub returns-in_default : goal.returns-in_default
returns-in_default c = within (λ n. None) (primary_octet Basic) 0x00 0x20 (unfold primary_octet in refl) _ (omega arith) (omega arith)

pub returns-in_default-2 : goal.returns-in_default-2
returns-in_default-2 c =
    without (λ n. None) (primary_octet Basic) singles 0x5C 0x61 (unfold primary_octet in refl) _
    c.in_default.in_default-own.rest (omega arith) (omega arith)

pub returns-in_default-3 : goal.returns-in_default-3
returns-in_default-3 c = past _ c.in_default.in_default-own.rest (omega arith)
