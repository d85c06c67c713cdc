-- 0 where the sequence cannot be one (no_size), else the sizes of its parts (size_bare, size_middle).
use mathlib.Core.Path.{sym, ap, ◌∙◌}
use Prim.Native.Nat.{ℕ, ◌+◌}
use Rattle.sequence_spelling.proofs.Exactly.{rest_short, fine_test}
use Rattle.sequence_spelling.proofs.Puts.{no_size, size_bare, size_middle}
use native.Mathlib.Omega.{arith}
use Rattle.sequence_spelling.proofs.Sequence.size.Goals as goal

pub returns-then-not-is_fine : goal.returns-then-not-is_fine
returns-then-not-is_fine c = no_size _ (sym c.is_fine.ensures ∙ c.if-not-is_fine.true)

pub values_size-n-requires : goal.values_size-n-requires
values_size-n-requires c = ((fine_test _).0 (sym c.is_fine.ensures ∙ c.if-not-is_fine.false)).eight

pub overflow_add-n : goal.overflow_add-n
overflow_add-n c =
    let a = c.args in
    omega (
      arith,
      c.values_size-n.ensures,
      rest_short a.self.values.now,
      ((fine_test _).0
          (sym c.is_fine.ensures ∙ c.if-not-is_fine.false)).eight,
    )

pub returns-then-self-eq0 : goal.returns-then-self-eq0
returns-then-self-eq0 c =
    ap (λ (n : ℕ). n + 1) c.values_size-n.ensures ∙ size_bare _ _ _
    (sym c.is_fine.ensures ∙ c.if-not-is_fine.false) c.if-self-eq0.true

pub overflow_add-result : goal.overflow_add-result
overflow_add-result c =
    let a = c.args in
    omega (
      arith,
      c.values_size-n.ensures,
      rest_short a.self.values.now,
      ((fine_test _).0
          (sym c.is_fine.ensures ∙ c.if-not-is_fine.false)).eight,
    )

pub returns-else-self-eq0 : goal.returns-else-self-eq0
returns-else-self-eq0 c =
    ap (λ (n : ℕ). n + 1 + 1) c.values_size-n.ensures ∙ size_middle _ _ _
    (sym c.is_fine.ensures ∙ c.if-not-is_fine.false) c.if-self-eq0.false
