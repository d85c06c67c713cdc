-- The same spacing character (character_at), the same octets (same_here), and else the two elements that are read: another one
-- (differ_at_lem), or the same, spelled otherwise (otherwise_at).
use Prim.Native.Nat.{◌-◌, ◌≤◌}
use mathlib.Core.Path.{◌≡◌, sym, ap, ◌∙◌}
use native.Mathlib.Omega.{arith}
use lib.ListN.{drop}
use Rattle.std.proofs.Common.{Some, rules}
use Rattle.compare.specs.Comparing.{shared_of}
use Rattle.compare.specs.Walking.{shared_here}
use Rattle.compare.proofs.Sizes.{within, one_octet, never, size_inside}
use Rattle.compare.proofs.Walks.{same_here, character_at, differ_at_lem, otherwise_at}
use Rattle.compare.proofs.shared_at.Goals as goal
use Rattle.compare.proofs.shared_at.Goals.{Else-ne}

pub bounds-first-i : goal.bounds-first-i
bounds-first-i c = within c.args.reader.now c.args.first.now c.args.i c.requires.0

pub bounds-second-j : goal.bounds-second-j
bounds-second-j c = within c.args.reader.now c.args.second.now c.args.j c.requires.1

pub returns-then-code-lt-NO_CHARACTER : goal.returns-then-code-lt-NO_CHARACTER
returns-then-code-lt-NO_CHARACTER c =
    let a = c.args in
    let p = c.requires in
    ap Some c.alike.ensures
    ∙ character_at a.reader.now a.first.now a.second.now a.i a.j (within a.reader.now a.first.now a.i p.0)
    (within a.reader.now a.second.now a.j p.1) c.if-octet-second.true
    (one_octet a.reader.now a.first.now a.i p.0 c.code.result c.code.ensures c.if-code-lt-NO_CHARACTER.true)

pub same_octets-requires : goal.same_octets-requires
same_octets-requires c =
    let a = c.args in (
      size_inside a.reader.now a.first.now a.i (within a.reader.now a.first.now a.i c.requires.0) c.in_ok-size.ensures,
      omega (arith, within a.reader.now a.second.now a.j c.requires.1),
    )

pub returns-then-same_octets : goal.returns-then-same_octets
returns-then-same_octets c =
    let a = c.args in
    ap Some c.alike-then-same_octets.ensures
    ∙ same_here a.reader.now (drop a.i a.first.now) (drop a.j a.second.now) c.in_ok-size.ensures
    (c.same_octets.ensures.0 c.if-same_octets.true)

pub returns-in_default : goal.returns-in_default
returns-in_default c =
    absurd (never c.args.reader.now c.args.first.now c.args.i c.requires.0 _ (rw c.form.ensures at c.element_at.ensures.0)
    c.in_default.not-Element)

pub returns-in_default-element_at : goal.returns-in_default-element_at
returns-in_default-element_at c =
    absurd (never c.args.reader.now c.args.second.now c.args.j c.requires.1 _ (rw c.form-2.ensures at c.element_at-2.ensures.0)
    c.in_default-element_at.not-Element)

pub returns-then-ne : goal.returns-then-ne
returns-then-ne c =
    let a = c.args in
    differ_at_lem a.reader.now a.first.now a.second.now a.i a.j
    (sym (rw c.form.ensures at c.element_at.ensures.0) ∙ c.in-Element.is) (sym (rw c.form-2.ensures at c.element_at-2.ensures.0) ∙ c.in-Element-element_at.is)
    (λ e. search rules)

-- the same element, spelled otherwise
the_same : (c : Else-ne)
    → (c.args.i ≤ c.in-Element.next)
    × (c.args.j ≤ c.in-Element-element_at.after)
    × (Some (shared_of 1 (c.in-Element.next - c.args.i) (c.in-Element-element_at.after - c.args.j) 1)
    ≡ shared_here c.args.reader.now (drop c.args.i c.args.first.now) (drop c.args.j c.args.second.now))
the_same c =
    let a = c.args in
    otherwise_at a.reader.now a.first.now a.second.now a.i a.j
    (sym (rw c.form.ensures at c.element_at.ensures.0) ∙ c.in-Element.is) (sym (rw c.form-2.ensures at c.element_at-2.ensures.0) ∙ c.in-Element-element_at.is)
    c.in_ok-size.ensures (search rules) (search rules)

pub overflow_sub-result : goal.overflow_sub-result
overflow_sub-result c = (the_same (goal.at.overflow_sub-result c).Else-ne).0

pub returns : goal.returns
returns c = (the_same (goal.at.returns c).Else-ne).2
