-- A spacing character (one_octet), a mark (two_octets), or what is read (by_step); it is never none (never).
use mathlib.Core.Path.{sym, ◌∙◌}
use Rattle.compare.proofs.Sizes.{within, one_octet, two_octets, never, by_step}
use Rattle.compare.proofs.size_at.Goals as goal

pub bounds-text-at : goal.bounds-text-at
bounds-text-at c = within c.args.reader.now c.args.text.now c.args.at c.requires

pub returns-then-code-lt-NO_CHARACTER : goal.returns-then-code-lt-NO_CHARACTER
returns-then-code-lt-NO_CHARACTER c =
    let a = c.args in
    one_octet a.reader.now a.text.now a.at c.requires _ c.code-code.ensures c.if-code-lt-NO_CHARACTER.true

pub returns-then-code-lt-NEITHER : goal.returns-then-code-lt-NEITHER
returns-then-code-lt-NEITHER c =
    let a = c.args in
    two_octets a.reader.now a.text.now a.at c.requires _ c.code-code.ensures c.if-code-lt-NO_CHARACTER.false
    c.if-code-lt-NEITHER.true

pub returns-in_default : goal.returns-in_default
returns-in_default c =
    absurd (never c.args.reader.now c.args.text.now c.args.at c.requires _ (rw c.form.ensures at c.element_at.ensures.0)
    c.in_default.not-Element)

pub returns : goal.returns
returns c =
    (by_step c.args.reader.now c.args.text.now c.args.at _ _ _ (sym (rw c.form.ensures at c.element_at.ensures.0) ∙ c.in-Element.is)).1
