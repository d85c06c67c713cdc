-- `shifted_in`, by the form: a form without SS2 has nothing after it.
use mathlib.Core.Path.{◌∙◌, ap, sym}
use Rattle.sorts.specs.declared.Form.{Form}
use Rattle.sorts.specs.Sorts.{shifted_in}
use Rattle.sorts.proofs.NumbersExactly.{shifted_kept}
use Rattle.sorts.proofs.sort_shifted.Goals as goal

pub returns-in-Eight : goal.returns-in-Eight
unfolding shifted_in
returns-in-Eight c =
    let a = c.args in
    shifted_kept a.form a.octet _ (ap (λ (f : Form). shifted_in f a.octet) (sym c.in-Eight.is))

pub returns-in-Seven : goal.returns-in-Seven
returns-in-Seven c =
    shifted_kept _ _ _ (c.shifted_seven.ensures ∙ ap (λ (f : Form). shifted_in f c.args.octet)
    (sym c.in-Seven.is))

pub returns-in-Basic : goal.returns-in-Basic
unfolding shifted_in
returns-in-Basic c =
    let a = c.args in
    shifted_kept a.form a.octet _ (ap (λ (f : Form). shifted_in f a.octet) (sym c.in-Basic.is))
