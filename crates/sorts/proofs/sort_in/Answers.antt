-- `sort_in`, by the form: each form's own function answers it.
use mathlib.Core.Path.{◌∙◌, ap, sym}
use Rattle.sorts.specs.declared.Form.{Form}
use Rattle.sorts.specs.Sorts.{sort_in}
use Rattle.sorts.proofs.NumbersExactly.{sort_kept}
use Rattle.sorts.proofs.sort_in.Goals as goal

pub returns-in-Eight : goal.returns-in-Eight
returns-in-Eight c =
    sort_kept _ _ _
    (c.sort_eight.ensures ∙ ap (λ (f : Form). sort_in f c.args.octet) (sym c.in-Eight.is))

pub returns-in-Seven : goal.returns-in-Seven
returns-in-Seven c =
    sort_kept _ _ _
    (c.sort_seven.ensures ∙ ap (λ (f : Form). sort_in f c.args.octet) (sym c.in-Seven.is))

pub returns-in-Basic : goal.returns-in-Basic
returns-in-Basic c =
    sort_kept _ _ _
    (c.sort_basic.ensures ∙ ap (λ (f : Form). sort_in f c.args.octet) (sym c.in-Basic.is))
