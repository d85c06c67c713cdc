-- `spell_spacing`, by the form, as it is defined.
use mathlib.Core.Path.{sym, ap, ◌∙◌}
use Rattle.sorts.specs.declared.Form.{Form}
use Rattle.spelling.specs.SpellingGiven.{spell_spacing}
use Rattle.spelling.proofs.spell_spacing.Goals as goal

pub returns-in-Eight : goal.returns-in-Eight
unfolding spell_spacing
returns-in-Eight c = rw c.in-Eight.is

pub returns-in-Seven : goal.returns-in-Seven
unfolding spell_spacing
returns-in-Seven c = rw c.in-Seven.is

pub returns-in-Basic : goal.returns-in-Basic
returns-in-Basic c =
    c.spacing_basic.ensures ∙ ap (λ (f : Form). spell_spacing f c.args.octet)
    (sym c.in-Basic.is)
