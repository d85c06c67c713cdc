-- The octet, by the form: forms 1 and 2 have the character itself (`itself_eight`, `itself_seven`).
use mathlib.Core.Path.{sym, ap, ◌∙◌}
use Rattle.sorts.specs.declared.Form.{Form}
use Rattle.spelling.specs.SpellingGiven.{primary_octet}
use Rattle.spelling.proofs.SpellingWays.{itself_eight, itself_seven}
use Rattle.spelling.proofs.primary_octet.Goals as goal

pub returns-in-Eight : goal.returns-in-Eight
returns-in-Eight c =
    let a = c.args in
    c.ascii_itself.ensures ∙ itself_eight _ ∙ ap (λ (f : Form). primary_octet f a.c) (sym c.in-Eight.is)

pub returns-in-Seven : goal.returns-in-Seven
returns-in-Seven c =
    let a = c.args in
    c.ascii_itself-in-Seven.ensures ∙ itself_seven _ ∙ ap (λ (f : Form). primary_octet f a.c) (sym c.in-Seven.is)

pub returns-in-Basic : goal.returns-in-Basic
returns-in-Basic c =
    let a = c.args in
    c.primary_basic.ensures ∙ ap (λ (f : Form). primary_octet f a.c) (sym c.in-Basic.is)
