-- Each way out is the canonical spelling: `spelt_primary`, `spelt_spacing`, `spelt_nowhere`, `spelt_pair`.
use mathlib.Core.Path.{ap, sym, ◌∙◌}
use Rattle.std.specs.Prelude.{Some}
use Rattle.spelling.proofs.SpellingWays.{spelt_primary, spelt_spacing, spelt_nowhere, spelt_pair}
use Rattle.spelling.proofs.SpellingFacts.{spelling_kept}
use Rattle.spelling.proofs.spell_in.Goals as goal

pub returns-in-Some : goal.returns-in-Some
returns-in-Some c = spelling_kept _ _ _ (spelt_primary _ _ _ (sym c.primary_octet.ensures ∙ c.in-Some.is))

pub returns-in-Some-find_spacing : goal.returns-in-Some-find_spacing
returns-in-Some-find_spacing c =
    spelling_kept _ _ _
    (c.spell_spacing.ensures ∙ spelt_spacing _ _ _
    (sym c.find_spacing.ensures.0 ∙ c.in-Some-find_spacing.is))

pub returns-in_err-mark : goal.returns-in_err-mark
returns-in_err-mark c =
    let no-primary = sym c.primary_octet.ensures ∙ c.in_default.is in
    let no_spacing = sym c.find_spacing.ensures.0 ∙ c.in_default-find_spacing.is in
    spelling_kept _ _ _
    (c.from_residual.ensures ∙ spelt_nowhere _ _ no-primary no_spacing (sym c.find_pair.ensures.0 ∙ c.in_err-mark.was))

pub returns : goal.returns
returns c =
    spelling_kept _ _ _
    (ap Some c.spell_pair.ensures
    ∙ (let no-primary = sym c.primary_octet.ensures ∙ c.in_default.is in
    let no_spacing = sym c.find_spacing.ensures.0 ∙ c.in_default-find_spacing.is in
    spelt_pair _ _ no-primary no_spacing _ _
    (sym c.find_pair.ensures.0 ∙ c.in_ok-mark.was)))
