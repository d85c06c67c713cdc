-- What the character's page has at its place is its octet (`spacing_there`), or 0 where it has none (`no_spacing`).
use Rattle.sorts.proofs.Spacings.{no_spacing, spacing_there}
use Rattle.sorts.proofs.NumbersExactly.{spacing_kept}
use Rattle.sorts.proofs.find_spacing.Goals as goal

pub returns-then-octet-eq0 : goal.returns-then-octet-eq0
returns-then-octet-eq0 c = spacing_kept _ _ (no_spacing _ _ c.spacing_page-page.ensures c.if-octet-eq0.true)

pub returns : goal.returns
returns c = spacing_kept _ _ (spacing_there _ _ c.spacing_page-page.ensures c.if-octet-eq0.false)
