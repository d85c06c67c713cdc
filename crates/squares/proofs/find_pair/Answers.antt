-- What is made of the number at the character's place in its page is its pair (`pair_there`).
use mathlib.Core.Path.{◌∙◌}
use Rattle.squares.proofs.Pairs.{pair_there}
use Rattle.squares.proofs.NumbersExactly.{pair_kept}
use Rattle.squares.proofs.find_pair.Goals as goal

pub returns : goal.returns
returns c = pair_kept _ _ (c.pair_from.ensures ∙ pair_there _ _ c.pair_page-page.ensures)
