-- Two copies, the second behind the first (gathered_both).
use Prim.Native.Nat.{ℕ}
use mathlib.Core.Path.{ap, ◌∙◌, subst}
use mathlib.Core.List.{List}
use lib.ListN.{drop}
use Rattle.run.proofs.Puts.{behind}
use Rattle.open_elements.specs.Steps.{Gathered}
use Rattle.open_elements.proofs.Gathering.{gathered_both}
use Rattle.open_elements.proofs.gather.Goals as goal

pub returns : goal.returns
returns c =
    let a = c.args in
    let rest = c.octets_from-rest.ensures ∙ ap (λ (n : ℕ). drop n a.piece.now) c.saturating_sub.ensures in
    gathered_both a.waiting.now a.piece.now a.from
    (subst (λ (l : List ℕ). Gathered l 0 a.into.now c.copy-size.result c.copy-size.new.into) c.octets_from.ensures c.copy-size.ensures)
    (subst (λ (l : List ℕ). Gathered l 0 (behind c.copy-size.new.into c.copy-size.result) c.copy.result c.copy.new.into) rest c.copy.ensures)
