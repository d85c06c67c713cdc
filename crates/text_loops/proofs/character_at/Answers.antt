-- By the table a spacing character (spacing_stands) and a pair (pair_stands), and by its sort any other spacing character (graphic_told).
use mathlib.Core.Path.{sym, ◌∙◌}
use Rattle.text_loops.proofs.Steps.{graphic_told}
use Rattle.text_loops.proofs.RunsAndPairs.{spacing_stands, pair_stands}
use Rattle.text_loops.proofs.character_at.Goals as goal

pub returns-then-code-lt-NO_CHARACTER : goal.returns-then-code-lt-NO_CHARACTER
returns-then-code-lt-NO_CHARACTER c = spacing_stands _ _ _ _ c.requires c.code-code.ensures c.if-code-lt-NO_CHARACTER.true

pub returns-then-pair-ge-PAIRS_FROM : goal.returns-then-pair-ge-PAIRS_FROM
returns-then-pair-ge-PAIRS_FROM c = pair_stands _ _ _ _ c.pair_at-pair.ensures c.if-pair-ge-PAIRS_FROM.true

pub returns : goal.returns
returns c =
    let sort = rw c.form.ensures at c.sort_in.ensures.0 in
    let canonical = rw c.form-2.ensures at c.word_is_canonical.ensures in
    graphic_told _ _ _ _ _ c.requires (sym c.in-Graphic.is ∙ sort) canonical
