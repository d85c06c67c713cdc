-- Fewer than two octets are no pair (no_pair); else the pair is looked up (pair_here).
use native.Mathlib.Omega.{arith}
use lib.ListN.{drop, length-drop}
use Rattle.text_loops.proofs.RunsAndPairs.{no_pair, pair_here}
use Rattle.text_loops.proofs.pair_at.Goals as goal

pub returns-then-text-at-lt2 : goal.returns-then-text-at-lt2
returns-then-text-at-lt2 c =
    let a = c.args in
    no_pair _ _ (drop a.at a.text.now)
    (omega (arith, length-drop a.at a.text.now, c.if-text-at-lt2.true))

pub returns : goal.returns
returns c =
    let a = c.args in
    pair_here _ _ a.text.now a.at _ _ (omega (arith, c.if-text-at-lt2.false))
    c.code.ensures c.pair.ensures
