-- `is_fitting` meets its contract: each way out, by what was asked before it; and fitting lengths are few and short.
use mathlib.Core.Path.{sym, ◌∙◌}
use native.Mathlib.Omega.{arith}
use Rattle.case_writing.proofs.Parts.{over_many, over_long, adds_up, fits, fits_small}
use Rattle.case_writing.proofs.is_fitting.Goals as goal

pub returns-then-lengths-gt256-clause-test : goal.returns-then-lengths-gt256-clause-test
returns-then-lengths-gt256-clause-test c = over_many _ _ (omega arith)

pub returns-then-are_short-clause-test : goal.returns-then-are_short-clause-test
returns-then-are_short-clause-test c =
    adds_up _ _ (omega arith) _ c.are_short.ensures c.if-are_short.true _ c.total_of.ensures

pub returns-then-are_short-clause-short : goal.returns-then-are_short-clause-short
returns-then-are_short-clause-short c w = (fits _ _ (sym (returns-then-are_short-clause-test c) ∙ w)).short

pub returns-then-are_short-clause-small : goal.returns-then-are_short-clause-small
returns-then-are_short-clause-small c w = fits_small _ _ (fits _ _ (sym (returns-then-are_short-clause-test c) ∙ w))

pub returns-else-are_short-clause-test : goal.returns-else-are_short-clause-test
returns-else-are_short-clause-test c = over_long _ _ (omega arith) _ c.are_short.ensures c.if-are_short.false
