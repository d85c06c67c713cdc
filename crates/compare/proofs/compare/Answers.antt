-- The part begins within its text (tail_inside).
use Prim.Native.Nat.{ℕ}
use mathlib.Core.Path.{◌≡◌, sym, subst}
use mathlib.Core.List.{List}
use native.Mathlib.Omega.{arith}
use Rattle.compare.specs.declared.Comparison.{Comparison}
use Rattle.compare.specs.Comparing.{comparison}
use Rattle.compare.proofs.Exactly.{TailInside, tail_inside}
use Rattle.compare.proofs.compare.Goals as goal

-- where the part begins
inside : (form : ℕ) (first second : List ℕ) {c : Comparison} → c ≡ comparison form first second → TailInside form first second c
inside form first second q = subst (TailInside form first second) (sym q) (tail_inside form first second)

pub slice_bounds-result-start : goal.slice_bounds-result-start
slice_bounds-result-start c =
    let h = (inside c.args.form c.args.first.now c.args.second.now c.compared-c.ensures).of_second c.if-c-eq2.true in omega (arith, h)

pub slice_bounds-result-count : goal.slice_bounds-result-count
slice_bounds-result-count c =
    let h = (inside c.args.form c.args.first.now c.args.second.now c.compared-c.ensures).of_second c.if-c-eq2.true in omega (arith, h)

pub slice_bounds-result-start-2 : goal.slice_bounds-result-start-2
slice_bounds-result-start-2 c =
    let h = (inside c.args.form c.args.first.now c.args.second.now c.compared-c.ensures).of_first c.if-c-eq2.false in omega (arith, h)

pub slice_bounds-result-count-2 : goal.slice_bounds-result-count-2
slice_bounds-result-count-2 c =
    let h = (inside c.args.form c.args.first.now c.args.second.now c.compared-c.ensures).of_first c.if-c-eq2.false in omega (arith, h)
