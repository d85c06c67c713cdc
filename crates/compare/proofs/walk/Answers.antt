-- The loop knows what both texts share up to its places (Walked): one element more (elements_same), or another one (elements_differ), or
-- the end of a text (first_ended, second_ended).
use native.Mathlib.Omega.{arith}
use mathlib.Core.Path.{sym, ◌∙◌}
use Rattle.compare.proofs.Walks.{Turned, first_ended, second_ended, both_stand, elements_differ, elements_same}
use Rattle.compare.proofs.walk.Goals as goal
use Rattle.compare.proofs.walk.Goals.{In-Some}

pub shared_at-requires : goal.shared_at-requires
shared_at-requires c =
    let a = c.args in
    both_stand a.reader.now a.first.now a.second.now c.loop-shared.invariant c.loop-shared-test.true c.if-shared-second.true

-- one element more
one_more : (c : In-Some)
    → Turned c.args.reader.now c.args.first.now c.args.second.now c.loop-shared.invariant c.loop-shared-test.true c.if-shared-second.true
    c.in-Some.more
one_more c =
    let a = c.args in
    elements_same a.reader.now a.first.now a.second.now c.loop-shared.invariant c.loop-shared-test.true c.if-shared-second.true c.in-Some.ensures

pub loop-shared-smaller : goal.loop-shared-smaller
loop-shared-smaller c =
    let t = one_more (goal.at.loop-shared-smaller c).In-Some in omega (arith, t.onward, t.walked.inside)

pub loop-shared-preserved : goal.loop-shared-preserved
loop-shared-preserved c = (one_more (goal.at.loop-shared-preserved c).In-Some).walked

pub returns-else-shared-second : goal.returns-else-shared-second
returns-else-shared-second c =
    let a = c.args in
    second_ended a.reader.now a.first.now a.second.now c.loop-shared.invariant c.if-shared-second.false

pub returns-after-loop-shared : goal.returns-after-loop-shared
returns-after-loop-shared c =
    let a = c.args in
    first_ended a.reader.now a.first.now a.second.now c.loop-shared.invariant c.loop-shared-test.false

pub returns-in_default : goal.returns-in_default
returns-in_default c =
    let a = c.args in
    elements_differ a.reader.now a.first.now a.second.now c.loop-shared.invariant c.loop-shared-test.true c.if-shared-second.true
    (sym c.in_default.is ∙ c.shared_at.ensures)
