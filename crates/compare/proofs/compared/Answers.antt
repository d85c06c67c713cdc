-- No form (compared_none), the first text over the limit (first_over), the second (second_over), else what was read (both_within).
use mathlib.Core.Path.{sym}
use Rattle.compare.proofs.Answered.{compared_none, first_over, second_over, both_within}
use Rattle.compare.proofs.compared.Goals as goal

pub returns-in_default : goal.returns-in_default
returns-in_default c =
    let a = c.args in
    cc (compared_none a.form a.first.now a.second.now (sym c.in_default.ensures.0))

pub returns-then-first-gt-LIMIT : goal.returns-then-first-gt-LIMIT
returns-then-first-gt-LIMIT c =
    let a = c.args in
    let is_form = sym c.in-Ok.ensures.0 in
    cc (first_over a.form a.first.now a.second.now _ is_form c.if-first-gt-LIMIT.true)

pub returns-then-second-gt-LIMIT : goal.returns-then-second-gt-LIMIT
returns-then-second-gt-LIMIT c =
    let a = c.args in
    let is_form = sym c.in-Ok.ensures.0 in
    cc (second_over a.form a.first.now a.second.now _ is_form c.if-first-gt-LIMIT.false c.if-second-gt-LIMIT.true)

pub returns : goal.returns
returns c =
    let a = c.args in
    let is_form = sym c.in-Ok.ensures.0 in
    cc (both_within a.form a.first.now a.second.now _ is_form c.if-first-gt-LIMIT.false c.if-second-gt-LIMIT.false)
