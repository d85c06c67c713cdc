-- The first text is refused (first_refused), the second is (second_refused), or both are read (both_read).
use Rattle.compare.proofs.Answered.{accepted_text, refused_text, first_refused, second_refused, both_read}
use Rattle.compare.proofs.compared_in.Goals as goal

pub returns-then-a-ne0 : goal.returns-then-a-ne0
returns-then-a-ne0 c =
    let a = c.args in
    cc (first_refused a.form a.first.now a.second.now (refused_text a.form a.first.now c.measure_front.ensures c.if-a-ne0.true))

pub returns-then-b-ne0 : goal.returns-then-b-ne0
returns-then-b-ne0 c =
    let a = c.args in
    let one = accepted_text a.form a.first.now c.measure_front.ensures c.if-a-ne0.false in
    cc (second_refused a.form a.first.now a.second.now one (refused_text a.form a.second.now c.measure_front-2.ensures c.if-b-ne0.true))

pub walk-shared-requires : goal.walk-shared-requires
walk-shared-requires c =
    let a = c.args in
    let form = c.of_form.ensures in (
      rw form (accepted_text a.form a.first.now c.measure_front.ensures c.if-a-ne0.false),
      rw form (accepted_text a.form a.second.now c.measure_front-2.ensures c.if-b-ne0.false),
    )

pub returns : goal.returns
returns c =
    let a = c.args in
    let one = accepted_text a.form a.first.now c.measure_front.ensures c.if-a-ne0.false in
    let two = accepted_text a.form a.second.now c.measure_front-2.ensures c.if-b-ne0.false in
    cc (both_read a.form a.first.now a.second.now one two)
