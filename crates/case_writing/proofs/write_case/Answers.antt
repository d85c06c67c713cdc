-- `write_case` meets its contract: each way out is one law of WaysOut.
use mathlib.Core.Path.{sym, ◌∙◌}
use native.Mathlib.Omega.{arith}
use Rattle.case_writing.proofs.WaysOut.{no_form, unfit, short, written}
use Rattle.case_table.proofs.Laid.{table_length}
use Rattle.case_writing.proofs.write_case.Goals as goal

pub returns-in_default : goal.returns-in_default
returns-in_default c = no_form _ _ _ _ _ c.bare_answer.ensures (sym c.in_default.ensures.0)

pub returns-then-not-is_fitting : goal.returns-then-not-is_fitting
returns-then-not-is_fitting c =
    unfit _ _ _ _ _ (sym c.in-Ok.ensures.0) _ c.bare_answer-then-not-is_fitting.ensures
    (sym c.is_fitting.ensures.test ∙ c.if-not-is_fitting.true)

pub returns-then-case-size : goal.returns-then-case-size
returns-then-case-size c =
    short _ _ _ _ _ (sym c.in-Ok.ensures.0) (sym c.is_fitting.ensures.test ∙ c.if-not-is_fitting.false) _
    c.short_room.ensures c.if-case-size.true

pub put_all-requires : goal.put_all-requires
put_all-requires c =
    omega (arith, c.put_header-i.ensures.place, c.put_table-j.ensures.place, table_length c.args.lengths.now)

pub returns : goal.returns
returns c =
    written _ _ _ _ _ (sym c.in-Ok.ensures.0) (sym c.is_fitting.ensures.test ∙ c.if-not-is_fitting.false)
    c.if-case-size.false _ _ _ _ _ _ c.put_header-i.ensures c.put_table-j.ensures c.put_all.ensures
