-- No form is 11 (asked_none), over the limit is 12 (asked_over), else what reading in the form promises (asked_within):
-- a refusal (whole_refused), 9 (whole_short), or all (whole_roomy); with the fifth number (carried), or 0.
use mathlib.Core.Path.{sym, ap, ◌∙◌}
use native.Mathlib.Omega.{arith}
use Rattle.text_loops.specs.declared.Measured.{Measured}
use Rattle.text_reading.specs.ReadAnswers.{read_answer, read_words, respelled_in}
use Rattle.text_reading.proofs.Wholes.{whole_refused, whole_short, whole_roomy}
use Rattle.text_reading.proofs.Edges.{a_form, asked_none, asked_over, asked_within}
use Rattle.text_reading.proofs.Edges.{carried_bare, carried_nine, carried_refused, carried}
use Rattle.text_reading.proofs.read.Goals as goal

pub returns-in_default : goal.returns-in_default
unfolding read_answer read_words
returns-in_default c =
    let a = c.args in
    let asked =
    asked_none _ a.text.now _ _ _ c.bare_answer.ensures
    (sym c.in_default.ensures.0) in
    (carried_bare _ _ _ _ c.reading_of.ensures c.bare_answer.ensures (omega arith) asked.0, asked.1)

pub returns-then-text-gt-LIMIT : goal.returns-then-text-gt-LIMIT
unfolding read_answer read_words
returns-then-text-gt-LIMIT c =
    let is_form = sym c.in-Ok.ensures.0 in
    let a = c.args in
    let asked = asked_over _ a.text.now _ _ _ c.bare_answer-then-text-gt-LIMIT.ensures is_form c.if-text-gt-LIMIT.true in
    (carried_bare _ _ _ _ c.reading_of-then-text-gt-LIMIT.ensures c.bare_answer-then-text-gt-LIMIT.ensures (omega arith) asked.0, asked.1)

pub returns-then-m-ne0 : goal.returns-then-m-ne0
unfolding read_answer read_words
returns-then-m-ne0 c =
    let is_form = sym c.in-Ok.ensures.0 in
    let a = c.args in
    let w = whole_refused _ _ _ c.read_front-m.ensures c.if-m-ne0.true in
    let asked = asked_within _ a.text.now _ _ _ w is_form c.if-text-gt-LIMIT.false in
    (carried_refused _ _ _ _ c.reading_of-then-m-ne0.ensures c.if-m-ne0.true asked.0, asked.1)

pub returns-then-words-m : goal.returns-then-words-m
unfolding read_answer read_words
returns-then-words-m c =
    let is_form = sym c.in-Ok.ensures.0 in
    let a = c.args in
    let w = whole_short _ _ _ c.read_front-m.ensures c.if-m-ne0.false c.if-words-m.true in
    let asked = asked_within _ a.text.now _ _ _ (c.short_room.ensures ∙ w.0, w.1) is_form c.if-text-gt-LIMIT.false in
    (carried_nine _ _ _ _ c.reading_of-then-words-m.ensures c.short_room.ensures asked.0, asked.1)

pub returns : goal.returns
unfolding read_answer read_words respelled_in
returns c =
    let is_form = sym c.in-Ok.ensures.0 in
    let a = c.args in
    let w = whole_roomy _ _ _ c.read_front-m.ensures c.if-m-ne0.false (omega arith) in
    let asked = asked_within _ a.text.now _ _ _ w is_form c.if-text-gt-LIMIT.false in
    let k = ap (λ (m : Measured). m.respelled) c.read_front-m.ensures.0 in
    (carried _ _ _ _ c.reading_of-2.ensures asked.0 (a_form _ _ _ _ _ is_form k), asked.1)
