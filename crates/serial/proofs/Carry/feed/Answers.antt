-- No form, or a carry that no feeding could have left, is 11 (edge_none, edge_nobodys, edge_nobodys_stopped); a page that stopped
-- repeats its answer (edge_repeats); past the limit is 12 (edge_past); else what reading the piece promises (edge_within).
use mathlib.Core.Path.{sym, ap, ◌∙◌}
use native.Mathlib.Omega.{arith}
use borrow.Author.Rules.{rules}
use Rattle.run.specs.declared.Answer.{Answer}
use Rattle.serial.specs.Feeding.{kept_by, stopped_by}
use Rattle.serial.proofs.Edges.{edge_none, edge_repeats, edge_nobodys_stopped, edge_nobodys, edge_past, edge_within}
use Rattle.serial.proofs.Could.{could_go_exactly}
use Rattle.serial.proofs.Carry.feed.Goals as goal

pub returns-in_default : goal.returns-in_default
returns-in_default c =
    let a = c.args in
    edge_none a.self a.piece.now a.ended a.words.now
    (c.kept.ensures ∙ ap (kept_by a.self) c.bare_answer.ensures)
    (sym c.in_default.ensures.0)

pub returns-then-could_stop : goal.returns-then-could_stop
returns-then-could_stop c =
    let is_form = sym c.in-Ok.ensures.0 in
    let a = c.args in
    edge_repeats a.self a.piece.now a.ended a.words.now is_form c.if-self-ne0.true
    c.handed.ensures (sym c.could_stop.ensures ∙ c.if-could_stop.true)

pub returns-then-self-ne0 : goal.returns-then-self-ne0
returns-then-self-ne0 c =
    let is_form = sym c.in-Ok.ensures.0 in
    let a = c.args in
    edge_nobodys_stopped a.self a.piece.now a.ended a.words.now is_form
    c.if-self-ne0.true
    (c.kept-then-self-ne0.ensures ∙ ap (kept_by a.self) c.bare_answer-then-self-ne0.ensures)
    (sym c.could_stop.ensures ∙ c.if-could_stop.false)

pub returns-then-not-could_go : goal.returns-then-not-could_go
returns-then-not-could_go c =
    let is_form = sym c.in-Ok.ensures.0 in
    let a = c.args in
    edge_nobodys a.self a.piece.now a.ended a.words.now is_form c.if-self-ne0.false
    (c.kept-then-not-could_go.ensures ∙ ap (kept_by a.self) c.bare_answer-then-not-could_go.ensures)
    (sym c.could_go.ensures ∙ c.if-not-could_go.true)

pub returns-then-so_far-piece : goal.returns-then-so_far-piece
returns-then-so_far-piece c =
    let is_form = sym c.in-Ok.ensures.0 in
    let a = c.args in
    edge_past a.self a.piece.now a.ended a.words.now is_form c.if-self-ne0.false (search rules)
    (c.stop.ensures ∙ ap (λ (x : Answer). stopped_by a.self.form x 0 0) c.bare_answer-then-so_far-piece.ensures)
    (omega arith)

pub returns : goal.returns
returns c =
    let is_form = sym c.in-Ok.ensures.0 in
    let a = c.args in
    let could_be = sym c.could_go.ensures ∙ c.if-not-could_go.false in
    let within = ((could_go_exactly c.in-Ok.form a.self).0 could_be).within in
    edge_within a.self a.piece.now a.ended a.words.now is_form c.if-self-ne0.false could_be c.feed_in.ensures (omega arith)
