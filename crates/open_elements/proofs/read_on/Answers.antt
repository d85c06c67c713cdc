-- Where no octet waits the piece is read alone (on_alone); an open element is read on (open_head_lem).
use mathlib.Core.Path.{sym, ◌∙◌}
use borrow.Author.Rules.{rules}
use Rattle.open_elements.proofs.Opened.{open_head_lem, on_alone}
use Rattle.open_elements.proofs.read_on.Goals as goal

pub returns-then-is_empty : goal.returns-then-is_empty
returns-then-is_empty c =
    let a = c.args in
    on_alone a.form a.waiting.now a.piece.now a.words.now (search rules) c.read_front.ensures

pub read_open-requires : goal.read_open-requires
read_open-requires c =
    let a = c.args in
    open_head_lem a.form a.waiting.now (sym c.is_open.ensures ∙ c.if-is_open.true) (search rules)
