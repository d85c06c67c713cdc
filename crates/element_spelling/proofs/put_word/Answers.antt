-- All of the spelling where there is room for it, after CC if underlined (after_put, bare_put); else nothing (none_put, after_short, ..).
use mathlib.Core.Path.{sym, ◌∙◌}
use native.Mathlib.Omega.{arith}
use Rattle.spelling.specs.CanonicalSpelling.{octets_of}
use Rattle.element_spelling.specs.ElementOctets.{spell_word}
use Rattle.element_spelling.proofs.Steps.{one_more, no_place, none_put, bare_short, bare_put, after_short, after_put, after_room}
use Rattle.element_spelling.proofs.put_word.Goals as goal

pub returns-in_default : goal.returns-in_default
returns-in_default c = let a = c.args in none_put a.form a.w (sym c.word_spelling.ensures ∙ c.in_default.is) _ _

pub returns-then-out-at : goal.returns-then-out-at
returns-then-out-at c =
    let a = c.args in
    no_place _ _ (spell_word a.form a.w) c.if-out-at.true

pub overflow_add-n : goal.overflow_add-n
overflow_add-n c = omega (arith, one_more c.in-Some.x _ c.octets_in-n.ensures)

pub returns-then-room-n : goal.returns-then-room-n
returns-then-room-n c =
    let a = c.args in
    after_short a.form a.w _ _ c.octets_in-n.ensures (sym c.word_spelling.ensures ∙ c.in-Some.is)
    (sym c.is_underlined.ensures ∙ c.if-is_underlined.true)
    _ _ c.if-out-at.false c.if-room-n.true

pub put_octets-requires : goal.put_octets-requires
put_octets-requires c =
    after_room _ (octets_of c.in-Some.x) c.octets_in-n.ensures
    c.if-out-at.false (omega arith)
    c.put-i.ensures

pub returns-then-is_underlined : goal.returns-then-is_underlined
returns-then-is_underlined c =
    let a = c.args in
    after_put a.form a.w _ _ c.octets_in-n.ensures (sym c.word_spelling.ensures ∙ c.in-Some.is)
    (sym c.is_underlined.ensures ∙ c.if-is_underlined.true)
    c.if-out-at.false (omega arith) c.put-i.ensures
    c.put_octets.ensures

pub returns-then-room-n-2 : goal.returns-then-room-n-2
returns-then-room-n-2 c =
    let a = c.args in
    bare_short a.form a.w _ _ c.octets_in-n.ensures (sym c.word_spelling.ensures ∙ c.in-Some.is)
    (sym c.is_underlined.ensures ∙ c.if-is_underlined.false)
    _ _ c.if-out-at.false c.if-room-n-2.true

pub returns : goal.returns
returns c =
    let a = c.args in
    bare_put a.form a.w _ _ c.octets_in-n.ensures (sym c.word_spelling.ensures ∙ c.in-Some.is)
    (sym c.is_underlined.ensures ∙ c.if-is_underlined.false)
    c.if-out-at.false (omega arith) c.put_octets-2.ensures
