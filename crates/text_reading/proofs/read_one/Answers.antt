-- What stands there is no element, and is answered as it is (one_other); or it is: 9 where its words do not fit (one_short), else they are
-- written (one_fits).
use mathlib.Core.Path.{sym, ◌∙◌}
use Rattle.text_reading.proofs.Lone.{one_other, one_short, one_fits}
use Rattle.text_reading.proofs.read_one.Goals as goal

pub returns-in_default : goal.returns-in_default
returns-in_default c =
    let a = c.args in
    one_other a.form a.text.now a.at a.words.now _ c.read_element-step.ensures.0 c.in_default.not-Element
    c.step_answer.ensures c.reading_of.ensures

pub returns-then-words-size : goal.returns-then-words-size
returns-then-words-size c =
    let a = c.args in
    one_short a.form a.text.now a.at a.words.now _ _ _ (sym c.read_element-step.ensures.0 ∙ c.in-Element.is)
    c.words_in-size.ensures c.if-words-size.true c.short_room.ensures c.reading_of-then-words-size.ensures

pub returns : goal.returns
returns c =
    let a = c.args in
    one_fits a.form a.text.now a.at a.words.now _ _ _ (sym c.read_element-step.ensures.0 ∙ c.in-Element.is)
    c.words_in-size.ensures c.if-words-size.false c.put_words.ensures c.not_canonical.ensures c.reading_of-2.ensures
