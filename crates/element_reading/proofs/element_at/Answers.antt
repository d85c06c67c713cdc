-- By the sort of the first octet (graphic_here, first_here, control_here, refused_here), and at the end that none is left (none_left).
-- A spacing character behind CC or SS2 has at most sixteen bits (graphic_small, shifted_graphic_small).
use mathlib.Core.Path.{◌≡◌, sym, ◌∙◌}
use native.Mathlib.Omega.{arith}
use Rattle.std.proofs.Common.{rules}
use Rattle.sorts.specs.declared.Sort.TheVariants.{Graphic}
use Rattle.sorts.specs.Sorts.{sort_in, shifted_in}
use Rattle.sorts.proofs.SortFacts.{graphic_small, shifted_graphic_small}
use Rattle.element_reading.specs.ElementHead.{shifted_head, underlined_head}
use Rattle.element_reading.proofs.Steps.{none_left, graphic_here, first_here, control_here, refused_here}
use Rattle.element_reading.proofs.Steps.{follower_behind, sequence_first}
use Rattle.element_reading.proofs.NumbersExactly.{step_kept}
use Rattle.element_reading.proofs.element_at.Goals as goal

pub returns-then-text-at : goal.returns-then-text-at
returns-then-text-at c = step_kept _ _ _ _ (none_left _ _ _ c.if-text-at.true)

pub returns-in-Graphic : goal.returns-in-Graphic
returns-in-Graphic c =
    step_kept _ _ _ _
    (graphic_here _ _ _ _ _ c.if-text-at.false (sym c.sort_in-sort.ensures.0 ∙ c.in-Graphic.is)
    c.word_is_canonical.ensures)

pub returns-in-Mark : goal.returns-in-Mark
returns-in-Mark c =
    step_kept _ _ _ _
    (c.follower_step.ensures ∙ follower_behind _ _ _ 1 _ _ ∙ first_here _ _ _ _ c.if-text-at.false
    (sym c.sort_in-sort.ensures.0 ∙ c.in-Mark.is))

pub second_step-requires-clause-small : goal.second_step-requires-clause-small
second_step-requires-clause-small c o d e =
    let q : Graphic d ≡ sort_in c.args.form o = search rules in
    omega (arith, graphic_small _ _ _ (sym q))

pub second_step-requires-in-Shift-clause-small : goal.second_step-requires-in-Shift-clause-small
second_step-requires-in-Shift-clause-small c o d e =
    let q : Graphic d ≡ shifted_in c.args.form o = search rules in
    shifted_graphic_small _ _ _ (sym q)

pub returns-in-Underline : goal.returns-in-Underline
unfolding underlined_head
returns-in-Underline c =
    step_kept _ _ _ _
    (c.second_step.ensures (sort_in c.args.form) (λ o s e. search rules) ∙ first_here _ _ _ _ c.if-text-at.false
    (sym c.sort_in-sort.ensures.0 ∙ c.in-Underline.is))

pub returns-in-Shift : goal.returns-in-Shift
unfolding shifted_head
returns-in-Shift c =
    step_kept _ _ _ _
    (c.second_step-in-Shift.ensures (shifted_in c.args.form) (λ o s e. search rules) ∙ first_here _ _ _ _ c.if-text-at.false
    (sym c.sort_in-sort.ensures.0 ∙ c.in-Shift.is))

pub returns-in-Control : goal.returns-in-Control
returns-in-Control c =
    step_kept _ _ _ _
    (control_here _ _ _ _ _ c.if-text-at.false (sym c.sort_in-sort.ensures.0 ∙ c.in-Control.is) (omega arith)
    c.word_is_canonical-in-Control.ensures)

pub returns-in-SequenceStart : goal.returns-in-SequenceStart
returns-in-SequenceStart c =
    step_kept _ _ _ _
    (c.sequence_step.ensures _ ∙ sequence_first _ _ _ c.if-text-at.false ∙ first_here _ _ _ _ c.if-text-at.false
    (sym c.sort_in-sort.ensures.0 ∙ c.in-SequenceStart.is))

pub returns-in-Refused : goal.returns-in-Refused
returns-in-Refused c =
    step_kept _ _ _ _
    (c.refused_at.ensures ∙ refused_here _ _ _ _ c.if-text-at.false (sym c.sort_in-sort.ensures.0 ∙ c.in-Refused.is))
