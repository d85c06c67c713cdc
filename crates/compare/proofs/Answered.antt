-- The answer of comparing, by what was read of each text: the way from what the functions know to the definition that is promised.
-- Assumes nothing.
use Prim.Native.Nat.{ℕ, ◌≤◌, ◌<◌}
use mathlib.Core.Path.{◌≡◌, refl, sym, ap, ap₂, ◌∙◌}
use mathlib.Core.List.{List}
use native.Mathlib.Omega.{arith}
use lib.ListN.{length}
use borrow.Author.Tests.{lt-ltb, le-ltb}
use Rattle.run.specs.Head.{Outcome, accepted, refusal}
use Rattle.run.specs.Tagged.{untag}
use Rattle.run.specs.declared.Answer.{Answer}
use Rattle.run.specs.Answers.{answer, bare, count_of, roomy_answer}
use Rattle.run.proofs.Outcomes as outcomes
use Rattle.sorts.specs.declared.Form.{Form}
use Rattle.std.specs.Prelude.{Some, None}
use Rattle.sorts.specs.Forms.{form_of}
use Rattle.element_words.specs.Words.{words_of}
use Rattle.text_loops.specs.declared.Measured.{Measured}
use Rattle.text_loops.specs.Fronts.{measured}
use Rattle.text_reading.specs.ReadingNumbers.{limit}
use Rattle.text_reading.proofs.Edges.{no_form, a_form, over, within}
use Rattle.compare.specs.declared.Shared.{Shared}
use Rattle.compare.specs.WhatChanged.{refused_by, same_of, differ_at}
use Rattle.compare.specs.Comparing.{Segment, segments_in, told_by, by_readings, compared_in, comparison}
use Rattle.compare.specs.Walking.{ReadThrough, shared_by, shared_in}
use Rattle.compare.proofs.Segments.{segments_read, read_segments}

-- ---- what was read of a text

-- a text is refused, and the answer of measuring it says how
pub record Refused (f : Form) (text : List ℕ) (a : Answer) : Type 0 where
  pub number : ℕ
  pub element : ℕ
  pub place : ℕ
  pub deciding : ℕ
  pub reads : segments_in f text ≡ refusal number element place deciding
  pub answers : a ≡ answer number element place (count_of number deciding)

module _ (f : Form) (text : List ℕ) {m : Measured} (q : m ≡ measured f text) where
  answered : (x : Outcome Segment) → segments_in f text ≡ x → m.answer ≡ roomy_answer words_of (length text) (untag x)
  answered x e = ap (λ (n : Measured). n.answer) q ∙ ap (roomy_answer words_of (length text)) (sym (read_segments f text) ∙ ap untag e)

  pub accepted_text : m.answer.number ≡ 0 → ReadThrough f text
  accepted_text z = go (segments_in f text) refl
    where
      go : (x : Outcome Segment) → segments_in f text ≡ x → ReadThrough f text
      go (accepted xs) e = record { segments = xs; reads = e }
      go (refusal r n p d) e =
          let z' = sym (ap (λ (a : Answer). a.number) (answered (refusal r n p d) e)) ∙ z in
          absurd (omega (arith, (outcomes.placed (segments_read f) text r n p d e).number))

  pub refused_text : (m.answer.number ≡ 0 → ⊥) → Refused f text m.answer
  refused_text z = go (segments_in f text) refl
    where
      go : (x : Outcome Segment) → segments_in f text ≡ x → Refused f text m.answer
      go (accepted xs) e = absurd (z (ap (λ (a : Answer). a.number) (answered (accepted xs) e)))
      go (refusal r n p d) e =
          record { number = r; element = n; place = p; deciding = d; reads = e; answers = answered (refusal r n p d) e }

-- ---- by what two accepted texts share: the first goes on, the second does, or neither

pub told_first : (s : Shared) (first second : ℕ) → s.first < first
    → differ_at s.elements s.first s.second 1 s.first ≡ told_by s first second
told_first s first second h = sym (simp (lt-ltb s.first first h))

pub told_second : (s : Shared) (first second : ℕ) → first ≤ s.first → s.second < second
    → differ_at s.elements s.first s.second 2 s.second ≡ told_by s first second
told_second s first second h l = sym (simp (le-ltb s.first first h, lt-ltb s.second second l))

pub told_same : (s : Shared) (first second : ℕ) → first ≤ s.first → second ≤ s.second
    → same_of s.elements s.first s.second s.otherwise ≡ told_by s first second
told_same s first second h l = sym (simp (le-ltb s.first first h, le-ltb s.second second l))

-- ---- two texts of a form

module _ (f : Form) (first second : List ℕ) where
  pub first_refused : {a : Answer} → Refused f first a → refused_by a 1 (length first) ≡ compared_in f first second
  first_refused r =
      ap (λ (x : Answer). refused_by x 1 (length first)) r.answers
      ∙ sym (ap (λ (x : Outcome Segment). by_readings (length first) (length second) x (segments_in f second)) r.reads)

  pub second_refused : {a : Answer} → ReadThrough f first → Refused f second a → refused_by a 2 (length first) ≡ compared_in f first second
  second_refused m r =
      ap (λ (x : Answer). refused_by x 2 (length first)) r.answers
      ∙ sym (ap₂ (by_readings (length first) (length second)) m.reads r.reads)

  pub both_read : ReadThrough f first → ReadThrough f second
      → told_by (shared_in f first second) (length first) (length second) ≡ compared_in f first second
  both_read m k =
      ap₂ (λ (x y : Outcome Segment). told_by (shared_by x y) (length first) (length second)) m.reads k.reads
      ∙ sym (ap₂ (by_readings (length first) (length second)) m.reads k.reads)

-- ---- at the public edge

module _ (form : ℕ) (first second : List ℕ) where
  pub compared_none : form_of form ≡ None → refused_by (bare 11) 0 (length first) ≡ comparison form first second
  unfolding comparison
  compared_none q = no_form _ _ _ q

  pub first_over : (f : Form) → form_of form ≡ Some f → limit < length first
      → refused_by (bare 12) 1 (length first) ≡ comparison form first second
  unfolding comparison
  first_over f q h = a_form _ _ _ _ _ q (over first _ _ h)

  pub second_over : (f : Form) → form_of form ≡ Some f → length first ≤ limit → limit < length second
      → refused_by (bare 12) 2 (length first) ≡ comparison form first second
  unfolding comparison
  second_over f q l h = a_form _ _ _ _ _ q (over second _ _ h ∙ within first _ _ l)

  pub both_within : (f : Form) → form_of form ≡ Some f → length first ≤ limit → length second ≤ limit
      → compared_in f first second ≡ comparison form first second
  unfolding comparison
  both_within f q l h = a_form _ _ _ _ _ q (within second _ _ h ∙ within first _ _ l)
