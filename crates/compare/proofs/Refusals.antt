-- Refusals exactly by the order of document 02, No. 4: "11 and 12 as before, then the first text's reading refusal, then the second's, with
-- which text it was", with the numbers of `read`.
-- Assumes nothing.
use Prim.Native.Nat.{ℕ, ◌≤◌, ◌<◌}
use mathlib.Core.Path.{◌≡◌, refl, sym, ap, ◌∙◌, subst}
use mathlib.Core.Logic.{◌↔◌}
use mathlib.Core.Bool.{Bool, true, false}
use mathlib.Core.List.{List}
use native.Mathlib.Omega.{arith}
use lib.Dec.{eqb}
use lib.ListN.{length}
use borrow.Author.Tests.{eqb-true, eqb-false, ne_eqb}
use Rattle.run.specs.Choice.{pick}
use Rattle.run.specs.Head.{Outcome, accepted, refusal}
use Rattle.run.specs.Grammar.{RunOf}
use Rattle.run.specs.declared.Answer.{Answer}
use Rattle.run.specs.Answers.{answer, bare, count_of, roomy_answer}
use Rattle.sorts.specs.declared.Form.{Form}
use Rattle.std.specs.Prelude.{Some}
use Rattle.sorts.specs.Forms.{form_of, NoForm}
use Rattle.sorts.proofs.FormNumbers.{none_exactly}
use Rattle.element_words.specs.declared.Element.{Element}
use Rattle.element_words.specs.Words.{words_of}
use Rattle.element_reading.specs.Grammar.{Spells}
use Rattle.element_reading.proofs.Places.{reading_number}
use Rattle.text_loops.specs.Fronts.{read_in}
use Rattle.text_reading.specs.ReadingNumbers.{limit, ReadingFault}
use Rattle.text_reading.specs.ReadAnswers.{read_answer}
use Rattle.text_reading.proofs.Edges.{no_form, a_form, over}
use Rattle.text_reading.proofs.ReadTexts.{accepted_exactly, refused_exactly, measure_is}
use Rattle.compare.specs.declared.Comparison.{Comparison}
use Rattle.compare.specs.WhatChanged.{CompareRow}
use Rattle.compare.specs.Comparing.{comparison}
use Rattle.compare.specs.TheoremWords.{AsRead}
use Rattle.compare.proofs.Exactly.{its_row}
use Rattle.compare.proofs.Theorems.{compared_when}

module _ (form : ℕ) (first second : List ℕ) where
  abbrev C : Comparison
  C = comparison form first second

  abbrev Of : List ℕ → Answer
  Of text = read_answer form text (length text)

  -- ---- reading a text with room enough: no form, over the limit, a fault, or accepted

  read_none : NoForm form → (text : List ℕ) → (Of text).number ≡ 11
  unfolding read_answer
  read_none n text = sym (ap (λ (a : Answer). a.number) (no_form _ (bare 11) _ ((none_exactly form).1 n)))

  read_over : {f : Form} (text : List ℕ) → form_of form ≡ Some f → limit < length text → bare 12 ≡ Of text
  unfolding read_answer
  read_over text q l = a_form _ _ _ _ _ q (over text _ _ l)

  read_fault : {f : Form} (text : List ℕ) {r n p d : ℕ} → form_of form ≡ Some f → length text ≤ limit → ReadingFault f text r n p d
      → answer r n p (count_of r d) ≡ Of text
  read_fault {f} text {r} {n} {p} {d} q l h =
      sym (measure_is form f q text l ∙ ap (roomy_answer words_of (length text)) ((refused_exactly f text r n p d).1 h))

  read_run : {f : Form} (text : List ℕ) {es : List Element} → form_of form ≡ Some f → length text ≤ limit → RunOf (Spells f) text es
      → (Of text).number ≡ 0
  read_run {f} text {es} q l r =
      ap (λ (a : Answer). a.number)
      (measure_is form f q text l ∙ ap (roomy_answer words_of (length text)) ((accepted_exactly f text es).1 r))

  fault_small : {f : Form} (text : List ℕ) {r n p d : ℕ} → form_of form ≡ Some f → length text ≤ limit → ReadingFault f text r n p d
      → (0 < (Of text).number) × ((Of text).number ≤ 8)
  fault_small {f} text q l h =
      let z = reading_number f h.here in
      let e = ap (λ (a : Answer). a.number) (read_fault text q l h) in
      (omega (arith, z.0), omega (arith, z.1))

  within_small : {f : Form} (text : List ℕ) → form_of form ≡ Some f → length text ≤ limit → (Of text).number ≤ 8
  within_small {f} text q l = go (read_in f text) refl
    where
      go : (x : Outcome Element) → read_in f text ≡ x → (Of text).number ≤ 8
      go (accepted es) z = omega (arith, read_run text q l ((accepted_exactly f text es).0 z))
      go (refusal r n p d) z = (fault_small text q l ((refused_exactly f text r n p d).0 z)).1

  -- ---- from the row

  row_read : {c : Comparison} → CompareRow form first second c → (c.answer.number ≡ 0 → ⊥)
      → AsRead form first second c.answer c.text
  row_read (CompareRow.no_form n) z = AsRead.no_form n
  row_read (CompareRow.first_over q l) z =
      let e = read_over first q l in
      subst (λ (a : Answer). AsRead form first second a 1) (sym e) (AsRead.first_over (sym (ap (λ (a : Answer). a.number) e)))
  row_read (CompareRow.second_over q l h) z =
      let e = read_over second q h in
      subst (λ (a : Answer). AsRead form first second a 2) (sym e)
      (AsRead.second_over (within_small first q l) (sym (ap (λ (a : Answer). a.number) e)))
  row_read (CompareRow.first_refused r h) z =
      let b = fault_small first r.is_form r.first_within h in
      subst (λ (a : Answer). AsRead form first second a 1) (sym (read_fault first r.is_form r.first_within h))
      (AsRead.first_fault b.0 b.1 (within_small second r.is_form r.second_within))
  row_read (CompareRow.second_refused r e h) z =
      let b = fault_small second r.is_form r.second_within h in
      subst (λ (a : Answer). AsRead form first second a 2) (sym (read_fault second r.is_form r.second_within h))
      (AsRead.second_fault (read_run first r.is_form r.first_within e) b.0 b.1)
  row_read (CompareRow.mean_same r m) z = absurd (z refl)
  row_read (CompareRow.differ r b d) z = absurd (z refl)
  row_read (CompareRow.second_ends r b d) z = absurd (z refl)
  row_read (CompareRow.first_ends r b d) z = absurd (z refl)

  -- ---- one refusal: which text it is of follows from the two numbers, and the answer from that

  abbrev text_by : ℕ → ℕ → ℕ
  text_by n m = pick (eqb n 11) 0 (pick (eqb n 12) 1 (pick (eqb m 12) 2 (pick (eqb n 0) 2 1)))

  abbrev answer_by : ℕ → Answer
  answer_by t = pick (eqb t 0) (bare 11) (pick (eqb t 1) (Of first) (Of second))

  as_text : {a : Answer} {t : ℕ} → AsRead form first second a t → t ≡ text_by (Of first).number (Of second).number
  as_text (AsRead.no_form n) = ap (λ (k : ℕ). text_by k (Of second).number) (sym (read_none n first))
  as_text (AsRead.first_over e) = ap (λ (k : ℕ). text_by k (Of second).number) (sym e)
  as_text (AsRead.second_over l e) = by_second (Of first).number (Of second).number l e
    where
      by_second : (n m : ℕ) → n ≤ 8 → m ≡ 12 → 2 ≡ text_by n m
      by_second n m l e =
          sym (simp (ne_eqb n 11 (λ z. omega arith), ne_eqb n 12 (λ z. omega arith)) (ap (λ (k : ℕ). pick (eqb k 12) 2 (pick (eqb n 0) 2 1)) e))
  as_text (AsRead.first_fault s l m) = by_first (Of first).number (Of second).number s l m
    where
      by_first : (n m : ℕ) → 0 < n → n ≤ 8 → m ≤ 8 → 1 ≡ text_by n m
      by_first n m s l h =
          sym
          (simp (
            ne_eqb n 11 (λ z. omega arith),
            ne_eqb n 12 (λ z. omega arith),
            ne_eqb m 12 (λ z. omega arith),
            ne_eqb n 0
                (λ z. omega arith),
          ))
  as_text (AsRead.second_fault e s l) = by_both (Of first).number (Of second).number e l
    where
      by_both : (n m : ℕ) → n ≡ 0 → m ≤ 8 → 2 ≡ text_by n m
      by_both n m e l = sym (ap (λ (k : ℕ). text_by k m) e ∙ simp (ne_eqb m 12 (λ z. omega arith)))

  as_answer : {a : Answer} {t : ℕ} → AsRead form first second a t → a ≡ answer_by t
  as_answer (AsRead.no_form n) = refl
  as_answer (AsRead.first_over e) = refl
  as_answer (AsRead.second_over l e) = refl
  as_answer (AsRead.first_fault s l m) = refl
  as_answer (AsRead.second_fault e s l) = refl

  one_refusal : {a b : Answer} {t u : ℕ} → AsRead form first second a t → AsRead form first second b u → (a ≡ b) × (t ≡ u)
  one_refusal x y =
      let e = as_text x ∙ sym (as_text y) in
      (as_answer x ∙ ap answer_by e ∙ sym (as_answer y), e)

  -- none where both texts are accepted
  as_refused : {a : Answer} {t : ℕ} → AsRead form first second a t
      → (a.number ≡ 0 → ⊥) × ((Of first).number ≡ 0 → (Of second).number ≡ 0 → ⊥)
  as_refused (AsRead.no_form n) = (λ z. omega arith, λ z w. omega (arith, read_none n first))
  as_refused (AsRead.first_over e) = (λ z. omega arith, λ z w. omega arith)
  as_refused (AsRead.second_over l e) = (λ z. omega arith, λ z w. omega arith)
  as_refused (AsRead.first_fault s l m) = (λ z. omega arith, λ z w. omega arith)
  as_refused (AsRead.second_fault e s l) = (λ z. omega arith, λ z w. omega arith)

  -- Refusals exactly by the order, with the numbers of `read`.
  pub refused_as_read : (a : Answer) (t : ℕ)
      → ((a.number ≡ 0 → ⊥) × (C.answer ≡ a) × (C.text ≡ t)) ↔ AsRead form first second a t
  refused_as_read a t = (forth, λ x. back x (eqb C.answer.number 0) refl)
    where
      forth : (a.number ≡ 0 → ⊥) × (C.answer ≡ a) × (C.text ≡ t) → AsRead form first second a t
      forth p =
          subst (λ (x : Answer). AsRead form first second x t) p.1
          (subst (AsRead form first second C.answer) p.2
          (row_read (its_row form first second) (λ z. p.0 (sym (ap (λ (x : Answer). x.number) p.1) ∙ z))))

      back : AsRead form first second a t → (b : Bool) → eqb C.answer.number 0 ≡ b
          → (a.number ≡ 0 → ⊥) × (C.answer ≡ a) × (C.text ≡ t)
      back x true e =
          let w = (compared_when form first second).0 (eqb-true _ _ e) in
          absurd ((as_refused x).1 (read_run first w.1.is_form w.1.first_within w.2.run)
          (read_run second w.1.is_form w.1.second_within w.2.run'))
      back x false e =
          let o = one_refusal (row_read (its_row form first second) (eqb-false _ _ e)) x in
          ((as_refused x).0, o.0, o.1)
