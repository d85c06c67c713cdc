-- A lone read answers exactly what document 01's table and order say, and so keeps its promise.
-- Assumes nothing.
use Prim.Native.Nat.{ℕ, ◌+◌, ◌-◌, ◌≤◌, ◌<◌}
use mathlib.Core.Path.{◌≡◌, refl, sym, ap, ap₂, ◌∙◌, subst, subst₂}
use mathlib.Core.Logic.{◌↔◌}
use mathlib.Core.Bool.{Bool, true, false}
use mathlib.Core.List.{List}
use native.Mathlib.Omega.{arith}
use lib.ListN.{length, take, drop}
use lib.Dec.{leb}
use borrow.Author.Tests.{leb-true, leb-false, le-leb, lt-leb}
use Rattle.run.specs.Choice.{pick}
use Rattle.run.specs.declared.ReadAnswer.{ReadAnswer}
use Rattle.run.specs.declared.Answer.{Answer}
use Rattle.run.specs.Answers.{answer, over, short_room, carrying}
use Rattle.run.proofs.Answers.{carrying_zero}
use Rattle.run.proofs.Puts.{put_over, put_fits}
use Rattle.sorts.specs.declared.Form.{Form}
use Rattle.std.specs.Prelude.{Option, Some, None}
use Rattle.sorts.specs.Forms.{form_of, in_form}
use Rattle.sorts.proofs.FormNumbers.{none_exactly}
use Rattle.element_reading.specs.declared.Step.{Step}
use Rattle.element_reading.specs.declared.Step.TheVariants.{Element as Read, Refused, End}
use Rattle.text_loops.proofs.Steps.{NotRead}
use Rattle.element_words.specs.declared.Element.{Element}
use Rattle.element_words.specs.Words.{words_of}
use Rattle.element_words.specs.Promises.{PutWordsPromise}
use Rattle.element_spelling.specs.ElementOctets.{CanonicalElement}
use Rattle.text_loops.specs.Fronts.{step_answer_after}
use Rattle.element_reading.specs.ElementHead.{step_at}
use Rattle.element_reading.specs.ElementNumbers.{step_reading, step_words, reading}
use Rattle.element_reading.proofs.NumbersExactly.{step_exactly, flag_exactly, step_kept}
use Rattle.text_reading.specs.ReadAnswers.{within_limit, lone_step, fits_or, one_reading, one_words}
use Rattle.text_reading.specs.ReadingNumbers.{limit, LoneTable, OneTable}
use Rattle.text_reading.specs.Promises.{ReadElementPromise, ReadOnePromise}
use Rattle.text_reading.proofs.Edges.{no_form, a_form, over as past, within}

module _ (form : ℕ) (text : List ℕ) (at : ℕ) where
  -- the row of a step
  abbrev Row : Step → Type 0
  Row s = LoneTable form text at (step_reading s) (step_words s)

  by_limit : (f : Form) → form_of form ≡ Some f → (t : Bool) → leb (length text) limit ≡ t → Row (pick t (step_at f text at) (Refused 12 0 0))
  by_limit f q true e = LoneTable.one_element q (leb-true _ _ e) ((step_exactly f text at _ _).1 (refl, refl))
  by_limit f q false e = LoneTable.over_limit q (leb-false _ _ e)

  by_form : (y : Option Form) → form_of form ≡ y
      → Row (in_form y (Refused 11 0 0) (λ f. within_limit text (Refused 12 0 0) (step_at f text at)))
  by_form (Some f) q = by_limit f q (leb (length text) limit) refl
  by_form None q = LoneTable.no_form ((none_exactly form).0 q)

  its_row : Row (lone_step form text at)
  unfolding lone_step
  its_row = by_form (form_of form) refl

  -- 01's numbers, and the words, of a step that it is
  of_step : (s : Step) → lone_step form text at ≡ s
      → (step_reading (lone_step form text at) ≡ step_reading s) × (step_words (lone_step form text at) ≡ step_words s)
  of_step s q = (ap step_reading q, ap step_words q)

  of_row : {a : ReadAnswer} {words : List ℕ} → LoneTable form text at a words
      → (step_reading (lone_step form text at) ≡ a) × (step_words (lone_step form text at) ≡ words)
  unfolding lone_step
  of_row (LoneTable.no_form n) = of_step (Refused 11 0 0) (sym (no_form _ _ _ ((none_exactly form).1 n)))
  of_row (LoneTable.over_limit q l) = of_step (Refused 12 0 0) (sym (a_form _ _ _ _ _ q (past text _ _ l)))
  of_row (LoneTable.one_element {f} {a} {words} q l r) =
      let s = of_step (step_at f text at) (sym (a_form _ _ _ _ _ q (within text _ _ l))) in
      let e = (step_exactly f text at a words).0 r in
      (s.0 ∙ e.0, s.1 ∙ e.1)

  pub lone_exactly : (a : ReadAnswer) (words : List ℕ)
      → ((step_reading (lone_step form text at) ≡ a) × (step_words (lone_step form text at) ≡ words)) ↔ LoneTable form text at a words
  lone_exactly a words = (λ e. subst₂ (LoneTable form text at) e.0 e.1 its_row, of_row)

  pub lone_kept : (r : Step) → r ≡ lone_step form text at → ReadElementPromise form text at r
  lone_kept r q = (q, subst Row (sym q) its_row)

  -- ---- the flag

  lone_is : (f : Form) → form_of form ≡ Some f → lone_step form text at ≡ within_limit text (Refused 12 0 0) (step_at f text at)
  unfolding lone_step
  lone_is f q = sym (a_form _ _ _ _ _ q refl)

  -- It holds exactly where the octets read are the element's canonical spelling.
  pub lone_flag : (f : Form) → form_of form ≡ Some f → (e : Element) (next : ℕ) (b : Bool) → ReadElementPromise form text at (Read e next b)
      → (b ≡ true) ↔ CanonicalElement f (take (next - at) (drop at text)) e
  lone_flag f q e next b promise = go (leb (length text) limit) (promise.0 ∙ lone_is f q)
    where
      go : (t : Bool) → Read e next b ≡ pick t (step_at f text at) (Refused 12 0 0)
          → (b ≡ true) ↔ CanonicalElement f (take (next - at) (drop at text)) e
      go true z = flag_exactly f text at e next b (step_kept f text at (Read e next b) z)
      go false z = let w : ◌≡◌ {A = ℕ} 0 1 = cc in absurd (omega arith)

  -- ---- into words

  module _ (words : List ℕ) where
    abbrev step : Step
    step = lone_step form text at

    by_room : (t : Bool) → leb (length (step_words step)) (length words) ≡ t
        → OneTable form text at words
        (pick t (step_reading step) (reading (short_room (length (step_words step))) 0))
        (pick t (over words (step_words step)) words)
    by_room true e = OneTable.fits its_row (leb-true _ _ e)
    by_room false e = OneTable.room_is_short its_row (leb-false _ _ e)

    of_one : {a : ReadAnswer} {after : List ℕ} → OneTable form text at words a after
        → (one_reading form text at (length words) ≡ a) × (one_words form text at words ≡ after)
    unfolding one_reading one_words
    of_one (OneTable.fits {a} {words = ws} row h) =
        let e = (lone_exactly a ws).1 row in
        let t : leb (length (step_words step)) (length words) ≡ true =
        ap (λ (l : List ℕ). leb (length l) (length words)) e.1 ∙ le-leb (length ws) (length words) h in
        (rw t e.0, rw t (ap (over words) e.1))
    of_one (OneTable.room_is_short {a} {words = ws} row h) =
        let e = (lone_exactly a ws).1 row in
        let t : leb (length (step_words step)) (length words) ≡ false =
        ap (λ (l : List ℕ). leb (length l) (length words)) e.1 ∙ lt-leb (length ws) (length words) h in
        (rw t (ap (λ (l : List ℕ). reading (short_room (length l)) 0) e.1), rw t)

    -- A lone read into words answers exactly what the table says.
    pub one_exactly : (a : ReadAnswer) (after : List ℕ)
        → ((one_reading form text at (length words) ≡ a) × (one_words form text at words ≡ after)) ↔ OneTable form text at words a after
    unfolding one_reading one_words
    one_exactly a after =
        (λ e. subst₂ (OneTable form text at words) e.0 e.1 (by_room (leb (length (step_words step)) (length words)) refl), of_one)

    -- ---- the ways out of the code

    -- what is no element is answered as it is, and has no words
    other_by : (s : Step) → NotRead s → {r : ReadAnswer} {a : Answer} → a ≡ step_answer_after 0 s
        → r ≡ carrying a 0 → (r ≡ fits_or s (length words) (step_reading s) (carrying (short_room (length (step_words s))) 0))
        × (words ≡ fits_or s (length words) (over words (step_words s)) words)
    other_by (Read e next b) o q z = absurd (o e next b refl)
    other_by (Refused m p d) o {a = a} q z =
        let t = le-leb 0 (length words) (omega arith) in
        (z ∙ carrying_zero a ∙ ap (λ (x : Answer). reading x 0) q ∙ sym (rw t), sym (rw t))
    other_by End o {a = a} q z =
        let t = le-leb 0 (length words) (omega arith) in
        (z ∙ carrying_zero a ∙ ap (λ (x : Answer). reading x 0) q ∙ sym (rw t), sym (rw t))

    pub one_other : {r : ReadAnswer} {a : Answer} (s : Step) → s ≡ lone_step form text at → NotRead s
        → a ≡ step_answer_after 0 s → r ≡ carrying a 0 → ReadOnePromise form text at words r words
    unfolding one_reading one_words
    one_other {r} s is o q z =
        subst (λ (x : Step). (r ≡ fits_or x (length words) (step_reading x) (carrying (short_room (length (step_words x))) 0))
        × (words ≡ fits_or x (length words) (over words (step_words x)) words)) is (other_by s o q z)

    module _ (e : Element) (next : ℕ) (b : Bool) (is : lone_step form text at ≡ Read e next b) {size : ℕ} (many : size ≡ length (words_of e))
      where
        pub one_short : {r : ReadAnswer} {a : Answer} → length words < size → a ≡ short_room size → r ≡ carrying a 0
            → ReadOnePromise form text at words r words
        unfolding one_reading one_words
        one_short {r} {a} h q z =
            let t = lt-leb (length (words_of e)) (length words) (omega arith) in
            let n : r ≡ carrying (short_room (length (words_of e))) 0 = z ∙ ap (λ (x : Answer). carrying x 0) (q ∙ ap short_room many) in
            (n ∙ sym (rw (is, t)), sym (rw (is, t)))

        pub one_fits : {r : ReadAnswer} {k j : ℕ} {after : List ℕ} → size ≤ length words → PutWordsPromise e words 0 j after
            → k ≡ pick b 0 1 → r ≡ carrying (answer 0 1 next size) k → ReadOnePromise form text at words r after
        unfolding one_reading one_words
        one_fits {r} {k} h put q z =
            let t = le-leb (length (words_of e)) (length words) (omega arith) in
            let n : r ≡ carrying (answer 0 1 next (length (words_of e))) (pick b 0 1) =
            z ∙ ap₂ (λ (c i : ℕ). carrying (answer 0 1 next c) i) many q in
            let room : 0 + length (words_of e) ≤ length words = omega arith in
            (n ∙ sym (rw (is, t)), put_over (put_fits (words_of e) room put) (omega arith) ∙ sym (rw (is, t)))
