-- A whole text, from what is read of it up to its end or its first fault.
-- Assumes nothing.
use Prim.Native.Nat.{ℕ, ◌+◌, ◌≤◌, ◌<◌}
use mathlib.Core.Path.{◌≡◌, refl, sym, ap, ◌∙◌}
use mathlib.Core.Bool.{Bool, true, false}
use mathlib.Core.List.{List, []}
use native.Mathlib.Nat.{zero-add}
use native.Mathlib.Omega.{arith}
use lib.Dec.{leb}
use lib.ListN.{length}
use lib.Seq.{sets}
use borrow.Author.Tests.{leb-true}
use Rattle.run.specs.Choice.{pick}
use Rattle.run.specs.Head.{Outcome, accepted, refusal}
use Rattle.run.specs.declared.Answer.{Answer}
use Rattle.run.specs.Answers.{short_room, given, over, written_of, roomy_answer}
use Rattle.run.specs.Loops.{Numbered, WholeAnswer}
use Rattle.run.specs.Put.{what_fits}
use Rattle.run.proofs.Before.{given_before}
use Rattle.run.proofs.Puts.{put_over, nothing_fits}
use Rattle.run.proofs.Rooms.{numbered, refuses, short, roomy}
use Rattle.sorts.specs.declared.Form.{Form}
use Rattle.element_words.specs.declared.Element.{Element}
use Rattle.element_words.specs.Words.{words_of}
use Rattle.element_reading.proofs.Reader.{reads}
use Rattle.text_loops.specs.declared.Measured.{Measured}
use Rattle.text_loops.specs.Fronts.{read_in, words_before, asked_for}
use Rattle.text_loops.specs.Promises.{ReadFrontPromise}
use Rattle.text_loops.proofs.Fronts.{front_length}

-- all the entries from the start on, or none
all_or_none : (words ws : List ℕ) (t : Bool) → leb (length ws) (length words) ≡ t
    → sets words 0 (pick t ws []) ≡ pick t (over words ws) words
all_or_none words ws true e = put_over {a = words} {xs = ws} {j = 0 + length ws} (record { place = refl; holds = refl }) (leb-true _ _ e)
all_or_none words ws false e = refl

-- where a whole text is asked for, what fits is what is written of its outcome
whole_fits : (words ws : List ℕ) (x : Outcome Element) → ((es : List Element) → x ≡ accepted es → ws ≡ given words_of es)
    → sets words 0 (what_fits words 0 (asked_for true x ws)) ≡ written_of words_of words x
whole_fits words ws (accepted es) h =
    ap (λ (l : List ℕ). sets words 0 (what_fits words 0 l)) (h es refl)
    ∙ ap (λ (k : ℕ). sets words 0 (pick (leb k (length words)) (given words_of es) [])) (zero-add (length (given words_of es)))
    ∙ all_or_none words (given words_of es) (leb (length (given words_of es)) (length words)) refl
whole_fits words ws (refusal r n p d) h = ap (sets words 0) (nothing_fits words 0)

module _ (f : Form) (text : List ℕ) where
  -- an accepted text has as many words as its answer counts
  counts : (x : Outcome Element) → read_in f text ≡ x → (roomy_answer words_of (length text) x).number ≡ 0 → Numbered x
      → length (words_before f text) ≡ (roomy_answer words_of (length text) x).count
  counts (accepted es) q e z = ap length (given_before (reads f) words_of text es q)
  counts (refusal r n p d) q e z = absurd (omega arith)

  module _ (words : List ℕ) {m : Measured} {after : List ℕ} (read : ReadFrontPromise f text words 0 true m after) where
    is_answer : m.answer ≡ roomy_answer words_of (length text) (read_in f text)
    is_answer = ap (λ (a : Measured). a.answer) read.0

    is_count : m.answer.number ≡ 0 → m.words ≡ m.answer.count
    is_count e =
        ap (λ (a : Measured). a.words) read.0
        ∙ counts (read_in f text) refl (ap (λ (a : Answer). a.number) (sym is_answer) ∙ e) (numbered (reads f) text)
        ∙ ap (λ (a : Answer). a.count) (sym is_answer)

    is_written_lem : after ≡ written_of words_of words (read_in f text)
    is_written_lem = read.1 ∙ whole_fits words (words_before f text) (read_in f text) (given_before (reads f) words_of text)

    -- refused; accepted, and the room is short; and there is room
    pub whole_refused : (m.answer.number ≡ 0 → ⊥) → WholeAnswer words_of (length text) words (read_in f text) m.answer after
    whole_refused h = ((refuses words_of (length text) words m.answer (read_in f text) is_answer h).0, is_written_lem)

    pub whole_short : m.answer.number ≡ 0 → length after < m.words
        → WholeAnswer words_of (length text) words (read_in f text) (short_room m.words) after
    whole_short e h =
        let c = is_count e in
        let k = front_length f text words 0 true read in
        let s = short words_of (length text) words m.answer (read_in f text) (numbered (reads f) text) is_answer e (omega arith) in
        (ap short_room c ∙ s.0, is_written_lem)

    pub whole_roomy : m.answer.number ≡ 0 → m.words ≤ length after
        → WholeAnswer words_of (length text) words (read_in f text) m.answer after
    whole_roomy e h =
        let c = is_count e in
        let k = front_length f text words 0 true read in
        let s = roomy words_of (length text) words m.answer (read_in f text) (numbered (reads f) text) is_answer e (omega arith) in
        (s.1, is_written_lem)
