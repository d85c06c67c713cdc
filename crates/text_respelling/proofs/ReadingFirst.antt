-- The reading's refusal comes before 10: the first pass, which reads and measures at once, is refused too where the reading is, and where
-- it accepts, the whole text is read. So its answer, with the fifth number, is the conversion's.
-- Assumes nothing.
use Prim.Native.Nat.{ℕ, ◌≤◌, ◌<◌}
use mathlib.Core.Path.{◌≡◌, refl, sym, ap, ◌∙◌, subst}
use mathlib.Core.Bool.{Bool, true, false}
use mathlib.Core.List.{List}
use native.Mathlib.Omega.{arith}
use lib.ListN.{length}
use lib.Dec.{eqb}
use borrow.Author.Tests.{eq-eqb, ne_eqb, eqb-true, eqb-false}
use Rattle.run.specs.Choice.{pick}
use Rattle.run.specs.Head.{Outcome, accepted, refusal, outcome}
use Rattle.run.specs.declared.Answer.{Answer}
use Rattle.run.specs.declared.ReadAnswer.{ReadAnswer}
use Rattle.run.specs.Answers.{bare, short_room, carrying, written_of, roomy_answer, RoomFor, after_reading, same}
use Rattle.run.specs.Loops.{Numbered, WholeAnswer}
use Rattle.run.specs.Speller.{spelt_by}
use Rattle.run.proofs.Rooms.{numbered, refuses, short, roomy, first_refused, first_accepted}
use Rattle.run.proofs.Spellers.{spelt_reads, spelt_read}
use Rattle.sorts.specs.declared.Form.{Form}
use Rattle.element_words.specs.declared.Element.{Element}
use Rattle.element_words.specs.Words.{words_of}
use Rattle.element_reading.specs.ElementHead.{head_in}
use Rattle.element_reading.proofs.Reader.{reads}
use Rattle.element_spelling.specs.ElementOctets.{spell_element}
use Rattle.text_loops.specs.declared.Measured.{Measured}
use Rattle.text_loops.specs.Fronts.{read_in, respelled_before, measured}
use Rattle.text_reading.specs.ReadingNumbers.{limit}
use Rattle.text_reading.proofs.Edges.{over, within, carried_refused, carried_bare, carried_nine, carried}
use Rattle.text_respelling.specs.Parts.{reading_first, respelt_after_reading, RespeltAnswer}
use Rattle.text_respelling.specs.Promises.{RespellPromise}

-- ---- what `reading_first` answers

module _ (f : Form) (text : List ℕ) (a read : Answer) (is : read ≡ roomy_answer words_of (length text) (read_in f text)) where
  pub read_refused : (read.number ≡ 0 → ⊥) → read ≡ reading_first f text a
  read_refused n =
      is ∙ sym (simp (ne_eqb (roomy_answer words_of (length text) (read_in f text)).number 0
      (λ z. n (ap (λ (x : Answer). x.number) is ∙ z))))

  pub read_accepted : read.number ≡ 0 → a ≡ reading_first f text a
  read_accepted z =
      sym (simp (eq-eqb (roomy_answer words_of (length text) (read_in f text)).number 0 (sym (ap (λ (x : Answer). x.number) is) ∙ z)))

-- the same of what the reader's first pass measured
pub refused_first : (f : Form) (text : List ℕ) (a : Answer) (m : Measured) → m ≡ measured f text → (m.answer.number ≡ 0 → ⊥)
    → m.answer ≡ reading_first f text a
refused_first f text a m is = read_refused f text a m.answer (ap (λ (x : Measured). x.answer) is)

-- ---- the whole answer

-- what the text comes to, respelt
abbrev pub respelt : Form → Form → List ℕ → Outcome (List ℕ)
respelt f g text = outcome (spelt_by (spell_element g) (head_in f)) text

module _ (f g : Form) (text out : List ℕ) (m : Answer) (measured : m ≡ roomy_answer same (length text) (respelt f g text)) where
  is_numbered : Numbered (respelt f g text)
  is_numbered = numbered (spelt_reads (reads f) (spell_element g)) text

  -- the first pass refused
  refused : (m.number ≡ 0 → ⊥) → WholeAnswer same (length text) out (respelt_after_reading f g text) (reading_first f text m) out
      × ((reading_first f text m).number ≡ 0 → ⊥)
  refused h = go (eqb read.number 0) refl
    where
      read : Answer
      read = roomy_answer words_of (length text) (read_in f text)

      go : (t : Bool) → eqb read.number 0 ≡ t → WholeAnswer same (length text) out (respelt_after_reading f g text) (pick t m read) out
          × ((pick t m read).number ≡ 0 → ⊥)
      go true q = (
        first_accepted words_of same (length text) out read (read_in f text) (respelt f g text) m out (numbered (reads f) text) refl
            (eqb-true read.number 0 q) (refuses same (length text) out m (respelt f g text) measured h),
        h,
      )
      go false q =
          let n = eqb-false read.number 0 q in
          (first_refused words_of same (length text) out read (read_in f text) (respelt f g text) refl n, n)

  -- the first pass accepted, and so the text is read
  is_read : m.number ≡ 0 → (y : Outcome (List ℕ)) → respelt f g text ≡ y → Numbered y
      → after_reading (read_in f text) (respelt f g text) ≡ respelt f g text
  is_read z (accepted ss) e k =
      let r = spelt_read (reads f) (spell_element g) text ss e in
      ap (λ (x : Outcome Element). after_reading x (respelt f g text)) r.1
  is_read z (refusal q n p d) e k =
      let w : m.number ≡ q = ap (λ (y : Answer). y.number) (measured ∙ ap (roomy_answer same (length text)) e) in
      absurd (omega arith)

  accepts : m.number ≡ 0 → (r : Answer) (after : List ℕ) → WholeAnswer same (length text) out (respelt f g text) r after
      → WholeAnswer same (length text) out (respelt_after_reading f g text) r after
  accepts z r after e =
      subst (λ (x : Outcome (List ℕ)). WholeAnswer same (length text) out x r after) (sym (is_read z (respelt f g text) refl is_numbered)) e

  -- ---- with the fifth number: 0 on a refusal of the first pass,
  pub carries_refusal : {r : ReadAnswer} {a : Answer} → (m.number ≡ 0 → ⊥) → a ≡ reading_first f text m → r ≡ carrying a 0
      → RespeltAnswer f g text out r out
  carries_refusal h is e =
      let w = refused h in
      (carried_refused _ _ _ _ e (λ z. w.1 (sym (ap (λ (x : Answer). x.number) is) ∙ z)) (is ∙ w.0.0), w.0.1)

  -- and where the room is short;
  pub carries_short : {r : ReadAnswer} {a : Answer} → m.number ≡ 0 → length out < m.count → a ≡ short_room m.count
      → r ≡ carrying a 0 → RespeltAnswer f g text out r out
  carries_short z h is e =
      let w = accepts z _ _ (short same (length text) out m (respelt f g text) is_numbered measured z h) in
      (carried_nine _ _ _ _ e is (is ∙ w.0), w.1)

  -- what was counted where there is room
  pub has_room : m.number ≡ 0 → m.count ≤ length out → RoomFor same (length out) (respelt f g text)
  has_room z h = (roomy same (length text) out m (respelt f g text) is_numbered measured z h).0

  pub carries_count : {r : ReadAnswer} {after : List ℕ} → m.number ≡ 0 → m.count ≤ length out
      → r ≡ carrying (roomy_answer same (length text) (respelt f g text)) (respelled_before f text)
      → after ≡ written_of same out (respelt f g text) → RespeltAnswer f g text out r after
  carries_count z h e w =
      let v = accepts z m _ ((roomy same (length text) out m (respelt f g text) is_numbered measured z h).1, w) in
      (carried _ _ _ _ e (sym measured ∙ v.0) refl, v.1)

-- ---- the limit

module _ (f g : Form) (text out : List ℕ) where
  pub respell_over : {r : ReadAnswer} {a : Answer} → limit < length text → a ≡ bare 12 → r ≡ carrying a 0
      → RespellPromise f g text out r out
  respell_over h is e = (carried_bare _ _ _ _ e is (omega arith) (is ∙ over text _ _ h), over text _ _ h)

  pub respell_within : {r : ReadAnswer} {after : List ℕ} → length text ≤ limit → RespeltAnswer f g text out r after
      → RespellPromise f g text out r after
  respell_within h w = (carried _ _ _ _ w.0 (within text _ _ h) refl, w.1 ∙ within text _ _ h)
