-- From the first pass's answer to the whole answer of a case, with the room (`run`'s laws of rooms, through `outcome_of`); and what a
-- refused header answers.
-- Assumes nothing.
use Prim.Native.Nat.{ℕ, ◌≤◌, ◌<◌}
use mathlib.Core.Path.{◌≡◌, refl, sym, ap, ap₂, ◌∙◌}
use mathlib.Core.List.{List, [], ◌∷◌}
use native.Mathlib.Omega.{arith}
use lib.Dec.{leb}
use lib.ListN.{length}
use Rattle.run.specs.Loops.{Numbered}
use Rattle.run.specs.Head.{Outcome, accepted, refusal}
use Rattle.run.specs.declared.Answer.{Answer}
use Rattle.run.specs.Answers.{answer, bare, short_room, count_of, RoomFor, written_of}
use Rattle.run.proofs.Choices.{pick_case}
use Rattle.run.proofs.Rooms as rooms
use Rattle.sorts.specs.declared.Form.{Form}
use Rattle.std.specs.Prelude.{Option, Some, None}
use Rattle.sorts.specs.Forms.{form_of}
use Rattle.element_words.specs.Words.{words_of}
use Rattle.element_words.specs.declared.Element.{Element}
use Rattle.case_table.specs.HeaderNumbers.{RefusedWith}
use Rattle.case_table.specs.Check.{says, header_of, pages_of}
use Rattle.case_table.proofs.Checked.{turned_exactly}
use Rattle.case_table.proofs.Promised.{turned_number}
use Rattle.tlx.specs.declared.CaseAnswer.{CaseAnswer}
use Rattle.tlx.specs.CaseReading.{CaseOutcome, all, fault, join_pages, after_page, read_page, read_pages, read_case, turned}
use Rattle.tlx.specs.CaseReading.{outcome_of, page_of, case_answer, case_measured, read_case_answer, read_case_words, case_respelled}
use Rattle.tlx.specs.CaseReading.{carrying_case, read_case_reading}
use Rattle.tlx.specs.CaseReadingNumbers.{beside}
use Rattle.tlx.proofs.Pages.{without_fifth, case_is, has_number, carried_none}

-- ---- a refusal has a number

joined_numbered : (es : List Element) (k : ℕ) (x : CaseOutcome) → Numbered (outcome_of x)
    → Numbered (outcome_of (join_pages es k x))
joined_numbered es k (all fs) h = tt
joined_numbered es k (fault g r n p d) h = h

after_numbered : (x : CaseOutcome) → Numbered (outcome_of x) → (y : Outcome Element) → Numbered y
    → Numbered (outcome_of (after_page y x))
after_numbered x h (accepted es) z = joined_numbered es 1 x h
after_numbered x h (refusal r n p d) z = z

page_numbered : (page : ℕ × List ℕ) → Numbered (read_page page)
page_numbered page = by (form_of page.0) refl
  where
    by : (y : Option Form) → form_of page.0 ≡ y → Numbered (read_page page)
    by (Some f) q = rw q (has_number f page.1 refl)
    by None q = rw q (omega arith)

pages_numbered : (pages : List (ℕ × List ℕ)) → Numbered (outcome_of (read_pages pages))
unfolding read_pages
pages_numbered [] = tt
pages_numbered (page ∷ pages) = after_numbered (read_pages pages) (pages_numbered pages) (read_page page) (page_numbered page)

case_numbered : (case : List ℕ) (form pages : ℕ) → header_of case ≡ says form pages → Numbered (outcome_of (read_case case))
case_numbered case form pages q = rw (case_is case form pages q) (pages_numbered (pages_of case))

-- ---- the whole answer

-- an accepted case names no page
no_page : (n : ℕ) (x : CaseOutcome) → Numbered (outcome_of x) → (case_measured n x).answer.number ≡ 0 → page_of x ≡ 0
no_page n (all es) z h = refl
no_page n (fault g r e p d) z h = absurd (omega arith)

module _ (case : List ℕ) (form pages : ℕ) (header : header_of case ≡ says form pages) (l : List ℕ)
    (five : CaseAnswer) (is : five ≡ carrying_case (case_measured (length case) (read_case case)) (case_respelled case)) where
  abbrev a : CaseAnswer
  a = without_fifth five

  q : a ≡ case_measured (length case) (read_case case)
  q = ap without_fifth is

  abbrev x : Outcome Element
  x = outcome_of (read_case case)

  abbrev m : Answer
  m = a.answer

  -- the four numbers, and with them the fifth
  with_fifth : (l : List ℕ) → a ≡ read_case_answer case (length l) → five ≡ read_case_reading case (length l)
  with_fifth l p = is ∙ ap (λ (x : CaseAnswer). carrying_case x (case_respelled case)) (sym q ∙ p)

  -- the first pass refused
  refuses_so : (m.number ≡ 0 → ⊥) → (a ≡ read_case_answer case (length l)) × (l ≡ read_case_words case l)
  unfolding read_case_answer read_case_words
  refuses_so h =
      let r = rooms.refuses words_of (length case) l m x (ap (λ (y : CaseAnswer). y.answer) q) h in
      (ap₂ beside (ap (λ (y : CaseAnswer). y.page) q) r.0, r.1)

  pub refuses : (m.number ≡ 0 → ⊥) → (five ≡ read_case_reading case (length l)) × (l ≡ read_case_words case l)
  refuses h = let r = refuses_so h in (with_fifth l r.0, r.1)

  module _ (h : m.number ≡ 0) where
    z : Numbered x
    z = case_numbered case form pages header

    named : page_of (read_case case) ≡ 0
    named = no_page (length case) (read_case case) z (sym (ap (λ (y : CaseAnswer). y.answer.number) q) ∙ h)

    -- the room is short
    short_so : (s : Answer) → s ≡ short_room m.count → length l < m.count
        → (◌≡◌ {A = CaseAnswer} (beside 0 s) (read_case_answer case (length l))) × (l ≡ read_case_words case l)
    unfolding read_case_answer read_case_words
    short_so s e k =
        let r = rooms.short words_of (length case) l m x z (ap (λ (y : CaseAnswer). y.answer) q) h k in
        (ap₂ beside (sym named) (e ∙ r.0), r.1)

    pub short : (s : Answer) → s ≡ short_room m.count → length l < m.count
        → (◌≡◌ {A = CaseAnswer} (beside 0 s) (read_case_reading case (length l))) × (l ≡ read_case_words case l)
    short s e k =
        let r = short_so s e k in
        let n : s.number ≡ 0 → ⊥ = λ t. omega (arith, ap (λ (y : Answer). y.number) e) in
        (carried_none (beside 0 s) _ _ r.0 n, r.1)

    -- there is room
    pub roomy : m.count ≤ length l → RoomFor words_of (length l) x × (five ≡ read_case_reading case (length l))
    unfolding read_case_answer
    roomy k =
        let r = rooms.roomy words_of (length case) l m x z (ap (λ (y : CaseAnswer). y.answer) q) h k in
        (r.0, with_fifth l (ap₂ beside (ap (λ (y : CaseAnswer). y.page) q) r.1))

-- ---- a header that is refused

pub case_turned : (case : List ℕ) (r : ℕ) → RefusedWith (header_of case) r → read_case case ≡ turned r
unfolding read_case
case_turned case r w = simp w.1 (ap turned w.2)

pub turned_answers : (case : List ℕ) (r : ℕ) (l : List ℕ) → RefusedWith (header_of case) r
    → (◌≡◌ {A = CaseAnswer} (beside 0 (bare r)) (read_case_answer case (length l))) × (l ≡ read_case_words case l)
unfolding read_case_answer read_case_words
turned_answers case r l q =
    let t = case_turned case r q in
    let c : ◌≡◌ {A = ℕ} (count_of r 0) 0 = pick_case (λ (k : ℕ). k ≡ 0) (leb r 8) 0 0 (λ e. refl) (λ e. refl) in (
      ap (λ (c : ℕ). beside 0 (answer r 0 0 c)) (sym c) ∙ sym (ap (case_answer (length case) (length l)) t),
      sym (ap (λ (y : CaseOutcome). written_of words_of l (outcome_of y)) t),
    )

-- with the fifth number, which is 0
pub turned_readings : (case : List ℕ) (r : ℕ) (l : List ℕ) → RefusedWith (header_of case) r
    → (◌≡◌ {A = CaseAnswer} (beside 0 (bare r)) (read_case_reading case (length l))) × (l ≡ read_case_words case l)
turned_readings case r l q =
    let t = turned_answers case r l q in
    let n = (turned_number ((turned_exactly case r).0 q)).0 in
    (carried_none (beside 0 (bare r)) _ _ t.0 (λ z. omega (arith, n, z)), t.1)
