-- The rows of request No. 1 exclude each other: of the octets taken, a piece and the words lent, they give one answer, one fifth number,
-- one number of words handed out and one buffer.
-- Assumes nothing.
use Prim.Native.Nat.{ℕ, ◌≤◌, ◌<◌}
use mathlib.Core.Path.{◌≡◌, refl, sym, ap, ap₂, ◌∙◌, subst}
use mathlib.Core.Bool.{Bool, true, false}
use mathlib.Core.List.{List, ◌++◌}
use native.Mathlib.Omega.{arith}
use lib.Dec.{eqb, leb}
use lib.ListN.{length, drop}
use lib.Seq.{drop-append_seam}
use borrow.Author.Tests.{le-leb, lt-leb, eqb-true}
use Rattle.run.specs.Choice.{pick}
use Rattle.run.specs.Head.{Outcome, accepted, refusal}
use Rattle.run.specs.declared.Answer.{Answer}
use Rattle.run.specs.Answers.{answer, bare, short_room, given, over}
use Rattle.sorts.specs.declared.Form.{Form}
use Rattle.element_words.specs.declared.Element.{Element}
use Rattle.element_words.specs.Words.{words_of}
use Rattle.text_loops.specs.Fronts.{read_in, words_before, respelled_before}
use Rattle.text_reading.specs.ReadingNumbers.{limit}
use Rattle.text_reading.proofs.ReadTexts.{accepted_exactly, refused_exactly}
use Rattle.text_reading.proofs.Respelled.{respelled_exactly}
use Rattle.serial.specs.SerialNumbers.{UpToFault, WordsUpToFault, NewWords, GoesOn, FedRow}
use Rattle.serial.specs.Feeding.{stops_page}
use Rattle.open_elements.proofs.Faults.{fault_small}
use Rattle.serial.proofs.WordsUpTo.{words_are, goes_respelled}

-- a refusal that stops the page
is_fault : (r : ℕ) (ended : Bool) → 1 ≤ r → (r ≡ 4 → ended ≡ true) → stops_page r ended ≡ true
is_fault r ended some four = by_tests (eqb r 4) refl (eqb r 0) refl
  where
    by_tests : (t : Bool) → eqb r 4 ≡ t → (u : Bool) → eqb r 0 ≡ u → pick t ended (pick u false true) ≡ true
    by_tests true e u k = four (eqb-true r 4 e)
    by_tests false e true k = absurd (omega (arith, some, eqb-true r 0 k))
    by_tests false e false k = refl

-- the words to hand out, of which there is one list
abbrev new_words : Form → List ℕ → List ℕ → List ℕ
new_words f taken piece = drop (length (words_before f taken)) (words_before f (taken ++ piece))

new_is : {f : Form} {taken piece ws : List ℕ} → NewWords f taken piece ws → ws ≡ new_words f taken piece
new_is {f} {taken} {piece} {ws} n =
    sym (drop-append_seam n.before ws)
    ∙ ap₂ (λ (a b : List ℕ). drop (length a) b) (sym (words_are f taken n.were)) (sym (words_are f (taken ++ piece) n.are))

pub one_new : {f : Form} {taken piece ws ws' : List ℕ} → NewWords f taken piece ws → NewWords f taken piece ws' → ws ≡ ws'
one_new n n' = new_is n ∙ sym (new_is n')

module _ (f : Form) (taken piece : List ℕ) (ended : Bool) (words : List ℕ) where
  abbrev so_far : List ℕ
  so_far = taken ++ piece

  abbrev new : List ℕ
  new = new_words f taken piece

  abbrev told_number : ℕ
  told_number = respelled_before f so_far

  abbrev Told : Type 0
  Told = Answer × ℕ × ℕ × List ℕ

  abbrev told_read : Outcome Element → Told
  told_read (accepted es) = (answer 0 (length es) (length so_far) (length (given words_of es)), told_number, length new, over words new)
  told_read (refusal r n p d) =
      pick (stops_page r ended) (answer r n p d, 0, length new, over words new)
      (answer 0 n (length so_far) (length (words_before f so_far)), told_number, length new, over words new)

  abbrev told : Told
  told =
      pick (leb (length so_far) limit)
      (pick (leb (length new) (length words)) (told_read (read_in f so_far)) (short_room (length new), 0, 0, words))
      (bare 12, 0, 0, words)

  -- within the limit and with room, it is what was read
  roomy : {ws : List ℕ} {x : Outcome Element} → length so_far ≤ limit → NewWords f taken piece ws → length ws ≤ length words
      → read_in f so_far ≡ x → told ≡ told_read x
  roomy {ws} within n room q =
      let t1 = le-leb (length so_far) limit within in
      let t2 : leb (length new) (length words) ≡ true =
      le-leb (length new) (length words) (subst (λ (l : List ℕ). length l ≤ length words) (new_is n) room) in
      simp (t1, t2) (ap told_read q)

  -- the words handed out are the new ones
  with_words : {ws : List ℕ} (a : Answer) {i j : ℕ} → i ≡ j → NewWords f taken piece ws
      → ◌≡◌ {A = Told} (a, i, length new, over words new) (a, j, length ws, over words ws)
  with_words a q n = ap₂ (λ (i : ℕ) (l : List ℕ). (a, i, length l, over words l)) q (sym (new_is n))

  row_told : {a : Answer} {i k : ℕ} {after : List ℕ} → FedRow f taken piece ended words a i k after → told ≡ (a, i, k, after)
  row_told (FedRow.over_limit beyond) = simp (lt-leb (length so_far) limit beyond)
  row_told (FedRow.room_is_short {ws} within n room) =
      let t1 = le-leb (length so_far) limit within in
      let t2 : leb (length new) (length words) ≡ false =
      lt-leb (length new) (length words) (subst (λ (l : List ℕ). length words < length l) (new_is n) room) in
      simp (t1, t2) (ap (λ (l : List ℕ). (short_room (length l), 0, 0, words)) (sym (new_is n)))
  row_told (FedRow.fault {ws} {r} {n = e} {p} {d} within n room at four) =
      roomy within n room ((refused_exactly f so_far r e p d).1 at)
      ∙ simp (is_fault r ended (fault_small at).some four) (with_words (answer r e p d) refl n)
  row_told (FedRow.so_far {ws} {ps} {es} within n room (GoesOn.finished run) counts more) =
      roomy within n room ((accepted_exactly f so_far es).1 (ps, run))
      ∙ with_words _ (goes_respelled f so_far (GoesOn.finished run) counts) n
  row_told (FedRow.so_far {ws} within n room (GoesOn.unfinished {n = e} {p} {d} at) counts more) =
      let w = words_are f so_far (WordsUpToFault.words_of_all (UpToFault.to_a_fault at)) in
      let count : ℕ = length (words_before f so_far) in
      roomy within n room ((refused_exactly f so_far 4 e p d).1 at)
      ∙ ap
      (λ (t : Bool). pick t (answer 4 e p d, 0, length new, over words new)
      (answer 0 e (length so_far) count, told_number, length new, over words new)) more
      ∙ ap₂ (λ (i c : ℕ). (answer 0 i (length so_far) c, told_number, length new, over words new)) at.element_number (ap length w)
      ∙ with_words _ (goes_respelled f so_far (GoesOn.unfinished at) counts) n
  row_told (FedRow.accepted {ws} {ps} {es} {k} within n room run counts end) =
      roomy within n room ((accepted_exactly f so_far es).1 (ps, run)) ∙ with_words _ ((respelled_exactly f run k).1 counts) n

  pub one_row : {a b : Answer} {i j k l : ℕ} {after after' : List ℕ} → FedRow f taken piece ended words a i k after
      → FedRow f taken piece ended words b j l after' → (a ≡ b) × (i ≡ j) × (k ≡ l) × (after ≡ after')
  one_row p q =
      let e = sym (row_told p) ∙ row_told q in
      (ap (λ (t : Told). t.0) e, ap (λ (t : Told). t.1) e, ap (λ (t : Told). t.2) e, ap (λ (t : Told). t.3) e)
