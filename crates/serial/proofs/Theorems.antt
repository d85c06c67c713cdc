-- The theorems of request No. 1, with the fifth number of No. 5, over every list of calls: a page in pieces is the page. `repeated`
-- (Repeating), `call_leaves`, `nine_keeps` and `nine_left_out` (EveryCarry) stand beside them.
-- Assumes nothing.
use Prim.Native.Nat.{ℕ, ◌≤◌, ◌<◌}
use mathlib.Core.Path.{◌≡◌, refl, sym, ap, ap₂, ◌∙◌, subst, subst₂}
use mathlib.Core.Logic.{◌↔◌, ◌⊎◌, inl, inr}
use mathlib.Core.Bool.{Bool}
use mathlib.Core.List.{List, [], ◌∷◌, ◌++◌}
use native.Mathlib.Omega.{arith}
use lib.ListN.{length}
use Rattle.run.specs.Grammar.{Run, done}
use Rattle.run.specs.Head.{Outcome, accepted, refusal}
use Rattle.run.specs.Tally.{Apart}
use Rattle.run.specs.declared.Answer.{Answer}
use Rattle.run.specs.declared.ReadAnswer.{ReadAnswer}
use Rattle.run.specs.Answers.{answer, bare, short_room, given, carrying, roomy_answer}
use Rattle.run.proofs.Answers.{carrying_it}
use Rattle.run.proofs.Outcomes.{placed}
use Rattle.run.proofs.Before.{given_before}
use Rattle.sorts.specs.declared.Form.{Form}
use Rattle.std.specs.Prelude.{Some, None}
use Rattle.sorts.specs.Forms.{form_of, NoForm}
use Rattle.sorts.proofs.FormNumbers.{none_exactly}
use Rattle.element_words.specs.declared.Element.{Element}
use Rattle.element_words.specs.Words.{words_of}
use Rattle.element_spelling.specs.ElementOctets.{CanonicalElement}
use Rattle.element_reading.proofs.Reader.{reads}
use Rattle.element_reading.specs.Grammar.{Spells, CutShort}
use Rattle.element_reading.specs.ElementNumbers.{reading}
use Rattle.element_reading.proofs.Deciding.{cut_exactly}
use Rattle.text_loops.specs.Fronts.{read_in, words_before, respelled_before}
use Rattle.text_loops.proofs.Tallied.{tally_start, tally_end}
use Rattle.text_reading.specs.ReadAnswers.{read_reading}
use Rattle.text_reading.specs.ReadingNumbers.{limit}
use Rattle.text_reading.proofs.ReadTexts.{accepted_exactly, measure_is}
use Rattle.text_reading.proofs.Respelled.{respelled_is, respelled_exactly}
use Rattle.serial.specs.declared.Carry.{Carry}
use Rattle.serial.specs.declared.Fed.{Fed}
use Rattle.serial.specs.SerialNumbers.{UpToFault, WordsUpToFault, NewWords, GoesOn, FedRow}
use Rattle.serial.specs.Feeding.{waiting, kept_by, feed_answer, feed_words, fresh_carry, fresh_answer}
use Rattle.serial.specs.Promises.{FeedPromise}
use Rattle.serial.specs.Calls.{
  Call,
  answer_to,
  Calls,
  Session,
  without,
  pieces,
  page,
  taken,
  handed_out,
  OnlyLast,
  Ends,
  Repeats,
  AllGo,
  Final,
  Carried,
}
use Rattle.open_elements.proofs.Faults.{fault_small}
use Rattle.serial.proofs.WordsUpTo.{words_are, words_some}
use Rattle.serial.proofs.Holding.{Open, Holds, words_sofar, Fares, fares}
use Rattle.serial.proofs.OneRow.{one_new}
use Rattle.serial.proofs.Repeating.{Says, says_repeats}
use Rattle.serial.proofs.Pages.{
  words_of_calls,
  final_of_calls,
  taken_of_calls,
  holds_of_calls,
  goes_on,
  carries_apart,
  fed_row,
  none_waits,
  go_only,
  go_taken,
}

-- a fresh carry of a form
fresh_holds : {f : Form} (form : ℕ) → form_of form ≡ Some f → Holds f [] (fresh_carry form)
unfolding given
fresh_holds {f} form is =
    record {
      front = [];
      es = [];
      whole = refl;
      run = ([], done);
      begun = Open.nothing refl;
      is_form = is;
      goes = refl;
      respelled = tally_end f [] (tally_start f []) (omega arith);
      size = refl;
      few = omega arith;
      within = omega arith;
      says = refl;
    }

made_fresh : {f : Form} (form : ℕ) → form_of form ≡ Some f → fresh_answer form ≡ kept_by (fresh_carry form) (bare 0)
unfolding fresh_answer
made_fresh form is = simp is

not_made : (form : ℕ) → form_of form ≡ None → fresh_answer form ≡ kept_by (fresh_carry 0) (bare 11)
unfolding fresh_answer
not_made form is = simp is

-- 12 is answered exactly when the piece would pass the limit, "before reading it"
pub past_exactly : {f : Form} {octets piece words after : List ℕ} {ended : Bool} {a : Answer} {k handed : ℕ}
    → FedRow f octets piece ended words a k handed after → (a.number ≡ 12) ↔ (limit < length (octets ++ piece))
past_exactly (FedRow.over_limit beyond) = (λ e. beyond, λ k. refl)
past_exactly (FedRow.room_is_short within new room) = (λ e. absurd (omega (arith, e)), λ k. absurd (omega (arith, within, k)))
past_exactly (FedRow.fault within new room at four) =
    (λ e. absurd (omega (arith, e, (fault_small at).number)), λ k. absurd (omega (arith, within, k)))
past_exactly (FedRow.so_far within new room on counts more) = (λ e. absurd (omega (arith, e)), λ k. absurd (omega (arith, within, k)))
past_exactly (FedRow.accepted within new room run counts ended) = (λ e. absurd (omega (arith, e)), λ k. absurd (omega (arith, within, k)))

-- 9 says how many words are to be handed out, and they do not fit
short_says : {f : Form} {octets piece words after : List ℕ} {ended : Bool} {a : Answer} {k handed : ℕ}
    → FedRow f octets piece ended words a k handed after → a.number ≡ 9
    → (ws : List ℕ) × NewWords f octets piece ws × (length words < length ws) × (a ≡ short_room (length ws))
short_says (FedRow.over_limit beyond) nine = absurd (omega (arith, nine))
short_says (FedRow.room_is_short {ws} within new room) nine = (ws, new, room, refl)
short_says (FedRow.fault within new room at four) nine = absurd (omega (arith, nine, (fault_small at).number))
short_says (FedRow.so_far within new room on counts more) nine = absurd (omega (arith, nine))
short_says (FedRow.accepted within new room run counts ended) nine = absurd (omega (arith, nine))

-- 9 is answered exactly when the piece is within the limit and the words to hand out do not fit, "even where a fault follows"
module _ {f : Form} {octets piece ws : List ℕ} (new : NewWords f octets piece ws) where
  same_size : {ws' : List ℕ} → NewWords f octets piece ws' → length ws' ≡ length ws
  same_size n = ap length (one_new n new)

  pub short_exactly : {words : List ℕ} {ended : Bool} {a : Answer} {k handed : ℕ} {after : List ℕ}
      → FedRow f octets piece ended words a k handed after
      → (a.number ≡ 9) ↔ ((length (octets ++ piece) ≤ limit) × (length words < length ws))
  short_exactly (FedRow.over_limit beyond) = (λ e. absurd (omega (arith, e)), λ h. absurd (omega (arith, beyond, h.0)))
  short_exactly (FedRow.room_is_short within n room) = (λ e. (within, omega (arith, room, same_size n)), λ h. refl)
  short_exactly (FedRow.fault within n room at four) =
      (λ e. absurd (omega (arith, e, (fault_small at).number)), λ h. absurd (omega (arith, room, h.1, same_size n)))
  short_exactly (FedRow.so_far within n room on counts more) =
      (λ e. absurd (omega (arith, e)), λ h. absurd (omega (arith, room, h.1, same_size n)))
  short_exactly (FedRow.accepted within n room run counts end) =
      (λ e. absurd (omega (arith, e)), λ h. absurd (omega (arith, room, h.1, same_size n)))

-- a text whose answer is 0 is accepted
module _ (f : Form) (s : List ℕ) {a : Answer} (e : a ≡ roomy_answer words_of (length s) (read_in f s)) (zero : a.number ≡ 0) where
  final_read : (es : List Element) × (read_in f s ≡ accepted es)
  final_read = go (read_in f s) refl
    where
      go : (x : Outcome Element) → read_in f s ≡ x → (es : List Element) × (read_in f s ≡ accepted es)
      go (accepted es) q = (es, q)
      go (refusal r n p d) q =
          let k : a.number ≡ r = ap (λ (b : Answer). b.number) (e ∙ ap (roomy_answer words_of (length s)) q) in
          absurd (omega (arith, k, zero, (placed (reads f) s r n p d q).number))

  -- so its count is that of its words
  final_count : a.count ≡ length (words_before f s)
  final_count =
      let r = final_read in
      ap (λ (b : Answer). b.count) (e ∙ ap (roomy_answer words_of (length s)) r.1)
      ∙ ap length (sym (given_before (reads f) words_of s r.0 r.1))

module _ {form : ℕ} {f : Form} (is : form_of form ≡ Some f) {calls : List Call} {d : Carry} (session : Session form calls d) where
  begun : Calls (fresh_carry form) calls d
  begun = subst (λ (c : Carry). Calls c calls d) (ap (λ (r : Fed). r.carry) (session.fresh ∙ made_fresh form is)) session.fed

  -- "the words handed out up to the first refusal are those of the elements before it", of the octets taken: each once and in order
  pub handed_out_lem : OnlyLast (without (9 ∷ []) calls) → WordsUpToFault f (taken calls) (handed_out calls)
  unfolding given
  handed_out_lem only =
      let none : words_before f [] ≡ [] = words_are f [] (WordsUpToFault.words_of_all (UpToFault.to_the_end ([], done))) in
      let e = words_of_calls begun [] (fresh_holds form is) only in
      subst (WordsUpToFault f (taken calls)) (sym e ∙ ap (λ (l : List ℕ). l ++ handed_out calls) none) (words_some f (taken calls))

  -- all but the last are not told that the page ends
  ends_only : {xs : List Call} {a : ReadAnswer} → Ends xs a → OnlyLast xs
  ends_only (Ends.last e) = OnlyLast.last
  ends_only (Ends.earlier e l) = OnlyLast.earlier e (ends_only l)

  -- "for a page within the size limit the final answer is the whole page's under 01, the count on acceptance being of all words handed
  -- out"; all five numbers are those of reading the page as one text; and the words handed out are those of the elements before the end or
  -- the first fault of the whole page
  pub whole_page : {a : ReadAnswer} → Ends (without (9 ∷ []) calls) a → length (page calls) ≤ limit
      → (a ≡ read_reading form (page calls) (length (page calls))) × WordsUpToFault f (page calls) (handed_out calls)
      × (a.answer.number ≡ 0 → a.answer.count ≡ length (handed_out calls))
  whole_page ends within =
      let whole = final_of_calls begun [] (fresh_holds form is) ends within in
      let words =
      subst (λ (l : List ℕ). WordsUpToFault f l (handed_out calls)) (taken_of_calls begun [] (fresh_holds form is) within)
      (handed_out_lem (ends_only ends)) in (
        whole ∙ ap₂ carrying (sym (measure_is form f is (page calls) within)) (sym (respelled_is form f is (page calls))),
        words,
        λ zero. final_count f (page calls) (ap (λ (b : ReadAnswer). b.answer) whole) zero ∙ ap length (words_are f (page calls) words),
      )

  -- No. 5: "An accepted reading (of a .. serial page too) .. carries a fifth number: elements not canonical": however the page is cut, of
  -- all its elements, as reading it as one text counts them
  pub page_respelled : {a : ReadAnswer} → Ends (without (9 ∷ []) calls) a → length (page calls) ≤ limit → a.answer.number ≡ 0
      → (a.respelled ≡ respelled_before f (page calls))
      × (ps : List (List ℕ)) × (es : List Element) × Run (Spells f) (page calls) ps es × Apart (CanonicalElement f) ps es a.respelled
  page_respelled {a} ends within zero =
      let whole = final_of_calls begun [] (fresh_holds form is) ends within in
      let four : Answer = roomy_answer words_of (length (page calls)) (read_in f (page calls)) in
      let is-four : a.answer ≡ four = ap (λ (b : ReadAnswer). b.answer) whole in
      let read = final_read f (page calls) is-four zero in
      let run = (accepted_exactly f (page calls) read.0).0 read.1 in
      let carried = carrying_it four (respelled_before f (page calls)) (sym (ap (λ (b : Answer). b.number) is-four) ∙ zero) in
      let fifth : a.respelled ≡ respelled_before f (page calls) = ap (λ (b : ReadAnswer). b.respelled) (whole ∙ sym carried) in
      (fifth, run.0, read.0, run.1, (respelled_exactly f run.1 a.respelled).0 (sym fifth))

  -- While the page goes on, each call is answered by its row, of the octets taken so far.
  pub call_row : AllGo calls → (x : Call) → FeedPromise d x.piece x.ended x.words x.fed x.after
      → FedRow f (page calls) x.piece x.ended x.words (answer_to x) x.fed.respelled x.fed.handed x.after
  call_row go x p =
      fed_row
      (subst₂ (Fares f (page calls) d x.piece x.ended x.words) (sym p.0) (sym p.1)
      (fares (holds_of_calls begun [] (fresh_holds form is) go) x.piece x.ended x.words))

  -- "before the end it answers 0 with the elements, octets taken and words since fresh": of the text so far, and of all words handed out;
  -- and the fifth number is that of the elements so far
  pub so_far : AllGo calls
      → (ps : List (List ℕ)) × (es : List Element) × GoesOn f (page calls) ps es
      × (d.answer ≡ answer 0 (length es) (length (page calls)) (length (handed_out calls)))
      × Apart (CanonicalElement f) ps es d.respelled
  so_far go =
      let h = holds_of_calls begun [] (fresh_holds form is) go in
      let words : WordsUpToFault f (page calls) (handed_out calls) =
      subst (λ (l : List Call). WordsUpToFault f (pieces l) (handed_out calls)) (go_taken go) (handed_out_lem (go_only go)) in
      let same : given words_of h.es ≡ handed_out calls =
      sym (words_are f (page calls) (words_sofar h)) ∙ words_are f (page calls) words in
      let says = h.says ∙ ap (λ (l : List ℕ). answer 0 (length h.es) (length (page calls)) (length l)) same in
      (h.run.0, h.es, goes_on h, says, carries_apart h)

  -- 12 exactly when the piece would pass the limit, counted since fresh
  pub past_limit : AllGo calls → (x : Call) → FeedPromise d x.piece x.ended x.words x.fed x.after
      → ((answer_to x).number ≡ 12) ↔ (limit < length (page calls ++ x.piece))
  past_limit go x p = past_exactly (call_row go x p)

  -- "Short room .. so the piece can be offered again": with the room that 9 names it is not 9
  pub nine_again : AllGo calls → (x y : Call) → FeedPromise d x.piece x.ended x.words x.fed x.after
      → FeedPromise d y.piece y.ended y.words y.fed y.after → (answer_to x).number ≡ 9 → y.piece ≡ x.piece
      → (answer_to x).count ≤ length y.words → (answer_to y).number ≡ 9 → ⊥
  nine_again go x y p q nine same room again =
      let s = short_says (call_row go x p) nine in
      let t = short_says
      (subst (λ (l : List ℕ). FedRow f (page calls) l y.ended y.words (answer_to y) y.fed.respelled y.fed.handed y.after)
      same (call_row go y q)) again in
      let e = one_new s.1 t.1 in
      omega (arith, ap (λ (a : Answer). a.count) s.3, t.2, ap length e, room)

  -- "carries an unfinished element of at most 39 octets"
  pub carried : AllGo calls → Carried f (page calls) d
  carried go = of_holds (holds_of_calls begun [] (fresh_holds form is) go)
    where
      by_open : Open f (waiting d) → (waiting d ≡ []) ⊎ CutShort f (waiting d)
      by_open (Open.nothing e) = inl e
      by_open (Open.begun k) = inr ((cut_exactly f (waiting d)).0 k)

      of_holds : Holds f (page calls) d → Carried f (page calls) d
      of_holds h =
          record {
            front = h.front;
            elements = h.es;
            whole = h.whole;
            run = h.run;
            respelled = carries_apart h;
            unfinished = by_open h.begun;
            size = h.size;
            few = h.few;
          }

  -- and nothing once the page has ended or is refused
  pub nothing_waits : AllGo calls → (x : Call) → FeedPromise d x.piece x.ended x.words x.fed x.after → Final x
      → x.fed.carry.holds ≡ 0
  nothing_waits go x p final =
      none_waits
      (subst₂ (Fares f (page calls) d x.piece x.ended x.words) (sym p.0) (sym p.1)
      (fares (holds_of_calls begun [] (fresh_holds form is) go) x.piece x.ended x.words))
      final.not_9 final.at_end

-- "However a page is cut": two cuts of one page within the limit hand out the same words and end in the same answer, its fifth number too.
pub same_page : {form : ℕ} {f : Form} → form_of form ≡ Some f → {calls calls' : List Call} {d d' : Carry} {a a' : ReadAnswer}
    → Session form calls d → Session form calls' d' → Ends (without (9 ∷ []) calls) a → Ends (without (9 ∷ []) calls') a'
    → page calls ≡ page calls' → length (page calls) ≤ limit → (a ≡ a') × (handed_out calls ≡ handed_out calls')
same_page {form} {f} is {calls} {calls'} s s' ends ends' same within =
    let one = whole_page is s ends within in
    let two = whole_page is s' ends' (subst (λ (l : List ℕ). length l ≤ limit) same within) in (
      one.0 ∙ ap (λ (l : List ℕ). read_reading form l (length l)) same ∙ sym two.0,
      sym (words_are f (page calls) one.1) ∙ ap (words_before f) same ∙ words_are f (page calls') two.1,
    )

-- `FRESH` has no form: it answers 11 to whatever it is fed
fresh_says : Says (fresh_carry 0) (reading (bare 11) 0)
unfolding feed_answer feed_words
fresh_says piece ended words = (refl, refl)

-- "11 when made fresh"; and it is repeated
pub no_form_repeats : {form : ℕ} {calls : List Call} {d : Carry} → NoForm form → (session : Session form calls d)
    → (session.made ≡ kept_by (fresh_carry 0) (bare 11)) × Repeats (reading (bare 11) 0) calls
no_form_repeats {form} none session =
    let e = session.fresh ∙ not_made form ((none_exactly form).1 none) in
    (e, says_repeats (fresh_carry 0) (reading (bare 11) 0) fresh_says (ap (λ (r : Fed). r.carry) e) session.fed)
