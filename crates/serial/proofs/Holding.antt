-- A carry of a page that goes on, after the octets taken; and what one call makes of it.
-- Assumes nothing.
use Prim.Native.Nat.{ℕ, ◌+◌, ◌-◌, ◌≤◌, ◌<◌}
use mathlib.Core.Path.{◌≡◌, refl, sym, ap, ap₂, ◌∙◌, subst, subst₂}
use mathlib.Core.Bool.{Bool, true, false}
use mathlib.Core.List.{List, [], ◌++◌, append_assoc, append-nil}
use native.Mathlib.Omega.{arith}
use lib.Dec.{eqb, leb}
use lib.ListN.{length, take, drop, length-append, drop_of_length-le}
use lib.Seq.{take-append_seam, drop-append_seam}
use borrow.Author.Tests.{le-leb, leb-true, leb-false, eqb-true, eqb-false}
use Rattle.run.specs.Choice.{pick}
use Rattle.run.specs.Head.{Outcome, accepted, refusal}
use Rattle.run.specs.Grammar.{RunOf}
use Rattle.run.specs.declared.Answer.{Answer}
use Rattle.run.specs.Answers.{answer, bare, short_room, given, over}
use Rattle.run.proofs.Outcomes as outcomes
use Rattle.run.proofs.Answers.{given_append, given_length}
use Rattle.sorts.specs.declared.Form.{Form}
use Rattle.std.specs.Prelude.{Some}
use Rattle.sorts.specs.Forms.{form_of}
use Rattle.element_words.specs.declared.Element.{Element}
use Rattle.element_words.specs.Words.{words_of}
use Rattle.element_reading.specs.Grammar.{Spells, Refuses}
use Rattle.element_reading.proofs.Reader.{reads, refuses_exactly_by}
use Rattle.element_reading.proofs.Deciding.{unfinished}
use Rattle.text_loops.specs.declared.Measured.{Measured}
use Rattle.text_loops.specs.Fronts.{read_in, respelled_before}
use Rattle.text_reading.specs.ReadingNumbers.{limit, ReadingFault}
use Rattle.text_reading.proofs.ReadTexts.{accepted_exactly}
use Rattle.text_reading.proofs.Respelled.{respelled_joined, respelled_few}
use Rattle.serial.specs.declared.Carry.{Carry}
use Rattle.serial.specs.declared.Fed.{Fed}
use Rattle.serial.specs.SerialNumbers.{UpToFault, WordsUpToFault, NewWords}
use Rattle.open_elements.specs.OpenElements.{open_head, is_open}
use Rattle.serial.specs.Feeding.{
  waiting,
  could_go,
  kept_by,
  stopped_by,
  gone_on,
  no_octets,
  fed_by,
  fed_in,
  words_in,
  feed_answer,
  feed_words,
  so_far,
  fault_at,
  faulted_by,
  ended_by,
  waits_by,
}
use Rattle.open_elements.proofs.Fronts.{accepted_measured, ReadTo, refused_read, refused_measured, fault_respelled}
use Rattle.open_elements.proofs.Faults.{fault_small, run_small}

-- none wait, or all that wait are refused with 4
pub data Open (f : Form) (s : List ℕ) : Type 0 where
  nothing : s ≡ [] → Open f s
  begun : Refuses f s 4 (length s) → Open f s

-- the carry after the octets taken, of a page that goes on
pub record Holds (f : Form) (octets : List ℕ) (c : Carry) : Type 0 where
  pub front : List ℕ
  pub es : List Element
  pub whole : octets ≡ front ++ waiting c
  pub run : RunOf (Spells f) front es
  pub begun : Open f (waiting c)
  pub is_form : form_of c.form ≡ Some f
  pub goes : c.stopped ≡ 0
  pub respelled : c.respelled ≡ respelled_before f front
  pub size : c.holds ≡ length (waiting c)
  pub few : c.holds ≤ 39
  pub within : length octets ≤ limit
  pub says : c.answer ≡ answer 0 (length es) (length octets) (length (given words_of es))

open_true : {f : Form} {s : List ℕ} → Open f s → is_open f s ≡ true
open_true {f} {s} (Open.nothing e) = ap (is_open f) e ∙ ap open_head (reads f).ends
open_true {f} {s} (Open.begun r) = ap open_head ((refuses_exactly_by f s 4 (length s)).1 r)

-- the text's elements up to there
upto : {f : Form} {front s : List ℕ} {es : List Element} → RunOf (Spells f) front es → Open f s → UpToFault f (front ++ s) es
upto {f} {front} {s} {es} r (Open.nothing e) =
    subst (λ (l : List ℕ). UpToFault f l es) (sym (append-nil front) ∙ ap (λ (l : List ℕ). front ++ l) (sym e)) (UpToFault.to_the_end r)
upto {f} {front} {s} {es} r (Open.begun k) =
    UpToFault.to_a_fault {r = 4}
    (record {
      front = front;
      rest = s;
      elements = es;
      behind = length s;
      whole = refl;
      run = r;
      here = k;
      element_number = refl;
      first_place = refl;
      deciding = refl;
    })

module _ {f : Form} {octets : List ℕ} {c : Carry} (h : Holds f octets c) where
  sizes : length octets ≡ length h.front + c.holds
  sizes = ap length h.whole ∙ length-append h.front (waiting c) ∙ ap (λ (k : ℕ). length h.front + k) (sym h.size)

  pub could_go_lem : could_go f c ≡ true
  could_go_lem =
      let small = run_small h.run in
      let few = respelled_few f h.front h.es ((accepted_exactly f h.front h.es).1 h.run) in
      let t0 : leb c.respelled (length h.es) ≡ true = le-leb c.respelled (length h.es) (omega (arith, h.respelled, few)) in
      let t1 : leb c.holds 39 ≡ true = le-leb _ _ h.few in
      let t2 : leb (length octets) limit ≡ true = le-leb _ _ h.within in
      let t3 : leb c.holds (length octets) ≡ true = le-leb c.holds (length octets) (omega (arith, sizes)) in
      let left : ℕ = length octets - c.holds in
      let t4 : leb (length h.es) left ≡ true = le-leb (length h.es) left (omega (arith, sizes, small)) in
      let ws : List ℕ = given words_of h.es in
      let t5 : leb (length ws) left ≡ true = le-leb (length ws) left (omega (arith, sizes, small)) in
      simp (h.says, t0, t1, t2, t3, t4, t5, open_true h.begun)

  -- the words so far
  pub words_sofar : WordsUpToFault f octets (given words_of h.es)
  words_sofar =
      subst (λ (l : List ℕ). WordsUpToFault f l (given words_of h.es)) (sym h.whole)
      (WordsUpToFault.words_of_all (upto h.run h.begun))

-- ---- one call

-- what it comes to: the answer and the carry, and what the lent words hold after
module _ (f : Form) (octets : List ℕ) (c : Carry) (piece : List ℕ) (ended : Bool) (words : List ℕ) where
  pub data Fares : Fed → List ℕ → Type 0 where
    past : limit < length (octets ++ piece) → Fares (stopped_by c.form (bare 12) 0 0) words
    short : {ws : List ℕ} → length (octets ++ piece) ≤ limit → NewWords f octets piece ws → length words < length ws
        → Fares (kept_by c (short_room (length ws))) words
    faulted : {ws : List ℕ} {r n p d : ℕ} → length (octets ++ piece) ≤ limit → NewWords f octets piece ws → length ws ≤ length words
        → ReadingFault f (octets ++ piece) r n p d → (r ≡ 4 → ended ≡ true)
        → Fares (stopped_by c.form (answer r n p d) 0 (length ws)) (over words ws)
    goes : {ws : List ℕ} {next : Carry} → length (octets ++ piece) ≤ limit → NewWords f octets piece ws → length ws ≤ length words
        → Holds f (octets ++ piece) next → ended ≡ false
        → Fares (record { carry = next; answer = next.answer; respelled = next.respelled; handed = length ws }) (over words ws)
    finished : {ws : List ℕ} {es : List Element} → length (octets ++ piece) ≤ limit → NewWords f octets piece ws
        → length ws ≤ length words → RunOf (Spells f) (octets ++ piece) es → ended ≡ true
        → Fares
        (stopped_by c.form (answer 0 (length es) (length (octets ++ piece)) (length (given words_of es)))
        (respelled_before f (octets ++ piece)) (length ws))
        (over words ws)

-- ---- what one call makes of the carry

module _ {f : Form} {octets : List ℕ} {c : Carry} (h : Holds f octets c) (piece : List ℕ) (ended : Bool) (words : List ℕ) where
  abbrev s : List ℕ
  s = waiting c ++ piece

  -- what was read of them: an answer, the words of so many elements, and how many were not canonical
  abbrev read_as : List Element → Answer → Measured
  read_as fs a = record { answer = a; words = length (given words_of fs); respelled = respelled_before f s }

  abbrev now_whole : octets ++ piece ≡ h.front ++ s
  now_whole = ap (λ (l : List ℕ). l ++ piece) h.whole ∙ append_assoc h.front (waiting c) piece

  now_size : length octets + length piece ≡ length (octets ++ piece)
  now_size = sym (length-append octets piece)

  -- the page goes on: 12, or what was read
  going : (feed_answer c piece ended (length words)
      ≡ pick (leb (length (octets ++ piece)) limit) (fed_in f c piece ended (length words)) (stopped_by c.form (bare 12) 0 0))
      × (feed_words c piece words ≡ pick (leb (length (octets ++ piece)) limit) (words_in f c piece words) words)
  unfolding feed_answer feed_words
  going =
      let place : c.answer.place + length piece ≡ length (octets ++ piece) =
      ap (λ (a : Answer). a.place + length piece) h.says ∙ now_size in
      let could = could_go_lem h in
      (simp (h.is_form, h.goes, could, place), simp (h.is_form, h.goes, could, place))

  -- the elements that the piece adds, and their words
  upto_now : (fs : List Element) → UpToFault f (h.front ++ s) (h.es ++ fs) → NewWords f octets piece (given words_of fs)
  upto_now fs u =
      record {
        before = given words_of h.es;
        were = words_sofar h;
        are =
            subst₂ (WordsUpToFault f) (sym now_whole) (given_append words_of h.es fs) (WordsUpToFault.words_of_all u);
      }

  -- the numbers so far
  numbers_now : (fs : List Element) (a : Answer) → a.element ≡ length fs
      → so_far c.answer (length piece) (read_as fs a)
      ≡ answer 0 (length (h.es ++ fs)) (length (octets ++ piece)) (length (given words_of (h.es ++ fs)))
  numbers_now fs a e =
      simp (h.says, e, length-append h.es fs, length-append octets piece, given_length words_of h.es fs)

  -- and the fifth: it adds up behind the elements that were read before
  respelled_now : (u : List ℕ) → respelled_before f s ≡ respelled_before f u
      → c.respelled + respelled_before f s ≡ respelled_before f (h.front ++ u)
  respelled_now u e =
      ap₂ ◌+◌ h.respelled e ∙ sym (respelled_joined f h.front u h.es h.run)

  -- a fault's numbers
  fault_now : (r n p d : ℕ)
      → fault_at c.answer c.holds (answer r n p d)
      ≡ answer r (length h.es + n) (length h.front + p) (length h.front + d)
  fault_now r n p d =
      let before : c.answer.place - c.holds ≡ length h.front = omega (arith, ap (λ (a : Answer). a.place) h.says, sizes h) in
      let elements : c.answer.element ≡ length h.es = ap (λ (a : Answer). a.element) h.says in
      simp (before, elements)

  module _ (within : length (octets ++ piece) ≤ limit) where
    abbrev Now : Fed → List ℕ → Type 0
    Now = Fares f octets c piece ended words

    -- the carry where the page goes on, with `rest` waiting
    holds_now : (front rest : List ℕ) (es : List Element) (a : Answer) (k handed : ℕ) → octets ++ piece ≡ front ++ rest
        → RunOf (Spells f) front es → Open f rest → length rest ≤ 39
        → a ≡ answer 0 (length es) (length (octets ++ piece)) (length (given words_of es)) → k ≡ respelled_before f front
        → Holds f (octets ++ piece) (gone_on c.form rest a k handed).carry
    holds_now front rest es a k handed w r o few e told =
        let is : take (length rest) (over no_octets rest) ≡ rest = take-append_seam rest (drop (length rest) no_octets) in
        record {
          front = front;
          es = es;
          whole = w ∙ ap (λ (l : List ℕ). front ++ l) (sym is);
          run = r;
          begun = subst (Open f) (sym is) o;
          is_form = h.is_form;
          goes = refl;
          respelled = told;
          size = ap length (sym is);
          few = few;
          within = within;
          says = e;
        }

    -- by the room
    by_room : (fs : List Element) (a : Answer) → NewWords f octets piece (given words_of fs) →
        let m : Measured = read_as fs a in
        (length (given words_of fs) ≤ length words → Now (fed_by c (length piece) ended s m) (over words (given words_of fs)))
        → (t : Bool) → leb (length (given words_of fs)) (length words) ≡ t
        → Now (pick t (fed_by c (length piece) ended s m) (kept_by c (short_room (length (given words_of fs)))))
        (pick t (over words (given words_of fs)) words)
    by_room fs a new roomy true e = roomy (leb-true _ _ e)
    by_room fs a new roomy false e = Fares.short within new (leb-false _ _ e)

    -- the octets are elements
    module _ (fs : List Element) (q : read_in f s ≡ accepted fs) where
      run_now : RunOf (Spells f) (h.front ++ s) (h.es ++ fs)
      run_now = outcomes.run_append h.run.1 ((accepted_exactly f s fs).0 q).1

      abbrev accepted_now : Measured
      accepted_now = read_as fs (answer 0 (length fs) (length s) (length (given words_of fs)))

      accepted_new : NewWords f octets piece (given words_of fs)
      accepted_new = upto_now fs (UpToFault.to_the_end run_now)

      accepted_end : length (given words_of fs) ≤ length words → (t : Bool) → ended ≡ t
          → Now (pick t (ended_by c (length piece) accepted_now) (waits_by c (length piece) s accepted_now)) (over words (given words_of fs))
      accepted_end room true e =
          subst₂ (λ (a : Answer) (k : ℕ). Now (stopped_by c.form a k (length (given words_of fs))) (over words (given words_of fs)))
          (sym (numbers_now fs accepted_now.answer refl))
          (ap (respelled_before f) now_whole ∙ sym (respelled_now s refl))
          (Fares.finished within accepted_new room (subst (λ (l : List ℕ). RunOf (Spells f) l (h.es ++ fs)) (sym now_whole) run_now) e)
      accepted_end room false e =
          let rest : drop (length s) s ≡ [] = drop_of_length-le s {i = length s} (omega arith) in
          Fares.goes within accepted_new room
          (holds_now (h.front ++ s) (drop (length s) s) (h.es ++ fs) _ _ (length (given words_of fs))
          (now_whole ∙ sym (append-nil (h.front ++ s)) ∙ ap (λ (l : List ℕ). (h.front ++ s) ++ l) (sym rest)) run_now (Open.nothing rest)
          (omega (arith, ap length rest)) (numbers_now fs accepted_now.answer refl) (respelled_now s refl))
          e

    -- the octets meet a fault
    module _ {r n p d : ℕ} (z : ReadTo f s r n p d) where
      abbrev fs' : List Element
      fs' = z.fault.elements

      abbrev refused_now : Measured
      refused_now = read_as fs' (answer r n p d)

      refused_new : NewWords f octets piece (given words_of fs')
      refused_new = upto_now fs' (UpToFault.to_a_fault (outcomes.stopped_behind h.run z.fault))

      -- it stops the page
      refused_stop : length (given words_of fs') ≤ length words → (r ≡ 4 → ended ≡ true)
          → Now (faulted_by c refused_now) (over words (given words_of fs'))
      refused_stop room four =
          subst (λ (a : Answer). Now (stopped_by c.form a 0 (length (given words_of fs'))) (over words (given words_of fs')))
          (sym (fault_now r n p d))
          (Fares.faulted within refused_new room
          (subst (λ (l : List ℕ). ReadingFault f l r (length h.es + n) (length h.front + p) (length h.front + d)) (sym now_whole)
          (outcomes.stopped_behind h.run z.fault)) four)

      -- it is an unfinished element
      refused_waits : length (given words_of fs') ≤ length words → r ≡ 4 → ended ≡ false
          → Now (waits_by c (length piece) s refused_now) (over words (given words_of fs'))
      refused_waits room four e =
          let k : Refuses f z.fault.rest 4 z.fault.behind =
          subst (λ (m : ℕ). Refuses f z.fault.rest m z.fault.behind) four z.fault.here in
          let u = unfinished f k in
          let rest : drop p s ≡ z.fault.rest =
          ap₂ drop z.fault.first_place z.fault.whole ∙ drop-append_seam z.fault.front z.fault.rest in
          let whole : octets ++ piece ≡ (h.front ++ z.fault.front) ++ drop p s =
          now_whole
          ∙ ap (λ (l : List ℕ). h.front ++ l) z.fault.whole
          ∙ sym (append_assoc h.front z.fault.front z.fault.rest)
          ∙ ap (λ (l : List ℕ). (h.front ++ z.fault.front) ++ l) (sym rest) in
          let open' : Open f (drop p s) =
          subst (Open f) (sym rest) (Open.begun (subst (Refuses f z.fault.rest 4) u.0 k)) in
          Fares.goes within refused_new room
          (holds_now (h.front ++ z.fault.front) (drop p s) (h.es ++ fs') _ _ (length (given words_of fs')) whole
          (outcomes.run_append h.run.1 z.fault.run.1) open'
          (omega (arith, ap length rest, u.1)) (numbers_now fs' refused_now.answer z.fault.element_number)
          (respelled_now z.fault.front (fault_respelled z.fault)))
          e

      -- 4, by whether the page ends
      by_end : length (given words_of fs') ≤ length words → r ≡ 4 → (t : Bool) → ended ≡ t
          → Now (pick t (faulted_by c refused_now) (pick t (ended_by c (length piece) refused_now) (waits_by c (length piece) s refused_now)))
          (over words (given words_of fs'))
      by_end room four true e = refused_stop room (λ _. e)
      by_end room four false e = refused_waits room four e

      by_number : length (given words_of fs') ≤ length words → (t : Bool) → eqb r 4 ≡ t → (u : Bool) → eqb r 0 ≡ u
          → Now (pick (pick t ended (pick u false true)) (faulted_by c refused_now)
          (pick ended (ended_by c (length piece) refused_now) (waits_by c (length piece) s refused_now)))
          (over words (given words_of fs'))
      by_number room true e u k = by_end room (eqb-true r 4 e) ended refl
      by_number room false e true k = absurd (omega (arith, eqb-true r 0 k, (fault_small z.fault).some))
      by_number room false e false k = refused_stop room (λ four. absurd (eqb-false r 4 e four))

    by_outcome : (x : Outcome Element) → read_in f s ≡ x → Now (fed_in f c piece ended (length words)) (words_in f c piece words)
    by_outcome (accepted fs) q =
        let m = accepted_measured f s fs q in
        subst₂ Now
        (ap (λ (a : Measured). pick (leb a.words (length words)) (fed_by c (length piece) ended s a) (kept_by c (short_room a.words)))
        (sym m.0))
        (ap (λ (ws : List ℕ). pick (leb (length ws) (length words)) (over words ws) words) (sym m.1))
        (by_room fs (accepted_now fs q).answer (accepted_new fs q) (λ room. accepted_end fs q room ended refl)
        (leb (length (given words_of fs)) (length words)) refl)
    by_outcome (refusal r n p d) q =
        let z = refused_read f s r n p d q in
        subst₂ Now
        (ap (λ (a : Measured). pick (leb a.words (length words)) (fed_by c (length piece) ended s a) (kept_by c (short_room a.words)))
        (sym (refused_measured f s q z)))
        (ap (λ (ws : List ℕ). pick (leb (length ws) (length words)) (over words ws) words) (sym z.words))
        (by_room z.fault.elements (answer r n p d) (refused_new z) (λ room. by_number z room (eqb r 4) refl (eqb r 0) refl)
        (leb (length (given words_of z.fault.elements)) (length words)) refl)

  pub fares : Fares f octets c piece ended words (feed_answer c piece ended (length words)) (feed_words c piece words)
  fares =
      subst₂ (Fares f octets c piece ended words) (sym going.0) (sym going.1)
      (by_limit (leb (length (octets ++ piece)) limit) refl)
    where
      by_limit : (t : Bool) → leb (length (octets ++ piece)) limit ≡ t
          → Fares f octets c piece ended words (pick t (fed_in f c piece ended (length words)) (stopped_by c.form (bare 12) 0 0))
          (pick t (words_in f c piece words) words)
      by_limit true e = by_outcome (leb-true _ _ e) (read_in f s) refl
      by_limit false e = Fares.past (leb-false _ _ e)
