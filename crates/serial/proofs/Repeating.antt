-- After the end, and after any refusal but 9, the answer is repeated, its fifth number too: of every carry, also one that nobody made.
-- Assumes nothing.
use Prim.Native.Nat.{ℕ, ◌+◌, ◌-◌, ◌≤◌, ◌<◌}
use mathlib.Core.Path.{◌≡◌, refl, sym, ap, ◌∙◌, subst}
use mathlib.Core.Bool.{Bool, true, false}
use mathlib.Core.List.{List, ◌++◌}
use native.Mathlib.Omega.{arith}
use lib.Dec.{eqb, leb}
use lib.ListN.{length, length-append, length-take}
use borrow.Author.Tests.{le-leb, leb-true, eqb-true, eqb-false, ne_eqb}
use Rattle.run.specs.Choice.{pick}
use Rattle.run.specs.declared.Answer.{Answer}
use Rattle.run.specs.declared.ReadAnswer.{ReadAnswer}
use Rattle.run.specs.Answers.{bare, short_room}
use Rattle.sorts.specs.declared.Form.{Form}
use Rattle.std.specs.Prelude.{Option, Some, None}
use Rattle.sorts.specs.Forms.{form_of, in_form}
use Rattle.element_reading.specs.ElementNumbers.{reading}
use Rattle.text_loops.specs.declared.Measured.{Measured}
use Rattle.text_loops.specs.Fronts.{measured}
use Rattle.text_reading.specs.ReadingNumbers.{limit}
use Rattle.serial.specs.declared.Carry.{Carry}
use Rattle.serial.specs.declared.Fed.{Fed}
use Rattle.serial.specs.Feeding.{
  waiting,
  CouldGo,
  could_go,
  could_end,
  could_carry,
  could_stop,
  numbers_of,
  unmoved,
  kept_by,
  repeated_by,
  stopped_by,
  fed_by,
  fed_in,
  by_carry,
  unless_past,
  feed_answer,
  feed_words,
  so_far,
  respelled_so_far,
  fault_at,
  stops_page,
  faulted_by,
  ended_by,
  waits_by,
}
use Rattle.serial.specs.Promises.{FeedPromise}
use Rattle.serial.specs.Calls.{Call, reading_to, Calls, Repeats, Final}
use Rattle.open_elements.proofs.Fronts.{Modest, modest}
use Rattle.serial.proofs.Could.{could_go_exactly}

-- the carry answers a, five numbers, whatever it is fed, stays as it is, and hands out nothing
abbrev pub Says : Carry → ReadAnswer → Type 0
Says c a =
    (piece : List ℕ) (ended : Bool) (words : List ℕ)
    → (feed_answer c piece ended (length words) ≡ unmoved c a) × (feed_words c piece words ≡ words)

-- a page that ended or was refused
pub stopped_says : {f : Form} (form : ℕ) (a : Answer) (k handed : ℕ) → form_of form ≡ Some f → could_carry a k ≡ true → could_end a ≡ true
    → Says (stopped_by form a k handed).carry (reading a k)
unfolding feed_answer feed_words
stopped_says form a k handed is carries could piece ended words = (simp (is, carries, could), simp (is, carries, could))

-- ---- so the answer with which a page ends is one that is repeated

module _ {f : Form} {c : Carry} (is : CouldGo f c) (piece : List ℕ) (within : c.answer.place + length piece ≤ limit) {m : Measured}
    (small : Modest m (length (waiting c ++ piece))) where
  size : length (waiting c ++ piece) ≤ c.holds + length piece
  size = omega (arith, length-append (waiting c) piece, length-take c.holds c.held)

  -- the sums stay within the limit
  pub record Sums : Type 0 where
    pub elements : c.answer.element + m.answer.element ≤ limit
    pub place : c.answer.place - c.holds + m.answer.place ≤ limit
    pub count : c.answer.place - c.holds + m.answer.count ≤ limit
    pub words : c.answer.count + m.words ≤ limit
    pub respelled : respelled_so_far c m ≤ limit

  pub sums : Sums
  sums =
      record {
        elements = omega (arith, is.held, is.elements, small.elements, small.place, size, within);
        place = omega (arith, is.held, small.place, size, within);
        count = omega (arith, is.held, small.inside, size, within);
        words = omega (arith, is.held, is.words, small.words, size, within);
        respelled = omega (arith, is.respelled, small.respelled, is.held, is.elements, small.elements, small.place, size, within);
      }

  -- and those that were not canonical are no more than the elements
  carries_accepted : could_carry (so_far c.answer (length piece) m) (respelled_so_far c m) ≡ true
  carries_accepted =
      le-leb (respelled_so_far c m) (c.answer.element + m.answer.element) (omega (arith, is.respelled, small.respelled))

  ends_accepted : could_end (so_far c.answer (length piece) m) ≡ true
  ends_accepted =
      let a : Answer = so_far c.answer (length piece) m in
      let t1 : leb a.element a.place ≡ true =
      le-leb a.element a.place (omega (arith, is.held, is.elements, small.elements, small.place, size)) in
      let t2 : leb a.place limit ≡ true = le-leb a.place limit within in
      let t3 : leb a.count a.place ≡ true =
      le-leb a.count a.place (omega (arith, is.held, is.words, small.words, size)) in
      simp (t1, t2, t3)

  carries_refused : 0 < m.answer.number → could_carry (fault_at c.answer c.holds m.answer) 0 ≡ true
  carries_refused some = let t : eqb m.answer.number 0 ≡ false = ne_eqb m.answer.number 0 (λ e. omega (arith, e, some)) in simp t

  ends_refused : 0 < m.answer.number → could_end (fault_at c.answer c.holds m.answer) ≡ true
  ends_refused some =
      let a : Answer = fault_at c.answer c.holds m.answer in
      let t0 : eqb m.answer.number 12 ≡ false = ne_eqb m.answer.number 12 (λ e. omega (arith, e, small.number)) in
      let t1 : leb m.answer.number 8 ≡ true = le-leb m.answer.number 8 small.number in
      let t2 : leb a.element a.place ≡ true =
      le-leb a.element a.place (omega (arith, is.held, is.elements, small.elements)) in
      let t3 : eqb m.answer.number 0 ≡ false = ne_eqb m.answer.number 0 (λ e. omega (arith, e, some)) in
      let t4 : leb a.count limit ≡ true = le-leb a.count limit sums.count in
      let t5 : leb a.place a.count ≡ true = le-leb a.place a.count (omega (arith, small.onward some)) in
      simp (t0, t1, t2, t3, t4, t5)

-- ---- any carry

-- a refusal has a number
fault_some : (n : ℕ) (ended : Bool) → stops_page n ended ≡ true → 0 < n
fault_some n ended q = by_tests (eqb n 4) refl (eqb n 0) refl q
  where
    by_tests : (x : Bool) → eqb n 4 ≡ x → (y : Bool) → eqb n 0 ≡ y → pick x ended (pick y false true) ≡ true → 0 < n
    by_tests true i y j l = omega (arith, eqb-true n 4 i)
    by_tests false i true j l = let z : ◌≡◌ {A = ℕ} 0 1 = cc in absurd (omega arith)
    by_tests false i false j l = let k : n ≡ 0 → ⊥ = eqb-false n 0 j in omega (arith, k)

module _ (c : Carry) (piece : List ℕ) (ended : Bool) (words : List ℕ) where
  -- a call that ends the page leaves a carry that says so
  abbrev Settles : Fed → Type 0
  Settles r = (r.answer.number ≡ 9 → ⊥) → (r.answer.number ≡ 0 → ended ≡ true) → Says r.carry (numbers_of r)

  -- a carry that no feeding could have left
  none_settles : form_of c.form ≡ None → Settles (kept_by c (bare 11))
  unfolding feed_answer feed_words
  none_settles is not_9 at_end p e w = (simp is, simp is)

  nobodys_going : {f : Form} → form_of c.form ≡ Some f → eqb c.stopped 0 ≡ true → could_go f c ≡ false → Settles (kept_by c (bare 11))
  unfolding feed_answer feed_words
  nobodys_going is e g not_9 at_end p n w = (simp (is, e, g), simp (is, e, g))

  nobodys_stopped : {f : Form} → form_of c.form ≡ Some f → eqb c.stopped 0 ≡ false → could_stop c ≡ false
      → Settles (kept_by c (bare 11))
  unfolding feed_answer feed_words
  nobodys_stopped is e g not_9 at_end p n w = (simp (is, e, g), simp (is, e, g))

  stopped_settles : {f : Form} → form_of c.form ≡ Some f → eqb c.stopped 0 ≡ false → could_stop c ≡ true → Settles (repeated_by c)
  unfolding feed_answer feed_words
  stopped_settles is e g not_9 at_end p n w = (simp (is, e, g), simp (is, e, g))

  module _ {f : Form} (is : form_of c.form ≡ Some f) where
    -- of a page that goes on
    module _ (could : could_go f c ≡ true) where
      abbrev m : Measured
      m = measured f (waiting c ++ piece)

      by_end : c.answer.place + length piece ≤ limit → (t : Bool) → stops_page m.answer.number ended ≡ t → (u : Bool) → ended ≡ u
          → Settles (pick t (faulted_by c m) (pick u (ended_by c (length piece) m) (waits_by c (length piece) (waiting c ++ piece) m)))
      by_end within true e u k not_9 at_end =
          let go = (could_go_exactly f c).0 could in
          let small = modest f (waiting c ++ piece) in
          let some = fault_some m.answer.number ended e in
          stopped_says c.form _ 0 m.words is (carries_refused go piece within small some) (ends_refused go piece within small some)
      by_end within false e true k not_9 at_end =
          let go = (could_go_exactly f c).0 could in
          let small = modest f (waiting c ++ piece) in
          stopped_says c.form _ _ m.words is (carries_accepted go piece within small) (ends_accepted go piece within small)
      by_end within false e false k not_9 at_end =
          let w : ◌≡◌ {A = Bool} true false = sym (at_end refl) ∙ k in let z : ◌≡◌ {A = ℕ} 0 1 = cc in absurd (omega arith)

      by_room : c.answer.place + length piece ≤ limit → (t : Bool) → Settles
          (pick t (fed_by c (length piece) ended (waiting c ++ piece) m) (kept_by c (short_room m.words)))
      by_room within true = by_end within (stops_page m.answer.number ended) refl ended refl
      by_room within false = λ not_9 at_end. absurd (not_9 refl)

      by_limit : (t : Bool) → leb (c.answer.place + length piece) limit ≡ t
          → Settles (pick t (fed_in f c piece ended (length words)) (stopped_by c.form (bare 12) 0 0))
      by_limit true e = by_room (leb-true _ _ e) (leb m.words (length words))
      by_limit false e = λ not_9 at_end. stopped_says c.form (bare 12) 0 0 is refl refl

    by_carry_lem : (t : Bool) → eqb c.stopped 0 ≡ t → (g : Bool) → could_go f c ≡ g → (u : Bool) → could_stop c ≡ u
        → Settles
        (pick t
        (pick g (unless_past c piece (stopped_by c.form (bare 12) 0 0) (fed_in f c piece ended (length words))) (kept_by c (bare 11)))
        (pick u (repeated_by c) (kept_by c (bare 11))))
    by_carry_lem true e true g u k = by_limit g (leb (c.answer.place + length piece) limit) refl
    by_carry_lem true e false g u k = nobodys_going is e g
    by_carry_lem false e t g true k = stopped_settles is e k
    by_carry_lem false e t g false k = nobodys_stopped is e k

  settles : Settles (feed_answer c piece ended (length words))
  unfolding feed_answer
  settles = by_form (form_of c.form) refl
    where
      by_form : (y : Option Form) → form_of c.form ≡ y
          → Settles (in_form y (kept_by c (bare 11)) (λ f. by_carry f c (kept_by c (bare 11)) (repeated_by c)
          (unless_past c piece (stopped_by c.form (bare 12) 0 0) (fed_in f c piece ended (length words)))))
      by_form (Some f) q = by_carry_lem q (eqb c.stopped 0) refl (could_go f c) refl (could_stop c) refl
      by_form None q = none_settles q

-- ---- the calls after it

pub says_repeats : (c₀ : Carry) (a : ReadAnswer) → Says c₀ a → {c d : Carry} {xs : List Call} → c ≡ c₀ → Calls c xs d → Repeats a xs
says_repeats c₀ a says q Calls.none = Repeats.none
says_repeats c₀ a says q (Calls.next {c} {x = x} {xs = xs} p cs) =
    let s = says x.piece x.ended x.words in
    let e : x.fed ≡ unmoved c₀ a = p.0 ∙ ap (λ (b : Carry). feed_answer b x.piece x.ended (length x.words)) q ∙ s.0 in
    Repeats.next (ap numbers_of e) (ap (λ (r : Fed). r.handed) e)
    (p.1 ∙ ap (λ (b : Carry). feed_words b x.piece x.words) q ∙ s.1)
    (says_repeats c₀ a says (ap (λ (r : Fed). r.carry) e) cs)

-- "Any other refusal, or the final answer, is repeated with nothing handed out until made fresh."
pub repeated : (c : Carry) {d : Carry} {x : Call} {xs : List Call}
    → FeedPromise c x.piece x.ended x.words x.fed x.after → Final x → Calls x.fed.carry xs d → Repeats (reading_to x) xs
repeated c {x = x} p final cs =
    says_repeats x.fed.carry (reading_to x)
    (subst (λ (r : Fed). (r.answer.number ≡ 9 → ⊥) → (r.answer.number ≡ 0 → x.ended ≡ true) → Says r.carry (numbers_of r))
    (sym p.0)
    (settles c x.piece x.ended x.words) final.not_9 final.at_end)
    refl
    cs
