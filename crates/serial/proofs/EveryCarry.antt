-- Of every carry: only entries past the words handed out stay, and on 9, 11 and 12 all of them; the fifth number is no more than the
-- elements, and 0 on a refusal; when room is enough; and a call answered 9 leaves the carry as it was, and may be left out.
-- Assumes nothing.
use Prim.Native.Nat.{ℕ, ◌+◌, ◌≤◌, ◌<◌}
use mathlib.Core.Path.{◌≡◌, refl, sym, ap, ◌∙◌, subst, subst₂}
use mathlib.Core.Bool.{Bool, true, false}
use mathlib.Core.List.{List, [], ◌∷◌, ◌++◌}
use native.Mathlib.Omega.{arith}
use lib.Dec.{eqb, leb}
use lib.ListN.{length, take, drop, length-append, length-take}
use lib.Seq.{take-append_seam}
use borrow.Author.Tests.{leb-true, leb-false, eqb-true}
use Rattle.run.specs.Choice.{pick}
use Rattle.run.proofs.Choices.{both_true}
use Rattle.run.specs.declared.Answer.{Answer}
use Rattle.run.specs.Answers.{bare, short_room, over}
use Rattle.sorts.specs.declared.Form.{Form}
use Rattle.std.specs.Prelude.{Option, Some, None}
use Rattle.sorts.specs.Forms.{form_of, in_form}
use Rattle.element_reading.specs.ElementNumbers.{reading}
use Rattle.text_loops.specs.declared.Measured.{Measured}
use Rattle.text_loops.specs.Fronts.{measured, words_before}
use Rattle.text_reading.specs.ReadingNumbers.{limit}
use Rattle.serial.specs.declared.Carry.{Carry}
use Rattle.serial.specs.declared.Fed.{Fed}
use Rattle.serial.specs.Feeding.{
  waiting,
  CouldGo,
  could_go,
  could_end,
  could_carry,
  could_stop,
  unmoved,
  kept_by,
  repeated_by,
  stopped_by,
  stops_page,
  so_far,
  respelled_so_far,
  faulted_by,
  ended_by,
  waits_by,
  fed_in,
  words_in,
  by_carry,
  unless_past,
  feed_answer,
  feed_words,
}
use Rattle.serial.specs.Promises.{FeedPromise}
use Rattle.serial.specs.Calls.{Call, answer_to, Calls}
use Rattle.open_elements.proofs.Fronts.{Modest, modest}
use Rattle.serial.proofs.Could.{could_go_exactly}

-- nothing has happened
pub record Untouched (c : Carry) (words : List ℕ) (fed : Fed) (after : List ℕ) : Type 0 where
  pub carry : fed.carry ≡ c
  pub handed : fed.handed ≡ 0
  pub buffer : after ≡ words

-- a fifth number that an answer could carry
record CouldCarry (a : Answer) (k : ℕ) : Type 0 where
  pub at_most : k ≤ a.element
  pub refused : (a.number ≡ 0 → ⊥) → k ≡ 0

could_carry_none : (a : Answer) → CouldCarry a 0
could_carry_none a = record { at_most = omega arith; refused = λ n. refl }

could_carry_lem : (a : Answer) (k : ℕ) → could_carry a k ≡ true → CouldCarry a k
could_carry_lem a k could = by_number (eqb a.number 0) refl could
  where
    by_number : (t : Bool) → eqb a.number 0 ≡ t → pick t (leb k a.element) (eqb k 0) ≡ true → CouldCarry a k
    by_number true e q = record { at_most = leb-true _ _ q; refused = λ n. absurd (n (eqb-true _ 0 e)) }
    by_number false e q = record { at_most = omega (arith, eqb-true k 0 q); refused = λ n. eqb-true k 0 q }

module _ (c : Carry) (piece : List ℕ) (ended : Bool) (words : List ℕ) where
  -- what holds of every call's answer and buffer
  pub record Leaves (fed : Fed) (after : List ℕ) : Type 0 where
    -- "only entries past them stay untouched": the words handed out, and then the buffer as it stood
    pub past : after ≡ over words (take fed.handed after)
    pub nine : fed.answer.number ≡ 9 → Untouched c words fed after
    pub eleven : fed.answer.number ≡ 11 → Untouched c words fed after
    pub twelve : fed.answer.number ≡ 12 → (fed.handed ≡ 0) × (after ≡ words)
    -- an entry for each octet of the piece, and 39 more, are room enough
    pub enough : length piece + 39 ≤ length words → fed.answer.number ≡ 9 → ⊥
    -- No. 5: the fifth number counts elements, and "is 0 on a refusal"
    pub at_most : fed.respelled ≤ fed.answer.element
    pub refused : (fed.answer.number ≡ 0 → ⊥) → fed.respelled ≡ 0

  -- the carry as it was
  kept_leaves : (a : Answer) (k : ℕ) → CouldCarry a k → (length piece + 39 ≤ length words → a.number ≡ 9 → ⊥)
      → Leaves (unmoved c (reading a k)) words
  kept_leaves a k carried enough =
      let same : Untouched c words (unmoved c (reading a k)) words = record { carry = refl; handed = refl; buffer = refl } in
      record {
        past = refl;
        nine = λ e. same;
        eleven = λ e. same;
        twelve = λ e. (refl, refl);
        enough = enough;
        at_most = carried.at_most;
        refused = carried.refused;
      }

  -- a page that ended is never answered 9
  not_nine : (a : Answer) → could_end a ≡ true → a.number ≡ 9 → ⊥
  not_nine a could e = let w : ◌≡◌ {A = Bool} false true = rw e at could in let z : ◌≡◌ {A = ℕ} 0 1 = cc in omega arith

  -- words handed out
  handed_leaves : (fed : Fed) (ws : List ℕ) → fed.handed ≡ length ws → fed.answer.number ≤ 8 → CouldCarry fed.answer fed.respelled
      → Leaves fed (over words ws)
  handed_leaves fed ws e small carried =
      record {
        past = ap (over words) (sym (ap (λ (k : ℕ). take k (over words ws)) e ∙ take-append_seam ws (drop (length ws) words)));
        nine = λ n. absurd (omega (arith, n, small));
        eleven = λ n. absurd (omega (arith, n, small));
        twelve = λ n. absurd (omega (arith, n, small));
        enough = λ r n. omega (arith, n, small);
        at_most = carried.at_most;
        refused = carried.refused;
      }

  -- the fifth number so far
  could_carry_read : {m : Measured} {size : ℕ} → c.respelled ≤ c.answer.element → Modest m size
      → CouldCarry (so_far c.answer (length piece) m) (respelled_so_far c m)
  could_carry_read few small = record { at_most = omega (arith, few, small.respelled); refused = λ n. absurd (n refl) }

  -- what was read, and fits
  read_leaves : {m : Measured} (s ws : List ℕ) → c.respelled ≤ c.answer.element → Modest m (length s) → m.words ≡ length ws
      → (t u : Bool) → Leaves (pick t (faulted_by c m) (pick u (ended_by c (length piece) m) (waits_by c (length piece) s m))) (over words ws)
  read_leaves s ws few small e true u = handed_leaves _ ws e small.number (could_carry_none _)
  read_leaves s ws few small e false true = handed_leaves _ ws e (omega arith) (could_carry_read few small)
  read_leaves s ws few small e false false = handed_leaves _ ws e (omega arith) (could_carry_read few small)

  module _ (f : Form) where
    abbrev m : Measured
    m = measured f (waiting c ++ piece)

    by_room : CouldGo f c → (t : Bool) → leb m.words (length words) ≡ t
        → Leaves (fed_in f c piece ended (length words)) (words_in f c piece words)
    by_room go true e =
        let ws : List ℕ = words_before f (waiting c ++ piece) in
        subst₂ Leaves (sym (simp e)) (sym (simp e))
        (read_leaves (waiting c ++ piece) ws go.respelled (modest f (waiting c ++ piece)) refl (stops_page m.answer.number ended)
        ended)
    by_room go false e =
        let short : length words < m.words = leb-false _ _ e in
        let few_words = (modest f (waiting c ++ piece)).words in
        let most : m.words ≤ 39 + length piece =
        omega (arith, few_words, length-append (waiting c) piece, length-take c.holds c.held, go.few) in
        subst₂ Leaves (sym (simp e)) (sym (simp e))
        (kept_leaves (short_room m.words) 0 (could_carry_none _) (λ r n. omega (arith, r, short, most)))

    by_limit : CouldGo f c → (t : Bool)
        → Leaves (pick t (fed_in f c piece ended (length words)) (stopped_by c.form (bare 12) 0 0))
        (pick t (words_in f c piece words) words)
    by_limit go true = by_room go (leb m.words (length words)) refl
    by_limit go false =
        record {
          past = refl;
          nine = λ e. absurd (omega (arith, e));
          eleven = λ e. absurd (omega (arith, e));
          twelve = λ e. (refl, refl);
          enough = λ r e. omega (arith, e);
          at_most = omega arith;
          refused = λ n. refl;
        }

    -- the answer that is repeated
    ends_of : could_stop c ≡ true → (could_carry c.answer c.respelled ≡ true) × (could_end c.answer ≡ true)
    ends_of k =
        let e1 = both_true (eqb c.stopped 1) _ k in
        let e2 = both_true (eqb c.holds 0) _ e1.1 in
        both_true (could_carry c.answer c.respelled) (could_end c.answer) e2.1

    nobodys : Leaves (kept_by c (bare 11)) words
    nobodys = kept_leaves (bare 11) 0 (could_carry_none _) (λ r e. omega (arith, e))

    by_carry_lem : (t g : Bool) → could_go f c ≡ g → (u : Bool) → could_stop c ≡ u
        → Leaves
        (pick t
        (pick g (unless_past c piece (stopped_by c.form (bare 12) 0 0) (fed_in f c piece ended (length words))) (kept_by c (bare 11)))
        (pick u (repeated_by c) (kept_by c (bare 11))))
        (pick t (pick g (unless_past c piece words (words_in f c piece words)) words) (pick u words words))
    by_carry_lem true true e u k = by_limit ((could_go_exactly f c).0 e) (leb (c.answer.place + length piece) limit)
    by_carry_lem true false e u k = nobodys
    by_carry_lem false g e true k =
        let could = ends_of k in
        kept_leaves c.answer c.respelled (could_carry_lem _ _ could.0) (λ r n. not_nine c.answer could.1 n)
    by_carry_lem false g e false k = nobodys

  by_form : (y : Option Form)
      → Leaves
      (in_form y (kept_by c (bare 11)) (λ f. by_carry f c (kept_by c (bare 11)) (repeated_by c)
      (unless_past c piece (stopped_by c.form (bare 12) 0 0) (fed_in f c piece ended (length words)))))
      (in_form y words (λ f. by_carry f c words words (unless_past c piece words (words_in f c piece words))))
  by_form (Some f) = by_carry_lem f (eqb c.stopped 0) (could_go f c) refl (could_stop c) refl
  by_form None = kept_leaves (bare 11) 0 (could_carry_none _) (λ r e. omega (arith, e))

  leaves : Leaves (feed_answer c piece ended (length words)) (feed_words c piece words)
  unfolding feed_answer feed_words
  leaves = by_form (form_of c.form)

-- What every call leaves, of every carry, also one that nobody made.
pub call_leaves : (c : Carry) (x : Call) → FeedPromise c x.piece x.ended x.words x.fed x.after
    → Leaves c x.piece x.ended x.words x.fed x.after
call_leaves c x p = subst₂ (Leaves c x.piece x.ended x.words) (sym p.0) (sym p.1) (leaves c x.piece x.ended x.words)

-- "Short room hands out nothing and keeps the carry": the lent words too stay as they stood.
pub nine_keeps : (c : Carry) (x : Call) → FeedPromise c x.piece x.ended x.words x.fed x.after → (answer_to x).number ≡ 9
    → Untouched c x.words x.fed x.after
nine_keeps c x p e = (call_leaves c x p).nine e

-- So it may be left out, and no other answer changes.
pub nine_left_out : {c d : Carry} (xs : List Call) (x : Call) (ys : List Call) → (answer_to x).number ≡ 9 → Calls c (xs ++ (x ∷ ys)) d
    → Calls c (xs ++ ys) d
nine_left_out {c} {d} [] x ys e (Calls.next p cs) =
    subst (λ (b : Carry). Calls b ys d) (nine_keeps c x p e).carry cs
nine_left_out (y ∷ xs) x ys e (Calls.next p cs) = Calls.next p (nine_left_out xs x ys e cs)
