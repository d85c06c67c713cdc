-- The octets that wait and the piece, read: forty octets are enough for the first element, and the rest is read behind it.
-- Assumes nothing.
use Prim.Native.Nat.{ℕ, suc, ◌+◌, ◌-◌, ◌≤◌, ◌<◌}
use mathlib.Core.Path.{◌≡◌, refl, sym, ap, ap₂, ◌∙◌, subst}
use mathlib.Core.Logic.{◌↔◌, ◌⊎◌, inl, inr, ⊎_elim}
use mathlib.Core.Bool.{Bool, true, false}
use mathlib.Core.List.{List, [], ◌∷◌, ◌++◌, append_assoc, append-nil}
use native.Mathlib.Omega.{arith}
use native.Mathlib.Nat.{add_comm, zero-add}
use lib.Dec.{eqb, leb}
use lib.ListN.{length, take, drop, length-append, take-append-drop}
use lib.Seq.{take-append_seam, take-append-le, drop-append-add, sets, length-sets}
use borrow.Author.Tests.{leb-true, leb-false, eqb-true, ne_eqb}
use Rattle.run.specs.Choice.{pick}
use Rattle.run.specs.Head.{Head, element, refused, none, Outcome, accepted, refusal, join}
use Rattle.run.specs.Grammar.{Run, RunOf, done, more}
use Rattle.run.specs.declared.Answer.{Answer}
use Rattle.run.specs.Answers.{answer, given, count_of}
use Rattle.run.specs.Put.{Put, what_fits}
use Rattle.run.proofs.Outcomes as outcomes
use Rattle.run.proofs.Before.{given_before}
use Rattle.run.proofs.Puts.{all_fit, none_fits, put_before}
use Rattle.sorts.specs.declared.Form.{Form}
use Rattle.element_words.specs.declared.Element.{Element}
use Rattle.element_words.specs.Words.{words_of}
use Rattle.element_reading.specs.Grammar.{Spells, Refuses, CutShort}
use Rattle.element_reading.specs.declared.Step.{Step}
use Rattle.element_reading.specs.declared.Step.TheVariants.{Element as Read}
use Rattle.element_reading.specs.ElementHead.{head_in, canonical_head, step_at}
use Rattle.element_reading.proofs.Places.{reading_number}
use Rattle.element_reading.proofs.Sizes.{words_few}
use Rattle.element_reading.proofs.Reader.{reads, refuses_exactly_by}
use Rattle.element_reading.proofs.Deciding.{forty, unfinished, cut_exactly}
use Rattle.text_loops.specs.declared.Measured.{Measured}
use Rattle.text_loops.specs.Fronts.{read_in, measured, words_before, respelled_before, asked_for, step_answer_after}
use Rattle.text_loops.proofs.Tallied.{told_here, told_stands, told_reads, tally_start, tally_turn, tally_end}
use Rattle.text_loops.proofs.Steps.{NotRead, step_refused, count_is_place}
use Rattle.text_loops.specs.Promises.{ReadFrontPromise}
use Rattle.text_reading.proofs.Respelled.{respelled_joined}
use Rattle.open_elements.specs.OpenElements.{open_head, is_open}
use Rattle.open_elements.specs.Steps.{Gathered, behind_one, FrontOf}
use Rattle.open_elements.specs.Promises.{ReadOnPromise}
use Rattle.open_elements.proofs.Faults.{fault_small}
use Rattle.open_elements.proofs.Fronts.{accepted_measured, fault_words, refused_read, refused_measured, head_respelled}

-- ---- an element that was open ends behind the octets that waited

module _ (f : Form) (held piece : List ℕ) (open' : head_in f held ≡ refused 4 (length held)) {e : Element} {k : ℕ}
    (here : head_in f (held ++ piece) ≡ element e k) where
  ends_not_before : k ≤ length held → ⊥
  ends_not_before h =
      let b = (reads f).found (held ++ piece) e k here in
      let front : take k held ≡ b.front = sym (take-append-le k held piece h) ∙ outcomes.front_taken b in
      let whole : held ≡ b.front ++ drop k held = sym (take-append-drop k held) ∙ ap (λ (l : List ℕ). l ++ drop k held) front in
      let q : head_in f held ≡ element e (length b.front) = ap (head_in f) whole ∙ (reads f).finds b.front (drop k held) e b.spells in
      let z : ◌≡◌ {A = ℕ} 0 1 = cc in
      omega arith

  pub ends_behind : (length held < k) × (k ≤ length held + length piece) × (drop k (held ++ piece) ≡ drop (k - length held) piece)
  ends_behind =
      let b = (reads f).found (held ++ piece) e k here in
      let l : length held + length piece ≡ length b.front + length b.rest =
      sym (length-append held piece) ∙ ap length b.whole ∙ length-append b.front b.rest in
      let n : length held < k = below (leb k (length held)) refl in
      let m : k ≡ length held + (k - length held) = omega (arith, n) in
      (n, omega (arith, l, b.size), ap (λ (i : ℕ). drop i (held ++ piece)) m ∙ drop-append-add held piece (k - length held))
    where
      below : (t : Bool) → leb k (length held) ≡ t → length held < k
      below true q = absurd (ends_not_before (leb-true _ _ q))
      below false q = leb-false _ _ q

-- ---- what is read behind one element

-- an element has no more words than octets
pub head_words : (f : Form) (s : List ℕ) {e : Element} {k : ℕ} → head_in f s ≡ element e k → length (words_of e) ≤ k
head_words f s {e} {k} q = let b = (reads f).found s e k q in omega (arith, words_few b.spells, b.size)

-- one element is a run
one_run : {f : Form} {p : List ℕ} {e : Element} → Spells f p e → RunOf (Spells f) p (e ∷ [])
one_run {f} {p} {e} sp = (p ∷ [], subst (λ (l : List ℕ). Run (Spells f) l (p ∷ []) (e ∷ [])) (append-nil p) (more sp done))

module _ (f : Form) (s : List ℕ) {e : Element} {k : ℕ} (here : head_in f s ≡ element e k) where
  abbrev rest : List ℕ
  rest = drop k s

  -- the element, and what is left
  record OneRead : Type 0 where
    pub front : List ℕ
    pub whole : s ≡ front ++ rest
    pub run : RunOf (Spells f) front (e ∷ [])
    pub size : k ≡ length front

  one_read : OneRead
  one_read =
      let b = (reads f).found s e k here in
      record {
        front = b.front;
        whole = b.whole ∙ ap (λ (l : List ℕ). b.front ++ l) (sym (outcomes.rest_dropped b));
        run = one_run b.spells;
        size = b.size;
      }

  onward : read_in f s ≡ join (e ∷ []) k (read_in f rest)
  onward =
      let o = one_read in
      ap (read_in f) o.whole
      ∙ outcomes.run_join (reads f) o.run.1 rest
      ∙ ap (λ (i : ℕ). join (e ∷ []) i (read_in f rest)) (sym o.size)

  pub behind_words : words_before f s ≡ words_of e ++ words_before f rest
  unfolding given
  behind_words = go (read_in f rest) refl
    where
      go : (x : Outcome Element) → read_in f rest ≡ x → words_before f s ≡ words_of e ++ words_before f rest
      go (accepted fs) q =
          given_before (reads f) words_of s (e ∷ fs) (onward ∙ ap (join (e ∷ []) k) q)
          ∙ ap (λ (l : List ℕ). words_of e ++ l) (sym (given_before (reads f) words_of rest fs q))
      go (refusal r n p d) q =
          let z = refused_read f rest r n p d q in
          ap (words_before f) one_read.whole
          ∙ fault_words f (one_read.front ++ rest) (outcomes.stopped_behind one_read.run z.fault)
          ∙ ap (λ (l : List ℕ). words_of e ++ l) (sym z.words)

  abbrev count : ℕ
  count = length (words_of e) + length (words_before f rest)

  behind_size : length s ≡ length rest + k
  behind_size =
      let o = one_read in
      let w = ap length o.whole ∙ length-append o.front rest in
      omega (arith, w, o.size)

  behind_count : length (words_before f s) ≡ count
  behind_count = ap length behind_words ∙ length-append (words_of e) (words_before f rest)

  abbrev moved : Measured → Measured
  moved m = record { answer = behind_one m.answer k count; words = count; respelled = respelled_before f s }

  pub behind_measured : measured f s
      ≡ record { answer = behind_one (measured f rest).answer k count; words = count; respelled = respelled_before f s }
  behind_measured = go (read_in f rest) refl
    where
      go : (x : Outcome Element) → read_in f rest ≡ x → measured f s ≡ moved (measured f rest)
      go (accepted fs) q =
          let q' : read_in f s ≡ accepted (e ∷ fs) = onward ∙ ap (join (e ∷ []) k) q in
          let m = accepted_measured f s (e ∷ fs) q' in
          let l : length (given words_of (e ∷ fs)) ≡ count = ap length (sym m.1) ∙ behind_count in
          let now : Measured =
          record {
            answer = answer 0 (suc (length fs)) (length s) (length (given words_of (e ∷ fs)));
            words = length (given words_of (e ∷ fs));
            respelled = respelled_before f s;
          } in
          let one : suc (length fs) ≡ length fs + 1 = omega arith in
          let same : now
          ≡ record { answer = answer 0 (length fs + 1) (length rest + k) count; words = count; respelled = respelled_before f s } =
          simp (l, behind_size, one) in
          m.0 ∙ same ∙ sym (ap moved (accepted_measured f rest fs q).0)
      go (refusal r n p d) q =
          let q' : read_in f s ≡ refusal r (1 + n) (k + p) (k + d) = onward ∙ ap (join (e ∷ []) k) q in
          let z = refused_read f rest r n p d q in
          let z' = refused_read f s r (1 + n) (k + p) (k + d) q' in
          let l : length (given words_of z'.fault.elements) ≡ count = ap length (sym z'.words) ∙ behind_count in
          let some : eqb r 0 ≡ false = ne_eqb r 0 (λ i. omega (arith, i, (fault_small z.fault).some)) in
          let n1 : 1 + n ≡ n + 1 = omega arith in
          let now : Measured =
          record {
            answer = answer r (1 + n) (k + p) (k + d);
            words = length (given words_of z'.fault.elements);
            respelled = respelled_before f s;
          } in
          let left : Measured =
          record { answer = answer r n p d; words = length (given words_of z.fault.elements); respelled = respelled_before f rest } in
          let same : now ≡ moved left = simp (l, some, n1, add_comm k p, add_comm k d) in
          refused_measured f s q' z' ∙ same ∙ sym (ap moved (refused_measured f rest q z))

-- how many elements were not canonical: it adds up behind an element that is told
pub behind_respelled : (f : Form) (s : List ℕ) {e : Element} {b : Bool} {k : ℕ} → canonical_head f s ≡ element (e, b) k
    → respelled_before f s ≡ pick b 0 1 + respelled_before f (drop k s)
behind_respelled f s {e} {b} {k} told =
    let t = (told_reads f).found s (e, b) k told in
    let p = t.front in
    let alone : canonical_head f p ≡ element (e, b) (length p) =
    ap (canonical_head f) (sym (append-nil p)) ∙ (told_reads f).finds p [] (e, b) t.spells in
    let one = tally_turn f p (tally_start f p) (record { size = length p; here = alone; onward = sym (zero-add (length p)) }) refl in
    ap (respelled_before f) t.whole
    ∙ respelled_joined f p t.rest (e ∷ []) (one_run t.spells.0)
    ∙ ap₂ ◌+◌ (sym (tally_end f p one (omega arith)) ∙ zero-add (pick b 0 1)) (ap (respelled_before f) (sym (outcomes.rest_dropped t)))

given_none : given words_of [] ≡ []
unfolding given
given_none = refl

-- a refusal at the head: nothing is read
pub refused_head : (f : Form) (s : List ℕ) {r d : ℕ} → head_in f s ≡ refused r d
    → (measured f s ≡ record { answer = answer r 0 0 d; words = 0; respelled = 0 }) × (words_before f s ≡ [])
refused_head f s {r} {d} here =
    let q = outcomes.outcome_stop (reads f) s r d here in
    let z = refused_read f s r 0 0 d q in
    let none : z.fault.elements ≡ [] = empty z.fault.elements z.fault.element_number in
    let w : given words_of z.fault.elements ≡ [] = ap (given words_of) none ∙ given_none in
    let none_told = head_respelled f s here in
    (refused_measured f s q z ∙ simp (w, none_told), z.words ∙ w)
  where
    empty : (es : List Element) → 0 ≡ length es → es ≡ []
    empty [] n = refl
    empty (x ∷ es) n = absurd (omega (arith, n))

-- ---- the words: those of the element before those behind it

asked_all : (x : Outcome Element) (ws : List ℕ) → asked_for false x ws ≡ ws
asked_all (accepted es) ws = refl
asked_all (refusal r n p d) ws = refl

module _ (f : Form) (s : List ℕ) {e : Element} {b : Bool} {k : ℕ} (told : canonical_head f s ≡ element (e, b) k) (words : List ℕ) (w : ℕ)
    (m : Measured) (after : List ℕ) {a : Answer} {one : ℕ} (size : w ≡ length (words_of e)) (adds : one ≡ pick b 0 1)
    (is : m ≡ measured f (drop k s))
    (put : after ≡ sets words w (what_fits words w (asked_for false (read_in f (drop k s)) (words_before f (drop k s)))))
    (moves : a ≡ behind_one m.answer k (w + m.words)) where
  abbrev behind : List ℕ
  behind = words_before f (drop k s)

  abbrev both : Measured
  both = record { answer = a; words = w + m.words; respelled = one + m.respelled }

  measured_both : both ≡ measured f s
  measured_both =
      let here' = behind_measured f s (told_stands f s told) in
      let told' = behind_respelled f s told in
      simp (moves, size, adds, is, sym told') (sym here')

  put_behind : after ≡ sets words w (what_fits words w behind)
  put_behind = put ∙ ap (λ (l : List ℕ). sets words w (what_fits words w l)) (asked_all (read_in f (drop k s)) behind)

  words_both : words_before f s ≡ words_of e ++ behind
  words_both = behind_words f s (told_stands f s told)

  size_both : length (words_before f s) ≡ w + m.words
  size_both =
      ap length words_both ∙ length-append (words_of e) behind ∙ ap₂ ◌+◌ (sym size) (ap (λ (x : Measured). x.words) (sym is))

  size_behind : m.words ≡ length behind
  size_behind = ap (λ (x : Measured). x.words) is

  same_room : length after ≡ length words
  same_room = ap length put_behind ∙ length-sets words w (what_fits words w behind)

  -- both have room: the element's words go before
  pub front_fits : w + m.words ≤ length after → {after' : List ℕ} {next : ℕ} → Put after 0 (what_fits after 0 (words_of e)) after' next
      → FrontOf f s words both after'
  front_fits h {after'} p =
      let fits : what_fits words w behind ≡ behind = all_fit words w behind (omega (arith, h, size_behind, same_room)) in
      let first : what_fits after 0 (words_of e) ≡ words_of e = all_fit after 0 (words_of e) (omega (arith, h, size)) in
      let whole : length (words_of e ++ behind) ≤ length words = omega (arith, h, size_both, ap length words_both, same_room) in
      let all : what_fits words 0 (words_before f s) ≡ words_of e ++ behind =
      ap (what_fits words 0) words_both ∙ all_fit words 0 (words_of e ++ behind) (omega (arith, whole)) in (
        measured_both,
        put_before words (words_of e) behind whole
            (put_behind ∙ ap₂ (λ (i : ℕ) (u : List ℕ). sets words i u) size fits) (p.holds ∙ ap (sets after 0) first)
            ∙ ap (sets words 0) (sym all),
      )

  -- they have not: nothing was written
  pub front_short : length after < w + m.words → FrontOf f s words both after
  front_short h =
      let none : what_fits words w behind ≡ [] = none_fits words w behind (omega (arith, h, size_behind, same_room)) in
      let all : what_fits words 0 (words_before f s) ≡ [] = none_fits words 0 (words_before f s) (omega (arith, h, size_both, same_room)) in
      (measured_both, put_behind ∙ ap (sets words w) none ∙ sym (ap (sets words 0) all))

-- a refusal at the head
pub front_refused : (f : Form) (s : List ℕ) {r d : ℕ} → head_in f s ≡ refused r d → (words : List ℕ) {a : Answer} → a ≡ answer r 0 0 d
    → FrontOf f s words (record { answer = a; words = 0; respelled = 0 }) words
front_refused f s here words e =
    let h = refused_head f s here in (
      ap (λ (x : Answer). record { answer = x; words = 0; respelled = 0 }) e ∙ sym h.0,
      sym (ap (λ (l : List ℕ). sets words 0 (what_fits words 0 l)) h.1 ∙ ap (sets words 0) (all_fit words 0 [] (omega arith))),
    )

-- ---- the first forty octets, in an array of their own, say what stands at the head

-- what was gathered
pub first_octets : {s zeros : List ℕ} {size : ℕ} {first : List ℕ} → length zeros ≡ 40 → Gathered s 0 zeros size first
    → take size first ≡ take 40 s
first_octets {s} {zeros} l g =
    ap₂ take g.many g.stand
    ∙ take-append_seam (take (length zeros) s) (drop (length (take (length zeros) s)) zeros)
    ∙ ap (λ (n : ℕ). take n s) l

-- an element there stands at the head of all, and is told there as among them
pub first_told : (f : Form) (s window : List ℕ) → window ≡ take 40 s → (e : Element) (next : ℕ) (b : Bool)
    → step_at f window 0 ≡ Read e next b → canonical_head f s ≡ element (e, b) next
first_told f s window w e next b q =
    let h = told_here f window 0 e next b q in
    let t = (told_reads f).found window (e, b) h.size h.here in
    let whole : s ≡ t.front ++ (t.rest ++ drop 40 s) =
    sym (take-append-drop 40 s)
    ∙ ap (λ (l : List ℕ). l ++ drop 40 s) (sym w ∙ t.whole)
    ∙ append_assoc t.front t.rest (drop 40 s) in
    ap (canonical_head f) whole
    ∙ (told_reads f).finds t.front (t.rest ++ drop 40 s) (e, b) t.spells
    ∙ ap (element (e, b)) (let z : length t.front ≡ next = omega (arith, h.onward, t.size) in z)

-- and so does a refusal
pub first_refused : (f : Form) (s window words : List ℕ) → window ≡ take 40 s → 0 < length window → (x : Step) → x ≡ step_at f window 0
    → NotRead x → {a : Answer} → a ≡ step_answer_after 0 x
    → FrontOf f s words (record { answer = a; words = 0; respelled = 0 }) words
first_refused f s window words w some x q o {a} e =
    let h = step_refused f window 0 x q o some in
    let head : head_in f s ≡ refused h.number h.behind = forty f s ∙ ap (head_in f) (sym w) ∙ h.here in
    let small = reading_number f ((refuses_exactly_by f s h.number h.behind).0 head) in
    let count : count_of h.number (0 + h.behind) ≡ h.behind =
    sym (count_is_place h.number (0 + h.behind) small.1) ∙ zero-add h.behind in
    front_refused f s head words (e ∙ h.answers 0 ∙ ap (answer h.number 0 0) count)

-- ---- what waits is open: none, or refused with 4 at its end

pub open_head_lem : (f : Form) (s : List ℕ) → is_open f s ≡ true → 0 < length s → head_in f s ≡ refused 4 (length s)
open_head_lem f s could some = go (head_in f s) refl could
  where
    go : (h : Head Element) → head_in f s ≡ h → open_head h ≡ true → head_in f s ≡ refused 4 (length s)
    go (element e k) q t = let z : ◌≡◌ {A = ℕ} 0 1 = cc in absurd (omega arith)
    go (refused r d) q t =
        let four : r ≡ 4 = eqb-true r 4 t in
        let k : Refuses f s 4 d = subst (λ (n : ℕ). Refuses f s n d) four ((refuses_exactly_by f s r d).0 q) in
        q ∙ ap₂ refused four (unfinished f k).0
    go none q t = absurd (omega (arith, some, ap length ((reads f).goes s q)))

-- so octets that wait are open exactly when they are none, or an unfinished element's
pub open_exactly : (f : Form) (s : List ℕ) → (is_open f s ≡ true) ↔ ((s ≡ []) ⊎ CutShort f s)
open_exactly f s = (forth s, back)
  where
    forth : (s : List ℕ) → is_open f s ≡ true → (s ≡ []) ⊎ CutShort f s
    forth [] could = inl refl
    forth (o ∷ t) could =
        let q = open_head_lem f (o ∷ t) could (omega arith) in
        inr ((cut_exactly f (o ∷ t)).0 ((refuses_exactly_by f (o ∷ t) 4 (length (o ∷ t))).0 q))

    back : (s ≡ []) ⊎ CutShort f s → is_open f s ≡ true
    back =
        ⊎_elim (λ e. ap (is_open f) e ∙ ap open_head (reads f).ends)
        (λ c. ap open_head ((refuses_exactly_by f s 4 (length s)).1 ((cut_exactly f s).1 c)))

-- no octet waits: the piece alone
pub on_alone : (f : Form) (waiting piece words : List ℕ) {m : Measured} {after : List ℕ} → length waiting ≡ 0
    → ReadFrontPromise f piece words 0 false m after → ReadOnPromise f waiting piece words m after
on_alone f [] piece words e p =
    let t : is_open f [] ≡ true = ap open_head (reads f).ends in
    let w = p.1 ∙ ap (λ (l : List ℕ). sets words 0 (what_fits words 0 l)) (asked_all (read_in f piece) (words_before f piece)) in
    (p.0 ∙ sym (simp t), w ∙ sym (simp t))
on_alone f (o ∷ waiting) piece words e p = absurd (omega (arith, e))

-- an open element waits
pub open_on : (f : Form) (waiting piece words : List ℕ) {m : Measured} {after : List ℕ} → is_open f waiting ≡ true
    → ReadOnPromise f waiting piece words m after → FrontOf f (waiting ++ piece) words m after
open_on f waiting piece words t p = (p.0 ∙ simp t, p.1 ∙ simp t)

-- what was gathered stands in the array
pub gathered_size : {s : List ℕ} {from : ℕ} {into : List ℕ} {size : ℕ} {after : List ℕ}
    → Gathered s from into size after → size ≤ length after
gathered_size {s} {from} {into} g =
    let ws : List ℕ = take (length into) (drop from s) in
    omega (arith, g.many, ap length g.stand, length-append ws (drop (length ws) into))

-- something waits, and so the first octets are some
pub first_some : (f : Form) (held piece : List ℕ) {r d : ℕ} → head_in f held ≡ refused r d
    → {window : List ℕ} → window ≡ take 40 (held ++ piece) → 0 < length window
first_some f [] piece q w = let e = (reads f).ends in let z : ◌≡◌ {A = ℕ} 0 1 = cc in absurd (omega arith)
first_some f (o ∷ held) piece q w = omega (arith, ap length w)
