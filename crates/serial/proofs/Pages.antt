-- A page in pieces, over lists of calls: the words handed out, the final answer with its fifth number, and each call's row; in the words of
-- the grammar and of `read_reading`.
-- Assumes nothing.
use Prim.Native.Nat.{ℕ, ◌≤◌, ◌<◌}
use mathlib.Core.Path.{◌≡◌, refl, sym, ap, ap₂, ◌∙◌, subst, subst₂}
use mathlib.Core.Logic.{◌⊎◌, inl, inr, ⊎_elim}
use mathlib.Core.Bool.{Bool, true, false}
use mathlib.Core.List.{List, [], ◌∷◌, ◌++◌, append_assoc, append-nil}
use native.Mathlib.Omega.{arith}
use lib.Dec.{eqb}
use lib.ListN.{length, take, drop, length-append}
use lib.Seq.{take-append_seam}
use borrow.Author.Tests.{le-leb, ne_eqb}
use Rattle.run.specs.Choice.{one_of}
use Rattle.run.specs.Grammar.{RunOf}
use Rattle.run.specs.Tally.{Apart}
use Rattle.run.specs.declared.Answer.{Answer}
use Rattle.run.specs.declared.ReadAnswer.{ReadAnswer}
use Rattle.run.specs.Answers.{answer, bare, given, over, carrying, roomy_answer}
use Rattle.run.proofs.Answers.{carrying_none, carrying_it}
use Rattle.sorts.specs.declared.Form.{Form}
use Rattle.element_words.specs.declared.Element.{Element}
use Rattle.element_words.specs.Words.{words_of}
use Rattle.element_spelling.specs.ElementOctets.{CanonicalElement}
use Rattle.element_reading.specs.Grammar.{Spells}
use Rattle.element_reading.specs.ElementNumbers.{reading}
use Rattle.element_reading.proofs.Reader.{is_or}
use Rattle.text_loops.specs.Fronts.{read_in, words_before, respelled_before}
use Rattle.text_reading.specs.ReadingNumbers.{limit, ReadingFault}
use Rattle.text_reading.proofs.ReadTexts.{accepted_exactly, refused_exactly}
use Rattle.text_reading.proofs.Respelled.{respelled_exactly}
use Rattle.serial.specs.declared.Carry.{Carry}
use Rattle.serial.specs.declared.Fed.{Fed}
use Rattle.serial.specs.SerialNumbers.{UpToFault, WordsUpToFault, NewWords, GoesOn, FedRow}
use Rattle.serial.specs.Feeding.{waiting, numbers_of}
use Rattle.serial.specs.Promises.{FeedPromise}
use Rattle.serial.specs.Calls.{
  Call,
  answer_to,
  reading_to,
  Calls,
  without,
  pieces,
  page,
  taken,
  handed_out,
  OnlyLast,
  Ends,
  Repeats,
  AllGo,
}
use Rattle.open_elements.proofs.Faults.{fault_stays, fault_small}
use Rattle.serial.proofs.WordsUpTo.{words_are}
use Rattle.serial.proofs.Holding.{Open, Holds, Fares, fares}
use Rattle.serial.proofs.Repeating.{repeated}

-- ---- lists of calls

-- a call that is answered with none of the numbers is kept
kept_call : (ns : List ℕ) (x : Call) (xs : List Call) → one_of ns (answer_to x).number ≡ false → without ns (x ∷ xs) ≡ x ∷ without ns xs
unfolding without
kept_call ns x xs e = simp e

left_out : (ns : List ℕ) (x : Call) (xs : List Call) → one_of ns (answer_to x).number ≡ true → without ns (x ∷ xs) ≡ without ns xs
unfolding without
left_out ns x xs e = simp e

-- calls that repeat an answer hand out nothing
repeats_handed : {a : ReadAnswer} {xs : List Call} → Repeats a xs → handed_out xs ≡ []
unfolding handed_out
repeats_handed Repeats.none = refl
repeats_handed (Repeats.next {x} e h w r) = ap₂ ◌++◌ (ap (λ (k : ℕ). take k x.after) h) (repeats_handed r)

-- and all are kept, or all are left out
repeats_kept : (ns : List ℕ) {a : ReadAnswer} {xs : List Call} → one_of ns a.answer.number ≡ false → Repeats a xs → without ns xs ≡ xs
unfolding without
repeats_kept ns t Repeats.none = refl
repeats_kept ns t (Repeats.next {x} {xs} e h w r) =
    kept_call ns x xs (ap (λ (a : ReadAnswer). one_of ns a.answer.number) e ∙ t) ∙ ap (λ (l : List Call). x ∷ l) (repeats_kept ns t r)

repeats_out : (ns : List ℕ) {a : ReadAnswer} {xs : List Call} → one_of ns a.answer.number ≡ true → Repeats a xs → without ns xs ≡ []
unfolding without
repeats_out ns t Repeats.none = refl
repeats_out ns t (Repeats.next {x} {xs} e h w r) =
    left_out ns x xs (ap (λ (a : ReadAnswer). one_of ns a.answer.number) e ∙ t) ∙ repeats_out ns t r

-- the last of them answers it too
repeats_ends : {a b : ReadAnswer} {xs : List Call} → Repeats a xs → Ends xs b → b ≡ a
repeats_ends r l = go l r
  where
    go : {a b : ReadAnswer} {xs : List Call} → Ends xs b → Repeats a xs → b ≡ a
    go (Ends.last t) (Repeats.next e h w r) = e
    go (Ends.earlier t l) (Repeats.next e h w r) = go l r

-- no call follows the one that is told that the page ends
nothing_follows : (x : Call) (xs : List Call) → OnlyLast (x ∷ xs) → x.ended ≡ true → xs ≡ []
nothing_follows x [] l e = refl
nothing_follows x (y ∷ ys) (OnlyLast.earlier f l) e =
    let w : ◌≡◌ {A = Bool} true false = sym e ∙ f in let z : ◌≡◌ {A = ℕ} 0 1 = cc in absurd (omega arith)

-- the words of a call's buffer, as many as it says
handed_words : (words ws : List ℕ) → take (length ws) (over words ws) ≡ ws
handed_words words ws = take-append_seam ws (drop (length ws) words)

-- a fault's number is in neither list
small_kept : (r : ℕ) → r ≤ 8 → (one_of (9 ∷ []) r ≡ false) × (one_of (9 ∷ 12 ∷ []) r ≡ false)
small_kept r h =
    let a : eqb 9 r ≡ false = ne_eqb 9 r (λ e. omega (arith, e)) in
    let b : eqb 12 r ≡ false = ne_eqb 12 r (λ e. omega (arith, e)) in
    (simp a, simp (a, b))

handed_next : (x : Call) (xs : List Call) {k : ℕ} {l : List ℕ} → x.fed.handed ≡ k → x.after ≡ l
    → handed_out (x ∷ xs) ≡ take k l ++ handed_out xs
unfolding handed_out
handed_next x xs e q = ap₂ (λ (k : ℕ) (l : List ℕ). take k l ++ handed_out xs) e q

pieces_next : (x : Call) (xs : List Call) → pieces (x ∷ xs) ≡ x.piece ++ pieces xs
unfolding pieces
pieces_next x xs = refl

pieces_none : pieces [] ≡ []
unfolding pieces
pieces_none = refl

handed_none : handed_out [] ≡ []
unfolding handed_out
handed_none = refl

without_none : (ns : List ℕ) → without ns [] ≡ []
unfolding without
without_none ns = refl

only_rest : {x : Call} {xs : List Call} → OnlyLast (x ∷ xs) → OnlyLast xs
only_rest OnlyLast.last = OnlyLast.none
only_rest (OnlyLast.earlier e l) = l

-- ---- the words handed out

-- what a piece adds to the words
new_words_lem : {f : Form} {octets piece ws : List ℕ} → NewWords f octets piece ws
    → words_before f octets ++ ws ≡ words_before f (octets ++ piece)
new_words_lem {f} {octets} {piece} {ws} new =
    ap (λ (l : List ℕ). l ++ ws) (words_are f octets new.were) ∙ sym (words_are f (octets ++ piece) new.are)

-- behind a fault other than 4 no words follow
fault_words_stay : {f : Form} {s : List ℕ} {r n p d : ℕ} → ReadingFault f s r n p d → (r ≡ 4 → ⊥) → (u : List ℕ)
    → words_before f s ≡ words_before f (s ++ u)
fault_words_stay {f} {s} at not-4 u =
    words_are f s (WordsUpToFault.words_of_all (UpToFault.to_a_fault at))
    ∙ sym (words_are f (s ++ u) (WordsUpToFault.words_of_all (UpToFault.to_a_fault (fault_stays at not-4 u))))

module _ {f : Form} {octets : List ℕ} {c d : Carry} (h : Holds f octets c) (x : Call) (xs : List Call)
    (p : FeedPromise c x.piece x.ended x.words x.fed x.after) (cs : Calls x.fed.carry xs d) where
  -- its row, as the call has it
  abbrev Row : Fed → List ℕ → Type 0
  Row = Fares f octets c x.piece x.ended x.words

  row : Row x.fed x.after
  row = subst₂ Row (sym p.0) (sym p.1) (fares h x.piece x.ended x.words)

  -- the calls after one that ends the page answer as it does
  after_all : {a : ReadAnswer} → reading_to x ≡ a → (a.answer.number ≡ 9 → ⊥) → (a.answer.number ≡ 0 → x.ended ≡ true) → Repeats a xs
  after_all {a} e not_9 at_end =
      subst (λ (b : ReadAnswer). Repeats b xs) e
      (repeated c p
      (record {
        not_9 = λ q. not_9 (sym (ap (λ (b : ReadAnswer). b.answer.number) e) ∙ q);
        at_end = λ q. at_end (sym (ap (λ (b : ReadAnswer). b.answer.number) e) ∙ q);
      })
      cs)

  -- told that the page ends, and not answered 9, it is the last
  last_call : {a : ReadAnswer} → reading_to x ≡ a → one_of (9 ∷ []) a.answer.number ≡ false → Repeats a xs → x.ended ≡ true
      → OnlyLast (without (9 ∷ []) (x ∷ xs)) → xs ≡ []
  last_call {a} e t r ended only =
      let k = kept_call (9 ∷ []) x xs (ap (λ (b : ReadAnswer). one_of (9 ∷ []) b.answer.number) e ∙ t) in
      sym (repeats_kept (9 ∷ []) t r) ∙ nothing_follows x (without (9 ∷ []) xs) (subst OnlyLast k only) ended

  abbrev WordsGo : Type 0
  WordsGo = words_before f octets ++ handed_out (x ∷ xs) ≡ words_before f (octets ++ taken (x ∷ xs))

  -- the words of this call are handed out, and its piece is taken
  words_by : {ws : List ℕ} → NewWords f octets x.piece ws → x.fed.handed ≡ length ws → x.after ≡ over x.words ws
      → one_of (9 ∷ 12 ∷ []) (answer_to x).number ≡ false
      → words_before f (octets ++ x.piece) ++ handed_out xs ≡ words_before f ((octets ++ x.piece) ++ taken xs) → WordsGo
  words_by {ws} new k l t rest =
      ap (λ (u : List ℕ). words_before f octets ++ u)
      (handed_next x xs k l ∙ ap (λ (u : List ℕ). u ++ handed_out xs) (handed_words x.words ws))
      ∙ sym (append_assoc (words_before f octets) ws (handed_out xs))
      ∙ ap (λ (u : List ℕ). u ++ handed_out xs) (new_words_lem new)
      ∙ rest
      ∙ ap (words_before f)
      (append_assoc octets x.piece (taken xs)
      ∙ ap (λ (u : List ℕ). octets ++ u) (sym (ap pieces (kept_call (9 ∷ 12 ∷ []) x xs t) ∙ pieces_next x (without (9 ∷ 12 ∷ []) xs))))

  -- no call follows
  words_end : (s : List ℕ) → xs ≡ [] → words_before f s ++ handed_out xs ≡ words_before f (s ++ taken xs)
  words_end s e =
      ap (λ (l : List Call). words_before f s ++ handed_out l) e
      ∙ ap (λ (l : List ℕ). words_before f s ++ l) handed_none
      ∙ append-nil (words_before f s)
      ∙ sym (ap (words_before f)
      (ap (λ (l : List Call). s ++ taken l) e
      ∙ ap (λ (l : List ℕ). s ++ l) (ap pieces (without_none (9 ∷ 12 ∷ [])) ∙ pieces_none)
      ∙ append-nil s))

  words_call : OnlyLast (without (9 ∷ []) (x ∷ xs))
      → ((octets' : List ℕ) → Holds f octets' x.fed.carry → OnlyLast (without (9 ∷ []) xs)
      → words_before f octets' ++ handed_out xs ≡ words_before f (octets' ++ taken xs))
      → (fed : Fed) (after : List ℕ) → Row fed after → x.fed ≡ fed → x.after ≡ after → WordsGo
  words_call only ih fed after (Fares.past beyond) e q =
      let a : reading_to x ≡ reading (bare 12) 0 = ap numbers_of e in
      let r = after_all a (λ z. omega (arith, z)) (λ z. absurd (omega (arith, z))) in
      let none : without (9 ∷ 12 ∷ []) (x ∷ xs) ≡ [] =
      left_out (9 ∷ 12 ∷ []) x xs (ap (λ (b : ReadAnswer). one_of (9 ∷ 12 ∷ []) b.answer.number) a)
      ∙ repeats_out (9 ∷ 12 ∷ []) refl r in
      ap (λ (l : List ℕ). words_before f octets ++ l) (handed_next x xs (ap (λ (r : Fed). r.handed) e) q ∙ repeats_handed r)
      ∙ append-nil (words_before f octets)
      ∙ ap (words_before f) (sym (append-nil octets) ∙ ap (λ (l : List ℕ). octets ++ l) (sym (ap pieces none ∙ pieces_none)))
  words_call only ih fed after (Fares.short within new room) e q =
      let a : (answer_to x).number ≡ 9 = ap (λ (r : Fed). r.answer.number) e in
      let same : x.fed.carry ≡ c = ap (λ (r : Fed). r.carry) e in
      let go = ih octets (subst (Holds f octets) (sym same) h)
      (subst OnlyLast (left_out (9 ∷ []) x xs (ap (λ (n : ℕ). one_of (9 ∷ []) n) a)) only) in
      ap (λ (l : List ℕ). words_before f octets ++ l) (handed_next x xs (ap (λ (r : Fed). r.handed) e) q)
      ∙ go
      ∙ ap (λ (l : List Call). words_before f (octets ++ pieces l))
      (sym (left_out (9 ∷ 12 ∷ []) x xs (ap (λ (n : ℕ). one_of (9 ∷ 12 ∷ []) n) a)))
  words_call only ih fed after (Fares.faulted {ws} {r} {n} {p = k} {d = i} within new room at four) e q =
      let a : reading_to x ≡ reading (answer r n k i) 0 = ap numbers_of e in
      let small = fault_small at in
      let t = small_kept r small.number in
      let rep = after_all a (λ z. omega (arith, z, small.number)) (λ z. absurd (omega (arith, z, small.some))) in
      words_by new (ap (λ (b : Fed). b.handed) e) q (ap (λ (b : ReadAnswer). one_of (9 ∷ 12 ∷ []) b.answer.number) a ∙ t.1)
      (⊎_elim (λ is. words_end (octets ++ x.piece) (last_call a t.0 rep (four is) only))
      (λ not. ap (λ (l : List ℕ). words_before f (octets ++ x.piece) ++ l) (repeats_handed rep)
      ∙ append-nil (words_before f (octets ++ x.piece))
      ∙ fault_words_stay at not (taken xs)) (is_or 4 r))
  words_call only ih fed after (Fares.goes {ws} {next} within new room hn ended) e q =
      let zero : (answer_to x).number ≡ 0 = ap (λ (b : Fed). b.answer.number) e ∙ ap (λ (b : Answer). b.number) hn.says in
      words_by new (ap (λ (b : Fed). b.handed) e) q (ap (λ (m : ℕ). one_of (9 ∷ 12 ∷ []) m) zero)
      (ih (octets ++ x.piece) (subst (Holds f (octets ++ x.piece)) (sym (ap (λ (b : Fed). b.carry) e)) hn)
      (only_rest (subst OnlyLast (kept_call (9 ∷ []) x xs (ap (λ (m : ℕ). one_of (9 ∷ []) m) zero)) only)))
  words_call only ih fed after (Fares.finished {ws} {es} within new room run ended) e q =
      let a = ap numbers_of e in
      let rep = after_all a (λ z. omega (arith, z)) (λ z. ended) in
      words_by new (ap (λ (b : Fed). b.handed) e) q (ap (λ (b : ReadAnswer). one_of (9 ∷ 12 ∷ []) b.answer.number) a)
      (words_end (octets ++ x.piece) (last_call a refl rep ended only))

pub words_of_calls : {f : Form} {c d : Carry} {xs : List Call} → Calls c xs d → (octets : List ℕ) → Holds f octets c
    → OnlyLast (without (9 ∷ []) xs) → words_before f octets ++ handed_out xs ≡ words_before f (octets ++ taken xs)
words_of_calls {f} Calls.none octets h only =
    ap (λ (l : List ℕ). words_before f octets ++ l) handed_none
    ∙ append-nil (words_before f octets)
    ∙ ap (words_before f)
    (sym (append-nil octets) ∙ ap (λ (l : List ℕ). octets ++ l) (sym (ap pieces (without_none (9 ∷ 12 ∷ [])) ∙ pieces_none)))
words_of_calls {f} (Calls.next {x = x} {xs = xs} p cs) octets h only =
    words_call h x xs p cs only (λ octets' h' only'. words_of_calls cs octets' h' only') x.fed x.after (row h x xs p cs) refl refl

-- ---- the final answer

-- the last call of a list, or a later one
ends_cases : {x : Call} {xs : List Call} {a : ReadAnswer} → Ends (x ∷ xs) a
    → ((xs ≡ []) × (x.ended ≡ true) × (a ≡ reading_to x)) ⊎ ((x.ended ≡ false) × Ends xs a)
ends_cases (Ends.last t) = inl (refl, t, refl)
ends_cases (Ends.earlier t l) = inr (t, l)

not_both : {t : Bool} → t ≡ true → t ≡ false → ⊥
not_both e k = let w : ◌≡◌ {A = Bool} true false = sym e ∙ k in let z : ◌≡◌ {A = ℕ} 0 1 = cc in omega arith

none_ends : (xs : List Call) {a : ReadAnswer} → Ends xs a → xs ≡ [] → ⊥
none_ends xs (Ends.last t) e = omega (arith, ap length e)
none_ends xs (Ends.earlier t l) e = omega (arith, ap length e)

-- an answer as the whole text has it, and the fifth number with it
abbrev Whole : Form → List ℕ → ReadAnswer → Type 0
Whole f text a = a ≡ carrying (roomy_answer words_of (length text) (read_in f text)) (respelled_before f text)

whole_fault : {f : Form} {text : List ℕ} {r n p d : ℕ} → ReadingFault f text r n p d → Whole f text (reading (answer r n p d) 0)
whole_fault {f} {text} {r} {n} {p} {d} at =
    let q = (refused_exactly f text r n p d).1 at in
    let t = le-leb r 8 (fault_small at).number in
    let e : answer r n p d ≡ roomy_answer words_of (length text) (read_in f text) = rw (q, t) in
    carrying_none (answer r n p d) (respelled_before f text) (λ z. omega (arith, z, (fault_small at).some))
    ∙ ap (λ (a : Answer). carrying a (respelled_before f text)) e

whole_run : {f : Form} {text : List ℕ} {es : List Element} → RunOf (Spells f) text es
    → Whole f text (reading (answer 0 (length es) (length text) (length (given words_of es))) (respelled_before f text))
whole_run {f} {text} {es} r =
    let a : Answer = answer 0 (length es) (length text) (length (given words_of es)) in
    let e : a ≡ roomy_answer words_of (length text) (read_in f text) = rw ((accepted_exactly f text es).1 r) in
    carrying_it a (respelled_before f text) refl ∙ ap (λ (b : Answer). carrying b (respelled_before f text)) e

module _ {f : Form} {octets : List ℕ} {c d : Carry} (h : Holds f octets c) (x : Call) (xs : List Call)
    (p : FeedPromise c x.piece x.ended x.words x.fed x.after) (cs : Calls x.fed.carry xs d) where
  abbrev onward : List ℕ
  onward = (octets ++ x.piece) ++ page xs

  -- the page with a call that is not answered 9
  page_with : {a : Answer} → answer_to x ≡ a → one_of (9 ∷ []) a.number ≡ false
      → (without (9 ∷ []) (x ∷ xs) ≡ x ∷ without (9 ∷ []) xs) × (octets ++ page (x ∷ xs) ≡ onward)
  page_with e t =
      let k = kept_call (9 ∷ []) x xs (ap (λ (b : Answer). one_of (9 ∷ []) b.number) e ∙ t) in (
        k,
        ap (λ (l : List Call). octets ++ pieces l) k
            ∙ ap (λ (l : List ℕ). octets ++ l) (pieces_next x (without (9 ∷ []) xs))
            ∙ sym (append_assoc octets x.piece (page xs)),
      )

  -- the page without one that is
  page_without : (answer_to x).number ≡ 9 → without (9 ∷ []) (x ∷ xs) ≡ without (9 ∷ []) xs
  page_without e = left_out (9 ∷ []) x xs (ap (λ (n : ℕ). one_of (9 ∷ []) n) e)

  -- no piece of it passes the limit
  never_past : {a : Answer} → answer_to x ≡ a → one_of (9 ∷ []) a.number ≡ false → length (octets ++ page (x ∷ xs)) ≤ limit
      → limit < length (octets ++ x.piece) → ⊥
  never_past e t within beyond =
      omega (arith, within, beyond, ap length (page_with e t).1, length-append (octets ++ x.piece) (page xs))

  final_call : {a : ReadAnswer} → Ends (without (9 ∷ []) (x ∷ xs)) a → length (octets ++ page (x ∷ xs)) ≤ limit
      → ((octets' : List ℕ) → Holds f octets' x.fed.carry → Ends (without (9 ∷ []) xs) a → length (octets' ++ page xs) ≤ limit
      → Whole f (octets' ++ page xs) a)
      → (fed : Fed) (after : List ℕ) → Row h x xs p cs fed after → x.fed ≡ fed → Whole f (octets ++ page (x ∷ xs)) a
  final_call ends within ih fed after (Fares.past beyond) e =
      absurd (never_past (ap (λ (r : Fed). r.answer) e) refl within beyond)
  final_call {a} ends within ih fed after (Fares.short w new room) e =
      let k = page_without (ap (λ (r : Fed). r.answer.number) e) in
      let same : x.fed.carry ≡ c = ap (λ (r : Fed). r.carry) e in
      let text : octets ++ page (x ∷ xs) ≡ octets ++ page xs = ap (λ (l : List Call). octets ++ pieces l) k in
      subst (λ (l : List ℕ). Whole f l a) (sym text)
      (ih octets (subst (Holds f octets) (sym same) h) (subst (λ (l : List Call). Ends l a) k ends)
      (subst (λ (l : List ℕ). length l ≤ limit) text within))
  final_call {a} ends within ih fed after (Fares.faulted {ws} {r} {n} {p = k} {d = i} w new room at four) e =
      let is : reading_to x ≡ reading (answer r n k i) 0 = ap numbers_of e in
      let small = fault_small at in
      let t = small_kept r small.number in
      let rep = after_all h x xs p cs is (λ z. omega (arith, z, small.number)) (λ z. absurd (omega (arith, z, small.some))) in
      let g = page_with (ap (λ (b : Fed). b.answer) e) t.0 in
      let E = ends_cases (subst (λ (l : List Call). Ends l a) g.0 ends) in
      let same : a ≡ reading (answer r n k i) 0 =
      ⊎_elim (λ l. l.2 ∙ is) (λ l. repeats_ends rep (subst (λ (l : List Call). Ends l a) (repeats_kept (9 ∷ []) t.0 rep) l.1)) E in
      subst₂ (Whole f) (sym g.1) (sym same)
      (⊎_elim
      (λ m. ⊎_elim
      (λ l. subst (λ (u : List ℕ). Whole f u (reading (answer r n k i) 0))
      (sym (append-nil (octets ++ x.piece)) ∙ ap (λ (u : List ℕ). (octets ++ x.piece) ++ u) (sym (ap pieces l.0 ∙ pieces_none)))
      (whole_fault at))
      (λ l. absurd (not_both (four m) l.0)) E)
      (λ m. whole_fault (fault_stays at m (page xs))) (is_or 4 r))
  final_call {a} ends within ih fed after (Fares.goes {ws} {next} w new room hn ended) e =
      let zero : answer_to x ≡ answer 0 _ _ _ = ap (λ (b : Fed). b.answer) e ∙ hn.says in
      let g = page_with zero refl in
      subst (λ (l : List ℕ). Whole f l a) (sym g.1)
      (⊎_elim (λ l. absurd (not_both l.1 ended))
      (λ l. ih (octets ++ x.piece) (subst (Holds f (octets ++ x.piece)) (sym (ap (λ (b : Fed). b.carry) e)) hn) l.1
      (subst (λ (l : List ℕ). length l ≤ limit) g.1 within))
      (ends_cases (subst (λ (l : List Call). Ends l a) g.0 ends)))
  final_call {a} ends within ih fed after (Fares.finished {ws} {es} w new room run ended) e =
      let g = page_with (ap (λ (b : Fed). b.answer) e) refl in
      ⊎_elim
      (λ l. subst₂ (Whole f)
      (sym (append-nil (octets ++ x.piece))
      ∙ ap (λ (u : List ℕ). (octets ++ x.piece) ++ u) (sym (ap pieces l.0 ∙ pieces_none))
      ∙ sym g.1)
      (sym (l.2 ∙ ap numbers_of e)) (whole_run run))
      (λ l. absurd (not_both ended l.0))
      (ends_cases (subst (λ (l : List Call). Ends l a) g.0 ends))

pub final_of_calls : {f : Form} {c d : Carry} {xs : List Call} {a : ReadAnswer} → Calls c xs d → (octets : List ℕ) → Holds f octets c
    → Ends (without (9 ∷ []) xs) a → length (octets ++ page xs) ≤ limit → Whole f (octets ++ page xs) a
final_of_calls {a = a} Calls.none octets h ends within =
    absurd (none_ends [] (subst (λ (l : List Call). Ends l a) (without_none (9 ∷ [])) ends) refl)
final_of_calls (Calls.next {x = x} {xs = xs} p cs) octets h ends within =
    final_call h x xs p cs ends within (λ octets' h' ends' within'. final_of_calls cs octets' h' ends' within') x.fed x.after
    (row h x xs p cs) refl

-- ---- within the limit, the page is taken

module _ {f : Form} {octets : List ℕ} {c d : Carry} (h : Holds f octets c) (x : Call) (xs : List Call)
    (p : FeedPromise c x.piece x.ended x.words x.fed x.after) (cs : Calls x.fed.carry xs d) where
  -- calls that are all kept, after one that is
  kept_both : {a : Answer} → answer_to x ≡ a → (one_of (9 ∷ []) a.number ≡ false) × (one_of (9 ∷ 12 ∷ []) a.number ≡ false)
      → taken xs ≡ page xs → taken (x ∷ xs) ≡ page (x ∷ xs)
  kept_both {a} e t q =
      ap pieces (kept_call (9 ∷ 12 ∷ []) x xs (ap (λ (b : Answer). one_of (9 ∷ 12 ∷ []) b.number) e ∙ t.1))
      ∙ pieces_next x (without (9 ∷ 12 ∷ []) xs)
      ∙ ap (λ (l : List ℕ). x.piece ++ l) q
      ∙ sym (pieces_next x (without (9 ∷ []) xs))
      ∙ sym (ap pieces (kept_call (9 ∷ []) x xs (ap (λ (b : Answer). one_of (9 ∷ []) b.number) e ∙ t.0)))

  repeats_both : {a : ReadAnswer} → (one_of (9 ∷ []) a.answer.number ≡ false) × (one_of (9 ∷ 12 ∷ []) a.answer.number ≡ false)
      → Repeats a xs → taken xs ≡ page xs
  repeats_both t r = ap pieces (repeats_kept (9 ∷ 12 ∷ []) t.1 r ∙ sym (repeats_kept (9 ∷ []) t.0 r))

  taken_call : length (octets ++ page (x ∷ xs)) ≤ limit
      → ((octets' : List ℕ) → Holds f octets' x.fed.carry → length (octets' ++ page xs) ≤ limit → taken xs ≡ page xs)
      → (fed : Fed) (after : List ℕ) → Row h x xs p cs fed after → x.fed ≡ fed → taken (x ∷ xs) ≡ page (x ∷ xs)
  taken_call within ih fed after (Fares.past beyond) e =
      absurd (never_past h x xs p cs (ap (λ (r : Fed). r.answer) e) refl within beyond)
  taken_call within ih fed after (Fares.short w new room) e =
      let a : (answer_to x).number ≡ 9 = ap (λ (r : Fed). r.answer.number) e in
      let k = page_without h x xs p cs a in
      let same : x.fed.carry ≡ c = ap (λ (r : Fed). r.carry) e in
      ap pieces (left_out (9 ∷ 12 ∷ []) x xs (ap (λ (n : ℕ). one_of (9 ∷ 12 ∷ []) n) a))
      ∙ ih octets (subst (Holds f octets) (sym same) h) (subst (λ (l : List Call). length (octets ++ pieces l) ≤ limit) k within)
      ∙ sym (ap pieces k)
  taken_call within ih fed after (Fares.faulted {ws} {r} {n} {p = k} {d = i} w new room at four) e =
      let is : reading_to x ≡ reading (answer r n k i) 0 = ap numbers_of e in
      let small = fault_small at in
      let t = small_kept r small.number in
      kept_both (ap (λ (b : Fed). b.answer) e) t
      (repeats_both t (after_all h x xs p cs is (λ z. omega (arith, z, small.number)) (λ z. absurd (omega (arith, z, small.some)))))
  taken_call within ih fed after (Fares.goes {ws} {next} w new room hn ended) e =
      let zero : answer_to x ≡ answer 0 _ _ _ = ap (λ (b : Fed). b.answer) e ∙ hn.says in
      kept_both zero (refl, refl)
      (ih (octets ++ x.piece) (subst (Holds f (octets ++ x.piece)) (sym (ap (λ (b : Fed). b.carry) e)) hn)
      (subst (λ (l : List ℕ). length l ≤ limit) (page_with h x xs p cs zero refl).1 within))
  taken_call within ih fed after (Fares.finished {ws} {es} w new room run ended) e =
      kept_both (ap (λ (b : Fed). b.answer) e) (refl, refl)
      (repeats_both (refl, refl) (after_all h x xs p cs (ap numbers_of e) (λ z. omega (arith, z)) (λ z. ended)))

pub taken_of_calls : {f : Form} {c d : Carry} {xs : List Call} → Calls c xs d → (octets : List ℕ) → Holds f octets c
    → length (octets ++ page xs) ≤ limit → taken xs ≡ page xs
taken_of_calls Calls.none octets h within = ap pieces (without_none (9 ∷ 12 ∷ []) ∙ sym (without_none (9 ∷ [])))
taken_of_calls (Calls.next {x = x} {xs = xs} p cs) octets h within =
    taken_call h x xs p cs within (λ octets' h' within'. taken_of_calls cs octets' h' within') x.fed x.after (row h x xs p cs) refl

-- ---- a page that goes on

module _ {f : Form} {octets : List ℕ} {c d : Carry} (h : Holds f octets c) (x : Call) (xs : List Call)
    (p : FeedPromise c x.piece x.ended x.words x.fed x.after) (cs : Calls x.fed.carry xs d) where
  -- answered 9, it leaves the carry as it was; answered 0 before the end, the carry after its piece
  goes_short : (answer_to x).number ≡ 9 → (fed : Fed) (after : List ℕ) → Row h x xs p cs fed after → x.fed ≡ fed → x.fed.carry ≡ c
  goes_short nine fed after (Fares.past beyond) e = absurd (omega (arith, nine, ap (λ (r : Fed). r.answer.number) e))
  goes_short nine fed after (Fares.short w new room) e = ap (λ (r : Fed). r.carry) e
  goes_short nine fed after (Fares.faulted w new room at four) e =
      absurd (omega (arith, nine, ap (λ (r : Fed). r.answer.number) e, (fault_small at).number))
  goes_short nine fed after (Fares.goes w new room hn ended) e =
      absurd (omega (arith, nine, ap (λ (r : Fed). r.answer.number) e ∙ ap (λ (b : Answer). b.number) hn.says))
  goes_short nine fed after (Fares.finished w new room run ended) e = absurd (omega (arith, nine, ap (λ (r : Fed). r.answer.number) e))

  goes_onward : (answer_to x).number ≡ 0 → x.ended ≡ false → (fed : Fed) (after : List ℕ) → Row h x xs p cs fed after → x.fed ≡ fed
      → Holds f (octets ++ x.piece) x.fed.carry
  goes_onward zero more fed after (Fares.past beyond) e = absurd (omega (arith, zero, ap (λ (r : Fed). r.answer.number) e))
  goes_onward zero more fed after (Fares.short w new room) e = absurd (omega (arith, zero, ap (λ (r : Fed). r.answer.number) e))
  goes_onward zero more fed after (Fares.faulted w new room at four) e =
      absurd (omega (arith, zero, ap (λ (r : Fed). r.answer.number) e, (fault_small at).some))
  goes_onward zero more fed after (Fares.goes w new room hn ended) e =
      subst (Holds f (octets ++ x.piece)) (sym (ap (λ (b : Fed). b.carry) e)) hn
  goes_onward zero more fed after (Fares.finished w new room run ended) e = absurd (not_both ended more)

pub holds_of_calls : {f : Form} {c d : Carry} {xs : List Call} → Calls c xs d → (octets : List ℕ) → Holds f octets c → AllGo xs
    → Holds f (octets ++ page xs) d
holds_of_calls {f} {d = d} Calls.none octets h go =
    subst (λ (l : List ℕ). Holds f l d)
    (sym (append-nil octets) ∙ ap (λ (l : List ℕ). octets ++ l) (sym (ap pieces (without_none (9 ∷ [])) ∙ pieces_none))) h
holds_of_calls {f} {d = d} (Calls.next {x = x} {xs = xs} p cs) octets h (AllGo.short nine go) =
    let same = goes_short h x xs p cs nine x.fed x.after (row h x xs p cs) refl in
    subst (λ (l : List Call). Holds f (octets ++ pieces l) d) (sym (page_without h x xs p cs nine))
    (holds_of_calls cs octets (subst (Holds f octets) (sym same) h) go)
holds_of_calls {f} {d = d} (Calls.next {x = x} {xs = xs} p cs) octets h (AllGo.goes zero more go) =
    let k = kept_call (9 ∷ []) x xs (ap (λ (n : ℕ). one_of (9 ∷ []) n) zero) in
    let hn = goes_onward h x xs p cs zero more x.fed x.after (row h x xs p cs) refl in
    subst (λ (l : List ℕ). Holds f l d)
    (append_assoc octets x.piece (page xs) ∙ ap (λ (l : List ℕ). octets ++ l) (sym (ap pieces k ∙ pieces_next x (without (9 ∷ []) xs))))
    (holds_of_calls cs (octets ++ x.piece) hn go)

-- ---- one call's row, in the request's words

pub goes_on : {f : Form} {octets : List ℕ} {c : Carry} (h : Holds f octets c) → GoesOn f octets h.run.0 h.es
goes_on {f} {octets} {c} h = subst (λ (l : List ℕ). GoesOn f l h.run.0 h.es) (sym h.whole) (by_open h.begun)
  where
    by_open : Open f (waiting c) → GoesOn f (h.front ++ waiting c) h.run.0 h.es
    by_open (Open.nothing e) =
        subst (λ (l : List ℕ). GoesOn f (h.front ++ l) h.run.0 h.es) (sym e)
        (subst (λ (l : List ℕ). GoesOn f l h.run.0 h.es) (sym (append-nil h.front)) (GoesOn.finished h.run.1))
    by_open (Open.begun k) =
        GoesOn.unfinished
        (record {
          front = h.front;
          rest = waiting c;
          elements = h.es;
          behind = length (waiting c);
          whole = refl;
          run = h.run;
          here = k;
          element_number = refl;
          first_place = refl;
          deciding = refl;
        })

-- and the carry counts its pieces that are not canonical
pub carries_apart : {f : Form} {octets : List ℕ} {c : Carry} (h : Holds f octets c)
    → Apart (CanonicalElement f) h.run.0 h.es c.respelled
carries_apart {f} {c = c} h = (respelled_exactly f h.run.1 c.respelled).0 (sym h.respelled)

pub fed_row : {f : Form} {octets : List ℕ} {c : Carry} {piece : List ℕ} {ended : Bool} {words : List ℕ} {fed : Fed} {after : List ℕ}
    → Fares f octets c piece ended words fed after → FedRow f octets piece ended words fed.answer fed.respelled fed.handed after
fed_row (Fares.past beyond) = FedRow.over_limit beyond
fed_row (Fares.short within new room) = FedRow.room_is_short within new room
fed_row (Fares.faulted within new room at four) = FedRow.fault within new room at four
fed_row {f} {octets} {c} {piece} {ended} {words} (Fares.goes {ws} {next} within new room hn more) =
    subst (λ (a : Answer). FedRow f octets piece ended words a next.respelled (length ws) (over words ws)) (sym hn.says)
    (FedRow.so_far within new room (goes_on hn) (carries_apart hn) more)
fed_row {f} {octets} {piece = piece} (Fares.finished within new room run ended) =
    FedRow.accepted within new room run.1 ((respelled_exactly f run.1 _).0 refl) ended

-- what waits after it, where it ends the page: nothing
pub none_waits : {f : Form} {octets : List ℕ} {c : Carry} {piece : List ℕ} {ended : Bool} {words : List ℕ} {fed : Fed} {after : List ℕ}
    → Fares f octets c piece ended words fed after → (fed.answer.number ≡ 9 → ⊥) → (fed.answer.number ≡ 0 → ended ≡ true)
    → fed.carry.holds ≡ 0
none_waits (Fares.past beyond) not_9 at_end = refl
none_waits (Fares.short within new room) not_9 at_end = absurd (not_9 refl)
none_waits (Fares.faulted within new room at four) not_9 at_end = refl
none_waits (Fares.goes within new room hn more) not_9 at_end =
    absurd (not_both (at_end (ap (λ (a : Answer). a.number) hn.says)) more)
none_waits (Fares.finished within new room run ended) not_9 at_end = refl

-- ---- calls after each of which the page goes on: only they, and none past the limit

pub go_only : {xs : List Call} → AllGo xs → OnlyLast (without (9 ∷ []) xs)
go_only AllGo.none = subst OnlyLast (sym (without_none (9 ∷ []))) OnlyLast.none
go_only (AllGo.short {x} {xs} nine go) =
    subst OnlyLast (sym (left_out (9 ∷ []) x xs (ap (λ (n : ℕ). one_of (9 ∷ []) n) nine))) (go_only go)
go_only (AllGo.goes {x} {xs} zero more go) =
    subst OnlyLast (sym (kept_call (9 ∷ []) x xs (ap (λ (n : ℕ). one_of (9 ∷ []) n) zero))) (OnlyLast.earlier more (go_only go))

pub go_taken : {xs : List Call} → AllGo xs → without (9 ∷ 12 ∷ []) xs ≡ without (9 ∷ []) xs
go_taken AllGo.none = without_none (9 ∷ 12 ∷ []) ∙ sym (without_none (9 ∷ []))
go_taken (AllGo.short {x} {xs} nine go) =
    left_out (9 ∷ 12 ∷ []) x xs (ap (λ (n : ℕ). one_of (9 ∷ 12 ∷ []) n) nine)
    ∙ go_taken go
    ∙ sym (left_out (9 ∷ []) x xs (ap (λ (n : ℕ). one_of (9 ∷ []) n) nine))
go_taken (AllGo.goes {x} {xs} zero more go) =
    kept_call (9 ∷ 12 ∷ []) x xs (ap (λ (n : ℕ). one_of (9 ∷ 12 ∷ []) n) zero)
    ∙ ap (λ (l : List Call). x ∷ l) (go_taken go)
    ∙ sym (kept_call (9 ∷ []) x xs (ap (λ (n : ℕ). one_of (9 ∷ []) n) zero))
