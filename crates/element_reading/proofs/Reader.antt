-- The reader finds exactly `Spells` and refuses exactly by `Refuses`, over the form.
-- Assumes nothing.
use Prim.Native.Nat.{ℕ, ◌≤◌, ◌<◌}
use mathlib.Core.Path.{◌≡◌, refl, sym, ap, ◌∙◌, subst}
use mathlib.Core.Logic.{◌↔◌, ◌⊎◌, inl, inr, ⊎_elim}
use mathlib.Core.Bool.{Bool, true, false}
use mathlib.Core.List.{List, [], ◌∷◌, ◌++◌, append_assoc, append-nil}
use native.Mathlib.Omega.{arith}
use lib.ListN.{length, length-append}
use lib.Dec.{eqb, lit<}
use borrow.Author.Tests.{ne_eqb, eqb-true, eqb-false}
use Rattle.run.specs.Head.{Head, element, refused, none}
use Rattle.run.specs.Grammar.{Begins, Reads}
use Rattle.sorts.specs.declared.Form.{Form}
use Rattle.sorts.specs.declared.Sort.{Sort}
use Rattle.sorts.specs.declared.Sort.TheVariants.{Graphic, Mark, Underline, Shift, Control, SequenceStart, Refused}
use Rattle.std.specs.Prelude.{Option, Some, None}
use Rattle.squares.specs.Squares.{square_of}
use Rattle.sorts.specs.Sorts.{sort_in, shifted_in, sort_number, AfterShift}
use Rattle.squares.proofs.SquareFacts.{follower_sorts}
use Rattle.sorts.proofs.SortFacts.{sequence_is, refused_numbers, after_shift}
use Rattle.sorts.specs.Forms.{CSI}
use Rattle.sequence_reading.specs.Grammar.{Sequence, SpellsSequence, RefusesSequence}
use Rattle.sequence_reading.specs.SequenceHead.{sequence_head}
use Rattle.sequence_reading.proofs.Reader.{sequence_reads, refuses_exactly}
use Rattle.element_words.specs.declared.Element.{Element}
use Rattle.element_words.specs.declared.Element.TheVariants.{One}
use Rattle.element_words.specs.Words.{graphic_word, sequence_element}
use Rattle.element_reading.specs.Grammar.{Awaits, Spells, MayNot, Refuses, OneOfThree, an_element, a_refusal, the_end}
use Rattle.element_reading.specs.ElementHead.{high_or, pair_head, follower_head, second_sort, shifted_head, underlined_head, as_element}
use Rattle.element_reading.specs.ElementHead.{head_sort, head_in}

-- a number is this one, or not
pub is_or : (k n : ℕ) → (n ≡ k) ⊎ (n ≡ k → ⊥)
is_or k n = go (eqb n k) refl
  where
    go : (b : Bool) → eqb n k ≡ b → (n ≡ k) ⊎ (n ≡ k → ⊥)
    go true e = inl (eqb-true n k e)
    go false e = inr (eqb-false n k e)

module _ (f : Form) where
  -- ---- what the definitions say is found

  -- octets that wait for a follower: the reader asks what follows the mark
  awaits_head : {p : List ℕ} {m : ℕ} {u : Bool} → Awaits f p m u → (t : List ℕ) → head_in f (p ++ t) ≡ follower_head f m u (length p) t
  unfolding head_in shifted_head underlined_head
  awaits_head (Awaits.mark e) t = rw e
  awaits_head (Awaits.shifted_mark s e) t = rw (s, e)
  awaits_head (Awaits.underlined_mark s e) t = rw (s, e)

  -- what behind an element does not matter
  behind : (p t : List ℕ) (l : ℕ) → (p ++ (l ∷ [])) ++ t ≡ p ++ (l ∷ t)
  behind p t l = simp append_assoc

  finds : (p t : List ℕ) (e : Element) → Spells f p e → head_in f (p ++ t) ≡ element e (length p)
  unfolding head_in shifted_head underlined_head follower_head
  finds _ t _ (Spells.graphic e) = rw e
  finds _ t _ (Spells.shifted s e) = rw (s, e)
  finds _ t _ (Spells.underlined s e) = rw (s, e)
  finds _ t _ (Spells.pair {p} {m} {c} {u} l w e) =
      ap (head_in f) (behind p t l) ∙ awaits_head w (l ∷ t) ∙ rw e (ap (element (One (graphic_word u c))) (sym (length-append p (l ∷ []))))
  finds _ t _ (Spells.control e) = rw e
  finds _ t _ (Spells.sequence {o} {p} {q} s e) = rw (s, sequence_reads.finds (o ∷ p) t q e)

  -- the number of what may not stand there: 5's, or its own
  only_high : (s : Sort) → sort_number s ≡ 5 → s ≡ Refused 5
  only_high (Graphic c) e = absurd (omega arith)
  only_high (Mark m) e = absurd (omega arith)
  only_high Underline e = absurd (omega arith)
  only_high Shift e = absurd (omega arith)
  only_high Control e = absurd (omega arith)
  only_high SequenceStart e = absurd (omega arith)
  only_high (Refused n) e = ap Refused e

  high_5 : (k : ℕ) (s : Sort) → s ≡ Refused 5 → high_or k s ≡ 5
  high_5 k s e = rw e

  not_high : (k : ℕ) (s : Sort) → (s ≡ Refused 5 → ⊥) → high_or k s ≡ k
  not_high k s n = rw (ne_eqb (sort_number s) 5 (λ e. n (only_high s e)))

  -- no listed follower has the top bit set in seven bits
  high_unlisted : (m l : ℕ) → sort_in f l ≡ Refused 5 → (x : Option ℕ) → square_of m l ≡ x → x ≡ None
  high_unlisted m l e (Some c) q = let h = follower_sorts f m l c q in let w : ◌≡◌ {A = ℕ} 0 1 = cc in absurd (omega arith)
  high_unlisted m l e None q = refl

  may_not_3 : (s : Sort) (t : List ℕ) → MayNot s → second_sort f true 3 s t ≡ refused 3 1
  may_not_3 (Graphic c) t n = absurd n
  may_not_3 (Mark m) t n = absurd n
  may_not_3 Underline t n = refl
  may_not_3 Shift t n = refl
  may_not_3 Control t n = refl
  may_not_3 SequenceStart t n = refl
  may_not_3 (Refused k) t n = rw (ne_eqb k 5 n)

  -- a sequence begins with 9B, and is refused as the grammar of sequences says
  pub sequence_refused : (o : ℕ) (t : List ℕ) (r d : ℕ) → sort_in f o ≡ SequenceStart → RefusesSequence (o ∷ t) r d
      → sequence_head (o ∷ t) ≡ refused r d
  sequence_refused o t r d s k =
      let q : o ≡ CSI = sequence_is f o s in
      subst (λ (b : ℕ). sequence_head (b ∷ t) ≡ refused r d) (sym q)
      ((refuses_exactly t r d).1 (subst (λ (b : ℕ). RefusesSequence (b ∷ t) r d) q k))

  pub refused_sequence : (o : ℕ) (t : List ℕ) (r d : ℕ) → sort_in f o ≡ SequenceStart → sequence_head (o ∷ t) ≡ refused r d
      → RefusesSequence (o ∷ t) r d
  refused_sequence o t r d s k =
      let q : o ≡ CSI = sequence_is f o s in
      subst (λ (b : ℕ). RefusesSequence (b ∷ t) r d) (sym q)
      ((refuses_exactly t r d).0 (subst (λ (b : ℕ). sequence_head (b ∷ t) ≡ refused r d) q k))

  refuses : {s : List ℕ} {r d : ℕ} → Refuses f s r d → head_in f s ≡ refused r d
  unfolding head_in shifted_head underlined_head follower_head
  refuses (Refuses.begins_nothing e) = rw e
  refuses (Refuses.codes_neither s e) = rw (s, e)
  refuses (Refuses.escape e) = rw e
  refuses (Refuses.not_listed {p} {m} {u} l t w e n) = awaits_head w (l ∷ t) ∙ rw (e, not_high 3 (sort_in f l) n)
  refuses (Refuses.may_not {o = o} {t} s n) = rw s (may_not_3 (sort_in f o) t n)
  refuses (Refuses.ends_after_mark {p} w) = ap (head_in f) (sym (append-nil p)) ∙ awaits_head w []
  refuses (Refuses.ends_after_shift s) = rw s
  refuses (Refuses.ends_after_underline s) = rw s
  refuses (Refuses.high e) = rw e
  refuses (Refuses.high_after_shift s e) = rw (s, e)
  refuses (Refuses.high_follower {p} {m} {u} l t w e) =
      awaits_head w (l ∷ t) ∙ rw (high_unlisted m l e (square_of m l) refl, high_5 3 (sort_in f l) e)
  refuses (Refuses.high_after_underline s e) = rw (s, e)
  refuses (Refuses.in_sequence {o} {r} {d} {t} s k) = rw (s, sequence_refused o t r d s k)

  -- ---- what is found or refused is what the definitions say

  data View : List ℕ → Head Element → Type 0 where
    read : {p : List ℕ} {e : Element} (t : List ℕ) → Spells f p e → View (p ++ t) (element e (length p))
    stop : {s : List ℕ} {r d : ℕ} → Refuses f s r d → View s (refused r d)
    end : View [] none

  -- a sort is number 5's, or not
  high_or_lem : (s : Sort) → (s ≡ Refused 5) ⊎ (s ≡ Refused 5 → ⊥)
  high_or_lem s = ⊎_elim (λ e. inl (only_high s e)) (λ k. inr (λ e. k (ap sort_number e))) (is_or 5 (sort_number s))

  view_listed : {p : List ℕ} {m : ℕ} {u : Bool} → Awaits f p m u → (l : ℕ) (t : List ℕ) (x : Option ℕ) → square_of m l ≡ x
      → View (p ++ (l ∷ t)) (pair_head u (length p) x (sort_in f l))
  view_listed {p} {m} {u} w l t (Some c) e =
      rw (← behind p t l, ← length-append p (l ∷ [])) (read t (Spells.pair l w e))
  view_listed {p} {m} {u} w l t None e =
      ⊎_elim
      (λ h. rw (high_5 3 (sort_in f l) h) (stop (Refuses.high_follower l t w h)))
      (λ n. rw (not_high 3 (sort_in f l) n) (stop (Refuses.not_listed l t w e n)))
      (high_or_lem (sort_in f l))

  view_follower : {p : List ℕ} {m : ℕ} {u : Bool} → Awaits f p m u → (t : List ℕ) → View (p ++ t) (follower_head f m u (length p) t)
  unfolding follower_head
  view_follower {p} w [] = rw (append-nil p) (stop (Refuses.ends_after_mark w))
  view_follower {m = m} w (l ∷ t) = view_listed w l t (square_of m l) refl

  view_shifted_sort : {b : ℕ} → sort_in f b ≡ Shift → (o : ℕ) (t : List ℕ) (s : Sort) → shifted_in f o ≡ s → AfterShift s
      → View (b ∷ o ∷ t) (second_sort f false 1 s t)
  view_shifted_sort s o t (Graphic c) e a = read t (Spells.shifted s e)
  view_shifted_sort s o t (Mark m) e a = view_follower (Awaits.shifted_mark s e) t
  view_shifted_sort s o t Underline e a = absurd a
  view_shifted_sort s o t Shift e a = absurd a
  view_shifted_sort s o t Control e a = absurd a
  view_shifted_sort s o t SequenceStart e a = absurd a
  view_shifted_sort s o t (Refused n) e a =
      ⊎_elim (λ q. rw q (stop (Refuses.codes_neither s (e ∙ ap Refused q))))
      (λ q. rw q (stop (Refuses.high_after_shift s (e ∙ ap Refused q)))) a

  view_shifted : {b : ℕ} → sort_in f b ≡ Shift → (t : List ℕ) → View (b ∷ t) (shifted_head f t)
  unfolding shifted_head
  view_shifted s [] = stop (Refuses.ends_after_shift s)
  view_shifted s (o ∷ t) = view_shifted_sort s o t (shifted_in f o) refl (after_shift f o (shifted_in f o) refl)

  view_underlined_sort : {b : ℕ} → sort_in f b ≡ Underline → (o : ℕ) (t : List ℕ) (s : Sort) → sort_in f o ≡ s
      → View (b ∷ o ∷ t) (second_sort f true 3 s t)
  view_underlined_sort s o t (Graphic c) e = read t (Spells.underlined s e)
  view_underlined_sort s o t (Mark m) e = view_follower (Awaits.underlined_mark s e) t
  view_underlined_sort s o t Underline e = stop (Refuses.may_not s (subst MayNot (sym e) tt))
  view_underlined_sort s o t Shift e = stop (Refuses.may_not s (subst MayNot (sym e) tt))
  view_underlined_sort s o t Control e = stop (Refuses.may_not s (subst MayNot (sym e) tt))
  view_underlined_sort s o t SequenceStart e = stop (Refuses.may_not s (subst MayNot (sym e) tt))
  view_underlined_sort s o t (Refused n) e =
      ⊎_elim
      (λ q. rw q (stop (Refuses.high_after_underline s (e ∙ ap Refused q))))
      (λ k. rw (ne_eqb n 5 k) (stop (Refuses.may_not s (subst MayNot (sym e) k))))
      (is_or 5 n)

  view_underlined : {b : ℕ} → sort_in f b ≡ Underline → (t : List ℕ) → View (b ∷ t) (underlined_head f t)
  unfolding underlined_head
  view_underlined s [] = stop (Refuses.ends_after_underline s)
  view_underlined s (o ∷ t) = view_underlined_sort s o t (sort_in f o) refl

  view_sequence_front : {o k : ℕ} {t : List ℕ} {q : Sequence} → sort_in f o ≡ SequenceStart → (p rest : List ℕ) → o ∷ t ≡ p ++ rest
      → SpellsSequence p q → k ≡ length p → View (o ∷ t) (element (sequence_element q) k)
  view_sequence_front {q = q} s [] rest w h z = absurd (omega (arith, sequence_reads.some [] q h))
  view_sequence_front {o} {k} {t} {q} s (b ∷ p) rest w h z =
      let ob : o ≡ b = cc in
      let e : o ∷ t ≡ (o ∷ p) ++ rest = cc in
      rw (e, z) (read rest (Spells.sequence s (subst (λ (x : ℕ). SpellsSequence (x ∷ p) q) (sym ob) h)))

  view_sequence : (o : ℕ) (t : List ℕ) → sort_in f o ≡ SequenceStart → (x : Head Sequence) → sequence_head (o ∷ t) ≡ x
      → View (o ∷ t) (as_element x)
  view_sequence o t s (element q k) e =
      let h = sequence_reads.found (o ∷ t) q k e in
      view_sequence_front s h.front h.rest h.whole h.spells h.size
  view_sequence o t s (refused r d) e = stop (Refuses.in_sequence s (refused_sequence o t r d s e))
  view_sequence o t s none e = let z : o ∷ t ≡ [] = sequence_reads.goes (o ∷ t) e in let w : ◌≡◌ {A = ℕ} 0 1 = cc in absurd (omega arith)

  view_sort : (o : ℕ) (t : List ℕ) (s : Sort) → sort_in f o ≡ s → View (o ∷ t) (head_sort f s o t)
  view_sort o t (Graphic c) e = read t (Spells.graphic e)
  view_sort o t (Mark m) e = view_follower (Awaits.mark e) t
  view_sort o t Underline e = view_underlined e t
  view_sort o t Shift e = view_shifted e t
  view_sort o t Control e = read t (Spells.control e)
  view_sort o t SequenceStart e = view_sequence o t e (sequence_head (o ∷ t)) refl
  view_sort o t (Refused n) e =
      ⊎_elim
      (λ q. rw q (stop (Refuses.begins_nothing (e ∙ ap Refused q))))
      (⊎_elim (λ q. rw q (stop (Refuses.escape (e ∙ ap Refused q)))) (λ q. rw q (stop (Refuses.high (e ∙ ap Refused q)))))
      (refused_numbers f o n e)

  view : (s : List ℕ) → View s (head_in f s)
  unfolding head_in
  view [] = end
  view (o ∷ t) = view_sort o t (sort_in f o) refl

  begins : {s : List ℕ} {h : Head Element} → View s h → (e : Element) (k : ℕ) → h ≡ element e k → Begins (Spells f) s e k
  begins (read {p} {e = e₀} t sp) e k q =
      let qe : e₀ ≡ e = cc in
      record { front = p; rest = t; whole = refl; spells = rw qe at sp; size = cc }
  begins (stop h) e k q = let w : ◌≡◌ {A = ℕ} 0 1 = cc in absurd (omega arith)
  begins end e k q = let w : ◌≡◌ {A = ℕ} 0 1 = cc in absurd (omega arith)

  stopped : {s : List ℕ} {h : Head Element} → View s h → (r d : ℕ) → h ≡ refused r d → Refuses f s r d
  stopped (read t sp) r d q = let w : ◌≡◌ {A = ℕ} 0 1 = cc in absurd (omega arith)
  stopped (stop {s} {r = r₀} {d = d₀} h) r d q = let qr : r₀ ≡ r = cc in let qd : d₀ ≡ d = cc in rw (qr, qd) at h
  stopped end r d q = let w : ◌≡◌ {A = ℕ} 0 1 = cc in absurd (omega arith)

  ended : {s : List ℕ} {h : Head Element} → View s h → h ≡ none → s ≡ []
  ended (read t sp) q = let w : ◌≡◌ {A = ℕ} 0 1 = cc in absurd (omega arith)
  ended (stop h) q = let w : ◌≡◌ {A = ℕ} 0 1 = cc in absurd (omega arith)
  ended end q = refl

  -- ---- what is left of the record of promises

  awaits_some : {p : List ℕ} {m : ℕ} {u : Bool} → Awaits f p m u → 0 < length p
  awaits_some (Awaits.mark e) = lit< tt
  awaits_some (Awaits.shifted_mark s e) = lit< tt
  awaits_some (Awaits.underlined_mark s e) = lit< tt

  some : (p : List ℕ) (e : Element) → Spells f p e → 0 < length p
  some _ _ (Spells.graphic e) = lit< tt
  some _ _ (Spells.shifted s e) = lit< tt
  some _ _ (Spells.underlined s e) = lit< tt
  some _ _ (Spells.pair {p} l w e) = omega (arith, length-append p (l ∷ []))
  some _ _ (Spells.control e) = lit< tt
  some _ _ (Spells.sequence {o} {p} {q} s e) = sequence_reads.some (o ∷ p) q e

  numbered : {s : List ℕ} {r d : ℕ} → Refuses f s r d → (0 < r) × (d ≤ length s)
  numbered (Refuses.begins_nothing e) = omega arith
  numbered (Refuses.codes_neither s e) = omega arith
  numbered (Refuses.escape e) = omega arith
  numbered (Refuses.not_listed {p} l t w e n) = omega (arith, length-append p (l ∷ t))
  numbered (Refuses.may_not s n) = omega arith
  numbered (Refuses.ends_after_mark w) = omega arith
  numbered (Refuses.ends_after_shift s) = omega arith
  numbered (Refuses.ends_after_underline s) = omega arith
  numbered (Refuses.high e) = omega arith
  numbered (Refuses.high_after_shift s e) = omega arith
  numbered (Refuses.high_follower {p} l t w e) = omega (arith, length-append p (l ∷ t))
  numbered (Refuses.high_after_underline s e) = omega arith
  numbered (Refuses.in_sequence {o} {r} {d} {t} s k) =
      let e = sequence_refused o t r d s k in
      (sequence_reads.numbered (o ∷ t) r d e, sequence_reads.inside (o ∷ t) r d e)

  -- Reading finds exactly what is spelt: the record of promises of `run`.
  pub reads : Reads (head_in f) (Spells f)
  unfolding head_in
  reads =
      record {
        finds = finds;
        found = λ s e k q. begins (view s) e k q;
        some = some;
        ends = refl;
        goes = λ s q. ended (view s) q;
        numbered = λ s r d q. (numbered (stopped (view s) r d q)).0;
        inside = λ s r d q. (numbered (stopped (view s) r d q)).1;
      }

  -- Reading refuses exactly by `Refuses`, with that number at that octet.
  pub refuses_exactly_by : (s : List ℕ) (r d : ℕ) → (head_in f s ≡ refused r d) ↔ Refuses f s r d
  refuses_exactly_by s r d = (stopped (view s) r d, refuses)

  -- At every place exactly one of the three holds: an element, a refusal, the end.
  one_by : (s : List ℕ) (h : Head Element) → head_in f s ≡ h → OneOfThree f s
  one_by s (element e k) q = an_element (reads.found s e k q)
  one_by s (refused r d) q = a_refusal ((refuses_exactly_by s r d).0 q)
  one_by s none q = the_end (reads.goes s q)

  pub one_of_three : (s : List ℕ) → OneOfThree f s
  one_of_three s = one_by s (head_in f s) refl

  -- the reader gives what begins the list
  pub begins_head : {s : List ℕ} {e : Element} {k : ℕ} → Begins (Spells f) s e k → head_in f s ≡ element e k
  begins_head {s} {e} {k} b = ap (head_in f) b.whole ∙ reads.finds b.front b.rest e b.spells ∙ ap (element e) (sym b.size)

  pub never_both : (s : List ℕ) (e : Element) (k r d : ℕ) → Begins (Spells f) s e k → Refuses f s r d → ⊥
  never_both s e k r d b h = let p = begins_head b in let q = refuses h in let w : ◌≡◌ {A = ℕ} 0 1 = cc in omega arith

  pub one_refusal : (s : List ℕ) (r d r' d' : ℕ) → Refuses f s r d → Refuses f s r' d' → (r ≡ r') × (d ≡ d')
  one_refusal s r d r' d' h k = let p = refuses h in let q = refuses k in (cc, cc)
