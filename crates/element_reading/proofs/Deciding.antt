-- The deciding octet is the first at which no continuation is accepted. Stated with the grammar alone, over the form.
-- Assumes nothing.
use Prim.Native.Nat.{ℕ, suc, ◌≤◌, ◌<◌}
use mathlib.Core.Path.{◌≡◌, refl, sym, ap, ◌∙◌, subst}
use mathlib.Core.Logic.{◌↔◌, ⊎_elim}
use mathlib.Core.Bool.{Bool}
use mathlib.Core.List.{List, [], ◌∷◌, ◌++◌, append_assoc, append-nil}
use native.Mathlib.Omega.{arith}
use lib.ListN.{length, take, drop, length-append, length-take, take-append-drop}
use lib.Seq.{take-append_seam, take-append-add, take-length, take_all}
use lib.Dec.{lit≤}
use native.Mathlib.Numerals.{add-one}
use Rattle.run.specs.Head.{Head, element, refused, none}
use Rattle.sorts.specs.declared.Form.{Form}
use Rattle.sorts.specs.declared.Sort.TheVariants.{Underline, Shift, SequenceStart}
use Rattle.sorts.specs.Sorts.{sort_in}
use Rattle.squares.proofs.SquareFacts.{mark_space, shifted_mark_space}
use Rattle.sorts.proofs.SortFacts.{space_sorts, shift_is, sequence_is}
use Rattle.sorts.specs.Forms.{CSI}
use Rattle.sequence_reading.specs.Grammar.{RefusesSequence}
use Rattle.sequence_reading.specs.SequenceHead.{sequence_head}
use Rattle.sequence_reading.proofs.Refusals.{stays, goes_on, cut_off}
use Rattle.element_words.specs.declared.Element.{Element}
use Rattle.element_words.specs.Words.{sequence_element}
use Rattle.element_reading.specs.Grammar.{Awaits, Spells, Refuses, Continues, CutShort}
use Rattle.element_reading.specs.ElementHead.{head_in}
use Rattle.element_reading.proofs.Reader.{is_or, reads, refuses_exactly_by, sequence_refused, refused_sequence}

module _ (f : Form) where
  -- ---- an answer other than 4 does not change, whatever follows its deciding octet

  seam : (p t : List ℕ) (l : ℕ) (u : List ℕ) → take (suc (length p)) (p ++ (l ∷ t)) ++ u ≡ p ++ (l ∷ u)
  seam p t l u =
      ap (λ (n : ℕ). take n (p ++ (l ∷ t)) ++ u) (sym (add-one (length p)))
      ∙ ap (λ (x : List ℕ). x ++ u) (take-append-add p (l ∷ t) 1)
      ∙ append_assoc p (l ∷ []) u

  sequence_stays : {o r d : ℕ} {t : List ℕ} → sort_in f o ≡ SequenceStart → RefusesSequence (o ∷ t) r d → (r ≡ 4 → ⊥) → (u : List ℕ)
      → Refuses f (take (suc d) (o ∷ t) ++ u) r d
  sequence_stays {o} {r} {d} {t} s k n u =
      let h = stays (o ∷ t) r d (sequence_refused f o t r d s k) n u in
      Refuses.in_sequence s (refused_sequence f o (take d t ++ u) r d s h)

  pub same_refusal : {s : List ℕ} {r d : ℕ} → Refuses f s r d → (r ≡ 4 → ⊥) → (u : List ℕ) → Refuses f (take (suc d) s ++ u) r d
  same_refusal (Refuses.begins_nothing e) n u = Refuses.begins_nothing e
  same_refusal (Refuses.codes_neither s e) n u = Refuses.codes_neither s e
  same_refusal (Refuses.escape e) n u = Refuses.escape e
  same_refusal (Refuses.not_listed {p} l t w e k) n u = rw (seam p t l u) (Refuses.not_listed l u w e k)
  same_refusal (Refuses.may_not s k) n u = Refuses.may_not s k
  same_refusal (Refuses.ends_after_mark w) n u = absurd (n refl)
  same_refusal (Refuses.ends_after_shift s) n u = absurd (n refl)
  same_refusal (Refuses.ends_after_underline s) n u = absurd (n refl)
  same_refusal (Refuses.high e) n u = Refuses.high e
  same_refusal (Refuses.high_after_shift s e) n u = Refuses.high_after_shift s e
  same_refusal (Refuses.high_follower {p} l t w e) n u = rw (seam p t l u) (Refuses.high_follower l u w e)
  same_refusal (Refuses.high_after_underline s e) n u = Refuses.high_after_underline s e
  same_refusal (Refuses.in_sequence s k) n u = sequence_stays s k n u

  whole_again : (s t : List ℕ) (d : ℕ) → take (suc d) s ++ (drop (suc d) s ++ t) ≡ s ++ t
  whole_again s t d = sym (append_assoc (take (suc d) s) (drop (suc d) s) t) ∙ ap (λ (x : List ℕ). x ++ t) (take-append-drop (suc d) s)

  -- so a refusal other than 4 stays, whatever follows
  pub refusal_stays : {s : List ℕ} {r d : ℕ} → Refuses f s r d → (r ≡ 4 → ⊥) → (u : List ℕ) → Refuses f (s ++ u) r d
  refusal_stays {s} {r} {d} h n u =
      subst (λ (l : List ℕ). Refuses f l r d) (whole_again s u d) (same_refusal h n (drop (suc d) s ++ u))

  -- ---- what stands before the deciding octet can be continued

  go_space : Continues f []
  go_space = (0x20 ∷ [], _, Spells.graphic (space_sorts f))

  go_shift : {s : ℕ} → sort_in f s ≡ Shift → Continues f (s ∷ [])
  go_shift {s} e = (0x21 ∷ [], _, Spells.shifted e (shift_is f s e).1)

  go_underline : {u : ℕ} → sort_in f u ≡ Underline → Continues f (u ∷ [])
  go_underline e = (0x20 ∷ [], _, Spells.underlined e (space_sorts f))

  go_follower : {p : List ℕ} {m : ℕ} {u : Bool} → Awaits f p m u → Continues f p
  go_follower (Awaits.mark {o} {m} e) = (0x20 ∷ [], _, Spells.pair 0x20 (Awaits.mark e) (mark_space f o m e).1)
  go_follower (Awaits.shifted_mark {s} {o} {m} s' e) =
      (0x20 ∷ [], _, Spells.pair 0x20 (Awaits.shifted_mark s' e) (shifted_mark_space f o m e).1)
  go_follower (Awaits.underlined_mark {u} {o} {m} s e) =
      (0x20 ∷ [], _, Spells.pair 0x20 (Awaits.underlined_mark s e) (mark_space f o m e).1)

  go_sequence : {o r d : ℕ} {t : List ℕ} → sort_in f o ≡ SequenceStart → RefusesSequence (o ∷ t) r d → Continues f (take d (o ∷ t))
  go_sequence {o} {r} {d} {t} s k =
      let q : o ≡ CSI = sequence_is f o s in
      let g = goes_on k in (
        g.more,
        sequence_element g.found,
        subst (λ (x : List ℕ). Spells f x (sequence_element g.found)) (sym g.whole)
            (Spells.sequence (sym (ap (sort_in f) q) ∙ s) g.spells),
      )

  pub before_deciding : {s : List ℕ} {r d : ℕ} → Refuses f s r d → Continues f (take d s)
  before_deciding (Refuses.begins_nothing e) = go_space
  before_deciding (Refuses.codes_neither s e) = go_shift s
  before_deciding (Refuses.escape e) = go_space
  before_deciding (Refuses.not_listed {p} l t w e k) = rw (take-append_seam p (l ∷ t)) (go_follower w)
  before_deciding (Refuses.may_not s k) = go_underline s
  before_deciding (Refuses.ends_after_mark {p} w) = rw (take-length p) (go_follower w)
  before_deciding (Refuses.ends_after_shift s) = go_shift s
  before_deciding (Refuses.ends_after_underline s) = go_underline s
  before_deciding (Refuses.high e) = go_space
  before_deciding (Refuses.high_after_shift s e) = go_shift s
  before_deciding (Refuses.high_follower {p} l t w e) = rw (take-append_seam p (l ∷ t)) (go_follower w)
  before_deciding (Refuses.high_after_underline s e) = go_underline s
  before_deciding (Refuses.in_sequence s k) = go_sequence s k

  -- ---- the deciding octet

  spelt_head_lem : {s : List ℕ} {e : Element} → Spells f s e → head_in f s ≡ element e (length s)
  spelt_head_lem {s} {e} h = ap (head_in f) (sym (append-nil s)) ∙ (reads f).finds s [] e h

  -- with the deciding octet nothing is accepted
  pub with_deciding : {s : List ℕ} {r d : ℕ} → Refuses f s r d → (r ≡ 4 → ⊥) → Continues f (take (suc d) s) → ⊥
  with_deciding {s} {r} {d} h n c =
      let p = (refuses_exactly_by f (take (suc d) s ++ c.0) r d).1 (same_refusal h n c.0) in
      let q = spelt_head_lem c.2 in
      let w : ◌≡◌ {A = ℕ} 0 1 = cc in
      omega arith

  awaits_short : {p : List ℕ} {m : ℕ} {u : Bool} → Awaits f p m u → length p ≤ 39
  awaits_short (Awaits.mark e) = lit≤ tt
  awaits_short (Awaits.shifted_mark s e) = lit≤ tt
  awaits_short (Awaits.underlined_mark s e) = lit≤ tt

  -- where input ends inside an element, the deciding place is its end, and an unfinished element has at most 39 octets
  unfinished_by : {s : List ℕ} {r d : ℕ} → Refuses f s r d → r ≡ 4 → (d ≡ length s) × (length s ≤ 39)
  unfinished_by (Refuses.begins_nothing e) q = absurd (omega arith)
  unfinished_by (Refuses.codes_neither s e) q = absurd (omega arith)
  unfinished_by (Refuses.escape e) q = absurd (omega arith)
  unfinished_by (Refuses.not_listed l t w e k) q = absurd (omega arith)
  unfinished_by (Refuses.may_not s k) q = absurd (omega arith)
  unfinished_by (Refuses.ends_after_mark w) q = (refl, awaits_short w)
  unfinished_by (Refuses.ends_after_shift s) q = (refl, lit≤ tt)
  unfinished_by (Refuses.ends_after_underline s) q = (refl, lit≤ tt)
  unfinished_by (Refuses.high e) q = absurd (omega arith)
  unfinished_by (Refuses.high_after_shift s e) q = absurd (omega arith)
  unfinished_by (Refuses.high_follower l t w e) q = absurd (omega arith)
  unfinished_by (Refuses.high_after_underline s e) q = absurd (omega arith)
  unfinished_by (Refuses.in_sequence {o} {r} {d} {t} s k) q =
      cut_off t d
      (subst (λ (b : ℕ). sequence_head (b ∷ t) ≡ refused 4 d) (sequence_is f o s)
      (sequence_refused f o t r d s k ∙ ap (λ (n : ℕ). refused n d) q))

  pub unfinished : {s : List ℕ} {d : ℕ} → Refuses f s 4 d → (d ≡ length s) × (length s ≤ 39)
  unfinished h = unfinished_by h refl

  -- 4 is given exactly when all that is left is the beginning of an element, and not all of it
  left_over : {s : List ℕ} (t : List ℕ) {e : Element} → Spells f (s ++ t) e → Refuses f s 4 (length s) → 0 < length t
  left_over {s} [] {e} h k =
      let p = spelt_head_lem h in
      let q = ap (head_in f) (append-nil s) ∙ (refuses_exactly_by f s 4 (length s)).1 k in
      let w : ◌≡◌ {A = ℕ} 0 1 = cc in
      absurd (omega arith)
  left_over (x ∷ t) h k = omega arith

  read_some : (s : List ℕ) (r d : ℕ) → Refuses f s r d → 0 < length s
  read_some [] r d k =
      let p = (reads f).ends in
      let q = (refuses_exactly_by f [] r d).1 k in
      let w : ◌≡◌ {A = ℕ} 0 1 = cc in
      absurd (omega arith)
  read_some (x ∷ s) r d k = omega arith

  is_cut : (s : List ℕ) → Refuses f s 4 (length s) → CutShort f s
  is_cut s k =
      let c : Continues f s = rw (take-length s) at (before_deciding k) in
      record { rest = c.0; whole = c.1; spells = c.2; some_read = read_some s 4 (length s) k; some_left = left_over c.0 c.2 k }

  cut_by : (s : List ℕ) → CutShort f s → (h : Head Element) → head_in f s ≡ h → Refuses f s 4 (length s)
  cut_by s c (element e k) q =
      let b = (reads f).found s e k q in
      let p = (reads f).finds b.front (b.rest ++ c.rest) e b.spells in
      let z : head_in f (s ++ c.rest) ≡ element e (length b.front) =
      ap (head_in f) (ap (λ (x : List ℕ). x ++ c.rest) b.whole ∙ append_assoc b.front b.rest c.rest) ∙ p in
      let y = spelt_head_lem c.spells in
      let l : length b.front ≡ length (s ++ c.rest) = cc in
      absurd (omega (arith, length-append s c.rest, ap length b.whole, length-append b.front b.rest, c.some_left))
  cut_by s c (refused r d) q = ⊎_elim (λ e. four e) (λ n. absurd (other n)) (is_or 4 r)
    where
      k : Refuses f s r d
      k = (refuses_exactly_by f s r d).0 q

      four : r ≡ 4 → Refuses f s 4 (length s)
      four e =
          let k' : Refuses f s 4 d = subst (λ (n : ℕ). Refuses f s n d) e k in
          subst (Refuses f s 4) (unfinished k').0 k'

      other : (r ≡ 4 → ⊥) → ⊥
      other n =
          let p = (refuses_exactly_by f (s ++ c.rest) r d).1 (refusal_stays k n c.rest) in
          let y = spelt_head_lem c.spells in
          let w : ◌≡◌ {A = ℕ} 0 1 = cc in
          omega arith
  cut_by s c none q = absurd (omega (arith, ap length ((reads f).goes s q), c.some_read))

  pub cut_exactly : (s : List ℕ) → Refuses f s 4 (length s) ↔ CutShort f s
  cut_exactly s = (is_cut s, λ c. cut_by s c (head_in f s) refl)

  -- ---- forty octets are enough: what stands at the head of a text is what stands at the head of its first forty octets
  pub forty : (s : List ℕ) → head_in f s ≡ head_in f (take 40 s)
  forty s = go (head_in f (take 40 s)) refl
    where
      whole : take 40 s ++ drop 40 s ≡ s
      whole = take-append-drop 40 s

      few : length (take 40 s) ≤ 39 → take 40 s ≡ s
      few h = take_all 40 s (omega (arith, h, length-take 40 s))

      go : (x : Head Element) → head_in f (take 40 s) ≡ x → head_in f s ≡ head_in f (take 40 s)
      go (element e k) q =
          let b = (reads f).found (take 40 s) e k q in
          ap (head_in f)
          (sym whole ∙ ap (λ (l : List ℕ). l ++ drop 40 s) b.whole ∙ append_assoc b.front b.rest (drop 40 s))
          ∙ (reads f).finds b.front (b.rest ++ drop 40 s) e b.spells
          ∙ ap (element e) (sym b.size)
          ∙ sym q
      go (refused r d) q =
          let k = (refuses_exactly_by f (take 40 s) r d).0 q in
          ⊎_elim
          (λ e. ap (head_in f) (sym (few (unfinished (subst (λ (n : ℕ). Refuses f (take 40 s) n d) e k)).1)))
          (λ n. ap (head_in f) (sym whole) ∙ (refuses_exactly_by f (take 40 s ++ drop 40 s) r d).1 (refusal_stays k n (drop 40 s)) ∙ sym q)
          (is_or 4 r)
      go none q =
          let e : take 40 s ≡ [] = (reads f).goes (take 40 s) q in
          ap (head_in f) (sym (few (omega (arith, ap length e))))
