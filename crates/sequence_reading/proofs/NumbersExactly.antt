-- What each function that answers an enum finds keeps its promise: 01's number and values of it stand in 01's row, and in no other.
-- Assumes nothing.
use Prim.Native.Nat.{ℕ, ◌+◌, ◌-◌, ◌≤◌}
use mathlib.Core.Path.{◌≡◌, refl, sym, ap, ◌∙◌, subst, subst₂}
use mathlib.Core.Logic.{◌↔◌, ◌⊎◌, inl, inr, ⊎_elim}
use mathlib.Core.Bool.{Bool, true, false}
use mathlib.Core.List.{List, [], ◌∷◌, ◌++◌}
use native.Mathlib.Nat.{add-zero}
use native.Mathlib.Omega.{arith}
use lib.Dec.{eqb}
use lib.ListN.{length, drop, length-drop}
use borrow.Author.Tests.{le-leb, eqb-true, eqb-false, ne_eqb}
use Rattle.run.specs.Choice.{within}
use Rattle.run.specs.Head.{Head, element, refused, none}
use Rattle.run.specs.declared.Answer.{Answer}
use Rattle.run.specs.Answers.{answer}
use Rattle.run.proofs.Choices.{pick_case, within_range}
use Rattle.run.proofs.Range as range
use Rattle.sorts.specs.Forms.{CSI}
use Rattle.sequence_reading.specs.declared.Kind.{Kind}
use Rattle.sequence_reading.specs.declared.Kind.TheVariants.{Digit, Middle, Final, Other}
use Rattle.sequence_reading.specs.declared.Reading.{Reading}
use Rattle.sequence_reading.specs.Kinds.{counts_as, kind_counted, kind_of, kind_number, kind_value, CountsAs, NoneOfThese}
use Rattle.sequence_reading.specs.Kinds.{CountedRow, KindRow, OfNoSequence}
use Rattle.sequence_reading.specs.Grammar.{Sequence, Inside, NotAllowed, no_kind, RefusesSequence, not_allowed}
use Rattle.sequence_reading.specs.SequenceHead.{sequence_head, reading_of, reading_at}
use Rattle.sequence_reading.specs.SequenceNumbers.{reading_answer, sequence_read, SequenceRow}
use Rattle.sequence_reading.specs.Promises.{KindOfPromise, ReadSequencePromise}
use Rattle.sequence_reading.proofs.Reach.{Tells, refusal_found}
use Rattle.sequence_reading.proofs.Reader.{Beginning, nothing, foreign, told, beginning, foreign_refused, sequence_reads, read_eight}
use Rattle.sequence_reading.proofs.EightValues.{values_back}
use Rattle.sequence_reading.proofs.Places.{none_left}

-- ---- the kind of an octet

-- a range's test fails exactly outside it
out_of : (lo hi n : ℕ) → within lo hi n ≡ false → (lo ≤ n) × (n ≤ hi) → ⊥
out_of lo hi n e r =
    let w : within lo hi n ≡ true = rw (le-leb lo n r.0, le-leb n hi r.1) in
    let z : ◌≡◌ {A = ℕ} 0 1 = cc in
    omega arith

not_within : (lo hi n : ℕ) → ((lo ≤ n) × (n ≤ hi) → ⊥) → within lo hi n ≡ false
not_within lo hi n f = go (within lo hi n) refl
  where
    go : (t : Bool) → within lo hi n ≡ t → t ≡ false
    go true e = absurd (f (within_range lo hi n e))
    go false e = refl

-- of what an octet counts as
module _ (c : ℕ) where
  abbrev Row : Kind → Type 0
  Row k = CountedRow c k (kind_number k) (kind_value k)

  counted_row : Row (kind_counted c)
  counted_row =
      pick_case Row (within 0x30 0x39 c) _ _ (λ t. let r = within_range 0x30 0x39 c t in CountedRow.digit r.0 r.1)
      (λ d. pick_case Row (eqb c 0x3B) _ _ (λ t. CountedRow.separator (eqb-true c 0x3B t))
      (λ s. pick_case Row (within 0x20 0x2F c) _ _ (λ t. CountedRow.intermediate (within_range 0x20 0x2F c t))
      (λ m. pick_case Row (within 0x40 0x7E c) _ _ (λ t. CountedRow.final (within_range 0x40 0x7E c t))
      (λ f. CountedRow.no_octet (⊎_elim (out_of 0x30 0x39 c d) (eqb-false c 0x3B s), out_of 0x20 0x2F c m, out_of 0x40 0x7E c f)))))

  other_kind : NoneOfThese c → kind_counted c ≡ Other
  other_kind n =
      rw (
        not_within 0x30 0x39 c (λ h. n.0 (inl h)),
        ne_eqb c 0x3B (λ h. n.0 (inr h)),
        not_within 0x20 0x2F c n.1,
        not_within 0x40 0x7E c n.2,
      )

  row_counted : {k : Kind} {n v : ℕ} → CountedRow c k n v → (kind_counted c ≡ k) × (kind_number k ≡ n) × (kind_value k ≡ v)
  row_counted (CountedRow.digit h g) =
      (range.within kind_counted (λ o. Digit (o - 0x30)) 0x30 0x3A refl c h (omega arith), refl, refl)
  row_counted (CountedRow.separator q) = (ap kind_counted q, refl, refl)
  row_counted (CountedRow.intermediate r) = (range.within kind_counted Middle 0x20 0x30 refl c r.0 (omega (arith, r.1)), refl, refl)
  row_counted (CountedRow.final r) = (range.within kind_counted Final 0x40 0x7F refl c r.0 (omega (arith, r.1)), refl, refl)
  row_counted (CountedRow.no_octet n) = (other_kind n, refl, refl)

  row_6 : {k : Kind} {n v : ℕ} → CountedRow c k n v → n ≡ 6 → NoneOfThese c
  row_6 (CountedRow.digit h g) e = absurd (omega arith)
  row_6 (CountedRow.separator q) e = absurd (omega arith)
  row_6 (CountedRow.intermediate r) e = absurd (omega arith)
  row_6 (CountedRow.final r) e = absurd (omega arith)
  row_6 (CountedRow.no_octet n) e = n

module _ (b : ℕ) where
  is_counted : CountsAs b (counts_as b)
  is_counted =
      pick_case (CountsAs b) (within 0xA1 0xFE b) (b - 0x80) b
      (λ t. CountsAs.lowered (within_range 0xA1 0xFE b t))
      (λ t. CountsAs.itself (out_of 0xA1 0xFE b t))

  counted_is : {c : ℕ} → CountsAs b c → counts_as b ≡ c
  counted_is (CountsAs.itself n) = rw (not_within 0xA1 0xFE b n)
  counted_is (CountsAs.lowered r) = rw (le-leb 0xA1 b r.0, le-leb b 0xFE r.1)

  -- An octet behind 9B counts as itself, or as the octet 80 below, exactly as document 02 says.
  pub counts_as_exactly : (c : ℕ) → CountsAs b c ↔ (counts_as b ≡ c)
  counts_as_exactly c = (counted_is, λ e. subst (CountsAs b) e is_counted)

  abbrev ToldKind : Kind → Type 0
  ToldKind k = KindRow b k (kind_number k) (kind_value k)

  kind_row : ToldKind (kind_of b)
  unfolding kind_of
  kind_row = (counts_as b, is_counted, counted_row (counts_as b))

  -- So its kind is that of what it counts as; outside A1 to FE, of itself, by document 01 alone.
  pub kind_counted_lem : {c : ℕ} → CountsAs b c → kind_of b ≡ kind_counted c
  unfolding kind_of
  kind_counted_lem h = ap kind_counted (counted_is h)

  row_kind : {k : Kind} {n v : ℕ} → KindRow b k n v → (kind_of b ≡ k) × (kind_number (kind_of b) ≡ n) × (kind_value (kind_of b) ≡ v)
  row_kind r =
      let t = row_counted r.0 r.2 in
      let e = kind_counted_lem r.1 ∙ t.0 in
      (e, ap kind_number e ∙ t.1, ap kind_value e ∙ t.2)

  none_kind : OfNoSequence b → kind_of b ≡ Other
  none_kind n = kind_counted_lem n.1 ∙ other_kind n.0 n.2

-- An octet's kind, its number and its value are exactly those of 01's row for what it counts as.
pub kind_exactly : (b : ℕ) (k : Kind) (n v : ℕ)
    → KindRow b k n v ↔ ((kind_of b ≡ k) × (kind_number (kind_of b) ≡ n) × (kind_value (kind_of b) ≡ v))
kind_exactly b k n v = (
  row_kind b,
  λ e. subst₂ (KindRow b k) e.1 e.2
      (subst (λ (j : Kind). KindRow b j (kind_number (kind_of b)) (kind_value (kind_of b))) e.0 (kind_row b)),
)

-- 6 is given exactly for what is no octet of a sequence.
pub kind_6_exactly : (b : ℕ) → (kind_number (kind_of b) ≡ 6) ↔ OfNoSequence b
kind_6_exactly b = (
  λ e. let r = kind_row b in (r.0, r.1, row_6 r.0 r.2 e),
  λ n. ap kind_number (none_kind b n),
)

pub kind_kept : (b : ℕ) (r : Kind) → r ≡ kind_of b → KindOfPromise b r
kind_kept b r e =
    (e, subst (ToldKind b) (sym e) (kind_row b), subst (λ (k : Kind). (kind_number k ≡ 6) ↔ OfNoSequence b) (sym e) (kind_6_exactly b))

no_kind_of : (b : ℕ) → ((0x7F ≤ b) × (b ≤ 0xA0)) ⊎ (b ≡ 0xFF) → kind_of b ≡ Other
no_kind_of b h =
    ⊎_elim
    (λ r. range.within kind_of (λ o. Other) 0x7F 0xA1 (unfold kind_of in refl) b r.0 (omega (arith, r.1)))
    (λ e. range.within kind_of (λ o. Other) 0xFF 0x100 (unfold kind_of in refl) b (omega arith) (omega arith))
    h

-- "A0 and FF stay refused as 6", and so do 7F and 80 to 9F, 9B among them: wherever a sequence has come to, whatever follows.
pub stays_6 : {s vs : List ℕ} {m : ℕ} → Inside s m vs → (b : ℕ) → ((0x7F ≤ b) × (b ≤ 0xA0)) ⊎ (b ≡ 0xFF) → (t : List ℕ)
    → RefusesSequence (s ++ (b ∷ t)) 6 (length s)
stays_6 {m = m} h b k t = not_allowed b t h (subst (NotAllowed m) (sym (no_kind_of b k)) no_kind)

-- ---- the sequence at a place

-- a sequence with these for its values, as it is read
abbrev with_values : Sequence → List ℕ → List Sequence
with_values q vs = record { middle = q.middle; last = q.last; values = vs } ∷ []

module _ (text : List ℕ) (at : ℕ) where
  abbrev Told : Reading → Type 0
  Told r = SequenceRow text at (reading_answer at r) (sequence_read r)

  refused_row : {s : List ℕ} {h : Head Sequence} → Beginning s h → drop at text ≡ s → (r d : ℕ) → h ≡ refused r d
      → SequenceRow text at (answer r 0 at (at + d)) []
  refused_row nothing z r d e = let w : ◌≡◌ {A = ℕ} 0 1 = cc in absurd (omega arith)
  refused_row (foreign n) z r d e =
      let er : 6 ≡ r = cc in
      let ed : at ≡ at + d = let w : 0 ≡ d = cc in omega arith in
      subst₂ (λ (x y : ℕ). SequenceRow text at (answer x 0 at y) []) er ed (SequenceRow.no_sequence z n)
  refused_row (told {t} x) z r d e =
      SequenceRow.refused (subst (λ (s : List ℕ). RefusesSequence s r d) (sym z) (subst (Tells (CSI ∷ t)) e x))

  row_of : (h : Head Sequence) → sequence_head (drop at text) ≡ h → Told (reading_of at h)
  row_of (element q k) e =
      let v = values_back q.values (read_eight (drop at text) q k e) in
      subst (λ (vs : List ℕ). SequenceRow text at (answer 0 1 (at + k) (1 + length q.values)) (with_values q vs)) (sym v)
      (SequenceRow.sequence (sequence_reads.found (drop at text) q k e))
  row_of (refused r d) e = refused_row (beginning (drop at text)) refl r d e
  row_of none e =
      let z : length (drop at text) ≡ 0 = ap length (sequence_reads.goes (drop at text) e) in
      SequenceRow.none_left (omega (arith, length-drop at text))

  reading_row : Told (reading_at text at)
  unfolding reading_at
  reading_row = row_of (sequence_head (drop at text)) refl

  -- what the answer is, by what stands there
  by_head : (h : Head Sequence) → sequence_head (drop at text) ≡ h → reading_at text at ≡ reading_of at h
  unfolding reading_at
  by_head h e = ap (reading_of at) e

  row_reading : {a : Answer} {qs : List Sequence} → SequenceRow text at a qs
      → (reading_answer at (reading_at text at) ≡ a) × (sequence_read (reading_at text at) ≡ qs)
  row_reading (SequenceRow.none_left h) = let e = sym (none_left text at h) in (ap (reading_answer at) e, ap sequence_read e)
  row_reading (SequenceRow.sequence {q} {k} b) =
      let f : sequence_head (drop at text) ≡ element q k =
      ap sequence_head b.whole ∙ sequence_reads.finds b.front b.rest q b.spells ∙ ap (element q) (sym b.size) in
      let e = by_head (element q k) f in
      let v = values_back q.values (read_eight (drop at text) q k f) in
      (ap (reading_answer at) e, ap sequence_read e ∙ ap (with_values q) v)
  row_reading (SequenceRow.refused {r} {d} h) =
      let e = by_head (refused r d) (refusal_found h) in
      (ap (reading_answer at) e, ap sequence_read e)
  row_reading (SequenceRow.no_sequence {b} {t} z n) =
      let e = by_head (refused 6 0) (ap sequence_head z ∙ foreign_refused b t n) in
      (ap (reading_answer at) e ∙ ap (answer 6 0 at) (add-zero at), ap sequence_read e)

  -- The four numbers of the answer at a place, and the sequence read there, are exactly those of 01's row.
  pub reading_exactly : (a : Answer) (qs : List Sequence)
      → SequenceRow text at a qs ↔ ((reading_answer at (reading_at text at) ≡ a) × (sequence_read (reading_at text at) ≡ qs))
  reading_exactly a qs = (row_reading, λ e. subst₂ (SequenceRow text at) e.0 e.1 reading_row)

  pub reading_kept : (r : Reading) → r ≡ reading_at text at → ReadSequencePromise text at r
  reading_kept r e = (e, subst Told (sym e) reading_row)
