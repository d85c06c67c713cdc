-- Two accepted texts up to where their meanings part: the elements before are the same in both, and what is left of each is accepted too.
-- What comparing them answers follows from how they go on.
-- Assumes nothing.
use Prim.Native.Nat.{ℕ, ◌+◌, ◌<◌}
use mathlib.Core.Path.{◌≡◌, refl, sym, ap, ap₂, ◌∙◌, subst}
use mathlib.Core.List.{List, [], ◌∷◌, ◌++◌}
use native.Mathlib.Omega.{arith}
use lib.ListN.{length, take, length-append}
use Rattle.run.specs.Head.{Outcome, accepted, refusal, join}
use Rattle.run.specs.Grammar.{Run, done, more}
use Rattle.run.proofs.Outcomes as outcomes
use Rattle.run.proofs.Outcomes.{run_cut}
use Rattle.sorts.specs.declared.Form.{Form}
use Rattle.element_words.specs.declared.Element.{Element}
use Rattle.element_reading.specs.ElementHead.{head_in}
use Rattle.element_reading.proofs.Reader.{reads}
use Rattle.compare.specs.declared.Shared.{Shared}
use Rattle.compare.specs.WhatChanged.{GoesOn, Differ, FirstDiffer, BothRun, same_of, differ_at}
use Rattle.compare.specs.Comparing.{Segment, segments_in, shared, told_by, by_readings, compared_in}
use Rattle.compare.specs.Walking.{ReadThrough}
use Rattle.compare.proofs.Sharing.{elements_of, octet_count, all_shared, shared_parted}
use Rattle.compare.proofs.Sharing.{Apart, both_end, first_goes_on, second_goes_on, differ, parted}
use Rattle.compare.proofs.Segments.{SpellsSegment, Beside, segments_read, segments_exactly, own_length, beside, first, at_end}
use Rattle.compare.proofs.Answered.{told_first, told_second, told_same}

pub record Met (f : Form) (s t : List ℕ) : Type 0 where
  pub front : List ℕ
  pub rest : List ℕ
  pub front' : List ℕ
  pub rest' : List ℕ
  pub whole : s ≡ front ++ rest
  pub whole' : t ≡ front' ++ rest'
  pub before : List Segment
  pub before' : List Segment
  pub after : List Segment
  pub after' : List Segment
  pub reads_before : segments_in f front ≡ accepted before
  pub reads_before' : segments_in f front' ≡ accepted before'
  pub reads_after : segments_in f rest ≡ accepted after
  pub reads_after' : segments_in f rest' ≡ accepted after'
  pub same_elements : elements_of before ≡ elements_of before'
  pub apart : Apart after after'

-- how many octets a text has whose elements are these
pub read_length : (f : Form) (s : List ℕ) (xs : List Segment) → segments_in f s ≡ accepted xs → octet_count xs ≡ length s
read_length f s xs q = own_length f ((segments_exactly f s xs).0 q).1

module _ (f : Form) (s t : List ℕ) (m : Met f s t) where
  -- the places, the lengths
  first_length : length s ≡ length m.front + length m.rest
  first_length = ap length m.whole ∙ length-append m.front m.rest

  second_length : length t ≡ length m.front' + length m.rest'
  second_length = ap length m.whole' ∙ length-append m.front' m.rest'

  pub reads_whole : segments_in f s ≡ accepted (m.before ++ m.after)
  reads_whole =
      ap (segments_in f) m.whole
      ∙ outcomes.joined_accepted (segments_read f) m.front m.rest m.before m.after m.reads_before m.reads_after

  pub reads_whole' : segments_in f t ≡ accepted (m.before' ++ m.after')
  reads_whole' =
      ap (segments_in f) m.whole'
      ∙ outcomes.joined_accepted (segments_read f) m.front' m.rest' m.before' m.after' m.reads_before' m.reads_after'

  -- what both share
  abbrev Before : Shared
  Before = shared m.before m.before'

  pub met_shared : shared (m.before ++ m.after) (m.before' ++ m.after') ≡ Before
  met_shared =
      shared_parted
      (record {
        front = m.before;
        front' = m.before';
        rest = m.after;
        rest' = m.after';
        whole = refl;
        whole' = refl;
        same_elements = m.same_elements;
        apart = m.apart;
      })

  pub met_elements : Before.elements ≡ length (elements_of m.before)
  met_elements = (all_shared m.before m.before' m.same_elements).many

  pub met_first : Before.first ≡ length m.front
  met_first = (all_shared m.before m.before' m.same_elements).of_first ∙ read_length f m.front m.before m.reads_before

  pub met_second : Before.second ≡ length m.front'
  met_second = (all_shared m.before m.before' m.same_elements).of_second ∙ read_length f m.front' m.before' m.reads_before'

  -- the answer
  met_told : compared_in f s t ≡ told_by Before (length s) (length t)
  met_told =
      ap₂ (by_readings (length s) (length t)) reads_whole reads_whole' ∙ ap (λ (x : Shared). told_by x (length s) (length t)) met_shared

  differ_as : (text place : ℕ)
      → differ_at Before.elements Before.first Before.second text place
      ≡ differ_at (length (elements_of m.before)) (length m.front) (length m.front') text place
  differ_as text place =
      ap₂ (λ (n p : ℕ). differ_at n p Before.second text place) met_elements met_first
      ∙ ap (λ (q : ℕ). differ_at (length (elements_of m.before)) (length m.front) q text place) met_second

  -- where the first text goes on
  pub first_on : 0 < length m.rest
      → compared_in f s t ≡ differ_at (length (elements_of m.before)) (length m.front) (length m.front') 1 (length m.front)
  first_on h =
      met_told
      ∙ sym (told_first Before (length s) (length t) (omega (arith, met_first, first_length)))
      ∙ differ_as 1 Before.first
      ∙ ap (differ_at (length (elements_of m.before)) (length m.front) (length m.front') 1) met_first

  -- where it has ended, and the second goes on
  pub second_on : length m.rest ≡ 0 → 0 < length m.rest'
      → compared_in f s t ≡ differ_at (length (elements_of m.before)) (length m.front) (length m.front') 2 (length m.front')
  second_on z h =
      met_told
      ∙ sym
      (told_second Before (length s) (length t) (omega (arith, met_first, first_length)) (omega (arith, met_second, second_length)))
      ∙ differ_as 2 Before.second
      ∙ ap (differ_at (length (elements_of m.before)) (length m.front) (length m.front') 2) met_second

  -- where both have
  pub both_ended : length m.rest ≡ 0 → length m.rest' ≡ 0
      → compared_in f s t ≡ same_of (length (elements_of m.before)) (length s) (length t) Before.otherwise
  both_ended z w =
      let a : Before.first ≡ length s = omega (arith, met_first, first_length) in
      let b : Before.second ≡ length t = omega (arith, met_second, second_length) in
      met_told
      ∙ sym (told_same Before (length s) (length t) (omega arith) (omega arith))
      ∙ ap₂ (λ (n p : ℕ). same_of n p Before.second Before.otherwise) met_elements a
      ∙ ap (λ (q : ℕ). same_of (length (elements_of m.before)) (length s) q Before.otherwise) b

-- ---- two accepted texts meet

pub meet : (f : Form) (s t : List ℕ) (xs ys : List Segment) → segments_in f s ≡ accepted xs → segments_in f t ≡ accepted ys → Met f s t
meet f s t xs ys q r =
    let p = parted xs ys in
    let i = (segments_exactly f s xs).0 q in
    let j = (segments_exactly f t ys).0 r in
    let a = run_cut p.front p.rest (subst (λ (l : List Segment). Run (SpellsSegment f) s i.0 l) p.whole i.1) in
    let b = run_cut p.front' p.rest' (subst (λ (l : List Segment). Run (SpellsSegment f) t j.0 l) p.whole' j.1) in
    record {
      front = a.front;
      rest = a.rest;
      front' = b.front;
      rest' = b.rest;
      whole = a.whole;
      whole' = b.whole;
      before = p.front;
      before' = p.front';
      after = p.rest;
      after' = p.rest';
      reads_before = (segments_exactly f a.front p.front).1 a.run;
      reads_before' = (segments_exactly f b.front p.front').1 b.run;
      reads_after = (segments_exactly f a.rest p.rest).1 a.run_rest;
      reads_after' = (segments_exactly f b.rest p.rest').1 b.run_rest;
      same_elements = p.same_elements;
      apart = p.apart;
    }

-- by how they go on: both have ended, or one of them, or neither, goes on
pub data Verdict (f : Form) (s t : List ℕ) (m : Met f s t) : Type 0 where
  ended : m.rest ≡ [] → m.rest' ≡ [] → Verdict f s t m
  goes : (text place : ℕ)
      → compared_in f s t ≡ differ_at (length (elements_of m.before)) (length m.front) (length m.front') text place → Verdict f s t m

-- some are left where an element is
pub some_left : (f : Form) (s : List ℕ) (x : Segment) (xs : List Segment) → segments_in f s ≡ accepted (x ∷ xs) → 0 < length s
some_left f s x xs q = go ((segments_exactly f s (x ∷ xs)).0 q).1
  where
    go : {u : List ℕ} {ps : List (List ℕ)} → Run (SpellsSegment f) u ps (x ∷ xs) → 0 < length u
    go (more {p} {s = v} sp r) = omega (arith, (reads f).some p x.0 sp.0, length-append p v)

pub nothing_on : (f : Form) (s : List ℕ) → segments_in f s ≡ accepted [] → s ≡ []
nothing_on f s q = go ((segments_exactly f s []).0 q).1
  where
    go : {u : List ℕ} {ps : List (List ℕ)} → Run (SpellsSegment f) u ps [] → u ≡ []
    go done = refl

pub verdict : (f : Form) (s t : List ℕ) (m : Met f s t) → Verdict f s t m
verdict f s t m = go m.after m.after' m.reads_after m.reads_after' m.apart
  where
    go : (xs ys : List Segment) → segments_in f m.rest ≡ accepted xs → segments_in f m.rest' ≡ accepted ys → Apart xs ys → Verdict f s t m
    go [] [] q r both_end = ended (nothing_on f m.rest q) (nothing_on f m.rest' r)
    go (x ∷ xs) [] q r first_goes_on = goes 1 (length m.front) (first_on f s t m (some_left f m.rest x xs q))
    go [] (y ∷ ys) q r second_goes_on =
        goes 2 (length m.front')
        (second_on f s t m (ap length (nothing_on f m.rest q)) (some_left f m.rest' y ys r))
    go (x ∷ xs) (y ∷ ys) q r (differ n) = goes 1 (length m.front) (first_on f s t m (some_left f m.rest x xs q))

-- ---- and so do two that first differ somewhere

-- what is left of an accepted text behind a run is accepted
pub rest_of : (f : Form) (front rest : List ℕ) (before xs : List Segment) → segments_in f front ≡ accepted before
    → segments_in f (front ++ rest) ≡ accepted xs → ReadThrough f rest
rest_of f front rest before xs q r = go (segments_in f rest) refl
  where
    go : (x : Outcome Segment) → segments_in f rest ≡ x → ReadThrough f rest
    go (accepted ys) e = record { segments = ys; reads = e }
    go (refusal a b c d) e =
        let z = sym r ∙ outcomes.joined (segments_read f) front rest before q ∙ ap (join before (length front)) e in
        let w : ◌≡◌ {A = ℕ} 0 1 = cc in
        absurd (omega arith)

-- the first of its elements, where one begins there
pub record Beginning (f : Form) (s : List ℕ) (xs : List Segment) (e : Element) : Type 0 where
  pub octets : List ℕ
  pub rest : List Segment
  pub whole : xs ≡ (e, octets) ∷ rest
  pub some : 0 < length s

pub beginning : (f : Form) (s : List ℕ) (xs : List Segment) → segments_in f s ≡ accepted xs → (g : GoesOn f s) → Beginning f s xs g.what
beginning f s xs q g =
    let b = g.begins in
    let some : 0 < length s =
    omega (arith, (reads f).some b.front g.what b.spells, ap length b.whole, length-append b.front b.rest) in
    let x = first f s xs q some in
    let h = sym x.here ∙ ap (head_in f) b.whole ∙ (reads f).finds b.front b.rest g.what b.spells in
    let e : x.what ≡ g.what = cc in
    record {
      octets = take x.size s;
      rest = x.rest;
      whole = x.whole ∙ ap (λ (a : Element). (a, take x.size s) ∷ x.rest) e;
      some = some;
    }

-- an element begins where some are
pub goes_on : (f : Form) (s : List ℕ) (x : Segment) (xs : List Segment) → segments_in f s ≡ accepted (x ∷ xs)
    → (g : GoesOn f s) × (g.what ≡ x.0)
goes_on f s x xs q = go ((segments_exactly f s (x ∷ xs)).0 q).1
  where
    go : {u : List ℕ} {ps : List (List ℕ)} → Run (SpellsSegment f) u ps (x ∷ xs) → (g : GoesOn f u) × (g.what ≡ x.0)
    go (more {p} {s = v} sp r) = (
      record {
        what = x.0;
        size = length p;
        begins = record { front = p; rest = v; whole = refl; spells = sp.0; size = refl };
      },
      refl,
    )

-- what is left of each text, by what the request says of it
module _ (f : Form) {Rests : List ℕ → List ℕ → Type 0} (s t : List ℕ) {n p q : ℕ} (b : BothRun f s t)
    (d : FirstDiffer f Rests s t n p q) where
  pub front_read : Beside f d.front d.run.0 d.common
  front_read = beside f d.run.1

  pub front_read' : Beside f d.front' d.run'.0 d.common
  front_read' = beside f d.run'.1

  pub whole_read : Beside f s b.run.0 b.meaning
  whole_read = beside f b.run.1

  pub whole_read' : Beside f t b.run'.0 b.meaning'
  whole_read' = beside f b.run'.1

  pub rest_read : ReadThrough f d.rest
  rest_read =
      rest_of f d.front d.rest front_read.segments whole_read.segments front_read.reads_so
      (ap (segments_in f) (sym d.whole) ∙ whole_read.reads_so)

  pub rest_read' : ReadThrough f d.rest'
  rest_read' =
      rest_of f d.front' d.rest' front_read'.segments whole_read'.segments front_read'.reads_so
      (ap (segments_in f) (sym d.whole') ∙ whole_read'.reads_so)

  pub met_by : Apart rest_read.segments rest_read'.segments → Met f s t
  met_by a =
      record {
        front = d.front;
        rest = d.rest;
        front' = d.front';
        rest' = d.rest';
        whole = d.whole;
        whole' = d.whole';
        before = front_read.segments;
        before' = front_read'.segments;
        after = rest_read.segments;
        after' = rest_read'.segments;
        reads_before = front_read.reads_so;
        reads_before' = front_read'.reads_so;
        reads_after = rest_read.reads;
        reads_after' = rest_read'.reads;
        same_elements = front_read.elements ∙ sym front_read'.elements;
        apart = a;
      }

  -- the numbers
  met_number : length (elements_of front_read.segments) ≡ n
  met_number = ap length front_read.elements ∙ sym d.element_number

  pub differ_numbers : (text place place' : ℕ) → place ≡ place'
      → differ_at (length (elements_of front_read.segments)) (length d.front) (length d.front') text place ≡ differ_at n p q text place'
  differ_numbers text place place' e =
      ap₂ (λ (a b : ℕ). differ_at a b (length d.front') text place) met_number (sym d.first_place)
      ∙ ap₂ (λ (a b : ℕ). differ_at n p a text b) (sym d.second_place) e

apart_as : {xs xs' ys ys' : List Segment} → xs ≡ xs' → ys ≡ ys' → Apart xs' ys' → Apart xs ys
apart_as {xs} {xs'} {ys} {ys'} p q a = subst (λ (l : List Segment). Apart l ys) (sym p) (subst (Apart xs') (sym q) a)

module _ (f : Form) (s t : List ℕ) {n p q : ℕ} (b : BothRun f s t) where
  -- "if they differ before either ends"
  pub row_differ : FirstDiffer f (Differ f) s t n p q → compared_in f s t ≡ differ_at n p q 1 p
  unfolding met_by
  row_differ d =
      let l = rest_read f s t b d in
      let r = rest_read' f s t b d in
      let x = beginning f d.rest l.segments l.reads d.rests.one in
      let y = beginning f d.rest' r.segments r.reads d.rests.other in
      let m = met_by f s t b d (apart_as x.whole y.whole (differ d.rests.not_same)) in
      first_on f s t m x.some ∙ differ_numbers f s t b d 1 (length d.front) p (sym d.first_place)

  -- the second text ends first
  pub row_second_ends : FirstDiffer f (λ rest rest'. GoesOn f rest × (rest' ≡ [])) s t n p q → compared_in f s t ≡ differ_at n p q 1 p
  unfolding met_by
  row_second_ends d =
      let l = rest_read f s t b d in
      let r = rest_read' f s t b d in
      let x = beginning f d.rest l.segments l.reads d.rests.0 in
      let y = at_end f d.rest' r.segments r.reads (ap length d.rests.1) in
      let m = met_by f s t b d (apart_as x.whole y first_goes_on) in
      first_on f s t m x.some ∙ differ_numbers f s t b d 1 (length d.front) p (sym d.first_place)

  -- the first does
  pub row_first_ends : FirstDiffer f (λ rest rest'. (rest ≡ []) × GoesOn f rest') s t n p q → compared_in f s t ≡ differ_at n p q 2 q
  unfolding met_by
  row_first_ends d =
      let l = rest_read f s t b d in
      let r = rest_read' f s t b d in
      let x = at_end f d.rest l.segments l.reads (ap length d.rests.0) in
      let y = beginning f d.rest' r.segments r.reads d.rests.1 in
      let m = met_by f s t b d (apart_as x y.whole second_goes_on) in
      second_on f s t m (ap length d.rests.0) y.some
      ∙ differ_numbers f s t b d 2 (length d.front') q (sym d.second_place)
