-- The theorems of record of comparing: request No. 4's sentences, in the words of WhatChanged and of the grammar. They speak of
-- `comparison`, which the contracts cite (`ComparedPromise`, `ComparePromise`); that it is document 02's rows is proofs/Exactly,
-- compared_exactly.
-- Assumes nothing.
use Prim.Native.Nat.{ℕ}
use mathlib.Core.Path.{◌≡◌, refl, sym, ap, ap₂, ◌∙◌, subst}
use mathlib.Core.Logic.{◌↔◌}
use mathlib.Core.List.{List, [], ◌∷◌, ◌++◌, map-append}
use native.Mathlib.Omega.{arith}
use lib.Dec.{eqb}
use lib.ListN.{length, take, drop, length-append}
use denote.Ref.{Bor}
use lib.Seq.{take-append_seam, drop-append_seam, drop-length}
use Rattle.run.specs.Choice.{pick}
use Rattle.run.specs.Tagged.{untagged}
use Rattle.run.specs.Grammar.{Run, done, more, RunOf}
use Rattle.run.specs.Tally.{Apart}
use Rattle.run.specs.declared.ReadAnswer.{ReadAnswer}
use Rattle.run.specs.Answers.{given}
use Rattle.run.proofs.Outcomes as outcomes
use Rattle.run.proofs.Outcomes.{run_by}
use Rattle.sorts.specs.declared.Form.{Form}
use Rattle.element_words.specs.declared.Element.{Element}
use Rattle.element_words.specs.Words.{words_of, Means, means}
use Rattle.element_words.proofs.Words.{words_read}
use Rattle.element_reading.specs.Grammar.{Spells}
use Rattle.element_reading.proofs.Reader.{reads}
use Rattle.element_spelling.specs.ElementOctets.{CanonicalElement}
use Rattle.element_spelling.proofs.Writer.{one_spelling}
use Rattle.text_loops.specs.Fronts.{respelled_before}
use Rattle.text_reading.specs.Promises.{MeasurePromise}
use Rattle.text_reading.proofs.Respelled.{respelled_exactly, reading_carries, reading_few}
use Rattle.element_reading.proofs.ReadBack.{canonical_spells, read_proper}
use Rattle.element_reading.proofs.Places.{reading_number}
use Rattle.compare.specs.declared.Comparison.{Comparison}
use Rattle.compare.specs.WhatChanged.{Otherwise, GoesOn, Differ, FirstDiffer, BothRun, FormAndLimit, CompareRow}
use Rattle.compare.specs.WhatChanged.{same_of}
use Rattle.compare.specs.Comparing.{shared, compared_in, comparison, part_of, further_on}
use Rattle.compare.specs.Promises.{ComparePromise}
use Rattle.compare.specs.TheoremWords.{SaysWhere, HandsBack, LiesIn}
use Rattle.compare.proofs.Sharing.{elements_of, pieces_of, apart_differ, none_otherwise, all_alike}
use Rattle.compare.proofs.Segments.{Beside, beside, its_run}
use Rattle.compare.proofs.Meetings.{Met, meet, reads_whole, reads_whole', both_ended, Verdict, verdict}
use Rattle.compare.proofs.Meetings.{row_differ, row_second_ends, row_first_ends}
use Rattle.compare.proofs.Exactly.{otherwise_of, row_same, met_runs, same_by, readable_is, its_row}

-- the words of a run's elements are a run of them
words_run : {f : Form} {s : List ℕ} {ps : List (List ℕ)} {es : List Element} → Run (Spells f) s ps es → RunOf Means (given words_of es) es
unfolding given
words_run done = ([], done)
words_run {f} (more {e = e} sp r) =
    let i = words_run r in
    (words_of e ∷ i.0, more (means (read_proper f sp)) i.1)

-- what an equation of comparisons says of the part
hands : {c d : Comparison} (first second : List ℕ) {part : List ℕ} {text place : ℕ} → c ≡ d → d.tail_text ≡ text
    → d.tail_place ≡ place → part_of d first second ≡ part → HandsBack c first second text place part
hands first second q t p e = (
  ap (λ (x : Comparison). x.tail_text) q ∙ t,
  ap (λ (x : Comparison). x.tail_place) q ∙ p,
  ap (λ (x : Comparison). part_of x first second) q ∙ e,
)

-- So a part that keeps the promise is of that text: its octets, and where it lies.
pub handed_back : (form : ℕ) (first second : Bor (List ℕ)) {part octets : List ℕ} {text place : ℕ} {at : ℕ × ℕ}
    → HandsBack (comparison form first.now second.now) first.now second.now text place octets
    → ComparePromise form first second part at → (part ≡ octets) × LiesIn first second text place at
handed_back form first second h p = (
  p.0 ∙ h.2,
  p.1 ∙ ap₂ (λ (t l : ℕ). further_on l (pick (eqb t 2) second.ref_ptr first.ref_ptr)) h.0 h.1,
)

-- ---- "Two texts of one form": a form, and both within the limit

module _ (form : ℕ) (first second : List ℕ) {f : Form} (readable : FormAndLimit form first second f) where
  abbrev C : Comparison
  C = comparison form first second

  by : {c : Comparison} → compared_in f first second ≡ c → C ≡ c
  by q = readable_is form first second readable ∙ q

  -- ======== "or say that they mean the same, with the number of elements spelled otherwise"

  module _ {ps qs : List (List ℕ)} {es : List Element} (r : Run (Spells f) first ps es) (q : Run (Spells f) second qs es) where
    -- the pieces side by side
    side : (k : ℕ) × Otherwise ps qs k
    side = ((shared (beside f r).segments (beside f q).segments).otherwise, otherwise_of f first second r q)

    -- All eleven numbers of two texts that mean the same.
    pub mean_same : {k : ℕ} → Otherwise ps qs k → C ≡ same_of (length es) (length first) (length second) k
    mean_same {k} o =
        by
        (row_same f first second
        (record { elements = es; pieces = ps; pieces' = qs; run = r; run' = q; spelled_otherwise = o; number = refl }))

    said_same : C.same ≡ 1
    said_same = ap (λ (c : Comparison). c.same) (mean_same side.1)

    -- The number of elements spelled otherwise is that of the elements whose pieces, in the one way that each text is a run, differ.
    pub otherwise_exactly : (k : ℕ) → (C.otherwise ≡ k) ↔ Otherwise ps qs k
    otherwise_exactly k = (
      λ e. subst (Otherwise ps qs) (sym (ap (λ (c : Comparison). c.otherwise) (mean_same side.1)) ∙ e) side.1,
      λ o. ap (λ (c : Comparison). c.otherwise) (mean_same o),
    )

    -- It is 0 exactly where they are the same octets.
    pub otherwise_none : (C.otherwise ≡ 0) ↔ (first ≡ second)
    otherwise_none = (
      λ e. outcomes.same_pieces r q (none_otherwise ((otherwise_exactly 0).0 e) refl),
      λ e. (otherwise_exactly 0).1
          (subst (λ (x : List (List ℕ)). Otherwise ps x 0)
          (outcomes.one_run (reads f) r (subst (λ (l : List ℕ). Run (Spells f) l qs es) (sym e) q)).0 (all_alike ps)),
    )

  -- ======== "say the element at which their meanings first differ, and the octet place in each"

  module _ {es fs : List Element} (r : RunOf (Spells f) first es) (q : RunOf (Spells f) second fs) where
    one : Beside f first r.0 es
    one = beside f r.1

    two : Beside f second q.0 fs
    two = beside f q.1

    m : Met f first second
    m = meet f first second one.segments two.segments one.reads_so two.reads_so

    -- what each text means, by where they meet
    meanings : (es ≡ elements_of m.before ++ elements_of m.after) × (fs ≡ elements_of m.before ++ elements_of m.after')
    meanings = (
      (outcomes.one_run (reads f) r.1 (its_run f first (m.before ++ m.after) (reads_whole f first second m))).1
          ∙ map-append untagged m.before m.after,
      (outcomes.one_run (reads f) q.1 (its_run f second (m.before' ++ m.after') (reads_whole' f first second m))).1
          ∙ map-append untagged m.before' m.after'
          ∙ ap (λ (l : List Element). l ++ elements_of m.after') (sym m.same_elements),
    )

    -- their fronts mean the same
    fronts : RunOf (Spells f) m.front (elements_of m.before) × RunOf (Spells f) m.front' (elements_of m.before)
    fronts = met_runs f first second m

    same_meaning : C.same ≡ 1 → es ≡ fs
    same_meaning e = go (verdict f first second m)
      where
        go : Verdict f first second m → es ≡ fs
        go (Verdict.ended z w) =
            let s = same_by f first second m z w in
            (outcomes.one_run (reads f) r.1 s.run).1 ∙ sym (outcomes.one_run (reads f) q.1 s.run').1
        go (Verdict.goes text place k) =
            let n : ◌≡◌ {A = ℕ} 1 0 = sym e ∙ ap (λ (c : Comparison). c.same) (by k) in absurd (omega arith)

    -- compared: no refusal
    pub both_accepted : C.answer.number ≡ 0
    both_accepted = go (verdict f first second m)
      where
        go : Verdict f first second m → C.answer.number ≡ 0
        go (Verdict.ended z w) = ap (λ (c : Comparison). c.answer.number) (by (both_ended f first second m (ap length z) (ap length w)))
        go (Verdict.goes text place k) = ap (λ (c : Comparison). c.answer.number) (by k)

    -- They are said to mean the same exactly when they mean the same list of elements.
    pub same_exactly : (C.same ≡ 1) ↔ (es ≡ fs)
    same_exactly = (
      same_meaning,
      λ e. said_same r.1 (subst (λ (l : List Element). Run (Spells f) second q.0 l) (sym e) q.1),
    )

    -- Else the element number is the length of what their meanings share; both texts before the two places mean that, and the elements
    -- there differ or one text ends there.
    pub says_where : (es ≡ fs → ⊥) → (C.same ≡ 0) × SaysWhere f first second es fs C
    says_where n = go (verdict f first second m)
      where
        go : Verdict f first second m → (C.same ≡ 0) × SaysWhere f first second es fs C
        go (Verdict.ended z w) =
            absurd (n (same_meaning (ap (λ (c : Comparison). c.same)
            (by (both_ended f first second m (ap length z) (ap length w))))))
        go (Verdict.goes text place k) =
            let place_is = ap (λ (c : Comparison). c.first_place) (by k) in
            let place-is' = ap (λ (c : Comparison). c.second_place) (by k) in (
              ap (λ (c : Comparison). c.same) (by k),
              record {
                common = elements_of m.before;
                start =
                    record {
                      rest = elements_of m.after;
                      rest' = elements_of m.after';
                      whole = meanings.0;
                      whole' = meanings.1;
                      parted = apart_differ m.apart;
                    };
                element_number = ap (λ (c : Comparison). c.answer.element) (by k);
                inside = omega (arith, place_is, ap length m.whole, length-append m.front m.rest);
                inside' = omega (arith, place-is', ap length m.whole', length-append m.front' m.rest');
                before =
                    subst (λ (l : List ℕ). RunOf (Spells f) l (elements_of m.before))
                    (sym (ap₂ take place_is m.whole ∙ take-append_seam m.front m.rest)) fronts.0;
                before' =
                    subst (λ (l : List ℕ). RunOf (Spells f) l (elements_of m.before))
                    (sym (ap₂ take place-is' m.whole' ∙ take-append_seam m.front' m.rest')) fronts.1;
                there =
                    subst (λ (l : List ℕ). RunOf (Spells f) l (elements_of m.after))
                    (sym (ap₂ drop place_is m.whole ∙ drop-append_seam m.front m.rest))
                    (pieces_of m.after, its_run f m.rest m.after m.reads_after);
                there' =
                    subst (λ (l : List ℕ). RunOf (Spells f) l (elements_of m.after'))
                    (sym (ap₂ drop place-is' m.whole' ∙ drop-append_seam m.front' m.rest'))
                    (pieces_of m.after', its_run f m.rest' m.after' m.reads_after');
              },
            )

    -- "A text means a list of 32-bit words": the same exactly when reading gives the same words.
    pub same_words : (C.same ≡ 1) ↔ (given words_of es ≡ given words_of fs)
    same_words = (
      λ e. ap (given words_of) (same_meaning e),
      λ w. same_exactly.1
          (outcomes.one_run words_read (words_run r.1).1
          (subst (λ (l : List ℕ). Run Means l (words_run q.1).0 fs) (sym w) (words_run q.1).1)).1,
    )

  -- ======== the part that is handed back

  -- "if they differ before either ends, the first text's part from the differing element"
  module _ (b : BothRun f first second) {n p q : ℕ} where
    pub part_differ : (d : FirstDiffer f (Differ f) first second n p q) → HandsBack C first second 1 p d.rest
    part_differ d =
        hands first second (by (row_differ f first second b d)) refl refl
        (ap₂ drop d.first_place d.whole ∙ drop-append_seam d.front d.rest)

    -- "Where one text ends first, hand back the surplus tail of whichever text goes on."
    pub part_second_ends : (d : FirstDiffer f (λ rest rest'. GoesOn f rest × (rest' ≡ [])) first second n p q)
        → HandsBack C first second 1 p d.rest
    part_second_ends d =
        hands first second (by (row_second_ends f first second b d)) refl refl
        (ap₂ drop d.first_place d.whole ∙ drop-append_seam d.front d.rest)

    pub part_first_ends : (d : FirstDiffer f (λ rest rest'. (rest ≡ []) × GoesOn f rest') first second n p q)
        → HandsBack C first second 2 q d.rest'
    part_first_ends d =
        hands first second (by (row_first_ends f first second b d)) refl refl
        (ap₂ drop d.second_place d.whole' ∙ drop-append_seam d.front' d.rest')

  -- ---- a text and its canonical spelling

  -- A text and its canonical spelling mean the same.
  pub canonical_same : {es : List Element} → RunOf (Spells f) first es → RunOf (CanonicalElement f) second es → C.same ≡ 1
  canonical_same r c = said_same r.1 (run_by (λ p e k. canonical_spells f k) c.1)

  -- the pieces that are not canonical are those that differ from the canonical ones
  apart_otherwise : {s : List ℕ} {ps qs : List (List ℕ)} {es : List Element} {k : ℕ} → Apart (CanonicalElement f) ps es k
      → Run (CanonicalElement f) s qs es → Otherwise ps qs k
  apart_otherwise Apart.none done = Otherwise.none
  apart_otherwise (Apart.spelt {p} {ps = ps} {k = k} c h) (more {ps = qs} d r) =
      subst (λ (q : List ℕ). Otherwise (p ∷ ps) (q ∷ qs) k) (one_spelling f c d) (Otherwise.alike (apart_otherwise h r))
  apart_otherwise (Apart.apart {e = e} n h) (more d r) =
      Otherwise.otherwise (λ q. n (subst (λ (p : List ℕ). CanonicalElement f p e) (sym q) d)) (apart_otherwise h r)

  -- Beside the canonical spelling of a text's elements, the number spelled otherwise is No. 5's of the text.
  pub canonical_otherwise : {es : List Element} → RunOf (Spells f) first es → RunOf (CanonicalElement f) second es
      → C.otherwise ≡ respelled_before f first
  canonical_otherwise r c =
      (otherwise_exactly r.1 (run_by (λ p e k. canonical_spells f k) c.1) (respelled_before f first)).1
      (apart_otherwise ((respelled_exactly f r.1 (respelled_before f first)).0 refl) c.1)

  -- So it is the number that measuring the text carries.
  pub measured_otherwise : {m : ReadAnswer} → MeasurePromise form first m → {es : List Element} → RunOf (Spells f) first es
      → RunOf (CanonicalElement f) second es → C.otherwise ≡ m.respelled
  measured_otherwise is r c =
      let z = reading_few form f readable.is_form first readable.first_within is r in
      canonical_otherwise r c ∙ sym (reading_carries form first (length first) is f readable.is_form z.0)

-- ======== "on a refusal, it is the first's empty end", and so it is where both mean the same

module _ (form : ℕ) (first second : List ℕ) where
  row_refused : {c : Comparison} → CompareRow form first second c → (c.answer.number ≡ 0 → ⊥)
      → HandsBack c first second 1 (length first) []
  row_refused (CompareRow.no_form n) z = (refl, refl, drop-length first)
  row_refused (CompareRow.first_over q l) z = (refl, refl, drop-length first)
  row_refused (CompareRow.second_over q l h) z = (refl, refl, drop-length first)
  row_refused (CompareRow.first_refused r h) z = (refl, refl, drop-length first)
  row_refused (CompareRow.second_refused r e h) z = (refl, refl, drop-length first)
  row_refused (CompareRow.mean_same r m) z = absurd (z refl)
  row_refused (CompareRow.differ r b d) z = absurd (z refl)
  row_refused (CompareRow.second_ends r b d) z = absurd (z refl)
  row_refused (CompareRow.first_ends r b d) z = absurd (z refl)

  row_same_part : {c : Comparison} → CompareRow form first second c → c.same ≡ 1 → HandsBack c first second 1 (length first) []
  row_same_part (CompareRow.no_form n) z = absurd (omega arith)
  row_same_part (CompareRow.first_over q l) z = absurd (omega arith)
  row_same_part (CompareRow.second_over q l h) z = absurd (omega arith)
  row_same_part (CompareRow.first_refused r h) z = absurd (omega arith)
  row_same_part (CompareRow.second_refused r e h) z = absurd (omega arith)
  row_same_part (CompareRow.mean_same r m) z = (refl, refl, drop-length first)
  row_same_part (CompareRow.differ r b d) z = absurd (omega arith)
  row_same_part (CompareRow.second_ends r b d) z = absurd (omega arith)
  row_same_part (CompareRow.first_ends r b d) z = absurd (omega arith)

  pub part_refused : ((comparison form first second).answer.number ≡ 0 → ⊥)
      → HandsBack (comparison form first second) first second 1 (length first) []
  part_refused = row_refused (its_row form first second)

  pub part_same : (comparison form first second).same ≡ 1 → HandsBack (comparison form first second) first second 1 (length first) []
  part_same = row_same_part (its_row form first second)

  row_compared : {c : Comparison} → CompareRow form first second c → c.answer.number ≡ 0
      → (f : Form) × FormAndLimit form first second f × BothRun f first second
  row_compared (CompareRow.no_form n) z = absurd (omega arith)
  row_compared (CompareRow.first_over q l) z = absurd (omega arith)
  row_compared (CompareRow.second_over q l h) z = absurd (omega arith)
  row_compared (CompareRow.first_refused {f} r h) z = absurd (omega (arith, (reading_number f h.here).0))
  row_compared (CompareRow.second_refused {f} r e h) z = absurd (omega (arith, (reading_number f h.here).0))
  row_compared (CompareRow.mean_same {f} r m) z = (
    f,
    r,
    record { meaning = m.elements; meaning' = m.elements; run = (m.pieces, m.run); run' = (m.pieces', m.run') },
  )
  row_compared (CompareRow.differ {f} r b d) z = (f, r, b)
  row_compared (CompareRow.second_ends {f} r b d) z = (f, r, b)
  row_compared (CompareRow.first_ends {f} r b d) z = (f, r, b)

  -- They are compared exactly where both are accepted.
  pub compared_when : ((comparison form first second).answer.number ≡ 0)
      ↔ ((f : Form) × FormAndLimit form first second f × BothRun f first second)
  compared_when = (row_compared (its_row form first second), λ x. both_accepted form first second x.1 x.2.run x.2.run')
