-- What comparing answers is document 02's: each row exactly when the request says so, and no other answer.
-- Assumes nothing.
use Prim.Native.Nat.{ℕ, ◌≤◌}
use mathlib.Core.Path.{◌≡◌, refl, sym, ap, ap₂, ◌∙◌, subst}
use mathlib.Core.Logic.{◌↔◌}
use mathlib.Core.Bool.{Bool, true, false}
use mathlib.Core.List.{List, [], ◌∷◌, ◌++◌, append-nil}
use native.Mathlib.Omega.{arith}
use lib.Dec.{leb}
use lib.ListN.{length, length-append}
use borrow.Author.Tests.{leb-true, leb-false}
use Rattle.run.specs.Choice.{pick}
use Rattle.run.specs.Head.{Outcome, accepted, refusal}
use Rattle.run.specs.Grammar.{Run, RunOf}
use Rattle.run.specs.Answers.{answer, bare, count_of}
use Rattle.sorts.specs.declared.Form.{Form}
use Rattle.std.specs.Prelude.{Option, Some, None}
use Rattle.sorts.specs.Forms.{form_of, in_form}
use Rattle.sorts.proofs.FormNumbers.{none_exactly}
use Rattle.element_words.specs.declared.Element.{Element}
use Rattle.element_reading.specs.Grammar.{Spells}
use Rattle.text_reading.specs.ReadingNumbers.{limit, ReadingFault}
use Rattle.text_reading.specs.ReadAnswers.{within_limit}
use Rattle.compare.specs.declared.Comparison.{Comparison}
use Rattle.compare.specs.WhatChanged.{Otherwise, MeanSame, FirstDiffer, BothRun, FormAndLimit, CompareRow}
use Rattle.compare.specs.WhatChanged.{refused_by, same_of}
use Rattle.compare.specs.Comparing.{Segment, segments_in, shared, compared_in, comparison}
use Rattle.compare.proofs.Sharing.{elements_of, pieces_of, all_shared, one_otherwise}
use Rattle.compare.proofs.Sharing.{Apart, both_end, first_goes_on, second_goes_on, differ}
use Rattle.compare.proofs.Segments.{segments_exactly, beside, its_run, refused_segments}
use Rattle.compare.proofs.Answered.{Refused, first_refused, second_refused, compared_none, first_over, second_over, both_within}
use Rattle.compare.proofs.Meetings.{Met, meet, first_on, second_on, both_ended, goes_on, some_left, nothing_on}
use Rattle.compare.proofs.Meetings.{row_differ, row_second_ends, row_first_ends}

-- ---- from the row to the answer

module _ (f : Form) (s t : List ℕ) where
  -- a met pair, of texts that mean the same
  pub met_same : {ps qs : List (List ℕ)} {es : List Element} → Run (Spells f) s ps es → Run (Spells f) t qs es → Met f s t
  met_same r q =
      let a = beside f r in
      let b = beside f q in
      record {
        front = s;
        rest = [];
        front' = t;
        rest' = [];
        whole = sym (append-nil s);
        whole' = sym (append-nil t);
        before = a.segments;
        before' = b.segments;
        after = [];
        after' = [];
        reads_before = a.reads_so;
        reads_before' = b.reads_so;
        reads_after = (segments_exactly f [] []).1 ([], Run.done);
        reads_after' = (segments_exactly f [] []).1 ([], Run.done);
        same_elements = a.elements ∙ sym b.elements;
        apart = both_end;
      }

  -- how many of their elements are spelled otherwise
  pub otherwise_of : {ps qs : List (List ℕ)} {es : List Element} (r : Run (Spells f) s ps es) (q : Run (Spells f) t qs es)
      → Otherwise ps qs (shared (beside f r).segments (beside f q).segments).otherwise
  otherwise_of {qs = qs} r q =
      let a = beside f r in
      let b = beside f q in
      let k = (shared a.segments b.segments).otherwise in
      subst (λ (x : List (List ℕ)). Otherwise x qs k) a.octets
      (subst (λ (x : List (List ℕ)). Otherwise (pieces_of a.segments) x k) b.octets
      (all_shared a.segments b.segments (a.elements ∙ sym b.elements)).spelled_otherwise)

  pub row_same : {n k : ℕ} → MeanSame f s t n k → compared_in f s t ≡ same_of n (length s) (length t) k
  unfolding met_same
  row_same m =
      both_ended f s t (met_same m.run m.run') refl refl
      ∙ ap₂ (λ (i j : ℕ). same_of i (length s) (length t) j) (ap length (beside f m.run).elements ∙ sym m.number)
      (one_otherwise (otherwise_of m.run m.run') m.spelled_otherwise)

  fault_refused : (text : List ℕ) {r n p d : ℕ} → ReadingFault f text r n p d → Refused f text (answer r n p (count_of r d))
  fault_refused text {r} {n} {p} {d} h =
      record { number = r; element = n; place = p; deciding = d; reads = (refused_segments f text r n p d).1 h; answers = refl }

-- ---- from the answer to the row

module _ (f : Form) (s t : List ℕ) where
  pub met_runs : (m : Met f s t)
      → RunOf (Spells f) m.front (elements_of m.before) × RunOf (Spells f) m.front' (elements_of m.before)
  met_runs m = (
    (pieces_of m.before, its_run f m.front m.before m.reads_before),
    (
      pieces_of m.before',
      subst (λ (l : List Element). Run (Spells f) m.front' (pieces_of m.before') l) (sym m.same_elements)
          (its_run f m.front' m.before' m.reads_before'),
    ),
  )

  pub differ_by : {Rests : List ℕ → List ℕ → Type 0} (m : Met f s t) → Rests m.rest m.rest'
      → FirstDiffer f Rests s t (length (elements_of m.before)) (length m.front) (length m.front')
  differ_by m b =
      record {
        common = elements_of m.before;
        front = m.front;
        rest = m.rest;
        front' = m.front';
        rest' = m.rest';
        whole = m.whole;
        whole' = m.whole';
        run = (met_runs m).0;
        run' = (met_runs m).1;
        rests = b;
        element_number = refl;
        first_place = refl;
        second_place = refl;
      }

  pub same_by : (m : Met f s t) → m.rest ≡ [] → m.rest' ≡ []
      → MeanSame f s t (length (elements_of m.before)) (shared m.before m.before').otherwise
  unfolding met_runs
  same_by m z w =
      let r = met_runs m in
      let a : m.front ≡ s = sym (append-nil m.front) ∙ ap (λ (l : List ℕ). m.front ++ l) (sym z) ∙ sym m.whole in
      let b : m.front' ≡ t = sym (append-nil m.front') ∙ ap (λ (l : List ℕ). m.front' ++ l) (sym w) ∙ sym m.whole' in
      record {
        elements = elements_of m.before;
        pieces = pieces_of m.before;
        pieces' = pieces_of m.before';
        run = subst (λ (l : List ℕ). Run (Spells f) l (pieces_of m.before) (elements_of m.before)) a r.0.1;
        run' = subst (λ (l : List ℕ). Run (Spells f) l (pieces_of m.before') (elements_of m.before)) b r.1.1;
        spelled_otherwise = (all_shared m.before m.before' m.same_elements).spelled_otherwise;
        number = refl;
      }

module _ (form : ℕ) (first second : List ℕ) where
  abbrev Row : Comparison → Type 0
  Row = CompareRow form first second

  module _ {f : Form} (readable : FormAndLimit form first second f) where
    to_row : {c : Comparison} → compared_in f first second ≡ c → Row c → Row (compared_in f first second)
    to_row q r = subst Row (sym q) r

    met_row : (b : BothRun f first second) (m : Met f first second) → Row (compared_in f first second)
    met_row b m = go m.after m.after' m.reads_after m.reads_after' m.apart
      where
        go : (xs ys : List Segment) → segments_in f m.rest ≡ accepted xs → segments_in f m.rest' ≡ accepted ys → Apart xs ys
            → Row (compared_in f first second)
        go [] [] q r both_end =
            let z = nothing_on f m.rest q in
            let w = nothing_on f m.rest' r in
            to_row (both_ended f first second m (ap length z) (ap length w))
            (CompareRow.mean_same readable (same_by f first second m z w))
        go (x ∷ xs) [] q r first_goes_on =
            let g = (goes_on f m.rest x xs q).0 in
            to_row (first_on f first second m (some_left f m.rest x xs q))
            (CompareRow.second_ends readable b (differ_by f first second m (g, nothing_on f m.rest' r)))
        go [] (y ∷ ys) q r second_goes_on =
            let z = nothing_on f m.rest q in
            let g = (goes_on f m.rest' y ys r).0 in
            to_row (second_on f first second m (ap length z) (some_left f m.rest' y ys r))
            (CompareRow.first_ends readable b (differ_by f first second m (z, g)))
        go (x ∷ xs) (y ∷ ys) q r (differ n) =
            let g = goes_on f m.rest x xs q in
            let h = goes_on f m.rest' y ys r in
            to_row (first_on f first second m (some_left f m.rest x xs q))
            (CompareRow.differ readable b
            (differ_by f first second m (record { one = g.0; other = h.0; not_same = λ e. n (sym g.1 ∙ e ∙ h.1) })))

    readings_row : Row (compared_in f first second)
    readings_row = go (segments_in f first) refl (segments_in f second) refl
      where
        go : (x : Outcome Segment) → segments_in f first ≡ x → (y : Outcome Segment) → segments_in f second ≡ y → Row (compared_in f first second)
        go (refusal r n p d) q y z =
            let h = (refused_segments f first r n p d).0 q in
            to_row (sym (first_refused f first second (fault_refused f first second first h))) (CompareRow.first_refused readable h)
        go (accepted xs) q (refusal r n p d) z =
            let h = (refused_segments f second r n p d).0 z in
            to_row
            (sym (second_refused f first second (record { segments = xs; reads = q }) (fault_refused f first second second h)))
            (CompareRow.second_refused readable (pieces_of xs, its_run f first xs q) h)
        go (accepted xs) q (accepted ys) z =
            met_row
            (record {
              meaning = elements_of xs;
              meaning' = elements_of ys;
              run = (pieces_of xs, its_run f first xs q);
              run' = (pieces_of ys, its_run f second ys z);
            }) (meet f first second xs ys q z)

  by_second : (f : Form) → form_of form ≡ Some f → length first ≤ limit → (b : Bool) → leb (length second) limit ≡ b
      → Row (pick b (compared_in f first second) (refused_by (bare 12) 2 (length first)))
  by_second f q l true e = readings_row (record { is_form = q; first_within = l; second_within = leb-true _ _ e })
  by_second f q l false e = CompareRow.second_over q l (leb-false _ _ e)

  by_first : (f : Form) → form_of form ≡ Some f → (b : Bool) → leb (length first) limit ≡ b
      → Row (pick b (within_limit second (refused_by (bare 12) 2 (length first)) (compared_in f first second))
      (refused_by (bare 12) 1 (length first)))
  by_first f q true e = by_second f q (leb-true _ _ e) (leb (length second) limit) refl
  by_first f q false e = CompareRow.first_over q (leb-false _ _ e)

  by_form : (y : Option Form) → form_of form ≡ y
      → Row (in_form y (refused_by (bare 11) 0 (length first))
      (λ f. within_limit first (refused_by (bare 12) 1 (length first))
      (within_limit second (refused_by (bare 12) 2 (length first)) (compared_in f first second))))
  by_form (Some f) q = by_first f q (leb (length first) limit) refl
  by_form None q = CompareRow.no_form ((none_exactly form).0 q)

  pub its_row : Row (comparison form first second)
  unfolding comparison
  its_row = by_form (form_of form) refl

  -- of a form, and two texts within the limit, the answer is by their readings
  pub readable_is : {f : Form} → FormAndLimit form first second f → comparison form first second ≡ compared_in f first second
  readable_is r = sym (both_within form first second _ r.is_form r.first_within r.second_within)

  of_row : {c : Comparison} → Row c → comparison form first second ≡ c
  of_row (CompareRow.no_form n) = sym (compared_none form first second ((none_exactly form).1 n))
  of_row (CompareRow.first_over q l) = sym (first_over form first second _ q l)
  of_row (CompareRow.second_over q l h) = sym (second_over form first second _ q l h)
  of_row (CompareRow.first_refused {f} r h) = readable_is r ∙ sym (first_refused f first second (fault_refused f first second first h))
  of_row (CompareRow.second_refused {f} r e h) =
      let b = beside f e.1 in
      readable_is r
      ∙ sym
      (second_refused f first second (record { segments = b.segments; reads = b.reads_so }) (fault_refused f first second second h))
  of_row (CompareRow.mean_same {f} r m) = readable_is r ∙ row_same f first second m
  of_row (CompareRow.differ {f} r b d) = readable_is r ∙ row_differ f first second b d
  of_row (CompareRow.second_ends {f} r b d) = readable_is r ∙ row_second_ends f first second b d
  of_row (CompareRow.first_ends {f} r b d) = readable_is r ∙ row_first_ends f first second b d

  -- The eleven numbers are exactly those of the row that document 02 gives.
  pub compared_exactly : (c : Comparison) → (comparison form first second ≡ c) ↔ CompareRow form first second c
  compared_exactly c = (λ q. subst Row q its_row, of_row)

  -- ---- the part that is handed back lies within its text

  -- the text and the place that a comparison names
  pub record TailInside (c : Comparison) : Type 0 where
    pub of_second : c.tail_text ≡ 2 → c.tail_place ≤ length second
    pub of_first : (c.tail_text ≡ 2 → ⊥) → c.tail_place ≤ length first

  in_first : {c : Comparison} → c.tail_text ≡ 1 → c.tail_place ≤ length first → TailInside c
  in_first t l = record { of_second = λ e. absurd (omega arith); of_first = λ n. l }

  front_inside : (whole front rest : List ℕ) {p : ℕ} → whole ≡ front ++ rest → p ≡ length front → p ≤ length whole
  front_inside whole front rest q e = omega (arith, ap length q, length-append front rest)

  row_inside : {c : Comparison} → Row c → TailInside c
  row_inside (CompareRow.no_form n) = in_first refl (omega arith)
  row_inside (CompareRow.first_over q l) = in_first refl (omega arith)
  row_inside (CompareRow.second_over q l h) = in_first refl (omega arith)
  row_inside (CompareRow.first_refused r h) = in_first refl (omega arith)
  row_inside (CompareRow.second_refused r e h) = in_first refl (omega arith)
  row_inside (CompareRow.mean_same r m) = in_first refl (omega arith)
  row_inside (CompareRow.differ r b d) = in_first refl (front_inside first d.front d.rest d.whole d.first_place)
  row_inside (CompareRow.second_ends r b d) = in_first refl (front_inside first d.front d.rest d.whole d.first_place)
  row_inside (CompareRow.first_ends r b d) =
      record {
        of_second = λ e. front_inside second d.front' d.rest' d.whole' d.second_place;
        of_first = λ n. absurd (n refl);
      }

  pub tail_inside : TailInside (comparison form first second)
  tail_inside = row_inside its_row
