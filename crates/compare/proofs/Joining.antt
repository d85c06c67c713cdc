-- Two texts behind one accepted text: what is said of the two, element and places moved up.
-- Assumes nothing.
use Prim.Native.Nat.{ℕ, ◌+◌}
use mathlib.Core.Path.{◌≡◌, refl, sym, ap, ap₂, ◌∙◌}
use mathlib.Core.Bool.{Bool, true, false}
use mathlib.Core.List.{List, ◌++◌}
use native.Mathlib.Nat.{zero-add}
use native.Mathlib.Omega.{arith}
use lib.Dec.{ltb, eqb}
use lib.ListN.{length, length-append, length-map}
use borrow.Author.Tests.{ltb-true, ltb-false, lt-ltb, le-ltb, ne_eqb}
use Rattle.run.specs.Choice.{pick}
use Rattle.run.specs.Head.{Outcome, accepted, refusal, join}
use Rattle.run.specs.Tagged.{untagged}
use Rattle.run.specs.Grammar.{RunOf}
use Rattle.run.specs.Answers.{answer, count_of}
use Rattle.run.proofs.Outcomes as outcomes
use Rattle.sorts.specs.declared.Form.{Form}
use Rattle.element_words.specs.declared.Element.{Element}
use Rattle.element_reading.specs.Grammar.{Spells}
use Rattle.element_reading.proofs.Places.{reading_number}
use Rattle.text_loops.proofs.Steps.{count_is_place}
use Rattle.compare.specs.declared.Comparison.{Comparison}
use Rattle.compare.specs.declared.Shared.{Shared}
use Rattle.compare.specs.WhatChanged.{FormAndLimit, refused_by, same_of}
use Rattle.compare.specs.Comparing.{Segment, segments_in, shared_of, and_then, shared, told_as, told_by, by_readings, compared_in, comparison}
use Rattle.compare.specs.TheoremWords.{told_up, refused_up, moved_up}
use Rattle.compare.proofs.Sharing.{shared_as, elements_of, pieces_of, shared_on, all_shared, one_otherwise, all_alike}
use Rattle.compare.proofs.Segments.{segments_read, beside, refused_segments}
use Rattle.compare.proofs.Meetings.{read_length}
use Rattle.compare.proofs.Exactly.{readable_is}

-- the same elements, spelled alike, are shared whole
pub shared_itself : (f : Form) (s : List ℕ) (xs : List Segment) → segments_in f s ≡ accepted xs
    → shared xs xs ≡ shared_of (length (elements_of xs)) (length s) (length s) 0
shared_itself f s xs q =
    let a = all_shared xs xs refl in
    let l = read_length f s xs q in
    shared_as a.many (a.of_first ∙ l) (a.of_second ∙ l) (one_otherwise a.spelled_otherwise (all_alike (pieces_of xs)))

-- a test of two places, both moved up
test_moved : (p a b : ℕ) → ltb (p + a) (p + b) ≡ ltb a b
test_moved p a b = go (ltb a b) refl
  where
    go : (t : Bool) → ltb a b ≡ t → ltb (p + a) (p + b) ≡ t
    go true e = lt-ltb (p + a) (p + b) (omega (arith, ltb-true a b e))
    go false e = le-ltb (p + a) (p + b) (omega (arith, ltb-false a b e))

told_moved : (n p : ℕ) (s : Shared) (first second : ℕ)
    → told_by (and_then (shared_of n p p 0) s) (p + first) (p + second) ≡ moved_up n p (told_by s first second)
told_moved n p s first second =
    ap₂ (told_as (and_then (shared_of n p p 0) s)) (test_moved p s.first first) (test_moved p s.second second)
    ∙ go (ltb s.first first) (ltb s.second second)
  where
    go : (a b : Bool) → told_as (and_then (shared_of n p p 0) s) a b ≡ moved_up n p (told_as s a b)
    go true b = refl
    go false true = refl
    go false false = ap (same_of (n + s.elements) (p + s.first) (p + s.second)) (zero-add s.otherwise)

-- a refusal of reading, moved up: 1 to 8, so the count is a place too
refused_moved : (f : Form) (text : List ℕ) {r n p d : ℕ} → segments_in f text ≡ refusal r n p d → (m k which end : ℕ)
    → refused_by (answer r (m + n) (k + p) (count_of r (k + d))) which (k + end)
    ≡ moved_up m k (refused_by (answer r n p (count_of r d)) which end)
refused_moved f text {r} {n} {p} {d} q m k which end =
    let z = reading_number f ((refused_segments f text r n p d).0 q).here in
    let some : eqb r 0 ≡ false = ne_eqb r 0 (λ e. omega (arith, z.0)) in
    ap (λ (c : ℕ). refused_by (answer r (m + n) (k + p) c) which (k + end))
    (sym (count_is_place r (k + d) z.1) ∙ ap (λ (c : ℕ). k + c) (count_is_place r d z.1))
    ∙ sym
    (ap (λ (b : Bool). pick b (told_up m k (refused_by (answer r n p (count_of r d)) which end))
    (refused_up m k (refused_by (answer r n p (count_of r d)) which end))) some)

module _ (f : Form) (front first second : List ℕ) (cs : List Segment) (reads : segments_in f front ≡ accepted cs) where
  -- by what was read of the two
  by_rest : (a b : Outcome Segment) → segments_in f first ≡ a → segments_in f second ≡ b
      → by_readings (length front + length first) (length front + length second) (join cs (length front) a) (join cs (length front) b)
      ≡ moved_up (length (elements_of cs)) (length front) (by_readings (length first) (length second) a b)
  by_rest (refusal r n p d) b q w =
      ap (λ (m : ℕ). refused_by (answer r (m + n) (length front + p) (count_of r (length front + d))) 1 (length front + length first))
      (sym (length-map cs untagged))
      ∙ refused_moved f first q (length (elements_of cs)) (length front) 1 (length first)
  by_rest (accepted xs) (refusal r n p d) q w =
      ap (λ (m : ℕ). refused_by (answer r (m + n) (length front + p) (count_of r (length front + d))) 2 (length front + length first))
      (sym (length-map cs untagged))
      ∙ refused_moved f second w (length (elements_of cs)) (length front) 2 (length first)
  by_rest (accepted xs) (accepted ys) q w =
      ap (λ (s : Shared). told_by s (length front + length first) (length front + length second))
      (shared_on cs cs xs ys refl ∙ ap (λ (s : Shared). and_then s (shared xs ys)) (shared_itself f front cs reads))
      ∙ told_moved (length (elements_of cs)) (length front) (shared xs ys) (length first) (length second)

  behind_one_lem : compared_in f (front ++ first) (front ++ second)
      ≡ moved_up (length (elements_of cs)) (length front) (compared_in f first second)
  behind_one_lem =
      ap₂ (by_readings (length (front ++ first)) (length (front ++ second)))
      (outcomes.joined (segments_read f) front first cs reads) (outcomes.joined (segments_read f) front second cs reads)
      ∙ ap₂ (λ (a b : ℕ). by_readings a b (join cs (length front) (segments_in f first)) (join cs (length front) (segments_in f second)))
      (length-append front first) (length-append front second)
      ∙ by_rest (segments_in f first) (segments_in f second) refl refl

-- Both joined behind one accepted text, within the limit: the verdict of the rest, element and places moved up.
pub joined_behind : (form : ℕ) {f : Form} (front first second : List ℕ) (es : List Element) → RunOf (Spells f) front es
    → FormAndLimit form (front ++ first) (front ++ second) f
    → comparison form (front ++ first) (front ++ second) ≡ moved_up (length es) (length front) (comparison form first second)
joined_behind form {f} front first second es run readable =
    let x = beside f run.1 in
    let l = length-append front first in
    let m = length-append front second in
    let rest =
    readable_is form first second
    (record {
      is_form = readable.is_form;
      first_within = omega (arith, readable.first_within);
      second_within = omega (arith, readable.second_within);
    }) in
    readable_is form (front ++ first) (front ++ second) readable
    ∙ behind_one_lem f front first second x.segments x.reads_so
    ∙ ap₂ (λ (n : ℕ) (c : Comparison). moved_up n (length front) c) (ap length x.elements) (sym rest)
