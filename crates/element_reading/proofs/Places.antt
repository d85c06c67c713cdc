-- Where the answers of a reading stand in the text.
-- Assumes nothing.
use Prim.Native.Nat.{ℕ, ◌+◌, ◌-◌, ◌≤◌, ◌<◌}
use mathlib.Core.Path.{◌≡◌, refl, ap, ◌∙◌}
use mathlib.Core.List.{List, [], ◌∷◌}
use native.Mathlib.Omega.{arith}
use lib.ListN.{length, drop, length-append, length-drop}
use lib.Dec.{lit≤}
use Rattle.element_reading.specs.ElementNumbers.{InsideText}
use Rattle.run.specs.Head.{Head, element, refused, none}
use Rattle.run.specs.Grammar.{Begins}
use Rattle.run.specs.Tagged.{tag_head}
use Rattle.sorts.specs.declared.Form.{Form}
use Rattle.sequence_reading.specs.Grammar.{RefusesSequence}
use Rattle.element_words.specs.declared.Element.{Element}
use Rattle.element_spelling.specs.ElementOctets.{is_canonical}
use Rattle.element_reading.specs.Grammar.{Spells, Refuses}
use Rattle.element_reading.specs.ElementHead.{head_in, step_of, step_at}
use Rattle.element_reading.proofs.Reader.{reads, refuses_exactly_by}

sequence_number : {s : List ℕ} {r d : ℕ} → RefusesSequence s r d → (1 ≤ r) × (r ≤ 8)
sequence_number (RefusesSequence.ends i) = (lit≤ tt, lit≤ tt)
sequence_number (RefusesSequence.not_allowed b t i n) = (lit≤ tt, lit≤ tt)
sequence_number (RefusesSequence.passes b t i n) = (lit≤ tt, lit≤ tt)
sequence_number (RefusesSequence.fortieth b t i l g) = (lit≤ tt, lit≤ tt)

module _ (f : Form) where
  -- Reading refuses with 1 to 8 alone.
  pub reading_number : {s : List ℕ} {r d : ℕ} → Refuses f s r d → (1 ≤ r) × (r ≤ 8)
  reading_number (Refuses.begins_nothing e) = (lit≤ tt, lit≤ tt)
  reading_number (Refuses.codes_neither s e) = (lit≤ tt, lit≤ tt)
  reading_number (Refuses.escape e) = (lit≤ tt, lit≤ tt)
  reading_number (Refuses.not_listed l t a e n) = (lit≤ tt, lit≤ tt)
  reading_number (Refuses.may_not u n) = (lit≤ tt, lit≤ tt)
  reading_number (Refuses.ends_after_mark a) = (lit≤ tt, lit≤ tt)
  reading_number (Refuses.ends_after_shift s) = (lit≤ tt, lit≤ tt)
  reading_number (Refuses.ends_after_underline u) = (lit≤ tt, lit≤ tt)
  reading_number (Refuses.high e) = (lit≤ tt, lit≤ tt)
  reading_number (Refuses.high_after_shift s e) = (lit≤ tt, lit≤ tt)
  reading_number (Refuses.high_follower l t a e) = (lit≤ tt, lit≤ tt)
  reading_number (Refuses.high_after_underline u e) = (lit≤ tt, lit≤ tt)
  reading_number (Refuses.in_sequence s k) = sequence_number k

  -- At the end no element begins, and nothing is refused: with `never_both`, the three of `one_of_three` exclude each other.
  pub end_no_element : (e : Element) (k : ℕ) → Begins (Spells f) [] e k → ⊥
  end_no_element e k b =
      let l : 0 ≡ length b.front + length b.rest = ap length b.whole ∙ length-append b.front b.rest in
      omega (arith, (reads f).some b.front e b.spells)

  pub end_no_refusal : (r d : ℕ) → Refuses f [] r d → ⊥
  end_no_refusal r d h = let p = (refuses_exactly_by f [] r d).1 h in let q = (reads f).ends in let w : ◌≡◌ {A = ℕ} 0 1 = cc in omega arith

  -- where something is refused, something stands
  refused_some : (s : List ℕ) (r d : ℕ) → head_in f s ≡ refused r d → 0 < length s
  refused_some [] r d q = let e = (reads f).ends in let w : ◌≡◌ {A = ℕ} 0 1 = cc in absurd (omega arith)
  refused_some (o ∷ s) r d q = omega arith

  pub step_inside : (text : List ℕ) (at : ℕ) → InsideText text at (step_at f text at)
  unfolding step_at
  step_inside text at = go (head_in f (drop at text)) refl
    where
      l : length (drop at text) ≡ length text - at
      l = length-drop at text

      go : (h : Head Element) → head_in f (drop at text) ≡ h → InsideText text at (step_of at (tag_head (is_canonical f) (drop at text) h))
      go (element e k) q =
          let b = (reads f).found (drop at text) e k q in
          let z : length (drop at text) ≡ length b.front + length b.rest =
          ap length b.whole ∙ length-append b.front b.rest in
          let s = (reads f).some b.front e b.spells in
          let y = b.size in
          (omega arith, omega (arith, l))
      go (refused r d) q =
          let i = (reads f).inside (drop at text) r d q in
          let s = refused_some (drop at text) r d q in
          ((reads f).numbered (drop at text) r d q, refl, omega (arith, l), omega arith, omega (arith, l))
      go none q = let z : length (drop at text) ≡ 0 = ap length ((reads f).goes (drop at text) q) in omega (arith, l)
