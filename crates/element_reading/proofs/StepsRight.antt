-- The tests of `canonical_tests`, at each way of spelling an element, say whether its octets are its canonical spelling: so the answer that
-- the code gives by them is the one that is defined.
-- Assumes nothing.
use Prim.Native.Nat.{ℕ, ◌+◌, ◌-◌}
use mathlib.Core.Path.{◌≡◌, refl, sym, ap, ◌∙◌}
use mathlib.Core.Bool.{true}
use mathlib.Core.List.{List, ◌∷◌, ◌++◌}
use native.Mathlib.Omega.{arith}
use lib.ListN.{length, take, drop, get_or}
use lib.Seq.{get_or-drop, take-append_seam}
use Rattle.run.specs.Head.{Head, element, refused, none}
use Rattle.run.specs.Tagged.{tag_head}
use Rattle.run.proofs.Outcomes.{front_taken}
use Rattle.sorts.specs.declared.Form.{Form}
use Rattle.sequence_spelling.specs.SequenceOctets.{canonical_behind}
use Rattle.element_words.specs.declared.Element.{Element}
use Rattle.element_words.specs.Words.{graphic_word, control_word}
use Rattle.element_spelling.specs.ElementOctets.{is_canonical}
use Rattle.canonical_tests.specs.Tests.{word_canonical}
use Rattle.canonical_tests.proofs.TestsRight.{alone_test, shifted_test, underlined_test, pair_test, shifted_pair_test}
use Rattle.canonical_tests.proofs.TestsRight.{underlined_pair_test, control_test, sequence_test}
use Rattle.element_reading.specs.declared.Step.TheVariants.{Element as Read}
use Rattle.element_reading.specs.Grammar.{Awaits, Spells}
use Rattle.element_reading.specs.ElementHead.{head_in, step_of, step_at}
use Rattle.element_reading.specs.StepTests.{test_by, step_by}
use Rattle.element_reading.proofs.Reader.{reads}

module _ (f : Form) (text : List ℕ) (at : ℕ) where
  -- the i-th octet of those at a place, and the last of them
  octet_at : {s : List ℕ} → drop at text ≡ s → (k i : ℕ) → at + k - 1 ≡ at + i → get_or text (at + k - 1) 0 ≡ get_or s i 0
  octet_at q k i n = ap (λ (j : ℕ). get_or text j 0) n ∙ sym (get_or-drop at text i 0) ∙ ap (λ (l : List ℕ). get_or l i 0) q

  word_at : {s : List ℕ} → drop at text ≡ s → (w k i : ℕ) → at + k - 1 ≡ at + i
      → word_canonical f w (get_or text (at + k - 1) 0) k ≡ word_canonical f w (get_or s i 0) k
  word_at q w k i n = ap (λ (o : ℕ). word_canonical f w o k) (octet_at q k i n)

  -- the test of octets that spell an element, whatever follows
  spelt_test : {p : List ℕ} {e : Element} (t : List ℕ) → Spells f p e → drop at text ≡ p ++ t
      → test_by f text at e (length p) ≡ is_canonical f p e
  spelt_test t (Spells.graphic {o} {c} e) q = word_at q c 1 0 (omega arith) ∙ alone_test f o c e
  spelt_test t (Spells.shifted {s} {o} {c} k e) q = word_at q c 2 1 (omega arith) ∙ shifted_test f s o c k e
  spelt_test t (Spells.underlined {u} {o} {c} k e) q =
      word_at q (graphic_word true c) 2 1 (omega arith) ∙ underlined_test f u o c k e
  spelt_test t (Spells.pair {c = c} l (Awaits.mark {o} {m} e) z) q = word_at q c 2 1 (omega arith) ∙ pair_test f o m l c e z
  spelt_test t (Spells.pair {c = c} l (Awaits.shifted_mark {s} {o} {m} k e) z) q =
      word_at q c 3 2 (omega arith) ∙ shifted_pair_test f s o m l c k e z
  spelt_test t (Spells.pair {c = c} l (Awaits.underlined_mark {u} {o} {m} k e) z) q =
      word_at q (graphic_word true c) 3 2 (omega arith) ∙ underlined_pair_test f u o m l c k e z
  spelt_test t (Spells.control {o} e) q = word_at q (control_word o) 1 0 (omega arith) ∙ control_test f o e
  spelt_test t (Spells.sequence {o} {p} {q = sq} k h) q =
      ap (λ (l : List ℕ). canonical_behind true (drop 1 (take (length (o ∷ p)) l))) q
      ∙ ap (λ (l : List ℕ). canonical_behind true (drop 1 l)) (take-append_seam (o ∷ p) t)
      ∙ sequence_test f o p sq k h

  -- of the element found at a place
  found_test : (e : Element) (k : ℕ) → head_in f (drop at text) ≡ element e k
      → test_by f text at e k ≡ is_canonical f (take k (drop at text)) e
  found_test e k q =
      let b = (reads f).found (drop at text) e k q in
      ap (test_by f text at e) b.size
      ∙ spelt_test b.rest b.spells b.whole
      ∙ ap (λ (p : List ℕ). is_canonical f p e) (sym (front_taken b))

  right_by : (h : Head Element) → head_in f (drop at text) ≡ h → step_by f text at h ≡ step_of at (tag_head (is_canonical f) (drop at text) h)
  right_by (element e k) q = ap (Read e (at + k)) (found_test e k q)
  right_by (refused r d) q = refl
  right_by none q = refl

  -- The answer by the tests is the answer.
  pub step_right : step_by f text at (head_in f (drop at text)) ≡ step_at f text at
  unfolding step_at
  step_right = right_by (head_in f (drop at text)) refl
