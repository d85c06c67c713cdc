-- How much a form spells of an element: 34 octets at most.
-- Assumes nothing.
use Prim.Native.Nat.{ℕ, ◌-◌, ◌≤◌, min}
use mathlib.Core.List.{List, [], ◌∷◌}
use native.Mathlib.Omega.{arith}
use lib.ListN.{length, take}
use lib.Dec.{ltb, lit≤}
use Rattle.run.proofs.Choices.{pick_case}
use Rattle.sorts.specs.declared.Form.{Form}
use Rattle.std.specs.Prelude.{Option, Some, None}
use Rattle.spelling.specs.declared.Spelling.{Spelling}
use Rattle.spelling.specs.declared.Spelling.TheVariants.{One as Single, Shifted, Pair, ShiftedPair}
use Rattle.sorts.specs.Sorts.{sort_in}
use Rattle.spelling.specs.CanonicalSpelling.{spelt_octets}
use Rattle.spelling.specs.SpellingGiven.{spell_in}
use Rattle.sorts.specs.Forms.{CC, CSI}
use Rattle.sequence_spelling.proofs.Exactly.{size_34}
use Rattle.element_words.specs.declared.Element.{Element}
use Rattle.element_words.specs.declared.Element.TheVariants.{One, Sequence as SequenceOf}
use Rattle.element_words.specs.Words.{underlined_from, controls_from, sequences_from}
use Rattle.element_words.specs.Words.{is_sequence}
use Rattle.element_words.proofs.HeadWords.{sequence_fine}
use Rattle.element_spelling.specs.ElementOctets.{is_underline, is_control, is_start, after_cc, spell_word, spell_sequence_words, spell_element}

abbrev Short : List ℕ → Type 0
Short s = length s ≤ 34

-- a character has at most three octets, and CC before them makes one more
octets_few : (x : Option Spelling) → length (spelt_octets x) ≤ 3
octets_few (Some (Single o)) = lit≤ tt
octets_few (Some (Shifted o)) = lit≤ tt
octets_few (Some (Pair m l)) = lit≤ tt
octets_few (Some (ShiftedPair m l)) = lit≤ tt
octets_few None = lit≤ tt

octets_short : (x : Option Spelling) → Short (spelt_octets x)
octets_short x = omega (arith, octets_few x)

after_few : (s : List ℕ) → length s ≤ 3 → Short (after_cc s)
after_few [] h = lit≤ tt
after_few (o ∷ s) h = omega arith

module _ (f : Form) where
  word_short : (w : ℕ) → Short (spell_word f w)
  word_short w =
      pick_case Short (ltb w underlined_from) _ _ (λ t. octets_short (spell_in f w))
      (λ a. pick_case Short (ltb w controls_from) _ _
      (λ t. pick_case Short (is_underline (sort_in f CC)) _ _
      (λ t. after_few (spelt_octets (spell_in f (w - underlined_from))) (octets_few (spell_in f (w - underlined_from)))) (λ t. lit≤ tt))
      (λ b. pick_case Short (ltb w sequences_from) _ _
      (λ t. pick_case Short (is_control (sort_in f (w - controls_from))) _ _ (λ t. lit≤ tt) (λ t. lit≤ tt))
      (λ c. lit≤ tt)))

  sequence_short : (h : ℕ) (vs : List ℕ) → Short (spell_sequence_words f h vs)
  sequence_short h vs =
      pick_case Short (is_start (sort_in f CSI)) _ _
      (λ t. pick_case Short (is_sequence h vs) _ _ (λ e. size_34 (sequence_fine h vs e)) (λ n. lit≤ tt))
      (λ n. lit≤ tt)

  pub spelt_short : (e : Element) → length (spell_element f e) ≤ 34
  unfolding spell_element
  spelt_short (One w) = word_short w
  spelt_short (SequenceOf h n vs) = sequence_short h (take (min n 8) vs)
