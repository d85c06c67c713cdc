-- What each way out of the code that makes an element of words, and words of an element, rests on.
-- Assumes nothing.
use Prim.Native.Nat.{ℕ, ◌+◌, ◌-◌, ◌%◌, ◌≤◌, ◌<◌}
use mathlib.Core.Path.{◌≡◌, sym, ap, ap₂, ◌∙◌, subst}
use mathlib.Core.Bool.{true, false}
use mathlib.Core.List.{List, ◌∷◌}
use native.Mathlib.Omega.{arith}
use lib.ListN.{length, get_or, take, drop, length-take, length-drop, drop_of_length-le}
use borrow.Author.Tests.{lt-ltb, le-ltb}
use Rattle.run.proofs.FromPlace.{at_place}
use Rattle.sequence_reading.specs.EightValues.{values_of}
use Rattle.element_words.specs.declared.Element.TheVariants.{One, Sequence as SequenceOf}
use Rattle.element_words.specs.declared.Meant.TheVariants.{Element as Word, NoElement, End}
use Rattle.element_words.specs.Words.{sequences_from}
use Rattle.element_words.specs.Words.{sequence_element, sequence_of, is_sequence, word_head, meant_of, meant_at}
use Rattle.element_words.proofs.HeadWords.{is_true, count_is, never}
use Rattle.element_words.proofs.Words.{sequence_head_lem}

-- ---- the element that words are

module _ (words : List ℕ) (at : ℕ) where
  pub no_word : length words ≤ at → End ≡ meant_at words at
  unfolding meant_at word_head
  no_word h = sym (ap (λ (l : List ℕ). meant_of at (word_head l)) (drop_of_length-le words h))

  module _ (h : at < length words) where
    here : meant_at words at ≡ meant_of at (word_head (get_or words at 0 ∷ drop (at + 1) words))
    unfolding meant_at
    here = ap (λ (l : List ℕ). meant_of at (word_head l)) (at_place words at h)

    pub one_word : get_or words at 0 < sequences_from → Word (One (get_or words at 0)) (at + 1) ≡ meant_at words at
    unfolding word_head
    one_word l = sym (here ∙ rw (lt-ltb (get_or words at 0) sequences_from l))

    module _ (l : sequences_from ≤ get_or words at 0) where
      no_sequence : is_sequence (get_or words at 0) (take (get_or words at 0 % 0x100) (drop (at + 1) words)) ≡ false
          → NoElement ≡ meant_at words at
      unfolding word_head
      no_sequence e = sym (here ∙ rw (le-ltb (get_or words at 0) sequences_from l, e))

      pub cut_words : length words - (at + 1) < get_or words at 0 % 0x100 → NoElement ≡ meant_at words at
      cut_words s =
          no_sequence (sym (never (get_or words at 0) (take (get_or words at 0 % 0x100) (drop (at + 1) words))
          (λ e. omega (
            arith,
            count_is (get_or words at 0) (take (get_or words at 0 % 0x100) (drop (at + 1) words)) e,
            length-take (get_or words at 0 % 0x100) (drop (at + 1) words),
            length-drop (at + 1) words,
          ))))

      -- the part of the words that the values are
      abbrev pub part : List ℕ
      part = take (at + 1 + get_or words at 0 % 0x100 - (at + 1)) (drop (at + 1) words)

      part_is : part ≡ take (get_or words at 0 % 0x100) (drop (at + 1) words)
      part_is =
          ap (λ (k : ℕ). take k (drop (at + 1) words))
          (let k : at + 1 + get_or words at 0 % 0x100 - (at + 1) ≡ get_or words at 0 % 0x100 = omega arith in k)

      pub not_words : is_sequence (get_or words at 0) part ≡ false → NoElement ≡ meant_at words at
      not_words e = no_sequence (subst (λ (l : List ℕ). is_sequence (get_or words at 0) l ≡ false) part_is e)

      pub are_words : (v : List ℕ) → is_sequence (get_or words at 0) part ≡ true → v ≡ values_of part
          → Word (SequenceOf (get_or words at 0) (get_or words at 0 % 0x100) v) (at + 1 + get_or words at 0 % 0x100) ≡ meant_at words at
      are_words v e q =
          let w : ℕ = get_or words at 0 in
          let t = is_true w part e in
          let n : w % 0x100 ≡ length part = count_is w part e in
          let k : at + 1 + w % 0x100 ≡ at + (w % 0x100 + 1) = omega arith in
          let s : SequenceOf w (w % 0x100) v ≡ sequence_element (sequence_of w part) = cc in
          ap₂ Word s k
          ∙ sym (here ∙ ap (meant_of at) (sequence_head_lem w (drop (at + 1) words) part l (sym part_is) e))
