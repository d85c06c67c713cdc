-- The words of a text's elements up to its end or its first fault are one list, and it is what the reader writes; and how many of them are
-- not canonical is one number, what the reader counts.
-- Assumes nothing.
use Prim.Native.Nat.{ℕ}
use mathlib.Core.Path.{◌≡◌, refl, sym, ◌∙◌, subst}
use mathlib.Core.List.{List}
use Rattle.run.specs.Head.{Outcome, accepted, refusal}
use Rattle.run.specs.Tally.{Apart}
use Rattle.run.specs.Answers.{given}
use Rattle.run.proofs.Outcomes as outcomes
use Rattle.run.proofs.Before.{given_before}
use Rattle.sorts.specs.declared.Form.{Form}
use Rattle.element_words.specs.declared.Element.{Element}
use Rattle.element_words.specs.Words.{words_of}
use Rattle.element_spelling.specs.ElementOctets.{CanonicalElement}
use Rattle.element_reading.proofs.Reader.{reads}
use Rattle.text_reading.proofs.Respelled.{respelled_exactly}
use Rattle.text_loops.specs.Fronts.{read_in, words_before, respelled_before}
use Rattle.open_elements.proofs.Fronts.{fault_words, refused_read, fault_respelled}
use Rattle.serial.specs.SerialNumbers.{UpToFault, WordsUpToFault, GoesOn}

module _ (f : Form) (s : List ℕ) where
  upto_words : {es : List Element} → UpToFault f s es → words_before f s ≡ given words_of es
  upto_words {es} (UpToFault.to_the_end r) = given_before (reads f) words_of s es ((outcomes.accepts (reads f) s es).1 r)
  upto_words (UpToFault.to_a_fault at) = fault_words f s at

  -- the words up to the end or the first fault are one list
  pub words_are : {ws : List ℕ} → WordsUpToFault f s ws → words_before f s ≡ ws
  words_are (WordsUpToFault.words_of_all u) = upto_words u

  pub words_some : WordsUpToFault f s (words_before f s)
  words_some = go (read_in f s) refl
    where
      go : (x : Outcome Element) → read_in f s ≡ x → WordsUpToFault f s (words_before f s)
      go (accepted es) q =
          let u = UpToFault.to_the_end ((outcomes.accepts (reads f) s es).0 q) in
          subst (WordsUpToFault f s) (sym (upto_words u)) (WordsUpToFault.words_of_all u)
      go (refusal r n p d) q =
          let z = refused_read f s r n p d q in
          subst (WordsUpToFault f s) (sym z.words) (WordsUpToFault.words_of_all (UpToFault.to_a_fault z.fault))

  -- of octets that go on, how many of their pieces are not canonical
  pub goes_respelled : {ps : List (List ℕ)} {es : List Element} {k : ℕ} → GoesOn f s ps es → Apart (CanonicalElement f) ps es k
      → respelled_before f s ≡ k
  goes_respelled {k = k} (GoesOn.finished r) h = (respelled_exactly f r k).1 h
  goes_respelled {k = k} (GoesOn.unfinished at) h =
      fault_respelled at ∙ (respelled_exactly f at.run.1 k).1 h
