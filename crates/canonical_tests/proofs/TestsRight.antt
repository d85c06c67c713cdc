-- What the tests say of octets that spell an element is whether they are its canonical spelling, over the form. What goes by the form are
-- the tests of its tables, which antt computes; a line turns each into the fact.
-- Assumes nothing.
use Prim.Native.Nat.{ℕ, ◌+◌, ◌≤◌, ◌<◌}
use mathlib.Core.Path.{◌≡◌, refl, sym, ap, ap₂, ◌∙◌}
use mathlib.Core.Bool.{Bool, true}
use mathlib.Core.List.{List, [], ◌∷◌}
use native.Mathlib.Omega.{arith}
use lib.Dec.{leb, eqb}
use borrow.Author.Tests.{le-leb, le-ltb, lt-ltb}
use Rattle.run.specs.Choice.{pick, same_octets}
use Rattle.run.proofs.Choices.{alike_tests, same_octets_are, are_same_octets}
use Rattle.run.proofs.Members.{at_member}
use Rattle.sorts.specs.declared.Form.{Form}
use Rattle.sorts.specs.declared.Form.TheVariants.{Eight, Seven, Basic}
use Rattle.sorts.specs.declared.Sort.{Sort}
use Rattle.sorts.specs.declared.Sort.TheVariants.{Graphic, Mark, Underline, Shift, Control, SequenceStart, Refused}
use Rattle.std.specs.Prelude.{Some, Option, None}
use Rattle.sorts.specs.Cells.{octet, meaning, octet_in}
use Rattle.sorts.specs.Forms.{alphabet_of, SS2, CC, CSI}
use Rattle.sorts.specs.Sorts.{sort_in, shifted_in}
use Rattle.squares.specs.Squares.{Square, sq, square_of, squares, character, pair_of}
use Rattle.spelling.specs.CanonicalSpelling.{spelt_octets}
use Rattle.spelling.specs.SpellingGiven.{spell_in}
use Rattle.sequence_reading.specs.Grammar.{Sequence, SpellsSequence}
use Rattle.sequence_spelling.specs.SequenceOctets.{canonical_behind, spell_sequence}
use Rattle.element_words.specs.declared.Element.TheVariants.{One}
use Rattle.element_words.specs.Words.{underlined_from, controls_from, graphic_word, control_word, sequence_element}
use Rattle.element_spelling.specs.ElementOctets.{after_cc, spell_element, is_canonical}
use Rattle.canonical_tests.specs.Tests.{word_canonical}
use Rattle.sorts.proofs.Tests.{Alike}
use Rattle.sorts.proofs.Sorted.{sort_says, shifted_says}
use Rattle.sorts.proofs.SortFacts.{shift_is, underline_is, sequence_is, control_small, graphic_small, shifted_graphic_small}
use Rattle.squares.proofs.SquareFacts.{square_small}
use Rattle.squares.proofs.TableRule.{filled_member}
use Rattle.spelling.proofs.CanonicalExactly.{mark_first, shifted_mark_first}
use Rattle.sequence_spelling.proofs.Back.{spelt_fine}
use Rattle.sequence_spelling.proofs.Exactly.{canonical_exactly}
use Rattle.sequence_spelling.proofs.CanonicalBehind.{canonical_behind_lem}
use Rattle.element_spelling.proofs.Writer.{spell_graphic, spell_underlined, spell_control, spell_sequence_lem}

-- ---- the ways out of the test of one word where no table is asked

module _ (word last size : ℕ) where
  pub ascii : (f : Form) → (f ≡ Basic → ⊥) → word < 0x80 → eqb size 1 ≡ word_canonical f word last size
  ascii Eight o h = rw (lt-ltb word 0x80 h)
  ascii Seven o h = rw (lt-ltb word 0x80 h)
  ascii Basic o h = absurd (o refl)

  pub not_ascii : (f : Form) → (f ≡ Basic → ⊥) → 0x80 ≤ word → true ≡ word_canonical f word last size
  not_ascii Eight o h = rw (le-ltb word 0x80 h)
  not_ascii Seven o h = rw (le-ltb word 0x80 h)
  not_ascii Basic o h = absurd (o refl)

-- ---- the tests of a form's tables

abbrev spelt : Form → ℕ → List ℕ
spelt f c = spelt_octets (spell_in f c)

abbrev follower : Square → ℕ
follower (sq m l c) = l

abbrev mark_of : Square → ℕ
mark_of (sq m l c) = m

-- a pair of a mark that the form has, by what is said of its octet
abbrev if_there : Option ℕ → (ℕ → Bool) → Bool → Bool
if_there (Some o) told wanted = told o
if_there None told wanted = wanted

-- of what stands after CC, in a form that has it
abbrev if_underlines : Sort → Bool → Bool → Bool
if_underlines (Graphic c) told wanted = wanted
if_underlines (Mark m) told wanted = wanted
if_underlines Underline told wanted = told
if_underlines Shift told wanted = wanted
if_underlines Control told wanted = wanted
if_underlines SequenceStart told wanted = wanted
if_underlines (Refused n) told wanted = wanted

-- what is tested of a form: at each spacing character, alone, after SS2 and after CC; at each pair, the same; at each control
record Tested (f : Form) : Type 0 where
  pub alone : Alike (λ x. same_octets (octet x ∷ []) (spelt f (meaning x))) (λ x. word_canonical f (meaning x) (octet x) 1)
      (alphabet_of f).graphics
  pub shifted : Alike (λ x. same_octets (SS2 ∷ octet x ∷ []) (spelt f (meaning x))) (λ x. word_canonical f (meaning x) (octet x) 2)
      (alphabet_of f).shifted_graphics
  pub underlined : Alike (λ x. same_octets (CC ∷ octet x ∷ []) (after_cc (spelt f (meaning x))))
      (λ x. word_canonical f (underlined_from + meaning x) (octet x) 2) (alphabet_of f).graphics
  pub pair : Alike
      (λ s. if_there (octet_in (alphabet_of f).marks (mark_of s)) (λ o. same_octets (o ∷ follower s ∷ []) (spelt f (character s)))
      (word_canonical f (character s) (follower s) 2))
      (λ s. word_canonical f (character s) (follower s) 2) squares
  pub shifted_pair : Alike
      (λ s. if_there (octet_in (alphabet_of f).shifted_marks (mark_of s)) (λ o. same_octets (SS2 ∷ o ∷ follower s ∷ []) (spelt f (character s)))
      (word_canonical f (character s) (follower s) 3))
      (λ s. word_canonical f (character s) (follower s) 3) squares
  pub underlined_pair : Alike
      (λ s. if_underlines (sort_in f CC)
      (if_there (octet_in (alphabet_of f).marks (mark_of s)) (λ o. same_octets (CC ∷ o ∷ follower s ∷ []) (after_cc (spelt f (character s))))
      (word_canonical f (underlined_from + character s) (follower s) 3))
      (word_canonical f (underlined_from + character s) (follower s) 3))
      (λ s. word_canonical f (underlined_from + character s) (follower s) 3) squares
  -- a pair of a character that is not of ASCII is canonical in each form that has the mark
  pub high_pair : Alike (λ s. pick (leb 0x80 (character s)) (word_canonical f (character s) (follower s) 2) true) (λ s. true) squares
  pub control : Alike (λ o. word_canonical f (controls_from + o) o 1) (λ o. true) (alphabet_of f).controls

tested : (f : Form) → Tested f
unfolding alphabet_of sort_in spell_in squares pair_of
tested Eight =
    record {
      alone = refl;
      shifted = refl;
      underlined = refl;
      pair = refl;
      shifted_pair = refl;
      underlined_pair = refl;
      high_pair = refl;
      control = refl;
    }
tested Seven =
    record {
      alone = refl;
      shifted = refl;
      underlined = refl;
      pair = refl;
      shifted_pair = refl;
      underlined_pair = refl;
      high_pair = refl;
      control = refl;
    }
tested Basic =
    record {
      alone = refl;
      shifted = refl;
      underlined = refl;
      pair = refl;
      shifted_pair = refl;
      underlined_pair = refl;
      high_pair = refl;
      control = refl;
    }

module _ (f : Form) where
  -- ---- a spacing character

  pub alone_test : (o c : ℕ) → sort_in f o ≡ Graphic c → word_canonical f c o 1 ≡ is_canonical f (o ∷ []) (One c)
  unfolding spell_element
  alone_test o c e =
      sym (at_member (λ x. same_octets (octet x ∷ []) (spelt f (meaning x))) (λ x. word_canonical f (meaning x) (octet x) 1)
      (sort_says f o (Graphic c) e) (tested f).alone)
      ∙ ap (same_octets (o ∷ [])) (sym (spell_graphic f c (omega (arith, graphic_small f o c e))))

  pub shifted_test : (s o c : ℕ) → sort_in f s ≡ Shift → shifted_in f o ≡ Graphic c
      → word_canonical f c o 2 ≡ is_canonical f (s ∷ o ∷ []) (One c)
  unfolding spell_element
  shifted_test s o c k e =
      sym (at_member (λ x. same_octets (SS2 ∷ octet x ∷ []) (spelt f (meaning x))) (λ x. word_canonical f (meaning x) (octet x) 2)
      (shifted_says f o (Graphic c) e) (tested f).shifted)
      ∙ ap₂ (λ (u : ℕ) (l : List ℕ). same_octets (u ∷ o ∷ []) l) (sym (shift_is f s k).0)
      (sym (spell_graphic f c (omega (arith, shifted_graphic_small f o c e))))

  -- in a form with an underline octet, that is CC
  underlines : (u : ℕ) → sort_in f u ≡ Underline → sort_in f CC ≡ Underline
  underlines u k = sym (ap (sort_in f) (underline_is f u k).0) ∙ k

  pub underlined_test : (u o c : ℕ) → sort_in f u ≡ Underline → sort_in f o ≡ Graphic c
      → word_canonical f (graphic_word true c) o 2 ≡ is_canonical f (u ∷ o ∷ []) (One (graphic_word true c))
  unfolding spell_element
  underlined_test u o c k e =
      sym (at_member (λ x. same_octets (CC ∷ octet x ∷ []) (after_cc (spelt f (meaning x))))
      (λ x. word_canonical f (underlined_from + meaning x) (octet x) 2) (sort_says f o (Graphic c) e) (tested f).underlined)
      ∙ ap₂ (λ (v : ℕ) (l : List ℕ). same_octets (v ∷ o ∷ []) l) (sym (underline_is f u k).0)
      (sym (spell_underlined f c (omega (arith, graphic_small f o c e)) (underlines u k)))

  -- ---- a pair

  pub pair_test : (o m l c : ℕ) → sort_in f o ≡ Mark m → square_of m l ≡ Some c
      → word_canonical f c l 2 ≡ is_canonical f (o ∷ l ∷ []) (One c)
  unfolding spell_element
  pair_test o m l c e q =
      sym (ap (λ (x : Option ℕ). if_there x (λ o. same_octets (o ∷ l ∷ []) (spelt f c)) (word_canonical f c l 2))
      (sym (mark_first f o m e).is_it)
      ∙ at_member (λ s. if_there (octet_in (alphabet_of f).marks (mark_of s)) (λ o. same_octets (o ∷ follower s ∷ []) (spelt f (character s)))
      (word_canonical f (character s) (follower s) 2))
      (λ s. word_canonical f (character s) (follower s) 2) (filled_member m l c q) (tested f).pair)
      ∙ ap (same_octets (o ∷ l ∷ [])) (sym (spell_graphic f c (omega (arith, square_small m l c q))))

  -- of a character that is not of ASCII
  pub high_pair_canonical : (o m l c : ℕ) → sort_in f o ≡ Mark m → square_of m l ≡ Some c → 0x80 ≤ c
      → is_canonical f (o ∷ l ∷ []) (One c) ≡ true
  high_pair_canonical o m l c e q h =
      sym (pair_test o m l c e q)
      ∙ ap (λ (b : Bool). pick b (word_canonical f c l 2) true) (sym (le-leb 0x80 c h))
      ∙ at_member (λ s. pick (leb 0x80 (character s)) (word_canonical f (character s) (follower s) 2) true) (λ s. true)
      (filled_member m l c q) (tested f).high_pair

  pub shifted_pair_test : (s o m l c : ℕ) → sort_in f s ≡ Shift → shifted_in f o ≡ Mark m → square_of m l ≡ Some c
      → word_canonical f c l 3 ≡ is_canonical f (s ∷ o ∷ l ∷ []) (One c)
  unfolding spell_element
  shifted_pair_test s o m l c k e q =
      sym (ap (λ (x : Option ℕ). if_there x (λ o. same_octets (SS2 ∷ o ∷ l ∷ []) (spelt f c)) (word_canonical f c l 3))
      (sym (shifted_mark_first f o m e).is_it)
      ∙ at_member
      (λ s. if_there (octet_in (alphabet_of f).shifted_marks (mark_of s)) (λ o. same_octets (SS2 ∷ o ∷ follower s ∷ []) (spelt f (character s)))
      (word_canonical f (character s) (follower s) 3))
      (λ s. word_canonical f (character s) (follower s) 3) (filled_member m l c q) (tested f).shifted_pair)
      ∙ ap₂ (λ (u : ℕ) (t : List ℕ). same_octets (u ∷ o ∷ l ∷ []) t) (sym (shift_is f s k).0)
      (sym (spell_graphic f c (omega (arith, square_small m l c q))))

  pub underlined_pair_test : (u o m l c : ℕ) → sort_in f u ≡ Underline → sort_in f o ≡ Mark m → square_of m l ≡ Some c
      → word_canonical f (graphic_word true c) l 3 ≡ is_canonical f (u ∷ o ∷ l ∷ []) (One (graphic_word true c))
  unfolding spell_element
  underlined_pair_test u o m l c k e q =
      let w = word_canonical f (underlined_from + c) l 3 in
      let same : Option ℕ → Bool = λ x. if_there x (λ o. same_octets (CC ∷ o ∷ l ∷ []) (after_cc (spelt f c))) w in
      sym (ap same (sym (mark_first f o m e).is_it)
      ∙ ap (λ (x : Sort). if_underlines x (same (octet_in (alphabet_of f).marks m)) w) (sym (underlines u k))
      ∙ at_member
      (λ s. if_underlines (sort_in f CC)
      (if_there (octet_in (alphabet_of f).marks (mark_of s)) (λ o. same_octets (CC ∷ o ∷ follower s ∷ []) (after_cc (spelt f (character s))))
      (word_canonical f (underlined_from + character s) (follower s) 3))
      (word_canonical f (underlined_from + character s) (follower s) 3))
      (λ s. word_canonical f (underlined_from + character s) (follower s) 3) (filled_member m l c q) (tested f).underlined_pair)
      ∙ ap₂ (λ (v : ℕ) (t : List ℕ). same_octets (v ∷ o ∷ l ∷ []) t) (sym (underline_is f u k).0)
      (sym (spell_underlined f c (omega (arith, square_small m l c q)) (underlines u k)))

  -- ---- a control, and a control sequence

  pub control_test : (o : ℕ) → sort_in f o ≡ Control → word_canonical f (control_word o) o 1 ≡ is_canonical f (o ∷ []) (One (control_word o))
  unfolding spell_element
  control_test o e =
      at_member (λ o. word_canonical f (controls_from + o) o 1) (λ o. true) (sort_says f o Control e) (tested f).control
      ∙ sym (ap (same_octets (o ∷ [])) (spell_control f o (omega (arith, control_small f o e)) e) ∙ are_same_octets (o ∷ []))

  pub sequence_test : (o : ℕ) (p : List ℕ) (q : Sequence) → sort_in f o ≡ SequenceStart → SpellsSequence (o ∷ p) q
      → canonical_behind true p ≡ is_canonical f (o ∷ p) (sequence_element q)
  sequence_test o p q k h =
      let fine = spelt_fine h in
      let starts : sort_in f CSI ≡ SequenceStart = sym (ap (sort_in f) (sequence_is f o k)) ∙ k in
      let given : spell_element f (sequence_element q) ≡ spell_sequence q = spell_sequence_lem f q fine ∙ rw starts refl in
      alike_tests (canonical_behind true p) (is_canonical f (o ∷ p) (sequence_element q))
      (λ z. ap (same_octets (o ∷ p)) (given ∙ sym ((canonical_exactly (o ∷ p) q).0 ((canonical_behind_lem h).0 z)).1) ∙ are_same_octets (o ∷ p))
      (λ z. (canonical_behind_lem h).1 ((canonical_exactly (o ∷ p) q).1 (fine, same_octets_are (o ∷ p) _ z ∙ given)))
