-- Words and elements: the words of an element are read back as that element, and nothing else is.
-- Assumes nothing.
use Prim.Native.Nat.{ℕ, ◌+◌, ◌-◌, ◌/◌, ◌%◌, ◌≤◌, ◌<◌, min}
use mathlib.Core.Path.{◌≡◌, refl, sym, ap, ap₂, ◌∙◌, subst, subst₂}
use mathlib.Core.Bool.{true, false}
use mathlib.Core.List.{List, [], ◌∷◌, ◌++◌}
use native.Mathlib.Omega.{arith}
use lib.ListN.{length, take, drop, length-take, take-append-drop}
use lib.Seq.{take-append_seam}
use lib.Dec.{ltb, eqb, lit<, lit≤}
use borrow.Author.Tests.{lt-ltb, le-ltb, ltb-true, eq-eqb, eqb-true}
use Rattle.run.specs.Choice.{pick}
use Rattle.run.proofs.Choices.{pick_case, both_true, true_both}
use Rattle.run.specs.Grammar.{Begins, Reads}
use Rattle.run.specs.Head.{Head, element, refused, none}
use Rattle.sequence_reading.specs.Grammar.{Sequence}
use Rattle.sequence_reading.proofs.EightValues.{values_back}
use Rattle.sequence_spelling.specs.SequenceOctets.{Fine, is_fine}
use Rattle.sequence_spelling.proofs.Exactly.{fine_test}
use Rattle.element_words.specs.declared.Element.{Element}
use Rattle.element_words.specs.declared.Element.TheVariants.{One, Sequence as SequenceOf}
use Rattle.element_words.specs.Words.{sequences_from}
use Rattle.element_words.specs.Words.{head_word, sequence_element, words_of, Proper, Means, means, sequence_of, is_sequence, word_head}

pub sequence_head_lem : (w : ℕ) (ws vs : List ℕ) → sequences_from ≤ w → take (w % 0x100) ws ≡ vs → is_sequence w vs ≡ true
    → word_head (w ∷ ws) ≡ element (sequence_element (sequence_of w vs)) (w % 0x100 + 1)
unfolding word_head
sequence_head_lem w ws vs h e s = rw (le-ltb w sequences_from h, e, s)

module _ (q : Sequence) (fine : Fine q) where
  -- a head word gives its parts back
  middle_back : (head_word q - sequences_from) / 0x10000 ≡ q.middle
  middle_back = omega (arith, fine.high, fine.eight)

  last_back : head_word q / 0x100 % 0x100 ≡ q.last
  last_back = omega (arith, fine.high, fine.eight)

  pub count_back : head_word q % 0x100 ≡ length q.values
  count_back = omega (arith, fine.high, fine.eight)

  pub sequence_back : sequence_of (head_word q) q.values ≡ q
  sequence_back = λ i. record { middle = middle_back i; last = last_back i; values = q.values }

  pub is_sequence_lem : is_sequence (head_word q) q.values ≡ true
  is_sequence_lem =
      subst (λ (r : Sequence). pick (is_fine r) (eqb (head_word r) (head_word q)) false ≡ true) (sym sequence_back)
      (true_both (is_fine q) (eqb (head_word q) (head_word q)) ((fine_test q).1 fine) (eq-eqb (head_word q) (head_word q) refl))

  pub head_high : sequences_from ≤ head_word q
  head_high = omega arith

  pub words_of_all : words_of (sequence_element q) ≡ head_word q ∷ q.values
  words_of_all =
      let n : min (length q.values) 8 ≡ length q.values = omega (arith, fine.eight) in
      ap (λ (l : List ℕ). head_word q ∷ l) (rw n (values_back q.values fine.eight))

  pub words_head : (t : List ℕ)
      → word_head (words_of (sequence_element q) ++ t) ≡ element (sequence_element q) (length (words_of (sequence_element q)))
  words_head t =
      let n : take (head_word q % 0x100) (q.values ++ t) ≡ q.values = rw count_back (take-append_seam q.values t) in
      let k : head_word q % 0x100 + 1 ≡ length (words_of (sequence_element q)) = omega (arith, count_back, ap length words_of_all) in
      ap (λ (l : List ℕ). word_head (l ++ t)) words_of_all
      ∙ sequence_head_lem (head_word q) (q.values ++ t) q.values head_high n is_sequence_lem
      ∙ ap₂ element (ap sequence_element sequence_back) k

pub one_head : (w : ℕ) (t : List ℕ) → w < sequences_from → word_head (w ∷ t) ≡ element (One w) 1
unfolding word_head
one_head w t h = rw (lt-ltb w sequences_from h)

-- ---- what stands at the head of a list of words

data WordView : List ℕ → Head Element → Type 0 where
  a_word : {w : ℕ} (t : List ℕ) → w < sequences_from → WordView (w ∷ t) (element (One w) 1)
  a_sequence : {q : Sequence} (t : List ℕ) → Fine q
      → WordView (head_word q ∷ (q.values ++ t)) (element (sequence_element q) (length q.values + 1))
  no_element : {w : ℕ} (t : List ℕ) → WordView (w ∷ t) (refused 10 0)
  no_word : WordView [] none

word_sequence : (w : ℕ) (ws : List ℕ) → is_sequence w (take (w % 0x100) ws) ≡ true
    → WordView (w ∷ ws) (element (sequence_element (sequence_of w (take (w % 0x100) ws))) (w % 0x100 + 1))
word_sequence w ws e =
    let vs = take (w % 0x100) ws in
    let q = sequence_of w vs in
    let b = both_true (is_fine q) (eqb (head_word q) w) e in
    let fine : Fine q = (fine_test q).0 b.0 in
    let hw : head_word q ≡ w = eqb-true (head_word q) w b.1 in
    let n : w % 0x100 ≡ length vs = sym (ap (λ (k : ℕ). k % 0x100) hw) ∙ count_back q fine in
    let v = a_sequence {q = q} (drop (w % 0x100) ws) fine in
    subst₂ (λ (l : List ℕ) (k : ℕ). WordView l (element (sequence_element q) k))
    (ap₂ ◌∷◌ hw (take-append-drop (w % 0x100) ws)) (ap (λ (k : ℕ). k + 1) (sym n)) v

word_view : (ws : List ℕ) → WordView ws (word_head ws)
unfolding word_head
word_view [] = no_word
word_view (w ∷ ws) =
    pick_case (WordView (w ∷ ws)) (ltb w sequences_from) _ _ (λ t. a_word ws (ltb-true w sequences_from t))
    (λ n. pick_case (WordView (w ∷ ws)) (is_sequence w (take (w % 0x100) ws)) _ _ (word_sequence w ws) (λ n. no_element ws))

-- ---- words keep the record of promises of `run`

words_some : (e : Element) → 0 < length (words_of e)
words_some (One w) = lit< tt
words_some (SequenceOf h n vs) = omega arith

-- no element has more words than the longest spelling has octets
pub words_short : (e : Element) → length (words_of e) ≤ 34
words_short (One w) = lit≤ tt
words_short (SequenceOf h n vs) = omega (arith, length-take (min n 8) vs)

pub proper_head : {e : Element} → Proper e → (t : List ℕ) → word_head (words_of e ++ t) ≡ element e (length (words_of e))
proper_head (Proper.one {w} h) t = one_head w t h
proper_head (Proper.sequence {q} fine) t = words_head q fine t

finds : (p t : List ℕ) (e : Element) → Means p e → word_head (p ++ t) ≡ element e (length p)
finds _ t e (means h) = proper_head h t

some : (p : List ℕ) (e : Element) → Means p e → 0 < length p
some _ e (means h) = words_some e

found : {ws : List ℕ} {h : Head Element} → WordView ws h → (e : Element) (k : ℕ) → h ≡ element e k → Begins Means ws e k
found (a_word {w} t l) e k q =
    let z : One w ≡ e = cc in
    subst (λ (x : Element). Begins Means (w ∷ t) x k) z
    (record { front = w ∷ []; rest = t; whole = refl; spells = means (Proper.one l); size = cc })
found (a_sequence {q = r} t fine) e k q =
    let z : sequence_element r ≡ e = cc in
    let n : length r.values + 1 ≡ k = cc in
    subst (λ (x : Element). Begins Means (head_word r ∷ (r.values ++ t)) x k) z
    (record {
      front = words_of (sequence_element r);
      rest = t;
      whole = ap (λ (l : List ℕ). l ++ t) (sym (words_of_all r fine));
      spells = means (Proper.sequence fine);
      size = omega (arith, ap length (words_of_all r fine));
    })
found (no_element t) e k q = let w : ◌≡◌ {A = ℕ} 0 1 = cc in absurd (omega arith)
found no_word e k q = let w : ◌≡◌ {A = ℕ} 0 1 = cc in absurd (omega arith)

goes : {ws : List ℕ} {h : Head Element} → WordView ws h → h ≡ none → ws ≡ []
goes (a_word t l) q = let w : ◌≡◌ {A = ℕ} 0 1 = cc in absurd (omega arith)
goes (a_sequence t fine) q = let w : ◌≡◌ {A = ℕ} 0 1 = cc in absurd (omega arith)
goes (no_element t) q = let w : ◌≡◌ {A = ℕ} 0 1 = cc in absurd (omega arith)
goes no_word q = refl

refused_10 : {ws : List ℕ} {h : Head Element} → WordView ws h → (r d : ℕ) → h ≡ refused r d → (10 ≡ r) × (0 ≡ d)
refused_10 (a_word t l) r d q = let w : ◌≡◌ {A = ℕ} 0 1 = cc in absurd (omega arith)
refused_10 (a_sequence t fine) r d q = let w : ◌≡◌ {A = ℕ} 0 1 = cc in absurd (omega arith)
refused_10 (no_element t) r d q = (cc, cc)
refused_10 no_word r d q = let w : ◌≡◌ {A = ℕ} 0 1 = cc in absurd (omega arith)

-- Words that are no element are refused with 10, at their first.
pub words_refused : (ws : List ℕ) (r d : ℕ) → word_head ws ≡ refused r d → (10 ≡ r) × (0 ≡ d)
words_refused ws r d q = refused_10 (word_view ws) r d q

pub words_read : Reads word_head Means
unfolding word_head
words_read =
    record {
      finds = finds;
      found = λ ws e k q. found (word_view ws) e k q;
      some = some;
      ends = refl;
      goes = λ ws q. goes (word_view ws) q;
      numbered = λ ws r d q. omega (arith, words_refused ws r d q);
      inside = λ ws r d q. omega (arith, words_refused ws r d q);
    }
