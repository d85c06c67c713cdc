-- Canonical spelling of an element: the definition gives exactly the relation, the test says it of octets, and writing keeps the record of
-- promises of `run`. Over the form.
-- Assumes nothing.
use Prim.Native.Nat.{ℕ, ◌+◌, ◌-◌, ◌≤◌, ◌<◌, min}
use mathlib.Core.Path.{◌≡◌, refl, sym, ap, ap₂, ◌∙◌, subst, subst₂}
use mathlib.Core.Logic.{◌↔◌}
use mathlib.Core.Bool.{Bool, true, false}
use mathlib.Core.List.{List, [], ◌∷◌, ◌++◌}
use native.Mathlib.Omega.{arith}
use lib.ListN.{length}
use lib.Dec.{ltb}
use borrow.Author.Tests.{lt-ltb, le-ltb, ltb-false}
use Rattle.run.specs.Choice.{pick, same_octets}
use Rattle.run.specs.Head.{Head, element, refused, none}
use Rattle.run.specs.Grammar.{Reads}
use Rattle.run.specs.Speller.{SpeltBy, Why, by_head, not_spelt}
use Rattle.run.proofs.Choices.{pick_case, same_octets_are, are_same_octets}
use Rattle.run.proofs.Spellers.{reads_as, spelt_reads, why}
use Rattle.sorts.specs.declared.Form.{Form}
use Rattle.sorts.specs.declared.Sort.TheVariants.{Underline, Control}
use Rattle.std.specs.Prelude.{Option, Some, None}
use Rattle.spelling.specs.declared.Spelling.{Spelling}
use Rattle.spelling.specs.declared.Spelling.TheVariants.{One as Single, Shifted, Pair, ShiftedPair}
use Rattle.sorts.specs.Forms.{CC, CSI}
use Rattle.sorts.specs.Sorts.{sort_in}
use Rattle.spelling.specs.CanonicalSpelling.{octets_of, spelt_octets, Canonical}
use Rattle.spelling.specs.SpellingGiven.{spell_in}
use Rattle.spelling.proofs.CanonicalExactly.{exactly, reads_back}
use Rattle.spelling.proofs.SpellingFacts.{code_point_small}
use Rattle.sorts.proofs.SortFacts.{control_small}
use Rattle.sequence_reading.specs.Grammar.{Sequence}
use Rattle.sequence_spelling.specs.SequenceOctets.{Fine, CanonicalSequence, spell_sequence}
use Rattle.sequence_spelling.proofs.Exactly.{canonical_exactly}
use Rattle.element_words.specs.declared.Element.{Element}
use Rattle.element_words.specs.declared.Element.TheVariants.{One}
use Rattle.element_words.specs.Words.{underlined_from, controls_from, sequences_from}
use Rattle.element_words.specs.Words.{graphic_word, control_word, head_word, sequence_element, words_of, Proper, Means, means, sequence_of}
use Rattle.element_words.specs.Words.{word_head}
use Rattle.element_spelling.specs.ElementOctets.{CanonicalElement, Held, Writes, NoneHeld, is_underline, is_control, is_start, after_cc, spell_word}
use Rattle.element_spelling.specs.ElementOctets.{spell_sequence_words, spell_element, is_canonical, spell_head}
use Rattle.element_spelling.proofs.Steps.{underline_is, control_is, start_is, after_spelt}
use Rattle.sequence_reading.proofs.EightValues.{values_back}
use Rattle.element_words.proofs.Words.{sequence_back, is_sequence_lem, words_read, words_refused}

-- no octets are no spelling
abbrev pub HasOctets : List ℕ → Type 0
HasOctets s = s ≡ [] → ⊥

module _ (f : Form) where
  -- ---- the words of each kind of element, spelt

  pub spell_graphic : (c : ℕ) → c < underlined_from → spell_word f (graphic_word false c) ≡ spelt_octets (spell_in f c)
  spell_graphic c h = rw (lt-ltb c underlined_from h)

  pub spell_underlined : (c : ℕ) → c < underlined_from → sort_in f CC ≡ Underline
      → spell_word f (graphic_word true c) ≡ after_cc (spelt_octets (spell_in f c))
  spell_underlined c h s =
      let w : underlined_from + c - underlined_from ≡ c = omega arith in
      rw (le-ltb (underlined_from + c) underlined_from (omega arith), lt-ltb (underlined_from + c) controls_from (omega arith), s, w)

  pub spell_control : (o : ℕ) → o < controls_from → sort_in f o ≡ Control → spell_word f (control_word o) ≡ o ∷ []
  spell_control o h s =
      let w : controls_from + o - controls_from ≡ o = omega arith in
      rw (
        le-ltb (controls_from + o) underlined_from (omega arith),
        le-ltb (controls_from + o) controls_from (omega arith),
        lt-ltb (controls_from + o) sequences_from (omega arith),
        w,
        s,
      )

  pub spell_sequence_lem : (q : Sequence) → Fine q
      → spell_element f (sequence_element q) ≡ pick (is_start (sort_in f CSI)) (spell_sequence q) []
  unfolding spell_element
  spell_sequence_lem q fine =
      let n : min (length q.values) 8 ≡ length q.values = omega (arith, fine.eight) in
      ap (spell_sequence_words f (head_word q)) (rw n (values_back q.values fine.eight))
      ∙ ap (λ (b : Bool). pick (is_start (sort_in f CSI)) (pick b (spell_sequence (sequence_of (head_word q) q.values)) []) [])
      (is_sequence_lem q fine)
      ∙ ap (λ (r : Sequence). pick (is_start (sort_in f CSI)) (spell_sequence r) []) (sequence_back q fine)

  canonical_small : {c : ℕ} {x : Spelling} → Canonical f c x → c < underlined_from
  canonical_small {c} k = omega (arith, code_point_small f c (reads_back f c k))

  -- what is canonical is given
  pub canonical_given : {s : List ℕ} {e : Element} → CanonicalElement f s e → spell_element f e ≡ s
  unfolding spell_element
  canonical_given (CanonicalElement.graphic {c} {x} k) =
      spell_graphic c (canonical_small k) ∙ ap spelt_octets ((exactly f c x).0 k)
  canonical_given (CanonicalElement.underlined {c} {x} s k) =
      spell_underlined c (canonical_small k) s ∙ ap (λ (y : Option Spelling). after_cc (spelt_octets y)) ((exactly f c x).0 k) ∙ after_spelt x
  canonical_given (CanonicalElement.control {o} s) = spell_control o (omega (arith, control_small f o s)) s
  canonical_given (CanonicalElement.sequence {s} {q} st k) =
      let e = (canonical_exactly s q).0 k in
      spell_sequence_lem q e.0 ∙ rw st (sym e.1)

  -- ---- what is given is canonical

  given_graphic : (w : ℕ) → HasOctets (spelt_octets (spell_in f w)) → CanonicalElement f (spelt_octets (spell_in f w)) (One w)
  given_graphic w = go (spell_in f w) refl
    where
      go : (x : Option Spelling) → spell_in f w ≡ x → HasOctets (spelt_octets x) → CanonicalElement f (spelt_octets x) (One w)
      go (Some x) e n = CanonicalElement.graphic ((exactly f w x).1 e)
      go None e n = absurd (n refl)

  given_underlined : (w : ℕ) → underlined_from ≤ w
      → HasOctets (pick (is_underline (sort_in f CC)) (after_cc (spelt_octets (spell_in f (w - underlined_from)))) [])
      → CanonicalElement f (pick (is_underline (sort_in f CC)) (after_cc (spelt_octets (spell_in f (w - underlined_from)))) []) (One w)
  given_underlined w h = go (is_underline (sort_in f CC)) refl (spell_in f (w - underlined_from)) refl
    where
      c : underlined_from + (w - underlined_from) ≡ w
      c = omega arith

      go : (b : Bool) → is_underline (sort_in f CC) ≡ b → (x : Option Spelling) → spell_in f (w - underlined_from) ≡ x
          → HasOctets (pick b (after_cc (spelt_octets x)) []) → CanonicalElement f (pick b (after_cc (spelt_octets x)) []) (One w)
      go true e (Some x) q n =
          subst₂ (λ (s : List ℕ) (v : ℕ). CanonicalElement f s (One v)) (sym (after_spelt x)) c
          (CanonicalElement.underlined (underline_is (sort_in f CC) e) ((exactly f (w - underlined_from) x).1 q))
      go true e None q n = absurd (n refl)
      go false e x q n = absurd (n refl)

  given_control : (w : ℕ) → controls_from ≤ w → HasOctets (pick (is_control (sort_in f (w - controls_from))) ((w - controls_from) ∷ []) [])
      → CanonicalElement f (pick (is_control (sort_in f (w - controls_from))) ((w - controls_from) ∷ []) []) (One w)
  given_control w h = go (is_control (sort_in f (w - controls_from))) refl
    where
      c : controls_from + (w - controls_from) ≡ w
      c = omega arith

      go : (b : Bool) → is_control (sort_in f (w - controls_from)) ≡ b → HasOctets (pick b ((w - controls_from) ∷ []) [])
          → CanonicalElement f (pick b ((w - controls_from) ∷ []) []) (One w)
      go true e n =
          subst (λ (v : ℕ). CanonicalElement f ((w - controls_from) ∷ []) (One v)) c
          (CanonicalElement.control
          (control_is (sort_in f (w - controls_from)) e))
      go false e n = absurd (n refl)

  abbrev IfSome : Element → List ℕ → Type 0
  IfSome e s = HasOctets s → CanonicalElement f s e

  given_word : (w : ℕ) → IfSome (One w) (spell_word f w)
  given_word w =
      pick_case (IfSome (One w)) (ltb w underlined_from) _ _ (λ t. given_graphic w)
      (λ a. pick_case (IfSome (One w)) (ltb w controls_from) _ _ (λ t. given_underlined w (ltb-false w underlined_from a))
      (λ b. pick_case (IfSome (One w)) (ltb w sequences_from) _ _ (λ t. given_control w (ltb-false w controls_from b))
      (λ c n. absurd (n refl))))

  given_sequence : (q : Sequence) → Fine q → IfSome (sequence_element q) (spell_element f (sequence_element q))
  given_sequence q fine = subst (IfSome (sequence_element q)) (sym (spell_sequence_lem q fine)) (go (is_start (sort_in f CSI)) refl)
    where
      go : (b : Bool) → is_start (sort_in f CSI) ≡ b → IfSome (sequence_element q) (pick b (spell_sequence q) [])
      go true e n =
          CanonicalElement.sequence (start_is (sort_in f CSI) e)
          ((canonical_exactly (spell_sequence q) q).1 (fine, refl))
      go false e n = absurd (n refl)

  given_canonical : {e : Element} → Proper e → IfSome e (spell_element f e)
  unfolding spell_element
  given_canonical (Proper.one {w} l) n = given_word w n
  given_canonical (Proper.sequence {q} fine) n = given_sequence q fine n

  -- a spelling has an octet at least
  octets_some : (x : Spelling) → HasOctets (octets_of x)
  octets_some (Single o) e = let w : ◌≡◌ {A = ℕ} 0 1 = cc in omega arith
  octets_some (Shifted o) e = let w : ◌≡◌ {A = ℕ} 0 1 = cc in omega arith
  octets_some (Pair m l) e = let w : ◌≡◌ {A = ℕ} 0 1 = cc in omega arith
  octets_some (ShiftedPair m l) e = let w : ◌≡◌ {A = ℕ} 0 1 = cc in omega arith

  cons_some : {o : ℕ} {s : List ℕ} → HasOctets (o ∷ s)
  cons_some e = let w : ◌≡◌ {A = ℕ} 0 1 = cc in omega arith

  pub canonical_some : {s : List ℕ} {e : Element} → CanonicalElement f s e → s ≡ [] → ⊥
  canonical_some (CanonicalElement.graphic {c} {x} k) = octets_some x
  canonical_some (CanonicalElement.underlined s k) = cons_some
  canonical_some (CanonicalElement.control s) = cons_some
  canonical_some (CanonicalElement.sequence st (CanonicalSequence.canonical h p i)) = cons_some

  pub canonical_proper : {s : List ℕ} {e : Element} → CanonicalElement f s e → Proper e
  canonical_proper (CanonicalElement.graphic {c} k) = Proper.one {w = graphic_word false c} (omega (arith, canonical_small k))
  canonical_proper (CanonicalElement.underlined {c} s k) = Proper.one {w = graphic_word true c} (omega (arith, canonical_small k))
  canonical_proper (CanonicalElement.control {o} s) = Proper.one {w = control_word o} (omega (arith, control_small f o s))
  canonical_proper (CanonicalElement.sequence {s} {q} st k) = Proper.sequence ((canonical_exactly s q).0 k).0

  -- The definition gives exactly the canonical spelling.
  pub spells_exactly : (s : List ℕ) (e : Element) → CanonicalElement f s e ↔ (Proper e × (spell_element f e ≡ s) × (s ≡ [] → ⊥))
  spells_exactly s e = (
    λ k. (canonical_proper k, canonical_given k, canonical_some k),
    λ h. subst (λ (x : List ℕ). CanonicalElement f x e) h.1 (given_canonical h.0 (λ z. h.2 (sym h.1 ∙ z))),
  )

  -- There is one.
  pub one_spelling : {s t : List ℕ} {e : Element} → CanonicalElement f s e → CanonicalElement f t e → s ≡ t
  one_spelling k h = sym (canonical_given k) ∙ canonical_given h

  -- ---- the test of it

  -- a canonical spelling passes it
  pub is_canonical_lem : {s : List ℕ} {e : Element} → CanonicalElement f s e → is_canonical f s e ≡ true
  is_canonical_lem {s} {e} k = ap (same_octets s) (canonical_given k) ∙ are_same_octets s

  -- Of octets of an element that some words are, the test says exactly whether they are its canonical spelling.
  pub canonical_test : (p : List ℕ) (e : Element) → Proper e → (p ≡ [] → ⊥) → (is_canonical f p e ≡ true) ↔ CanonicalElement f p e
  canonical_test p e h n = (
    λ q. (spells_exactly p e).1 (h, sym (same_octets_are p (spell_element f e) q), n),
    is_canonical_lem,
  )

  -- ---- writing keeps the record of promises

  -- what is written is what the words mean, spelt
  pub written_spelt : (p s : List ℕ) → SpeltBy (spell_element f) Means p s ↔ Writes f p s
  written_spelt p s = (λ h. forth h.of h.spells h.gives h.some, back)
    where
      forth : {p : List ℕ} (e : Element) → Means p e → spell_element f e ≡ s → HasOctets s → Writes f p s
      forth e (means h) g n = let c = (spells_exactly s e).1 (h, g, n) in Writes.writes (Held.held c) c

      back : {p : List ℕ} → Writes f p s → SpeltBy (spell_element f) Means p s
      back (Writes.writes {e} h k) =
          record { of = e; spells = means (canonical_proper k); gives = canonical_given k; some = canonical_some k }

  -- Writing finds exactly what is written: the record of promises of `run`.
  pub writer_reads : Reads (spell_head f) (Writes f)
  writer_reads = reads_as (spelt_reads words_read (spell_element f)) written_spelt

  refused_10 : (ws : List ℕ) (r d : ℕ) → Why (spell_element f) word_head ws r d → (10 ≡ r) × (0 ≡ d)
  refused_10 ws r d (by_head q) = words_refused ws r d q
  refused_10 ws r d (not_spelt q g er ed) = (sym er, sym ed)

  -- Words are refused with 10, at their first.
  pub writer_refuses : (ws : List ℕ) (r d : ℕ) → spell_head f ws ≡ refused r d → (10 ≡ r) × (0 ≡ d)
  writer_refuses ws r d q = refused_10 ws r d (why (spell_element f) word_head ws r d q)

  words_held : {p s : List ℕ} → Writes f p s → (e : Element) × Held f e × (p ≡ words_of e)
  words_held (Writes.writes {e} h k) = (e, h, refl)

  some_words : (ws : List ℕ) (r d : ℕ) → spell_head f ws ≡ refused r d → 0 < length ws
  some_words [] r d q = let e = writer_reads.ends in let w : ◌≡◌ {A = ℕ} 0 1 = cc in absurd (omega arith)
  some_words (w ∷ ws) r d q = omega arith

  not_written : (ws : List ℕ) (r d : ℕ) → spell_head f ws ≡ refused r d → (e : Element) (t : List ℕ) → Held f e → ws ≡ words_of e ++ t → ⊥
  not_written ws r d q e t (Held.held {s} k) w =
      let found : spell_head f ws ≡ element s (length (words_of e)) =
      ap (spell_head f) w ∙ writer_reads.finds (words_of e) t s (Writes.writes (Held.held k) k) in
      let z : ◌≡◌ {A = ℕ} 0 1 = cc in
      omega arith

  -- Words are refused exactly where no words of an element that the form writes stand first: with 10, at the first word.
  pub writer_refuses_exactly : (ws : List ℕ) (r d : ℕ) → (spell_head f ws ≡ refused r d) ↔ ((r ≡ 10) × (d ≡ 0) × NoneHeld f ws)
  writer_refuses_exactly ws r d = (forth, back (spell_head f ws) refl)
    where
      forth : spell_head f ws ≡ refused r d → (r ≡ 10) × (d ≡ 0) × NoneHeld f ws
      forth q =
          let z = writer_refuses ws r d q in
          (sym z.0, sym z.1, record { some = some_words ws r d q; not_held = not_written ws r d q })

      back : (h : Head (List ℕ)) → spell_head f ws ≡ h → (r ≡ 10) × (d ≡ 0) × NoneHeld f ws → spell_head f ws ≡ refused r d
      back (element s k) q n =
          let b = writer_reads.found ws s k q in
          let w = words_held b.spells in
          absurd (n.2.not_held w.0 b.rest w.1 (b.whole ∙ ap (λ (l : List ℕ). l ++ b.rest) w.2))
      back (refused r' d') q n = let z = writer_refuses ws r' d' q in q ∙ ap₂ refused (sym z.0 ∙ sym n.0) (sym z.1 ∙ sym n.1)
      back none q n = absurd (omega (arith, n.2.some, ap length (writer_reads.goes ws q)))
