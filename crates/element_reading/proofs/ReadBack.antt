-- Canonical spelling and reading: a canonical spelling reads back as its element, and what a form reads it holds. Over the form.
-- Assumes nothing.
use Prim.Native.Nat.{ℕ}
use mathlib.Core.Path.{◌≡◌, refl, sym, ap, ◌∙◌, subst}
use mathlib.Core.Bool.{true, false}
use mathlib.Core.List.{List, [], ◌∷◌, ◌++◌}
use native.Mathlib.Omega.{arith}
use lib.ListN.{length}
use Rattle.run.specs.Head.{element}
use Rattle.run.specs.Tally.{Decides}
use Rattle.sorts.specs.declared.Form.{Form}
use Rattle.sorts.specs.declared.Sort.TheVariants.{Underline, Shift}
use Rattle.spelling.specs.declared.Spelling.{Spelling}
use Rattle.sorts.specs.Forms.{SS2, CC}
use Rattle.sorts.specs.Sorts.{sort_in}
use Rattle.spelling.specs.CanonicalSpelling.{octets_of, Codes}
use Rattle.spelling.proofs.CanonicalExactly.{reads_back, has_canonical}
use Rattle.sorts.proofs.SortFacts.{shift_is, underline_is, sequence_is}
use Rattle.sequence_reading.specs.Grammar.{SpellsSequence}
use Rattle.sequence_spelling.specs.SequenceOctets.{CanonicalSequence, spell_sequence}
use Rattle.sequence_reading.proofs.Reader.{sequence_reads}
use Rattle.sequence_spelling.proofs.Back.{read_fine}
use Rattle.sequence_spelling.proofs.Exactly.{canonical_exactly, spells_canonical}
use Rattle.element_words.specs.declared.Element.{Element}
use Rattle.element_words.specs.declared.Element.TheVariants.{One}
use Rattle.element_words.specs.Words.{graphic_word, Proper}
use Rattle.element_reading.specs.Grammar.{Awaits, Spells}
use Rattle.element_reading.specs.ElementHead.{head_in}
use Rattle.element_reading.proofs.Reader.{reads}
use Rattle.element_spelling.specs.ElementOctets.{CanonicalElement, Held, is_canonical}
use Rattle.element_spelling.proofs.Writer.{canonical_proper, canonical_test, is_canonical_lem}

module _ (f : Form) where
  -- ---- it reads back

  codes_spell : {c : ℕ} {x : Spelling} → Codes f c x → Spells f (octets_of x) (One (graphic_word false c))
  codes_spell (Codes.one e) = Spells.graphic e
  codes_spell (Codes.shifted s e) = Spells.shifted s e
  codes_spell (Codes.pair {l = l} e q) = Spells.pair l (Awaits.mark e) q
  codes_spell (Codes.shifted_pair {l = l} s e q) = Spells.pair l (Awaits.shifted_mark s e) q

  codes_underlined : {c : ℕ} {x : Spelling} → sort_in f CC ≡ Underline → Codes f c x → Spells f (CC ∷ octets_of x) (One (graphic_word true c))
  codes_underlined u (Codes.one e) = Spells.underlined u e
  codes_underlined u (Codes.shifted s e) = absurd ((underline_is f CC u).1 s)
  codes_underlined u (Codes.pair {l = l} e q) = Spells.pair l (Awaits.underlined_mark u e) q
  codes_underlined u (Codes.shifted_pair s e q) = absurd ((underline_is f CC u).1 s)

  -- The canonical spelling spells its element, so it is read back as that element, whatever follows.
  pub canonical_spells : {s : List ℕ} {e : Element} → CanonicalElement f s e → Spells f s e
  canonical_spells (CanonicalElement.graphic {c} k) = codes_spell (reads_back f c k)
  canonical_spells (CanonicalElement.underlined {c} u k) = codes_underlined u (reads_back f c k)
  canonical_spells (CanonicalElement.control s) = Spells.control s
  canonical_spells (CanonicalElement.sequence {q = q} st (CanonicalSequence.canonical h p i)) =
      let e = (canonical_exactly _ q).0 (CanonicalSequence.canonical h p i) in
      Spells.sequence st (subst (λ (x : List ℕ). SpellsSequence x q) (sym e.1) (spells_canonical e.0))

  -- ---- what a form reads it holds

  hold : {c : ℕ} {x : Spelling} → Codes f c x → Held f (One (graphic_word false c))
  hold {c} {x} k = Held.held (CanonicalElement.graphic ((has_canonical f c).1 (x, k)).1)

  hold_underlined : {c : ℕ} {x : Spelling} (u : ℕ) → sort_in f u ≡ Underline → Codes f c x → Held f (One (graphic_word true c))
  hold_underlined {c} {x} u s k =
      Held.held (CanonicalElement.underlined (sym (ap (sort_in f) (underline_is f u s).0) ∙ s) ((has_canonical f c).1 (x, k)).1)

  shift_sorts : (s : ℕ) → sort_in f s ≡ Shift → sort_in f SS2 ≡ Shift
  shift_sorts s e = sym (ap (sort_in f) (shift_is f s e).0) ∙ e

  pub read_held : {p : List ℕ} {e : Element} → Spells f p e → Held f e
  read_held (Spells.graphic e) = hold (Codes.one e)
  read_held (Spells.shifted {s} k e) = hold (Codes.shifted (shift_sorts s k) e)
  read_held (Spells.underlined {u} k e) = hold_underlined u k (Codes.one e)
  read_held (Spells.pair l (Awaits.mark e) q) = hold (Codes.pair e q)
  read_held (Spells.pair l (Awaits.shifted_mark {s} k e) q) = hold (Codes.shifted_pair (shift_sorts s k) e q)
  read_held (Spells.pair l (Awaits.underlined_mark {u} k e) q) = hold_underlined u k (Codes.pair e q)
  read_held (Spells.control e) = Held.held (CanonicalElement.control e)
  read_held (Spells.sequence {o} {p} {q} k h) =
      let fine = read_fine ((o ∷ p) ++ []) q (length (o ∷ p)) (sequence_reads.finds (o ∷ p) [] q h) in
      Held.held (CanonicalElement.sequence (sym (ap (sort_in f) (sequence_is f o k)) ∙ k)
      ((canonical_exactly (spell_sequence q) q).1 (fine, refl)))

  -- so it is an element that some words are
  pub read_proper : {p : List ℕ} {e : Element} → Spells f p e → Proper e
  read_proper {e = e} h = proper (read_held h)
    where
      proper : Held f e → Proper e
      proper (Held.held k) = canonical_proper f k

  -- An element's canonical spelling reads back as that element, whatever follows it.
  pub canonical_reads : (s t : List ℕ) (e : Element) → CanonicalElement f s e → head_in f (s ++ t) ≡ element e (length s)
  canonical_reads s t e c = (reads f).finds s t e (canonical_spells c)

  -- ---- the test of a canonical spelling

  -- octets that spell an element and pass the test are its canonical spelling
  pub says_canonical : {p : List ℕ} {e : Element} → Spells f p e → is_canonical f p e ≡ true → CanonicalElement f p e
  says_canonical {p} {e} h q =
      let some : p ≡ [] → ⊥ = λ z. omega (arith, (reads f).some p e h, ap length z) in
      (canonical_test f p e (read_proper h) some).0 q

  -- The test decides which spellings are canonical.
  pub canonical_decides : Decides (is_canonical f) (Spells f) (CanonicalElement f)
  canonical_decides =
      record { says = λ p e h q. says_canonical h q; holds = λ p e k. is_canonical_lem f k; among = λ p e k. canonical_spells k }
