-- Document 02, No. 6: a text and the same text with octets of its sequences in the upper half come to the same: the same elements, or the
-- same refusal at the same places.
-- Assumes nothing.
use Prim.Native.Nat.{ℕ, suc}
use mathlib.Core.Path.{◌≡◌, refl, sym, ap, ap₂, subst, ◌∙◌}
use mathlib.Core.Bool.{true}
use mathlib.Core.List.{List, [], ◌∷◌, ◌++◌}
use lib.ListN.{length, length-append}
use Rattle.run.specs.Head.{Head, Outcome, join, outcome, refusal}
use Rattle.run.proofs.Outcomes.{outcome_more, outcome_stop}
use Rattle.sorts.specs.declared.Form.{Form}
use Rattle.sorts.specs.declared.Sort.TheVariants.{SequenceStart}
use Rattle.sorts.specs.Forms.{CSI}
use Rattle.sorts.specs.Sorts.{sort_in}
use Rattle.sorts.proofs.SortFacts.{sequence_is}
use Rattle.sequence_reading.specs.Grammar.{Sequence, SpellsSequence, RefusesSequence}
use Rattle.sequence_reading.specs.Twins.{Twins}
use Rattle.sequence_reading.proofs.Twins.{twins_length, twins_spell, twins_refuse}
use Rattle.sequence_spelling.proofs.CanonicalBehind.{twins_low}
use Rattle.element_words.specs.declared.Element.{Element}
use Rattle.element_words.specs.Words.{sequence_element}
use Rattle.element_spelling.specs.ElementOctets.{CanonicalElement}
use Rattle.element_spelling.proofs.Writer.{is_canonical_lem}
use Rattle.canonical_tests.proofs.TestsRight.{sequence_test}
use Rattle.element_reading.specs.Grammar.{Spells, Refuses}
use Rattle.element_reading.specs.ElementHead.{head_in}
use Rattle.element_reading.specs.Raised.{Raised}
use Rattle.element_reading.proofs.Reader.{reads, refuses_exactly_by}

module _ (f : Form) where
  -- one sequence
  module _ {o : ℕ} {p r : List ℕ} (k : sort_in f o ≡ SequenceStart) (h : Twins p r) where
    is_9_b : o ≡ CSI
    is_9_b = sequence_is f o k

    -- A sequence with any of its octets behind 9B put into the upper half spells the same element,
    pub raised_spells : (q : Sequence) → SpellsSequence (o ∷ p) q → SpellsSequence (o ∷ r) q
    raised_spells q s =
        subst (λ (b : ℕ). SpellsSequence (b ∷ r) q) (sym is_9_b)
        ((twins_spell h q).0 (subst (λ (b : ℕ). SpellsSequence (b ∷ p) q) is_9_b s))

    -- or is refused with the same number at the same octet.
    pub raised_refuses : (n d : ℕ) → RefusesSequence (o ∷ p) n d → RefusesSequence (o ∷ r) n d
    raised_refuses n d s =
        subst (λ (b : ℕ). RefusesSequence (b ∷ r) n d) (sym is_9_b)
        ((twins_refuse h n d).0 (subst (λ (b : ℕ). RefusesSequence (b ∷ p) n d) is_9_b s))

    -- One that has such an octet is not the element's canonical spelling, so No. 5's number counts it.
    pub raised_counted : (q : Sequence) → SpellsSequence (o ∷ p) q → (p ≡ r → ⊥) → CanonicalElement f (o ∷ r) (sequence_element q) → ⊥
    raised_counted q s n c = n (twins_low h true (sequence_test f o r q k (raised_spells q s) ∙ is_canonical_lem f c))

  -- By any head whose outcome goes by the elements that the form reads and by its refusals, two texts that differ only so come to the same.
  module _ {A : Type 0} (head : List ℕ → Head A) (onward : Element → ℕ → Outcome A → Outcome A)
      (more : (p t : List ℕ) (e : Element) → Spells f p e → outcome head (p ++ t) ≡ onward e (length p) (outcome head t))
      (stop : (s : List ℕ) (n d : ℕ) → Refuses f s n d → outcome head s ≡ refusal n 0 0 d) where
    pub raised_same : {s t : List ℕ} → Raised f s t → outcome head s ≡ outcome head t
    raised_same Raised.rest = refl
    raised_same (Raised.as_it_was {p} {s} {t} {e} sp h) =
        more p s e sp ∙ ap (onward e (length p)) (raised_same h) ∙ sym (more p t e sp)
    raised_same (Raised.in_sequence {o} {p} {r} {s} {t} {q} k sp w h) =
        let e = sequence_element q in
        more (o ∷ p) s e (Spells.sequence k sp)
        ∙ ap₂ (λ (n : ℕ) (x : Outcome A). onward e (suc n) x) (twins_length w) (raised_same h)
        ∙ sym (more (o ∷ r) t e (Spells.sequence k (raised_spells k w q sp)))
    raised_same (Raised.in_refused {o} {n} {d} {p} {r} k rf w) =
        stop (o ∷ p) n d (Refuses.in_sequence k rf)
        ∙ sym (stop (o ∷ r) n d (Refuses.in_sequence k (raised_refuses k w n d rf)))

  -- So they are read alike, element for element, up to the end or the same fault at the same places;
  pub raised_outcome : {s t : List ℕ} → Raised f s t → outcome (head_in f) s ≡ outcome (head_in f) t
  raised_outcome =
      raised_same (head_in f) (λ e k x. join (e ∷ []) k x) (λ p t e sp. outcome_more (reads f) p t e sp)
      (λ s n d h. outcome_stop (reads f) s n d ((refuses_exactly_by f s n d).1 h))

  -- and they are of one length.
  pub raised_length : {s t : List ℕ} → Raised f s t → length s ≡ length t
  raised_length Raised.rest = refl
  raised_length (Raised.as_it_was {p} {s} {t} sp h) = rw (length-append p s, length-append p t, raised_length h)
  raised_length (Raised.in_sequence {o} {p} {r} {s} {t} k sp w h) =
      rw (length-append (o ∷ p) s, length-append (o ∷ r) t, raised_length h, twins_length w)
  raised_length (Raised.in_refused k rf w) = ap suc (twins_length w)
