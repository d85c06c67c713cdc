-- To be believed: a text, and the same text with octets of its control sequences in the upper half (document 02, No. 6).
-- Assumes nothing.
use Rattle.std.specs.Prelude.{ℕ, ◌≡◌, List, ◌∷◌, ◌++◌}
use Rattle.sorts.specs.declared.Form.{Form}
use Rattle.sorts.specs.declared.Sort.TheVariants.{SequenceStart}
use Rattle.sorts.specs.Sorts.{sort_in}
use Rattle.sequence_reading.specs.Grammar.{Sequence, SpellsSequence, RefusesSequence}
use Rattle.sequence_reading.specs.Twins.{Twins}
use Rattle.element_words.specs.declared.Element.{Element}
use Rattle.element_reading.specs.Grammar.{Spells}

-- element for element: any octet 21 to 7E of a sequence, behind its 9B, may be put into the upper half, and nothing else but what follows a
-- refused one, which is not read
pub data Raised (f : Form) : List ℕ → List ℕ → Type 0 where
  -- from here on all stands as it stood
  rest : {s : List ℕ} → Raised f s s
  -- an element as it stood
  as_it_was : {p s t : List ℕ} {e : Element} → Spells f p e → Raised f s t → Raised f (p ++ s) (p ++ t)
  -- a sequence
  in_sequence : {o : ℕ} {p r s t : List ℕ} {q : Sequence} → sort_in f o ≡ SequenceStart → SpellsSequence (o ∷ p) q → Twins p r
      → Raised f s t → Raised f ((o ∷ p) ++ s) ((o ∷ r) ++ t)
  -- a sequence that is refused, and what follows it
  in_refused : {o n d : ℕ} {p r : List ℕ} → sort_in f o ≡ SequenceStart → RefusesSequence (o ∷ p) n d → Twins p r
      → Raised f (o ∷ p) (o ∷ r)
