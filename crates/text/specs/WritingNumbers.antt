-- To be believed: document 01's table of numbers and its order of refusals, for words written and for a text converted. What is held is
-- in the words of the grammar (`Held`, `Writes`, `NoneHeld`, `Respells`); nothing here speaks of a writer.
-- Assumes nothing.
use Rattle.std.specs.Prelude.{ℕ, ◌≡◌, List}
use Rattle.run.specs.Grammar.{RunOf, Begins, Stopped}
use Rattle.run.specs.declared.Answer.{Answer}
use Rattle.run.specs.Answers.{same}
use Rattle.sorts.specs.declared.Form.{Form}
use Rattle.element_words.specs.declared.Element.{Element}
use Rattle.element_reading.specs.Grammar.{Spells}
use Rattle.element_spelling.specs.ElementOctets.{Held, Writes, NoneHeld}
use Rattle.text_reading.specs.ReadingNumbers.{ReadingFault, Answered, Formed}
use Rattle.text.specs.Outcomes.{Respells}

-- 10, writing: behind elements that the form holds, what is left begins with no words of such an element
abbrev pub WritingFault : Form → List ℕ → ℕ → ℕ → ℕ → ℕ → Type 0
WritingFault f words r n p d = Stopped (Writes f) (λ rest b. (r ≡ 10) × (b ≡ 0) × NoneHeld f rest) words n p d

-- what is left begins with an element that the target does not hold
pub record FirstNotHeld (f g : Form) (rest : List ℕ) : Type 0 where
  pub first : Element
  pub size : ℕ
  pub begins : Begins (Spells f) rest first size
  pub not_held : Held g first → ⊥

-- converting: reading's refusal first; only where the whole text is read, 10, behind elements that the target holds
pub data ConvertingFault (f g : Form) (text : List ℕ) : ℕ → ℕ → ℕ → ℕ → Type 0 where
  reading : {r n p d : ℕ} → ReadingFault f text r n p d → ConvertingFault f g text r n p d
  not_held : {es : List Element} {n p d : ℕ} → RunOf (Spells f) text es
      → Stopped (Respells f g) (λ rest b. (b ≡ 0) × FirstNotHeld f g rest) text n p d → ConvertingFault f g text 10 n p d

-- "Order: 11 (source, then target), 12, reading .., 10, 9."
abbrev pub WriteTable : ℕ → List ℕ → List ℕ → Answer → List ℕ → Type 0
WriteTable form words text = Formed form text (λ f. Answered same (RunOf (Writes f) words) (WritingFault f words) words text)

abbrev pub ConvertTable : ℕ → ℕ → List ℕ → List ℕ → Answer → List ℕ → Type 0
ConvertTable source target text out =
    Formed source out (λ f. Formed target out (λ g. Answered same (RunOf (Respells f g) text) (ConvertingFault f g text) text out))
