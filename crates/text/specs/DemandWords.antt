-- To be believed: the words in which the demands are stated (proofs/Demands), beside those of the grammar and of the tables of numbers.
-- `Converted` and `ConvertsTo` speak of answers (`convert_answer`, `convert_text`, `read_answer`, `read_words`), which are proved to be the
-- tables (proofs/Demands: convert_exactly, read_exactly).
-- Assumes nothing.
use Rattle.std.specs.Prelude.{ℕ, ◌≤◌, ◌≡◌, List, [], ◌∷◌, length}
use Rattle.run.specs.Grammar.{RunOf}
use Rattle.run.specs.declared.Answer.{Answer}
use Rattle.run.specs.declared.ReadAnswer.{ReadAnswer}
use Rattle.run.specs.Answers.{answer, given, over}
use Rattle.sorts.specs.declared.Form.{Form}
use Rattle.element_words.specs.declared.Element.{Element}
use Rattle.element_words.specs.Words.{words_of}
use Rattle.element_reading.specs.Grammar.{Spells}
use Rattle.element_spelling.specs.ElementOctets.{CanonicalElement, Held}
use Rattle.text_reading.specs.ReadAnswers.{read_answer, read_words}
use Rattle.text_reading.specs.ReadingNumbers.{limit}
use Rattle.text.specs.WriteAnswers.{convert_answer, convert_text}
use Rattle.text.specs.Promises.{ConvertPromise}

-- a list of elements that the form holds
pub data AllHeld (f : Form) : List Element → Type 0 where
  none : AllHeld f []
  and : {e : Element} {es : List Element} → Held f e → AllHeld f es → AllHeld f (e ∷ es)

-- a text of the form f was converted to the form g: what it means, which g holds, and the octets that were written, g's canonical spelling
-- of it; and that spelling, if within the limit, reads back in g as that meaning
pub record Converted (source target : ℕ) (f g : Form) (text out : List ℕ) : Type 0 where
  pub octets : List ℕ
  pub meaning : List Element
  pub within : length text ≤ limit
  pub means : RunOf (Spells f) text meaning
  pub held : AllHeld g meaning
  pub canonical : RunOf (CanonicalElement g) octets meaning
  pub room : length octets ≤ length out
  pub answers : convert_answer source target text (length out) ≡ answer 0 (length meaning) (length text) (length octets)
  pub writes : convert_text source target text out ≡ over out octets
  pub back : (words : List ℕ) → length octets ≤ limit → length (given words_of meaning) ≤ length words
      → (read_answer target octets (length words) ≡ answer 0 (length meaning) (length octets) (length (given words_of meaning)))
      × (read_words target octets words ≡ over words (given words_of meaning))

-- wherever these octets have room, converting the text writes them, and answers 0, so many elements, the text's length and their number
abbrev pub ConvertsTo : ℕ → ℕ → List ℕ → ℕ → List ℕ → Type 0
ConvertsTo source target text elements octets =
    (out : List ℕ) (r : ReadAnswer) (after : List ℕ) → length octets ≤ length out → ConvertPromise source target text out r after
    → (r.answer ≡ answer 0 elements (length text) (length octets)) × (after ≡ over out octets)

-- two conversions into the same lent octets come to the same: the same octets, or the same number at the same element. (The place of that
-- element may differ, as each text spells the elements before it in its own form; so may the fifth number, which is the source's.)
pub record SameConversion (a b : Answer) (after after' : List ℕ) : Type 0 where
  pub number : a.number ≡ b.number
  pub element : a.element ≡ b.element
  pub count : a.count ≡ b.count
  pub octets : after ≡ after'
