-- Parts of the code: the character that a text begins with, as lent tables read it, which is proved to be what stands at the text's head,
-- canonically (proofs/Characters); what the first pass knows at a place; the answer of a conversion that it refused; what a text comes to,
-- and the answer of that.
-- Assumes nothing.
use Rattle.std.specs.Prelude.{ℕ, ◌≡◌, List, [], ◌∷◌, eqb, ltb, length, Option, Some, None}
use Rattle.run.specs.Choice.{pick}
use Rattle.run.specs.declared.Answer.{Answer}
use Rattle.run.specs.declared.ReadAnswer.{ReadAnswer}
use Rattle.run.specs.Head.{Outcome, outcome}
use Rattle.run.specs.Answers.{carrying, answer_of, written_of, roomy_answer, after_reading, same}
use Rattle.run.specs.Loops.{Counted}
use Rattle.run.specs.Speller.{spelt_by}
use Rattle.sorts.specs.declared.Form.{Form}
use Rattle.lent_tables.specs.CodeTables.{no_character, code_in, paired_in}
use Rattle.element_words.specs.Words.{words_of}
use Rattle.element_reading.specs.ElementHead.{head_in}
use Rattle.element_spelling.specs.ElementOctets.{spell_element}
use Rattle.text_loops.specs.Fronts.{read_in, respelled_before}
use Rattle.text_loops.specs.LawWords.{Tallied}
use Rattle.text_respelling.specs.declared.Character.{Character}

-- a character's code point, and how many octets it has
abbrev pub character : ℕ → ℕ → Character
character c k = record { code = c; size = k }

-- from here on no form has an octet for the character of a pair: "One octet where the form has one, else the pair"
abbrev pub pairs_from : ℕ
pairs_from = 0x80

-- the character of a pair: none where it is one of ASCII, as the pair is not canonical then in the forms that have an octet for it
abbrev pub pair_of : ℕ → Option Character
pair_of c = pick (ltb c pairs_from) None (Some (character c 2))

-- of a mark, by its code: none where no listed follower stands behind it
abbrev pub marked_in : List (List ℕ) → ℕ → List ℕ → Option Character
marked_in squares code [] = None
marked_in squares code (l ∷ s) = pair_of (paired_in squares code l)

-- a spacing character by itself, else a mark's with its follower
abbrev pub character_in : List ℕ → List (List ℕ) → List ℕ → Option Character
character_in codes squares [] = None
character_in codes squares (o ∷ s) =
    pick (ltb (code_in codes o) no_character) (Some (character (code_in codes o) 1)) (marked_in squares (code_in codes o) s)

-- measuring: up to the place `at` of a text of the form f stand n elements, which the form g spells with so many octets, and k of which are
-- not canonical in the form f
pub record CountedRespelt (f g : Form) (text : List ℕ) (at n count k : ℕ) : Type 0 where
  pub counted : Counted (spelt_by (spell_element g) (head_in f)) same 34 text at n count
  pub tallied : Tallied f text at n k

-- the reading's refusal, where there is one, before another
abbrev pub reading_first : Form → List ℕ → Answer → Answer
reading_first f text a =
    let read = roomy_answer words_of (length text) (read_in f text) in
    pick (eqb read.number 0) a read

-- "reading .., 10": the whole text is read first, and then each element is respelt; `convert_in` of `text`
abbrev pub respelt_after_reading : Form → Form → List ℕ → Outcome (List ℕ)
respelt_after_reading f g text = after_reading (read_in f text) (outcome (spelt_by (spell_element g) (head_in f)) text)

-- a conversion's answer within the limit, with its fifth number, and what the lent buffer holds after
abbrev pub RespeltAnswer : Form → Form → List ℕ → List ℕ → ReadAnswer → List ℕ → Type 0
RespeltAnswer f g text out r after =
    (r ≡ carrying (answer_of same (length text) (length out) (respelt_after_reading f g text)) (respelled_before f text))
    × (after ≡ written_of same out (respelt_after_reading f g text))
