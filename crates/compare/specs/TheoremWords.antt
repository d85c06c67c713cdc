-- To be believed: the words in which the theorems of proofs/Theorems, Refusals, Exchanging and Joining are stated, beside those of
-- WhatChanged. `read_answer` is proved to be document 01's table (`text` Demands: read_exactly).
-- Assumes nothing.
use Rattle.std.specs.Prelude.{ℕ, ◌+◌, ◌≤◌, ◌<◌, ◌≡◌, ◌↔◌, ◌⊎◌, List, ◌∷◌, ◌++◌, eqb, length, take, drop}
use Rattle.std.specs.Borrow.{Bor}
use Rattle.run.specs.Choice.{pick}
use Rattle.run.specs.Grammar.{RunOf}
use Rattle.run.specs.declared.Answer.{Answer}
use Rattle.run.specs.Answers.{answer, bare}
use Rattle.sorts.specs.declared.Form.{Form}
use Rattle.sorts.specs.Forms.{NoForm}
use Rattle.element_words.specs.declared.Element.{Element}
use Rattle.element_reading.specs.Grammar.{Spells}
use Rattle.text_reading.specs.ReadAnswers.{read_answer}
use Rattle.compare.specs.declared.Comparison.{Comparison}
use Rattle.compare.specs.Comparing.{part_of, further_on}

-- ---- what two meanings share: the elements that both begin with, as far as they go

pub record CommonStart (es fs common : List Element) : Type 0 where
  pub rest : List Element
  pub rest' : List Element
  pub whole : es ≡ common ++ rest
  pub whole' : fs ≡ common ++ rest'
  -- the next two, where there are two, differ
  pub parted : (e g : Element) (t u : List Element) → rest ≡ e ∷ t → rest' ≡ g ∷ u → e ≡ g → ⊥

-- what a comparison of two texts says where they do not mean the same: how many elements their meanings have in common, and the places in
-- both texts before which these stand, and behind which the rest does
pub record SaysWhere (f : Form) (first second : List ℕ) (es fs : List Element) (c : Comparison) : Type 0 where
  pub common : List Element
  pub start : CommonStart es fs common
  pub element_number : c.answer.element ≡ length common
  pub inside : c.first_place ≤ length first
  pub inside' : c.second_place ≤ length second
  pub before : RunOf (Spells f) (take c.first_place first) common
  pub before' : RunOf (Spells f) (take c.second_place second) common
  pub there : RunOf (Spells f) (drop c.first_place first) start.rest
  pub there' : RunOf (Spells f) (drop c.second_place second) start.rest'

-- ---- the part that is handed back: of which text, from which place on, and its octets, which go to that text's end

abbrev pub HandsBack : Comparison → List ℕ → List ℕ → ℕ → ℕ → List ℕ → Type 0
HandsBack c first second text place part =
    (c.tail_text ≡ text) × (c.tail_place ≡ place) × (part_of c first second ≡ part)

-- where such a part lies, of two lent texts: so many octets further on than the one that it is of
abbrev pub LiesIn : Bor (List ℕ) → Bor (List ℕ) → ℕ → ℕ → ℕ × ℕ → Type 0
LiesIn first second text place at = at ≡ further_on place (pick (eqb text 2) second.ref_ptr first.ref_ptr)

-- ---- a refusal, by what reading each text by itself with room enough answers: the four numbers, and which text it was

module _ (form : ℕ) (first second : List ℕ) where
  abbrev OfFirst : Answer
  OfFirst = read_answer form first (length first)

  abbrev OfSecond : Answer
  OfSecond = read_answer form second (length second)

  -- "11 and 12 as before, then the first text's reading refusal, then the second's, with which text it was"
  pub data AsRead : Answer → ℕ → Type 0 where
    no_form : NoForm form → AsRead (bare 11) 0
    first_over : OfFirst.number ≡ 12 → AsRead OfFirst 1
    second_over : OfFirst.number ≤ 8 → OfSecond.number ≡ 12 → AsRead OfSecond 2
    first_fault : 0 < OfFirst.number → OfFirst.number ≤ 8 → OfSecond.number ≤ 8 → AsRead OfFirst 1
    second_fault : OfFirst.number ≡ 0 → 0 < OfSecond.number → OfSecond.number ≤ 8 → AsRead OfSecond 2

-- ---- the texts exchanged

-- one text ends where the meanings first differ, and the other goes on
abbrev pub OneEnds : List ℕ → List ℕ → Comparison → Type 0
OneEnds first second c = (c.same ≡ 0) × ((c.first_place ≡ length first) ⊎ (c.second_place ≡ length second))

-- c is the comparison of the first with the second, d of the second with the first
pub record Exchanged (first second : List ℕ) (c d : Comparison) : Type 0 where
  pub answers : d.answer ≡ c.answer
  pub same : d.same ≡ c.same
  pub otherwise : d.otherwise ≡ c.otherwise
  pub first_place : d.first_place ≡ c.second_place
  pub second_place : d.second_place ≡ c.first_place
  -- the part is of the other one of the two lent texts exactly where one ends first, and is then the same octets of the same text;
  -- else it is of the one that is lent first
  pub tail_moves : (((c.tail_text ≡ 1) × (d.tail_text ≡ 2)) ⊎ ((c.tail_text ≡ 2) × (d.tail_text ≡ 1))) ↔ OneEnds first second c
  pub same_tail : OneEnds first second c → (d.tail_place ≡ c.tail_place) × (part_of d second first ≡ part_of c first second)
  pub tail_stays : (OneEnds first second c → ⊥) → (c.tail_text ≡ 1) × (d.tail_text ≡ 1)

-- ---- both behind one text, of n elements and p octets: element and places moved up

abbrev pub told_up : ℕ → ℕ → Comparison → Comparison
told_up n p c =
    record {
      answer = answer c.answer.number (n + c.answer.element) c.answer.place c.answer.count;
      text = c.text;
      same = c.same;
      first_place = p + c.first_place;
      second_place = p + c.second_place;
      otherwise = c.otherwise;
      tail_text = c.tail_text;
      tail_place = p + c.tail_place;
    }

-- of a refusal, the places of the refused text, and the end of the first
abbrev pub refused_up : ℕ → ℕ → Comparison → Comparison
refused_up n p c =
    record {
      answer = answer c.answer.number (n + c.answer.element) (p + c.answer.place) (p + c.answer.count);
      text = c.text;
      same = c.same;
      first_place = c.first_place;
      second_place = c.second_place;
      otherwise = c.otherwise;
      tail_text = c.tail_text;
      tail_place = p + c.tail_place;
    }

abbrev pub moved_up : ℕ → ℕ → Comparison → Comparison
moved_up n p c = pick (eqb c.answer.number 0) (told_up n p c) (refused_up n p c)
