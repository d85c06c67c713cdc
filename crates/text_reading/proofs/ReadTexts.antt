-- A text, read: accepted and refused exactly as the grammar says; and what measuring it answers.
-- Assumes nothing.
use Prim.Native.Nat.{ℕ, ◌≤◌}
use mathlib.Core.Path.{◌≡◌, sym, ◌∙◌}
use mathlib.Core.Logic.{◌↔◌}
use mathlib.Core.List.{List, ◌++◌}
use lib.ListN.{length}
use Rattle.run.specs.Loops.{WholeAnswer}
use Rattle.run.specs.Head.{accepted, refusal, join}
use Rattle.run.specs.Grammar.{RunOf}
use Rattle.run.specs.Answers.{answer_of, roomy_answer}
use Rattle.run.proofs.Outcomes as outcomes
use Rattle.run.proofs.Rooms.{as_roomy}
use Rattle.sorts.specs.declared.Form.{Form}
use Rattle.std.specs.Prelude.{Some}
use Rattle.sorts.specs.Forms.{form_of}
use Rattle.element_words.specs.declared.Element.{Element}
use Rattle.element_words.specs.Words.{words_of}
use Rattle.element_reading.specs.Grammar.{Spells, Refuses}
use Rattle.element_reading.proofs.Reader.{reads, refuses_exactly_by}
use Rattle.text_loops.specs.Fronts.{read_in}
use Rattle.text_loops.proofs.FewWords.{words_fit}
use Rattle.text_reading.specs.ReadAnswers.{read_answer, read_words}
use Rattle.text_reading.specs.ReadingNumbers.{limit, ReadingFault}
use Rattle.text_reading.specs.LawWords.{Meets}
use Rattle.text_reading.proofs.Edges.{a_form, within}

module _ (f : Form) where
  -- A text is accepted exactly when it is a run of elements, with exactly these.
  pub accepted_exactly : (text : List ℕ) (es : List Element) → (read_in f text ≡ accepted es) ↔ RunOf (Spells f) text es
  accepted_exactly = outcomes.accepts (reads f)

  pub refused_exactly : (text : List ℕ) (r n p d : ℕ) → (read_in f text ≡ refusal r n p d) ↔ ReadingFault f text r n p d
  refused_exactly text = outcomes.refuses_by (reads f) (λ r rest b. Refuses f rest r b) (refuses_exactly_by f) text

  pub read_meets : (text : List ℕ) → Meets (RunOf (Spells f) text) (ReadingFault f text) (read_in f text)
  read_meets text = record { runs = accepted_exactly text; faults = refused_exactly text }

  -- After an accepted text the rest is read as by itself, moved up.
  pub joined : (s t : List ℕ) (es : List Element) → read_in f s ≡ accepted es → read_in f (s ++ t) ≡ join es (length s) (read_in f t)
  joined = outcomes.joined (reads f)

  -- a form's number, and a text within the limit
  pub read_answers : (form : ℕ) → form_of form ≡ Some f → (text : List ℕ) → length text ≤ limit → (words : List ℕ)
      → WholeAnswer words_of (length text) words (read_in f text) (read_answer form text (length words)) (read_words form text words)
  unfolding read_answer read_words
  read_answers form q text l words = (sym (a_form _ _ _ _ _ q (within text _ _ l)), sym (a_form _ _ _ _ _ q (within text _ _ l)))

-- Measuring, which is reading with room enough, answers what is counted.
pub enough : (f : Form) (text : List ℕ)
    → roomy_answer words_of (length text) (read_in f text) ≡ answer_of words_of (length text) (length text) (read_in f text)
enough f text =
    sym (as_roomy words_of (length text) (length text) (read_in f text) (λ es q. words_fit ((accepted_exactly f text es).0 q).1))

pub measure_is : (form : ℕ) (f : Form) → form_of form ≡ Some f → (text : List ℕ) → length text ≤ limit
    → read_answer form text (length text) ≡ roomy_answer words_of (length text) (read_in f text)
unfolding read_answer
measure_is form f q text h = sym (a_form _ _ _ _ _ q (enough f text ∙ within text _ _ h))
