-- The fifth number of a reading (document 02, No. 5), over the run that a text is and canonical spelling: what it counts, that it adds up,
-- and when it is 0.
-- Assumes nothing.
use Prim.Native.Nat.{ℕ, ◌+◌, ◌≤◌}
use mathlib.Core.Path.{◌≡◌, refl, sym, ap, ◌∙◌}
use native.Mathlib.Omega.{arith}
use mathlib.Core.Logic.{◌↔◌}
use mathlib.Core.List.{List, ◌++◌}
use lib.ListN.{length}
use Rattle.run.specs.Head.{accepted}
use Rattle.run.specs.Grammar.{Run, RunOf}
use Rattle.run.specs.Tally.{Apart}
use Rattle.run.specs.declared.Answer.{Answer}
use Rattle.run.specs.declared.ReadAnswer.{ReadAnswer}
use Rattle.run.specs.Answers.{answer, given, roomy_answer}
use Rattle.run.proofs.Outcomes.{run_by}
use Rattle.run.proofs.Answers.{accepted_carries, refused_carries}
use Rattle.run.proofs.Tallies.{tally_joined, tally_few, apart_exactly, tally_none}
use Rattle.sorts.specs.declared.Form.{Form}
use Rattle.std.specs.Prelude.{Some}
use Rattle.sorts.specs.Forms.{form_of}
use Rattle.element_words.specs.declared.Element.{Element}
use Rattle.element_words.specs.Words.{words_of}
use Rattle.element_spelling.specs.ElementOctets.{CanonicalElement, is_canonical}
use Rattle.element_reading.specs.Grammar.{Spells}
use Rattle.element_reading.proofs.Reader.{reads}
use Rattle.element_reading.proofs.ReadBack.{canonical_spells, canonical_decides}
use Rattle.text_loops.specs.Fronts.{read_in, respelled_before}
use Rattle.text_reading.specs.ReadAnswers.{respelled_in, read_reading}
use Rattle.text_reading.specs.ReadingNumbers.{limit, NotCanonical}
use Rattle.text_reading.specs.Promises.{MeasurePromise}
use Rattle.text_reading.proofs.Edges.{a_form}
use Rattle.text_reading.proofs.ReadTexts.{accepted_exactly, measure_is}

-- a form's number
pub respelled_is : (form : ℕ) (f : Form) → form_of form ≡ Some f → (text : List ℕ) → respelled_in form text ≡ respelled_before f text
unfolding respelled_in
respelled_is form f q text = sym (a_form _ _ _ _ _ q refl)

module _ (f : Form) where
  -- It counts the pieces of the one run that a text is which are not canonical.
  pub respelled_exactly : {text : List ℕ} {ps : List (List ℕ)} {es : List Element} → Run (Spells f) text ps es → (k : ℕ)
      → (respelled_before f text ≡ k) ↔ Apart (CanonicalElement f) ps es k
  respelled_exactly r k = apart_exactly (is_canonical f) (reads f) (canonical_decides f) r k

  -- It adds up over joined texts: behind an accepted one, that of any text.
  pub respelled_joined : (s t : List ℕ) (es : List Element) → RunOf (Spells f) s es
      → respelled_before f (s ++ t) ≡ respelled_before f s + respelled_before f t
  respelled_joined s t es r = tally_joined (is_canonical f) (reads f) s t es ((accepted_exactly f s es).1 r)

  -- It is at most the number of elements.
  pub respelled_few : (text : List ℕ) (es : List Element) → read_in f text ≡ accepted es → respelled_before f text ≤ length es
  respelled_few text es q = tally_few (is_canonical f) (reads f) text es q

  -- It is 0 exactly where the text is the canonical run of its elements; so of that run it is 0.
  pub respelled_none : {text : List ℕ} {es : List Element} → RunOf (Spells f) text es
      → (respelled_before f text ≡ 0) ↔ RunOf (CanonicalElement f) text es
  respelled_none r = tally_none (is_canonical f) (reads f) (canonical_decides f) r

  pub respelled_canonical : {text : List ℕ} {es : List Element} → RunOf (CanonicalElement f) text es → respelled_before f text ≡ 0
  respelled_canonical c = (respelled_none (c.0, run_by (λ p e k. canonical_spells f k) c.1)).1 c

-- a text that is read has it, and no other number is counted so
pub counts_exactly : (form : ℕ) (f : Form) → form_of form ≡ Some f → (text : List ℕ) {es : List Element} → RunOf (Spells f) text es → (k : ℕ)
    → (respelled_in form text ≡ k) ↔ NotCanonical form text k
counts_exactly form f q text {es} r k = (
  λ e.
      record {
        the_form = f;
        is_form = q;
        pieces = r.0;
        elements = es;
        run = r.1;
        counted = (respelled_exactly f r.1 k).0 (sym (respelled_is form f q text) ∙ e);
      },
  λ c. respelled_is form c.the_form c.is_form text ∙ (respelled_exactly c.the_form c.run k).1 c.counted,
)

-- ---- from the promises of `read` and `measure`

module _ (form : ℕ) (text : List ℕ) (room : ℕ) {r : ReadAnswer} (is : r ≡ read_reading form text room) where
  -- An accepted reading carries it,
  pub reading_carries : (f : Form) → form_of form ≡ Some f → r.answer.number ≡ 0 → r.respelled ≡ respelled_before f text
  reading_carries f q z = accepted_carries _ _ is z ∙ respelled_is form f q text

  -- which is exactly the pieces of the run that the text is which are not canonical,
  pub reading_counts : (f : Form) → form_of form ≡ Some f → r.answer.number ≡ 0 → {ps : List (List ℕ)} {es : List Element}
      → Run (Spells f) text ps es → (k : ℕ) → (r.respelled ≡ k) ↔ Apart (CanonicalElement f) ps es k
  reading_counts f q z run k =
      let c = reading_carries f q z in
      (λ e. (respelled_exactly f run k).0 (sym c ∙ e), λ a. c ∙ (respelled_exactly f run k).1 a)

  -- and 0 exactly where it is the canonical run of its elements;
  pub reading_none : (f : Form) → form_of form ≡ Some f → r.answer.number ≡ 0 → {es : List Element} → RunOf (Spells f) text es
      → (r.respelled ≡ 0) ↔ RunOf (CanonicalElement f) text es
  reading_none f q z run =
      let c = reading_carries f q z in
      (λ e. (respelled_none f run).0 (sym c ∙ e), λ a. c ∙ (respelled_none f run).1 a)

  -- a refusal carries 0.
  pub refusal_carries : (r.answer.number ≡ 0 → ⊥) → r.respelled ≡ 0
  refusal_carries = refused_carries _ _ is

-- An accepted reading has at most as many as elements.
pub reading_few : (form : ℕ) (f : Form) → form_of form ≡ Some f → (text : List ℕ) → length text ≤ limit → {r : ReadAnswer}
    → MeasurePromise form text r → {es : List Element} → RunOf (Spells f) text es
    → (r.answer.number ≡ 0) × (r.answer.element ≡ length es) × (r.respelled ≤ r.answer.element)
reading_few form f q text h {r} is {es} run =
    let x = (accepted_exactly f text es).1 run in
    let m = measure_is form f q text h ∙ ap (roomy_answer words_of (length text)) x in
    let four : r.answer ≡ answer 0 (length es) (length text) (length (given words_of es)) = ap (λ (a : ReadAnswer). a.answer) is ∙ m in
    let z : r.answer.number ≡ 0 = ap (λ (a : Answer). a.number) four in
    let n : r.answer.element ≡ length es = ap (λ (a : Answer). a.element) four in
    (z, n, omega (arith, reading_carries form text (length text) is f q z, respelled_few f text es x, n))
