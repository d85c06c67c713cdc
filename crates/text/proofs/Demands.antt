-- The theorems of record: what the public functions of `text` and `text_reading` are worth. They speak of the promises, which the
-- contracts cite by name (`ReadPromise` and the like), and of the definitions that these stand for (`read_answer`, `read_words` and the
-- like), in the words of the grammar (`Spells`, `Refuses`, `CanonicalElement`, `Held`), over the form. The sentence above each is the
-- demand's that it carries out; document 01's own words, and 02's where it is named, stand in quotation marks.
-- Assumes nothing.
use Prim.Native.Nat.{ℕ, ◌+◌, ◌-◌, ◌≤◌, ◌<◌}
use mathlib.Core.Path.{◌≡◌, refl, sym, ap, ap₂, ◌∙◌, subst, subst₂}
use mathlib.Core.Logic.{◌↔◌, ◌⊎◌, inl, inr}
use mathlib.Core.Bool.{Bool, true, false}
use mathlib.Core.List.{List, [], ◌∷◌, ◌++◌}
use native.Mathlib.Omega.{arith}
use lib.ListN.{length, take, drop, length-append}
use lib.Seq.{take-append_seam}
use lib.Dec.{leb}
use Rattle.run.specs.Choice.{pick}
use Rattle.run.specs.Head.{Outcome, accepted, refusal}
use Rattle.run.specs.Tally.{Apart}
use Rattle.run.specs.Grammar.{Run, RunOf, done, more, Begins}
use Rattle.run.specs.declared.Answer.{Answer}
use Rattle.run.specs.declared.ReadAnswer.{ReadAnswer}
use Rattle.run.specs.Answers.{answer, bare, short_room, carrying, Carries, count_of, given, answer_of, written_of, over, same}
use Rattle.run.proofs.Outcomes as outcomes
use Rattle.run.proofs.Outcomes.{run_append, run_by, run_length}
use Rattle.run.proofs.Answers.{given_append, accepted_carries, refused_carries, carries_exactly}
use Rattle.run.specs.OneAnswer.{Once, OnceBoth}
use Rattle.sorts.specs.declared.Form.{Form}
use Rattle.std.specs.Prelude.{Option, Some, None}
use Rattle.sorts.specs.Forms.{form_of, in_form}
use Rattle.element_words.specs.declared.Element.{Element}
use Rattle.element_words.specs.Words.{words_of}
use Rattle.element_reading.specs.Grammar.{Spells, Refuses}
use Rattle.element_reading.specs.Raised.{Raised}
use Rattle.element_reading.specs.declared.Step.TheVariants.{Element as Read}
use Rattle.element_reading.specs.ElementNumbers.{step_answer, step_reading, step_words, ElementRow}
use Rattle.element_spelling.specs.ElementOctets.{CanonicalElement, Held, Writes}
use Rattle.element_reading.proofs.Reader.{reads}
use Rattle.element_reading.proofs.ReadBack.{canonical_spells, read_held}
use Rattle.element_reading.proofs.Raised.{raised_outcome, raised_length}
use Rattle.element_reading.proofs.NumbersExactly.{element_row}
use Rattle.element_reading.proofs.Places.{reading_number}
use Rattle.element_spelling.proofs.Writer.{one_spelling, writer_reads, writer_refuses_exactly}
use Rattle.text_loops.specs.Fronts.{read_in, respelled_before}
use Rattle.text_reading.specs.ReadAnswers.{within_limit, read_answer, read_words, respelled_in, lone_step, one_reading, one_words}
use Rattle.text_reading.specs.Promises.{MeasurePromise, ReadPromise, ReadElementPromise, ReadOnePromise}
use Rattle.text_reading.specs.ReadingNumbers.{limit, Answered, Formed, Tells, ReadingFault, ReadTable, LoneTable, OneTable}
use Rattle.text_reading.specs.ReadingNumbers.{NotCanonical}
use Rattle.text_reading.proofs.Edges.{a_form}
use Rattle.text_reading.specs.LawWords.{Meets}
use Rattle.text_reading.proofs.ByTable.{by_table, by_form, in_its_form, no_form_exactly, tells, kept_in_form}
use Rattle.text_loops.proofs.Steps.{count_is_place}
use Rattle.text_loops.proofs.FewWords.{words_fit}
use Rattle.text_reading.proofs.Respelled as respelled
use Rattle.text_reading.proofs.ReadTexts.{read_meets}
use Rattle.text_reading.proofs.Lone.{lone_exactly, lone_flag, one_exactly}
use Rattle.text_reading.proofs.OneAnswer as reading
use Rattle.text.specs.Outcomes.{Respells, write_in, convert_in}
use Rattle.text.specs.WriteAnswers.{write_answer, write_text, convert_answer, convert_text}
use Rattle.text.specs.WritingNumbers.{WritingFault, ConvertingFault, WriteTable, ConvertTable}
use Rattle.text.specs.SixteenReadings.{readings, AllHold}
use Rattle.text.specs.DemandWords.{AllHeld, none, and, Converted, ConvertsTo, SameConversion}
use Rattle.text.specs.Promises.{WritePromise, ConvertPromise}
use Rattle.text.proofs.OneAnswer as writing
use Rattle.text.proofs.Respelling.{respell_reads}
use Rattle.text.proofs.Converting.{converted, convert_meets, respelt_means, read_converts, Alike, respelt_alike, converts_raised}
use Rattle.text.proofs.SixteenReadings.{sixteen}
use Rattle.sorts.specs.Forms.{NoForm}
use Rattle.sorts.proofs.FormNumbers.{none_exactly}

-- ======== Demand 1: every input gets an answer, and each number is given exactly when document 01's table and order say so

-- the same equations, read from the other side
turned : {A B C : Type 0} {x a : A} {y b : B} → ((x ≡ a) × (y ≡ b)) ↔ C → ((a ≡ x) × (b ≡ y)) ↔ C
turned e = (λ p. e.0 (sym p.0, sym p.1), λ c. (sym (e.1 c).0, sym (e.1 c).1))

-- Each number from 1 to 12 is given exactly when the table and its order say so, with its element, place and count: the four numbers, and
-- what the lent buffer holds after, are those of the table's row.
pub read_exactly : (form : ℕ) (text words : List ℕ) (a : Answer) (after : List ℕ)
    → ((read_answer form text (length words) ≡ a) × (read_words form text words ≡ after)) ↔ ReadTable form text words a after
unfolding read_answer read_words
read_exactly form text words = by_form form words _ _ _ (λ f. by_table words_of _ _ (read_in f text) (read_meets f text) text words)

write_meets : (f : Form) (words : List ℕ) → Meets (RunOf (Writes f) words) (WritingFault f words) (write_in f words)
write_meets f words =
    record {
      runs = outcomes.accepts (writer_reads f) words;
      faults = outcomes.refuses_by (writer_reads f) _ (writer_refuses_exactly f) words;
    }

pub write_exactly : (form : ℕ) (words text : List ℕ) (a : Answer) (after : List ℕ)
    → ((write_answer form words (length text) ≡ a) × (write_text form words text ≡ after)) ↔ WriteTable form words text a after
unfolding write_answer write_text
write_exactly form words text = by_form form text _ _ _ (λ f. by_table same _ _ (write_in f words) (write_meets f words) words text)

pub convert_exactly : (source target : ℕ) (text out : List ℕ) (a : Answer) (after : List ℕ)
    → ((convert_answer source target text (length out) ≡ a) × (convert_text source target text out ≡ after))
    ↔ ConvertTable source target text out a after
unfolding convert_answer convert_text
convert_exactly source target text out =
    by_form source out _ _ _ (λ f. by_form target out _ _ _ (λ g. by_table same _ _ (convert_in f g text) (convert_meets f g text) text out))

-- A text is measured by reading it with room for as many words as it has octets, which is never short (`measure_never_9`): the text itself
-- stands for the lent buffer here.
pub measure_exactly : (form : ℕ) (text : List ℕ) (a : Answer) (after : List ℕ)
    → ((read_answer form text (length text) ≡ a) × (read_words form text text ≡ after)) ↔ ReadTable form text text a after
measure_exactly form text = read_exactly form text text

-- the four numbers of an answer that carries a fifth
four : {r x : ReadAnswer} → r ≡ x → r.answer ≡ x.answer
four e = ap (λ (x : ReadAnswer). x.answer) e

-- where the four numbers and the buffer are a table's exactly, and in an accepted row one number is counted so, the same holds of an answer
-- that carries that number
carries : {Table : Answer → List ℕ → Type 0} {Counted : ℕ → Type 0} {b : Answer} {l : List ℕ}
    → ((a : Answer) (after : List ℕ) → ((b ≡ a) × (l ≡ after)) ↔ Table a after) → (n : ℕ)
    → ((a : Answer) (after : List ℕ) → Table a after → a.number ≡ 0 → (k : ℕ) → (n ≡ k) ↔ Counted k) → (r : ReadAnswer) (after : List ℕ)
    → ((r ≡ carrying b n) × (after ≡ l)) ↔ (Table r.answer after × Carries Counted r)
carries exactly n counted r after = (
  λ p.
      let row = (turned (exactly r.answer after)).0 (four p.0, p.1) in
      (row, (carries_exactly r n (counted r.answer after row)).0 (p.0 ∙ ap (λ (x : Answer). carrying x n) (sym (four p.0)))),
  λ t.
      let e = (turned (exactly r.answer after)).1 t.0 in
      ((carries_exactly r n (counted r.answer after t.0)).1 t.1 ∙ ap (λ (x : Answer). carrying x n) e.0, e.1),
)

-- Reading refuses with 1 to 8 alone, writing with 10 alone, converting with these.
reading_low : (f : Form) (text : List ℕ) (r n p d : ℕ) → ReadingFault f text r n p d → (0 < r) × (r < 9)
reading_low f text r n p d h = let z = reading_number f h.here in (omega (arith, z.0), omega (arith, z.1))

reading_numbered : (f : Form) (text : List ℕ) (r n p d : ℕ) → ReadingFault f text r n p d → (0 < r) × (r < 11) × (r ≡ 9 → ⊥)
reading_numbered f text r n p d h = let z = reading_low f text r n p d h in (z.0, omega (arith, z.1), λ e. omega (arith, z.1))

writing_numbered : (f : Form) (words : List ℕ) (r n p d : ℕ) → WritingFault f words r n p d → (0 < r) × (r < 11) × (r ≡ 9 → ⊥)
writing_numbered f words r n p d h = let z = h.here.0 in (omega arith, omega arith, λ e. omega arith)

converting_numbered : (f g : Form) (text : List ℕ) (r n p d : ℕ) → ConvertingFault f g text r n p d → (0 < r) × (r < 11) × (r ≡ 9 → ⊥)
converting_numbered f g text r n p d h = go h
  where
    go : {i j k l : ℕ} → ConvertingFault f g text i j k l → (0 < i) × (i < 11) × (i ≡ 9 → ⊥)
    go {i} {j} {k} {l} (ConvertingFault.reading h) = reading_numbered f text i j k l h
    go (ConvertingFault.not_held run k) = (omega arith, omega arith, λ e. omega arith)

-- an accepted row's text is of a form, and a run of elements, so one number of it is counted
read_row : (form : ℕ) (text words : List ℕ) (a : Answer) (after : List ℕ) → ReadTable form text words a after → a.number ≡ 0 → (k : ℕ)
    → (respelled_in form text ≡ k) ↔ NotCanonical form text k
read_row form text words a after row z k = go row z
  where
    go : {b : Answer} {l : List ℕ} → ReadTable form text words b l → b.number ≡ 0 → (respelled_in form text ≡ k) ↔ NotCanonical form text k
    go (Formed.no_form n) z = absurd (omega arith)
    go (Formed.of_a_form {f} q inside) z = respelled.counts_exactly form f q text ((tells (reading_numbered f text) inside).is_0 z).2 k

convert_row : (source target : ℕ) (text out : List ℕ) (a : Answer) (after : List ℕ) → ConvertTable source target text out a after
    → a.number ≡ 0 → (k : ℕ) → (respelled_in source text ≡ k) ↔ NotCanonical source text k
convert_row source target text out a after row z k = go row z
  where
    go : {b : Answer} {l : List ℕ} → ConvertTable source target text out b l → b.number ≡ 0
        → (respelled_in source text ≡ k) ↔ NotCanonical source text k
    go (Formed.no_form n) z = absurd (omega arith)
    go (Formed.of_a_form q (Formed.no_form n)) z = absurd (omega arith)
    go (Formed.of_a_form {f} q (Formed.of_a_form {f = g} p inside)) z =
        let run = ((tells (converting_numbered f g text) inside).is_0 z).2 in
        respelled.counts_exactly source f q text (run.0, (respelt_means f g run.1).1) k

-- So the promises, by the names that the functions' `ensures` cite, are that table. Document 02: an accepted reading or conversion "carries
-- a fifth number: elements not canonical in the source form", which "is 0 on a refusal".
pub read_promised : (form : ℕ) (text words : List ℕ) (r : ReadAnswer) (after : List ℕ)
    → ReadPromise form text words r after ↔ (ReadTable form text words r.answer after × Carries (NotCanonical form text) r)
read_promised form text words = carries (read_exactly form text words) (respelled_in form text) (read_row form text words)

pub write_promised : (form : ℕ) (words text : List ℕ) (r : Answer) (after : List ℕ)
    → WritePromise form words text r after ↔ WriteTable form words text r after
write_promised form words text r after = turned (write_exactly form words text r after)

pub convert_promised : (source target : ℕ) (text out : List ℕ) (r : ReadAnswer) (after : List ℕ)
    → ConvertPromise source target text out r after
    ↔ (ConvertTable source target text out r.answer after × Carries (NotCanonical source text) r)
convert_promised source target text out =
    carries (convert_exactly source target text out) (respelled_in source text) (convert_row source target text out)

pub measure_promised : (form : ℕ) (text : List ℕ) (r : ReadAnswer)
    → MeasurePromise form text r
    ↔ (((after : List ℕ) × ReadTable form text text r.answer after) × Carries (NotCanonical form text) r)
measure_promised form text r =
    let by_table = carries (measure_exactly form text) (respelled_in form text) (read_row form text text) r in (
      λ p. let t = (by_table (read_words form text text)).0 (p, refl) in ((read_words form text text, t.0), t.1),
      λ t. ((by_table t.0.0).1 (t.0.1, t.1)).0,
    )

-- A lone read: its five numbers, and the words of the element. (Its promise says so of each result.)
pub read_element_exactly : (form : ℕ) (text : List ℕ) (at : ℕ) (a : ReadAnswer) (words : List ℕ)
    → ((step_reading (lone_step form text at) ≡ a) × (step_words (lone_step form text at) ≡ words)) ↔ LoneTable form text at a words
read_element_exactly = lone_exactly

-- The same into words lent, with 9 where they do not fit.
pub read_one_exactly : (form : ℕ) (text : List ℕ) (at : ℕ) (words : List ℕ) (a : ReadAnswer) (after : List ℕ)
    → ((one_reading form text at (length words) ≡ a) × (one_words form text at words ≡ after)) ↔ OneTable form text at words a after
read_one_exactly = one_exactly

pub read_one_promised : (form : ℕ) (text : List ℕ) (at : ℕ) (words : List ℕ) (r : ReadAnswer) (after : List ℕ)
    → ReadOnePromise form text at words r after ↔ OneTable form text at words r after
read_one_promised form text at words r after = turned (read_one_exactly form text at words r after)

-- a conversion's refusal with 1 to 8 is the reading's
by_reading : (f g : Form) {text : List ℕ} {r n p d : ℕ} → ConvertingFault f g text r n p d → r ≤ 8 → ReadingFault f text r n p d
by_reading f g (ConvertingFault.reading h) l = h
by_reading f g (ConvertingFault.not_held run k) l = absurd (omega arith)

-- The number tells the row.
pub read_tells : (form : ℕ) (f : Form) → form_of form ≡ Some f → (text words : List ℕ)
    → Tells words_of (RunOf (Spells f) text) (ReadingFault f text) text words (read_answer form text (length words))
    (read_words form text words)
unfolding read_answer read_words
read_tells form f q text words =
    tells (reading_numbered f text)
    (in_its_form form words _ _ _ (λ g. by_table words_of _ _ (read_in g text) (read_meets g text) text words) f q)

pub write_tells : (form : ℕ) (f : Form) → form_of form ≡ Some f → (words text : List ℕ)
    → Tells same (RunOf (Writes f) words) (WritingFault f words) words text (write_answer form words (length text))
    (write_text form words text)
unfolding write_answer write_text
write_tells form f q words text =
    tells (writing_numbered f words)
    (in_its_form form text _ _ _ (λ g. by_table same _ _ (write_in g words) (write_meets g words) words text) f q)

pub convert_tells : (source target : ℕ) (f g : Form) → form_of source ≡ Some f → form_of target ≡ Some g → (text out : List ℕ)
    → Tells same (RunOf (Respells f g) text) (ConvertingFault f g text) text out (convert_answer source target text (length out))
    (convert_text source target text out)
unfolding convert_answer convert_text
convert_tells source target f g q p text out =
    subst₂ (Tells same (RunOf (Respells f g) text) (ConvertingFault f g text) text out) (a_form _ _ _ _ _ q refl) (a_form _ _ _ _ _ q refl)
    (tells (converting_numbered f g text)
    (in_its_form target out _ _ _ (λ h. by_table same _ _ (convert_in f h text) (convert_meets f h text) text out) g p))

pub read_never_10 : (form : ℕ) (f : Form) → form_of form ≡ Some f → (text words : List ℕ) → (read_answer form text (length words)).number ≡ 10
    → ⊥
read_never_10 form f q text words e =
    let t = (read_tells form f q text words).is_fault (omega arith) (omega arith) (λ z. omega arith) in
    omega (arith, (reading_low f text _ _ _ _ t.2).1)

pub write_only_10 : (form : ℕ) (f : Form) → form_of form ≡ Some f → (words text : List ℕ) → 0 < (write_answer form words (length text)).number
    → (write_answer form words (length text)).number < 9 → ⊥
write_only_10 form f q words text a b =
    let t = (write_tells form f q words text).is_fault a (omega arith) (λ z. omega arith) in
    let z = t.2.here.0 in
    omega arith

-- 11: "form not 1 to 3"
pub read_11 : (form : ℕ) (text words : List ℕ) → ((read_answer form text (length words)).number ≡ 11) ↔ NoForm form
unfolding read_answer
read_11 form text words =
    no_form_exactly form words _ _ _ (λ f. by_table words_of _ _ (read_in f text) (read_meets f text) text words)
    (λ f q. (tells (reading_numbered f text)
    ((by_table words_of _ _ (read_in f text) (read_meets f text) text words _ _).0 (refl, refl))).not_11)

pub write_11 : (form : ℕ) (words text : List ℕ) → ((write_answer form words (length text)).number ≡ 11) ↔ NoForm form
unfolding write_answer
write_11 form words text =
    no_form_exactly form text _ _ _ (λ f. by_table same _ _ (write_in f words) (write_meets f words) words text)
    (λ f q. (tells (writing_numbered f words)
    ((by_table same _ _ (write_in f words) (write_meets f words) words text _ _).0 (refl, refl))).not_11)

-- "11 (source, then target)": either gives the same four numbers
pub convert_11 : (source target : ℕ) (text out : List ℕ)
    → ((convert_answer source target text (length out)).number ≡ 11) ↔ (NoForm source ⊎ NoForm target)
unfolding convert_answer
convert_11 source target text out = (forth (form_of source) (form_of target) refl refl, back (form_of source) (form_of target) refl refl)
  where
    answer_by_lem : Option Form → Option Form → Answer
    answer_by_lem x y =
        in_form x (bare 11) (λ f. in_form y (bare 11)
        (λ g. within_limit text (bare 12) (answer_of same (length text) (length out) (convert_in f g text))))

    forth : (x y : Option Form) → form_of source ≡ x → form_of target ≡ y → (answer_by_lem x y).number ≡ 11 → NoForm source ⊎ NoForm target
    forth (Some f) (Some g) q p e =
        absurd ((tells (converting_numbered f g text)
        ((by_table same _ _ (convert_in f g text) (convert_meets f g text) text out _ _).0 (refl, refl))).not_11 e)
    forth (Some f) None q p e = inr ((none_exactly target).0 p)
    forth None y q p e = inl ((none_exactly source).0 q)

    back : (x y : Option Form) → form_of source ≡ x → form_of target ≡ y → NoForm source ⊎ NoForm target → (answer_by_lem x y).number ≡ 11
    back (Some f) (Some g) q p (inl n) = let z = sym q ∙ (none_exactly source).1 n in let w : ◌≡◌ {A = ℕ} 0 1 = cc in absurd (omega arith)
    back (Some f) (Some g) q p (inr n) = let z = sym p ∙ (none_exactly target).1 n in let w : ◌≡◌ {A = ℕ} 0 1 = cc in absurd (omega arith)
    back (Some f) None q p e = refl
    back None y q p e = refl

-- Every refusal leaves each lent buffer as it was.
pub read_keeps : (form : ℕ) (text words : List ℕ) → ((read_answer form text (length words)).number ≡ 0 → ⊥)
    → read_words form text words ≡ words
read_keeps form text words =
    kept_in_form (λ f a l h. (tells (reading_numbered f text) h).kept) ((read_exactly form text words _ _).0 (refl, refl))

pub write_keeps : (form : ℕ) (words text : List ℕ) → ((write_answer form words (length text)).number ≡ 0 → ⊥)
    → write_text form words text ≡ text
write_keeps form words text =
    kept_in_form (λ f a l h. (tells (writing_numbered f words) h).kept) ((write_exactly form words text _ _).0 (refl, refl))

pub convert_keeps : (source target : ℕ) (text out : List ℕ) → ((convert_answer source target text (length out)).number ≡ 0 → ⊥)
    → convert_text source target text out ≡ out
convert_keeps source target text out =
    kept_in_form (λ f b l. kept_in_form (λ g a l h. (tells (converting_numbered f g text) h).kept))
    ((convert_exactly source target text out _ _).0 (refl, refl))

-- The four numbers of a lone read: "A lone read's refusal has element 0",
pub read_element_refused : (form : ℕ) (f : Form) → form_of form ≡ Some f → (text : List ℕ) (at r d : ℕ) → length text ≤ limit
    → Refuses f (drop at text) r d → step_answer (lone_step form text at) ≡ answer r 0 at (at + d)
read_element_refused form f q text at r d l h =
    ap (λ (a : ReadAnswer). a.answer) ((lone_exactly form text at _ _).1 (LoneTable.one_element q l (ElementRow.refused h))).0

-- and an element read comes with its words and the place after it.
pub read_element_read : (form : ℕ) (f : Form) → form_of form ≡ Some f → (text : List ℕ) (at k : ℕ) (e : Element) → length text ≤ limit
    → Begins (Spells f) (drop at text) e k
    → (step_answer (lone_step form text at) ≡ answer 0 1 (at + k) (length (words_of e))) × (step_words (lone_step form text at) ≡ words_of e)
read_element_read form f q text at k e l b =
    let z = (lone_exactly form text at _ _).1 (LoneTable.one_element q l (element_row f text at e k b _ refl)) in
    (ap (λ (x : ReadAnswer). x.answer) z.0, z.1)

-- Document 02: "Each element read must also say whether it stood in its form's canonical spelling": it did exactly where the octets from its
-- place up to the one after it are its canonical spelling.
pub read_element_flag : (form : ℕ) (f : Form) → form_of form ≡ Some f → (text : List ℕ) (at : ℕ) (e : Element) (next : ℕ) (b : Bool)
    → ReadElementPromise form text at (Read e next b) → (b ≡ true) ↔ CanonicalElement f (take (next - at) (drop at text)) e
read_element_flag form f q text at = lone_flag form text at f q

row_low : {f : Form} {text : List ℕ} {at : ℕ} {a : ReadAnswer} {words : List ℕ} → ElementRow f text at a words → a.answer.number < 9
row_low (ElementRow.none_left p) = omega arith
row_low (ElementRow.canonical b c) = omega arith
row_low (ElementRow.otherwise b n) = omega arith
row_low {f} (ElementRow.refused h) = omega (arith, (reading_number f h).1)

pub read_element_11 : (form : ℕ) (text : List ℕ) (at : ℕ) → ((step_answer (lone_step form text at)).number ≡ 11) ↔ NoForm form
read_element_11 form text at = (
  forth ((lone_exactly form text at _ _).0 (refl, refl)),
  λ n. ap (λ (a : ReadAnswer). a.answer.number) ((lone_exactly form text at _ _).1 (LoneTable.no_form n)).0,
)
  where
    forth : {a : ReadAnswer} {words : List ℕ} → LoneTable form text at a words → a.answer.number ≡ 11 → NoForm form
    forth (LoneTable.no_form n) e = n
    forth (LoneTable.over_limit q l) e = absurd (omega arith)
    forth (LoneTable.one_element q l r) e = absurd (omega (arith, row_low r))

pub read_element_12 : (form : ℕ) (f : Form) → form_of form ≡ Some f → (text : List ℕ) (at : ℕ)
    → ((step_answer (lone_step form text at)).number ≡ 12) ↔ (limit < length text)
read_element_12 form f q text at = (
  forth ((lone_exactly form text at _ _).0 (refl, refl)),
  λ l. ap (λ (a : ReadAnswer). a.answer.number) ((lone_exactly form text at _ _).1 (LoneTable.over_limit q l)).0,
)
  where
    forth : {a : ReadAnswer} {words : List ℕ} → LoneTable form text at a words → a.answer.number ≡ 12 → limit < length text
    forth (LoneTable.no_form n) e = absurd (omega arith)
    forth (LoneTable.over_limit q l) e = l
    forth (LoneTable.one_element q l r) e = absurd (omega (arith, row_low r))

-- No octet gives more than one word: room for as many words as the text has octets is never short.
pub room_enough : (form : ℕ) (f : Form) → form_of form ≡ Some f → (text words : List ℕ) → length text ≤ length words
    → (read_answer form text (length words)).number ≡ 9 → ⊥
room_enough form f q text words h e =
    let t = (read_tells form f q text words).is_9 e in
    omega (arith, t.3, words_fit t.2.1)

-- so 9 is never given where a text is measured.
pub measure_never_9 : (form : ℕ) (f : Form) → form_of form ≡ Some f → (text : List ℕ) → (read_answer form text (length text)).number ≡ 9 → ⊥
measure_never_9 form f q text = let l : length text ≤ length text = omega arith in room_enough form f q text text l

-- Each public function's promise, by the name that its `ensures` cites, allows one answer.
pub one_answer : (form target at : ℕ) (text words out : List ℕ)
    → Once (MeasurePromise form text)
    × OnceBoth (ReadPromise form text words)
    × Once (ReadElementPromise form text at)
    × OnceBoth (ReadOnePromise form text at words)
    × OnceBoth (WritePromise form words out)
    × OnceBoth (ConvertPromise form target text out)
one_answer form target at text words out =
    let read = reading.one_answer form at text words in
    let write = writing.one_answer form target text words out in
    (read.0, read.1, read.2, read.3, write.0, write.1)

-- ======== Demand 2: what is accepted, and what it means; canonical spelling

module _ (form : ℕ) (f : Form) (is_form : form_of form ≡ Some f) where
  -- A text within the limit, with room enough lent, is accepted exactly when it is a run of elements of its form,
  pub accepts_exactly : (text words : List ℕ)
      → ((read_answer form text (length words)).number ≡ 0)
      ↔ ((es : List Element) × (length text ≤ limit) × RunOf (Spells f) text es × (length (given words_of es) ≤ length words))
  accepts_exactly text words = (
    λ e. let t = (read_tells form f is_form text words).is_0 e in (t.0, t.1, t.2, t.3),
    λ h. ap (λ (a : Answer). a.number)
        ((read_exactly form text words _ _).1 (Formed.of_a_form is_form (Answered.accepted h.1 h.2 h.3))).0,
  )

  -- with exactly their words and number
  pub read_accepted : (text words : List ℕ) (es : List Element) → length text ≤ limit → RunOf (Spells f) text es
      → length (given words_of es) ≤ length words
      → (read_answer form text (length words) ≡ answer 0 (length es) (length text) (length (given words_of es)))
      × (read_words form text words ≡ over words (given words_of es))
  read_accepted text words es l r h = (read_exactly form text words _ _).1 (Formed.of_a_form is_form (Answered.accepted l r h))

  -- What stands before a reading refusal is accepted, with exactly that many elements.
  pub before_refused : (text words : List ℕ) (r n p c : ℕ) → 1 ≤ r → r ≤ 8 → read_answer form text (length words) ≡ answer r n p c
      → (front : List ℕ) × (rest : List ℕ) × (es : List Element) × (text ≡ front ++ rest)
      × ((room : List ℕ) → length (given words_of es) ≤ length room
      → read_answer form front (length room) ≡ answer 0 n p (length (given words_of es)))
  before_refused text words r n p c h k e =
      let t =
      (subst (λ (a : Answer). Tells words_of (RunOf (Spells f) text) (ReadingFault f text) text words a (read_words form text words)) e
      (read_tells form f is_form text words)).is_fault (omega arith) (omega arith) (λ z. omega arith) in
      let s = t.2 in
      let l : length s.front ≤ limit = omega (arith, t.1, ap length s.whole, length-append s.front s.rest) in (
        s.front,
        s.rest,
        s.elements,
        s.whole,
        λ room i. (read_accepted s.front room s.elements l s.run i).0 ∙ ap₂
            (λ (a b : ℕ). answer 0 a b (length (given words_of s.elements))) (sym s.element_number) (sym s.first_place),
      )

-- It is a run in one way only.
pub one_way : (f : Form) {text : List ℕ} {ps qs : List (List ℕ)} {es fs : List Element} → Run (Spells f) text ps es
    → Run (Spells f) text qs fs → (ps ≡ qs) × (es ≡ fs)
one_way f = outcomes.one_run (reads f)

-- What a form holds is what its texts can say.
pub held_exactly : (f : Form) (e : Element) → Held f e ↔ ((octets : List ℕ) × Spells f octets e)
held_exactly f e = (forth, λ h. read_held f h.1)
  where
    forth : Held f e → (octets : List ℕ) × Spells f octets e
    forth (Held.held {s} c) = (s, canonical_spells f c)

module _ (f : Form) where
  -- What the form reads it holds.
  pub read_all_held : {text : List ℕ} {ps : List (List ℕ)} {es : List Element} → Run (Spells f) text ps es → AllHeld f es
  read_all_held done = none
  read_all_held (more sp r) = and (read_held f sp) (read_all_held r)

  -- Each list of elements that a form holds has a canonical spelling,
  pub has_canonical : {es : List Element} → AllHeld f es → (s : List ℕ) × RunOf (CanonicalElement f) s es
  has_canonical none = ([], ([], done))
  has_canonical (and (Held.held {s} c) h) = let i = has_canonical h in (s ++ i.0, (s ∷ i.1.0, more c i.1.1))

  -- and only one.
  pub one_canonical : {s t : List ℕ} {ps qs : List (List ℕ)} {es : List Element} → Run (CanonicalElement f) s ps es
      → Run (CanonicalElement f) t qs es → s ≡ t
  one_canonical done done = refl
  one_canonical (more c r) (more k q) = ap₂ ◌++◌ (one_spelling f c k) (one_canonical r q)

  canonical_run : {s : List ℕ} {ps : List (List ℕ)} {es : List Element} → Run (CanonicalElement f) s ps es → Run (Spells f) s ps es
  canonical_run = run_by (λ p e. canonical_spells f)

  canonical_held : {s : List ℕ} {ps : List (List ℕ)} {es : List Element} → Run (CanonicalElement f) s ps es → AllHeld f es
  canonical_held done = none
  canonical_held (more c r) = and (Held.held c) (canonical_held r)

  -- the words of a list of elements, and its canonical spelling: writing goes from the one to the other, piece by piece
  writes_run : {s : List ℕ} {ps : List (List ℕ)} {es : List Element} → AllHeld f es → Run (CanonicalElement f) s ps es
      → RunOf (Writes f) (given words_of es) ps × (given same ps ≡ s)
  unfolding given
  writes_run none done = (([], done), refl)
  writes_run (and {e} h a) (more {p} c r) =
      let i = writes_run a r in ((words_of e ∷ i.0.0, more (Writes.writes h c) i.0.1), ap (λ (u : List ℕ). p ++ u) i.1)

  -- and back: what is written is the canonical spelling of a list of elements that the form holds
  record Written (words : List ℕ) (ss : List (List ℕ)) : Type 0 where
    elements : List Element
    all_held : AllHeld f elements
    their_words : words ≡ given words_of elements
    canonical : Run (CanonicalElement f) (given same ss) ss elements

  written_run : {words : List ℕ} {ps ss : List (List ℕ)} → Run (Writes f) words ps ss → Written words ss
  unfolding given
  written_run done = record { elements = []; all_held = none; their_words = refl; canonical = done }
  written_run (more (Writes.writes {e} h c) r) =
      let i = written_run r in
      record {
        elements = e ∷ i.elements;
        all_held = and h i.all_held;
        their_words = ap (λ (u : List ℕ). words_of e ++ u) i.their_words;
        canonical = more c i.canonical;
      }

module _ (form : ℕ) (f : Form) (is_form : form_of form ≡ Some f) where
  -- Each list of elements that a form holds is written, in its canonical spelling (within the limit, with room enough lent),
  pub write_accepted : (s text : List ℕ) (es : List Element) → length (given words_of es) ≤ limit → AllHeld f es
      → RunOf (CanonicalElement f) s es → length s ≤ length text
      → (write_answer form (given words_of es) (length text) ≡ answer 0 (length es) (length (given words_of es)) (length s))
      × (write_text form (given words_of es) text ≡ over text s)
  write_accepted s text es l a r h =
      let w = writes_run f a r.1 in
      let e =
      (write_exactly form (given words_of es) text _ _).1
      (Formed.of_a_form is_form (Answered.accepted l w.0 (subst (λ (u : List ℕ). length u ≤ length text) (sym w.1) h))) in (
        e.0 ∙ ap₂ (λ (k : ℕ) (u : List ℕ). answer 0 k (length (given words_of es)) (length u)) (run_length r.1) w.1,
        e.1 ∙ ap
            (over text) w.1,
      )

  -- and nothing else is.
  pub written_means : (words text : List ℕ) → (write_answer form words (length text)).number ≡ 0
      → (s : List ℕ) × (es : List Element) × AllHeld f es × (words ≡ given words_of es) × RunOf (CanonicalElement f) s es
      × (write_answer form words (length text) ≡ answer 0 (length es) (length words) (length s)) × (write_text form words text ≡ over text s)
  written_means words text e =
      let t = (write_tells form f is_form words text).is_0 e in
      let w = written_run f t.2.1 in (
        given same t.0,
        w.elements,
        w.all_held,
        w.their_words,
        (t.0, w.canonical),
        t.4 ∙ ap
            (λ (k : ℕ). answer 0 k (length words) (length (given same t.0))) (run_length w.canonical),
        t.5,
      )

  -- That spelling, if within the limit, reads back as that list.
  pub reads_back : (s words : List ℕ) (es : List Element) → length s ≤ limit → RunOf (CanonicalElement f) s es
      → length (given words_of es) ≤ length words
      → (read_answer form s (length words) ≡ answer 0 (length es) (length s) (length (given words_of es)))
      × (read_words form s words ≡ over words (given words_of es))
  reads_back s words es l r = read_accepted form f is_form s words es l (r.0, canonical_run f r.1)

  -- Words within the limit are refused with 10 at the first that is no element held: behind a run of elements that the form writes, no
  -- words of one that it holds stand first.
  pub write_refused : (words text : List ℕ) (n p : ℕ) → length words ≤ limit
      → (write_answer form words (length text) ≡ answer 10 n p 0) ↔ ((d : ℕ) × WritingFault f words 10 n p d)
  write_refused words text n p l = (forth, λ h. ((write_exactly form words text _ _).1 (Formed.of_a_form is_form (Answered.fault l h.1))).0)
    where
      forth : write_answer form words (length text) ≡ answer 10 n p 0 → (d : ℕ) × WritingFault f words 10 n p d
      forth e =
          let t =
          (subst (λ (a : Answer). Tells same (RunOf (Writes f) words) (WritingFault f words) words text a (write_text form words text)) e
          (write_tells form f is_form words text)).is_fault (omega arith) (omega arith) (λ z. omega arith) in
          (t.0, t.2)

  -- And only those words are that are no list of elements that the form holds.
  pub refused_no_list : (words text : List ℕ) → length words ≤ limit
      → ((write_answer form words (length text)).number ≡ 10) ↔ ((es : List Element) → AllHeld f es → words ≡ given words_of es → ⊥)
  refused_no_list words text l = (forth, back (write_in f words) refl)
    where
      forth : (write_answer form words (length text)).number ≡ 10 → (es : List Element) → AllHeld f es → words ≡ given words_of es → ⊥
      forth e es a w =
          let t = (write_tells form f is_form words text).is_fault (omega arith) (omega arith) (λ z. omega arith) in
          let refused = ((write_meets f words).faults _ _ _ _).1 t.2 in
          let c = has_canonical f a in
          let accepted-too =
          ((write_meets f words).runs c.1.0).1
          (subst (λ (u : List ℕ). RunOf (Writes f) u c.1.0) (sym w) (writes_run f a c.1.1).0) in
          let z : ◌≡◌ {A = ℕ} 0 1 = cc in
          omega arith

      back : (x : Outcome (List ℕ)) → write_in f words ≡ x → ((es : List Element) → AllHeld f es → words ≡ given words_of es → ⊥)
          → (write_answer form words (length text)).number ≡ 10
      back (accepted ss) q never =
          let w = written_run f (((write_meets f words).runs ss).0 q).1 in absurd (never w.elements w.all_held w.their_words)
      back (refusal r n p d) q never =
          let h = ((write_meets f words).faults r n p d).0 q in
          ap (λ (a : Answer). a.number) ((write_exactly form words text _ _).1 (Formed.of_a_form is_form (Answered.fault l h))).0
          ∙ h.here.0

-- ======== Conversion

module _ (f g : Form) where
  -- each piece respelt, and the pieces are the canonical spelling of what the text means
  respelt_run : {text s : List ℕ} {ps qs : List (List ℕ)} {es : List Element} → Run (Spells f) text ps es → AllHeld g es
      → Run (CanonicalElement g) s qs es → Run (Respells f g) text ps qs × (given same qs ≡ s)
  unfolding given
  respelt_run done none done = (done, refl)
  respelt_run (more sp r) (and h a) (more {p = q} c k) =
      let i = respelt_run r a k in (more (Respells.respells sp h c) i.0, ap (λ (u : List ℕ). q ++ u) i.1)

module _ (source target : ℕ) (f g : Form) (is_source : form_of source ≡ Some f) (is_target : form_of target ≡ Some g) where
  -- What it writes is the target's canonical spelling of what the source text means, where the target holds that,
  pub convert_accepted : (text s out : List ℕ) (es : List Element) → length text ≤ limit → RunOf (Spells f) text es → AllHeld g es
      → RunOf (CanonicalElement g) s es → length s ≤ length out
      → (convert_answer source target text (length out) ≡ answer 0 (length es) (length text) (length s))
      × (convert_text source target text out ≡ over out s)
  convert_accepted text s out es l r a c h =
      let w = respelt_run f g r.1 a c.1 in
      let e =
      (convert_exactly source target text out _ _).1
      (Formed.of_a_form is_source
      (Formed.of_a_form is_target (Answered.accepted l (r.0, w.0) (subst (λ (u : List ℕ). length u ≤ length out) (sym w.1) h)))) in
      (e.0 ∙ ap₂ (λ (k : ℕ) (u : List ℕ). answer 0 k (length text) (length u)) (run_length c.1) w.1, e.1 ∙ ap (over out) w.1)

  -- and it writes nothing else; that spelling reads back in the target as that meaning.
  pub converted_means : (text out : List ℕ) → (convert_answer source target text (length out)).number ≡ 0
      → Converted source target f g text out
  converted_means text out e =
      let t = (convert_tells source target f g is_source is_target text out).is_0 e in
      let m = respelt_means f g t.2.1 in
      record {
        octets = given same t.0;
        meaning = m.0;
        within = t.1;
        means = (t.2.0, m.1);
        held = canonical_held g m.2;
        canonical = (t.0, m.2);
        room = t.3;
        answers = t.4 ∙ ap (λ (k : ℕ). answer 0 k (length text) (length (given same t.0))) (run_length m.2);
        writes = t.5;
        back = λ words l h. reads_back target g is_target (given same t.0) words m.0 l (t.0, m.2) h;
      }

  -- It is refused with 10 exactly at the first element that the target does not hold, its place the octets of the elements before it.
  pub convert_refused : (text out : List ℕ) (n p : ℕ) → length text ≤ limit
      → (convert_answer source target text (length out) ≡ answer 10 n p 0) ↔ ((d : ℕ) × ConvertingFault f g text 10 n p d)
  convert_refused text out n p l = (
    forth,
    λ h. ((convert_exactly source target text out _ _).1
        (Formed.of_a_form is_source (Formed.of_a_form is_target (Answered.fault l h.1)))).0,
  )
    where
      forth : convert_answer source target text (length out) ≡ answer 10 n p 0 → (d : ℕ) × ConvertingFault f g text 10 n p d
      forth e =
          let t =
          (subst (λ (a : Answer). Tells same (RunOf (Respells f g) text) (ConvertingFault f g text) text out a
          (convert_text source target text out)) e (convert_tells source target f g is_source is_target text out)).is_fault (omega arith)
          (omega arith) (λ z. omega arith) in
          (t.0, t.2)

module _ (form : ℕ) (f : Form) (is_form : form_of form ≡ Some f) where
  -- Within a form it is respelling: every text that is read is respelt, never refused with 10;
  pub respelt : (text : List ℕ) (es : List Element) → length text ≤ limit → RunOf (Spells f) text es
      → (s : List ℕ) × RunOf (CanonicalElement f) s es
      × ((out : List ℕ) → length s ≤ length out
      → (convert_answer form form text (length out) ≡ answer 0 (length es) (length text) (length s))
      × (convert_text form form text out ≡ over out s))
  respelt text es l r =
      let a = read_all_held f r.1 in
      let c = has_canonical f a in
      (c.0, c.1, λ out h. convert_accepted form form f f is_form is_form text c.0 out es l r a c.1 h)

  -- respelling again alters nothing (s is such a spelling; within the limit, it is read again).
  pub respelt_again : (s out : List ℕ) (es : List Element) → length s ≤ limit → RunOf (CanonicalElement f) s es → length s ≤ length out
      → (convert_answer form form s (length out) ≡ answer 0 (length es) (length s) (length s)) × (convert_text form form s out ≡ over out s)
  respelt_again s out es l c h =
      let r = canonical_run f c.1 in convert_accepted form form f f is_form is_form s s out es l (c.0, r) (read_all_held f r) c h

-- ======== Demand 3: joined texts, and conversions one after another

module _ (form : ℕ) (f : Form) (is_form : form_of form ≡ Some f) (s t : List ℕ) (within : length (s ++ t) ≤ limit)
    (es : List Element) (first : RunOf (Spells f) s es) where
  -- Two accepted texts of one form, joined, are accepted and mean both meanings joined, with room enough lent.
  pub joined_read : (words : List ℕ) (fs : List Element) → RunOf (Spells f) t fs
      → length (given words_of es ++ given words_of fs) ≤ length words
      → (read_answer form (s ++ t) (length words)
      ≡ answer 0 (length (es ++ fs)) (length (s ++ t)) (length (given words_of es ++ given words_of fs)))
      × (read_words form (s ++ t) words ≡ over words (given words_of es ++ given words_of fs))
  joined_read words fs r h =
      subst (λ (u : List ℕ). (read_answer form (s ++ t) (length words) ≡ answer 0 (length (es ++ fs)) (length (s ++ t)) (length u)) ×
      (read_words form (s ++ t) words ≡ over words u)) (given_append words_of es fs)
      (read_accepted form f is_form (s ++ t) words (es ++ fs) within (run_append first.1 r.1)
      (subst (λ (u : List ℕ). length u ≤ length words) (sym (given_append words_of es fs)) h))

  -- If the first is accepted and the second refused, it is refused as by itself, element number, place and count moved up.
  pub joined_refused : (words : List ℕ) (r n p c : ℕ) → 1 ≤ r → r ≤ 8 → read_answer form t (length words) ≡ answer r n p c
      → read_answer form (s ++ t) (length words) ≡ answer r (length es + n) (length s + p) (length s + c)
  joined_refused words r n p c h k e =
      let v =
      (subst (λ (a : Answer). Tells words_of (RunOf (Spells f) t) (ReadingFault f t) t words a (read_words form t words)) e
      (read_tells form f is_form t words)).is_fault (omega arith) (omega arith) (λ z. omega arith) in
      let q =
      outcomes.joined_refused (reads f) s t es r n p v.0 (((read_meets f s).runs es).1 first)
      (((read_meets f t).faults r n p v.0).1 v.2) in
      let a =
      (read_exactly form (s ++ t) words _ _).1
      (Formed.of_a_form is_form (Answered.fault within (((read_meets f (s ++ t)).faults _ _ _ _).0 q))) in
      a.0 ∙ ap (answer r (length es + n) (length s + p))
      (sym (count_is_place r (length s + v.0) k) ∙ ap (λ (i : ℕ). length s + i) (sym (v.3 ∙ sym (count_is_place r v.0 k))))

module _ (source target : ℕ) (f g : Form) (is_source : form_of source ≡ Some f) (is_target : form_of target ≡ Some g)
    (s t : List ℕ) (within : length (s ++ t) ≤ limit) (es fs : List Element) (first : RunOf (Spells f) s es)
    (second : RunOf (Spells f) t fs) (all_held : AllHeld g es) (u : List ℕ) (spelling : RunOf (CanonicalElement g) u es) where
  held_append : {xs ys : List Element} → AllHeld g xs → AllHeld g ys → AllHeld g (xs ++ ys)
  held_append none b = b
  held_append (and h a) b = and h (held_append a b)

  -- Two texts joined respell as the two respelt and joined,
  pub joined_converted : (v out : List ℕ) → AllHeld g fs → RunOf (CanonicalElement g) v fs → length (u ++ v) ≤ length out
      → (convert_answer source target (s ++ t) (length out) ≡ answer 0 (length (es ++ fs)) (length (s ++ t)) (length (u ++ v)))
      × (convert_text source target (s ++ t) out ≡ over out (u ++ v))
  joined_converted v out a c h =
      convert_accepted source target f g is_source is_target (s ++ t) (u ++ v) out (es ++ fs) within (run_append first.1 second.1)
      (held_append all_held a) (run_append spelling.1 c.1) h

  -- and where the target does not hold an element of the second, that is refused as by itself, element number and place moved up.
  pub joined_not_held : (out : List ℕ) (n p : ℕ) → convert_answer source target t (length out) ≡ answer 10 n p 0
      → convert_answer source target (s ++ t) (length out) ≡ answer 10 (length es + n) (length s + p) 0
  joined_not_held out n p e =
      let v =
      (subst (λ (a : Answer). Tells same (RunOf (Respells f g) t) (ConvertingFault f g t) t out a (convert_text source target t out)) e
      (convert_tells source target f g is_source is_target t out)).is_fault (omega arith) (omega arith) (λ z. omega arith) in
      let w = respelt_run f g first.1 all_held spelling.1 in
      let one = (outcomes.accepts (respell_reads f g) s spelling.0).1 (first.0, w.0) in
      let two = sym (read_converts f g t fs (((read_meets f t).runs fs).1 second)) ∙ ((convert_meets f g t).faults 10 n p v.0).1 v.2 in
      let both =
      read_converts f g (s ++ t) (es ++ fs) (((read_meets f (s ++ t)).runs (es ++ fs)).1 (run_append first.1 second.1))
      ∙ outcomes.joined_refused (respell_reads f g) s t spelling.0 10 n p v.0 one two in
      ((convert_exactly source target (s ++ t) out _ _).1
      (Formed.of_a_form is_source (Formed.of_a_form is_target (Answered.fault within (((convert_meets f g (s ++ t)).faults _ _ _ _).0 both))))).0
      ∙ ap (λ (k : ℕ). answer 10 (k + n) (length s + p) 0) (run_length spelling.1)

-- both forms are known, and the text is within the limit
in_two_forms : (source target : ℕ) (f g : Form) → form_of source ≡ Some f → form_of target ≡ Some g → (text out : List ℕ) → length text ≤ limit
    → (convert_answer source target text (length out) ≡ answer_of same (length text) (length out) (convert_in f g text))
    × (convert_text source target text out ≡ written_of same out (convert_in f g text))
in_two_forms source target f g q p text out l =
    let e = converted source target f g q p text out l _ _ (refl, refl) in (sym e.0, sym e.1)

alike_answers : (n m : ℕ) (l : List ℕ) (x y : Outcome (List ℕ)) → Alike x y
    → SameConversion (answer_of same n (length l) x) (answer_of same m (length l) y) (written_of same l x) (written_of same l y)
alike_answers n m l (accepted ss) y a = rw a (go (leb (length (given same ss)) (length l)))
  where
    go : (t : Bool)
        → SameConversion (pick t (answer 0 (length ss) n (length (given same ss))) (short_room (length (given same ss))))
        (pick t (answer 0 (length ss) m (length (given same ss))) (short_room (length (given same ss)))) (written_of same l (accepted ss))
        (written_of same l (accepted ss))
    go true = record { number = refl; element = refl; count = refl; octets = refl }
    go false = record { number = refl; element = refl; count = refl; octets = refl }
alike_answers n m l (refusal r e p d) (accepted ss) a = absurd a
alike_answers n m l (refusal r e p d) (refusal r' e' p' d') a =
    record {
      number = a.0 ∙ sym a.1;
      element = a.2;
      count = ap (λ (i : ℕ). count_of i d) a.0 ∙ sym (ap (λ (i : ℕ). count_of i d') a.1);
      octets = refl;
    }

-- If a text converts from one form to a second, converting the result to any third gives the octets of the direct conversion, or the same
-- refusal number at the same element. The result s is the second form's canonical spelling of what the text means (`converted_means`),
-- within the limit.
pub composes : (source second third : ℕ) (f g h : Form) → form_of source ≡ Some f → form_of second ≡ Some g → form_of third ≡ Some h
    → (text s out : List ℕ) (es : List Element) → length text ≤ limit → length s ≤ limit → RunOf (Spells f) text es
    → RunOf (CanonicalElement g) s es
    → SameConversion (convert_answer source third text (length out)) (convert_answer second third s (length out))
    (convert_text source third text out) (convert_text second third s out)
composes source second third f g h is_source is-second is-third text s out es l k r c =
    let a = in_two_forms source third f h is_source is-third text out l in
    let b = in_two_forms second third g h is-second is-third s out k in
    let alike : Alike (convert_in f h text) (convert_in g h s) =
    rw (
      read_converts f h text es (((read_meets f text).runs es).1 r),
      read_converts g h s es
          (((read_meets g s).runs es).1 (c.0, canonical_run g c.1)),
    ) (respelt_alike f g h r.1 (canonical_run g c.1)) in
    rw (a.0, a.1, b.0, b.1) (alike_answers (length text) (length s) out (convert_in f h text) (convert_in g h s) alike)

-- ---- from the promises' own words

-- a number that is some form's
known : (n : ℕ) → (NoForm n → ⊥) → (f : Form) × (form_of n ≡ Some f)
known n h = go (form_of n) refl
  where
    go : (x : Option Form) → form_of n ≡ x → (f : Form) × (form_of n ≡ Some f)
    go (Some f) q = (f, q)
    go None q = absurd (h ((none_exactly n).0 q))

-- a text that was read, or refused with 1 to 8, is of a form;
of_a_form : (form : ℕ) (text words : List ℕ) {r : ReadAnswer} {after : List ℕ} → ReadPromise form text words r after
    → r.answer.number < 11 → (f : Form) × (form_of form ≡ Some f)
of_a_form form text words p z =
    known form (λ n. omega (arith, z, (read_11 form text words).1 n, ap (λ (a : Answer). a.number) (four p.0)))

-- a conversion that was accepted, or refused with 1 to 10, was between two
between_forms : (source target : ℕ) (text out : List ℕ) {r : ReadAnswer} {after : List ℕ} → ConvertPromise source target text out r after
    → r.answer.number < 11 → ((f : Form) × (form_of source ≡ Some f)) × ((g : Form) × (form_of target ≡ Some g))
between_forms source target text out p z =
    let never : NoForm source ⊎ NoForm target → ⊥ =
    λ n. omega (arith, z, (convert_11 source target text out).1 n, ap (λ (a : Answer). a.number) (four p.0)) in
    (known source (λ n. never (inl n)), known target (λ n. never (inr n)))

-- a text that was read is a run of as many elements
run_read : (form : ℕ) (f : Form) → form_of form ≡ Some f → (text words : List ℕ) {r : ReadAnswer} {after : List ℕ}
    → ReadPromise form text words r after → r.answer.number ≡ 0
    → (es : List Element) × RunOf (Spells f) text es × (r.answer.element ≡ length es) × (length text ≤ limit)
run_read form f q text words p z =
    let t = (read_tells form f q text words).is_0 (sym (ap (λ (a : Answer). a.number) (four p.0)) ∙ z) in
    (t.0, t.2, ap (λ (a : Answer). a.element) (four p.0 ∙ t.4), t.1)

-- what an accepted conversion tells: what the text means, and the octets that were written
record Accepted (source target : ℕ) (f g : Form) (text out : List ℕ) (r : Answer) (after : List ℕ) : Type 0 where
  converted : Converted source target f g text out
  wrote : take r.count after ≡ converted.octets
  elements : r.element ≡ length converted.meaning
  count : r.count ≡ length converted.octets

accepted_by : (source target : ℕ) (f g : Form) → form_of source ≡ Some f → form_of target ≡ Some g → (text out : List ℕ) {r : ReadAnswer}
    {after : List ℕ} → ConvertPromise source target text out r after → r.answer.number ≡ 0
    → Accepted source target f g text out r.answer after
accepted_by source target f g is_source is_target text out {r} p z =
    let is = four p.0 in
    let c = converted_means source target f g is_source is_target text out (sym (ap (λ (a : Answer). a.number) is) ∙ z) in
    let count : r.answer.count ≡ length c.octets = ap (λ (a : Answer). a.count) (is ∙ c.answers) in
    record {
      converted = c;
      wrote = ap₂ take count (p.1 ∙ c.writes) ∙ take-append_seam c.octets (drop (length c.octets) out);
      elements = ap (λ (a : Answer). a.element) (is ∙ c.answers);
      count = count;
    }

module _ (source target : ℕ) (s t : List ℕ) (within : length (s ++ t) ≤ limit) where
  -- Two texts that convert, joined, convert to the octets of each, joined, with room enough lent.
  pub joined_converts : (out₁ out₂ out : List ℕ) {r₁ r₂ r : ReadAnswer} {a₁ a₂ after : List ℕ}
      → ConvertPromise source target s out₁ r₁ a₁ → r₁.answer.number ≡ 0 → ConvertPromise source target t out₂ r₂ a₂
      → r₂.answer.number ≡ 0 → r₁.answer.count + r₂.answer.count ≤ length out → ConvertPromise source target (s ++ t) out r after
      → (r.answer
      ≡ answer 0 (r₁.answer.element + r₂.answer.element) (length (s ++ t)) (r₁.answer.count + r₂.answer.count))
      × (after ≡ over out (take r₁.answer.count a₁ ++ take r₂.answer.count a₂))
  joined_converts out₁ out₂ out {r₁} {r₂} p₁ z₁ p₂ z₂ room p =
      let b = between_forms source target s out₁ p₁ (omega arith) in
      let x = accepted_by source target b.0.0 b.1.0 b.0.1 b.1.1 s out₁ p₁ z₁ in
      let y = accepted_by source target b.0.0 b.1.0 b.0.1 b.1.1 t out₂ p₂ z₂ in
      let c = x.converted in
      let d = y.converted in
      let size : length (c.octets ++ d.octets) ≡ r₁.answer.count + r₂.answer.count =
      length-append c.octets d.octets ∙ ap₂ ◌+◌ (sym x.count) (sym y.count) in
      let e =
      joined_converted source target b.0.0 b.1.0 b.0.1 b.1.1 s t within c.meaning d.meaning c.means d.means
      c.held c.octets c.canonical d.octets out d.held d.canonical (omega (arith, size, room)) in
      let number : length (c.meaning ++ d.meaning) ≡ r₁.answer.element + r₂.answer.element =
      length-append c.meaning d.meaning ∙ ap₂ ◌+◌ (sym x.elements) (sym y.elements) in (
        four p.0 ∙ e.0 ∙ ap₂ (λ (n k : ℕ). answer 0 n (length (s ++ t)) k) number size,
        p.1 ∙ e.1 ∙ ap (over out) (ap₂ ◌++◌ (sym x.wrote) (sym y.wrote)),
      )

  -- A conversion whose second text is refused with 1 to 8 is refused as by itself, element number, place and count moved up, whatever the
  -- target holds: the first text need only be read.
  pub joined_convert_refused : (words out₂ out : List ℕ) {q r₂ r : ReadAnswer} {w a₂ after : List ℕ} → ReadPromise source s words q w
      → q.answer.number ≡ 0 → ConvertPromise source target t out₂ r₂ a₂ → 1 ≤ r₂.answer.number → r₂.answer.number ≤ 8
      → ConvertPromise source target (s ++ t) out r after →
      let a = r₂.answer in
      (r.answer ≡ answer a.number (q.answer.element + a.element) (length s + a.place) (length s + a.count)) × (after ≡ out)
  joined_convert_refused words out₂ out {q} {r₂} pq z p₂ low high p =
      let a : Answer = r₂.answer in
      let b = between_forms source target t out₂ p₂ (omega arith) in
      let f = b.0.0 in
      let g = b.1.0 in
      let first = run_read source f b.0.1 s words pq z in
      let v =
      (subst (λ (x : Answer). Tells same (RunOf (Respells f g) t) (ConvertingFault f g t) t out₂ x (convert_text source target t out₂))
      (sym (four p₂.0)) (convert_tells source target f g b.0.1 b.1.1 t out₂)).is_fault (omega arith) (omega arith)
      (λ i. omega arith) in
      let e =
      outcomes.joined_refused (reads f) s t first.0 a.number a.element a.place v.0
      (((read_meets f s).runs first.0).1 first.1)
      (((read_meets f t).faults a.number a.element a.place v.0).1 (by_reading f g v.2 high)) in
      let answered =
      (convert_exactly source target (s ++ t) out _ _).1
      (Formed.of_a_form b.0.1 (Formed.of_a_form b.1.1
      (Answered.fault within (ConvertingFault.reading (((read_meets f (s ++ t)).faults _ _ _ _).0 e))))) in
      let moved : count_of a.number (length s + v.0) ≡ length s + a.count =
      sym (count_is_place a.number (length s + v.0) high)
      ∙ ap (λ (i : ℕ). length s + i) (count_is_place a.number v.0 high ∙ sym v.3) in (
        four p.0 ∙ answered.0
            ∙ ap₂ (λ (n c : ℕ). answer a.number (n + a.element) (length s + a.place) c) (sym first.2) moved,
        p.1 ∙ answered.1,
      )

-- Two texts of one form that are read, joined, respell as the two respelt and joined, with room enough lent.
pub joined_respelt : (form : ℕ) (s t words₁ words₂ : List ℕ) → length (s ++ t) ≤ limit → {q₁ q₂ : ReadAnswer} {w₁ w₂ : List ℕ}
    → ReadPromise form s words₁ q₁ w₁ → q₁.answer.number ≡ 0 → ReadPromise form t words₂ q₂ w₂ → q₂.answer.number ≡ 0
    → (u : List ℕ) × (v : List ℕ) × ConvertsTo form form s q₁.answer.element u × ConvertsTo form form t q₂.answer.element v
    × ConvertsTo form form (s ++ t) (q₁.answer.element + q₂.answer.element) (u ++ v)
joined_respelt form s t words₁ words₂ within p₁ z₁ p₂ z₂ =
    let f = of_a_form form s words₁ p₁ (omega arith) in
    let x = run_read form f.0 f.1 s words₁ p₁ z₁ in
    let y = run_read form f.0 f.1 t words₂ p₂ z₂ in
    let c = respelt form f.0 f.1 s x.0 x.3 x.1 in
    let d = respelt form f.0 f.1 t y.0 y.3 y.1 in
    let both =
    joined_converted form form f.0 f.0 f.1 f.1 s t within x.0 y.0 x.1 y.1 (read_all_held f.0 x.1.1) c.0
    c.1 d.0 in (
      c.0,
      d.0,
      λ out r after h p. let e = c.2 out h in
          (four p.0 ∙ e.0 ∙ ap (λ (n : ℕ). answer 0 n (length s) (length c.0)) (sym x.2), p.1 ∙ e.1),
      λ out r after h p. let e = d.2 out h in
          (four p.0 ∙ e.0 ∙ ap (λ (n : ℕ). answer 0 n (length t) (length d.0)) (sym y.2), p.1 ∙ e.1),
      λ out r after h p. let e = both out (read_all_held f.0 y.1.1) d.1 h in (
        four p.0 ∙ e.0 ∙ ap (λ (n : ℕ). answer 0 n (length (s ++ t)) (length (c.0 ++ d.0)))
            (length-append x.0 y.0 ∙ ap₂ ◌+◌ (sym x.2) (sym y.2)),
        p.1 ∙ e.1,
      ),
    )

-- If a text converts, converting the octets that were written to any third form gives the octets of the direct conversion, or the same
-- number at the same element. The one premise is the limit, so that what was written is read again; the room is the same. The third may
-- be any number, also no form's: then both give 11.
module _ (source second third : ℕ) (text out last : List ℕ) where
  both_11 : (s : List ℕ) (f g : Form) → form_of source ≡ Some f → form_of second ≡ Some g → NoForm third
      → SameConversion (convert_answer source third text (length last)) (convert_answer second third s (length last))
      (convert_text source third text last) (convert_text second third s last)
  both_11 s f g q p n =
      let a = (convert_exactly source third text last _ _).1 (Formed.of_a_form q (Formed.no_form n)) in
      let b = (convert_exactly second third s last _ _).1 (Formed.of_a_form p (Formed.no_form n)) in
      rw (a.0, a.1, b.0, b.1) record { number = refl; element = refl; count = refl; octets = refl }

  pub converts_again : {r r₁ r₂ : ReadAnswer} {after a₁ a₂ : List ℕ} → ConvertPromise source second text out r after
      → r.answer.number ≡ 0 → length (take r.answer.count after) ≤ limit → ConvertPromise source third text last r₁ a₁
      → ConvertPromise second third (take r.answer.count after) last r₂ a₂ → SameConversion r₁.answer r₂.answer a₁ a₂
  converts_again {r} {after = after} p z l p₁ p₂ =
      rw (four p₁.0, p₁.1, four p₂.0, p₂.1) (go (form_of third) refl)
    where
      s : List ℕ
      s = take r.answer.count after

      b : ((f : Form) × (form_of source ≡ Some f)) × ((g : Form) × (form_of second ≡ Some g))
      b = between_forms source second text out p (omega arith)

      w : Accepted source second b.0.0 b.1.0 text out r.answer after
      w = accepted_by source second b.0.0 b.1.0 b.0.1 b.1.1 text out p z

      go : (x : Option Form) → form_of third ≡ x
          → SameConversion (convert_answer source third text (length last)) (convert_answer second third s (length last))
          (convert_text source third text last) (convert_text second third s last)
      go (Some h) q =
          composes source second third b.0.0 b.1.0 h b.0.1 b.1.1 q text s last w.converted.meaning
          w.converted.within l w.converted.means
          (subst (λ (u : List ℕ). RunOf (CanonicalElement b.1.0) u w.converted.meaning) (sym w.wrote) w.converted.canonical)
      go None q = both_11 s b.0.0 b.1.0 b.0.1 b.1.1 ((none_exactly third).0 q)

-- ======== Document 02, No. 5: what a reading carries, and a conversion

-- Of a reading the fifth number is at most the number of elements;
pub read_few : (form : ℕ) (text words : List ℕ) {r : ReadAnswer} {after : List ℕ} → ReadPromise form text words r after
    → r.answer.number ≡ 0 → r.respelled ≤ r.answer.element
read_few form text words p z =
    let f = of_a_form form text words p (omega arith) in
    let x = run_read form f.0 f.1 text words p z in
    let few = respelled.respelled_few f.0 text x.0 (((read_meets f.0 text).runs x.0).1 x.1) in
    omega (arith, x.2, respelled.reading_carries form text (length words) p.0 f.0 f.1 z, few)

-- and "It adds up over joined texts".
pub joined_readings : (form : ℕ) (s t words₁ words₂ words : List ℕ) {q₁ q₂ q : ReadAnswer} {w₁ w₂ w : List ℕ}
    → ReadPromise form s words₁ q₁ w₁ → q₁.answer.number ≡ 0 → ReadPromise form t words₂ q₂ w₂ → q₂.answer.number ≡ 0
    → ReadPromise form (s ++ t) words q w → q.answer.number ≡ 0 → q.respelled ≡ q₁.respelled + q₂.respelled
joined_readings form s t words₁ words₂ words p₁ z₁ p₂ z₂ p z =
    let f = of_a_form form s words₁ p₁ (omega arith) in
    let x = run_read form f.0 f.1 s words₁ p₁ z₁ in
    let one = respelled.reading_carries form s (length words₁) p₁.0 f.0 f.1 z₁ in
    let other = respelled.reading_carries form t (length words₂) p₂.0 f.0 f.1 z₂ in
    respelled.reading_carries form (s ++ t) (length words) p.0 f.0 f.1 z
    ∙ respelled.respelled_joined f.0 s t x.0 x.1
    ∙ sym (ap₂ ◌+◌ one other)

module _ (source target : ℕ) (text out : List ℕ) {r : ReadAnswer} {after : List ℕ} (p : ConvertPromise source target text out r after) where
  -- An accepted conversion carries the number that reading its text with room enough carries: "elements not canonical in the source form".
  pub convert_carries : r.answer.number ≡ 0 → (m : ReadAnswer) → MeasurePromise source text m
      → (m.answer.number ≡ 0) × (r.respelled ≡ m.respelled)
  convert_carries z m q =
      let b = between_forms source target text out p (omega arith) in
      let c = (accepted_by source target b.0.0 b.1.0 b.0.1 b.1.1 text out p z).converted in
      let read = (accepts_exactly source b.0.0 b.0.1 text text).1 (c.meaning, c.within, c.means, words_fit c.means.1) in
      let accepts = ap (λ (x : Answer). x.number) (four q) ∙ read in
      (accepts, accepted_carries _ _ p.0 z ∙ sym (accepted_carries _ _ q accepts))

  -- It is exactly the pieces of the run that the text is which are not canonical,
  pub convert_counts : r.answer.number ≡ 0 → (f : Form) → form_of source ≡ Some f → {ps : List (List ℕ)} {es : List Element}
      → Run (Spells f) text ps es → (k : ℕ) → (r.respelled ≡ k) ↔ Apart (CanonicalElement f) ps es k
  convert_counts z f q run k =
      let c = accepted_carries _ _ p.0 z ∙ respelled.respelled_is source f q text in
      (λ e. (respelled.respelled_exactly f run k).0 (sym c ∙ e), λ a. c ∙ (respelled.respelled_exactly f run k).1 a)

  -- and at most the number of elements.
  pub convert_few : r.answer.number ≡ 0 → r.respelled ≤ r.answer.element
  convert_few z =
      let b = between_forms source target text out p (omega arith) in
      let f = b.0.0 in
      let c = (accepted_by source target f b.1.0 b.0.1 b.1.1 text out p z).converted in
      let n = ap (λ (x : Answer). x.element) (four p.0 ∙ c.answers) in
      let fifth = accepted_carries _ _ p.0 z ∙ respelled.respelled_is source f b.0.1 text in
      omega (arith, n, fifth, respelled.respelled_few f text c.meaning (((read_meets f text).runs c.meaning).1 c.means))

  -- It is 0 exactly where converting back, with room for the text, gives the text octet for octet. What was written is within the limit, so
  -- that it is read again.
  pub had_back : r.answer.number ≡ 0 → length (take r.answer.count after) ≤ limit → (back : List ℕ) → length text ≤ length back
      → {q : ReadAnswer} {again : List ℕ} → ConvertPromise target source (take r.answer.count after) back q again
      → (r.respelled ≡ 0) ↔ ((q.answer.number ≡ 0) × (take q.answer.count again ≡ text))
  had_back z l back room {q} {again} p' = (forth, λ h. fifth ∙ respelled.respelled_canonical f (canonical h).1)
    where
      b : ((f : Form) × (form_of source ≡ Some f)) × ((g : Form) × (form_of target ≡ Some g))
      b = between_forms source target text out p (omega arith)

      f : Form
      f = b.0.0

      g : Form
      g = b.1.0

      there : Accepted source target f g text out r.answer after
      there = accepted_by source target f g b.0.1 b.1.1 text out p z

      fifth : r.respelled ≡ respelled_before f text
      fifth = accepted_carries _ _ p.0 z ∙ respelled.respelled_is source f b.0.1 text

      forth : r.respelled ≡ 0 → (q.answer.number ≡ 0) × (take q.answer.count again ≡ text)
      forth e =
          let c = there.converted in
          let s = subst (λ (u : List ℕ). RunOf (CanonicalElement g) u c.meaning) (sym there.wrote) c.canonical in
          let a =
          convert_accepted target source g f b.1.1 b.0.1 _ text back c.meaning l (s.0, canonical_run g s.1)
          (read_all_held f c.means.1) ((respelled.respelled_none f c.means).0 (sym fifth ∙ e)) room in (
            ap (λ (x : Answer). x.number) (four p'.0 ∙ a.0),
            ap₂ take (ap (λ (x : Answer). x.count) (four p'.0 ∙ a.0)) (p'.1 ∙ a.1) ∙ take-append_seam text (drop (length text) back),
          )

      canonical : (q.answer.number ≡ 0) × (take q.answer.count again ≡ text)
          → (es : List Element) × RunOf (CanonicalElement f) text es
      canonical h =
          let a = accepted_by target source g f b.1.1 b.0.1 (take r.answer.count after) back p' h.0 in
          let octets = sym a.wrote ∙ h.1 in
          let m = a.converted.meaning in
          (m, subst (λ (u : List ℕ). RunOf (CanonicalElement f) u m) octets a.converted.canonical)

  -- It "is 0 on a refusal".
  pub refused_carries_0 : (r.answer.number ≡ 0 → ⊥) → r.respelled ≡ 0
  refused_carries_0 = refused_carries _ _ p.0

-- the number of a text behind one that is read, by the number of its form
joined_in : (form : ℕ) (f : Form) → form_of form ≡ Some f → (s t : List ℕ) (es : List Element) → RunOf (Spells f) s es
    → respelled_in form (s ++ t) ≡ respelled_in form s + respelled_in form t
joined_in form f q s t es r =
    respelled.respelled_is form f q (s ++ t)
    ∙ respelled.respelled_joined f s t es r
    ∙ sym (ap₂ ◌+◌ (respelled.respelled_is form f q s) (respelled.respelled_is form f q t))

-- "It adds up over joined texts", of conversions: as `joined_converts`, of the fifth number.
pub joined_carries : (source target : ℕ) (s t : List ℕ) → length (s ++ t) ≤ limit → (out₁ out₂ out : List ℕ) {r₁ r₂ r : ReadAnswer}
    {a₁ a₂ after : List ℕ} → ConvertPromise source target s out₁ r₁ a₁ → r₁.answer.number ≡ 0
    → ConvertPromise source target t out₂ r₂ a₂ → r₂.answer.number ≡ 0 → r₁.answer.count + r₂.answer.count ≤ length out
    → ConvertPromise source target (s ++ t) out r after → r.respelled ≡ r₁.respelled + r₂.respelled
joined_carries source target s t within out₁ out₂ out p₁ z₁ p₂ z₂ room p =
    let z = ap (λ (x : Answer). x.number) (joined_converts source target s t within out₁ out₂ out p₁ z₁ p₂ z₂ room p).0 in
    let b = between_forms source target s out₁ p₁ (omega arith) in
    let f = b.0.0 in
    let c = (accepted_by source target f b.1.0 b.0.1 b.1.1 s out₁ p₁ z₁).converted in
    accepted_carries _ _ p.0 z
    ∙ joined_in source f b.0.1 s t c.meaning c.means
    ∙ sym (ap₂ ◌+◌ (accepted_carries _ _ p₁.0 z₁) (accepted_carries _ _ p₂.0 z₂))

-- ======== Document 02, No. 6: control sequences with the top bit set

-- what comes of a number's form is the same where it is the same in each form
same_in : {A : Type 0} (y : Option Form) (x : A) (k l : Form → A) → ((g : Form) → k g ≡ l g) → in_form y x k ≡ in_form y x l
same_in (Some g) x k l h = h g
same_in None x k l h = refl

module _ (form : ℕ) (f : Form) (is_form : form_of form ≡ Some f) {s t : List ℕ} (raised : Raised f s t) where
  -- A text with any octets 21 to 7E of its sequences, behind their 9B, put into the upper half reads to the same words, or is refused with
  -- the same number at the same element and octet;
  pub raised_reads : (words : List ℕ) {q r : ReadAnswer} {w v : List ℕ} → ReadPromise form s words q w → ReadPromise form t words r v
      → (q.answer ≡ r.answer) × (w ≡ v)
  unfolding read_answer read_words
  raised_reads words p p' =
      let size = raised_length f raised in
      let means = raised_outcome f raised in
      let answers : read_answer form s (length words) ≡ read_answer form t (length words) =
      rw is_form
      (ap₂ (λ (n : ℕ) (x : Outcome Element). pick (leb n limit) (answer_of words_of n (length words) x) (bare 12)) size means) in
      let writes : read_words form s words ≡ read_words form t words =
      rw is_form (ap₂ (λ (n : ℕ) (x : Outcome Element). pick (leb n limit) (written_of words_of words x) words) size means) in
      (four p.0 ∙ answers ∙ sym (four p'.0), p.1 ∙ writes ∙ sym p'.1)

  -- it converts to the same octets, within its form too, or is refused the same;
  pub raised_converts : (target : ℕ) (out : List ℕ) {q r : ReadAnswer} {w v : List ℕ} → ConvertPromise form target s out q w
      → ConvertPromise form target t out r v → (q.answer ≡ r.answer) × (w ≡ v)
  unfolding convert_answer convert_text
  raised_converts target out p p' =
      let size = raised_length f raised in
      let gives : (g : Form) → convert_in f g s ≡ convert_in f g t = λ g. converts_raised f g raised in
      let answers : convert_answer form target s (length out) ≡ convert_answer form target t (length out) =
      rw is_form (same_in (form_of target) _ _ _
      (λ g. ap₂ (λ (n : ℕ) (x : Outcome (List ℕ)). pick (leb n limit) (answer_of same n (length out) x) (bare 12)) size (gives g))) in
      let writes : convert_text form target s out ≡ convert_text form target t out =
      rw is_form (same_in (form_of target) _ _ _
      (λ g. ap₂ (λ (n : ℕ) (x : Outcome (List ℕ)). pick (leb n limit) (written_of same out x) out) size (gives g))) in
      (four p.0 ∙ answers ∙ sym (four p'.0), p.1 ∙ writes ∙ sym p'.1)

  -- and where the text is canonical, converting the other within the form gives the text back, in the lower half, with room for it.
  pub raised_home : (out : List ℕ) (es : List Element) → RunOf (CanonicalElement f) s es → length s ≤ limit → length s ≤ length out
      → {r : ReadAnswer} {v : List ℕ} → ConvertPromise form form t out r v
      → (r.answer ≡ answer 0 (length es) (length s) (length s)) × (take (length s) v ≡ s)
  raised_home out es c l h {r} {v} p =
      let home = respelt_again form f is_form s out es l c h in
      let both = raised_converts form out (refl, refl) p in
      (sym both.0 ∙ home.0, ap (take (length s)) (sym both.1 ∙ home.1) ∙ take-append_seam s (drop (length s) out))

-- ======== "Sixteen readings to prove": all of them and only these, as one table under one claim, by computation

pub sixteen_readings : AllHold readings
sixteen_readings = sixteen
