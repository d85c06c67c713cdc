-- What a loop that goes through the pages of a case knows at a page; and what measuring them answers.
-- Assumes nothing.
use Prim.Native.Nat.{ℕ, ◌+◌, ◌*◌, ◌≤◌, ◌<◌}
use mathlib.Core.Path.{◌≡◌, refl, sym, ap, ap₂, ◌∙◌}
use mathlib.Core.List.{List, [], ◌∷◌, ◌++◌, append_assoc, append-nil}
use native.Mathlib.Nat.{zero-add, add-zero, add_assoc}
use native.Mathlib.Omega.{arith}
use lib.ListN.{length, drop, length-append, drop_of_length-le}
use Rattle.run.specs.Loops.{Numbered}
use Rattle.run.specs.Head.{Outcome, accepted, refusal}
use Rattle.run.specs.declared.Answer.{Answer}
use Rattle.run.specs.declared.ReadAnswer.{ReadAnswer}
use Rattle.run.specs.Answers.{answer, given, roomy_answer}
use Rattle.run.proofs.Answers.{given_length, accepted_carries, carrying_none}
use Rattle.run.proofs.Loops.{run_few}
use Rattle.run.proofs.Rooms.{numbered}
use Rattle.sorts.specs.declared.Form.{Form}
use Rattle.std.specs.Prelude.{Some}
use Rattle.sorts.specs.Forms.{form_of}
use Rattle.element_words.specs.declared.Element.{Element}
use Rattle.element_words.specs.Words.{words_of}
use Rattle.element_reading.proofs.Reader.{reads}
use Rattle.text_loops.specs.Fronts.{read_in}
use Rattle.text_loops.proofs.FewWords.{few_words}
use Rattle.text_reading.specs.ReadAnswers.{respelled_in}
use Rattle.text_reading.proofs.ReadTexts.{accepted_exactly, measure_is}
use Rattle.text_reading.proofs.Respelled.{respelled_is, respelled_few}
use Rattle.case_table.specs.Layout.{lengths_in, total}
use Rattle.case_table.specs.Check.{says, header_of, pages_of}
use Rattle.case_table.specs.PagePlaces.{Right, PartOf, total_before}
use Rattle.case_table.proofs.PagePlaces.{right_header, pages_counted, start_next, page_next}
use Rattle.tlx.specs.declared.CaseAnswer.{CaseAnswer}
use Rattle.tlx.specs.CaseReading.{CaseOutcome, all, fault, join_pages, after_page, read_page, read_pages, read_case, alone_answer}
use Rattle.tlx.specs.CaseReading.{alone_reading, case_measured, pages_respelled, case_respelled, with_page, carrying_case}
use Rattle.tlx.specs.CaseReadingNumbers.{beside}

-- ---- one page

-- a page of a known form is read as a text of it
pub page_read : (form : ℕ) {f : Form} → form_of form ≡ Some f → (octets : List ℕ) → read_page (form, octets) ≡ read_in f octets
page_read form q octets = simp q

-- a page within the limit is answered by its reading alone: 12 is not asked
pub alone_is : (form : ℕ) {f : Form} → form_of form ≡ Some f → (octets : List ℕ) → length octets ≤ 0x100000
    → alone_answer (form, octets) ≡ roomy_answer words_of (length octets) (read_in f octets)
alone_is form {f} q octets h = measure_is form f q octets h

-- a refusal has a number
pub has_number : (f : Form) (octets : List ℕ) {x : Outcome Element} → read_in f octets ≡ x → Numbered x
has_number f octets q = rw q at (numbered (reads f) octets)

-- ---- joined pages

pub join_none : (x : CaseOutcome) → join_pages [] 0 x ≡ x
join_none (all fs) = refl
join_none (fault g r n p d) = simp zero-add

pub join_join : (es fs : List Element) (k l : ℕ) (x : CaseOutcome) → join_pages es k (join_pages fs l x) ≡ join_pages (es ++ fs) (k + l) x
join_join es fs k l (all gs) = simp append_assoc
join_join es fs k l (fault g r n p d) = simp add_assoc

-- ---- page after page

-- a case whose header and table are right comes to what its pages come to
pub case_is : (case : List ℕ) (form pages : ℕ) → header_of case ≡ says form pages → read_case case ≡ read_pages (pages_of case)
unfolding read_case
case_is case form pages q = simp q

-- up to a page, which begins at `start`, every page is accepted, and es are their elements
pub record Read (case : List ℕ) (form pages start page : ℕ) (es : List Element) : Type 0 where
  pub right : Right case form pages
  pub inside : page ≤ pages
  pub begins : start ≡ 8 + 2 * pages + total_before case page
  pub small : start ≤ 8 + 2 * pages + 65535 * page
  pub elements : length es ≤ start
  pub words : length (given words_of es) ≤ 34 * start
  pub sofar : read_case case ≡ join_pages es page (read_pages (drop page (pages_of case)))

pub read_start : {case : List ℕ} {form pages start : ℕ} → header_of case ≡ says form pages
    → start ≡ 8 + 2 * pages + total_before case 0 → Read case form pages start 0 []
unfolding given lengths_in total
read_start {case} {form} {pages} q s =
    record {
      right = right_header case form pages q;
      inside = omega arith;
      begins = s;
      small = omega (arith, s);
      elements = omega arith;
      words = omega arith;
      sofar = case_is case form pages q ∙ sym (join_none _);
    }

-- the numbers stay small
pub read_small : {case : List ℕ} {form pages start page : ℕ} {es : List Element} → Read case form pages start page es
    → (length es ≤ 16777480) × (length (given words_of es) ≤ 34 * 16777480) × (start ≤ 16777480)
read_small was =
    omega (arith, was.elements, was.words, was.small, was.right.few, was.inside)

module _ {case : List ℕ} {form pages start page : ℕ} {es : List Element} (was : Read case form pages start page es) where
  abbrev f : Form
  f = was.right.the_form

  module _ (h : page < pages) {part : List ℕ} (e : PartOf case page start part) where
    -- it is the first of those that are left
    pub part_next : drop page (pages_of case) ≡ (form, part) ∷ drop (page + 1) (pages_of case)
    part_next =
        page_next was.right h was.begins e.said ∙ ap (λ (l : List ℕ). (form, l) ∷ drop (page + 1) (pages_of case)) (sym e.is)

    page_on : read_pages (drop page (pages_of case)) ≡ after_page (read_in f part) (read_pages (drop (page + 1) (pages_of case)))
    unfolding read_pages
    page_on =
        ap read_pages part_next
        ∙ ap (λ (x : Outcome Element). after_page x (read_pages (drop (page + 1) (pages_of case))))
        (page_read form was.right.is_form part)

    on : (x : Outcome Element) → read_in f part ≡ x
        → read_case case ≡ join_pages es page (after_page x (read_pages (drop (page + 1) (pages_of case))))
    on x q =
        was.sofar
        ∙ ap (join_pages es page) (page_on ∙ ap (λ (y : Outcome Element). after_page y (read_pages (drop (page + 1) (pages_of case)))) q)

    -- the page is accepted
    pub read_turn : (fs : List Element) → read_in f part ≡ accepted fs → Read case form pages (start + length part) (page + 1) (es ++ fs)
    read_turn fs q =
        let n = run_few (reads f) (few_words f) ((accepted_exactly f part fs).0 q).1 in
        record {
          right = was.right;
          inside = omega arith;
          begins = start_next was.right h was.begins e.said;
          small = omega (arith, was.small, e.short);
          elements = omega (arith, was.elements, n.few, length-append es fs);
          words = omega (arith, was.words, n.short, given_length words_of es fs);
          sofar = on (accepted fs) q ∙ join_join es fs page 1 (read_pages (drop (page + 1) (pages_of case)));
        }

    -- the page is refused
    pub read_stop : (r n p d : ℕ) → read_in f part ≡ refusal r n p d → read_case case ≡ fault page r n p d
    read_stop r n p d q = on (refusal r n p d) q ∙ ap (λ (g : ℕ). fault g r n p d) (add-zero page)

  -- no page is left
  pub read_all : pages ≤ page → read_case case ≡ all es
  unfolding read_pages
  read_all h =
      let none : drop page (pages_of case) ≡ [] = drop_of_length-le (pages_of case) {i = page} (omega (arith, pages_counted was.right)) in
      was.sofar ∙ ap (λ (l : List (ℕ × List ℕ)). join_pages es page (read_pages l)) none ∙ ap all (append-nil es)

  pub read_end : pages ≤ page → start ≡ length case
  read_end h =
      let e : page ≡ pages = omega (arith, was.inside) in
      was.begins ∙ ap (λ (k : ℕ). 8 + 2 * pages + total_before case k) e ∙ sym was.right.size

-- ---- the fifth number

-- the four numbers of an answer and its page
abbrev pub without_fifth : CaseAnswer → CaseAnswer
without_fifth a = beside a.page a.answer

-- a refusal carries 0
pub carried_none : (a b : CaseAnswer) (k : ℕ) → without_fifth a ≡ b → (a.answer.number ≡ 0 → ⊥) → without_fifth a ≡ carrying_case b k
carried_none a b k q n = ap (with_page a.page) (carrying_none a.answer k n) ∙ ap (λ (x : CaseAnswer). carrying_case x k) q

-- ---- measuring

pub record Measured (case : List ℕ) (form pages start page n count k : ℕ) : Type 0 where
  pub es : List Element
  pub read : Read case form pages start page es
  pub number : n ≡ length es
  pub counted : count ≡ length (given words_of es)
  pub respelled : k ≤ n
  pub added : case_respelled case ≡ k + pages_respelled (drop page (pages_of case))

pub measure_start : {case : List ℕ} {form pages start : ℕ} → header_of case ≡ says form pages
    → start ≡ 8 + 2 * pages + total_before case 0 → Measured case form pages start 0 0 0 0
unfolding given case_respelled
measure_start {case} q s =
    record {
      es = [];
      read = read_start q s;
      number = refl;
      counted = refl;
      respelled = omega arith;
      added = simp q (sym (zero-add (pages_respelled (pages_of case))));
    }

module _ {case : List ℕ} {form pages start page n count respelled : ℕ} (was : Measured case form pages start page n count respelled) where
  pub measured_small : (n ≤ 16777480) × (count ≤ 34 * 16777480) × (start ≤ 16777480) × (respelled ≤ 16777480)
  measured_small = omega (arith, was.number, was.counted, was.respelled, read_small was.read)

  module _ (h : page < pages) {part : List ℕ} (e : PartOf case page start part)
      {r : ReadAnswer} (all-five : r ≡ alone_reading (form, part)) where
    abbrev m : Answer
    m = r.answer

    a : m ≡ alone_answer (form, part)
    a = ap (λ (x : ReadAnswer). x.answer) all-five

    abbrev g : Form
    g = was.read.right.the_form

    by_page : m ≡ roomy_answer words_of (length part) (read_in g part)
    by_page = a ∙ alone_is form was.read.right.is_form part (omega (arith, e.short))

    -- its fifth number, of an accepted page: the page's own, and at most its elements
    fifth : m.number ≡ 0 → r.respelled ≡ respelled_in form part
    fifth = accepted_carries _ _ all-five

    fifth_few : (fs : List Element) → read_in g part ≡ accepted fs → respelled_in form part ≤ length fs
    fifth_few fs q = omega (arith, respelled_is form g was.read.right.is_form part, respelled_few g part fs q)

    on_page : case_respelled case ≡ respelled + (respelled_in form part + pages_respelled (drop (page + 1) (pages_of case)))
    unfolding pages_respelled
    on_page =
        was.added
        ∙ ap (λ (l : List (ℕ × List ℕ)). respelled + pages_respelled l) (part_next was.read h e)

    turn_by : (x : Outcome Element) → read_in g part ≡ x → m ≡ roomy_answer words_of (length part) x → m.number ≡ 0
        → Measured case form pages (start + length part) (page + 1) (n + m.element) (count + m.count) (respelled + r.respelled)
    turn_by (accepted fs) q b z =
        let i = ap (λ (y : Answer). y.element) b in
        let c = ap (λ (y : Answer). y.count) b in
        record {
          es = was.es ++ fs;
          read = read_turn was.read h e fs q;
          number = omega (arith, was.number, i, length-append was.es fs);
          counted = omega (arith, was.counted, c, given_length words_of was.es fs);
          respelled = omega (arith, was.respelled, fifth z, fifth_few fs q, i);
          added = omega (arith, on_page, fifth z);
        }
    turn_by (refusal r k p d) q b z =
        let i = ap (λ (y : Answer). y.number) b in absurd (omega (arith, i, has_number g part q))

    stop_by : (x : Outcome Element) → read_in g part ≡ x → m ≡ roomy_answer words_of (length part) x → (m.number ≡ 0 → ⊥)
        → beside page m ≡ case_measured (length case) (read_case case)
    stop_by (accepted fs) q b z = absurd (z (ap (λ (y : Answer). y.number) b))
    stop_by (refusal r k p d) q b z =
        ap (beside page) b ∙ sym (ap (case_measured (length case)) (read_stop was.read h e r k p d q))

    pub measure_turn : m.number ≡ 0
        → Measured case form pages (start + length part) (page + 1) (n + m.element) (count + m.count) (respelled + r.respelled)
    measure_turn = turn_by (read_in g part) refl by_page

    pub measure_stop : (m.number ≡ 0 → ⊥)
        → beside page m ≡ carrying_case (case_measured (length case) (read_case case)) (case_respelled case)
    measure_stop z = carried_none (beside page m) _ _ (stop_by (read_in g part) refl by_page z) z

  all_measured : pages ≤ page → ◌≡◌ {A = CaseAnswer} (beside 0 (answer 0 n start count)) (case_measured (length case) (read_case case))
  all_measured h = rw (read_all was.read h, was.number, was.counted, read_end was.read h)

  all_added : pages ≤ page → respelled ≡ case_respelled case
  unfolding pages_respelled
  all_added h =
      let none : drop page (pages_of case) ≡ [] =
      drop_of_length-le (pages_of case) {i = page} (omega (arith, pages_counted was.read.right)) in
      sym (was.added ∙ ap (λ (l : List (ℕ × List ℕ)). respelled + pages_respelled l) none ∙ add-zero respelled)

  pub measure_all : pages ≤ page
      → ◌≡◌ {A = CaseAnswer} (record { answer = answer 0 n start count; respelled = respelled; page = 0 })
      (carrying_case (case_measured (length case) (read_case case)) (case_respelled case))
  measure_all h = ap₂ carrying_case (all_measured h) (all_added h)
