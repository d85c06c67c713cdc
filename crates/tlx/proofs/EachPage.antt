-- The theorems of record of one page of a case: what `page_elements` is worth, in document 01's words (`PageTable`). Reading a case and
-- reading each of its pages agree; and so do cases of joined pages.
-- Assumes nothing.
use Prim.Native.Nat.{ℕ, zero, suc, ◌≤◌, ◌<◌}
use mathlib.Core.Path.{◌≡◌, refl, sym, ap, ap₂, subst, ◌∙◌}
use mathlib.Core.Logic.{◌↔◌}
use mathlib.Core.Bool.{Bool, true, false}
use mathlib.Core.List.{List, [], ◌∷◌, ◌++◌}
use native.Mathlib.Nat.{le_of_suc-le-suc}
use native.Mathlib.Omega.{arith}
use lib.Dec.{ltb}
use lib.ListN.{length, get_or, length-append, get_or-append}
use lib.Seq.{get_or_at}
use borrow.Author.Tests.{ltb-true, ltb-false}
use Rattle.run.specs.Head.{Outcome, accepted, refusal}
use Rattle.run.specs.Grammar.{RunOf}
use Rattle.run.specs.declared.Answer.{Answer}
use Rattle.run.specs.declared.ReadAnswer.{ReadAnswer}
use Rattle.run.specs.Answers.{answer, bare, count_of, carrying, given, roomy_answer}
use Rattle.run.proofs.Answers.{carrying_none}
use Rattle.run.proofs.Members.{member_at}
use Rattle.sorts.specs.declared.Form.{Form}
use Rattle.std.specs.Prelude.{Some}
use Rattle.sorts.specs.Forms.{form_of}
use Rattle.sorts.proofs.FormNumbers.{is_found}
use Rattle.element_words.specs.declared.Element.{Element}
use Rattle.element_words.specs.Words.{words_of}
use Rattle.element_reading.specs.Grammar.{Spells}
use Rattle.element_reading.specs.ElementNumbers.{reading}
use Rattle.element_reading.proofs.Places.{reading_number}
use Rattle.text_loops.specs.Fronts.{read_in, respelled_before}
use Rattle.text_reading.specs.ReadAnswers.{read_reading}
use Rattle.text_reading.specs.ReadingNumbers.{ReadingFault}
use Rattle.text_reading.proofs.Respelled.{respelled_is, respelled_exactly}
use Rattle.text_reading.proofs.ReadTexts as text
use Rattle.std.proofs.Common.{Option, Some, None, Ok, Err}
use Rattle.case_table.specs.HeaderNumbers.{fault_number}
use Rattle.case_table.specs.Check.{Said, header_of}
use Rattle.case_table.specs.Grammar.{Octets, CaseOf, Turned}
use Rattle.case_table.proofs.Checked.{turned_exactly}
use Rattle.case_table.proofs.Laid.{laid_exactly}
use Rattle.case_table.proofs.Promised.{turned_number}
use Rattle.tlx.specs.declared.CaseAnswer.{CaseAnswer}
use Rattle.tlx.specs.CaseReading.{all, join_pages, read_case, page_answer}
use Rattle.tlx.specs.CaseReadingNumbers.{AllSpelt, none, more, Faulty, AcceptedCase, RefusedCase, of_case, of_page}
use Rattle.tlx.specs.CaseReadingNumbers.{page_values, PageTable}
use Rattle.tlx.specs.Promises.{PageElementsPromise, ReadCasePromise}
use Rattle.tlx.proofs.Pages.{alone_is}
use Rattle.tlx.proofs.Cases.{joined, pages_accepted, read_laid, page_answers, no_page_answers, turned_page_answers}
use Rattle.tlx.proofs.Cases.{read_case_tells}

-- After a case that is accepted, the pages of another are read in one case with its own as in theirs: elements joined, or the page's number
-- moved up.
pub joined_cases : (form : ℕ) (f : Form) → form_of form ≡ Some f → (case next both : List ℕ) (pages others : List (List ℕ))
    → CaseOf case form pages → CaseOf next form others → CaseOf both form (pages ++ others)
    → (es : List Element) → read_case case ≡ all es → read_case both ≡ join_pages es (length pages) (read_case next)
joined_cases form f q case next both pages others a b c es e =
    let s = (pages_accepted form f q pages es).0 (sym (read_laid case form f pages q a) ∙ e) in
    read_laid both form f (pages ++ others) q c
    ∙ joined form f q s others
    ∙ ap (join_pages es (length pages)) (sym (read_laid next form f others q b))

-- each of the pages is a run of elements
spelt_at : {f : Form} {pages : List (List ℕ)} {es : List Element} → AllSpelt f pages es → (k : ℕ) → k < length pages
    → (fs : List Element) × RunOf (Spells f) (get_or pages k []) fs
spelt_at none k h = absurd (omega arith)
spelt_at (more {es = es} r s) zero h = (es, r)
spelt_at (more r s) (suc k) h = spelt_at s k (le_of_suc-le-suc h)

-- and pages that each are a run of elements are all spelt
all_spelt : (f : Form) (pages : List (List ℕ)) → ((k : ℕ) → k < length pages → (fs : List Element) × RunOf (Spells f) (get_or pages k []) fs)
    → (es : List Element) × AllSpelt f pages es
all_spelt f [] each = ([], none)
all_spelt f (page ∷ pages) each =
    let first = each 0 (omega arith) in
    let others = all_spelt f pages (λ k h. each (suc k) (omega arith)) in
    (first.0 ++ others.0, more first.1 others.1)

-- a page's refusal has a number
fault_numbered : {f : Form} {page : List ℕ} {r n p d : ℕ} → ReadingFault f page r n p d → r ≡ 0 → ⊥
fault_numbered {f} i z = omega (arith, reading_number f i.here)

module _ (case : List ℕ) (form : ℕ) (f : Form) (is_form : form_of form ≡ Some f) (pages : List (List ℕ)) (laid : CaseOf case form pages) where
  -- A page of a case is within the limit, so it is answered by its reading alone, as a text of its octets: 12 is not asked.
  pub page_read : (k : ℕ) → k < length pages
      → page_answer case k
      ≡ Some (carrying (roomy_answer words_of (length (get_or pages k [])) (read_in f (get_or pages k [])))
      (respelled_before f (get_or pages k [])))
  page_read k h =
      let page = get_or pages k [] in
      let s = laid.short page (member_at pages [] k h) in
      page_answers case form pages laid k h
      ∙ ap₂ (λ (a : Answer) (n : ℕ). Some (carrying a n)) (alone_is form is_form page (omega (arith, s)))
      (respelled_is form f is_form page)

  -- the five numbers of a page's answer
  pub page_numbers : (k : ℕ) → k < length pages
      → page_values (page_answer case k)
      ≡ carrying (roomy_answer words_of (length (get_or pages k [])) (read_in f (get_or pages k []))) (respelled_before f (get_or pages k [])) ∷ []
  page_numbers k h = ap page_values (page_read k h)

  -- a page that is a run of elements: 0, its elements, its length, its words, and how many of its elements are not canonical
  pub page_accepted : (k : ℕ) → k < length pages → (fs : List Element) → RunOf (Spells f) (get_or pages k []) fs
      → page_answer case k
      ≡ Some (reading (answer 0 (length fs) (length (get_or pages k [])) (length (given words_of fs))) (respelled_before f (get_or pages k [])))
  page_accepted k h fs r =
      page_read k h
      ∙ ap
      (λ (x : Outcome Element). Some (carrying (roomy_answer words_of (length (get_or pages k [])) x) (respelled_before f (get_or pages k []))))
      ((text.accepted_exactly f (get_or pages k []) fs).1 r)

  -- In an accepted case every page is accepted by itself,
  pub each_accepted : (es : List Element) → AllSpelt f pages es → (k : ℕ) → k < length pages
      → (fs : List Element) × RunOf (Spells f) (get_or pages k []) fs
      × (page_answer case k
      ≡ Some (reading (answer 0 (length fs) (length (get_or pages k [])) (length (given words_of fs)))
      (respelled_before f (get_or pages k []))))
  each_accepted es s k h = let r = spelt_at s k h in (r.0, r.1, page_accepted k h r.0 r.1)

  -- and where every page is, the case is.
  pub all_accepted : ((k : ℕ) → k < length pages → (fs : List Element) × RunOf (Spells f) (get_or pages k []) fs)
      → (es : List Element) × (read_case case ≡ all es)
  all_accepted each =
      let s = all_spelt f pages each in
      (s.0, read_laid case form f pages is_form laid ∙ (pages_accepted form f is_form pages s.0).1 s.1)

  module _ (g r n p d : ℕ) (faulty : Faulty f pages g r n p d) where
    inside : g < length pages
    inside =
        omega (arith, ap length faulty.whole, length-append faulty.before (faulty.page ∷ faulty.behind), faulty.named)

    the_page : get_or pages g [] ≡ faulty.page
    the_page =
        ap (λ (l : List (List ℕ)). get_or l g []) faulty.whole
        ∙ get_or_at faulty.before faulty.page faulty.behind [] g (sym faulty.named)

    -- A page with a fault is the page that is named: by itself it has the same refusal.
    pub named_page : page_answer case g ≡ Some (reading (answer r n p (count_of r d)) 0)
    named_page =
        page_read g inside
        ∙ ap (λ (s : List ℕ). Some (carrying (roomy_answer words_of (length s) (read_in f s)) (respelled_before f s))) the_page
        ∙ ap (λ (x : Outcome Element). Some (carrying (roomy_answer words_of (length faulty.page) x) (respelled_before f faulty.page)))
        (((text.read_meets f faulty.page).faults r n p d).1 faulty.refused)
        ∙ ap Some (sym (carrying_none (answer r n p (count_of r d)) _ (fault_numbered faulty.refused)))

    -- The pages before it are accepted.
    pub before_named : (k : ℕ) → k < g
        → (fs : List Element) × RunOf (Spells f) (get_or pages k []) fs
        × (page_answer case k
        ≡ Some (reading (answer 0 (length fs) (length (get_or pages k [])) (length (given words_of fs)))
        (respelled_before f (get_or pages k []))))
    before_named k h =
        let l : k < length faulty.before = omega (arith, faulty.named) in
        let s = spelt_at faulty.spelt k l in
        let e : get_or faulty.before k [] ≡ get_or pages k [] =
        sym (get_or-append faulty.before (faulty.page ∷ faulty.behind) [] k l)
        ∙ sym (ap (λ (l : List (List ℕ)). get_or l k []) faulty.whole) in
        let r = subst (λ (t : List ℕ). RunOf (Spells f) t s.0) e s.1 in
        (s.0, r, page_accepted k (omega (arith, inside)) s.0 r)

-- ---- one page, by its row of the table

-- each row is answered so
pub of_page_row : {case : List ℕ} {k : ℕ} {numbers : List ReadAnswer} → PageTable case k numbers → page_values (page_answer case k) ≡ numbers
of_page_row {case} {k} (PageTable.of_case {r} t) =
    ap page_values (turned_page_answers case r k t)
    ∙ ap (λ (a : ReadAnswer). a ∷ []) (sym (carrying_none (bare r) 0 (λ z. omega (arith, (turned_number t).0))))
of_page_row {case} {k} (PageTable.no_page {form} {pages} c h) = ap page_values (no_page_answers case form pages c k h)
of_page_row {case} {k} (PageTable.refused {form} {f} {pages} {r} {n} {p} {d} q c h i) =
    let page = get_or pages k [] in
    page_numbers case form f q pages c k h
    ∙ ap (λ (x : Outcome Element). carrying (roomy_answer words_of (length page) x) (respelled_before f page) ∷ [])
    (((text.read_meets f page).faults r n p d).1 i)
    ∙ ap (λ (a : ReadAnswer). a ∷ []) (sym (carrying_none (answer r n p (count_of r d)) _ (fault_numbered i)))
of_page_row {case} {k} (PageTable.accepted {form} {f} {pages} {ps} {es} {k = j} q c h s counted) =
    let page = get_or pages k [] in
    ap page_values (page_accepted case form f q pages c k h es (ps, s))
    ∙ ap (λ (n : ℕ). reading (answer 0 (length es) (length page) (length (given words_of es))) n ∷ []) ((respelled_exactly f s j).1 counted)

module _ (case : List ℕ) (octets : Octets case) (k : ℕ) where
  by_text : (form : ℕ) (f : Form) → form_of form ≡ Some f → (pages : List (List ℕ)) → CaseOf case form pages → k < length pages
      → (x : Outcome Element) → read_in f (get_or pages k []) ≡ x
      → PageTable case k (carrying (roomy_answer words_of (length (get_or pages k [])) x) (respelled_before f (get_or pages k [])) ∷ [])
  by_text form f q pages c h (accepted es) e =
      let s = (text.accepted_exactly f (get_or pages k []) es).0 e in
      PageTable.accepted q c h s.1 ((respelled_exactly f s.1 _).0 refl)
  by_text form f q pages c h (refusal r n p d) e =
      let i = ((text.read_meets f (get_or pages k [])).faults r n p d).0 e in
      subst (λ (a : ReadAnswer). PageTable case k (a ∷ [])) (carrying_none (answer r n p (count_of r d)) _ (fault_numbered i))
      (PageTable.refused q c h i)

  by_count : (form : ℕ) (pages : List (List ℕ)) → CaseOf case form pages → (t : Bool) → ltb k (length pages) ≡ t
      → PageTable case k (page_values (page_answer case k))
  by_count form pages c true e =
      let h = ltb-true k (length pages) e in
      let f = is_found form c.is_form in
      subst (PageTable case k) (sym (page_numbers case form f.0 f.1 pages c k h))
      (by_text form f.0 f.1 pages c h (read_in f.0 (get_or pages k [])) refl)
  by_count form pages c false e =
      let h = ltb-false k (length pages) e in
      subst (PageTable case k) (sym (ap page_values (no_page_answers case form pages c k h))) (PageTable.no_page c h)

  by_header_lem : (h : Said) → header_of case ≡ h → PageTable case k (page_values (page_answer case k))
  by_header_lem (Err g) q =
      let r = fault_number g in
      let t = (turned_exactly case r).0 (g, q, refl) in
      let none = carrying_none (bare r) 0 (λ z. omega (arith, (turned_number t).0)) in
      subst (PageTable case k) (ap (λ (a : ReadAnswer). a ∷ []) none ∙ sym (ap page_values (turned_page_answers case r k t)))
      (PageTable.of_case t)
  by_header_lem (Ok h) q =
      let l = (laid_exactly case octets h.form h.pages).0 q in by_count h.form l.0 l.2 (ltb k (length l.0)) refl

  -- the answer of a page is its row
  pub page_row : PageTable case k (page_values (page_answer case k))
  page_row = by_header_lem (header_of case) refl

-- ---- from the promise of `page_elements`, in its own words

-- numbers are given, and n is the first of them
abbrev Numbered : ℕ → List ReadAnswer → Type 0
Numbered n [] = ⊥
Numbered n (a ∷ numbers) = a.answer.number ≡ n

row_turned : {case : List ℕ} {k : ℕ} {numbers : List ReadAnswer} → PageTable case k numbers → (n : ℕ) → 10 < n → Numbered n numbers
    → Turned case n
row_turned {case} (PageTable.of_case t) n h e = subst (Turned case) e t
row_turned (PageTable.no_page c l) n h e = absurd e
row_turned (PageTable.refused {f = f} q c l i) n h e = absurd (omega (arith, reading_number f i.here))
row_turned (PageTable.accepted q c l s a) n h e = absurd (omega arith)

module _ (case : List ℕ) (k : ℕ) (r : Option ReadAnswer) (promise : PageElementsPromise case k r) where
  -- The five numbers, or that there are none, are exactly those of a row of the table.
  pub page_elements_exactly : (numbers : List ReadAnswer) → (page_values r ≡ numbers) ↔ PageTable case k numbers
  page_elements_exactly numbers =
      (λ e. subst (PageTable case k) e promise.1, λ row. ap page_values promise.0 ∙ of_page_row row)

  -- 11, 13, 14 and 15 are given exactly when header and table are turned away so.
  pub page_elements_turned : (n : ℕ) → 10 < n → ((a : ReadAnswer) × (r ≡ Some a) × (a.answer.number ≡ n)) ↔ Turned case n
  page_elements_turned n h = (
    λ x. row_turned promise.1 n h (subst (Numbered n) (sym (ap page_values x.1)) x.2),
    λ t. (carrying (bare n) 0, promise.0 ∙ turned_page_answers case n k t, refl),
  )

  -- A page of the case is answered as a text of its octets alone, with room enough;
  pub page_elements_read : (form : ℕ) (pages : List (List ℕ)) → CaseOf case form pages → k < length pages
      → r ≡ Some (read_reading form (get_or pages k []) (length (get_or pages k [])))
  page_elements_read form pages laid h = promise.0 ∙ page_answers case form pages laid k h

  none_by_count : (form : ℕ) (pages : List (List ℕ)) → CaseOf case form pages → r ≡ None → (t : Bool) → ltb k (length pages) ≡ t
      → length pages ≤ k
  none_by_count form pages c e true q =
      let x = page_elements_read form pages c (ltb-true k _ q) in let z : ◌≡◌ {A = ℕ} 0 1 = cc in absurd (omega arith)
  none_by_count form pages c e false q = ltb-false k _ q

  none_by_header : (h : Said) → header_of case ≡ h → r ≡ None
      → (form : ℕ) × (pages : List (List ℕ)) × CaseOf case form pages × (length pages ≤ k)
  none_by_header (Err g) q e =
      let n = fault_number g in
      let x = promise.0 ∙ turned_page_answers case n k ((turned_exactly case n).0 (g, q, refl)) in
      let z : ◌≡◌ {A = ℕ} 0 1 = cc in
      absurd (omega arith)
  none_by_header (Ok h) q e =
      let l = (laid_exactly case promise.2 h.form h.pages).0 q in
      (h.form, l.0, l.2, none_by_count h.form l.0 l.2 e (ltb k (length l.0)) refl)

  -- that there is none is answered exactly when the octets are a case of fewer pages.
  pub page_elements_none : (r ≡ None) ↔ ((form : ℕ) × (pages : List (List ℕ)) × CaseOf case form pages × (length pages ≤ k))
  page_elements_none =
      (none_by_header (header_of case) refl, λ x. promise.0 ∙ no_page_answers case x.0 x.1 x.2 k x.3)

-- ---- `read_case` and `page_elements` agree, from both promises

module _ (case words : List ℕ) (a : CaseAnswer) (after : List ℕ) (read : ReadCasePromise case words a after) where
  refused_page : {g r n p d : ℕ} → RefusedCase case g r n p d → r < 9 → page_answer case g ≡ Some (reading (answer r n p (count_of r d)) 0)
  refused_page (of_case t) h = absurd (omega (arith, (turned_number t).0))
  refused_page (of_page {form} {f} {pages} {g} {r} {n} {p} {d} q c i) h = named_page case form f q pages c g r n p d i

  -- The page that a case's refusal names has that refusal by itself.
  pub named_page_answers : 0 < a.answer.number → a.answer.number < 9 → (r : Option ReadAnswer) → PageElementsPromise case a.page r
      → r ≡ Some (reading a.answer 0)
  named_page_answers h l r promise =
      let t = (read_case_tells case words a after read).is_other (λ z. omega arith) (λ z. omega arith) in
      promise.0
      ∙ refused_page t.1 l
      ∙ ap (λ (c : ℕ). Some (reading (answer a.answer.number a.answer.element a.answer.place c) 0)) (sym t.2)

  accepted_by : {es : List Element} (c : AcceptedCase case es) (form : ℕ) (pages : List (List ℕ)) → CaseOf case form pages
      → (k : ℕ) → k < length pages → (r : Option ReadAnswer) → PageElementsPromise case k r → (t : Bool) → ltb k (length c.pages) ≡ t
      → (b : ReadAnswer) × (r ≡ Some b) × (b.answer.number ≡ 0)
  accepted_by {es} c form pages laid k h r promise true q =
      let x = each_accepted case c.form c.the_form c.is_form c.pages c.laid es c.spelt k (ltb-true k _ q) in
      (_, promise.0 ∙ x.2, refl)
  accepted_by c form pages laid k h r promise false q =
      let x = (page_elements_none case k r promise).1 (c.form, c.pages, c.laid, ltb-false k _ q) in
      let y = page_elements_read case k r promise form pages laid h in
      let z : ◌≡◌ {A = ℕ} 0 1 = cc in
      absurd (omega arith)

  -- Where the case is accepted, each of its pages is answered by itself, with number 0.
  pub each_page_accepted : a.answer.number ≡ 0 → (form : ℕ) (pages : List (List ℕ)) → CaseOf case form pages
      → (k : ℕ) → k < length pages → (r : Option ReadAnswer) → PageElementsPromise case k r
      → (b : ReadAnswer) × (r ≡ Some b) × (b.answer.number ≡ 0)
  each_page_accepted e form pages laid k h r promise =
      let t = (read_case_tells case words a after read).is_0 e in
      accepted_by t.1 form pages laid k h r promise (ltb k (length t.1.pages)) refl
