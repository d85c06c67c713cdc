-- The theorems of record of reading a case: what `read_case` and `page_elements` are worth, in document 01's words and, of the fifth number,
-- document 02's (`CaseTable`).
-- Assumes nothing.
use Prim.Native.Nat.{ℕ, suc, ◌+◌, ◌≤◌, ◌<◌}
use mathlib.Core.Path.{◌≡◌, refl, sym, ap, ap₂, subst, subst₂, ◌∙◌}
use mathlib.Core.Logic.{◌↔◌}
use mathlib.Core.List.{List, [], ◌∷◌, ◌++◌}
use mathlib.Core.Bool.{Bool, true, false}
use native.Mathlib.Nat.{add-zero}
use native.Mathlib.Omega.{arith}
use lib.Dec.{leb}
use lib.ListN.{length, get_or, length-append, get_or-map}
use borrow.Author.Tests.{le-leb, lt-leb, lt-ltb, le-ltb, leb-true, leb-false}
use Rattle.run.specs.Choice.{pick}
use Rattle.run.specs.Head.{Outcome, accepted, refusal}
use Rattle.run.specs.Grammar.{RunOf}
use Rattle.run.specs.Answers.{answer, bare, short_room, carrying, count_of, given, written_of, over, same}
use Rattle.run.proofs.Answers as answers
use Rattle.sorts.specs.declared.Form.{Form}
use Rattle.std.specs.Prelude.{Some}
use Rattle.sorts.specs.Forms.{form_of}
use Rattle.element_words.specs.declared.Element.{Element}
use Rattle.element_words.specs.Words.{words_of}
use Rattle.element_reading.specs.Grammar.{Spells}
use Rattle.element_reading.proofs.Places.{reading_number}
use Rattle.text_loops.specs.Fronts.{read_in}
use Rattle.text_reading.specs.ReadAnswers.{read_reading}
use Rattle.text_loops.proofs.FewWords as few
use Rattle.text_reading.proofs.ReadTexts as text
use Rattle.case_table.specs.Layout.{header, big16, of_form}
use Rattle.std.proofs.Common.{Some, None, Ok, Err}
use Rattle.case_table.specs.HeaderNumbers.{RefusedWith, fault_number}
use Rattle.case_table.specs.Check.{Said, header_of}
use Rattle.case_table.specs.Grammar.{Octets, CaseOf, Turned}
use Rattle.case_table.proofs.Checked.{turned_exactly}
use Rattle.case_table.proofs.Promised.{turned_number}
use Rattle.case_table.proofs.Laid.{laid_exactly, case_header, case_pages}
use Rattle.tlx.specs.declared.CaseAnswer.{CaseAnswer}
use Rattle.tlx.specs.CaseReadingNumbers.{AllSpelt, none, more, Faulty, AcceptedCase, RefusedCase, of_case, of_page, CaseTable}
use Rattle.tlx.specs.CaseReadingNumbers.{Size, CaseTells, beside}
use Rattle.tlx.specs.CaseReading.{CaseOutcome, all, fault, join_pages, after_page, read_page, read_pages, read_case}
use Rattle.tlx.specs.CaseReading.{read_case_answer, case_respelled, carrying_case, read_case_reading, read_case_words, page_answer}
use Rattle.tlx.specs.CaseReading.{outcome_of, case_answer, page_words, alone_reading}
use Rattle.tlx.specs.Promises.{ReadCasePromise}
use Rattle.tlx.proofs.Pages.{join_none, join_join, page_read, without_fifth, carried_none}
use Rattle.tlx.proofs.PageNumbers.{case_has, has_case}
use Rattle.tlx.proofs.Rooms.{case_turned, turned_readings}
use Rattle.sorts.proofs.FormNumbers.{is_found}

module _ (form : ℕ) (f : Form) (is_form : form_of form ≡ Some f) where
  accepts : (page : List ℕ) (es : List Element) → RunOf (Spells f) page es → read_page (form, page) ≡ accepted es
  accepts page es r = page_read form is_form page ∙ (text.accepted_exactly f page es).1 r

  -- ---- pages, one after another

  -- After accepted pages the others are read as by themselves: elements joined, or the page's number moved up.
  pub joined : {pages : List (List ℕ)} {es : List Element} → AllSpelt f pages es → (others : List (List ℕ))
      → read_pages (of_form form (pages ++ others)) ≡ join_pages es (length pages) (read_pages (of_form form others))
  unfolding read_pages
  joined none others = sym (join_none (read_pages (of_form form others)))
  joined (more {page} {pages} {es} {fs} r s) others =
      ap₂ after_page (accepts page es r) (joined s others)
      ∙ join_join es fs 1 (length pages) (read_pages (of_form form others))
      ∙ ap (λ (k : ℕ). join_pages (es ++ fs) k (read_pages (of_form form others))) one
    where
      one : 1 + length pages ≡ suc (length pages)
      one = omega arith

  pub spelt_accepted : {pages : List (List ℕ)} {es : List Element} → AllSpelt f pages es → read_pages (of_form form pages) ≡ all es
  unfolding read_pages
  spelt_accepted none = refl
  spelt_accepted (more {page} {pages} {es} {fs} r s) = ap₂ after_page (accepts page es r) (spelt_accepted s)

  -- how pages come to their outcome
  data Went : List (List ℕ) → CaseOutcome → Type 0 where
    well : {pages : List (List ℕ)} {es : List Element} → AllSpelt f pages es → Went pages (all es)
    ill : {pages : List (List ℕ)} {g r n p d : ℕ} → Faulty f pages g r n p d → Went pages (fault g r n p d)

  went_more : (page : List ℕ) (pages : List (List ℕ)) (es : List Element) → RunOf (Spells f) page es → {x : CaseOutcome} → Went pages x
      → Went (page ∷ pages) (join_pages es 1 x)
  went_more page pages es r (well s) = well (more r s)
  went_more page pages es r (ill {g = g} {r = k} {n = n} {p = p} {d = d} i) =
      ill {g = 1 + g}
      (record {
        before = page ∷ i.before;
        page = i.page;
        behind = i.behind;
        elements = es ++ i.elements;
        whole = ap (λ (l : List (List ℕ)). page ∷ l) i.whole;
        spelt = more r i.spelt;
        refused = i.refused;
        named = omega (arith, i.named);
      })

  went_by : (page : List ℕ) (pages : List (List ℕ)) → Went pages (read_pages (of_form form pages)) → (x : Outcome Element) → read_in f page ≡ x
      → Went (page ∷ pages) (after_page x (read_pages (of_form form pages)))
  went_by page pages w (accepted es) q = went_more page pages es ((text.accepted_exactly f page es).0 q) w
  went_by page pages w (refusal r n p d) q =
      ill {g = 0}
      (record {
        before = [];
        page = page;
        behind = pages;
        elements = [];
        whole = refl;
        spelt = none;
        refused = ((text.read_meets f page).faults r n p d).0 q;
        named = refl;
      })

  went : (pages : List (List ℕ)) → Went pages (read_pages (of_form form pages))
  unfolding read_pages
  went [] = well none
  went (page ∷ pages) =
      subst (λ (x : Outcome Element). Went (page ∷ pages) (after_page x (read_pages (of_form form pages)))) (sym (page_read form is_form page))
      (went_by page pages (went pages) (read_in f page) refl)

  went_well : {pages : List (List ℕ)} {x : CaseOutcome} → Went pages x → (es : List Element) → x ≡ all es → AllSpelt f pages es
  went_well {pages} (well {es = es₀} s) es q = let e : es₀ ≡ es = cc in subst (AllSpelt f pages) e s
  went_well (ill i) es q = let z : ◌≡◌ {A = ℕ} 0 1 = cc in absurd (omega arith)

  went_ill : {pages : List (List ℕ)} {x : CaseOutcome} → Went pages x → (g r n p d : ℕ) → x ≡ fault g r n p d → Faulty f pages g r n p d
  went_ill (well s) g r n p d q = let z : ◌≡◌ {A = ℕ} 0 1 = cc in absurd (omega arith)
  went_ill {pages} (ill {g = g₀} {r = r₀} {n = n₀} {p = p₀} {d = d₀} i) g r n p d q =
      let eg : g₀ ≡ g = cc in
      let er : r₀ ≡ r = cc in
      let en : n₀ ≡ n = cc in
      let ep : p₀ ≡ p = cc in
      let ed : d₀ ≡ d = cc in
      rw (eg, er, en, ep, ed) at i

  -- Pages are accepted exactly when each is a run of elements, and their elements are those of each page, joined.
  pub pages_accepted : (pages : List (List ℕ)) (es : List Element) → (read_pages (of_form form pages) ≡ all es) ↔ AllSpelt f pages es
  pages_accepted pages es = (went_well (went pages) es, spelt_accepted)

  faulty_fault : {pages : List (List ℕ)} {g r n p d : ℕ} → Faulty f pages g r n p d → read_pages (of_form form pages) ≡ fault g r n p d
  unfolding read_pages
  faulty_fault {pages} {g} {r} {n} {p} {d} i =
      ap (λ (l : List (List ℕ)). read_pages (of_form form l)) i.whole
      ∙ joined i.spelt (i.page ∷ i.behind)
      ∙ ap (λ (x : Outcome Element). join_pages i.elements (length i.before) (after_page x (read_pages (of_form form i.behind))))
      (page_read form is_form i.page ∙ ((text.read_meets f i.page).faults r n p d).1 i.refused)
      ∙ ap (λ (k : ℕ). fault k r n p d) (add-zero (length i.before) ∙ sym i.named)

  -- They are refused exactly when one of them is, which is named, and the pages before it are accepted.
  pub pages_refused : (pages : List (List ℕ)) (g r n p d : ℕ) → (read_pages (of_form form pages) ≡ fault g r n p d) ↔ Faulty f pages g r n p d
  pages_refused pages g r n p d = (went_ill (went pages) g r n p d, faulty_fault)

-- ---- a whole case

-- "Every page is read by itself": the case of pages comes to what its pages come to, each read from its octets alone
pub read_laid : (case : List ℕ) (form : ℕ) (f : Form) (pages : List (List ℕ)) → form_of form ≡ Some f → CaseOf case form pages
    → read_case case ≡ read_pages (of_form form pages)
unfolding read_case
read_laid case form f pages q c = simp (case_header case form pages c) (ap read_pages (case_pages case form pages c))

-- the case of pages that are runs of elements is accepted
accepted_read : {case : List ℕ} {es : List Element} → AcceptedCase case es → read_case case ≡ all es
accepted_read {case} {es} a =
    read_laid case a.form a.the_form a.pages a.is_form a.laid
    ∙ (pages_accepted a.form a.the_form a.is_form a.pages es).1 a.spelt

refused_read : {case : List ℕ} {g r n p d : ℕ} → RefusedCase case g r n p d → read_case case ≡ fault g r n p d
refused_read {case} (of_case {r} t) = case_turned case r ((turned_exactly case r).1 t)
refused_read {case} (of_page {form} {f} {pages} {g} {r} {n} {p} {d} q c i) =
    read_laid case form f pages q c ∙ (pages_refused form f q pages g r n p d).1 i

module _ (case : List ℕ) (octets : Octets case) where
  accepted_by : (es : List Element) → read_case case ≡ all es → (h : Said) → header_of case ≡ h → AcceptedCase case es
  accepted_by es q (Err g) e = let t = case_turned case (fault_number g) (g, e, refl) in let z : ◌≡◌ {A = ℕ} 0 1 = cc in absurd (omega arith)
  accepted_by es q (Ok h) e =
      let form = h.form in
      let l = (laid_exactly case octets form h.pages).0 e in
      let f = is_found form l.2.is_form in
      record {
        form = form;
        the_form = f.0;
        is_form = f.1;
        pages = l.0;
        laid = l.2;
        spelt = (pages_accepted form f.0 f.1 l.0 es).0 (sym (read_laid case form f.0 l.0 f.1 l.2) ∙ q);
      }

  -- A case is accepted exactly when it has the layout with every page accepted, and its elements are its pages' joined.
  pub case_accepted : (es : List Element) → (read_case case ≡ all es) ↔ AcceptedCase case es
  case_accepted es = (λ q. accepted_by es q (header_of case) refl, accepted_read)

  is_refused_by : (g r n p d : ℕ) → read_case case ≡ fault g r n p d → (h : Said) → header_of case ≡ h → RefusedCase case g r n p d
  is_refused_by g r n p d q (Err y) e =
      let k = fault_number y in
      let w : RefusedWith (header_of case) k = (y, e, refl) in
      let t = case_turned case k w in
      let eg : 0 ≡ g = cc in
      let er : k ≡ r = cc in
      let en : 0 ≡ n = cc in
      let ep : 0 ≡ p = cc in
      let ed : 0 ≡ d = cc in
      let i : RefusedCase case 0 k 0 0 0 = of_case ((turned_exactly case k).0 w) in
      subst (λ (x : ℕ). RefusedCase case g r n p x) ed
      (subst (λ (x : ℕ). RefusedCase case g r n x 0) ep
      (subst (λ (x : ℕ). RefusedCase case g r x 0 0) en (subst₂ (λ (x y : ℕ). RefusedCase case x y 0 0 0) eg er i)))
  is_refused_by g r n p d q (Ok h) e =
      let form = h.form in
      let l = (laid_exactly case octets form h.pages).0 e in
      let f = is_found form l.2.is_form in
      let t = sym (read_laid case form f.0 l.0 f.1 l.2) ∙ q in
      of_page f.1 l.2 ((pages_refused form f.0 f.1 l.0 g r n p d).0 t)

  -- A case is refused exactly by 01's table: 13, 14, 11, 15 by itself, with page 0 and no place; else at the first page that is refused,
  -- which is named, element and places counted from that page's start.
  pub case_refused : (g r n p d : ℕ) → (read_case case ≡ fault g r n p d) ↔ RefusedCase case g r n p d
  case_refused g r n p d = (λ q. is_refused_by g r n p d q (header_of case) refl, refused_read)

-- a refusal's number is none of 0, 9, 10 and 12
refused_number : {case : List ℕ} {g r n p d : ℕ} → RefusedCase case g r n p d → (0 < r) × (r ≡ 9 → ⊥) × (r ≡ 10 → ⊥) × (r ≡ 12 → ⊥)
refused_number (of_case t) =
    let z = turned_number t in (omega (arith, z.0), λ e. omega (arith, z.0), λ e. omega (arith, z.0), z.1)
refused_number (of_page {f = f} q c i) =
    let z = reading_number f i.refused.here in
    (omega (arith, z.0), λ e. omega (arith, z.1), λ e. omega (arith, z.1), λ e. omega (arith, z.1))

-- ---- the same, of what `read_case` answers and of the words it leaves

-- a refusal carries 0
refused_none : {case : List ℕ} {g r n p d : ℕ} → RefusedCase case g r n p d → (k : ℕ)
    → ◌≡◌ {A = CaseAnswer} (beside g (answer r n p (count_of r d))) (carrying_case (beside g (answer r n p (count_of r d))) k)
refused_none {g = g} {r} {n} {p} {d} i k =
    carried_none (beside g (answer r n p (count_of r d))) _ k refl (λ z. omega (arith, z, (refused_number i).0))

module _ {case words : List ℕ} where
  -- each row of the table is answered so: the four numbers, the page and the words,
  four_of_row : {a : CaseAnswer} {after : List ℕ} → CaseTable case words a after
      → (read_case_answer case (length words) ≡ without_fifth a) × (read_case_words case words ≡ after)
  unfolding read_case_answer read_case_words
  four_of_row (CaseTable.refused i) = let q = refused_read i in (simp q, simp q)
  four_of_row (CaseTable.room_is_short {es} a h) =
      let q = accepted_read a in let t = lt-leb (length (given words_of es)) (length words) h in (simp (q, t), simp (q, t))
  four_of_row (CaseTable.accepted {es} a k h) =
      let q = accepted_read a in let t = le-leb (length (given words_of es)) (length words) h in (simp (q, t), simp (q, t))

  -- and the fifth
  fifth_of_row : {a : CaseAnswer} {after : List ℕ} → CaseTable case words a after → a ≡ carrying_case (without_fifth a) (case_respelled case)
  fifth_of_row (CaseTable.refused i) = refused_none i (case_respelled case)
  fifth_of_row (CaseTable.room_is_short a h) = refl
  fifth_of_row (CaseTable.accepted {es} {k} a counted h) =
      ap (λ (k : ℕ). record { answer = answer 0 (length es) (length case) (Size es); respelled = k; page = 0 }) (sym (has_case a counted))

  pub of_row : {a : CaseAnswer} {after : List ℕ} → CaseTable case words a after
      → (read_case_reading case (length words) ≡ a) × (read_case_words case words ≡ after)
  of_row row =
      let e = four_of_row row in
      (ap (λ (x : CaseAnswer). carrying_case x (case_respelled case)) e.0 ∙ sym (fifth_of_row row), e.1)

module _ (case : List ℕ) (octets : Octets case) (words : List ℕ) where
  by_room : (es : List Element) → AcceptedCase case es → (t : Bool) → leb (Size es) (length words) ≡ t
      → CaseTable case words
      (carrying_case (beside 0 (pick t (answer 0 (length es) (length case) (Size es)) (short_room (Size es)))) (case_respelled case))
      (pick t (over words (given words_of es)) words)
  by_room es a true e = CaseTable.accepted a (case_has a) (leb-true _ _ e)
  by_room es a false e = CaseTable.room_is_short a (leb-false _ _ e)

  by_outcome : (x : CaseOutcome) → read_case case ≡ x
      → CaseTable case words (carrying_case (case_answer (length case) (length words) x) (case_respelled case))
      (written_of words_of words (outcome_of x))
  by_outcome (all es) q = by_room es ((case_accepted case octets es).0 q) (leb (Size es) (length words)) refl
  by_outcome (fault g r n p d) q =
      let i = (case_refused case octets g r n p d).0 q in
      subst (λ (a : CaseAnswer). CaseTable case words a words) (refused_none i (case_respelled case)) (CaseTable.refused i)

  -- Each of 11, 13, 14, 15, 9 and a page's refusal is given exactly when 01's table and order say so, with its page; and so is an
  -- acceptance, with the number that document 02 counts.
  pub case_exactly : (a : CaseAnswer) (after : List ℕ)
      → ((read_case_reading case (length words) ≡ a) × (read_case_words case words ≡ after)) ↔ CaseTable case words a after
  unfolding read_case_answer read_case_words
  case_exactly a after = (λ e. subst₂ (CaseTable case words) e.0 e.1 (by_outcome (read_case case) refl), of_row)

-- ---- the number tells the row

row_tells : {case words : List ℕ} {a : CaseAnswer} {after : List ℕ} → CaseTable case words a after → CaseTells case words a after
row_tells (CaseTable.refused {g} {r} {n} {p} {d} i) =
    let z = refused_number i in
    record {
      is_0 = λ e. absurd (omega (arith, z.0));
      is_9 = λ e. absurd (z.1 e);
      is_other = λ x y. (d, i, refl, refl);
      not_10 = z.2;
      not_12 = z.3;
      kept = λ x. refl;
    }
row_tells (CaseTable.room_is_short {es} a h) =
    record {
      is_0 = λ e. absurd (omega arith);
      is_9 = λ e. (es, a, h, refl);
      is_other = λ x y. absurd (y refl);
      not_10 = λ e. omega arith;
      not_12 = λ e. omega arith;
      kept = λ x. refl;
    }
row_tells (CaseTable.accepted {es} {k} a counted h) =
    record {
      is_0 = λ e. (es, a, k, counted, h, refl, refl);
      is_9 = λ e. absurd (omega arith);
      is_other = λ x y. absurd (x refl);
      not_10 = λ e. omega arith;
      not_12 = λ e. omega arith;
      kept = λ x. absurd (x refl);
    }

-- ---- the words of a case are its pages' words, joined

pub words_joined : (f : Form) {pages : List (List ℕ)} {es : List Element} → AllSpelt f pages es
    → given words_of es ≡ given (λ (page : List ℕ). page_words (read_in f page)) pages
unfolding given
words_joined f none = refl
words_joined f (more {page} {pages} {es} {fs} r s) =
    answers.given_append words_of es fs ∙ ap₂ ◌++◌ (sym (ap page_words ((text.accepted_exactly f page es).1 r))) (words_joined f s)

-- ---- one page

-- Each page's answer is that of its octets, read as a text with room enough.
pub page_answers : (case : List ℕ) (form : ℕ) (pages : List (List ℕ)) → CaseOf case form pages → (k : ℕ) → k < length pages
    → page_answer case k ≡ Some (read_reading form (get_or pages k []) (length (get_or pages k [])))
unfolding page_answer
page_answers case form pages c k h =
    simp (case_header case form pages c, lt-ltb k (length pages) h)
    (ap (λ (l : List (ℕ × List ℕ)). Some (alone_reading (get_or l k (form, [])))) (case_pages case form pages c)
    ∙ ap (λ (page : ℕ × List ℕ). Some (alone_reading page)) (get_or-map (λ (page : List ℕ). (form, page)) pages k []))

pub no_page_answers : (case : List ℕ) (form : ℕ) (pages : List (List ℕ)) → CaseOf case form pages → (k : ℕ) → length pages ≤ k
    → page_answer case k ≡ None
unfolding page_answer
no_page_answers case form pages c k h = simp (case_header case form pages c, le-ltb k (length pages) h)

pub turned_page_answers : (case : List ℕ) (r k : ℕ) → Turned case r → page_answer case k ≡ Some (carrying (bare r) 0)
unfolding page_answer
turned_page_answers case r k t =
    let w = (turned_exactly case r).1 t in simp w.1 (ap (λ (k : ℕ). Some (carrying (bare k) 0)) w.2)

-- ---- room for as many words as the case has octets is never short

words_fit : {f : Form} {pages : List (List ℕ)} {es : List Element} → AllSpelt f pages es
    → length (given words_of es) ≤ length (given same pages)
unfolding given
words_fit none = omega arith
words_fit (more {page} {pages} {es} {fs} r s) =
    omega (arith, words_fit s, few.words_fit r.1, answers.given_length words_of es fs, length-append page (given same pages))

-- ---- from the promise of `read_case`, in its own words

by_itself : {case : List ℕ} {g r n p d : ℕ} → RefusedCase case g r n p d → 10 < r → Turned case r
by_itself (of_case t) h = t
by_itself (of_page {f = f} q c i) h = absurd (omega (arith, reading_number f i.refused.here))

module _ (case words : List ℕ) (r : CaseAnswer) (after : List ℕ) where
  -- What `read_case` promises is a row of the table, of a case of octets; and such a row, of such a case, is what it promises.
  pub read_case_exactly : ReadCasePromise case words r after ↔ (CaseTable case words r after × Octets case)
  read_case_exactly = (
    λ p. ((case_exactly case p.2 words r after).0 (sym p.0, sym p.1), p.2),
    λ row. let e = of_row row.0 in (sym e.0, sym e.1, row.1),
  )

  module _ (promise : ReadCasePromise case words r after) where
    -- The number tells the row.
    pub read_case_tells : CaseTells case words r after
    read_case_tells = row_tells (read_case_exactly.0 promise).0

    answered : {a : CaseAnswer} {after' : List ℕ} → CaseTable case words a after' → r.answer.number ≡ a.answer.number
    answered row = ap (λ (x : CaseAnswer). x.answer.number) promise.0 ∙ ap (λ (x : CaseAnswer). x.answer.number) (of_row row).0

    -- 11, 13, 14 and 15 are given exactly when header and table are turned away so: no page's refusal has such a number.
    pub read_case_turned : (n : ℕ) → 10 < n → (r.answer.number ≡ n) ↔ Turned case n
    read_case_turned n h = (
      λ e.
          let t = read_case_tells.is_other (λ z. omega arith) (λ z. omega arith) in
          subst (Turned case) e (by_itself t.1 (omega arith)),
      λ t. answered (CaseTable.refused (of_case t)),
    )

    -- They name no page, element or place, and write nothing.
    pub read_case_turned_so : (n : ℕ) → Turned case n → (r ≡ beside 0 (bare n)) × (after ≡ words)
    read_case_turned_so n t =
        let e = turned_readings case n words ((turned_exactly case n).1 t) in (promise.0 ∙ sym e.0, promise.1 ∙ sym e.1)

    -- Every number but 0 and 9 is given exactly when the case is refused with it, by itself or at a page.
    pub read_case_refused : (n : ℕ) → 0 < n → (n ≡ 9 → ⊥)
        → (r.answer.number ≡ n) ↔ ((g : ℕ) × (k : ℕ) × (p : ℕ) × (d : ℕ) × RefusedCase case g n k p d)
    read_case_refused n h m = (
      λ e.
          let t = read_case_tells.is_other (λ z. omega arith) (λ z. m (sym e ∙ z)) in
          let i = subst (λ (x : ℕ). RefusedCase case r.page x r.answer.element r.answer.place t.0) e t.1 in
          (r.page, r.answer.element, r.answer.place, t.0, i),
      λ x. answered (CaseTable.refused x.4),
    )

    -- 9 exactly when every page is a run of elements and the room is short,
    pub read_case_short : (r.answer.number ≡ 9) ↔ ((es : List Element) × AcceptedCase case es × (length words < Size es))
    read_case_short =
        (λ e. let t = read_case_tells.is_9 e in (t.0, t.1, t.2), λ x. answered (CaseTable.room_is_short x.1 x.2))

    -- and 0 exactly when it is not.
    pub read_case_accepted : (r.answer.number ≡ 0) ↔ ((es : List Element) × AcceptedCase case es × (Size es ≤ length words))
    read_case_accepted =
        (λ e. let t = read_case_tells.is_0 e in (t.0, t.1, t.4), λ x. answered (CaseTable.accepted x.1 (case_has x.1) x.2))

    -- "A refusal writes nothing to any buffer."
    pub refusal_keeps : (r.answer.number ≡ 0 → ⊥) → after ≡ words
    refusal_keeps = read_case_tells.kept

    -- The buffer keeps its length.
    pub words_length : length after ≡ length words
    unfolding read_case_words
    words_length = ap length promise.1 ∙ answers.written_length words_of (length case) words (outcome_of (read_case case))

    -- "Entries past the count stay."
    pub past_count : (k d : ℕ) → r.answer.count ≤ k → get_or after k d ≡ get_or words k d
    unfolding read_case_answer read_case_words
    past_count k d h =
        ap (λ (l : List ℕ). get_or l k d) promise.1
        ∙ answers.past_count words_of (length case) words (outcome_of (read_case case)) k d
        (subst (λ (n : ℕ). n ≤ k) (ap (λ (a : CaseAnswer). a.answer.count) promise.0) h)

    -- Room for as many words as the case has octets is never short.
    pub room_enough : length case ≤ length words → r.answer.number ≡ 9 → ⊥
    room_enough h e =
        let t = read_case_tells.is_9 e in
        let a = t.1 in
        let table = given (λ (page : List ℕ). big16 (length page)) a.pages in
        let octets = given same a.pages in
        let l = ap length a.laid.is ∙ length-append (header 1 a.form (length a.pages)) (table ++ octets) in
        omega (arith, t.2, words_fit a.spelt, l, length-append table octets)
