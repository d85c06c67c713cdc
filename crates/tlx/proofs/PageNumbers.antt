-- How many elements of some pages are not canonical (document 02, No. 5): the pages' numbers, added, each over the run that its page is and
-- canonical spelling.
-- Assumes nothing.
use Prim.Native.Nat.{ℕ, suc, ◌+◌, ◌≤◌, ◌<◌}
use mathlib.Core.Path.{◌≡◌, refl, sym, ap, ap₂, subst, ◌∙◌}
use mathlib.Core.List.{List, [], ◌∷◌, ◌++◌}
use native.Mathlib.Nat.{add_assoc, zero-add}
use native.Mathlib.Omega.{arith}
use lib.ListN.{length, get_or, length-append}
use Rattle.sorts.specs.declared.Form.{Form}
use Rattle.std.specs.Prelude.{Some}
use Rattle.sorts.specs.Forms.{form_of}
use Rattle.element_words.specs.declared.Element.{Element}
use Rattle.text_loops.specs.Fronts.{respelled_before}
use Rattle.text_reading.proofs.ReadTexts.{accepted_exactly}
use Rattle.text_reading.proofs.Respelled.{respelled_is, respelled_exactly, respelled_few}
use Rattle.case_table.specs.Layout.{total, of_form}
use Rattle.case_table.specs.Grammar.{CaseOf}
use Rattle.case_table.proofs.Laid.{case_header, case_pages}
use Rattle.tlx.specs.CaseReadingNumbers.{AllSpelt, none, more, AcceptedCase, PagesApart}
use Rattle.tlx.specs.CaseReading.{pages_respelled, case_respelled}

module _ (form : ℕ) (f : Form) (is_form : form_of form ≡ Some f) where
  abbrev pub number : List (List ℕ) → ℕ
  number pages = pages_respelled (of_form form pages)

  -- one page more
  number_more : (page : List ℕ) (pages : List (List ℕ)) → number (page ∷ pages) ≡ respelled_before f page + number pages
  unfolding pages_respelled
  number_more page pages = ap (λ (k : ℕ). k + number pages) (respelled_is form f is_form page)

  -- It adds up over two lists of pages.
  pub pages_joined : (pages others : List (List ℕ)) → number (pages ++ others) ≡ number pages + number others
  unfolding pages_respelled
  pages_joined [] others = sym (zero-add (number others))
  pages_joined (page ∷ pages) others =
      number_more page (pages ++ others)
      ∙ ap (λ (k : ℕ). respelled_before f page + k) (pages_joined pages others)
      ∙ sym (add_assoc (respelled_before f page) (number pages) (number others))
      ∙ ap (λ (k : ℕ). k + number others) (sym (number_more page pages))

  -- pages that are runs of elements have it,
  pub pages_have : {pages : List (List ℕ)} {es : List Element} → AllSpelt f pages es → PagesApart f pages (number pages)
  unfolding pages_respelled
  pages_have none = PagesApart.none
  pages_have (more {page} {pages} r s) =
      subst (PagesApart f (page ∷ pages)) (sym (number_more page pages))
      (PagesApart.more r.1 ((respelled_exactly f r.1 _).0 refl) (pages_have s))

  -- and no other
  pub have_pages : {pages : List (List ℕ)} {k : ℕ} → PagesApart f pages k → number pages ≡ k
  unfolding pages_respelled
  have_pages PagesApart.none = refl
  have_pages (PagesApart.more {page} {pages} {k = k} r a s) =
      number_more page pages ∙ ap₂ ◌+◌ ((respelled_exactly f r k).1 a) (have_pages s)

  -- numbers that are each a page's, as many as there are pages, added
  pub pages_sum : (pages : List (List ℕ)) (numbers : List ℕ) → length numbers ≡ length pages
      → ((k : ℕ) → k < length pages → get_or numbers k 0 ≡ respelled_before f (get_or pages k [])) → number pages ≡ total numbers
  unfolding pages_respelled total
  pages_sum [] [] e each = refl
  pages_sum [] (n ∷ numbers) e each = absurd (omega (arith, e))
  pages_sum (page ∷ pages) [] e each = absurd (omega (arith, e))
  pages_sum (page ∷ pages) (n ∷ numbers) e each =
      number_more page pages
      ∙ ap₂ ◌+◌ (sym (each 0 (omega arith))) (pages_sum pages numbers (omega (arith, e)) (λ k h. each (suc k) (omega arith)))

  -- no more than elements
  pub pages_few : {pages : List (List ℕ)} {es : List Element} → AllSpelt f pages es → number pages ≤ length es
  unfolding pages_respelled
  pages_few none = omega arith
  pages_few (more {page} {pages} {es} {fs} r s) =
      omega (
        arith,
        number_more page pages,
        respelled_few f page es ((accepted_exactly f page es).1 r),
        pages_few s,
        length-append es fs,
      )

  -- the case of pages has their number
  pub case_number : (case : List ℕ) (pages : List (List ℕ)) → CaseOf case form pages → case_respelled case ≡ number pages
  unfolding case_respelled
  case_number case pages c = simp (case_header case form pages c) (ap pages_respelled (case_pages case form pages c))

-- a case whose pages are runs of elements has the number that is counted so, and no other
pub case_has : {case : List ℕ} {es : List Element} (c : AcceptedCase case es) → PagesApart c.the_form c.pages (case_respelled case)
case_has {case} c =
    subst (PagesApart c.the_form c.pages) (sym (case_number c.form c.the_form c.is_form case c.pages c.laid))
    (pages_have c.form c.the_form c.is_form c.spelt)

pub has_case : {case : List ℕ} {es : List Element} (c : AcceptedCase case es) {k : ℕ} → PagesApart c.the_form c.pages k
    → case_respelled case ≡ k
has_case {case} c a =
    case_number c.form c.the_form c.is_form case c.pages c.laid ∙ have_pages c.form c.the_form c.is_form a
