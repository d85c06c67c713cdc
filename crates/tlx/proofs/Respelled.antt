-- The fifth number of a case (document 02, No. 5): its pages' numbers, added, each over the run that its page is and canonical spelling.
-- Assumes nothing.
use Prim.Native.Nat.{ℕ, ◌+◌, ◌≤◌, ◌<◌}
use mathlib.Core.Path.{◌≡◌, sym, ap, ap₂, subst, ◌∙◌}
use mathlib.Core.Logic.{◌↔◌}
use mathlib.Core.List.{List, [], ◌++◌, map}
use native.Mathlib.Omega.{arith}
use lib.ListN.{length, get_or, length-map, get_or-map}
use Rattle.run.specs.declared.ReadAnswer.{ReadAnswer}
use Rattle.run.specs.Answers.{bare, carrying}
use Rattle.run.proofs.Answers.{accepted_carries, refused_carries}
use Rattle.sorts.specs.declared.Form.{Form}
use Rattle.std.specs.Prelude.{Some}
use Rattle.sorts.specs.Forms.{form_of}
use Rattle.element_words.specs.declared.Element.{Element}
use Rattle.element_reading.specs.ElementNumbers.{reading}
use Rattle.text_loops.specs.Fronts.{respelled_before}
use Rattle.std.proofs.Common.{Option, Some, None}
use Rattle.case_table.specs.Layout.{total}
use Rattle.case_table.specs.Grammar.{CaseOf}
use Rattle.tlx.specs.declared.CaseAnswer.{CaseAnswer}
use Rattle.tlx.specs.CaseReadingNumbers.{AllSpelt, PagesApart}
use Rattle.tlx.specs.CaseReading.{case_respelled, read_case_answer}
use Rattle.tlx.specs.Promises.{PageElementsPromise, ReadCasePromise}
use Rattle.tlx.proofs.Cases.{read_case_tells, case_accepted, pages_accepted, read_laid}
use Rattle.tlx.proofs.EachPage.{each_accepted}
use Rattle.tlx.proofs.PageNumbers.{number, pages_joined, pages_have, have_pages, pages_sum, pages_few, case_number}

-- the fifth number of an answer, and of a page's
abbrev pub fifth : ReadAnswer → ℕ
fifth a = a.respelled

abbrev page_fifth : Option ReadAnswer → ℕ
page_fifth (Some a) = fifth a
page_fifth None = 0

module _ (case words : List ℕ) (r : CaseAnswer) (after : List ℕ) (promise : ReadCasePromise case words r after) where
  -- an answer without its page
  abbrev unpaged : CaseAnswer → ReadAnswer
  unpaged a = record { answer = a.answer; respelled = a.respelled }

  is : unpaged r ≡ carrying (read_case_answer case (length words)).answer (case_respelled case)
  is = ap unpaged promise.0

  -- A refused case carries 0.
  pub case_refused_carries : (r.answer.number ≡ 0 → ⊥) → r.respelled ≡ 0
  case_refused_carries = refused_carries _ _ is

  module _ (accepts : r.answer.number ≡ 0) (form : ℕ) (f : Form) (is_form : form_of form ≡ Some f) (pages : List (List ℕ))
      (laid : CaseOf case form pages) where
    -- the pages of an accepted case are runs of elements, as many as it says
    spelt : (es : List Element) × AllSpelt f pages es × (r.answer.element ≡ length es)
    spelt =
        let t = (read_case_tells case words r after promise).is_0 accepts in
        let q = (case_accepted case promise.2 t.0).1 t.1 in (
          t.0,
          (pages_accepted form f is_form pages t.0).0 (sym (read_laid case form f pages is_form laid) ∙ q),
          ap (λ (x : CaseAnswer). x.answer.element) t.5,
        )

    -- An accepted case carries its pages' numbers, added:
    carries : r.respelled ≡ number form f is_form pages
    carries = accepted_carries _ _ is accepts ∙ case_number form f is_form case pages laid

    -- exactly the pieces of the runs that its pages are which are not canonical,
    pub case_respelled_exactly : (k : ℕ) → (r.respelled ≡ k) ↔ PagesApart f pages k
    case_respelled_exactly k = (
      λ q. subst (PagesApart f pages) (sym carries ∙ q) (pages_have form f is_form spelt.1),
      λ a. carries ∙ have_pages form f is_form a,
    )

    -- and at most the number of its elements.
    pub case_respelled_few : r.respelled ≤ r.answer.element
    case_respelled_few = omega (arith, carries, pages_few form f is_form spelt.1, spelt.2)

    -- It is the sum of what `page_elements` says of each page.
    pub case_adds_up : (answers : List ReadAnswer) → length answers ≡ length pages
        → ((k : ℕ) → k < length pages → PageElementsPromise case k (Some (get_or answers k (reading (bare 0) 0))))
        → r.respelled ≡ total (map fifth answers)
    case_adds_up answers e each =
        let page : (k : ℕ) → k < length pages → fifth (get_or answers k (reading (bare 0) 0)) ≡ respelled_before f (get_or pages k []) =
        λ k h. ap page_fifth ((each k h).0 ∙ (each_accepted case form f is_form pages laid spelt.0 spelt.1 k h).2) in
        carries
        ∙ pages_sum form f is_form pages (map fifth answers) (length-map answers fifth ∙ e)
        (λ k h. get_or-map fifth answers k (reading (bare 0) 0) ∙ page k h)

-- It adds up over two cases of one form: a case of the pages of both, one behind the other, has the sum.
module _ (form : ℕ) (f : Form) (is_form : form_of form ≡ Some f) (one other both : List ℕ) (pages others : List (List ℕ)) where
  pub cases_joined : CaseOf one form pages → CaseOf other form others → CaseOf both form (pages ++ others)
      → (words₁ words₂ words : List ℕ) {r₁ r₂ r : CaseAnswer} {after₁ after₂ after : List ℕ} → ReadCasePromise one words₁ r₁ after₁
      → ReadCasePromise other words₂ r₂ after₂ → ReadCasePromise both words r after → r₁.answer.number ≡ 0 → r₂.answer.number ≡ 0
      → r.answer.number ≡ 0 → r.respelled ≡ r₁.respelled + r₂.respelled
  cases_joined c₁ c₂ c words₁ words₂ words p₁ p₂ p z₁ z₂ z =
      carries both words _ _ p z form f is_form (pages ++ others) c
      ∙ pages_joined form f is_form pages others
      ∙ sym (ap₂ ◌+◌ (carries one words₁ _ _ p₁ z₁ form f is_form pages c₁) (carries other words₂ _ _ p₂ z₂ form f is_form others c₂))
