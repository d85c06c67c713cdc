-- `page_elements` meets its contract: the page is a part of the case, and is answered as a text (`the_page`); what is answered is its row
-- of the table (`page_row`).
use Prim.Native.Nat.{ℕ}
use mathlib.Core.Path.{◌≡◌, refl, sym, ap, subst, ◌∙◌}
use mathlib.Core.List.{List}
use Rattle.std.proofs.Common.{Option}
use Rattle.run.specs.declared.Answer.{Answer}
use Rattle.run.specs.declared.ReadAnswer.{ReadAnswer}
use Rattle.run.specs.Answers.{carrying}
use Rattle.case_table.specs.Grammar.{Octets}
use Rattle.tlx.specs.CaseReading.{page_answer}
use Rattle.tlx.specs.CaseReadingNumbers.{page_values, PageTable}
use Rattle.tlx.specs.Promises.{PageElementsPromise}
use Rattle.tlx.proofs.EachPage.{page_row}
use Rattle.tlx.proofs.OnePage.{turned_page, no_page, the_page}
use Rattle.tlx.proofs.page_elements.Goals as goal

-- what is the answer is its row
promised : {case same : List ℕ} {page : ℕ} {r : Option ReadAnswer} → Octets case → same ≡ case → r ≡ page_answer same page
    → PageElementsPromise case page r
promised {case} {same} {page} {r} o s e =
    let q : r ≡ page_answer case page = e ∙ ap (λ (l : List ℕ). page_answer l page) s in
    (q, subst (λ (x : Option ReadAnswer). PageTable case page (page_values x)) (sym q) (page_row case o page), o)

pub returns-then-pages-page : goal.returns-then-pages-page
returns-then-pages-page c = promised c.of.ensures.octets c.in-Ok.ensures.said (no_page _ _ _ _ c.in-Ok.pages.right c.if-pages-page.true)

pub returns-in-Err : goal.returns-in-Err
returns-in-Err c =
    promised c.of.ensures.octets refl
    (turned_page _ _ _ _ (c.in-Err.fault, c.in-Err.ensures.said, sym c.number.ensures)
    (c.reading_of.ensures ∙ ap (λ (a : Answer). carrying a 0) c.bare_answer.ensures))

pub returns-else-pages-page : goal.returns-else-pages-page
returns-else-pages-page c =
    promised c.of.ensures.octets c.in-Ok.ensures.said
    (the_page _ _ _ _ c.in-Ok.pages.right c.if-pages-page.false c.start_of.ensures c.part-part.ensures _ c.measure.ensures)
