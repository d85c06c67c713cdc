-- One page of a case: what is answered of it.
-- Assumes nothing.
use Prim.Native.Nat.{ℕ, ◌+◌, ◌*◌, ◌≤◌, ◌<◌}
use mathlib.Core.Path.{◌≡◌, sym, ap, ◌∙◌}
use mathlib.Core.List.{List, []}
use borrow.Author.Tests.{le-ltb, lt-ltb}
use Rattle.run.specs.declared.ReadAnswer.{ReadAnswer}
use Rattle.run.specs.Answers.{bare, carrying}
use Rattle.std.proofs.Common.{Some, None}
use Rattle.case_table.specs.HeaderNumbers.{RefusedWith}
use Rattle.case_table.specs.Check.{says, header_of}
use Rattle.case_table.specs.PagePlaces.{total_before, PartOf}
use Rattle.case_table.proofs.PagePlaces.{right_header, page_is}
use Rattle.tlx.specs.CaseReading.{alone_reading, page_answer}

module _ (case : List ℕ) (page : ℕ) where
  pub turned_page : (r : ℕ) (a : ReadAnswer) → RefusedWith (header_of case) r → a ≡ carrying (bare r) 0 → Some a ≡ page_answer case page
  unfolding page_answer
  turned_page r a w e = ap Some e ∙ sym (simp w.1 (ap (λ (k : ℕ). Some (carrying (bare k) 0)) w.2))

  module _ (form pages : ℕ) (header : header_of case ≡ says form pages) where
    pub no_page : pages ≤ page → None ≡ page_answer case page
    unfolding page_answer
    no_page h = sym (simp (header, le-ltb page pages h))

    pub the_page : {start : ℕ} {part : List ℕ} → page < pages → start ≡ 8 + 2 * pages + total_before case page → PartOf case page start part
        → (a : ReadAnswer) → a ≡ alone_reading (form, part) → Some a ≡ page_answer case page
    unfolding page_answer
    the_page h s e a q =
        let p = page_is (right_header case form pages header) h s e.said (form, []) ∙ ap (λ (l : List ℕ). (form, l)) (sym e.is) in
        ap Some (q ∙ ap alone_reading (sym p)) ∙ sym (simp (header, lt-ltb page pages h))
