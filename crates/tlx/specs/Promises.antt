-- To be believed: the promise of each public function, by its name; its arguments, at entry, then its result, then what a lent buffer holds
-- after. Where the result is an enum, the second part says which of 01's numbers and values it has. Of what is handed on, the promises
-- stand in `case_table` and `case_writing`.
-- Assumes nothing.
use Rattle.std.specs.Prelude.{ℕ, ◌≡◌, List, length, Option}
use Rattle.run.specs.declared.ReadAnswer.{ReadAnswer}
use Rattle.case_table.specs.Grammar.{Octets}
use Rattle.tlx.specs.declared.CaseAnswer.{CaseAnswer}
use Rattle.tlx.specs.CaseReadingNumbers.{page_values, PageTable}
use Rattle.tlx.specs.CaseReading.{read_case_reading, read_case_words, page_answer}

-- one page's answer, and its row of 01's numbers, or of none where there is no such page; the entries of the case are octets
abbrev pub PageElementsPromise : List ℕ → ℕ → Option ReadAnswer → Type 0
PageElementsPromise case page r = (r ≡ page_answer case page) × PageTable case page (page_values r) × Octets case

-- a case, read; its entries are octets
abbrev pub ReadCasePromise : List ℕ → List ℕ → CaseAnswer → List ℕ → Type 0
ReadCasePromise case words r after = (r ≡ read_case_reading case (length words)) × (after ≡ read_case_words case words) × Octets case
