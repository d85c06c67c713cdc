-- Proved equal to CaseReadingNumbers: what reading a case comes to, its answer with the fifth number (`read_case_reading`), and what the lent
-- words hold after (proofs/Cases: case_exactly); one page's answer (proofs/EachPage: page_row, of_page_row). The answer is made in two
-- steps: `read_case_answer` has the four numbers and the page, and 0 as the fifth. A part of the code: `case_measured`.
-- Assumes nothing.
use Rattle.std.specs.Prelude.{ℕ, ◌+◌, List, [], ◌∷◌, ◌++◌, ltb, length, get_or, Option, Some, None, Ok, Err}
use Rattle.run.specs.Choice.{pick}
use Rattle.run.specs.Head.{Outcome, accepted, refusal}
use Rattle.run.specs.declared.Answer.{Answer}
use Rattle.run.specs.declared.ReadAnswer.{ReadAnswer}
use Rattle.run.specs.Answers.{given, bare, carrying, answer_of, written_of, roomy_answer}
use Rattle.sorts.specs.Forms.{form_of, in_form}
use Rattle.element_words.specs.declared.Element.{Element}
use Rattle.element_words.specs.Words.{words_of}
use Rattle.text_loops.specs.Fronts.{read_in}
use Rattle.text_reading.specs.ReadAnswers.{read_answer, respelled_in}
use Rattle.case_table.specs.Check.{Said, header_of, pages_of}
use Rattle.case_table.specs.HeaderNumbers.{fault_number}
use Rattle.tlx.specs.declared.CaseAnswer.{CaseAnswer}
use Rattle.tlx.specs.CaseReadingNumbers.{beside}

-- what a case, or some pages of it, come to
pub data CaseOutcome : Type 0 where
  -- the elements of all pages, one page after another
  all : List Element → CaseOutcome
  -- the page that is refused; number, element, place and deciding place of its refusal, "counted from its start"
  fault : ℕ → ℕ → ℕ → ℕ → ℕ → CaseOutcome

-- an outcome behind k pages whose elements are es: elements joined, or the page's number moved up
abbrev pub join_pages : List Element → ℕ → CaseOutcome → CaseOutcome
join_pages es k (all fs) = all (es ++ fs)
join_pages es k (fault page r n p d) = fault (k + page) r n p d

-- the outcome by what the first page comes to, read as a text; `rest` is the outcome of the pages behind it
abbrev pub after_page : Outcome Element → CaseOutcome → CaseOutcome
after_page (accepted es) rest = join_pages es 1 rest
after_page (refusal r n p d) rest = fault 0 r n p d

-- a page, its octets read as a text of its form; that the number is a form's has been asked by then, so this 11 is never given
abbrev pub read_page : ℕ × List ℕ → Outcome Element
read_page page = in_form (form_of page.0) (refusal 11 0 0 0) (λ f. read_in f page.1)

-- "then pages from the first"
unfoldable pub read_pages : List (ℕ × List ℕ) → CaseOutcome
read_pages [] = all []
read_pages (page ∷ pages) = after_page (read_page page) (read_pages pages)

-- a refusal of the case itself: it names no page, element or place
abbrev pub turned : ℕ → CaseOutcome
turned r = fault 0 r 0 0 0

-- by the header: what it is refused with, or the form and how many pages
abbrev pub by_header : {A : Type 0} → Said → (ℕ → A) → (ℕ → ℕ → A) → A
by_header (Err why) without within = without (fault_number why)
by_header (Ok h) without within = within h.form h.pages

-- a whole case: "13, 14, 11, 15, then pages from the first"
unfoldable pub read_case : List ℕ → CaseOutcome
read_case case = by_header (header_of case) turned (λ form n. read_pages (pages_of case))

-- ---- the answer

-- the same outcome as that of a text
abbrev pub outcome_of : CaseOutcome → Outcome Element
outcome_of (all es) = accepted es
outcome_of (fault page r n p d) = refusal r n p d

-- "the page named beside the answer (0 in any other answer)"
abbrev pub page_of : CaseOutcome → ℕ
page_of (all es) = 0
page_of (fault page r n p d) = page

-- "An accepted case answers 0, all elements, its length, and the count of its pages' words"; 9 where the room is short; the fifth number is
-- not in it yet, `carrying_case` puts it in
abbrev pub case_answer : ℕ → ℕ → CaseOutcome → CaseAnswer
case_answer size room x = beside (page_of x) (answer_of words_of size room (outcome_of x))

unfoldable pub read_case_answer : List ℕ → ℕ → CaseAnswer
read_case_answer case room = case_answer (length case) room (read_case case)

-- ---- the fifth number (document 02, No. 5): the pages' numbers, added; an accepted case carries it, and a refusal 0

unfoldable pub pages_respelled : List (ℕ × List ℕ) → ℕ
pages_respelled [] = 0
pages_respelled (page ∷ pages) = respelled_in page.0 page.1 + pages_respelled pages

unfoldable pub case_respelled : List ℕ → ℕ
case_respelled case = by_header (header_of case) (λ r. 0) (λ form n. pages_respelled (pages_of case))

-- the five numbers and the page
abbrev pub with_page : ℕ → ReadAnswer → CaseAnswer
with_page page r = record { answer = r.answer; respelled = r.respelled; page = page }

abbrev pub carrying_case : CaseAnswer → ℕ → CaseAnswer
carrying_case a k = with_page a.page (carrying a.answer k)

abbrev pub read_case_reading : List ℕ → ℕ → CaseAnswer
read_case_reading case room = carrying_case (read_case_answer case room) (case_respelled case)

-- ---- the words "written one page after another", and then the untouched rest; on any refusal the buffer as it stood
unfoldable pub read_case_words : List ℕ → List ℕ → List ℕ
read_case_words case words = written_of words_of words (outcome_of (read_case case))

-- the words of a page, where it is accepted
abbrev pub page_words : Outcome Element → List ℕ
page_words (accepted es) = given words_of es
page_words (refusal r n p d) = []

-- ---- one page

-- the answer of a page's octets, read as a text with room enough
abbrev pub alone_answer : ℕ × List ℕ → Answer
alone_answer page = read_answer page.0 page.1 (length page.1)

-- with its fifth number
abbrev pub alone_reading : ℕ × List ℕ → ReadAnswer
alone_reading page = carrying (alone_answer page) (respelled_in page.0 page.1)

-- the case's own refusal; else the page's answer
unfoldable pub page_answer : List ℕ → ℕ → Option ReadAnswer
page_answer case page =
    by_header (header_of case) (λ r. Some (carrying (bare r) 0))
    (λ form n. pick (ltb page n) (Some (alone_reading (get_or (pages_of case) page (form, [])))) None)

-- ---- parts of the code

-- the answer of a measuring: as with room enough
abbrev pub case_measured : ℕ → CaseOutcome → CaseAnswer
case_measured size x = beside (page_of x) (roomy_answer words_of size (outcome_of x))
