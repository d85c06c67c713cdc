-- To be believed: document 01's table of numbers and its order of refusals, for reading a case: which numbers are given, with which page,
-- and what the lent buffer holds after; and the same of one page. Nothing here speaks of a reader.
-- Assumes nothing.
use Rattle.std.specs.Prelude.{ℕ, ◌+◌, ◌≤◌, ◌<◌, ◌≡◌, List, [], ◌∷◌, ◌++◌, length, get_or, Option, Some, None}
use Rattle.run.specs.Grammar.{Run, RunOf}
use Rattle.run.specs.Tally.{Apart}
use Rattle.run.specs.declared.Answer.{Answer}
use Rattle.run.specs.declared.ReadAnswer.{ReadAnswer}
use Rattle.run.specs.Answers.{answer, bare, short_room, count_of, given, over}
use Rattle.sorts.specs.declared.Form.{Form}
use Rattle.sorts.specs.Forms.{form_of}
use Rattle.element_words.specs.declared.Element.{Element}
use Rattle.element_words.specs.Words.{words_of}
use Rattle.element_spelling.specs.ElementOctets.{CanonicalElement}
use Rattle.element_reading.specs.Grammar.{Spells}
use Rattle.element_reading.specs.ElementNumbers.{reading}
use Rattle.text_reading.specs.ReadingNumbers.{ReadingFault}
use Rattle.case_table.specs.Grammar.{CaseOf, Turned}
use Rattle.tlx.specs.declared.CaseAnswer.{CaseAnswer}

-- ---- pages

-- every page is a run of elements of the form; all of them joined
pub data AllSpelt (f : Form) : List (List ℕ) → List Element → Type 0 where
  none : AllSpelt f [] []
  more : {page : List ℕ} {pages : List (List ℕ)} {es fs : List Element} → RunOf (Spells f) page es → AllSpelt f pages fs
      → AllSpelt f (page ∷ pages) (es ++ fs)

-- the pages are refused at one of them: those before it are runs of elements, and it is refused as a text of its octets alone
pub record Faulty (f : Form) (pages : List (List ℕ)) (g r n p d : ℕ) : Type 0 where
  pub before : List (List ℕ)
  pub page : List ℕ
  pub behind : List (List ℕ)
  pub elements : List Element
  pub whole : pages ≡ before ++ (page ∷ behind)
  pub spelt : AllSpelt f before elements
  pub refused : ReadingFault f page r n p d
  pub named : g ≡ length before

-- the octets are the case of pages that are runs of elements: es, one page after another
pub record AcceptedCase (case : List ℕ) (es : List Element) : Type 0 where
  pub form : ℕ
  pub the_form : Form
  pub is_form : form_of form ≡ Some the_form
  pub pages : List (List ℕ)
  pub laid : CaseOf case form pages
  pub spelt : AllSpelt the_form pages es

-- how a case is refused: by itself, or the case of pages is refused at one of them
pub data RefusedCase (case : List ℕ) : ℕ → ℕ → ℕ → ℕ → ℕ → Type 0 where
  of_case : {r : ℕ} → Turned case r → RefusedCase case 0 r 0 0 0
  of_page : {form : ℕ} {f : Form} {pages : List (List ℕ)} {g r n p d : ℕ} → form_of form ≡ Some f → CaseOf case form pages
      → Faulty f pages g r n p d → RefusedCase case g r n p d

-- how many words the elements give
abbrev pub Size : List Element → ℕ
Size es = length (given words_of es)

-- document 02, No. 5: how many elements of some pages are not canonical, page after page
pub data PagesApart (f : Form) : List (List ℕ) → ℕ → Type 0 where
  none : PagesApart f [] 0
  more : {page : List ℕ} {pages ps : List (List ℕ)} {es : List Element} {k j : ℕ} → Run (Spells f) page ps es
      → Apart (CanonicalElement f) ps es k → PagesApart f pages j → PagesApart f (page ∷ pages) (k + j)

-- four numbers and the page beside them, as a refusal has them, whose fifth is 0
abbrev pub beside : ℕ → Answer → CaseAnswer
beside page a = record { answer = a; respelled = 0; page = page }

-- "13, 14, 11, 15, then pages from the first .., then 9": the four numbers, the fifth, and the page
pub data CaseTable (case words : List ℕ) : CaseAnswer → List ℕ → Type 0 where
  -- "the page named beside the answer (0 in any other answer)"; "A refusal writes nothing to any buffer."
  refused : {g r n p d : ℕ} → RefusedCase case g r n p d → CaseTable case words (beside g (answer r n p (count_of r d))) words
  -- 9: "lent room is short": "0; room needed"
  room_is_short : {es : List Element} → AcceptedCase case es → length words < Size es
      → CaseTable case words (beside 0 (short_room (Size es))) words
  -- "An accepted case answers 0, all elements, its length, and the count of its pages' words, written one page after another"; and how
  -- many elements of its pages are not canonical
  accepted : {es : List Element} {k : ℕ} (c : AcceptedCase case es) → PagesApart c.the_form c.pages k → Size es ≤ length words
      → CaseTable case words (record { answer = answer 0 (length es) (length case) (Size es); respelled = k; page = 0 })
      (over words (given words_of es))

-- The number tells the row; 10 and 12 are not asked of a case.
pub record CaseTells (case words : List ℕ) (a : CaseAnswer) (after : List ℕ) : Type 0 where
  pub is_0 : a.answer.number ≡ 0
      → (es : List Element) × (c : AcceptedCase case es) × (k : ℕ) × PagesApart c.the_form c.pages k × (Size es ≤ length words)
      × (a ≡ record { answer = answer 0 (length es) (length case) (Size es); respelled = k; page = 0 })
      × (after ≡ over words (given words_of es))
  pub is_9 : a.answer.number ≡ 9
      → (es : List Element) × AcceptedCase case es × (length words < Size es) × (a ≡ beside 0 (short_room (Size es)))
  pub is_other : (a.answer.number ≡ 0 → ⊥) → (a.answer.number ≡ 9 → ⊥)
      → (d : ℕ) × RefusedCase case a.page a.answer.number a.answer.element a.answer.place d
      × (a.answer.count ≡ count_of a.answer.number d) × (a.respelled ≡ 0)
  pub not_10 : a.answer.number ≡ 10 → ⊥
  pub not_12 : a.answer.number ≡ 12 → ⊥
  pub kept : (a.answer.number ≡ 0 → ⊥) → after ≡ words

-- ---- one page

-- 01's number and values of each answer: its four numbers, and the fifth; 01 has none for a page that is not in the case
abbrev pub page_values : Option ReadAnswer → List ReadAnswer
page_values (Some a) = a ∷ []
page_values None = []

-- the case's own refusal; else the page's octets, as a text by themselves, with room enough; no numbers where there is no such page
pub data PageTable (case : List ℕ) (page : ℕ) : List ReadAnswer → Type 0 where
  -- "13, 14, 11, 15"
  of_case : {r : ℕ} → Turned case r → PageTable case page (reading (bare r) 0 ∷ [])
  -- the case has fewer pages
  no_page : {form : ℕ} {pages : List (List ℕ)} → CaseOf case form pages → length pages ≤ page → PageTable case page []
  -- "places and elements counted from its start"
  refused : {form : ℕ} {f : Form} {pages : List (List ℕ)} {r n p d : ℕ} → form_of form ≡ Some f → CaseOf case form pages
      → page < length pages → ReadingFault f (get_or pages page []) r n p d
      → PageTable case page (reading (answer r n p (count_of r d)) 0 ∷ [])
  -- "0, elements, input length, entries written", as with room enough; and how many of its pieces are not canonical
  accepted : {form : ℕ} {f : Form} {pages ps : List (List ℕ)} {es : List Element} {k : ℕ} → form_of form ≡ Some f → CaseOf case form pages
      → page < length pages → Run (Spells f) (get_or pages page []) ps es → Apart (CanonicalElement f) ps es k
      → PageTable case page (reading (answer 0 (length es) (length (get_or pages page [])) (Size es)) k ∷ [])
