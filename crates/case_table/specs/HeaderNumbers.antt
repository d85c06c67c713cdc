-- To be believed: document 01's number of each answer of a header's check, its words for a refusal, the form and the page count that an
-- answer says, and when each is given. Nothing here speaks of a reader.
-- Assumes nothing.
use Rattle.std.specs.Prelude.{ℕ, ◌≡◌, List, length, Result, Ok, Err, codes}
use Rattle.run.specs.declared.Answer.{Answer}
use Rattle.run.specs.Answers.{bare}
use Rattle.case_table.specs.declared.Header.{Header}
use Rattle.case_table.specs.declared.HeaderFault.{HeaderFault}
use Rattle.case_table.specs.declared.HeaderFault.TheVariants.{NoCase, OtherVersion, NoForm, WrongSize}
use Rattle.case_table.specs.Layout.{Layout, version_1, form_octet, page_count, header_part, table_part}
use Rattle.case_table.specs.Grammar.{TurnedBy, SoundIn}

-- 01's number of each refusal
abbrev pub fault_number : HeaderFault → ℕ
fault_number NoCase = 13
fault_number OtherVersion = 14
fault_number NoForm = 11
fault_number WrongSize = 15

-- 01's words for it
abbrev pub fault_text : HeaderFault → List ℕ
fault_text NoCase = codes "case under 8 octets, or wrong mark"
fault_text OtherVersion = codes "case version not 1"
fault_text NoForm = codes "form not 1 to 3"
fault_text WrongSize = codes "over 256 pages, or size wrong"

-- 01's number of each answer, which carries no place, element or count
abbrev pub header_answer : Result Header HeaderFault → Answer
header_answer (Err fault) = bare (fault_number fault)
header_answer (Ok h) = bare 0

-- its values, "TLX 1 pages 2": the form, and how many pages; a refusal says neither
abbrev pub header_form : Result Header HeaderFault → ℕ
header_form (Err fault) = 0
header_form (Ok h) = h.form

abbrev pub header_pages : Result Header HeaderFault → ℕ
header_pages (Err fault) = 0
header_pages (Ok h) = h.pages

-- the answer is a refusal, with this number
abbrev pub RefusedWith : Result Header HeaderFault → ℕ → Type 0
RefusedWith r n = (fault : HeaderFault) × (r ≡ Err fault) × (fault_number fault ≡ n)

-- which number and values are given
pub data HeaderTable (layout : Layout) (header table : List ℕ) (size : ℕ) : Answer → ℕ → ℕ → Type 0 where
  -- "For a case: 13, 14, 11, 15"
  refused : {r : ℕ} → TurnedBy layout header table size r → HeaderTable layout header table size (bare r) 0 0
  -- none of these: what the header says
  right : SoundIn layout header table size → HeaderTable layout header table size (bare 0) (form_octet header) (page_count header)

-- the same of a whole case of version 1, by its parts
abbrev pub HeaderTableOf : List ℕ → Answer → ℕ → ℕ → Type 0
HeaderTableOf case = HeaderTable version_1 (header_part case) (table_part version_1 case) (length case)
