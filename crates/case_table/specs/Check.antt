-- Proved equal to Grammar: what is asked of a case before its pages are read, over its header's octets, its table's octets and its size
-- alone, and the same of a whole case (proofs/Checked: turned_in, turned_exactly); its pages and lengths (proofs/Laid: case_pages,
-- lengths_are). A part of the code: `total_in`.
-- Assumes nothing.
use Rattle.std.specs.Prelude.{ℕ, Bool, true, false, List, [], ◌∷◌, eqb, leb, length, Result, Ok, Err}
use Rattle.run.specs.Choice.{pick}
use Rattle.sorts.specs.Forms.{form_of, in_form}
use Rattle.case_table.specs.declared.Header.{Header}
use Rattle.case_table.specs.declared.HeaderFault.{HeaderFault}
use Rattle.case_table.specs.declared.HeaderFault.TheVariants.{NoCase, OtherVersion, NoForm, WrongSize}
use Rattle.case_table.specs.Layout.{Layout, version_1, mark, version_of, form_octet, page_count, lengths_in, total, size_of}
use Rattle.case_table.specs.Layout.{pages_in, header_part, table_part, pages_part}

-- the list begins with these entries
unfoldable pub begins : List ℕ → List ℕ → Bool
begins [] s = true
begins (m ∷ ms) [] = false
begins (m ∷ ms) (o ∷ s) = let more = begins ms s in pick (eqb m o) more false

-- what header and table say: the form and how many pages, or why they are refused
abbrev pub Said : Type 0
Said = Result Header HeaderFault

-- they are right, and say this form and so many pages
abbrev pub says : (form pages : ℕ) → Said
says form pages = Ok (record { form = form; pages = pages })

-- the refusal unless the test holds; then what is left to ask
abbrev pub unless : Bool → HeaderFault → Said → Said
unless holds fault rest = pick holds rest (Err fault)

-- "For a case: 13, 14, 11, 15", or the form and how many pages
unfoldable pub header_in : Layout → (header table : List ℕ) (size : ℕ) → Said
header_in layout header table size =
    let pages = page_count header in
    -- 13: "case under 8 octets, or wrong mark"
    unless (leb 8 size) NoCase
    (unless (begins mark header) NoCase
    -- 14: "case version not 1", of the version that the layout is for
    (unless (eqb (version_of header) layout.version) OtherVersion
    -- 11: "form not 1 to 3"
    (in_form (form_of (form_octet header)) (Err NoForm)
    -- 15: "over 256 pages, or size wrong"
    (λ f. unless (leb pages 0x100) WrongSize
    (unless (eqb size (size_of layout pages (lengths_in layout pages table))) WrongSize
    (says (form_octet header) pages))))))

-- ---- of a whole case, by its parts

-- a case of version 1
unfoldable pub header_of : List ℕ → Said
header_of case = header_in version_1 (header_part case) (table_part version_1 case) (length case)

unfoldable pub lengths_of : List ℕ → List ℕ
lengths_of case = lengths_in version_1 (page_count (header_part case)) (table_part version_1 case)

-- "Every page is read by itself from where it starts in the case"
unfoldable pub pages_of : List ℕ → List (ℕ × List ℕ)
pages_of case =
    let front = header_part case in
    pages_in version_1 (form_octet front) (page_count front) (table_part version_1 case) (pages_part version_1 case)

-- ---- parts of the code

-- the first n lengths of a table, added up; 0 of more than the 256 pages that a case may have
unfoldable pub total_in : Layout → ℕ → List ℕ → ℕ
total_in layout n table = pick (leb n 0x100) (total (lengths_in layout n table)) 0
