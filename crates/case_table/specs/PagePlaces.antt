-- To be believed: where the pages of a case stand whose header and table are right.
-- Assumes nothing.
use Rattle.std.specs.Prelude.{ℕ, ◌+◌, ◌*◌, ◌-◌, ◌≤◌, ◌<◌, ◌≡◌, List, length, take, drop, Some}
use Rattle.sorts.specs.declared.Form.{Form}
use Rattle.sorts.specs.Forms.{form_of}
use Rattle.case_table.specs.Layout.{version_1, number16, form_octet, page_count, lengths_in, total, header_part}
use Rattle.case_table.specs.Grammar.{Sound}

-- the octets behind the header, the table first
abbrev pub behind_header : List ℕ → List ℕ
behind_header case = drop 8 case

-- the lengths of the pages before a page, added up
abbrev pub total_before : List ℕ → ℕ → ℕ
total_before case page = total (lengths_in version_1 page (behind_header case))

-- the octets from a place up to an end
abbrev pub between : List ℕ → ℕ → ℕ → List ℕ
between s start end = take (end - start) (drop start s)

-- the page that starts at a place is this part of the case: as many octets from there on as its entry of the table says
pub record PartOf (case : List ℕ) (page start : ℕ) (part : List ℕ) : Type 0 where
  pub said : length part ≡ number16 case (8 + 2 * page)
  pub short : length part < 0x10000
  pub is : part ≡ between case start (start + length part)

-- header and table are right, and say this form and so many pages
pub record Right (case : List ℕ) (form pages : ℕ) : Type 0 where
  pub sound : Sound case
  pub form_octet_is : form_octet (header_part case) ≡ form
  pub page_count_is : page_count (header_part case) ≡ pages
  pub the_form : Form
  pub is_form : form_of form ≡ Some the_form
  pub few : pages ≤ 0x100
  pub size : length case ≡ 8 + 2 * pages + total_before case pages
