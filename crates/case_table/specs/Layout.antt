-- To be believed: the octets of a case (document 01, "The TLX case"), what they say, read from the left, and what they are when written.
-- Assumes nothing.
use Rattle.std.specs.Prelude.{ℕ, zero, suc, ◌+◌, ◌*◌, ◌/◌, ◌%◌, List, [], ◌∷◌, ◌++◌, map, length, take, drop, get_or}
use Rattle.run.specs.Answers.{given}

-- "Octets 54 4C 58"
abbrev pub mark : List ℕ
mark = 0x54 ∷ 0x4C ∷ 0x58 ∷ []

-- "big-endian 16-bit": the octets of a number, the high one first
abbrev pub big16 : ℕ → List ℕ
big16 n = (n / 0x100) ∷ (n % 0x100) ∷ []

-- the number that stands in the two octets from a place on; an octet that is not there says 0
abbrev pub number16 : List ℕ → ℕ → ℕ
number16 octets at = 0x100 * get_or octets at 0 + get_or octets (at + 1) 0

-- ---- the eight octets of the header

-- the mark, "a big-endian 16-bit version, one form octet, a big-endian 16-bit page count"
abbrev pub header : ℕ → ℕ → ℕ → List ℕ
header version form pages = mark ++ (big16 version ++ (form ∷ big16 pages))

-- what each says
abbrev pub version_of : List ℕ → ℕ
version_of header = number16 header 3

abbrev pub form_octet : List ℕ → ℕ
form_octet header = get_or header 5 0

abbrev pub page_count : List ℕ → ℕ
page_count header = number16 header 6

-- ---- the table

-- how a version lays its table out
pub record Layout : Type 0 where
  pub version : ℕ
  -- how many octets an entry has
  pub entry : ℕ
  -- the length of its page, as an entry says it
  pub says : List ℕ → ℕ
  -- the number of its page's form, by the header's form octet and the entry
  pub form : ℕ → List ℕ → ℕ
  -- the longest page
  pub longest : ℕ

-- version 1: "one form octet", "one big-endian 16-bit length a page"; no "length is over 65,535"
abbrev pub version_1 : Layout
version_1 =
    record { version = 1; entry = 2; says = λ entry. number16 entry 0; form = λ form entry. form; longest = 0xFFFF }

-- the lengths that a table of n entries says; an entry that is not there says 0
unfoldable pub lengths_in : Layout → ℕ → List ℕ → List ℕ
lengths_in layout zero table = []
lengths_in layout (suc n) table =
    layout.says (take layout.entry table) ∷ lengths_in layout n (drop layout.entry table)

-- "the lengths", added up
unfoldable pub total : List ℕ → ℕ
total [] = 0
total (n ∷ ns) = n + total ns

-- "8 + 2 x pages + the lengths"
abbrev pub size_of : Layout → ℕ → List ℕ → ℕ
size_of layout pages lengths = 8 + layout.entry * pages + total lengths

-- ---- the pages: the number of its form, and its octets

-- pages of one form
abbrev pub of_form : ℕ → List (List ℕ) → List (ℕ × List ℕ)
of_form form pages = map (λ (page : List ℕ). (form, page)) pages

-- the lengths of pages, and their octets, one behind the other
abbrev pub sizes : List (List ℕ) → List ℕ
sizes pages = map length pages

abbrev pub joined : List (List ℕ) → List ℕ
joined pages = given (λ page. page) pages

-- the octets of pages of these lengths that stand one behind the other: each starts where the one before it ends
unfoldable pub cut : List ℕ → List ℕ → List (List ℕ)
cut [] octets = []
cut (n ∷ ns) octets = take n octets ∷ cut ns (drop n octets)

-- the pages that a table of n entries says, of the octets behind it; `form` is the header's
unfoldable pub pages_in : Layout → (form n : ℕ) (table octets : List ℕ) → List (ℕ × List ℕ)
pages_in layout form zero table octets = []
pages_in layout form (suc n) table octets =
    let entry = take layout.entry table in
    let size = layout.says entry in
    (layout.form form entry, take size octets) ∷ pages_in layout form n (drop layout.entry table) (drop size octets)

-- ---- the parts of a whole case, by the page count that its header says

abbrev pub header_part : List ℕ → List ℕ
header_part case = take 8 case

abbrev pub table_part : Layout → List ℕ → List ℕ
table_part layout case = take (layout.entry * page_count (header_part case)) (drop 8 case)

abbrev pub pages_part : Layout → List ℕ → List ℕ
pages_part layout case = drop (layout.entry * page_count (header_part case)) (drop 8 case)

-- ---- a case as it is written

-- a version's case of a form: the header, an entry of the table for each page, the octets of each page
abbrev pub laid : {P : Type 0} → ℕ → (P → List ℕ) → (P → List ℕ) → ℕ → List P → List ℕ
laid version entry octets form pages =
    header version form (length pages) ++ (given entry pages ++ given octets pages)

-- version 1's case of pages of one form, each a list of octets
abbrev pub case_of : ℕ → List (List ℕ) → List ℕ
case_of form pages = laid 1 (λ page. big16 (length page)) (λ page. page) form pages

-- the same from its parts: "form, page lengths, joined page octets"
abbrev pub case_with : ℕ → List ℕ → List ℕ → List ℕ
case_with form lengths octets = header 1 form (length lengths) ++ (given big16 lengths ++ octets)
