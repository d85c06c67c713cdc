-- To be believed: document 01's table "Sixteen readings to prove", row by row, and what a row claims. "All 16, and only these, are proved
-- of the definitions as a single table under a single claim": `AllHold readings` (proofs/Demands: sixteen_readings).
-- Assumes nothing.
use Rattle.std.specs.Prelude.{ℕ, ◌≡◌, List, [], ◌∷◌, length}
use Rattle.run.specs.Answers.{answer}
use Rattle.text_reading.specs.ReadAnswers.{read_answer, read_words}
use Rattle.text.specs.WriteAnswers.{convert_answer, convert_text}

-- what the table's third column says
pub data Result : Type 0 where
  -- the words
  words : List ℕ → Result
  -- the number, element, place and count
  no : ℕ → ℕ → ℕ → ℕ → Result

-- and what it adds of some: the octets in a form ("canonical" is the text's own), or the number that a form gives
pub data Added : Type 0 where
  nothing : Added
  within_a_form : ℕ → List ℕ → Added
  is_refused_by : ℕ → ℕ → Added

-- a row of the table: form, octets, result
pub data Line : Type 0 where
  line : ℕ → List ℕ → Result → Added → Line

abbrev pub readings : List Line
readings =
    -- | 1 | none | no words |
    line 1 [] (words []) nothing
    -- | 1 | C2 65 | 233; in form 2 it is 19 42 65 |
    ∷ line 1 (0xC2 ∷ 0x65 ∷ []) (words (233 ∷ [])) (within_a_form 2 (0x19 ∷ 0x42 ∷ 0x65 ∷ []))
    -- | 1 | C1 20 | 96; canonical 60 |
    ∷ line 1 (0xC1 ∷ 0x20 ∷ []) (words (96 ∷ [])) (within_a_form 1 (0x60 ∷ []))
    -- | 1 | C2 | 4, place 0, count 1 |
    ∷ line 1 (0xC2 ∷ []) (no 4 0 0 1) nothing
    -- | 1 | C2 62 | 3, place 0, count 1 |
    ∷ line 1 (0xC2 ∷ 0x62 ∷ []) (no 3 0 0 1) nothing
    -- | 1 | 41 A4 | 1, element 1, place 1, count 1 |
    ∷ line 1 (0x41 ∷ 0xA4 ∷ []) (no 1 1 1 1) nothing
    -- | 2 | 19 42 65 | 233 |
    ∷ line 2 (0x19 ∷ 0x42 ∷ 0x65 ∷ []) (words (233 ∷ [])) nothing
    -- | 2 | 19 24 | 1, place 0, count 1 |
    ∷ line 2 (0x19 ∷ 0x24 ∷ []) (no 1 0 0 1) nothing
    -- | 2 | C2 | 5, place 0, count 0 |
    ∷ line 2 (0xC2 ∷ []) (no 5 0 0 0) nothing
    -- | 3 | 23 | 35; canonical A6 |
    ∷ line 3 (0x23 ∷ []) (words (35 ∷ [])) (within_a_form 3 (0xA6 ∷ []))
    -- | 3 | 60 | 1, place 0, count 0 |
    ∷ line 3 (0x60 ∷ []) (no 1 0 0 0) nothing
    -- | 3 | CC 41 | 16777281; to form 1: 10 |
    ∷ line 3 (0xCC ∷ 0x41 ∷ []) (words (16777281 ∷ [])) (is_refused_by 1 10)
    -- | 3 | 9B 34 6D | 67136769, 4 |
    ∷ line 3 (0x9B ∷ 0x34 ∷ 0x6D ∷ []) (words (67136769 ∷ 4 ∷ [])) nothing
    -- | 3 | 9B 20 4C | 69225473, 0 |
    ∷ line 3 (0x9B ∷ 0x20 ∷ 0x4C ∷ []) (words (69225473 ∷ 0 ∷ [])) nothing
    -- | 3 | 9B 30 3B 6D | 67136770, 0, 0; canonical 9B 3B 6D |
    ∷ line 3 (0x9B ∷ 0x30 ∷ 0x3B ∷ 0x6D ∷ []) (words (67136770 ∷ 0 ∷ 0 ∷ [])) (within_a_form 3 (0x9B ∷ 0x3B ∷ 0x6D ∷ []))
    -- | 3 | 1B | 2, place 0, count 0 |
    ∷ line 3 (0x1B ∷ []) (no 2 0 0 0) nothing
    ∷ []

-- ---- what a row claims

-- a lent buffer of three entries, of which the first are these, and the others stand as before
abbrev pub three : List ℕ → List ℕ
three [] = 7 ∷ 7 ∷ 7 ∷ []
three (a ∷ []) = a ∷ 7 ∷ 7 ∷ []
three (a ∷ b ∷ []) = a ∷ b ∷ 7 ∷ []
three (a ∷ b ∷ c ∷ more) = a ∷ b ∷ c ∷ []

-- no accepted text of the table has more than one element
abbrev pub elements : List ℕ → ℕ
elements [] = 0
elements (w ∷ ws) = 1

-- read so: the four numbers, and every entry of the buffer
abbrev pub ReadSo : ℕ → List ℕ → Result → Type 0
ReadSo form octets (words ws) =
    (read_answer form octets 3 ≡ answer 0 (elements ws) (length octets) (length ws)) × (read_words form octets (three []) ≡ three ws)
ReadSo form octets (no r n p c) =
    (read_answer form octets 3 ≡ answer r n p c) × (read_words form octets (three []) ≡ three [])

-- converted so
abbrev pub ConvertedSo : ℕ → List ℕ → Added → Type 0
ConvertedSo form octets nothing = Unit {0}
ConvertedSo form octets (within_a_form g out) =
    (convert_answer form g octets 3 ≡ answer 0 1 (length octets) (length out)) × (convert_text form g octets (three []) ≡ three out)
ConvertedSo form octets (is_refused_by g r) =
    (convert_answer form g octets 3 ≡ answer r 0 0 0) × (convert_text form g octets (three []) ≡ three [])

-- the one claim: each row of the table is read and converted so
abbrev pub AllHold : List Line → Type 0
AllHold [] = Unit {0}
AllHold (line form octets result added ∷ more) = (ReadSo form octets result × ConvertedSo form octets added) × AllHold more
