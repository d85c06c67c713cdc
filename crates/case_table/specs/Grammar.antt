-- To be believed: which octets are a case, and how header and table turn others away, in document 01's words. Nothing here speaks of a
-- reader.
-- Assumes nothing.
use Rattle.std.specs.Prelude.{ℕ, ◌≤◌, ◌<◌, ◌≡◌, length, take, get_or}
use mathlib.Core.List.{List, Memᴰ}
use Rattle.case_table.specs.Layout.{Layout, version_1, mark, version_of, form_octet, page_count, lengths_in, size_of}
use Rattle.case_table.specs.Layout.{header_part, table_part, case_of}
use Rattle.sorts.specs.Forms.{IsForm, NoForm}

-- every entry is an octet
abbrev pub Octets : List ℕ → Type 0
Octets s = (i : ℕ) → get_or s i 0 < 0x100

-- the octets are the case of these pages: at most 256, each of at most 65,535 octets
pub record CaseOf (octets : List ℕ) (form : ℕ) (pages : List (List ℕ)) : Type 0 where
  pub is_form : IsForm form
  pub few : length pages ≤ 0x100
  pub short : (page : List ℕ) → Memᴰ page pages → length page ≤ version_1.longest
  pub is : octets ≡ case_of form pages

-- ---- what is asked of a case's header, table and size, in document 01's order; each record holds what stands before it

-- not 13
pub record Marked (header : List ℕ) (size : ℕ) : Type 0 where
  pub eight : 8 ≤ size
  pub marked : take 3 header ≡ mark

-- nor 14
pub record Versioned (layout : Layout) (header : List ℕ) (size : ℕ) : Type 0 where
  pub before : Marked header size
  pub version : version_of header ≡ layout.version

-- nor 11
pub record WithForm (layout : Layout) (header : List ℕ) (size : ℕ) : Type 0 where
  pub before : Versioned layout header size
  pub form : IsForm (form_octet header)

-- "8 + 2 x pages + the lengths"; entries that are not there say 0, so that the size is then wrong
abbrev pub size_said : Layout → (header table : List ℕ) → ℕ
size_said layout header table = size_of layout (page_count header) (lengths_in layout (page_count header) table)

-- "For a case: 13, 14, 11, 15"
pub data TurnedBy (layout : Layout) (header table : List ℕ) (size : ℕ) : ℕ → Type 0 where
  -- 13: "case under 8 octets, or wrong mark"
  under_8 : size < 8 → TurnedBy layout header table size 13
  wrong_mark : 8 ≤ size → (take 3 header ≡ mark → ⊥) → TurnedBy layout header table size 13
  -- 14: "case version not 1"
  other_version : Marked header size → (version_of header ≡ layout.version → ⊥) → TurnedBy layout header table size 14
  -- 11: "form not 1 to 3"
  no_form : Versioned layout header size → NoForm (form_octet header) → TurnedBy layout header table size 11
  -- 15: "over 256 pages, or size wrong"
  over_256 : WithForm layout header size → 0x100 < page_count header → TurnedBy layout header table size 15
  wrong_size : WithForm layout header size → page_count header ≤ 0x100 → (size ≡ size_said layout header table → ⊥)
      → TurnedBy layout header table size 15

-- none of these
pub record SoundIn (layout : Layout) (header table : List ℕ) (size : ℕ) : Type 0 where
  pub before : WithForm layout header size
  pub few : page_count header ≤ 0x100
  pub size_is_said : size ≡ size_said layout header table

-- the same of a whole case of version 1, by its parts
abbrev pub Turned : List ℕ → ℕ → Type 0
Turned case r = TurnedBy version_1 (header_part case) (table_part version_1 case) (length case) r

abbrev pub Sound : List ℕ → Type 0
Sound case = SoundIn version_1 (header_part case) (table_part version_1 case) (length case)
