-- To be believed, as relations: what an octet is inside a control sequence of form 3 (document 01, "Control sequence, form 3"; document 02,
-- No. 6). Proved equal to them, the definitions that give it (NumbersExactly: counts_as_exactly, kind_exactly).
-- Assumes nothing.
use Rattle.std.specs.Prelude.{ℕ, ◌-◌, ◌≤◌, ◌≡◌, ◌⊎◌, eqb}
use Rattle.run.specs.Choice.{pick, within}
use Rattle.sequence_reading.specs.declared.Kind.{Kind}
use Rattle.sequence_reading.specs.declared.Kind.TheVariants.{Digit, Separator, Middle, Final, Other}

-- ---- Document 02, No. 6: "ISO 6429, as printed in Annex D of source document 000, allows A1 to FE inside a sequence, meaning the octet 80
-- (hex) below. So after 9B they count as 21 to 7E for every rule of 01. A0 and FF stay refused as 6." Annex D: "the bit combination of
-- columns 10 to 15 (except 10/0 and 15/15) are permitted to represent: .. parameters, intermediates and finals of a control sequence; .. In
-- these situations, the bit combinations in the range 10/1 to 15/14 have the same meanings as the corresponding bit combination in the
-- range 2/1 to 7/14."

-- the octet that an octet behind 9B counts as
abbrev pub counts_as : ℕ → ℕ
counts_as b = pick (within 0xA1 0xFE b) (b - 0x80) b

-- ---- Document 01: "parameter octets (30 to 39, 3B), .. intermediate (20 to 2F), .. final (40 to 7E)"; each kind carries what the octet
-- means

abbrev pub kind_counted : ℕ → Kind
kind_counted c =
    pick (within 0x30 0x39 c) (Digit (c - 0x30))
    (pick (eqb c 0x3B) Separator
    (pick (within 0x20 0x2F c) (Middle c)
    (pick (within 0x40 0x7E c) (Final c)
    Other)))

-- what an octet behind 9B is: what it counts as
unfoldable pub kind_of : ℕ → Kind
kind_of b = kind_counted (counts_as b)

-- ---- 01's number and value of each kind, and when each is given

-- 6, "octet not allowed at this point of a sequence", of what is allowed at none; else 0
abbrev pub kind_number : Kind → ℕ
kind_number (Digit d) = 0
kind_number Separator = 0
kind_number (Middle i) = 0
kind_number (Final f) = 0
kind_number Other = 6

-- a digit's value; an intermediate and a final are the octets that they count as; 0 where there is no value
abbrev pub kind_value : Kind → ℕ
kind_value (Digit d) = d
kind_value Separator = 0
kind_value (Middle i) = i
kind_value (Final f) = f
kind_value Other = 0

-- "A1 to FE"
abbrev pub UpperHalf : ℕ → Type 0
UpperHalf b = (0xA1 ≤ b) × (b ≤ 0xFE)

-- an octet behind 9B, and the octet that it counts as: "the octet 80 (hex) below", or itself
pub data CountsAs (b : ℕ) : ℕ → Type 0 where
  itself : (UpperHalf b → ⊥) → CountsAs b b
  lowered : UpperHalf b → CountsAs b (b - 0x80)

-- "parameter octets (30 to 39, 3B)"
abbrev pub ParameterOctet : ℕ → Type 0
ParameterOctet b = ((0x30 ≤ b) × (b ≤ 0x39)) ⊎ (b ≡ 0x3B)

-- "intermediate (20 to 2F)"
abbrev pub IntermediateOctet : ℕ → Type 0
IntermediateOctet b = (0x20 ≤ b) × (b ≤ 0x2F)

-- "final (40 to 7E)"
abbrev pub FinalOctet : ℕ → Type 0
FinalOctet b = (0x40 ≤ b) × (b ≤ 0x7E)

-- none of these, by 01
abbrev pub NoneOfThese : ℕ → Type 0
NoneOfThese c = (ParameterOctet c → ⊥) × (IntermediateOctet c → ⊥) × (FinalOctet c → ⊥)

-- an octet inside a sequence, by 01: its kind, the kind's number and its value
pub data CountedRow (c : ℕ) : Kind → ℕ → ℕ → Type 0 where
  digit : 0x30 ≤ c → c ≤ 0x39 → CountedRow c (Digit (c - 0x30)) 0 (c - 0x30)
  separator : c ≡ 0x3B → CountedRow c Separator 0 0
  intermediate : IntermediateOctet c → CountedRow c (Middle c) 0 c
  final : FinalOctet c → CountedRow c (Final c) 0 c
  no_octet : NoneOfThese c → CountedRow c Other 6 0

-- 02: "they count as 21 to 7E for every rule of 01"
abbrev pub KindRow : ℕ → Kind → ℕ → ℕ → Type 0
KindRow b k n v = (c : ℕ) × CountsAs b c × CountedRow c k n v

-- no octet of a sequence
abbrev pub OfNoSequence : ℕ → Type 0
OfNoSequence b = (c : ℕ) × CountsAs b c × NoneOfThese c
