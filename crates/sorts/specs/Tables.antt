-- To be believed: the alphabets of document 01, in its order and its words, and in the row of the acute the one letter that document 02
-- adds (its No. 2). An octet or a follower stands before its character.
-- Assumes nothing.
use Rattle.std.specs.Prelude.{ℕ, zero, suc, List, [], ◌∷◌, ◌++◌, map}
use Prim.Native.Char.{Char, code}
use Rattle.sorts.specs.Cells.{Cell, ◌is◌, without, part}

-- ---- primary

-- n octets from o on
abbrev pub consecutive : ℕ → ℕ → List ℕ
consecutive o zero = []
consecutive o (suc n) = o ∷ consecutive (suc o) n

abbrev pub itself : ℕ → Cell
itself o = o is o

-- "Primary, forms 1 and 2: 20 to 7E as ASCII, 95 characters."
unfoldable pub primary : List Cell
primary = map itself (consecutive 0x20 95)

-- "Form 3: the same without 5C, 5E, 60, 7B, 7D, 7E; 23 reads as the number sign and 24 as the currency sign U+00A4."
unfoldable pub primary_3 : List Cell
unfolding primary
primary_3 =
    0x23 is 0x0023 ∷ 0x24 is 0x00A4 ∷
    without (0x23 ∷ 0x24 ∷ 0x5C ∷ 0x5E ∷ 0x60 ∷ 0x7B ∷ 0x7D ∷ 0x7E ∷ []) primary

-- ---- supplementary

-- "Supplementary, forms 1 and 2, spacing .. That is 73. A4, A6, C0, C9, CC, D8 to DB and E5 are unallocated."
unfoldable pub supplementary : List Cell
supplementary =
    0xA0 is 0x00A0 ∷ 0xA1 is 0x00A1 ∷ 0xA2 is 0x00A2 ∷ 0xA3 is 0x00A3 ∷ 0xA5 is 0x00A5 ∷ 0xA7 is 0x00A7 ∷ 0xA8 is 0x00A4 ∷ 0xA9 is 0x2018 ∷
    0xAA is 0x201C ∷ 0xAB is 0x00AB ∷ 0xAC is 0x2190 ∷ 0xAD is 0x2191 ∷ 0xAE is 0x2192 ∷ 0xAF is 0x2193 ∷ 0xB0 is 0x00B0 ∷ 0xB1 is 0x00B1 ∷
    0xB2 is 0x00B2 ∷ 0xB3 is 0x00B3 ∷ 0xB4 is 0x00D7 ∷ 0xB5 is 0x00B5 ∷ 0xB6 is 0x00B6 ∷ 0xB7 is 0x00B7 ∷ 0xB8 is 0x00F7 ∷ 0xB9 is 0x2019 ∷
    0xBA is 0x201D ∷ 0xBB is 0x00BB ∷ 0xBC is 0x00BC ∷ 0xBD is 0x00BD ∷ 0xBE is 0x00BE ∷ 0xBF is 0x00BF ∷ 0xD0 is 0x2015 ∷ 0xD1 is 0x00B9 ∷
    0xD2 is 0x00AE ∷ 0xD3 is 0x00A9 ∷ 0xD4 is 0x2122 ∷ 0xD5 is 0x266A ∷ 0xD6 is 0x00AC ∷ 0xD7 is 0x00A6 ∷ 0xDC is 0x215B ∷ 0xDD is 0x215C ∷
    0xDE is 0x215D ∷ 0xDF is 0x215E ∷ 0xE0 is 0x2126 ∷ 0xE1 is 0x00C6 ∷ 0xE2 is 0x0110 ∷ 0xE3 is 0x00AA ∷ 0xE4 is 0x0126 ∷ 0xE6 is 0x0132 ∷
    0xE7 is 0x013F ∷ 0xE8 is 0x0141 ∷ 0xE9 is 0x00D8 ∷ 0xEA is 0x0152 ∷ 0xEB is 0x00BA ∷ 0xEC is 0x00DE ∷ 0xED is 0x0166 ∷ 0xEE is 0x014A ∷
    0xEF is 0x0149 ∷ 0xF0 is 0x0138 ∷ 0xF1 is 0x00E6 ∷ 0xF2 is 0x0111 ∷ 0xF3 is 0x00F0 ∷ 0xF4 is 0x0127 ∷ 0xF5 is 0x0131 ∷ 0xF6 is 0x0133 ∷
    0xF7 is 0x0140 ∷ 0xF8 is 0x0142 ∷ 0xF9 is 0x00F8 ∷ 0xFA is 0x0153 ∷ 0xFB is 0x00DF ∷ 0xFC is 0x00FE ∷ 0xFD is 0x0167 ∷ 0xFE is 0x014B ∷
    0xFF is 0x00AD ∷ []

-- "Form 3 has A1 to A8, AB, B0 to B8, BB to BF, E0 to E4, E6 to FE as above, but A4 is the dollar sign and A6 the number sign: 53."
unfoldable pub supplementary_3 : List Cell
unfolding supplementary
supplementary_3 =
    0xA4 is 0x0024 ∷ 0xA6 is 0x0023 ∷
    (part 0xA1 0xA8 supplementary
    ++ part 0xAB 0xAB supplementary
    ++ part 0xB0 0xB8 supplementary
    ++ part 0xBB 0xBF supplementary
    ++ part 0xE0 0xE4 supplementary
    ++ part 0xE6 0xFE supplementary)

-- ---- marks: "written before the letter, with the combining character in brackets". Each letter stands with "the one Unicode character
-- whose canonical decomposition, taken one step, is that letter and combining character"; but for one, the small g of the acute.

-- a mark's octet, its combining character, and its followers with their characters
pub data Row : Type 0 where
  row : ℕ → ℕ → List Cell → Row

infix 70 ◌gives◌
-- a letter, as its octet, and the character that the row's mark makes of it
abbrev pub ◌gives◌ : Char → ℕ → Cell
l gives c = code l is c

-- C1 grave (0300) AEIOU aeiou: À È Ì Ò Ù, à è ì ò ù
unfoldable pub grave : Row
grave =
    row 0xC1 0x0300
    ("A" gives 0x00C0 ∷ "E" gives 0x00C8 ∷ "I" gives 0x00CC ∷ "O" gives 0x00D2 ∷ "U" gives 0x00D9 ∷
    "a" gives 0x00E0 ∷ "e" gives 0x00E8 ∷ "i" gives 0x00EC ∷ "o" gives 0x00F2 ∷ "u" gives 0x00F9 ∷ [])

-- C2 acute (0301) ACEILNORSUYZ aceilnorsuyz: Á Ć É Í Ĺ Ń Ó Ŕ Ś Ú Ý Ź, á ć é í ĺ ń ó ŕ ś ú ý ź
-- And g: ģ, by document 02, No. 2: "Annex A of source document 001 lists it and 01 left it out. Take its code from the annex's row. If the
-- annex names it cedilla, the character is U+0123; if it names it acute, U+01F5, whichever mark octet codes it." The row: LG11, "Latin
-- small letter g with cedilla", S 4/2, P 6/7. So the code is this mark and the letter g, and the character U+0123, which decomposes into g
-- and the cedilla's 0327: "For this square the annex's name outweighs 01's rule on decomposition."
unfoldable pub acute : Row
acute =
    row 0xC2 0x0301
    ("A" gives 0x00C1 ∷ "C" gives 0x0106 ∷ "E" gives 0x00C9 ∷ "I" gives 0x00CD ∷ "L" gives 0x0139 ∷ "N" gives 0x0143 ∷
    "O" gives 0x00D3 ∷ "R" gives 0x0154 ∷ "S" gives 0x015A ∷ "U" gives 0x00DA ∷ "Y" gives 0x00DD ∷ "Z" gives 0x0179 ∷
    "a" gives 0x00E1 ∷ "c" gives 0x0107 ∷ "e" gives 0x00E9 ∷ "g" gives 0x0123 ∷ "i" gives 0x00ED ∷ "l" gives 0x013A ∷ "n" gives 0x0144 ∷
    "o" gives 0x00F3 ∷ "r" gives 0x0155 ∷ "s" gives 0x015B ∷ "u" gives 0x00FA ∷ "y" gives 0x00FD ∷ "z" gives 0x017A ∷ [])

-- C3 circumflex (0302) ACEGHIJOSUWY aceghijosuwy: Â Ĉ Ê Ĝ Ĥ Î Ĵ Ô Ŝ Û Ŵ Ŷ, â ĉ ê ĝ ĥ î ĵ ô ŝ û ŵ ŷ
unfoldable pub circumflex : Row
circumflex =
    row 0xC3 0x0302
    ("A" gives 0x00C2 ∷ "C" gives 0x0108 ∷ "E" gives 0x00CA ∷ "G" gives 0x011C ∷ "H" gives 0x0124 ∷ "I" gives 0x00CE ∷
    "J" gives 0x0134 ∷ "O" gives 0x00D4 ∷ "S" gives 0x015C ∷ "U" gives 0x00DB ∷ "W" gives 0x0174 ∷ "Y" gives 0x0176 ∷
    "a" gives 0x00E2 ∷ "c" gives 0x0109 ∷ "e" gives 0x00EA ∷ "g" gives 0x011D ∷ "h" gives 0x0125 ∷ "i" gives 0x00EE ∷
    "j" gives 0x0135 ∷ "o" gives 0x00F4 ∷ "s" gives 0x015D ∷ "u" gives 0x00FB ∷ "w" gives 0x0175 ∷ "y" gives 0x0177 ∷ [])

-- C4 tilde (0303) AINOU ainou: Ã Ĩ Ñ Õ Ũ, ã ĩ ñ õ ũ
unfoldable pub tilde : Row
tilde =
    row 0xC4 0x0303
    ("A" gives 0x00C3 ∷ "I" gives 0x0128 ∷ "N" gives 0x00D1 ∷ "O" gives 0x00D5 ∷ "U" gives 0x0168 ∷
    "a" gives 0x00E3 ∷ "i" gives 0x0129 ∷ "n" gives 0x00F1 ∷ "o" gives 0x00F5 ∷ "u" gives 0x0169 ∷ [])

-- C5 macron (0304) AEIOU aeiou: Ā Ē Ī Ō Ū, ā ē ī ō ū
unfoldable pub macron : Row
macron =
    row 0xC5 0x0304
    ("A" gives 0x0100 ∷ "E" gives 0x0112 ∷ "I" gives 0x012A ∷ "O" gives 0x014C ∷ "U" gives 0x016A ∷
    "a" gives 0x0101 ∷ "e" gives 0x0113 ∷ "i" gives 0x012B ∷ "o" gives 0x014D ∷ "u" gives 0x016B ∷ [])

-- C6 breve (0306) AGU agu: Ă Ğ Ŭ, ă ğ ŭ
unfoldable pub breve : Row
breve =
    row 0xC6 0x0306
    ("A" gives 0x0102 ∷ "G" gives 0x011E ∷ "U" gives 0x016C ∷
    "a" gives 0x0103 ∷ "g" gives 0x011F ∷ "u" gives 0x016D ∷ [])

-- C7 dot above (0307) CEGIZ cegz: Ċ Ė Ġ İ Ż, ċ ė ġ ż
unfoldable pub dot_above : Row
dot_above =
    row 0xC7 0x0307
    ("C" gives 0x010A ∷ "E" gives 0x0116 ∷ "G" gives 0x0120 ∷ "I" gives 0x0130 ∷ "Z" gives 0x017B ∷
    "c" gives 0x010B ∷ "e" gives 0x0117 ∷ "g" gives 0x0121 ∷ "z" gives 0x017C ∷ [])

-- C8 diaeresis (0308) AEIOUY aeiouy: Ä Ë Ï Ö Ü Ÿ, ä ë ï ö ü ÿ
unfoldable pub diaeresis : Row
diaeresis =
    row 0xC8 0x0308
    ("A" gives 0x00C4 ∷ "E" gives 0x00CB ∷ "I" gives 0x00CF ∷ "O" gives 0x00D6 ∷ "U" gives 0x00DC ∷ "Y" gives 0x0178 ∷
    "a" gives 0x00E4 ∷ "e" gives 0x00EB ∷ "i" gives 0x00EF ∷ "o" gives 0x00F6 ∷ "u" gives 0x00FC ∷ "y" gives 0x00FF ∷ [])

-- CA ring (030A) AU au: Å Ů, å ů
unfoldable pub ring : Row
ring =
    row 0xCA 0x030A
    ("A" gives 0x00C5 ∷ "U" gives 0x016E ∷
    "a" gives 0x00E5 ∷ "u" gives 0x016F ∷ [])

-- CB cedilla (0327) CGKLNRST cklnrst: Ç Ģ Ķ Ļ Ņ Ŗ Ş Ţ, ç ķ ļ ņ ŗ ş ţ
unfoldable pub cedilla : Row
cedilla =
    row 0xCB 0x0327
    ("C" gives 0x00C7 ∷ "G" gives 0x0122 ∷ "K" gives 0x0136 ∷ "L" gives 0x013B ∷ "N" gives 0x0145 ∷ "R" gives 0x0156 ∷
    "S" gives 0x015E ∷ "T" gives 0x0162 ∷
    "c" gives 0x00E7 ∷ "k" gives 0x0137 ∷ "l" gives 0x013C ∷ "n" gives 0x0146 ∷ "r" gives 0x0157 ∷ "s" gives 0x015F ∷
    "t" gives 0x0163 ∷ [])

-- CD double acute (030B) OU ou: Ő Ű, ő ű
unfoldable pub double_acute : Row
double_acute =
    row 0xCD 0x030B
    ("O" gives 0x0150 ∷ "U" gives 0x0170 ∷
    "o" gives 0x0151 ∷ "u" gives 0x0171 ∷ [])

-- CE ogonek (0328) AEIU aeiu: Ą Ę Į Ų, ą ę į ų
unfoldable pub ogonek : Row
ogonek =
    row 0xCE 0x0328
    ("A" gives 0x0104 ∷ "E" gives 0x0118 ∷ "I" gives 0x012E ∷ "U" gives 0x0172 ∷
    "a" gives 0x0105 ∷ "e" gives 0x0119 ∷ "i" gives 0x012F ∷ "u" gives 0x0173 ∷ [])

-- CF caron (030C) CDELNRSTZ cdelnrstz: Č Ď Ě Ľ Ň Ř Š Ť Ž, č ď ě ľ ň ř š ť ž
unfoldable pub caron : Row
caron =
    row 0xCF 0x030C
    ("C" gives 0x010C ∷ "D" gives 0x010E ∷ "E" gives 0x011A ∷ "L" gives 0x013D ∷ "N" gives 0x0147 ∷ "R" gives 0x0158 ∷
    "S" gives 0x0160 ∷ "T" gives 0x0164 ∷ "Z" gives 0x017D ∷
    "c" gives 0x010D ∷ "d" gives 0x010F ∷ "e" gives 0x011B ∷ "l" gives 0x013E ∷ "n" gives 0x0148 ∷ "r" gives 0x0159 ∷
    "s" gives 0x0161 ∷ "t" gives 0x0165 ∷ "z" gives 0x017E ∷ [])

-- the marks with their letters. Document 02, No. 2: "There are then 155 pairs and 168 filled squares."
unfoldable pub letters : List Row
unfolding grave acute circumflex tilde macron breve dot_above diaeresis ring cedilla double_acute ogonek caron
letters =
    grave ∷ acute ∷ circumflex ∷ tilde ∷ macron ∷ breve ∷ dot_above ∷ diaeresis ∷ ring ∷ cedilla ∷ double_acute ∷ ogonek ∷ caron ∷ []

-- "A mark and SPACE is the free-standing accent, in the order above": ` ´ ^ ~ ¯ ˘ ˙ ¨ ˚ ¸ ˝ ˛ ˇ
unfoldable pub accents : List ℕ
accents = 0x0060 ∷ 0x00B4 ∷ 0x005E ∷ 0x007E ∷ 0x00AF ∷ 0x02D8 ∷ 0x02D9 ∷ 0x00A8 ∷ 0x02DA ∷ 0x00B8 ∷ 0x02DD ∷ 0x02DB ∷ 0x02C7 ∷ []

-- each row with its accent behind its letters
abbrev pub with_accents : List Row → List ℕ → List Row
with_accents [] ns = []
with_accents (r ∷ rs) [] = r ∷ rs
with_accents (row m k cs ∷ rs) (n ∷ ns) = row m k (cs ++ (0x20 is n ∷ [])) ∷ with_accents rs ns

-- the filled squares, row by row
unfoldable pub rows : List Row
unfolding letters accents
rows = with_accents letters accents
