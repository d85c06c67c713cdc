-- To be believed: the canonical spelling of a character, as a relation in document 01's words.
-- Assumes nothing.
use Rattle.std.specs.Prelude.{ℕ, ◌≡◌, List, [], ◌∷◌, Some, Option, None}
use Rattle.sorts.specs.declared.Form.{Form}
use Rattle.sorts.specs.declared.Sort.TheVariants.{Graphic, Mark, Shift}
use Rattle.sorts.specs.Cells.{octet_in}
use Rattle.sorts.specs.Forms.{alphabet_of, SS2}
use Rattle.sorts.specs.Sorts.{sort_in, shifted_in}
use Rattle.squares.specs.Squares.{square_of}
use Rattle.spelling.specs.declared.Spelling.{Spelling}
use Rattle.spelling.specs.declared.Spelling.TheVariants.{One, Shifted, Pair, ShiftedPair}

-- the octets of a spelling: "Form 2 writes SS2 (19) before the supplementary octet only; the letter of a pair follows bare."
abbrev pub octets_of : Spelling → List ℕ
octets_of (One o) = o ∷ []
octets_of (Shifted o) = SS2 ∷ o ∷ []
octets_of (Pair m l) = m ∷ l ∷ []
octets_of (ShiftedPair m l) = SS2 ∷ m ∷ l ∷ []

-- the octets of what is given: none where the form lacks the character
abbrev pub spelt_octets : Option Spelling → List ℕ
spelt_octets (Some x) = octets_of x
spelt_octets None = []

-- 01's number of each answer: 10 of a character that is not in the form
abbrev pub spelling_number : Option Spelling → ℕ
spelling_number (Some x) = 0
spelling_number None = 10

-- ---- the relation

-- these octets of the form f read to the character c
pub data Codes (f : Form) (c : ℕ) : Spelling → Type 0 where
  one : {o : ℕ} → sort_in f o ≡ Graphic c → Codes f c (One o)
  shifted : {o : ℕ} → sort_in f SS2 ≡ Shift → shifted_in f o ≡ Graphic c → Codes f c (Shifted o)
  pair : {o m l : ℕ} → sort_in f o ≡ Mark m → square_of m l ≡ Some c → Codes f c (Pair o l)
  shifted_pair : {o m l : ℕ} → sort_in f SS2 ≡ Shift → shifted_in f o ≡ Mark m → square_of m l ≡ Some c → Codes f c (ShiftedPair o l)

-- the form has no one octet for c, bare or after SS2
pub record NoOctet (f : Form) (c : ℕ) : Type 0 where
  pub bare : (o : ℕ) → Codes f c (One o) → ⊥
  pub shifted : (o : ℕ) → Codes f c (Shifted o) → ⊥

abbrev pub IsThat : Option ℕ → ℕ → Type 0
IsThat (Some w) o = o ≡ w
IsThat None o = Unit {0}

-- o is the octet that the form writes for c, where it names one: "Form 3 writes the number sign A6 and the currency sign A8."
unfoldable pub Chosen : Form → ℕ → ℕ → Type 0
unfolding alphabet_of
Chosen f c o = IsThat (octet_in (alphabet_of f).writes c) o

-- "One octet where the form has one, else the pair."
pub data Canonical (f : Form) (c : ℕ) : Spelling → Type 0 where
  one : {o : ℕ} → Codes f c (One o) → Chosen f c o → Canonical f c (One o)
  shifted : {o : ℕ} → Codes f c (Shifted o) → ((p : ℕ) → Codes f c (One p) → ⊥) → Canonical f c (Shifted o)
  pair : {m l : ℕ} → Codes f c (Pair m l) → NoOctet f c → Canonical f c (Pair m l)
  shifted_pair : {m l : ℕ} → Codes f c (ShiftedPair m l) → NoOctet f c → Canonical f c (ShiftedPair m l)
