-- To be believed: a control sequence, in the words of document 01. Which octets spell which sequence, and which octets are refused,
-- with which number at which octet. What an octet is inside one is `kind_of` of Kinds, with document 02, No. 6. Nothing here speaks of a
-- reader.
-- Assumes nothing.
use Rattle.std.specs.Prelude.{ℕ, ◌+◌, ◌*◌, ◌≤◌, ◌<◌, ◌≡◌, List, [], ◌∷◌, ◌++◌, length, take}
use Rattle.sorts.specs.Forms.{CSI}
use Rattle.sequence_reading.specs.declared.Kind.{Kind}
use Rattle.sequence_reading.specs.declared.Kind.TheVariants.{Digit, Separator, Middle, Final, Other}
use Rattle.sequence_reading.specs.Kinds.{kind_of}

-- a sequence: its intermediate (0 if none), its final, its values
pub record Sequence : Type 0 where
  pub middle : ℕ
  pub last : ℕ
  pub values : List ℕ

-- a sub-string of digits, and its decimal value; "an empty or all-zero one is 0"
pub data Decimal : List ℕ → ℕ → Type 0 where
  empty : Decimal [] 0
  digit : {s : List ℕ} {v d : ℕ} (b : ℕ) → Decimal s v → kind_of b ≡ Digit d → Decimal (s ++ (b ∷ [])) (v * 10 + d)

-- "Sub-strings between 3B octets are decimal values; .. so there is always one value at least."
pub data Parameters : List ℕ → List ℕ → Type 0 where
  single : {s : List ℕ} {v : ℕ} → Decimal s v → Parameters s (v ∷ [])
  joined : {s p vs : List ℕ} {v : ℕ} (b : ℕ) → Decimal s v → kind_of b ≡ Separator → Parameters p vs → Parameters (s ++ (b ∷ p)) (v ∷ vs)

-- "at most one intermediate"
pub data Intermediate : List ℕ → ℕ → Type 0 where
  none : Intermediate [] 0
  one : {b i : ℕ} → kind_of b ≡ Middle i → Intermediate (b ∷ []) i

-- each value at most 999
abbrev pub Small : List ℕ → Type 0
Small [] = Unit {0}
Small (v ∷ vs) = (v ≤ 999) × Small vs

-- the value that is open at the end of the parameters
abbrev pub last_of : List ℕ → ℕ
last_of [] = 0
last_of (v ∷ []) = v
last_of (v ∷ (w ∷ vs)) = last_of (w ∷ vs)

-- All of a sequence but its final: "9B, parameter octets (30 to 39, 3B), at most one intermediate (20 to 2F)", within the limits: "At most
-- 8 values, each at most 999, and 40 octets in all, 9B counted", so 39 before the final.
pub record Inside (octets : List ℕ) (middle : ℕ) (values : List ℕ) : Type 0 where
  pub parameters : List ℕ
  pub intermediate : List ℕ
  pub whole : octets ≡ CSI ∷ (parameters ++ intermediate)
  pub valued : Parameters parameters values
  pub at_most_one : Intermediate intermediate middle
  pub small : Small values
  pub eight : length values ≤ 8
  pub short : length octets ≤ 39

-- the octets spell the sequence: ".., one final"
pub data SpellsSequence : List ℕ → Sequence → Type 0 where
  sequence : {s vs : List ℕ} {m f : ℕ} (b : ℕ) → Inside s m vs → kind_of b ≡ Final f
      → SpellsSequence (s ++ (b ∷ [])) (record { middle = m; last = f; values = vs })

-- "octet not allowed at this point of a sequence": what is no octet of a sequence, and after an intermediate all but a final
pub data NotAllowed : ℕ → Kind → Type 0 where
  no_kind : {m : ℕ} → NotAllowed m Other
  late_digit : {m d : ℕ} → 0 < m → NotAllowed m (Digit d)
  late_separator : {m : ℕ} → 0 < m → NotAllowed m Separator
  second_middle : {m i : ℕ} → 0 < m → NotAllowed m (Middle i)

-- "the digit that passes 999, or the 3B that opens a ninth value" (where no intermediate stands before)
pub data Passes : List ℕ → Kind → Type 0 where
  passes_999 : {vs : List ℕ} {d : ℕ} → 999 < last_of vs * 10 + d → Passes vs (Digit d)
  ninth : {vs : List ℕ} → 8 ≤ length vs → Passes vs Separator

-- a parameter or an intermediate that is allowed and passes no limit of the values
pub data Goes : ℕ → List ℕ → Kind → Type 0 where
  digit_goes : {vs : List ℕ} {d : ℕ} → last_of vs * 10 + d ≤ 999 → Goes 0 vs (Digit d)
  separator_goes : {vs : List ℕ} → length vs < 8 → Goes 0 vs Separator
  middle_goes : {vs : List ℕ} {i : ℕ} → Goes 0 vs (Middle i)

-- Octets that begin with 9B are refused with a number, and the deciding octet stands so far behind 9B. "at one octet 5 goes first, then
-- 6, 7, 8".
pub data RefusesSequence : List ℕ → ℕ → ℕ → Type 0 where
  -- 4: "input ends inside an element"
  ends : {s vs : List ℕ} {m : ℕ} → Inside s m vs → RefusesSequence s 4 (length s)
  -- 6: "octet not allowed at this point of a sequence"
  not_allowed : {s vs : List ℕ} {m : ℕ} (b : ℕ) (t : List ℕ) → Inside s m vs → NotAllowed m (kind_of b)
      → RefusesSequence (s ++ (b ∷ t)) 6 (length s)
  -- 7: "the digit that passes 999, or the 3B that opens a ninth value"
  passes : {s vs : List ℕ} (b : ℕ) (t : List ℕ) → Inside s 0 vs → Passes vs (kind_of b) → RefusesSequence (s ++ (b ∷ t)) 7 (length s)
  -- 8: "the 40th octet of a sequence isn't its final"
  fortieth : {s vs : List ℕ} {m : ℕ} (b : ℕ) (t : List ℕ) → Inside s m vs → length s ≡ 39 → Goes m vs (kind_of b)
      → RefusesSequence (s ++ (b ∷ t)) 8 (length s)

-- what stands before the deciding octet, continued to a whole sequence
pub record GoesOn (s : List ℕ) (d : ℕ) : Type 0 where
  pub more : List ℕ
  pub rest : List ℕ
  pub found : Sequence
  pub whole : take d s ++ more ≡ CSI ∷ rest
  pub spells : SpellsSequence (CSI ∷ rest) found
