-- To be believed: one element, in the words of document 01. Which octets spell which element in a form, and which octets are refused,
-- with which number at which octet. Nothing here speaks of a reader. What an octet is in a form is `sort_in` of crate `sorts`, and after
-- SS2 `shifted_in`.
-- Assumes nothing.
use Rattle.std.specs.Prelude.{ℕ, ◌<◌, ◌≡◌, Bool, true, false, List, [], ◌∷◌, ◌++◌, length, Some, None}
use Rattle.run.specs.Grammar.{Begins}
use Rattle.sorts.specs.declared.Form.{Form}
use Rattle.sorts.specs.declared.Sort.{Sort}
use Rattle.sorts.specs.declared.Sort.TheVariants.{Graphic, Mark, Underline, Shift, Control, SequenceStart, Refused}
use Rattle.squares.specs.Squares.{square_of}
use Rattle.sorts.specs.Sorts.{sort_in, shifted_in}
use Rattle.sequence_reading.specs.Grammar.{Sequence, SpellsSequence, RefusesSequence}
use Rattle.element_words.specs.declared.Element.{Element}
use Rattle.element_words.specs.declared.Element.TheVariants.{One}
use Rattle.element_words.specs.Words.{graphic_word, control_word, sequence_element}

-- Octets that wait for the follower of a mark, and whether it is underlined: "Marks .. written before the letter"; "Form 2 writes SS2
-- (19) before the supplementary octet only; the letter of a pair follows bare"; "CC stands .. before a mark with its follower".
pub data Awaits (f : Form) : List ℕ → ℕ → Bool → Type 0 where
  mark : {o m : ℕ} → sort_in f o ≡ Mark m → Awaits f (o ∷ []) m false
  shifted_mark : {s o m : ℕ} → sort_in f s ≡ Shift → shifted_in f o ≡ Mark m → Awaits f (s ∷ o ∷ []) m false
  underlined_mark : {u o m : ℕ} → sort_in f u ≡ Underline → sort_in f o ≡ Mark m → Awaits f (u ∷ o ∷ []) m true

-- The octets spell the element.
pub data Spells (f : Form) : List ℕ → Element → Type 0 where
  -- a spacing character is one octet, or one octet after SS2
  graphic : {o c : ℕ} → sort_in f o ≡ Graphic c → Spells f (o ∷ []) (One (graphic_word false c))
  shifted : {s o c : ℕ} → sort_in f s ≡ Shift → shifted_in f o ≡ Graphic c → Spells f (s ∷ o ∷ []) (One (graphic_word false c))
  -- "CC stands before a spacing character"
  underlined : {u o c : ℕ} → sort_in f u ≡ Underline → sort_in f o ≡ Graphic c → Spells f (u ∷ o ∷ []) (One (graphic_word true c))
  -- a mark, and one of its listed followers
  pair : {p : List ℕ} {m c : ℕ} {u : Bool} (l : ℕ) → Awaits f p m u → square_of m l ≡ Some c
      → Spells f (p ++ (l ∷ [])) (One (graphic_word u c))
  -- "Controls"
  control : {o : ℕ} → sort_in f o ≡ Control → Spells f (o ∷ []) (One (control_word o))
  -- "Control sequence"
  sequence : {o : ℕ} {p : List ℕ} {q : Sequence} → sort_in f o ≡ SequenceStart → SpellsSequence (o ∷ p) q
      → Spells f (o ∷ p) (sequence_element q)

-- what may not follow CC, and is not number 5's: all but a spacing character and a mark
abbrev pub MayNot : Sort → Type 0
MayNot (Graphic c) = ⊥
MayNot (Mark m) = ⊥
MayNot Underline = Unit {0}
MayNot Shift = Unit {0}
MayNot Control = Unit {0}
MayNot SequenceStart = Unit {0}
MayNot (Refused n) = n ≡ 5 → ⊥

-- The element that the octets begin is refused with a number, and the deciding octet stands so far behind its first.
pub data Refuses (f : Form) : List ℕ → ℕ → ℕ → Type 0 where
  -- 1: "the octet begins nothing in the form and isn't number 2's or 5's"
  begins_nothing : {o : ℕ} {t : List ℕ} → sort_in f o ≡ Refused 1 → Refuses f (o ∷ t) 1 0
  -- 1: "or after SS2 it codes neither a spacing supplementary nor a mark"
  codes_neither : {s o : ℕ} {t : List ℕ} → sort_in f s ≡ Shift → shifted_in f o ≡ Refused 1 → Refuses f (s ∷ o ∷ t) 1 1
  -- 2: "element begins with 0E, 0F, 1B, 1D, and 19 in forms 1 and 3"
  escape : {o : ℕ} {t : List ℕ} → sort_in f o ≡ Refused 2 → Refuses f (o ∷ t) 2 0
  -- 3: "what follows a mark isn't its listed follower"
  not_listed : {p : List ℕ} {m : ℕ} {u : Bool} (l : ℕ) (t : List ℕ) → Awaits f p m u → square_of m l ≡ None
      → (sort_in f l ≡ Refused 5 → ⊥) → Refuses f (p ++ (l ∷ t)) 3 (length p)
  -- 3: "or what follows CC may not"
  may_not : {u o : ℕ} {t : List ℕ} → sort_in f u ≡ Underline → MayNot (sort_in f o) → Refuses f (u ∷ o ∷ t) 3 1
  -- 4: "input ends inside an element": after a mark, after SS2, after CC
  ends_after_mark : {p : List ℕ} {m : ℕ} {u : Bool} → Awaits f p m u → Refuses f p 4 (length p)
  ends_after_shift : {s : ℕ} → sort_in f s ≡ Shift → Refuses f (s ∷ []) 4 1
  ends_after_underline : {u : ℕ} → sort_in f u ≡ Underline → Refuses f (u ∷ []) 4 1
  -- 5: "form 2, octet 80 or above": as the first octet, after SS2, as a follower, after CC (no form has both CC and number 5)
  high : {o : ℕ} {t : List ℕ} → sort_in f o ≡ Refused 5 → Refuses f (o ∷ t) 5 0
  high_after_shift : {s o : ℕ} {t : List ℕ} → sort_in f s ≡ Shift → shifted_in f o ≡ Refused 5 → Refuses f (s ∷ o ∷ t) 5 1
  high_follower : {p : List ℕ} {m : ℕ} {u : Bool} (l : ℕ) (t : List ℕ) → Awaits f p m u → sort_in f l ≡ Refused 5
      → Refuses f (p ++ (l ∷ t)) 5 (length p)
  high_after_underline : {u o : ℕ} {t : List ℕ} → sort_in f u ≡ Underline → sort_in f o ≡ Refused 5 → Refuses f (u ∷ o ∷ t) 5 1
  -- 4, 6, 7, 8: a control sequence
  in_sequence : {o r d : ℕ} {t : List ℕ} → sort_in f o ≡ SequenceStart → RefusesSequence (o ∷ t) r d → Refuses f (o ∷ t) r d

-- these octets can be continued to an element
abbrev pub Continues : Form → List ℕ → Type 0
Continues f s = (t : List ℕ) × (e : Element) × Spells f (s ++ t) e

-- at a place stands an element, or a refusal, or the end
pub data OneOfThree (f : Form) (s : List ℕ) : Type 0 where
  an_element : {e : Element} {k : ℕ} → Begins (Spells f) s e k → OneOfThree f s
  a_refusal : {r d : ℕ} → Refuses f s r d → OneOfThree f s
  the_end : s ≡ [] → OneOfThree f s

-- these octets are the beginning of an element, and not all of it
pub record CutShort (f : Form) (s : List ℕ) : Type 0 where
  pub rest : List ℕ
  pub whole : Element
  pub spells : Spells f (s ++ rest) whole
  pub some_read : 0 < length s
  pub some_left : 0 < length rest
