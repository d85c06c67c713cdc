-- To be believed, as relations: the canonical spelling of an element, what a form holds and writes. Proved equal to that, the definitions
-- that give it (Writer: spells_exactly, writer_reads), and the test of it (Writer: canonical_test). Last, parts of the code.
-- Assumes nothing.
use Rattle.std.specs.Prelude.{ℕ, ◌-◌, ◌<◌, ◌≡◌, Bool, true, false, List, [], ◌∷◌, ◌++◌, length, min, take, ltb, Option, Some, None}
use Rattle.run.specs.Choice.{pick, same_octets}
use Rattle.run.specs.Head.{Head}
use Rattle.run.specs.Speller.{spelt_by}
use Rattle.sorts.specs.declared.Form.{Form}
use Rattle.sorts.specs.declared.Sort.{Sort}
use Rattle.sorts.specs.declared.Sort.TheVariants.{Underline, Control, SequenceStart}
use Rattle.spelling.specs.declared.Spelling.{Spelling}
use Rattle.spelling.specs.declared.Spelling.TheVariants.{One as Single}
use Rattle.sorts.specs.Sorts.{sort_in}
use Rattle.spelling.specs.CanonicalSpelling.{octets_of, spelt_octets, Canonical}
use Rattle.spelling.specs.SpellingGiven.{spell_in}
use Rattle.sorts.specs.Forms.{CC, CSI}
use Rattle.sequence_reading.specs.Grammar.{Sequence}
use Rattle.sequence_spelling.specs.declared.Sequence.{Sequence as Given}
use Rattle.sequence_spelling.specs.SequenceOctets.{CanonicalSequence, is_fine, spell_sequence}
use Rattle.sequence_spelling.specs.Said.{said}
use Rattle.element_words.specs.declared.Element.{Element}
use Rattle.element_words.specs.declared.Element.TheVariants.{One, Sequence as SequenceOf}
use Rattle.element_words.specs.Words.{underlined_from, controls_from, sequences_from}
use Rattle.element_words.specs.Words.{graphic_word, control_word, sequence_element, words_of, sequence_of, is_sequence, word_head}

-- ---- the relation (document 01, "Canonical spelling")

pub data CanonicalElement (f : Form) : List ℕ → Element → Type 0 where
  -- "One octet where the form has one, else the pair"
  graphic : {c : ℕ} {x : Spelling} → Canonical f c x → CanonicalElement f (octets_of x) (One (graphic_word false c))
  -- "after CC if underlined"
  underlined : {c : ℕ} {x : Spelling} → sort_in f CC ≡ Underline → Canonical f c x
      → CanonicalElement f (CC ∷ octets_of x) (One (graphic_word true c))
  -- a control is its octet
  control : {o : ℕ} → sort_in f o ≡ Control → CanonicalElement f (o ∷ []) (One (control_word o))
  -- "Values have no leading zeros, 0 is the empty sub-string, and the number of values is kept."
  sequence : {s : List ℕ} {q : Sequence} → sort_in f CSI ≡ SequenceStart → CanonicalSequence s q → CanonicalElement f s (sequence_element q)

-- what a form writes
pub data Held (f : Form) : Element → Type 0 where
  held : {s : List ℕ} {e : Element} → CanonicalElement f s e → Held f e

-- these words are written as these octets
pub data Writes (f : Form) : List ℕ → List ℕ → Type 0 where
  writes : {e : Element} {s : List ℕ} → Held f e → CanonicalElement f s e → Writes f (words_of e) s

-- 10, of words: "an element not in the target form, or words that are no element or are cut off". No words of an element that the form
-- writes stand first.
pub record NoneHeld (f : Form) (words : List ℕ) : Type 0 where
  pub some : 0 < length words
  pub not_held : (e : Element) (t : List ℕ) → Held f e → words ≡ words_of e ++ t → ⊥

-- ---- the definition that gives it: no octets where the words are no element that the form holds

-- the sorts that a spelling asks for
abbrev pub is_underline : Sort → Bool
is_underline Underline = true
is_underline _ = false

abbrev pub is_control : Sort → Bool
is_control Control = true
is_control _ = false

abbrev pub is_start : Sort → Bool
is_start SequenceStart = true
is_start _ = false

-- CC before what is spelt
abbrev pub after_cc : List ℕ → List ℕ
after_cc [] = []
after_cc (o ∷ s) = CC ∷ o ∷ s

-- a word that is one element's: a character, an underlined character, a control
abbrev pub spell_word : Form → ℕ → List ℕ
spell_word f w =
    pick (ltb w underlined_from) (spelt_octets (spell_in f w))
    (pick (ltb w controls_from)
    (pick (is_underline (sort_in f CC)) (after_cc (spelt_octets (spell_in f (w - underlined_from)))) [])
    (pick (ltb w sequences_from)
    (pick (is_control (sort_in f (w - controls_from))) ((w - controls_from) ∷ []) [])
    []))

-- a head word and its values
abbrev pub spell_sequence_words : Form → ℕ → List ℕ → List ℕ
spell_sequence_words f h vs =
    pick (is_start (sort_in f CSI)) (pick (is_sequence h vs) (spell_sequence (sequence_of h vs)) []) []

unfoldable pub spell_element : Form → Element → List ℕ
spell_element f (One w) = spell_word f w
spell_element f (SequenceOf h n vs) = spell_sequence_words f h (take (min n 8) vs)

-- whether octets of an element are its canonical spelling
abbrev pub is_canonical : Form → List ℕ → Element → Bool
is_canonical f p e = same_octets p (spell_element f e)

-- what stands at the head of a list of words, as the octets that are written for it; number 10: "an element not in the target form"
abbrev pub spell_head : Form → List ℕ → Head (List ℕ)
spell_head f = spelt_by (spell_element f) word_head

-- ---- parts of the code: a word's spelling but for CC, whether CC stands before it, and the sequence that a head word and values are

abbrev pub word_spelling : Form → ℕ → Option Spelling
word_spelling f w =
    pick (ltb w underlined_from) (spell_in f w)
    (pick (ltb w controls_from)
    (pick (is_underline (sort_in f CC)) (spell_in f (w - underlined_from)) None)
    (pick (ltb w sequences_from)
    (pick (is_control (sort_in f (w - controls_from))) (Some (Single (w - controls_from))) None)
    None))

abbrev pub is_underlined : ℕ → Bool
is_underlined w = pick (ltb w underlined_from) false (ltb w controls_from)

pub record SpeltAs (f : Form) (h : ℕ) (vs : List ℕ) (q : Given) : Type 0 where
  pub fine : is_fine (said q) ≡ true
  pub spelt : spell_sequence_words f h vs ≡ spell_sequence (said q)
