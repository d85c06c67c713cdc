-- What the passes know of a character by the tables, counted or written: over any head, so once for the loops over words and over octets.
-- Assumes nothing.
use Prim.Native.Nat.{ℕ, ◌+◌, ◌*◌, ◌≤◌, ◌<◌}
use mathlib.Core.Path.{◌≡◌, refl, sym, ◌∙◌, subst}
use mathlib.Core.List.{List}
use native.Mathlib.Omega.{arith}
use lib.ListN.{length, drop, get_or}
use Rattle.run.specs.Head.{Head, element, outcome}
use Rattle.run.specs.Grammar.{Reads}
use Rattle.run.specs.Loops.{Counted, Filled}
use Rattle.run.specs.Answers.{RoomFor, same}
use Rattle.run.specs.Put.{Put, what_fits}
use Rattle.run.specs.Speller.{spelt_by}
use Rattle.run.proofs.Puts.{put_length}
use Rattle.run.proofs.SpeltLoops.{spelt_small, spelt_onward, spelt_turn, fill_spelt_small, fill_spelt_onward, fill_spelt_turn}
use Rattle.sorts.specs.declared.Form.{Form}
use Rattle.spelling_tables.specs.PackedSpellings.{spelling_table, packed_in, low_in, packed_size, packed_octets}
use Rattle.spelling_tables.proofs.LentSpellings.{low_packed}
use Rattle.element_words.specs.declared.Element.{Element}
use Rattle.element_words.specs.declared.Element.TheVariants.{One}
use Rattle.element_words.specs.Words.{word_head}
use Rattle.element_spelling.specs.ElementOctets.{spell_element}
use Rattle.element_spelling.proofs.SpeltSizes.{spelt_short}
use Rattle.text_loops.specs.LawWords.{HereStands}
use Rattle.text_writing.proofs.Packed.{Packed, packed_word}
use Rattle.text_writing.proofs.Places.{word_here_alone}

-- the character c stands at the place, in k entries, and p is its packed spelling in the form g
pub record Spelt (head : List ℕ → Head Element) (g : Form) (s : List ℕ) (at c k p : ℕ) : Type 0 where
  pub here : head (drop at s) ≡ element (One c) k
  pub spelling : Packed g c p

-- what a pass knows of what it has counted, and that it is small; and what one knows that writes
pub record Counting (head : List ℕ → Head Element) (g : Form) (s : List ℕ) (at n count : ℕ) : Type 0 where
  pub counted : Counted (spelt_by (spell_element g) head) same 34 s at n count
  pub inside : at ≤ length s
  pub few : n ≤ at
  pub short : count ≤ 34 * at

pub record Writing (head : List ℕ → Head Element) (g : Form) (s l₀ : List ℕ) (at o : ℕ) (l : List ℕ) : Type 0 where
  pub filled : Filled (spelt_by (spell_element g) head) same 34 s l₀ at o l
  pub inside : at ≤ length s
  pub within : o ≤ length l₀
  pub size : length l ≡ length l₀

module _ {head : List ℕ → Head Element} {S : List ℕ → Element → Type 0} (laws : Reads head S) {g : Form} {s : List ℕ} where
  pub counting : {at n count : ℕ} → Counted (spelt_by (spell_element g) head) same 34 s at n count → Counting head g s at n count
  counting was =
      let small = spelt_small laws (spell_element g) (spelt_short g) s was in
      record { counted = was; inside = small.2; few = small.0; short = small.1 }

  module _ {l₀ : List ℕ} (room : RoomFor same (length l₀) (outcome (spelt_by (spell_element g) head) s)) where
    pub writing : {at o : ℕ} {l : List ℕ} → Filled (spelt_by (spell_element g) head) same 34 s l₀ at o l → Writing head g s l₀ at o l
    writing was =
        record {
          filled = was;
          inside = was.passed.inside;
          within = fill_spelt_small laws (spell_element g) (spelt_short g) s l₀ room was;
          size = put_length was.put;
        }

  -- behind a character that the tables spell
  module _ {at c k p : ℕ} (x : Spelt head g s at c k p) where
    pub run_turn : {n count size : ℕ} → Counted (spelt_by (spell_element g) head) same 34 s at n count → size ≡ packed_size p
        → (0 < k) × Counted (spelt_by (spell_element g) head) same 34 s (at + k) (n + 1) (count + size)
    run_turn was is = (
      (spelt_onward laws (spell_element g) (spelt_short g) s was x.here x.spelling.size x.spelling.some).0,
      spelt_turn laws (spell_element g) (spelt_short g) s was x.here (is ∙ x.spelling.size) refl (λ z. x.spelling.some (sym is ∙ z)),
    )

    pub run_put : {l₀ : List ℕ} (room : RoomFor same (length l₀) (outcome (spelt_by (spell_element g) head) s)) {o next : ℕ} {l l' : List ℕ}
        → Filled (spelt_by (spell_element g) head) same 34 s l₀ at o l → Put l o (what_fits l o (packed_octets p)) l' next
        → (0 < k) × Filled (spelt_by (spell_element g) head) same 34 s l₀ (at + k) next l'
    run_put {l₀} room {o} {next} {l} {l'} was q =
        let put = subst (λ (e : List ℕ). Put l o (what_fits l o e) l' next) x.spelling.octets q in (
          (fill_spelt_onward laws (spell_element g) (spelt_short g) s l₀ room was x.here).0,
          fill_spelt_turn laws (spell_element g) (spelt_short g) s l₀ room was x.here refl put,
        )

-- behind an element that the form spells
module _ {head : List ℕ → Head Element} {S : List ℕ → Element → Type 0} (laws : Reads head S) (g : Form) {s : List ℕ} where
  pub element_turn : {at n count size next : ℕ} {e : Element} → Counted (spelt_by (spell_element g) head) same 34 s at n count
      → HereStands (head (drop at s)) at e next → size ≡ length (spell_element g e) → (size ≡ 0 → ⊥)
      → (at < next) × Counted (spelt_by (spell_element g) head) same 34 s next (n + 1) (count + size)
  element_turn was x is some = (
    omega (arith, spelt_onward laws (spell_element g) (spelt_short g) s was x.here is some, x.onward),
    spelt_turn laws (spell_element g) (spelt_short g) s was x.here is x.onward some,
  )

  pub element_put : {l₀ : List ℕ} (room : RoomFor same (length l₀) (outcome (spelt_by (spell_element g) head) s)) {at o next o' : ℕ}
      {l l' : List ℕ} {e : Element} → Filled (spelt_by (spell_element g) head) same 34 s l₀ at o l
      → HereStands (head (drop at s)) at e next → Put l o (what_fits l o (spell_element g e)) l' o'
      → (at < next) × Filled (spelt_by (spell_element g) head) same 34 s l₀ next o' l'
  element_put {l₀} room was x put = (
    omega (arith, fill_spelt_onward laws (spell_element g) (spelt_short g) s l₀ room was x.here, x.onward),
    fill_spelt_turn laws (spell_element g) (spelt_short g) s l₀ room was x.here x.onward put,
  )

-- ---- such a character among words

pub word_spelt : (f : Form) (words : List ℕ) (at p : ℕ) → at < length words
    → p ≡ packed_in (spelling_table f) (get_or words at 0) → (p ≡ 0 → ⊥) → Spelt word_head f words at (get_or words at 0) 1 p
word_spelt f words at p inside found some =
    let w = packed_word f (get_or words at 0) p found some in
    record { here = word_here_alone words at inside (omega (arith, w.small)); spelling = w }

-- the same of one below U+0180
pub low_spelt : (f : Form) (words : List ℕ) (at p : ℕ) → at < length words
    → p ≡ low_in (spelling_table f) (get_or words at 0) → (p ≡ 0 → ⊥) → Spelt word_head f words at (get_or words at 0) 1 p
low_spelt f words at p inside found some =
    word_spelt f words at p inside (low_packed (spelling_table f) (get_or words at 0) p found some) some
