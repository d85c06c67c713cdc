-- The spelling of one element, by its kind: what each way out of the code that spells it rests on.
-- Assumes nothing.
use Prim.Native.Nat.{ℕ, ◌+◌, ◌-◌, ◌≤◌, ◌<◌}
use mathlib.Core.Path.{◌≡◌, refl, sym, ap, ◌∙◌}
use mathlib.Core.Bool.{Bool, true, false}
use mathlib.Core.List.{List, [], ◌∷◌}
use native.Mathlib.Omega.{arith}
use lib.Dec.{ltb, leb, lit≤}
use lib.ListN.{length}
use borrow.Author.Tests.{le-ltb}
use Rattle.run.specs.Choice.{pick}
use Rattle.run.specs.Put.{Put, what_fits}
use Rattle.run.proofs.Choices.{is_false}
use Rattle.run.proofs.Puts.{put_none, put_both, put_length, put_as, put_one, all_fit, none_fits}
use Rattle.sorts.specs.declared.Form.{Form}
use Rattle.sorts.specs.declared.Sort.{Sort}
use Rattle.sorts.specs.declared.Sort.TheVariants.{Underline, Control, SequenceStart}
use Rattle.std.specs.Prelude.{Option, Some, None}
use Rattle.spelling.specs.declared.Spelling.{Spelling}
use Rattle.spelling.specs.declared.Spelling.TheVariants.{One as Single, Shifted, Pair, ShiftedPair}
use Rattle.sorts.specs.Sorts.{sort_in}
use Rattle.spelling.specs.CanonicalSpelling.{octets_of, spelt_octets}
use Rattle.spelling.specs.SpellingGiven.{spell_in}
use Rattle.sorts.proofs.SortFacts.{control_small}
use Rattle.sorts.specs.Forms.{CC}
use Rattle.element_words.specs.Words.{underlined_from, controls_from, sequences_from}
use Rattle.element_spelling.specs.ElementOctets.{is_underline, is_control, is_start, after_cc, spell_word, word_spelling}
use Rattle.element_spelling.specs.ElementOctets.{is_underlined}

-- ---- the tests of a sort

pub underline_is : (s : Sort) → is_underline s ≡ true → s ≡ Underline
underline_is s = elim s as (λ s. is_underline s ≡ true → s ≡ Underline) [ Underline ↦ λ e. refl | _ ↦ λ e. cc ]

pub control_is : (s : Sort) → is_control s ≡ true → s ≡ Control
control_is s = elim s as (λ s. is_control s ≡ true → s ≡ Control) [ Control ↦ λ e. refl | _ ↦ λ e. cc ]

pub start_is : (s : Sort) → is_start s ≡ true → s ≡ SequenceStart
start_is s = elim s as (λ s. is_start s ≡ true → s ≡ SequenceStart) [ SequenceStart ↦ λ e. refl | _ ↦ λ e. cc ]

-- ---- the octets of a spelling

octets_few : (x : Spelling) → length (octets_of x) ≤ 3
octets_few (Single o) = lit≤ tt
octets_few (Shifted o) = lit≤ tt
octets_few (Pair m l) = lit≤ tt
octets_few (ShiftedPair m l) = lit≤ tt

-- one octet more than a spelling has is no large number
pub one_more : (x : Spelling) (n : ℕ) → n ≡ length (octets_of x) → n + 1 ≤ 4
one_more x n e = omega (arith, octets_few x)

-- CC before one: it has an octet at least
pub after_spelt : (x : Spelling) → after_cc (octets_of x) ≡ CC ∷ octets_of x
after_spelt (Single o) = refl
after_spelt (Shifted o) = refl
after_spelt (Pair m l) = refl
after_spelt (ShiftedPair m l) = refl

-- ---- a word, by its range

either_way : {A : Type 0} (x : A) (b : Bool) → pick b x x ≡ x
either_way x true = refl
either_way x false = refl

module _ (f : Form) (w : ℕ) where
  pub word_no_control : controls_from ≤ w → (sort_in f (w - controls_from) ≡ Control → ⊥) → word_spelling f w ≡ None
  word_no_control a n =
      rw (
        le-ltb w underlined_from (omega arith),
        le-ltb w controls_from a,
        is_false (is_control (sort_in f (w - controls_from))) (λ e. n (control_is (sort_in f (w - controls_from)) e)),
      )
      (either_way None (ltb w sequences_from))

  pub word_high : controls_from + 0x100 ≤ w → word_spelling f w ≡ None
  word_high a = word_no_control (omega arith) (λ e. omega (arith, control_small f (w - controls_from) e))

  -- the spelling is the word's, after CC if it is underlined
  parts : (a b c u k : Bool)
      → (let x =
      pick a (spell_in f w)
      (pick b (pick u (spell_in f (w - underlined_from)) None) (pick c (pick k (Some (Single (w - controls_from))) None) None)) in
      pick (pick a false b) (after_cc (spelt_octets x)) (spelt_octets x))
      ≡ pick a (spelt_octets (spell_in f w))
      (pick b (pick u (after_cc (spelt_octets (spell_in f (w - underlined_from)))) []) (pick c (pick k ((w - controls_from) ∷ []) []) []))
  parts true b c u k = refl
  parts false true c true k = refl
  parts false true c false k = refl
  parts false false true u true = refl
  parts false false true u false = refl
  parts false false false u k = refl

  spell_word_lem : pick (is_underlined w) (after_cc (spelt_octets (word_spelling f w))) (spelt_octets (word_spelling f w)) ≡ spell_word f w
  spell_word_lem =
      parts (ltb w underlined_from) (ltb w controls_from) (ltb w sequences_from) (is_underline (sort_in f CC))
      (is_control (sort_in f (w - controls_from)))

  -- what a word is spelt as, by whether CC stands before it
  spell_as : (t : Bool) (y : Option Spelling) → is_underlined w ≡ t → word_spelling f w ≡ y
      → spell_word f w ≡ pick t (after_cc (spelt_octets y)) (spelt_octets y)
  spell_as t y e q =
      sym spell_word_lem
      ∙ ap (λ (b : Bool). pick b (after_cc (spelt_octets (word_spelling f w))) (spelt_octets (word_spelling f w))) e
      ∙ ap (λ (z : Option Spelling). pick t (after_cc (spelt_octets z)) (spelt_octets z)) q

  pub spell_none : word_spelling f w ≡ None → spell_word f w ≡ []
  spell_none q = spell_as (is_underlined w) None refl q ∙ either_way [] (is_underlined w)

  pub none_size : word_spelling f w ≡ None → 0 ≡ length (spell_word f w)
  none_size q = sym (ap length (spell_none q))

-- ---- what is written

-- the same entries under another name
pub put_nothing : (out : List ℕ) (at : ℕ) (s : List ℕ) → s ≡ [] → Put out at (what_fits out at s) out at
put_nothing out at s e = put_as (sym (ap (what_fits out at) e ∙ either_way [] (leb (at + 0) (length out)))) (put_none out at)

put_short : (out : List ℕ) (at : ℕ) (s : List ℕ) → length out < at + length s → Put out at (what_fits out at s) out at
put_short out at s h = put_as (sym (none_fits out at s h)) (put_none out at)

pub no_place : (out : List ℕ) (at : ℕ) (s : List ℕ) → length out < at → Put out at (what_fits out at s) out at
no_place out at s h = put_short out at s (omega arith)

put_whole : {out after : List ℕ} {at r : ℕ} (s : List ℕ) → at + length s ≤ length out → Put out at s after r
    → Put out at (what_fits out at s) after r
put_whole {out} {at = at} s h p = put_as (sym (all_fit out at s h)) p

pub none_put : (f : Form) (w : ℕ) → word_spelling f w ≡ None → (out : List ℕ) (at : ℕ) → Put out at (what_fits out at (spell_word f w)) out at
none_put f w q out at = put_nothing out at (spell_word f w) (spell_none f w q)

-- a word of which n octets are spelt, but for CC
module _ (f : Form) (w n : ℕ) (x : Spelling) (size : n ≡ length (octets_of x)) (is_x : word_spelling f w ≡ Some x) where
  module _ (u : is_underlined w ≡ false) where
    bare : spell_word f w ≡ octets_of x
    bare = spell_as f w false (Some x) u is_x

    pub bare_size : n ≡ length (spell_word f w)
    bare_size = size ∙ sym (ap length bare)

    pub bare_short : (out : List ℕ) (at : ℕ) → at ≤ length out → length out - at < n → Put out at (what_fits out at (spell_word f w)) out at
    bare_short out at h k = put_short out at (spell_word f w) (omega (arith, bare_size))

    pub bare_put : {out after : List ℕ} {at r : ℕ} → at ≤ length out → n ≤ length out - at → Put out at (octets_of x) after r
        → Put out at (what_fits out at (spell_word f w)) after r
    bare_put h k p = put_whole (spell_word f w) (omega (arith, bare_size)) (put_as (sym bare) p)

  module _ (u : is_underlined w ≡ true) where
    after : spell_word f w ≡ CC ∷ octets_of x
    after = spell_as f w true (Some x) u is_x ∙ after_spelt x

    pub after_size : n + 1 ≡ length (spell_word f w)
    after_size = omega (arith, size, ap length after)

    pub after_short : (out : List ℕ) (at : ℕ) → at ≤ length out → length out - at < n + 1
        → Put out at (what_fits out at (spell_word f w)) out at
    after_short out at h k = put_short out at (spell_word f w) (omega (arith, after_size))

    pub after_put : {out mid end : List ℕ} {at i r : ℕ} → at ≤ length out → n + 1 ≤ length out - at
        → Put out at (what_fits out at (CC ∷ [])) mid i → Put mid i (octets_of x) end r → Put out at (what_fits out at (spell_word f w)) end r
    after_put h k p q =
        put_whole (spell_word f w) (omega (arith, after_size)) (put_as (sym after) (put_both (put_one (omega arith) p) q))

-- there is room for the octets behind CC
pub after_room : {out mid : List ℕ} {at i : ℕ} (n : ℕ) (s : List ℕ) → n ≡ length s → at ≤ length out → n + 1 ≤ length out - at
    → Put out at (what_fits out at (CC ∷ [])) mid i → i + length s ≤ length mid
after_room n s e h k p = let o = put_one (omega arith) p in omega (arith, o.place, put_length o)
