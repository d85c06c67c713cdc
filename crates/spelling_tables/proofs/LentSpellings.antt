-- What the table's entries say of the form: what a writer above relies on, who looks into no table itself. The entries are tests over the
-- form, which antt computes; a character in no range is none of the form's, by a test over its alphabet.
-- Assumes nothing.
use Prim.Native.Nat.{ℕ, ◌<◌}
use mathlib.Core.Path.{◌≡◌, refl, sym, ap, ◌∙◌}
use mathlib.Core.Bool.{Bool, true, false}
use mathlib.Core.List.{List, [], ◌++◌}
use native.Mathlib.Omega.{arith}
use lib.Dec.{eqb, ltb}
use lib.ListN.{length, get_or}
use borrow.Author.Tests.{ne_eqb, ltb-true}
use Rattle.run.specs.Choice.{pick}
use Rattle.run.proofs.Members.{at_member}
use Rattle.sorts.specs.declared.Form.{Form}
use Rattle.sorts.specs.declared.Form.TheVariants.{Eight, Seven, Basic}
use Rattle.std.specs.Prelude.{Option, Some, None}
use Rattle.sorts.specs.Cells.{Cell, meaning, octet_in}
use Rattle.sorts.specs.Tables.{supplementary}
use Rattle.sorts.specs.Forms.{alphabet_of}
use Rattle.sorts.proofs.Tests.{Alike}
use Rattle.sorts.proofs.Lookups.{octet_hit}
use Rattle.squares.specs.Squares.{character, squares, pair_of}
use Rattle.squares.proofs.TableRule.{pair_hit}
use Rattle.spelling.specs.declared.Spelling.{Spelling}
use Rattle.spelling.specs.CanonicalSpelling.{spelt_octets}
use Rattle.spelling.specs.SpellingGiven.{spell_in}
use Rattle.spelling_tables.specs.PackedSpellings.{ranges, in_ranges, is_in, slot_of, spelling_table, packed, packed_in}
use Rattle.spelling_tables.specs.PackedSpellings.{low_in, packed_size, packed_octets}
use Rattle.spelling_tables.proofs.Slots.{in_ranges_lem, no_slot, low_slot}

-- ---- the tests

-- a character of the ranges: its entry, the octets of that where it is not 0, how many they are, and that its code point has sixteen bits
abbrev Fact : Type 0
Fact = ℕ × List ℕ × ℕ × Bool

abbrev told : Form → ℕ → Fact
told f c =
    let p = packed_in (spelling_table f) c in
    (p, pick (eqb p 0) [] (packed_octets p), packed_size p, ltb c 0x10000)

abbrev wanted : Form → ℕ → Fact
wanted f c = let s = spelt_octets (spell_in f c) in (packed s, s, length s, true)

abbrev is_known : ℕ → Bool
is_known c = is_in ranges c

-- what is tested of a form: the entries; that U+0000 has none; and that each character of its alphabet is in a range
record Tested (f : Form) : Type 0 where
  pub entries : Alike (told f) (wanted f) (in_ranges ranges)
  pub first : get_or (spelling_table f) 0 0 ≡ 0
  pub bare : Alike (λ cell. is_known (meaning cell)) (λ cell. true) ((alphabet_of f).writes ++ (alphabet_of f).graphics)
  pub shifted : Alike (λ cell. is_known (meaning cell)) (λ cell. true) (alphabet_of f).shifted_graphics

tested : (f : Form) → Tested f
unfolding alphabet_of supplementary spell_in pair_of squares slot_of spelling_table
tested Eight = record { entries = refl; first = refl; bare = refl; shifted = refl }
tested Seven = record { entries = refl; first = refl; bare = refl; shifted = refl }
tested Basic = record { entries = refl; first = refl; bare = refl; shifted = refl }

squares_known : Alike (λ s. is_known (character s)) (λ s. true) squares
unfolding squares
squares_known = refl

-- ---- a character in no range has no spelling

no_test : (c : ℕ) → is_known c ≡ false → is_known c ≡ true → ⊥
no_test c p q = let w : ◌≡◌ {A = ℕ} 0 1 = cc in omega arith

module _ (f : Form) (c : ℕ) (unknown : is_known c ≡ false) where
  not_there : (cells : List Cell) → Alike (λ cell. is_known (meaning cell)) (λ cell. true) cells → octet_in cells c ≡ None
  not_there cells test = go (octet_in cells c) refl
    where
      go : (x : Option ℕ) → octet_in cells c ≡ x → x ≡ None
      go None e = refl
      go (Some o) e =
          let h = octet_hit cells c o e in
          let k = at_member (λ cell. is_known (meaning cell)) (λ cell. true) h.member test in
          absurd (no_test c unknown (sym (ap is_known h.has_key) ∙ k))

  no_pair : pair_of c ≡ None
  no_pair = go (pair_of c) refl
    where
      go : (x : Option (ℕ × ℕ)) → pair_of c ≡ x → x ≡ None
      go None e = refl
      go (Some (m, l)) e =
          let h = pair_hit c m l e in
          let k = at_member (λ s. is_known (character s)) (λ s. true) h.member squares_known in
          absurd (no_test c unknown (sym (ap is_known h.has_key) ∙ k))

  unspelt : spell_in f c ≡ None
  unfolding spell_in
  unspelt =
      rw (
        not_there ((alphabet_of f).writes ++ (alphabet_of f).graphics) (tested f).bare,
        not_there (alphabet_of f).shifted_graphics (tested f).shifted,
        no_pair,
      )

  no_entry : packed_in (spelling_table f) c ≡ 0
  no_entry = ap (λ (i : ℕ). get_or (spelling_table f) i 0) (no_slot c unknown) ∙ (tested f).first

-- ---- one in a range

known_fact : (f : Form) (c : ℕ) → is_known c ≡ true → told f c ≡ wanted f c
known_fact f c e = at_member {B = Fact} (told f) (wanted f) (in_ranges_lem ranges c e) (tested f).entries

-- An entry is the packed spelling of its character: 0 exactly where the form lacks it.
pub packed_exactly : (f : Form) (c : ℕ) → packed_in (spelling_table f) c ≡ packed (spelt_octets (spell_in f c))
packed_exactly f c = go (is_known c) refl
  where
    go : (t : Bool) → is_known c ≡ t → packed_in (spelling_table f) c ≡ packed (spelt_octets (spell_in f c))
    go true e = ap (λ (x : Fact). x.0) (known_fact f c e)
    go false e = no_entry f c e ∙ sym (ap (λ (x : Option Spelling). packed (spelt_octets x)) (unspelt f c e))

-- what an entry that is not 0 is unpacked to
pub record Unpacked (f : Form) (c p : ℕ) : Type 0 where
  pub octets : packed_octets p ≡ spelt_octets (spell_in f c)
  pub size : packed_size p ≡ length (spelt_octets (spell_in f c))
  pub small : c < 0x10000

pub unpacked : (f : Form) (c p : ℕ) → p ≡ packed_in (spelling_table f) c → (p ≡ 0 → ⊥) → Unpacked f c p
unpacked f c p e n = go (is_known c) refl
  where
    go : (t : Bool) → is_known c ≡ t → Unpacked f c p
    go true k =
        let q = known_fact f c k in
        let some = ne_eqb p 0 n in
        record {
          octets =
              sym (ap (λ (b : Bool). pick b [] (packed_octets p)) some)
              ∙ ap (λ (x : ℕ). pick (eqb x 0) [] (packed_octets x)) e
              ∙ ap (λ (x : Fact). x.1) q;
          size = ap packed_size e ∙ ap (λ (x : Fact). x.2) q;
          small = ltb-true c 0x10000 (ap (λ (x : Fact). x.3) q);
        }
    go false k = absurd (n (e ∙ no_entry f c k))

-- no form spells U+0000
pub null_unspelt : (f : Form) → packed_in (spelling_table f) 0 ≡ 0
unfolding slot_of
null_unspelt f = (tested f).first

-- what the first range has is what the table has
pub low_packed : (table : List ℕ) (c p : ℕ) → p ≡ low_in table c → (p ≡ 0 → ⊥) → p ≡ packed_in table c
low_packed table c p e n = go (ltb c 0x0180) refl e
  where
    go : (t : Bool) → ltb c 0x0180 ≡ t → p ≡ pick t (get_or table c 0) 0 → p ≡ packed_in table c
    go true q z = z ∙ ap (λ (i : ℕ). get_or table i 0) (low_slot c (ltb-true c 0x0180 q))
    go false q z = absurd (n z)

-- what has octets is not 0
pub sized : (p size : ℕ) → size ≡ packed_size p → (size ≡ 0 → ⊥) → p ≡ 0 → ⊥
sized p size e n z = n (e ∙ ap packed_size z)
