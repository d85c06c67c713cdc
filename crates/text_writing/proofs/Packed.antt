-- What a lent table spells of a character is what the form spells of its word: over the form, so once for writing and converting.
-- Assumes nothing.
use Prim.Native.Nat.{ℕ, ◌<◌}
use mathlib.Core.Path.{◌≡◌, refl, sym, ap, ◌∙◌}
use mathlib.Core.List.{List, [], ◌∷◌}
use native.Mathlib.Omega.{arith}
use lib.ListN.{length}
use borrow.Author.Tests.{lt-ltb}
use Rattle.sorts.specs.declared.Form.{Form}
use Rattle.spelling.specs.CanonicalSpelling.{spelt_octets}
use Rattle.spelling.specs.SpellingGiven.{spell_in}
use Rattle.spelling_tables.specs.PackedSpellings.{spelling_table, packed, packed_in, packed_size, packed_octets}
use Rattle.spelling_tables.proofs.LentSpellings.{packed_exactly, unpacked, null_unspelt}
use Rattle.element_words.specs.declared.Element.TheVariants.{One}
use Rattle.element_words.specs.Words.{underlined_from}
use Rattle.element_spelling.specs.ElementOctets.{spell_word, spell_element}

-- an entry that is not 0: the octets of the character's word, how many they are, and that they are some; the code point is not 0, and small
pub record Packed (f : Form) (c p : ℕ) : Type 0 where
  pub octets : packed_octets p ≡ spell_element f (One c)
  pub size : packed_size p ≡ length (spell_element f (One c))
  pub some : packed_size p ≡ 0 → ⊥
  pub not_null : c ≡ 0 → ⊥
  pub small : c < 0x10000

module _ (f : Form) (c p : ℕ) (e : p ≡ packed_in (spelling_table f) c) (n : p ≡ 0 → ⊥) where
  not_empty : (s : List ℕ) → spelt_octets (spell_in f c) ≡ s → length s ≡ 0 → ⊥
  not_empty [] q z = n (e ∙ packed_exactly f c ∙ ap packed q)
  not_empty (o ∷ s) q z = omega arith

  pub packed_word : Packed f c p
  unfolding spell_element
  packed_word =
      let u = unpacked f c p e n in
      let w : spell_word f c ≡ spelt_octets (spell_in f c) = simp (lt-ltb c underlined_from (omega (arith, u.small))) in
      record {
        octets = u.octets ∙ sym w;
        size = u.size ∙ ap length (sym w);
        some = λ z. not_empty (spelt_octets (spell_in f c)) refl (sym u.size ∙ z);
        not_null = λ z. n (e ∙ ap (packed_in (spelling_table f)) z ∙ null_unspelt f);
        small = u.small;
      }
