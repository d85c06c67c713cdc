-- What readers and writers above may rely on of spellings: how large a code point is, and 01's number of a character that is not in the
-- form.
-- Assumes nothing.
use Prim.Native.Nat.{ℕ, ◌<◌}
use mathlib.Core.Path.{◌≡◌, refl, sym, ap, ◌∙◌}
use mathlib.Core.Logic.{◌↔◌}
use native.Mathlib.Omega.{arith}
use Rattle.sorts.specs.declared.Form.{Form}
use Rattle.sorts.proofs.SortFacts.{graphic_small, shifted_graphic_small}
use Rattle.squares.proofs.SquareFacts.{square_small}
use Rattle.spelling.specs.declared.Spelling.{Spelling}
use Rattle.std.specs.Prelude.{Option, Some, None}
use Rattle.spelling.specs.CanonicalSpelling.{Codes, spelling_number}
use Rattle.spelling.specs.SpellingGiven.{spell_in}
use Rattle.spelling.specs.Promises.{SpellInPromise, SpellInNumbers}
use Rattle.spelling.proofs.CanonicalExactly.{exactly, reads_back, has_canonical}

-- a character's code point has sixteen bits
pub code_point_small : (f : Form) (c : ℕ) {x : Spelling} → Codes f c x → c < 0x10000
code_point_small f c (Codes.one {o} e) = omega (arith, graphic_small f o c e)
code_point_small f c (Codes.shifted {o} s e) = shifted_graphic_small f o c e
code_point_small f c (Codes.pair {m = m} {l} e q) = square_small m l c q
code_point_small f c (Codes.shifted_pair {m = m} {l} s e q) = square_small m l c q

-- 10 exactly where no octets of the form read to the character
pub spelling_number_lem : (f : Form) (c : ℕ) → (spelling_number (spell_in f c) ≡ 0) ↔ ((x : Spelling) × Codes f c x)
spelling_number_lem f c = (forth (spell_in f c) refl, back)
  where
    forth : (x : Option Spelling) → spell_in f c ≡ x → spelling_number x ≡ 0 → (y : Spelling) × Codes f c y
    forth (Some x) e h = (x, reads_back f c ((exactly f c x).1 e))
    forth None e h = absurd (omega arith)

    back : (y : Spelling) × Codes f c y → spelling_number (spell_in f c) ≡ 0
    back h = let k = (has_canonical f c).1 h in ap spelling_number ((exactly f c k.0).0 k.1)

-- what is given keeps the promise
pub spelling_kept : (f : Form) (c : ℕ) (r : Option Spelling) → r ≡ spell_in f c → SpellInPromise f c r
spelling_kept f c r e = (e, ((none r e, back r e), λ x q. (exactly f c x).1 (sym e ∙ q)))
  where
    none : (x : Option Spelling) → x ≡ spell_in f c → spelling_number x ≡ 10 → (y : Spelling) → Codes f c y → ⊥
    none x q h y k = let z = ap spelling_number q ∙ (spelling_number_lem f c).1 (y, k) in omega arith

    back : (x : Option Spelling) → x ≡ spell_in f c → ((y : Spelling) → Codes f c y → ⊥) → spelling_number x ≡ 10
    back (Some x) q n = absurd (n x (reads_back f c ((exactly f c x).1 (sym q))))
    back None q n = refl

-- 01's number, and what is canonical, fix the answer
pub spelling_by : (f : Form) (c : ℕ) (r : Option Spelling) → SpellInNumbers f c r → r ≡ spell_in f c
spelling_by f c r p = go r refl
  where
    is_10 : (x : Option Spelling) → spelling_number x ≡ 10 → x ≡ None
    is_10 (Some x) h = absurd (omega arith)
    is_10 None h = refl

    go : (x : Option Spelling) → r ≡ x → r ≡ spell_in f c
    go (Some x) e = e ∙ sym ((exactly f c x).0 (p.1 x e))
    go None e = e ∙ sym (is_10 (spell_in f c) ((spelling_kept f c (spell_in f c) refl).1.0.1 (p.0.0 (ap spelling_number e))))
