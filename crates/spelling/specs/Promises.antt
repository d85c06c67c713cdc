-- To be believed: the promise of the public function, by its name; its arguments, then its result. What stands behind the equation, by
-- its own name, says of 01's number of it when it is given, and where it is 0, that is where there is a spelling, what that is.
-- Assumes nothing.
use Rattle.std.specs.Prelude.{ℕ, ◌≡◌, ◌↔◌, Option, Some}
use Rattle.sorts.specs.declared.Form.{Form}
use Rattle.spelling.specs.declared.Spelling.{Spelling}
use Rattle.spelling.specs.CanonicalSpelling.{Codes, Canonical, spelling_number}
use Rattle.spelling.specs.SpellingGiven.{spell_in}

-- 10 exactly where no octets of the form read to the character; where the number is 0, the spelling that 01 calls canonical
abbrev pub SpellInNumbers : Form → ℕ → Option Spelling → Type 0
SpellInNumbers form c r =
    ((spelling_number r ≡ 10) ↔ ((x : Spelling) → Codes form c x → ⊥))
    × ((x : Spelling) → r ≡ Some x → Canonical form c x)

-- the canonical spelling of a character in a form
abbrev pub SpellInPromise : Form → ℕ → Option Spelling → Type 0
SpellInPromise form c r = (r ≡ spell_in form c) × SpellInNumbers form c r
