-- To be believed: the promise of each public function, by its name; its arguments, at entry, then its result, then what a lent buffer holds
-- after.
-- Assumes nothing.
use Rattle.std.specs.Prelude.{ℕ, ◌≡◌, List, length}
use Rattle.run.specs.Put.{Put, what_fits}
use Rattle.sorts.specs.declared.Form.{Form}
use Rattle.element_words.specs.declared.Element.{Element}
use Rattle.element_spelling.specs.ElementOctets.{spell_element}

-- how many octets an element's words are spelt with in a form; 0 where they are no element that it holds
abbrev pub SpeltSizePromise : Form → Element → ℕ → Type 0
SpeltSizePromise form e r = r ≡ length (spell_element form e)

-- their spelling, from a place on, where there is room for all of it; else nothing; and the place behind
abbrev pub PutSpellingPromise : Form → Element → List ℕ → ℕ → ℕ → List ℕ → Type 0
PutSpellingPromise form e out at r after = Put out at (what_fits out at (spell_element form e)) after r
