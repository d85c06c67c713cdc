-- Parts of the code: how it is told of octets that spell an element whether they are its canonical spelling (proofs/TestsRight). Of a
-- control sequence it is `canonical_behind` of crate `sequence_spelling`.
-- Assumes nothing.
use Rattle.std.specs.Prelude.{ℕ, Bool, true, false, eqb, ltb}
use Rattle.run.specs.Choice.{pick}
use Rattle.sorts.specs.declared.Form.{Form}
use Rattle.sorts.specs.declared.Form.TheVariants.{Eight, Seven, Basic}

-- "One octet where the form has one, else the pair": a character of ASCII is one octet
abbrev pub ascii_alone : ℕ → ℕ → Bool
ascii_alone word size = pick (ltb word 0x80) (eqb size 1) true

-- "Form 3 writes the number sign A6 and the currency sign A8": not 23 and 24
abbrev pub not_exchanged : ℕ → Bool
not_exchanged last = pick (eqb last 0x23) false (pick (eqb last 0x24) false true)

-- of an element of one word: by its word, the last of its octets, and how many they are
abbrev pub word_canonical : Form → ℕ → ℕ → ℕ → Bool
word_canonical Eight word last size = ascii_alone word size
word_canonical Seven word last size = ascii_alone word size
word_canonical Basic word last size = not_exchanged last
