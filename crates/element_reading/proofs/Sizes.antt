-- No octet gives more than one word.
-- Assumes nothing.
use Prim.Native.Nat.{ℕ, suc, ◌≤◌, min}
use mathlib.Core.Path.{ap}
use mathlib.Core.List.{List, [], ◌∷◌}
use native.Mathlib.Omega.{arith}
use lib.Dec.{lit≤}
use lib.ListN.{length, length-append, length-take}
use Rattle.sorts.specs.declared.Form.{Form}
use Rattle.sequence_reading.specs.Grammar.{Sequence, Parameters, SpellsSequence}
use Rattle.sequence_reading.specs.EightValues.{values_of}
use Rattle.element_words.specs.declared.Element.{Element}
use Rattle.element_reading.specs.Grammar.{Spells}
use Rattle.element_words.specs.Words.{words_of}

values_few : {p vs : List ℕ} → Parameters p vs → length vs ≤ suc (length p)
values_few (Parameters.single d) = omega arith
values_few (Parameters.joined {s} {p} {vs} b d k r) = omega (arith, values_few r, length-append s (b ∷ p))

sequence_few : {s : List ℕ} {q : Sequence} → SpellsSequence s q → suc (length q.values) ≤ length s
sequence_few (SpellsSequence.sequence {s} b i k) =
    omega (arith, values_few i.valued, ap length i.whole, length-append i.parameters i.intermediate, length-append s (b ∷ []))

-- An element has no more words than octets, however it is spelt.
pub words_few : {f : Form} {p : List ℕ} {e : Element} → Spells f p e → length (words_of e) ≤ length p
words_few (Spells.graphic k) = lit≤ tt
words_few (Spells.shifted k e) = lit≤ tt
words_few (Spells.underlined k e) = lit≤ tt
words_few (Spells.pair {p} l a e) = omega (arith, length-append p (l ∷ []))
words_few (Spells.control k) = lit≤ tt
words_few (Spells.sequence {q = q} k t) =
    omega (arith, sequence_few t, length-take (min (length q.values) 8) (values_of q.values))
