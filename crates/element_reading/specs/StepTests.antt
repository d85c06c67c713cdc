-- Parts of the code: the answer at a place by what stands at its head, with the tests of crate `canonical_tests` for whether its octets are
-- canonical (proofs/StepsRight: they say it).
-- Assumes nothing.
use Rattle.std.specs.Prelude.{ℕ, ◌+◌, ◌-◌, Bool, true, List, take, drop, get_or}
use Rattle.run.specs.Head.{Head, element, refused, none}
use Rattle.sorts.specs.declared.Form.{Form}
use Rattle.sequence_spelling.specs.SequenceOctets.{canonical_behind}
use Rattle.element_words.specs.declared.Element.{Element}
use Rattle.element_words.specs.declared.Element.TheVariants.{One, Sequence as SequenceOf}
use Rattle.canonical_tests.specs.Tests.{word_canonical}
use Rattle.element_reading.specs.declared.Step.{Step}
use Rattle.element_reading.specs.declared.Step.TheVariants.{Element as Read, Refused as Stopped, End}

-- of an element of k octets that stands at the place `at` of a text
abbrev pub test_by : Form → List ℕ → ℕ → Element → ℕ → Bool
test_by f text at (One w) k = word_canonical f w (get_or text (at + k - 1) 0) k
test_by f text at (SequenceOf h n vs) k = canonical_behind true (drop 1 (take k (drop at text)))

abbrev pub step_by : Form → List ℕ → ℕ → Head Element → Step
step_by f text at (element e k) = Read e (at + k) (test_by f text at e k)
step_by f text at (refused r d) = Stopped r at (at + d)
step_by f text at none = End
