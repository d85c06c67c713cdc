-- What is left of the test.
use mathlib.Core.Path.{◌≡◌}
use mathlib.Core.Bool.{true}
use lib.ListN.{drop}
use Rattle.sequence_spelling.specs.SequenceOctets.{canonical_behind}
use Rattle.canonical_tests.proofs.sequence_is_canonical.Given as goal

abbrev pub invariant-loop-o : goal.invariant-loop-o
invariant-loop-o l = canonical_behind true l.behind ≡ canonical_behind l.begins (drop l.o-index l.behind)
