-- A list of words over the limit: the answer 12, and the lent text as it stood.
-- Assumes nothing.
use Prim.Native.Nat.{◌<◌}
use mathlib.Core.Path.{◌≡◌, ◌∙◌}
use mathlib.Core.List.{List}
use Prim.Native.Nat.{ℕ}
use lib.ListN.{length}
use Rattle.run.specs.declared.Answer.{Answer}
use Rattle.run.specs.Answers.{bare}
use Rattle.text_reading.specs.ReadingNumbers.{limit}
use Rattle.text_reading.specs.ReadAnswers.{within_limit}
use Rattle.text_reading.proofs.Edges.{over}

pub over_answered : (words : List ℕ) (r a : Answer) → r ≡ bare 12 → limit < length words → r ≡ within_limit words (bare 12) a
over_answered words r a e h = e ∙ over words (bare 12) a h

pub over_kept : (words text written : List ℕ) → limit < length words → text ≡ within_limit words text written
over_kept words text written h = over words text written h
