-- To be believed, `Gathered`: what copying octets leaves. The others are parts of the code: what the reader's own steps leave.
-- Assumes nothing.
use Rattle.std.specs.Prelude.{ℕ, ◌+◌, ◌≡◌, List, eqb, length, take, drop}
use Rattle.std.proofs.lemmas.List.Edits.{sets}
use Rattle.run.specs.Choice.{pick}
use Rattle.run.specs.declared.Answer.{Answer}
use Rattle.run.specs.Answers.{answer, over}
use Rattle.run.specs.Put.{what_fits}
use Rattle.sorts.specs.declared.Form.{Form}
use Rattle.text_loops.specs.declared.Measured.{Measured}
use Rattle.text_loops.specs.Fronts.{measured, words_before}

-- the octets s from a place on, as far as there is room for them, and how many they are
pub record Gathered (s : List ℕ) (from : ℕ) (into : List ℕ) (size : ℕ) (after : List ℕ) : Type 0 where
  pub many : size ≡ length (take (length into) (drop from s))
  pub stand : after ≡ over into (take (length into) (drop from s))

-- what was read of the octets s, and the words where they fit
abbrev pub FrontOf : Form → List ℕ → List ℕ → Measured → List ℕ → Type 0
FrontOf f s words r after = (r ≡ measured f s) × (after ≡ sets words 0 (what_fits words 0 (words_before f s)))

-- an answer behind one element of `next` octets; accepted, of so many words
abbrev pub behind_one : Answer → ℕ → ℕ → Answer
behind_one a next count =
    answer a.number (a.element + 1) (a.place + next) (pick (eqb a.number 0) count (a.count + next))
