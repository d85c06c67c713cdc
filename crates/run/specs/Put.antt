-- To be believed: what a writer that stores some entries from a place on leaves.
-- Assumes nothing.
use Rattle.std.specs.Prelude.{ℕ, ◌+◌, ◌≡◌, List, [], leb, length}
use Rattle.std.proofs.lemmas.List.Edits.{sets}
use Rattle.run.specs.Choice.{pick}

-- the entries stand in the buffer from the place `at` on, the buffer is else as before, and `next` is the place behind them
pub record Put (before : List ℕ) (at : ℕ) (entries after : List ℕ) (next : ℕ) : Type 0 where
  pub place : next ≡ at + length entries
  pub holds : after ≡ sets before at entries

-- what is written of some entries from a place on: all of them where there is room, else none
abbrev pub what_fits : List ℕ → ℕ → List ℕ → List ℕ
what_fits out at entries = pick (leb (at + length entries) (length out)) entries []
