-- To be believed: document 01's table of numbers and its order of refusals for a case that is written from its parts: which answer is
-- given, and what the lent octets hold after. Nothing here speaks of a writer.
-- Assumes nothing.
use Rattle.std.specs.Prelude.{ℕ, ◌≤◌, ◌<◌, ◌≡◌, length}
use mathlib.Core.List.{List, Memᴰ}
use Rattle.run.specs.declared.Answer.{Answer}
use Rattle.run.specs.Answers.{answer, bare, short_room, over}
use Rattle.case_table.specs.Layout.{version_1, total, case_with}
use Rattle.sorts.specs.Forms.{IsForm, NoForm}

-- 15 is not given: at most 256 pages, no length over 65,535, and the lengths add up to the page octets
pub record Parts (lengths octets : List ℕ) : Type 0 where
  pub few : length lengths ≤ 0x100
  pub short : (n : ℕ) → Memᴰ n lengths → n ≤ version_1.longest
  pub sum : total lengths ≡ length octets

-- "11, then 15 .., then 9; pages aren't read, so an accepted writing has element 0, and its place is the number of page octets"
pub data WriteCaseTable (form : ℕ) (lengths octets case : List ℕ) : Answer → List ℕ → Type 0 where
  no_form : NoForm form → WriteCaseTable form lengths octets case (bare 11) case
  no_parts : IsForm form → (Parts lengths octets → ⊥) → WriteCaseTable form lengths octets case (bare 15) case
  -- 9: "lent room is short": "0; room needed"
  room_is_short : IsForm form → Parts lengths octets → length case < length (case_with form lengths octets)
      → WriteCaseTable form lengths octets case (short_room (length (case_with form lengths octets))) case
  written : IsForm form → Parts lengths octets → length (case_with form lengths octets) ≤ length case
      → WriteCaseTable form lengths octets case (answer 0 0 (length octets) (length (case_with form lengths octets)))
      (over case (case_with form lengths octets))
