-- To be believed: the promise of each public function, by its name; its arguments, at entry, then its result, then what a lent buffer holds
-- after.
-- Assumes nothing.
use Rattle.std.specs.Prelude.{ℕ, ◌≡◌, List, [], ◌∷◌}
use Rattle.run.specs.declared.Answer.{Answer}
use Rattle.run.specs.declared.ReadAnswer.{ReadAnswer}
use Rattle.run.specs.Answers.{bare, short_room, carrying}
use Rattle.run.specs.Put.{Put, what_fits}

-- a refusal that carries no place
abbrev pub BareAnswerPromise : ℕ → Answer → Type 0
BareAnswerPromise number r = r ≡ bare number

-- 9: "lent room is short", with the room needed
abbrev pub ShortRoomPromise : ℕ → Answer → Type 0
ShortRoomPromise needed r = r ≡ short_room needed

-- an answer with its fifth number, which is 0 on a refusal
abbrev pub ReadingOfPromise : Answer → ℕ → ReadAnswer → Type 0
ReadingOfPromise answer respelled r = r ≡ carrying answer respelled

-- one octet where there is room for it, and the place behind what was written
abbrev pub PutPromise : List ℕ → ℕ → ℕ → ℕ → List ℕ → Type 0
PutPromise out at octet r after = Put out at (what_fits out at (octet ∷ [])) after r
