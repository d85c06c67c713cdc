-- Proved equal to CaseWritingNumbers (proofs/Written: write_case_exactly): what writing a case from its parts comes to, its answer and what
-- the lent octets hold after.
-- Assumes nothing.
use Rattle.std.specs.Prelude.{ℕ, Bool, true, false, List, [], ◌∷◌, eqb, leb, length}
use Rattle.run.specs.Choice.{pick}
use Rattle.run.specs.declared.Answer.{Answer}
use Rattle.run.specs.Answers.{answer, bare, short_room, over}
use Rattle.sorts.specs.Forms.{form_of, in_form}
use Rattle.case_table.specs.Layout.{total, version_1, case_with}

-- no number of the list is over the most that is allowed
unfoldable pub none_over : ℕ → List ℕ → Bool
none_over most [] = true
none_over most (n ∷ ns) = let more = none_over most ns in pick (leb n most) more false

-- 15 else: "over 256 pages, a length is over 65,535 or the lengths don't add up to the page octets"
unfoldable pub fitting : List ℕ → ℕ → Bool
fitting lengths size =
    pick (leb (length lengths) 0x100) (pick (none_over version_1.longest lengths) (eqb (total lengths) size) false) false

-- "an accepted writing has element 0, and its place is the number of page octets"; 9 where the room is short
abbrev pub written_answer : ℕ → ℕ → List ℕ → Answer
written_answer size room case =
    pick (leb (length case) room) (answer 0 0 size (length case)) (short_room (length case))

-- 11, 15, 9
unfoldable pub write_case_answer : ℕ → (lengths octets : List ℕ) (room : ℕ) → Answer
write_case_answer form lengths octets room =
    in_form (form_of form) (bare 11)
    (λ f. pick (fitting lengths (length octets)) (written_answer (length octets) room (case_with form lengths octets)) (bare 15))

-- the case over the first of the lent octets, and then the untouched rest; on any refusal the buffer as it stood
unfoldable pub write_case_octets : ℕ → (lengths octets case : List ℕ) → List ℕ
write_case_octets form lengths octets case =
    in_form (form_of form) case
    (λ f. pick (fitting lengths (length octets))
    (pick (leb (length (case_with form lengths octets)) (length case)) (over case (case_with form lengths octets)) case)
    case)
