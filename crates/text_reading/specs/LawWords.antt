-- Parts of the code: the words in which the laws of this crate (proofs/ByTable, Edges, ReadTexts) are stated, beside those of the
-- table of numbers; no promise and no statement of a theorem of record has them.
-- Assumes nothing.
use Rattle.std.specs.Prelude.{ℕ, ◌<◌, ◌≡◌, ◌↔◌, List, Option}
use Rattle.run.specs.Head.{Outcome, accepted, refusal}
use Rattle.run.specs.declared.Answer.{Answer}
use Rattle.run.specs.Answers.{bare}
use Rattle.sorts.specs.declared.Form.{Form}
use Rattle.sorts.specs.Forms.{in_form}
use Rattle.text_reading.specs.ReadAnswers.{within_limit}

-- an outcome is accepted exactly by Runs, and refused exactly by Fault
pub record Meets {A : Type 0} (Runs : List A → Type 0) (Fault : ℕ → ℕ → ℕ → ℕ → Type 0) (x : Outcome A) : Type 0 where
  pub runs : (es : List A) → (x ≡ accepted es) ↔ Runs es
  pub faults : (r n p d : ℕ) → (x ≡ refusal r n p d) ↔ Fault r n p d

-- the number of a fault is none of 0, 9, 11 and 12
abbrev pub FaultNumbers : (ℕ → ℕ → ℕ → ℕ → Type 0) → Type 0
FaultNumbers Fault = (r n p d : ℕ) → Fault r n p d → (0 < r) × (r < 11) × (r ≡ 9 → ⊥)

-- an answer, and what the lent buffer holds after: 11, then 12, then what is promised in the form
abbrev pub Asked : Option Form → List ℕ → List ℕ → (Form → Answer) → (Form → List ℕ) → Answer → List ℕ → Type 0
Asked found input buffer promised held r after =
    (r ≡ in_form found (bare 11) (λ f. within_limit input (bare 12) (promised f)))
    × (after ≡ in_form found buffer (λ f. within_limit input buffer (held f)))
