-- To be believed, `Apart`: how many pieces of a run do not spell their elements by another grammar. Proved equal to it, `tally_of`, by tags
-- that say of each piece whether it does (proofs/Tallies: apart_exactly). Of a tag, and so a word of laws: `Decides`.
-- Assumes nothing.
use Rattle.std.specs.Prelude.{ℕ, suc, ◌≡◌, Bool, true, List, [], ◌∷◌, length}
use Rattle.run.specs.Choice.{pick}
use Rattle.run.specs.Head.{Head}
use Rattle.run.specs.Answers.{given}
use Rattle.run.specs.Before.{whats, before}
use Rattle.run.specs.Tagged.{tagged}

-- ---- the pieces of a run and its elements, side by side, and how many of the pieces do not spell theirs by the grammar C
pub data Apart {X A : Type 0} (C : List X → A → Type 0) : List (List X) → List A → ℕ → Type 0 where
  none : Apart C [] [] 0
  spelt : {p : List X} {e : A} {ps : List (List X)} {es : List A} {k : ℕ} → C p e → Apart C ps es k → Apart C (p ∷ ps) (e ∷ es) k
  apart : {p : List X} {e : A} {ps : List (List X)} {es : List A} {k : ℕ} → (C p e → ⊥) → Apart C ps es k
      → Apart C (p ∷ ps) (e ∷ es) (suc k)

-- ---- the tags that do not hold, counted: such a tag gives one entry, and one that holds gives none

abbrev pub noted : {A : Type 0} → A × Bool → List ℕ
noted x = pick x.1 [] (0 ∷ [])

abbrev pub tally : {A : Type 0} → List (A × Bool) → ℕ
tally xs = length (given noted xs)

-- of the elements of a list before its end or its first fault
abbrev pub tally_of : {X A : Type 0} → (List X → A → Bool) → (List X → Head A) → List X → ℕ
tally_of tag head s = tally (whats (before (tagged tag head) s))

-- a tag that holds of a piece exactly where that spells its element by C, and C's spellings are some of S's
pub record Decides {X A : Type 0} (tag : List X → A → Bool) (S C : List X → A → Type 0) : Type 0 where
  pub says : (p : List X) (e : A) → S p e → tag p e ≡ true → C p e
  pub holds : (p : List X) (e : A) → C p e → tag p e ≡ true
  pub among : (p : List X) (e : A) → C p e → S p e
