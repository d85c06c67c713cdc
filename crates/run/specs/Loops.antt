-- Parts of the code: what a loop that goes through a list, element after element, knows at a place. The laws of proofs/Loops, Rooms and
-- SpeltLoops are stated with these.
-- Assumes nothing.
use Rattle.std.specs.Prelude.{ℕ, ◌*◌, ◌≤◌, ◌<◌, ◌≡◌, List, length, take}
use Rattle.run.specs.Head.{Head, Outcome, accepted, refusal, outcome}
use Rattle.run.specs.declared.Answer.{Answer}
use Rattle.run.specs.Answers.{given, answer_of, written_of}
use Rattle.run.specs.Put.{Put}

-- ---- how much an element gives, and a run of elements

-- an element of the grammar gives at most so many entries
pub record Bounded {X A : Type 0} (S : List X → A → Type 0) (gives : A → List ℕ) (most : ℕ) : Type 0 where
  pub bound : (p : List X) (e : A) → S p e → length (gives e) ≤ most

-- a list has no more elements than entries, and they give at most so many times as many
pub record Few {A : Type 0} (gives : A → List ℕ) (most n : ℕ) (es : List A) : Type 0 where
  pub few : length es ≤ n
  pub short : length (given gives es) ≤ most * n

-- ---- the place of a loop

-- up to the place `at` of s stand the elements es
pub record Passed {X A : Type 0} (head : List X → Head A) (gives : A → List ℕ) (most : ℕ) (s : List X) (at : ℕ) (es : List A) : Type 0 where
  pub inside : at ≤ length s
  pub few : Few gives most at es
  pub front : outcome head (take at s) ≡ accepted es

-- measuring: the numbers counted on the way
pub record Counted {X A : Type 0} (head : List X → Head A) (gives : A → List ℕ) (most : ℕ) (s : List X) (at n count : ℕ) : Type 0 where
  pub es : List A
  pub passed : Passed head gives most s at es
  pub number : n ≡ length es
  pub counted : count ≡ length (given gives es)

-- filling: what was given so far stands over the buffer's first entries
pub record Filled {X A : Type 0} (head : List X → Head A) (gives : A → List ℕ) (most : ℕ) (s : List X) (l₀ : List ℕ) (at o : ℕ) (l : List ℕ)
    : Type 0 where
  pub es : List A
  pub passed : Passed head gives most s at es
  pub put : Put l₀ 0 (given gives es) l o

-- both in one pass
pub record Taken {X A : Type 0} (head : List X → Head A) (gives : A → List ℕ) (most : ℕ) (s : List X) (l₀ : List ℕ) (at n o : ℕ)
    (l : List ℕ) : Type 0 where
  pub counted : Counted head gives most s at n o
  pub put : Put l₀ 0 (given gives counted.es) l o

-- ---- from the first pass's answer to the whole one

-- a refusal has a number
abbrev pub Numbered : {A : Type 0} → Outcome A → Type 0
Numbered (accepted es) = Unit {0}
Numbered (refusal r n p d) = 0 < r

-- the answer, and what the lent buffer l holds after
abbrev pub WholeAnswer : {A : Type 0} → (A → List ℕ) → ℕ → List ℕ → Outcome A → Answer → List ℕ → Type 0
WholeAnswer gives n l x a after = (a ≡ answer_of gives n (length l) x) × (after ≡ written_of gives l x)
