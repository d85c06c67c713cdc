-- To be believed, `standing`: the elements before the end of a list or its first fault, each where its piece of the run begins. Proved
-- equal to it, `before` (proofs/Before: before_all, before_fault). Of a head, and so a word of laws: `Front` (proofs/Before:
-- before_refused).
-- Assumes nothing.
use Rattle.std.specs.Prelude.{ℕ, zero, suc, ◌+◌, ◌-◌, ◌≡◌, List, [], ◌∷◌, map, length, take, drop}
use Rattle.run.specs.Head.{Head, element, refused, none, accepted, outcome}

-- an element, the place of its first entry, and how many entries it takes
pub record Standing (A : Type 0) : Type 0 where
  pub what : A
  pub place : ℕ
  pub size : ℕ

-- so many entries further on
abbrev pub moved_up : {A : Type 0} → ℕ → Standing A → Standing A
moved_up k a = record { what = a.what; place = k + a.place; size = a.size }

abbrev pub whats : {A : Type 0} → List (Standing A) → List A
whats as' = map (λ a. a.what) as'

-- ---- the pieces of a run and their elements, from a place on: each element stands where its piece begins
unfoldable pub standing : {X A : Type 0} → ℕ → List (List X) → List A → List (Standing A)
standing at [] es = []
standing at (p ∷ ps) [] = []
standing at (p ∷ ps) (e ∷ es) = record { what = e; place = at; size = length p } ∷ standing (at + length p) ps es

-- each element stands where its piece begins, and takes that piece
pub record Piece {X A : Type 0} (S : List X → A → Type 0) (s : List X) (a : Standing A) : Type 0 where
  pub spells : S (take a.size (drop a.place s)) a.what

-- ---- the elements of a list before its end or its first fault

abbrev pub then_before : {A : Type 0} → Head A → ℕ → (ℕ → List (Standing A)) → List (Standing A)
then_before (element e k) at rest = record { what = e; place = at; size = k } ∷ rest (k - 1)
then_before (refused r d) at rest = []
then_before none at rest = []

-- of what is left after so many entries; the list's first entry stands at the place `at`
unfoldable pub before_from : {X A : Type 0} → (List X → Head A) → List X → ℕ → ℕ → List (Standing A)
before_from head [] at k = []
before_from head (b ∷ s) at zero = then_before (head (b ∷ s)) at (before_from head s (suc at))
before_from head (b ∷ s) at (suc k) = before_from head s (suc at) k

abbrev pub before : {X A : Type 0} → (List X → Head A) → List X → List (Standing A)
before head s = before_from head s 0 0

-- what stands before a fault is accepted, as many elements as the refusal says
pub record Front {X A : Type 0} (head : List X → Head A) (s : List X) (n p : ℕ) : Type 0 where
  pub accepts_front : outcome head (take p s) ≡ accepted (whats (before head s))
  pub as_many : n ≡ length (whats (before head s))
