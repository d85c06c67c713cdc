-- Proved equal to the runs and refusals of Grammar (proofs/Outcomes: accepts, refuses): what stands at the head of a list, and what a whole
-- list comes to, element after element. Reading a text and writing a list of words have this one shape: entries, X, are octets or words, A
-- is what an element is known by.
-- Assumes nothing.
use Rattle.std.specs.Prelude.{ℕ, zero, suc, ◌+◌, ◌-◌, List, [], ◌∷◌, ◌++◌, length}

-- at the head of a list of entries
pub data Head (A : Type 0) : Type 0 where
  -- an element, and how many entries it takes
  element : A → ℕ → Head A
  -- a refusal: its number, and how far behind the element's first entry the deciding one stands
  refused : ℕ → ℕ → Head A
  -- nothing: the list is at its end
  none : Head A

-- what a whole list comes to
pub data Outcome (A : Type 0) : Type 0 where
  -- its elements, in order
  accepted : List A → Outcome A
  -- number; element, how many stand before it; place, of its first entry; the deciding entry's place
  refusal : ℕ → ℕ → ℕ → ℕ → Outcome A

-- an outcome after the elements es, which take k entries: elements joined, or element number and places moved up
abbrev pub join : {A : Type 0} → List A → ℕ → Outcome A → Outcome A
join es k (accepted fs) = accepted (es ++ fs)
join es k (refusal r n p d) = refusal r (length es + n) (k + p) (k + d)

-- the outcome by what stands at the head; `rest` is the outcome after so many entries more than one
abbrev pub after : {A : Type 0} → Head A → (ℕ → Outcome A) → Outcome A
after (element e k) rest = join (e ∷ []) k (rest (k - 1))
after (refused r d) rest = refusal r 0 0 d
after none rest = accepted []

-- the outcome of what is left of a list after its first k entries
unfoldable pub from : {X A : Type 0} → (List X → Head A) → List X → ℕ → Outcome A
from head [] k = accepted []
from head (b ∷ s) zero = after (head (b ∷ s)) (from head s)
from head (b ∷ s) (suc k) = from head s k

-- the outcome of a whole list: element after element, up to the end or the first fault
unfoldable pub outcome : {X A : Type 0} → (List X → Head A) → List X → Outcome A
outcome head s = from head s 0
