-- To be believed: a run of elements, by a grammar that says which entries spell which element (`Run`, `RunOf`, `Begins`), and where a
-- list stops (`Stopped`). Beside them what is proved of each head (`Reads`), and of its refusals (`Placed`, proofs/Outcomes: placed).
-- Assumes nothing.
use Rattle.std.specs.Prelude.{ℕ, ◌+◌, ◌≤◌, ◌<◌, ◌≡◌, List, [], ◌∷◌, ◌++◌, length}
use Rattle.run.specs.Head.{Head, element, refused, none}

-- the list s is cut into pieces, and each piece in turn spells, by the grammar S, the element beside it
pub data Run {X A : Type 0} (S : List X → A → Type 0) : List X → List (List X) → List A → Type 0 where
  done : Run S [] [] []
  more : {p s : List X} {ps : List (List X)} {e : A} {es : List A} → S p e → Run S s ps es → Run S (p ++ s) (p ∷ ps) (e ∷ es)

-- s is a run of the elements es
abbrev pub RunOf : {X A : Type 0} → (List X → A → Type 0) → List X → List A → Type 0
RunOf {X} S s es = (pieces : List (List X)) × Run S s pieces es

-- s begins with a spelling of e, of k entries
pub record Begins {X A : Type 0} (S : List X → A → Type 0) (s : List X) (e : A) (k : ℕ) : Type 0 where
  pub front : List X
  pub rest : List X
  pub whole : s ≡ front ++ rest
  pub spells : S front e
  pub size : k ≡ length front

-- What a head promises over a grammar. Each form owes one value of this for reading and one for writing; every law of whole lists is had
-- from it.
pub record Reads {X A : Type 0} (head : List X → Head A) (S : List X → A → Type 0) : Type 0 where
  -- a spelling is found, whatever follows it
  pub finds : (p t : List X) (e : A) → S p e → head (p ++ t) ≡ element e (length p)
  -- what is found is a spelling
  pub found : (s : List X) (e : A) (k : ℕ) → head s ≡ element e k → Begins S s e k
  -- an element has an entry at least
  pub some : (p : List X) (e : A) → S p e → 0 < length p
  -- nothing is left at the end, and only there
  pub ends : head [] ≡ none
  pub goes : (s : List X) → head s ≡ none → s ≡ []
  -- a refusal has a number, and its deciding place is in the list or its end
  pub numbered : (s : List X) (r d : ℕ) → head s ≡ refused r d → 0 < r
  pub inside : (s : List X) (r d : ℕ) → head s ≡ refused r d → d ≤ length s

-- How a list is refused: a run of elements, as many as the refusal says, stands before its place, and what is left is refused at its head:
-- `Here` says so of what is left, and how far behind its first entry the deciding one stands.
pub record Stopped {X A : Type 0} (S : List X → A → Type 0) (Here : List X → ℕ → Type 0) (s : List X) (n p d : ℕ) : Type 0 where
  pub front : List X
  pub rest : List X
  pub elements : List A
  pub behind : ℕ
  pub whole : s ≡ front ++ rest
  pub run : RunOf S front elements
  pub here : Here rest behind
  pub element_number : n ≡ length elements
  pub first_place : p ≡ length front
  pub deciding : d ≡ length front + behind

-- a refusal has a number, and its places are places of a list of n entries, or its end
pub record Placed (n r p d : ℕ) : Type 0 where
  pub number : 0 < r
  pub place : p ≤ n
  pub deciding : d ≤ n
