-- To be believed, `SpeltBy`: a grammar whose elements are known by what a speller gives of them. Proved to read it (proofs/Spellers:
-- spelt_reads), the head `spelt_by`. Of a head, and so a word of laws: `Why` it refuses (proofs/Spellers: why).
-- Assumes nothing.
use Rattle.std.specs.Prelude.{ℕ, ◌≡◌, List, [], ◌∷◌}
use Rattle.run.specs.Head.{Head, element, refused, none}

-- ---- the grammar: p spells an element, the speller gives s of it, and that is something
pub record SpeltBy {X A : Type 0} (speller : A → List ℕ) (S : List X → A → Type 0) (p : List X) (s : List ℕ) : Type 0 where
  pub of : A
  pub spells : S p of
  pub gives : speller of ≡ s
  pub some : s ≡ [] → ⊥

-- ---- the head: number 10, "an element not in the target form", at the element's first entry where the speller gives nothing

abbrev pub entries_or10 : List ℕ → ℕ → Head (List ℕ)
entries_or10 [] k = refused 10 0
entries_or10 (o ∷ s) k = element (o ∷ s) k

abbrev pub spelt_head : {A : Type 0} → (A → List ℕ) → Head A → Head (List ℕ)
spelt_head speller (element e k) = entries_or10 (speller e) k
spelt_head speller (refused r d) = refused r d
spelt_head speller none = none

abbrev pub spelt_by : {X A : Type 0} → (A → List ℕ) → (List X → Head A) → List X → Head (List ℕ)
spelt_by speller head s = spelt_head speller (head s)

-- why it refuses: as the head does, or with 10 at an element of which the speller gives nothing
pub data Why {X A : Type 0} (speller : A → List ℕ) (head : List X → Head A) (t : List X) (r d : ℕ) : Type 0 where
  by_head : head t ≡ refused r d → Why speller head t r d
  not_spelt : {e : A} {k : ℕ} → head t ≡ element e k → speller e ≡ [] → r ≡ 10 → d ≡ 0 → Why speller head t r d
