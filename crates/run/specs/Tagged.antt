-- To be believed, `Tagged`: a grammar whose elements carry something made from their own entries. Proved to read it (proofs/Tags:
-- tagged_reads), the head `tagged`.
-- Assumes nothing.
use Rattle.std.specs.Prelude.{◌≡◌, List, map, take}
use Rattle.run.specs.Head.{Head, element, refused, none, Outcome, accepted, refusal}

-- ---- the grammar: p spells the element, and the tag is what is made of p and the element
abbrev pub Tagged : {X A B : Type 0} → (List X → A → B) → (List X → A → Type 0) → List X → A × B → Type 0
Tagged tag S p x = S p x.0 × (x.1 ≡ tag p x.0)

-- ---- the head

abbrev pub tag_head : {X A B : Type 0} → (List X → A → B) → List X → Head A → Head (A × B)
tag_head tag s (element e k) = element (e, tag (take k s) e) k
tag_head tag s (refused r d) = refused r d
tag_head tag s none = none

abbrev pub tagged : {X A B : Type 0} → (List X → A → B) → (List X → Head A) → List X → Head (A × B)
tagged tag head s = tag_head tag s (head s)

-- ---- an outcome without the tags

abbrev pub untagged : {A B : Type 0} → A × B → A
untagged x = x.0

abbrev pub untag : {A B : Type 0} → Outcome (A × B) → Outcome A
untag (accepted es) = accepted (map untagged es)
untag (refusal r n p d) = refusal r n p d
