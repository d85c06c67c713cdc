-- Parts of the code: what the walk over two texts knows at a place of each. No promise and no statement of a theorem of record has them.
-- Assumes nothing.
use Rattle.std.specs.Prelude.{ℕ, ◌≡◌, List, Option, None, Some, take}
use Rattle.run.specs.Choice.{pick}
use Rattle.run.specs.Head.{Head, Outcome, element, refused, none, accepted, refusal}
use Rattle.sorts.specs.declared.Form.{Form}
use Rattle.element_words.specs.declared.Element.{Element}
use Rattle.element_reading.specs.ElementHead.{head_in}
use Rattle.compare.specs.declared.Shared.{Shared}
use Rattle.compare.specs.Comparing.{Segment, same_element, segments_in, one_shared, nothing_shared, shared}

-- an element stands at the head
pub record Stands (f : Form) (s : List ℕ) : Type 0 where
  pub what : Element
  pub size : ℕ
  pub here : head_in f s ≡ element what size

-- and has so many octets
pub record SizeOf (f : Form) (s : List ℕ) (size : ℕ) : Type 0 where
  pub what : Element
  pub here : head_in f s ≡ element what size

-- a text is accepted, up to its end
pub record ReadThrough (f : Form) (s : List ℕ) : Type 0 where
  pub segments : List Segment
  pub reads : segments_in f s ≡ accepted segments

-- what is shared at the heads: the first element of each, where they are the same
abbrev pub shared_heads : Head Element → Head Element → List ℕ → List ℕ → Option Shared
shared_heads (element e k) (element g l) s t = pick (same_element e g) (Some (one_shared (take k s) (take l t))) None
shared_heads (element e k) (refused r d) s t = None
shared_heads (element e k) none s t = None
shared_heads (refused r d) h s t = None
shared_heads none h s t = None

abbrev pub shared_here : Form → List ℕ → List ℕ → Option Shared
shared_here f s t = shared_heads (head_in f s) (head_in f t) s t

-- what two accepted texts share
abbrev pub shared_by : Outcome Segment → Outcome Segment → Shared
shared_by (refusal r n p d) y = nothing_shared
shared_by (accepted xs) (refusal r n p d) = nothing_shared
shared_by (accepted xs) (accepted ys) = shared xs ys

abbrev pub shared_in : Form → List ℕ → List ℕ → Shared
shared_in f first second = shared_by (segments_in f first) (segments_in f second)
