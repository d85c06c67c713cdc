-- Whether the octets that wait are open: none are (none_open), else the step at their head says it (is_open_at).
-- Assumes nothing.
use Prim.Native.Nat.{ℕ}
use mathlib.Core.Path.{◌≡◌, refl, sym, ap, ◌∙◌}
use mathlib.Core.Bool.{Bool, true, false}
use mathlib.Core.List.{List, [], ◌∷◌}
use native.Mathlib.Omega.{arith}
use lib.Dec.{eqb}
use lib.ListN.{length}
use Rattle.run.specs.Head.{Head, element, refused, none}
use Rattle.run.specs.Tagged.{tag_head}
use Rattle.sorts.specs.declared.Form.{Form}
use Rattle.element_words.specs.declared.Element.{Element}
use Rattle.element_spelling.specs.ElementOctets.{is_canonical}
use Rattle.element_reading.specs.declared.Step.{Step}
use Rattle.element_reading.specs.declared.Step.TheVariants.{Element as Read, Refused as Stopped, End}
use Rattle.element_reading.specs.ElementHead.{head_in, step_of, step_at}
use Rattle.element_reading.proofs.Reader.{reads}
use Rattle.open_elements.specs.OpenElements.{open_head, is_open}

abbrev pub open_step : Step → Bool
open_step (Read e k b) = false
open_step (Stopped r p d) = eqb r 4
open_step End = true

pub none_open : (f : Form) (s : List ℕ) → length s ≡ 0 → is_open f s ≡ true
none_open f [] e = ap open_head (reads f).ends
none_open f (o ∷ s) e = absurd (omega (arith, e))

pub is_open_at : (f : Form) (s : List ℕ) {x : Step} → x ≡ step_at f s 0 → is_open f s ≡ open_step x
unfolding step_at
is_open_at f s e = sym (ap open_step e ∙ opens (head_in f s))
  where
    opens : (h : Head Element) → open_step (step_of 0 (tag_head (is_canonical f) s h)) ≡ open_head h
    opens (element e k) = refl
    opens (refused r d) = refl
    opens none = refl
