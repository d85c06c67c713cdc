-- How many octets the element at a place has, by the lent table where it is a spacing character or begins with a mark.
-- Assumes nothing.
use Prim.Native.Nat.{ℕ, ◌+◌, ◌-◌, ◌≤◌, ◌<◌}
use mathlib.Core.Path.{◌≡◌, sym, ap, ◌∙◌}
use mathlib.Core.Bool.{Bool, false}
use mathlib.Core.List.{List, [], ◌∷◌}
use native.Mathlib.Omega.{arith}
use lib.ListN.{length, drop, get_or, length-append, length-drop, drop_of_length-le}
use Rattle.run.specs.Head.{element}
use Rattle.run.proofs.FromPlace.{at_place}
use Rattle.sorts.specs.declared.Form.{Form}
use Rattle.sorts.specs.declared.Sort.{Sort}
use Rattle.std.specs.Prelude.{Option, Some, None}
use Rattle.sorts.specs.Sorts.{sort_in}
use Rattle.squares.specs.Squares.{square_of}
use Rattle.lent_tables.specs.CodeTables.{no_character, neither, code_table, code_in}
use Rattle.lent_tables.proofs.LentEntries.{graphic_code, mark_code}
use Rattle.element_words.specs.declared.Element.{Element}
use Rattle.element_words.specs.declared.Element.TheVariants.{One}
use Rattle.element_reading.specs.declared.Step.{Step}
use Rattle.element_reading.specs.declared.Step.TheVariants.{Element as Read}
use Rattle.element_reading.specs.ElementHead.{head_in, head_sort, follower_head, pair_head, step_at}
use Rattle.element_reading.proofs.Reader.{reads}
use Rattle.text_loops.proofs.Steps.{NotRead, here, graphic_here, step_refused}
use Rattle.compare.specs.Walking.{Stands, SizeOf}

module _ (f : Form) (text : List ℕ) (at : ℕ) where
  module _ (stands : Stands f (drop at text)) where
    -- it stands within the text
    pub within : at < length text
    within =
        let past : length text ≤ at → ⊥ =
        λ l. let q = sym (reads f).ends ∙ ap (head_in f) (sym (drop_of_length-le text l)) ∙ stands.here in
        let z : ◌≡◌ {A = ℕ} 0 1 = cc in omega arith in
        omega (arith, past)

    -- a spacing character
    pub one_octet : (c : ℕ) → c ≡ code_in (code_table f) (get_or text at 0) → c < no_character → SizeOf f (drop at text) 1
    one_octet c e h =
        let g = graphic_code f (get_or text at 0) (omega arith) in
        let x = graphic_here f text at (code_in (code_table f) (get_or text at 0)) within (sym g.sorts) in
        let n : x.size ≡ 1 = omega (arith, x.onward) in
        record {
          what = One (code_in (code_table f) (get_or text at 0));
          here = x.here ∙ ap (element (One (code_in (code_table f) (get_or text at 0)))) n;
        }

    -- a mark that begins an element: its follower is listed
    listed : (x : Option ℕ) (s : Sort) (e : Element) (k : ℕ) → pair_head false 1 x s ≡ element e k → k ≡ 2
    listed (Some c) s e k q = cc
    listed None s e k q = let z : ◌≡◌ {A = ℕ} 0 1 = cc in absurd (omega arith)

    followed : (m : ℕ) (t : List ℕ) (e : Element) (k : ℕ) → follower_head f m false 1 t ≡ element e k → k ≡ 2
    unfolding follower_head
    followed m [] e k q = let z : ◌≡◌ {A = ℕ} 0 1 = cc in absurd (omega arith)
    followed m (l ∷ t) e k q = listed (square_of m l) (sort_in f l) e k q

    pub two_octets : (c : ℕ) → c ≡ code_in (code_table f) (get_or text at 0) → no_character ≤ c → c < neither → SizeOf f (drop at text) 2
    unfolding head_in
    two_octets c e l h =
        let m = mark_code f (get_or text at 0) (omega arith) (omega arith) in
        let q = sym (ap (head_in f) (at_place text at within)
        ∙ ap (λ (s : Sort). head_sort f s (get_or text at 0) (drop (at + 1) text)) m.1) ∙ stands.here in
        let n = followed m.0 (drop (at + 1) text) stands.what stands.size q in
        record { what = stands.what; here = stands.here ∙ ap (element stands.what) n }

    -- what is neither is read: an element stands there
    pub never : (x : Step) → x ≡ step_at f text at → NotRead x → ⊥
    never x q o =
        let r = step_refused f text at x q o within in
        let e = sym r.here ∙ stands.here in
        let z : ◌≡◌ {A = ℕ} 0 1 = cc in
        omega arith

  -- its octets are within the text
  pub size_inside : {k : ℕ} → at < length text → SizeOf f (drop at text) k → at + k ≤ length text
  size_inside {k} l size =
      let b = (reads f).found (drop at text) size.what k size.here in
      omega (arith, b.size, ap length b.whole, length-append b.front b.rest, length-drop at text)

  pub by_step : (e : Element) (next : ℕ) (b : Bool) → step_at f text at ≡ Read e next b
      → (at ≤ next) × SizeOf f (drop at text) (next - at)
  by_step e next b q =
      let x = here f text at e next b q in
      let n : x.size ≡ next - at = omega (arith, x.onward) in
      (omega (arith, x.onward), record { what = e; here = x.here ∙ ap (element e) n })
