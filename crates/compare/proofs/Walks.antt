-- What the walk over two accepted texts knows at a place of each.
-- Assumes nothing.
use Prim.Native.Nat.{ℕ, ◌+◌, ◌-◌, ◌≤◌, ◌<◌}
use mathlib.Core.Path.{◌≡◌, refl, sym, ap, ap₂, ◌∙◌, subst}
use mathlib.Core.Bool.{Bool, true, false}
use mathlib.Core.List.{List, [], ◌∷◌, ◌++◌}
use native.Mathlib.Omega.{arith}
use lib.ListN.{length, take, drop, get_or, length-drop, take-append-drop}
use lib.Seq.{drop-drop, length-take-le}
use Rattle.std.proofs.Common.{Some, None}
use Rattle.run.specs.Choice.{pick}
use Rattle.run.specs.Head.{Head, element, accepted}
use Rattle.run.proofs.Outcomes.{front_taken}
use Rattle.run.proofs.FromPlace.{at_place}
use Rattle.sorts.specs.declared.Form.{Form}
use Rattle.element_words.specs.declared.Element.{Element}
use Rattle.element_reading.specs.declared.Step.TheVariants.{Element as Read}
use Rattle.element_reading.specs.ElementHead.{head_in, step_at}
use Rattle.element_reading.proofs.Reader.{reads}
use Rattle.text_loops.proofs.Steps.{here}
use Rattle.compare.specs.declared.Shared.{Shared}
use Rattle.compare.specs.Comparing.{Segment, segments_in, same_element, shared_of, nothing_shared, and_then, one_shared, shared}
use Rattle.compare.specs.Walking.{Stands, SizeOf, shared_heads, shared_here, shared_in}
use Rattle.run.specs.Choice.{same_octets}
use Rattle.run.proofs.Choices.{are_same_octets}
use Rattle.compare.proofs.SameTests.{other_octets, is_same_element, other_element}
use Rattle.compare.proofs.Sharing.{then_nothing, then_assoc}
use Rattle.compare.proofs.Segments.{First, first, at_end}

-- ---- one element

module _ (f : Form) (s t : List ℕ) where
  -- the same octets, as many as the element has
  pub same_here : {k : ℕ} → SizeOf f s k → take k s ≡ take k t → Some (shared_of 1 k k 0) ≡ shared_here f s t
  same_here {k} size q =
      let b = (reads f).found s size.what k size.here in
      let p = front_taken b in
      let two : t ≡ b.front ++ drop k t = sym (take-append-drop k t) ∙ ap (λ (l : List ℕ). l ++ drop k t) (sym q ∙ p) in
      let there : head_in f t ≡ element size.what k =
      ap (head_in f) two ∙ (reads f).finds b.front (drop k t) size.what b.spells ∙ ap (element size.what) (sym b.size) in
      sym
      (ap₂ (λ (x y : Head Element). shared_heads x y s t) size.here there
      ∙ ap (λ (c : Bool). pick c (Some (one_shared (take k s) (take k t))) None) (is_same_element size.what)
      ∙ ap (λ (l : List ℕ). Some (one_shared (take k s) l)) (sym q)
      ∙ ap₂ (λ (n : ℕ) (c : Bool). Some (shared_of 1 n n (pick c 0 1))) (ap length p ∙ sym b.size) (are_same_octets (take k s)))

  module _ {e g : Element} {k l : ℕ} (one : head_in f s ≡ element e k) (two : head_in f t ≡ element g l) where
    here_by : shared_here f s t ≡ pick (same_element e g) (Some (one_shared (take k s) (take l t))) None
    here_by = ap₂ (λ (x y : Head Element). shared_heads x y s t) one two

    -- another element
    pub differ_here : (e ≡ g → ⊥) → None ≡ shared_here f s t
    differ_here q =
        sym (here_by ∙ ap (λ (c : Bool). pick c (Some (one_shared (take k s) (take l t))) None) (other_element e g q))

    -- the same, spelled otherwise
    pub otherwise_here : e ≡ g → (take k s ≡ take k t → ⊥) → Some (shared_of 1 k l 1) ≡ shared_here f s t
    otherwise_here q o =
        let b = (reads f).found s e k one in
        let c = (reads f).found t g l two in
        let lk : length (take k s) ≡ k = ap length (front_taken b) ∙ sym b.size in
        let ll : length (take l t) ≡ l = ap length (front_taken c) ∙ sym c.size in
        let same : same_element e g ≡ true = ap (same_element e) (sym q) ∙ is_same_element e in
        let other : same_octets (take k s) (take l t) ≡ false = other_octets (take k s) (take l t)
        (λ z. let n : l ≡ k = sym ll ∙ sym (ap length z) ∙ lk in o (z ∙ ap (λ (i : ℕ). take i t) n)) in
        sym
        (here_by
        ∙ ap (λ (b : Bool). pick b (Some (one_shared (take k s) (take l t))) None) same
        ∙ ap₂ (λ (m n : ℕ). Some (shared_of 1 m n (pick (same_octets (take k s) (take l t)) 0 1))) lk ll
        ∙ ap (λ (b : Bool). Some (shared_of 1 k l (pick b 0 1))) other)

-- ---- one element at a place of each text

module _ (f : Form) (s t : List ℕ) (i j : ℕ) where
  -- the same octet, a spacing character by itself
  pub character_at : i < length s → j < length t → get_or s i 0 ≡ get_or t j 0 → SizeOf f (drop i s) 1
      → Some (shared_of 1 1 1 0) ≡ shared_here f (drop i s) (drop j t)
  character_at h l q size =
      same_here f (drop i s) (drop j t) size
      (ap (take 1) (at_place s i h) ∙ ap (λ (o : ℕ). o ∷ []) q ∙ sym (ap (take 1) (at_place t j l)))

  -- by the two elements that are read
  module _ {a b : Element} {next after : ℕ} {u v : Bool} (one : step_at f s i ≡ Read a next u) (two : step_at f t j ≡ Read b after v) where
    pub differ_at_lem : (a ≡ b → ⊥) → None ≡ shared_here f (drop i s) (drop j t)
    differ_at_lem n = differ_here f (drop i s) (drop j t) (here f s i a next u one).here (here f t j b after v two).here n

    pub otherwise_at : {size : ℕ} → SizeOf f (drop i s) size → a ≡ b → (take size (drop i s) ≡ take size (drop j t) → ⊥)
        → (i ≤ next) × (j ≤ after) × (Some (shared_of 1 (next - i) (after - j) 1) ≡ shared_here f (drop i s) (drop j t))
    otherwise_at {size} is e z =
        let x = here f s i a next u one in
        let y = here f t j b after v two in
        let known = sym is.here ∙ x.here in
        let n : size ≡ x.size = cc in
        let k : next - i ≡ x.size = omega (arith, x.onward) in
        let l : after - j ≡ y.size = omega (arith, y.onward) in (
          omega (arith, x.onward),
          omega (arith, y.onward),
          ap₂ (λ (m k : ℕ). Some (shared_of 1 m k 1)) k l ∙ otherwise_here f (drop i s) (drop j t) x.here y.here e
              (subst (λ (m : ℕ). take m (drop i s) ≡ take m (drop j t) → ⊥) n z),
        )

-- ---- the walk

-- what stands before a place of each is shared; what both share is that, and what the rests do
pub record Walked (f : Form) (s t : List ℕ) (x : Shared) : Type 0 where
  pub rest : List Segment
  pub rest' : List Segment
  pub reads_on : segments_in f (drop x.first s) ≡ accepted rest
  pub reads_on' : segments_in f (drop x.second t) ≡ accepted rest'
  pub whole : shared_in f s t ≡ and_then x (shared rest rest')
  pub inside : x.first ≤ length s
  pub inside' : x.second ≤ length t
  pub few : x.elements ≤ x.first
  pub fewer : x.otherwise ≤ x.elements

at_most_one : (b : Bool) → pick b 0 1 ≤ 1
at_most_one true = omega arith
at_most_one false = omega arith

module _ (f : Form) (s t : List ℕ) where
  module _ {x : Shared} (was : Walked f s t x) where
    stop : shared was.rest was.rest' ≡ nothing_shared → x ≡ shared_in f s t
    stop q = sym (was.whole ∙ ap (and_then x) q ∙ then_nothing x)

    -- the first text has ended
    pub first_ended : length s ≤ x.first → x ≡ shared_in f s t
    first_ended h =
        stop (ap (λ (xs : List Segment). shared xs was.rest')
        (at_end f (drop x.first s) was.rest was.reads_on (omega (arith, length-drop x.first s))))

    -- the second has
    pub second_ended : length t ≤ x.second → x ≡ shared_in f s t
    second_ended h =
        stop (ap (shared was.rest) (at_end f (drop x.second t) was.rest' was.reads_on' (omega (arith, length-drop x.second t)))
        ∙ none_there was.rest)
      where
        none_there : (xs : List Segment) → shared xs [] ≡ nothing_shared
        none_there [] = refl
        none_there (x ∷ xs) = refl

    module _ (h : x.first < length s) (l : x.second < length t) where
      one : First f (drop x.first s) was.rest
      one = first f (drop x.first s) was.rest was.reads_on (omega (arith, length-drop x.first s))

      two : First f (drop x.second t) was.rest'
      two = first f (drop x.second t) was.rest' was.reads_on' (omega (arith, length-drop x.second t))

      -- an element stands at both places
      pub both_stand : Stands f (drop x.first s) × Stands f (drop x.second t)
      both_stand = (
        record { what = one.what; size = one.size; here = one.here },
        record { what = two.what; size = two.size; here = two.here },
      )

      -- the octets of each
      abbrev P : List ℕ
      P = take one.size (drop x.first s)

      abbrev Q : List ℕ
      Q = take two.size (drop x.second t)

      -- what is shared there, and what both share from there on, by the test of the two elements
      here_is : shared_here f (drop x.first s) (drop x.second t) ≡ pick (same_element one.what two.what) (Some (one_shared P Q)) None
      here_is = here_by f (drop x.first s) (drop x.second t) one.here two.here

      abbrev On : Bool → Shared
      On b = pick b (and_then (one_shared P Q) (shared one.rest two.rest)) nothing_shared

      on_is : shared was.rest was.rest' ≡ On (same_element one.what two.what)
      on_is = ap₂ shared one.whole two.whole

      -- the two are not the same: nothing more is shared
      pub elements_differ : None ≡ shared_here f (drop x.first s) (drop x.second t) → x ≡ shared_in f s t
      elements_differ q = go (same_element one.what two.what) refl
        where
          go : (b : Bool) → same_element one.what two.what ≡ b → x ≡ shared_in f s t
          go true e =
              let w : None ≡ Some (one_shared P Q) = q ∙ here_is ∙ ap (λ (b : Bool). pick b (Some (one_shared P Q)) None) e in cc
          go false e = stop (on_is ∙ ap On e)

      -- they are: one element more
      pub record Turned (y : Shared) : Type 0 where
        pub walked : Walked f s t (and_then x y)
        pub onward : 0 < y.first

      turned_by : same_element one.what two.what ≡ true → Turned (one_shared P Q)
      turned_by e =
          let lp : length P ≡ one.size = length-take-le one.size (drop x.first s) one.inside in
          let lq : length Q ≡ two.size = length-take-le two.size (drop x.second t) two.inside in
          record {
            walked =
                record {
                  rest = one.rest;
                  rest' = two.rest;
                  reads_on =
                      ap (λ (a : ℕ). segments_in f (drop (x.first + a) s)) lp
                      ∙ sym (ap (segments_in f) (drop-drop one.size x.first s))
                      ∙ one.reads_on;
                  reads_on' =
                      ap (λ (a : ℕ). segments_in f (drop (x.second + a) t)) lq
                      ∙ sym (ap (segments_in f) (drop-drop two.size x.second t))
                      ∙ two.reads_on;
                  whole =
                      was.whole ∙ ap (and_then x) (on_is ∙ ap On e) ∙ sym (then_assoc x (one_shared P Q) (shared one.rest two.rest));
                  inside = omega (arith, lp, length-drop x.first s, one.inside, was.inside);
                  inside' = omega (arith, lq, length-drop x.second t, two.inside, was.inside');
                  few = omega (arith, lp, one.some, was.few);
                  fewer = omega (arith, at_most_one (same_octets P Q), was.fewer);
                };
            onward = omega (arith, lp, one.some);
          }

      pub elements_same : {y : Shared} → Some y ≡ shared_here f (drop x.first s) (drop x.second t) → Turned y
      elements_same {y} q = go (same_element one.what two.what) refl
        where
          go : (b : Bool) → same_element one.what two.what ≡ b → Turned y
          go true e =
              let w : Some y ≡ Some (one_shared P Q) = q ∙ here_is ∙ ap (λ (b : Bool). pick b (Some (one_shared P Q)) None) e in
              let v : one_shared P Q ≡ y = cc in subst Turned v (turned_by e)
          go false e =
              let w : Some y ≡ None = q ∙ here_is ∙ ap (λ (b : Bool). pick b (Some (one_shared P Q)) None) e in cc
