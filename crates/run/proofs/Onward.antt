-- What a loop knows that hands the rest of its list on to another, and goes on behind what that one passed: over any head that keeps the
-- record of promises.
-- Assumes nothing.
use Prim.Native.Nat.{ℕ, ◌+◌, ◌-◌, ◌≤◌}
use mathlib.Core.Path.{◌≡◌, sym, ap, ap₂, ◌∙◌, subst}
use mathlib.Core.List.{List, ◌++◌}
use native.Mathlib.Nat.{zero-add, mul-add}
use native.Mathlib.Omega.{arith}
use lib.ListN.{length, take, drop, length-append, length-drop, take-append-drop}
use lib.Seq.{take-append-add, length-take-le, take_all}
use borrow.Rule.Slice.PartMut.{put_mid}
use Rattle.run.specs.Head.{Head, Outcome, accepted, refusal, join, outcome}
use Rattle.run.specs.Grammar.{Reads}
use Rattle.run.specs.Answers.{given, RoomFor}
use Rattle.run.specs.Put.{Put}
use Rattle.run.specs.Loops.{Bounded, Passed, Counted, Filled}
use Rattle.run.proofs.Outcomes.{joined_accepted}
use Rattle.run.proofs.Answers.{given_length}
use Rattle.run.proofs.Puts.{put_length, put_over, put_given, behind, behind_length, behind_put}
use Rattle.run.proofs.Loops.{sofar, fill_small}

-- the rest of a list, as it is handed on
abbrev pub rest : {X : Type 0} → List X → ℕ → List X
rest s at = take (length s - at) (drop at s)

pub rest_is : {X : Type 0} (s : List X) (at : ℕ) → rest s at ≡ drop at s
rest_is s at = take_all (length s - at) (drop at s) (omega (arith, length-drop at s))

module _ {X A : Type 0} {head : List X → Head A} {S : List X → A → Type 0} (laws : Reads head S) {gives : A → List ℕ} {most : ℕ}
    (bounded : Bounded S gives most) (s : List X) where
  -- the elements of both, one behind the other
  passed_on : {at k : ℕ} {es fs : List A} → Passed head gives most s at es → Passed head gives most (drop at s) k fs
      → Passed head gives most s (at + k) (es ++ fs)
  passed_on {at} {k} {es} {fs} was on =
      let n = length-take-le at s was.inside in
      let upto : take (at + k) s ≡ take at s ++ take k (drop at s) =
      ap₂ (λ (i : ℕ) (u : List X). take (i + k) u) (sym n) (sym (take-append-drop at s)) ∙ take-append-add (take at s) (drop at s) k in
      record {
        inside = omega (arith, was.inside, on.inside, length-drop at s);
        few =
            record {
              few = omega (arith, was.few.few, on.few.few, length-append es fs);
              short = omega (arith, was.few.short, on.few.short, given_length gives es fs, mul-add most at k);
            };
        front = ap (outcome head) upto ∙ joined_accepted laws (take at s) (take k (drop at s)) es fs was.front on.front;
      }

  -- measuring
  pub counted_on : {at n count k m more : ℕ} → Counted head gives most s at n count → Counted head gives most (rest s at) k m more
      → Counted head gives most s (at + k) (n + m) (count + more)
  counted_on {at} {k = k} was on =
      let passed = subst (λ (t : List X). Passed head gives most t k on.es) (rest_is s at) on.passed in
      record {
        es = was.es ++ on.es;
        passed = passed_on was.passed passed;
        number = omega (arith, was.number, on.number, length-append was.es on.es);
        counted = omega (arith, was.counted, on.counted, given_length gives was.es on.es);
      }

  -- filling
  rest_room : (at o r q : ℕ) (es : List A) (x : Outcome A) → RoomFor gives r (join es at x) → o ≡ length (given gives es) → q ≡ r - o
      → RoomFor gives q x
  rest_room at o r q es (accepted fs) room e z = omega (arith, room, given_length gives es fs)
  rest_room at o r q es (refusal a b c d) room e z = room

  module _ (l₀ : List ℕ) (room : RoomFor gives (length l₀) (outcome head s)) {at o : ℕ} {l : List ℕ}
      (was : Filled head gives most s l₀ at o l) where
    -- what is left of the list has room in what is left of the buffer
    pub room_on : RoomFor gives (length (behind l o)) (outcome head (rest s at))
    room_on =
        let n = put_length was.put in
        subst (λ (t : List X). RoomFor gives (length (behind l o)) (outcome head t)) (sym (rest_is s at))
        (rest_room at o (length l₀) (length (behind l o)) was.es (outcome head (drop at s))
        (subst (RoomFor gives (length l₀)) (sofar laws bounded s was.passed) room)
        (was.put.place ∙ zero-add (length (given gives was.es))) (behind_length l o ∙ ap (λ (k : ℕ). k - o) n))

    pub filled_on : {k more : ℕ} {m : List ℕ} → Filled head gives most (rest s at) (behind l o) k more m
        → Filled head gives most s l₀ (at + k) (o + more) (put_mid o (length l - o) l m)
    filled_on {k} {more} {m} on =
        let passed = subst (λ (t : List X). Passed head gives most t k on.es) (rest_is s at) on.passed in
        let fits : length (given gives on.es) ≤ length (behind l o) =
        omega (arith, fill_small laws bounded (rest s at) (behind l o) room_on on, on.put.place) in
        let small = fill_small laws bounded s l₀ room was in
        let n = put_length was.put in
        let there = behind_put l o m (given gives on.es) (omega (arith, behind_length l o)) (put_over on.put fits) in
        record {
          es = was.es ++ on.es;
          passed = passed_on was.passed passed;
          put =
              put_given gives was.es on.es was.put
              (subst (λ (j : ℕ). Put l o (given gives on.es) (put_mid o (length l - o) l m) (o + j))
              (sym (on.put.place ∙ zero-add (length (given gives on.es)))) there);
        }
