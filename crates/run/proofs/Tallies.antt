-- How many pieces of a run do not spell their elements by another grammar, as a head's tags count them.
-- Assumes nothing.
use Prim.Native.Nat.{ℕ, suc, ◌+◌, ◌≤◌}
use mathlib.Core.Path.{◌≡◌, refl, sym, ap, ◌∙◌, subst}
use mathlib.Core.Logic.{◌↔◌}
use mathlib.Core.Bool.{Bool, true, false}
use mathlib.Core.List.{List, [], ◌∷◌, ◌++◌, map}
use native.Mathlib.Nat.{zero-add}
use native.Mathlib.Omega.{arith}
use lib.ListN.{length, length-append, length-map}
use Rattle.run.specs.Choice.{pick}
use Rattle.run.specs.Head.{Head, accepted, outcome}
use Rattle.run.specs.Grammar.{Run, done, more, RunOf, Reads}
use Rattle.run.specs.Answers.{given}
use Rattle.run.specs.Before.{Standing, moved_up, whats, before}
use Rattle.run.specs.Loops.{Bounded}
use Rattle.run.specs.Tagged.{Tagged, tagged, untagged}
use Rattle.run.specs.Tally.{Apart, none, spelt, apart, noted, tally, tally_of, Decides}
use Rattle.run.proofs.Outcomes.{accepts}
use Rattle.run.proofs.Answers.{given_length}
use Rattle.run.proofs.Before.{before_accepted, before_joined}
use Rattle.run.proofs.Tags.{run_tagged, tagged_reads}

-- ---- the entries that tags give

pub noted_size : {A : Type 0} (e : A) (b : Bool) → pick b 0 1 ≡ length (noted (e, b))
noted_size e true = refl
noted_size e false = refl

noted_one : {A : Type 0} (e : A) (b : Bool) → length (noted (e, b)) ≤ 1
noted_one e true = omega arith
noted_one e false = omega arith

-- a loop counts them as it counts words
pub noted_few : {X A : Type 0} (tag : List X → A → Bool) (S : List X → A → Type 0) → Bounded (Tagged tag S) noted 1
noted_few tag S = record { bound = λ p x h. noted_one x.0 x.1 }

-- no more than there are elements
pub tally_most : {A : Type 0} (xs : List (A × Bool)) → tally xs ≤ length xs
unfolding given
tally_most [] = omega arith
tally_most {A} (x ∷ xs) = omega (arith, noted_one x.0 x.1, tally_most xs, length-append (noted x) (given noted xs))

-- ---- two counts of the same pieces are one

pub apart_once : {X A : Type 0} {C : List X → A → Type 0} {ps : List (List X)} {es : List A} {k j : ℕ}
    → Apart C ps es k → Apart C ps es j → k ≡ j
apart_once none none = refl
apart_once (spelt c h) (spelt d g) = apart_once h g
apart_once (spelt c h) (apart n g) = absurd (n c)
apart_once (apart n h) (spelt c g) = absurd (n c)
apart_once (apart n h) (apart m g) = ap suc (apart_once h g)

module _ {X A : Type 0} (tag : List X → A → Bool) {head : List X → Head A} {S : List X → A → Type 0} (laws : Reads head S) where
  -- what a list comes to is what the tagged head makes of it, without the tags
  tagged_outcome : (s : List X) (es : List A) → outcome head s ≡ accepted es
      → (xs : List (A × Bool)) × (outcome (tagged tag head) s ≡ accepted xs) × (map untagged xs ≡ es)
  tagged_outcome s es q =
      let r = (accepts laws s es).0 q in
      let t = run_tagged tag r.1 in
      (t.0, (accepts (tagged_reads tag laws) s t.0).1 (r.0, t.1), t.2)

  tally_accepted : (s : List X) (xs : List (A × Bool)) → outcome (tagged tag head) s ≡ accepted xs → tally_of tag head s ≡ tally xs
  tally_accepted s xs q = ap tally (before_accepted (tagged_reads tag laws) s xs q)

  whats_moved : (k : ℕ) (as' : List (Standing (A × Bool))) → whats (map (moved_up k) as') ≡ whats as'
  whats_moved k [] = refl
  whats_moved k (a ∷ as') = ap (λ (l : List (A × Bool)). a.what ∷ l) (whats_moved k as')

  whats_joined : (as' bs : List (Standing (A × Bool))) → whats (as' ++ bs) ≡ whats as' ++ whats bs
  whats_joined [] bs = refl
  whats_joined (a ∷ as') bs = ap (λ (l : List (A × Bool)). a.what ∷ l) (whats_joined as' bs)

  -- It adds up: of a list behind an accepted one, whether that is accepted or not.
  pub tally_joined : (s t : List X) (es : List A) → outcome head s ≡ accepted es
      → tally_of tag head (s ++ t) ≡ tally_of tag head s + tally_of tag head t
  tally_joined s t es q =
      let x = tagged_outcome s es q in
      let b = before (tagged tag head) in
      ap (λ (l : List (Standing (A × Bool))). tally (whats l)) (before_joined (tagged_reads tag laws) s t x.0 x.1)
      ∙ ap tally (whats_joined (b s) (map (moved_up (length s)) (b t)))
      ∙ given_length noted (whats (b s)) (whats (map (moved_up (length s)) (b t)))
      ∙ ap (λ (l : List (A × Bool)). tally (whats (b s)) + tally l) (whats_moved (length s) (b t))

  -- It is at most the number of elements.
  pub tally_few : (s : List X) (es : List A) → outcome head s ≡ accepted es → tally_of tag head s ≤ length es
  tally_few s es q =
      let x = tagged_outcome s es q in
      omega (arith, tally_accepted s x.0 x.1, tally_most x.0, length-map x.0 untagged, ap length x.2)

  module _ {C : List X → A → Type 0} (decides : Decides tag S C) where
    -- a tag, whichever it is, counts its piece rightly
    by_tag : (p : List X) (e : A) (b : Bool) → S p e → b ≡ tag p e → {ps : List (List X)} {es : List A} {k : ℕ} → Apart C ps es k
        → Apart C (p ∷ ps) (e ∷ es) (length (noted (e, b)) + k)
    by_tag p e true sp q {ps} {es} {k} h = subst (Apart C (p ∷ ps) (e ∷ es)) (sym (zero-add k)) (spelt (decides.says p e sp (sym q)) h)
    by_tag p e false sp q {ps} {es} {k} h =
        subst (Apart C (p ∷ ps) (e ∷ es)) (let z : suc k ≡ 1 + k = omega arith in z)
        (apart (λ c. let z : true ≡ false = sym (decides.holds p e c) ∙ sym q in let w : ◌≡◌ {A = ℕ} 0 1 = cc in omega arith) h)

    tagged_apart : {s : List X} {ps : List (List X)} {xs : List (A × Bool)} → Run (Tagged tag S) s ps xs
        → Apart C ps (map untagged xs) (tally xs)
    unfolding given
    tagged_apart done = none
    tagged_apart (more {p} {s} {ps} {e = x} {es = xs} sp r) =
        let n = length-append (noted x) (given noted xs) in
        subst (Apart C (p ∷ ps) (map untagged (x ∷ xs))) (sym n) (by_tag p x.0 x.1 sp.0 sp.1 (tagged_apart r))

    -- of the pieces of the run that a list is
    run_apart : {s : List X} {ps : List (List X)} {es : List A} → Run S s ps es → Apart C ps es (tally_of tag head s)
    run_apart {s} {ps} {es} r =
        let t = run_tagged tag r in
        let q = (accepts (tagged_reads tag laws) s t.0).1 (ps, t.1) in
        subst (Apart C ps es) (sym (tally_accepted s t.0 q))
        (subst (λ (l : List A). Apart C ps l (tally t.0)) t.2 (tagged_apart t.1))

    -- It counts exactly the pieces of the run that a list is which do not spell their elements by C.
    pub apart_exactly : {s : List X} {ps : List (List X)} {es : List A} → Run S s ps es → (k : ℕ)
        → (tally_of tag head s ≡ k) ↔ Apart C ps es k
    apart_exactly {s} {ps} {es} r k = (λ q. subst (Apart C ps es) q (run_apart r), λ h. apart_once (run_apart r) h)

    -- where no piece is apart, all of them are C's; and back
    none_apart : {s : List X} {ps : List (List X)} {es : List A} {k : ℕ} → Run S s ps es → Apart C ps es k → k ≡ 0 → Run C s ps es
    none_apart done none q = done
    none_apart (more sp r) (spelt c h) q = more c (none_apart r h q)
    none_apart (more sp r) (apart n h) q = absurd (omega (arith, q))

    all_spelt : {s : List X} {ps : List (List X)} {es : List A} → Run C s ps es → Run S s ps es × Apart C ps es 0
    all_spelt done = (done, none)
    all_spelt (more {p} {e = e} c r) = let i = all_spelt r in (more (decides.among p e c) i.0, spelt c i.1)

    -- It is 0 exactly where the list is a run of its elements by C.
    pub tally_none : {s : List X} {es : List A} → RunOf S s es → (tally_of tag head s ≡ 0) ↔ RunOf C s es
    tally_none {s} {es} r = (
      λ q. (r.0, none_apart r.1 (run_apart r.1) q),
      λ c. let i = all_spelt c.1 in (apart_exactly i.0 0).1 i.1,
    )
