-- A head whose elements carry tags: it keeps the record of promises if the head does, and without the tags what it says, and its outcome,
-- are the head's.
-- Assumes nothing.
use Prim.Native.Nat.{ℕ, zero, suc, ◌-◌}
use mathlib.Core.Path.{◌≡◌, refl, sym, ap, ap₂, ◌∙◌}
use mathlib.Core.List.{List, [], ◌∷◌, ◌++◌, map}
use native.Mathlib.Omega.{arith}
use lib.ListN.{length, take}
use lib.Seq.{take-append_seam}
use Rattle.run.specs.Head.{Head, element, refused, none, Outcome, accepted, refusal, join, after, from, outcome}
use Rattle.run.specs.Grammar.{Run, done, more, Begins, Reads}
use Rattle.run.specs.Tagged.{Tagged, tag_head, tagged, untagged, untag}
use Rattle.run.proofs.Outcomes.{front_taken}

-- ---- without the tags

untag_join : {A B : Type 0} (x : A × B) (k : ℕ) (y : Outcome (A × B)) → untag (join (x ∷ []) k y) ≡ join (x.0 ∷ []) k (untag y)
untag_join x k (accepted es) = refl
untag_join x k (refusal r n p d) = refl

module _ {X A B : Type 0} (tag : List X → A → B) (head : List X → Head A) where
  untag_after : (s : List X) (h : Head A) (rest : ℕ → Outcome (A × B)) (rest' : ℕ → Outcome A) → ((k : ℕ) → untag (rest k) ≡ rest' k)
      → untag (after (tag_head tag s h) rest) ≡ after h rest'
  untag_after s (element e k) rest rest' ih = untag_join (e, tag (take k s) e) k (rest (k - 1)) ∙ ap (join (e ∷ []) k) (ih (k - 1))
  untag_after s (refused r d) rest rest' ih = refl
  untag_after s none rest rest' ih = refl

  untag_from : (s : List X) (k : ℕ) → untag (from (tagged tag head) s k) ≡ from head s k
  unfolding from
  untag_from [] k = refl
  untag_from (b ∷ s) zero = untag_after (b ∷ s) (head (b ∷ s)) (from (tagged tag head) s) (from head s) (untag_from s)
  untag_from (b ∷ s) (suc k) = untag_from s k

  -- The outcome of a tagged head, without the tags, is the head's.
  pub untag_outcome : (s : List X) → untag (outcome (tagged tag head) s) ≡ outcome head s
  unfolding outcome
  untag_outcome s = untag_from s 0

-- ---- the tag forgotten: what a tagged head finds, what it refuses, and that none is left, is as the head says

module _ {X A B : Type 0} (tag : List X → A → B) (s : List X) where
  -- and the tag is what is made of the entries found
  pub element_of : (h : Head A) (x : A × B) (k : ℕ) → tag_head tag s h ≡ element x k
      → (h ≡ element x.0 k) × (x.1 ≡ tag (take k s) x.0)
  element_of (element e n) x k z =
      let ex : ◌≡◌ {A = A × B} (e, tag (take n s) e) x = cc in
      let en : n ≡ k = cc in
      let e0 : e ≡ x.0 = ap (λ (y : A × B). y.0) ex in
      (ap₂ element e0 en, sym (ap (λ (y : A × B). y.1) ex) ∙ ap₂ (λ (i : ℕ) (y : A). tag (take i s) y) en e0)
  element_of (refused r d) x k z = let w : ◌≡◌ {A = ℕ} 0 1 = cc in absurd (omega arith)
  element_of none x k z = let w : ◌≡◌ {A = ℕ} 0 1 = cc in absurd (omega arith)

  pub refused_of : (h : Head A) (r d : ℕ) → tag_head tag s h ≡ refused r d → h ≡ refused r d
  refused_of (element e n) r d z = let w : ◌≡◌ {A = ℕ} 0 1 = cc in absurd (omega arith)
  refused_of (refused r' d') r d z = cc
  refused_of none r d z = let w : ◌≡◌ {A = ℕ} 0 1 = cc in absurd (omega arith)

  pub none_of : (h : Head A) → tag_head tag s h ≡ none → h ≡ none
  none_of (element e n) z = let w : ◌≡◌ {A = ℕ} 0 1 = cc in absurd (omega arith)
  none_of (refused r d) z = let w : ◌≡◌ {A = ℕ} 0 1 = cc in absurd (omega arith)
  none_of none z = refl

-- ---- runs

module _ {X A B : Type 0} (tag : List X → A → B) {S : List X → A → Type 0} where
  -- a run with the tags is a run without them,
  pub run_untagged : {s : List X} {ps : List (List X)} {xs : List (A × B)} → Run (Tagged tag S) s ps xs → Run S s ps (map untagged xs)
  run_untagged done = done
  run_untagged (more sp r) = more sp.0 (run_untagged r)

  -- and each run is one with them
  pub run_tagged : {s : List X} {ps : List (List X)} {es : List A} → Run S s ps es
      → (xs : List (A × B)) × Run (Tagged tag S) s ps xs × (map untagged xs ≡ es)
  run_tagged done = ([], done, refl)
  run_tagged (more {p} {e = e} sp r) =
      let i = run_tagged r in
      ((e, tag p e) ∷ i.0, more (sp, refl) i.1, ap (λ (l : List A). e ∷ l) i.2)

-- ---- the promises

module _ {X A B : Type 0} (tag : List X → A → B) {head : List X → Head A} {S : List X → A → Type 0} (laws : Reads head S) where
  tagged_finds : (p t : List X) (x : A × B) → Tagged tag S p x → tagged tag head (p ++ t) ≡ element x (length p)
  tagged_finds p t x h =
      ap (tag_head tag (p ++ t)) (laws.finds p t x.0 h.0)
      ∙ ap (λ (b : B). element (x.0, b) (length p)) (ap (λ (q : List X). tag q x.0) (take-append_seam p t) ∙ sym h.1)

  tagged_found : (s : List X) (x : A × B) (k : ℕ) → tagged tag head s ≡ element x k → Begins (Tagged tag S) s x k
  tagged_found s x k z =
      let h = element_of tag s (head s) x k z in
      let b = laws.found s x.0 k h.0 in
      record {
        front = b.front;
        rest = b.rest;
        whole = b.whole;
        spells = (b.spells, h.1 ∙ ap (λ (p : List X). tag p x.0) (front_taken b));
        size = b.size;
      }

  -- A head that keeps the record of promises keeps it with tags.
  pub tagged_reads : Reads (tagged tag head) (Tagged tag S)
  tagged_reads =
      record {
        finds = tagged_finds;
        found = tagged_found;
        some = λ p x h. laws.some p x.0 h.0;
        ends = ap (tag_head tag []) laws.ends;
        goes = λ s z. laws.goes s (none_of tag s (head s) z);
        numbered = λ s r d z. laws.numbered s r d (refused_of tag s (head s) r d z);
        inside = λ s r d z. laws.inside s r d (refused_of tag s (head s) r d z);
      }
