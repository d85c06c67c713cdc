-- The elements before the end of a list or its first fault: exactly those of the run that stands there, each where its piece begins.
-- Assumes nothing.
use Prim.Native.Nat.{ℕ, zero, suc, ◌+◌, ◌-◌, ◌≤◌}
use mathlib.Core.Path.{◌≡◌, refl, sym, ap, ap₂, ◌∙◌, subst}
use mathlib.Core.List.Memᴰ
use mathlib.Core.List.{List, [], ◌∷◌, ◌++◌, map, append_assoc, append-nil, Memᴰ}
use mathlib.Core.Logic.{⊎_elim}
use native.Mathlib.Nat.{add-zero, zero-add, add-suc, add_assoc}
use native.Mathlib.Omega.{arith}
use lib.ListN.{length, take, drop, length-append}
use lib.Seq.{take-append_seam, drop-append_seam, take_all}
use Rattle.run.specs.Loops.{Bounded, Passed, Counted, Taken}
use Rattle.run.specs.Head.{Head, element, refused, none, Outcome, accepted, refusal, outcome}
use Rattle.run.specs.Grammar.{Run, done, more, Reads, Stopped}
use Rattle.run.specs.Answers.{given, roomy_answer}
use Rattle.run.specs.Put.{Put}
use Rattle.run.specs.Before.{Standing, moved_up, whats, standing, Piece, then_before, before_from, before, Front}
use Rattle.run.proofs.Outcomes.{accepts, refuses, placed}
use Rattle.run.proofs.Loops.{finish, halt}
use Rattle.run.proofs.Puts.{put_as}

-- ---- where the pieces of a run begin

pub standing_whats : {X A : Type 0} {S : List X → A → Type 0} {s : List X} {ps : List (List X)} {es : List A} (at : ℕ) → Run S s ps es
    → whats (standing at ps es) ≡ es
unfolding standing
standing_whats at done = refl
standing_whats at (more {p} {e = e} {es = es} sp r) = ap (λ (l : List _). e ∷ l) (standing_whats (at + length p) r)

pub standing_moved : {X A : Type 0} (k at : ℕ) (ps : List (List X)) (es : List A)
    → map (moved_up k) (standing at ps es) ≡ standing (k + at) ps es
unfolding standing
standing_moved k at [] es = refl
standing_moved k at (p ∷ ps) [] = refl
standing_moved {A = A} k at (p ∷ ps) (e ∷ es) =
    ap (λ (l : List (Standing A)). record { what = e; place = k + at; size = length p } ∷ l)
    (standing_moved k (at + length p) ps es ∙ ap (λ (i : ℕ). standing i ps es) (sym (add_assoc k at (length p))))

piece_first : {X A : Type 0} {S : List X → A → Type 0} (b p t : List X) (e : A) → S p e
    → Piece S (b ++ (p ++ t)) (record { what = e; place = length b; size = length p })
piece_first {S = S} b p t e sp =
    record { spells = subst (λ (q : List _). S q e) (sym (ap (take (length p)) (drop-append_seam b (p ++ t)) ∙ take-append_seam p t)) sp }

pub standing_pieces : {X A : Type 0} {S : List X → A → Type 0} (b : List X) {s : List X} {ps : List (List X)} {es : List A} (t : List X)
    → Run S s ps es → (a : Standing A) → Memᴰ a (standing (length b) ps es) → Piece S (b ++ (s ++ t)) a
unfolding standing
standing_pieces b t done a m = absurd (Memᴰ.not-nil m)
standing_pieces {X = X} {S = S} b t (more {p} {s} {ps} {e} {es} sp r) a m =
    ⊎_elim
    (λ q. subst (Piece S (b ++ ((p ++ s) ++ t))) (sym q)
    (subst (λ (l : List X). Piece S (b ++ l) (record { what = e; place = length b; size = length p })) (sym (append_assoc p s t))
    (piece_first b p (s ++ t) e sp)))
    (λ n. subst (λ (l : List X). Piece S l a) (append_assoc b p (s ++ t) ∙ ap (λ (l : List X). b ++ l) (sym (append_assoc p s t)))
    (standing_pieces (b ++ p) t r a (subst (λ (i : ℕ). Memᴰ a (standing i ps es)) (sym (length-append b p)) n)))
    (Memᴰ.cases_cons m)

-- ---- what stands before is what is passed

from_drop : {X A : Type 0} (head : List X → Head A) (s : List X) (at k : ℕ) → before_from head s at k ≡ before_from head (drop k s) (at + k) 0
unfolding before_from
from_drop head [] at zero = refl
from_drop head [] at (suc k) = refl
from_drop head (b ∷ s) at zero = ap (λ (i : ℕ). before_from head (b ∷ s) i 0) (sym (add-zero at))
from_drop head (b ∷ s) at (suc k) =
    from_drop head s (suc at) k ∙ ap (λ (i : ℕ). before_from head (drop k s) i 0) (let n : suc at + k ≡ at + suc k = omega arith in n)

then_moved : {A : Type 0} (h : Head A) (k at : ℕ) (rest rest' : ℕ → List (Standing A)) → ((j : ℕ) → rest' j ≡ map (moved_up k) (rest j))
    → then_before h (k + at) rest' ≡ map (moved_up k) (then_before h at rest)
then_moved {A} (element e n) k at rest rest' ih =
    ap (λ (l : List (Standing A)). record { what = e; place = k + at; size = n } ∷ l) (ih (n - 1))
then_moved (refused r d) k at rest rest' ih = refl
then_moved none k at rest rest' ih = refl

-- from a place further on, the same elements stand so much further on
from_moved : {X A : Type 0} (head : List X → Head A) (s : List X) (k at j : ℕ)
    → before_from head s (k + at) j ≡ map (moved_up k) (before_from head s at j)
unfolding before_from
from_moved head [] k at j = refl
from_moved head (b ∷ s) k at zero =
    then_moved (head (b ∷ s)) k at (before_from head s (suc at)) (before_from head s (suc (k + at)))
    (λ j. ap (λ (i : ℕ). before_from head s i j) (sym (add-suc k at)) ∙ from_moved head s k (suc at) j)
from_moved head (b ∷ s) k at (suc j) =
    ap (λ (i : ℕ). before_from head s i j) (sym (add-suc k at)) ∙ from_moved head s k (suc at) j

before_moved : {X A : Type 0} (head : List X → Head A) (t : List X) (k : ℕ) → before_from head t k 0 ≡ map (moved_up k) (before head t)
before_moved head t k = ap (λ (i : ℕ). before_from head t i 0) (sym (add-zero k)) ∙ from_moved head t k 0 0

-- what an accepted list's elements are
same_elements : {A : Type 0} {es fs : List A} → ◌≡◌ {A = Outcome A} (accepted es) (accepted fs) → es ≡ fs
same_elements q = cc

module _ {X A : Type 0} {head : List X → Head A} {S : List X → A → Type 0} (laws : Reads head S) where
  before_stop : (s : List X) (at r d : ℕ) → head s ≡ refused r d → before_from head s at 0 ≡ []
  unfolding before_from
  before_stop [] at r d h = refl
  before_stop (b ∷ s) at r d h = simp h

  before_step : (s : List X) (at : ℕ) (e : A) (k : ℕ) → head s ≡ element e (suc k)
      → before_from head s at 0 ≡ record { what = e; place = at; size = suc k } ∷ before_from head (drop (suc k) s) (at + suc k) 0
  unfolding before_from
  before_step [] at e k h = let z : ◌≡◌ {A = ℕ} 0 1 = cc laws.ends in absurd (omega arith)
  before_step (b ∷ s) at e k h =
      let gone : suc k - 1 ≡ k = omega arith in
      let n : suc at + k ≡ at + suc k = omega arith in
      simp h
      (ap (λ (l : List (Standing A)). record { what = e; place = at; size = suc k } ∷ l)
      (ap (before_from head s (suc at)) gone ∙ from_drop head s (suc at) k ∙ ap (λ (i : ℕ). before_from head (drop k s) i 0) n))

  before_more : (p t : List X) (at : ℕ) (e : A) → S p e
      → before_from head (p ++ t) at 0 ≡ record { what = e; place = at; size = length p } ∷ before_from head t (at + length p) 0
  before_more [] t at e sp = absurd (omega (arith, laws.some [] e sp))
  before_more (b ∷ p) t at e sp =
      before_step (b ∷ p ++ t) at e (length p) (laws.finds (b ∷ p) t e sp)
      ∙ ap (λ (l : List X). record { what = e; place = at; size = suc (length p) } ∷ before_from head l (at + suc (length p)) 0)
      (drop-append_seam p t)

  -- a run stands before what stands behind it
  pub before_run : {s : List X} {ps : List (List X)} {es : List A} → Run S s ps es → (t : List X) (at : ℕ)
      → before_from head (s ++ t) at 0 ≡ standing at ps es ++ before_from head t (at + length s) 0
  unfolding standing
  before_run done t at = ap (λ (i : ℕ). before_from head t i 0) (sym (add-zero at))
  before_run (more {p} {s} {ps} {e} {es} sp r) t at =
      ap (λ (l : List X). before_from head l at 0) (append_assoc p s t)
      ∙ before_more p (s ++ t) at e sp
      ∙ ap (λ (l : List (Standing A)). record { what = e; place = at; size = length p } ∷ l)
      (before_run r t (at + length p)
      ∙ ap (λ (i : ℕ). standing (at + length p) ps es ++ before_from head t i 0)
      (let n : at + length p + length s ≡ at + length (p ++ s) = omega (arith, length-append p s) in n))

  -- Of a run: exactly its elements, each where its piece begins.
  pub before_all : {s : List X} {ps : List (List X)} {es : List A} → Run S s ps es → before head s ≡ standing 0 ps es
  unfolding before_from
  before_all {s} {ps} {es} r =
      sym (ap (before head) (append-nil s)) ∙ before_run r [] 0 ∙ append-nil (standing 0 ps es)

  -- Of a refused list: exactly those of the run before the fault.
  pub before_fault : {s : List X} {r n p d : ℕ} (h : Stopped S (λ rest b. head rest ≡ refused r b) s n p d)
      → before head s ≡ standing 0 h.run.0 h.elements
  before_fault {s} {r} h =
      ap (before head) h.whole
      ∙ before_run h.run.1 h.rest 0
      ∙ ap (λ (l : List (Standing A)). standing 0 h.run.0 h.elements ++ l)
      (before_stop h.rest (0 + length h.front) r h.behind h.here)
      ∙ append-nil (standing 0 h.run.0 h.elements)

  -- The elements of an accepted list are those before its end.
  pub before_accepted : (s : List X) (es : List A) → outcome head s ≡ accepted es → whats (before head s) ≡ es
  before_accepted s es q = let r = (accepts laws s es).0 q in ap whats (before_all r.1) ∙ standing_whats 0 r.1

  -- Before a fault stand the elements of the accepted front, as many as the refusal says.
  pub before_refused : (s : List X) (r n p d : ℕ) → outcome head s ≡ refusal r n p d → Front head s n p
  before_refused s r n p d q =
      let h = (refuses laws s r n p d).0 q in
      let w : whats (before head s) ≡ h.elements = ap whats (before_fault h) ∙ standing_whats 0 h.run.1 in
      let f : take p s ≡ h.front = ap₂ take h.first_place h.whole ∙ take-append_seam h.front h.rest in
      record {
        accepts_front = ap (outcome head) f ∙ (accepts laws h.front h.elements).1 h.run ∙ ap accepted (sym w);
        as_many = h.element_number ∙ ap length (sym w);
      }

  -- Each stands where its piece begins.
  pub before_pieces : (s : List X) (a : Standing A) → Memᴰ a (before head s) → Piece S s a
  before_pieces s a m = go (outcome head s) refl
    where
      go : (x : Outcome A) → outcome head s ≡ x → Piece S s a
      go (accepted es) q =
          let r = (accepts laws s es).0 q in
          subst (λ (l : List X). Piece S l a) (append-nil s)
          (standing_pieces [] [] r.1 a (subst (Memᴰ a) (before_all r.1) m))
      go (refusal r n p d) q =
          let h = (refuses laws s r n p d).0 q in
          subst (λ (l : List X). Piece S l a) (sym h.whole)
          (standing_pieces [] h.rest h.run.1 a (subst (Memᴰ a) (before_fault h) m))

  -- After an accepted list the rest's elements follow, moved up.
  pub before_joined : (s t : List X) (es : List A) → outcome head s ≡ accepted es
      → before head (s ++ t) ≡ before head s ++ map (moved_up (length s)) (before head t)
  before_joined s t es q =
      let r = (accepts laws s es).0 q in
      before_run r.1 t 0
      ∙ ap₂ ◌++◌ (sym (before_all r.1)) (ap (λ (i : ℕ). before_from head t i 0) (zero-add (length s)) ∙ before_moved head t (length s))

  -- The entries that the elements before the end give are those that the list gives.
  pub given_before : (gives : A → List ℕ) (s : List X) (es : List A) → outcome head s ≡ accepted es
      → given gives (whats (before head s)) ≡ given gives es
  given_before gives s es q = ap (given gives) (before_accepted s es q)

  -- The elements that a loop has passed where it stops are those before the fault.
  pub passed_before : {gives : A → List ℕ} {most : ℕ} (bounded : Bounded S gives most) (s : List X) {at : ℕ} {es : List A} {r d : ℕ}
      → Passed head gives most s at es → head (drop at s) ≡ refused r d → whats (before head s) ≡ es
  passed_before bounded s {at} {es} {r} {d} was q =
      let f = before_refused s r (length es) at (at + d) (halt laws bounded s was q) in
      same_elements (sym f.accepts_front ∙ was.front)

  -- So what it has counted there, and at the end, is what the elements before give.
  pub counted_stop : {gives : A → List ℕ} {most : ℕ} (bounded : Bounded S gives most) (s : List X) {at n count r d : ℕ}
      → Counted head gives most s at n count → head (drop at s) ≡ refused r d → count ≡ length (given gives (whats (before head s)))
  counted_stop {gives} bounded s was q =
      was.counted ∙ ap (λ (es : List A). length (given gives es)) (sym (passed_before bounded s was.passed q))

  pub counted_end : {gives : A → List ℕ} {most : ℕ} (bounded : Bounded S gives most) (s : List X) {at n count : ℕ}
      → Counted head gives most s at n count → length s ≤ at → count ≡ length (given gives (whats (before head s)))
  counted_end {gives} bounded s was h =
      was.counted ∙ ap length (sym (given_before gives s was.es (finish laws bounded s was.passed h)))

  -- And what it has put, if it puts on the way, is what they give.
  pub taken_stop : {gives : A → List ℕ} {most : ℕ} (bounded : Bounded S gives most) (s : List X) {at n o r d : ℕ} {l₀ l : List ℕ}
      → Taken head gives most s l₀ at n o l → head (drop at s) ≡ refused r d → Put l₀ 0 (given gives (whats (before head s))) l o
  taken_stop {gives} bounded s was q = put_as (ap (given gives) (sym (passed_before bounded s was.counted.passed q))) was.put

  pub taken_end : {gives : A → List ℕ} {most : ℕ} (bounded : Bounded S gives most) (s : List X) {at n o : ℕ} {l₀ l : List ℕ}
      → Taken head gives most s l₀ at n o l → length s ≤ at → Put l₀ 0 (given gives (whats (before head s))) l o
  taken_end {gives} bounded s was h =
      put_as (sym (given_before gives s was.counted.es (finish laws bounded s was.counted.passed h))) was.put

  -- How far a list is read: up to its end, or up to the first fault. What stands before is accepted, with the elements before.
  pub front_accepted : (gives : A → List ℕ) (s : List X) →
      let p = (roomy_answer gives (length s) (outcome head s)).place in
      (p ≤ length s) × (outcome head (take p s) ≡ accepted (whats (before head s)))
  front_accepted gives s = go (outcome head s) refl
    where
      go : (x : Outcome A) → outcome head s ≡ x →
          let p = (roomy_answer gives (length s) x).place in
          (p ≤ length s) × (outcome head (take p s) ≡ accepted (whats (before head s)))
      go (accepted es) q = (
        omega arith,
        ap (outcome head) (take_all (length s) s (omega arith)) ∙ q ∙ ap accepted (sym (before_accepted s es q)),
      )
      go (refusal r n p d) q = ((placed laws s r n p d q).place, (before_refused s r n p d q).accepts_front)
