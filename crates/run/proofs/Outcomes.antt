-- The laws of a whole list's outcome, over any head that finds exactly the spellings of a grammar: once, for reading and for writing.
-- Assumes nothing.
use mathlib.Core.Logic.{◌↔◌}
use mathlib.Core.Path.{◌≡◌, refl, sym, ◌∙◌, ap, ap₂, subst}
use mathlib.Core.List.{List, [], ◌∷◌, ◌++◌, append_assoc, append-nil}
use Prim.Native.Nat.{ℕ, zero, suc, ◌+◌, ◌-◌}
use native.Mathlib.Nat.{add_assoc, zero-add, add-zero}
use native.Mathlib.Omega.{arith}
use lib.ListN.{length, take, drop, length-append}
use lib.Seq.{take-append_seam, drop-append_seam}
use Rattle.run.specs.Head.{Head, element, refused, none, Outcome, accepted, refusal, join, from, outcome}
use Rattle.run.specs.Grammar.{Run, done, more, RunOf, Begins, Reads, Stopped, Placed}

-- joinings compose
pub join_join : {A : Type 0} (es fs : List A) (k l : ℕ) (x : Outcome A) → join es k (join fs l x) ≡ join (es ++ fs) (k + l) x
join_join es fs k l (accepted gs) = simp append_assoc
join_join es fs k l (refusal r n p d) = simp (length-append, add_assoc)

pub join_none : {A : Type 0} (x : Outcome A) → join [] 0 x ≡ x
join_none (accepted gs) = refl
join_none (refusal r n p d) = simp zero-add

from_drop : {X A : Type 0} (head : List X → Head A) (s : List X) (k : ℕ) → from head s k ≡ from head (drop k s) 0
unfolding from
from_drop head [] zero = refl
from_drop head [] (suc k) = refl
from_drop head (b ∷ s) zero = refl
from_drop head (b ∷ s) (suc k) = from_drop head s k

-- what a list begins with is so many of its first entries, and the rest is what is left behind them
module _ {X A : Type 0} {S : List X → A → Type 0} {s : List X} {e : A} {k : ℕ} (b : Begins S s e k) where
  pub front_taken : take k s ≡ b.front
  front_taken = ap₂ take b.size b.whole ∙ take-append_seam b.front b.rest

  pub rest_dropped : drop k s ≡ b.rest
  rest_dropped = ap₂ drop b.size b.whole ∙ drop-append_seam b.front b.rest

-- a run has as many pieces as elements
pub run_length : {X A : Type 0} {S : List X → A → Type 0} {s : List X} {ps : List (List X)} {es : List A} → Run S s ps es
    → length ps ≡ length es
run_length done = refl
run_length (more sp r) = ap suc (run_length r)

-- its pieces are the list
pub same_pieces : {X A B : Type 0} {S : List X → A → Type 0} {T : List X → B → Type 0} {s t : List X} {ps qs : List (List X)} {es : List A}
    {fs : List B} → Run S s ps es → Run T t qs fs → ps ≡ qs → s ≡ t
same_pieces done done e = refl
same_pieces done (more sq q) e = let z : ◌≡◌ {A = ℕ} 0 1 = cc in absurd (omega arith)
same_pieces (more sp r) done e = let z : ◌≡◌ {A = ℕ} 0 1 = cc in absurd (omega arith)
same_pieces (more {p} {ps = ps} sp r) (more {p = q} {ps = qs} sq r') e =
    let h : p ≡ q = cc in
    let t : ps ≡ qs = cc in
    ap₂ ◌++◌ h (same_pieces r r' t)

-- two runs joined are a run of both lists of elements
pub run_append : {X A : Type 0} {S : List X → A → Type 0} {s t : List X} {ps qs : List (List X)} {es fs : List A} → Run S s ps es
    → Run S t qs fs → RunOf S (s ++ t) (es ++ fs)
run_append {qs = qs} done q = (qs, q)
run_append {X = X} {S = S} {t = t} {fs = fs} (more {p} {s} {ps} {e} {es} sp r) q =
    let i = run_append r q in subst (λ (l : List X). RunOf S l (e ∷ es ++ fs)) (sym (append_assoc p s t)) (p ∷ i.0, more sp i.1)

-- a run of two lists of elements joined is one of the first, and behind it one of the second
pub record Cut {X A : Type 0} (S : List X → A → Type 0) (s : List X) (es fs : List A) : Type 0 where
  pub front : List X
  pub rest : List X
  pub whole : s ≡ front ++ rest
  pub run : RunOf S front es
  pub run_rest : RunOf S rest fs

pub run_cut : {X A : Type 0} {S : List X → A → Type 0} {s : List X} {ps : List (List X)} (es fs : List A) → Run S s ps (es ++ fs)
    → Cut S s es fs
run_cut {s = s} {ps = ps} [] fs r = record { front = []; rest = s; whole = refl; run = ([], done); run_rest = (ps, r) }
run_cut {X = X} {S = S} (e ∷ es) fs (more {p} {s} sp r) =
    let i = run_cut es fs r in
    record {
      front = p ++ i.front;
      rest = i.rest;
      whole = ap (λ (u : List X). p ++ u) i.whole ∙ sym (append_assoc p i.front i.rest);
      run = (p ∷ i.run.0, more sp i.run.1);
      run_rest = i.run_rest;
    }

-- a run by one grammar is a run by another that spells as much
pub run_by : {X A : Type 0} {S T : List X → A → Type 0} → ((p : List X) (e : A) → S p e → T p e)
    → {s : List X} {ps : List (List X)} {es : List A} → Run S s ps es → Run T s ps es
run_by spells done = done
run_by spells (more {p} {e = e} sp r) = more (spells p e sp) (run_by spells r)

-- the same stop, by another rule for what is left
pub stopped_by_lem : {X A : Type 0} {S : List X → A → Type 0} {H K : List X → ℕ → Type 0} {s : List X} {n p d : ℕ} (h : Stopped S H s n p d)
    → K h.rest h.behind → Stopped S K s n p d
stopped_by_lem h k =
    record {
      front = h.front;
      rest = h.rest;
      elements = h.elements;
      behind = h.behind;
      whole = h.whole;
      run = h.run;
      here = k;
      element_number = h.element_number;
      first_place = h.first_place;
      deciding = h.deciding;
    }

-- a stop behind a run: the elements joined, the numbers moved up
abbrev pub stopped_behind : {X A : Type 0} {S : List X → A → Type 0} {H : List X → ℕ → Type 0} {front s : List X} {es : List A} {n p d : ℕ}
    → RunOf S front es → Stopped S H s n p d → Stopped S H (front ++ s) (length es + n) (length front + p) (length front + d)
stopped_behind {X} {front = front} {es = es} r h =
    record {
      front = front ++ h.front;
      rest = h.rest;
      elements = es ++ h.elements;
      behind = h.behind;
      whole = ap (λ (u : List X). front ++ u) h.whole ∙ sym (append_assoc front h.front h.rest);
      run = run_append r.1 h.run.1;
      here = h.here;
      element_number = omega (arith, h.element_number, length-append es h.elements);
      first_place = omega (arith, h.first_place, length-append front h.front);
      deciding = omega (arith, h.deciding, length-append front h.front);
    }

module _ {X A : Type 0} {head : List X → Head A} {S : List X → A → Type 0} (laws : Reads head S) where
  pub outcome_none : outcome head [] ≡ accepted []
  unfolding outcome from
  outcome_none = refl

  pub outcome_stop : (s : List X) (r d : ℕ) → head s ≡ refused r d → outcome head s ≡ refusal r 0 0 d
  unfolding outcome from
  outcome_stop [] r d h = let z : ◌≡◌ {A = ℕ} 0 1 = cc laws.ends in absurd (omega arith)
  outcome_stop (b ∷ s) r d h = simp h

  step : (s : List X) (e : A) (k : ℕ) → head s ≡ element e (suc k) → outcome head s ≡ join (e ∷ []) (suc k) (outcome head (drop (suc k) s))
  unfolding outcome from
  step [] e k h = let z : ◌≡◌ {A = ℕ} 0 1 = cc laws.ends in absurd (omega arith)
  step (b ∷ s) e k h =
      let gone : suc k - 1 ≡ k = omega arith in
      simp h (ap (join (e ∷ []) (suc k)) (ap (from head s) gone ∙ from_drop head s k))

  pub outcome_more : (p t : List X) (e : A) → S p e → outcome head (p ++ t) ≡ join (e ∷ []) (length p) (outcome head t)
  outcome_more [] t e sp = absurd (omega (arith, laws.some [] e sp))
  outcome_more (b ∷ p) t e sp =
      step (b ∷ p ++ t) e (length p) (laws.finds (b ∷ p) t e sp)
      ∙ ap (λ (l : List X). join (e ∷ []) (suc (length p)) (outcome head l)) (drop-append_seam p t)

  -- after a run, the rest is accepted or refused as by itself, moved up
  pub run_join : {s : List X} {ps : List (List X)} {es : List A} → Run S s ps es → (t : List X)
      → outcome head (s ++ t) ≡ join es (length s) (outcome head t)
  run_join done t = sym (join_none (outcome head t))
  run_join (more {p} {s} {ps} {e} {es} sp r) t =
      ap (outcome head) (append_assoc p s t)
      ∙ outcome_more p (s ++ t) e sp
      ∙ ap (join (e ∷ []) (length p)) (run_join r t)
      ∙ join_join (e ∷ []) es (length p) (length s) (outcome head t)
      ∙ simp (length-append p s)

  run_accepted : {s : List X} {ps : List (List X)} {es : List A} → Run S s ps es → outcome head s ≡ accepted es
  run_accepted {s} {ps} {es} r =
      sym (ap (outcome head) (append-nil s)) ∙ run_join r [] ∙ ap (join es (length s)) outcome_none ∙ simp append-nil

  -- how a list comes to its outcome, to go by induction over its elements
  data Reading : List X → Outcome A → Type 0 where
    at_none : Reading [] (accepted [])
    at_more : {p t : List X} {e : A} {x : Outcome A} → S p e → Reading t x → Reading (p ++ t) (join (e ∷ []) (length p) x)
    at_stop : {s : List X} {r d : ℕ} → head s ≡ refused r d → Reading s (refusal r 0 0 d)

  first : (b : X) (s p t : List X) (e : A) → ((k : ℕ) → Reading (drop k s) (outcome head (drop k s))) → b ∷ s ≡ p ++ t → S p e
      → Reading (b ∷ s) (outcome head (b ∷ s))
  first b s [] t e ih w sp = absurd (omega (arith, laws.some [] e sp))
  first b s (a ∷ p) t e ih w sp =
      let ws : s ≡ p ++ t = cc in
      let left : drop (length p) s ≡ t = rw ws (drop-append_seam p t) in
      rw (w, outcome_more (a ∷ p) t e sp) (at_more sp (rw left at (ih (length p))))

  next : (b : X) (s : List X) → ((k : ℕ) → Reading (drop k s) (outcome head (drop k s))) → (h : Head A) → head (b ∷ s) ≡ h
      → Reading (b ∷ s) (outcome head (b ∷ s))
  next b s ih (element e k) q = let f = laws.found (b ∷ s) e k q in first b s f.front f.rest e ih f.whole f.spells
  next b s ih (refused r d) q = rw (outcome_stop (b ∷ s) r d q) (at_stop q)
  next b s ih none q = absurd (omega (arith, ap length (laws.goes (b ∷ s) q)))

  from_there : (s : List X) (k : ℕ) → Reading (drop k s) (outcome head (drop k s))
  from_there [] zero = rw outcome_none at_none
  from_there [] (suc k) = rw outcome_none at_none
  from_there (b ∷ s) zero = next b s (from_there s) (head (b ∷ s)) refl
  from_there (b ∷ s) (suc k) = from_there s k

  reading : (s : List X) → Reading s (outcome head s)
  reading s = from_there s 0

  reading_run : {s : List X} {x : Outcome A} → Reading s x → (es : List A) → x ≡ accepted es → RunOf S s es
  reading_run at_none es q = let e : es ≡ [] = cc in rw e ([], done)
  reading_run (at_more {p} {e} {x = accepted fs} sp r) es q =
      let q' : es ≡ e ∷ fs = cc in
      let i = reading_run r fs refl in
      rw q' (p ∷ i.0, more sp i.1)
  reading_run (at_more {x = refusal a b c d} sp r) es q = let z : ◌≡◌ {A = ℕ} 0 1 = cc in absurd (omega arith)
  reading_run (at_stop h) es q = let z : ◌≡◌ {A = ℕ} 0 1 = cc in absurd (omega arith)

  -- A list is accepted exactly when it is a run of elements, with exactly these elements in order.
  pub accepts : (s : List X) (es : List A) → (outcome head s ≡ accepted es) ↔ RunOf S s es
  accepts s es = (reading_run (reading s) es, λ r. run_accepted r.1)

  empty_run : {t : List X} {qs : List (List X)} {fs : List A} → Run S t qs fs → [] ≡ t → ([] ≡ qs) × ([] ≡ fs)
  empty_run done w = (refl, refl)
  empty_run (more {p} {s} {e} sp r) w =
      absurd (omega (arith, laws.some p e sp, ap length w, length-append p s))

  same_run : {s t : List X} {ps qs : List (List X)} {es fs : List A} → Run S s ps es → Run S t qs fs → s ≡ t → (ps ≡ qs) × (es ≡ fs)
  same_run done r w = empty_run r w
  same_run (more sp r) done w =
      let z = empty_run (more sp r) (sym w) in
      (sym z.0, sym z.1)
  same_run (more {p} {s} {e} sp r) (more {p = q} {s = t} {e = f} sq r') w =
      let hp : head (p ++ s) ≡ element e (length p) = laws.finds p s e sp in
      let hq : head (q ++ t) ≡ element f (length q) = laws.finds q t f sq in
      let ef : e ≡ f = cc in
      let l : length p ≡ length q = cc in
      let pq : p ≡ q = sym (take-append_seam p s) ∙ ap₂ take l w ∙ take-append_seam q t in
      let st : s ≡ t = sym (drop-append_seam p s) ∙ ap₂ drop l w ∙ drop-append_seam q t in
      let i = same_run r r' st in
      (ap₂ ◌∷◌ pq i.0, ap₂ ◌∷◌ ef i.1)

  -- A list is a run in one way at most: the same elements, of the same pieces.
  pub one_run : {s : List X} {ps qs : List (List X)} {es fs : List A} → Run S s ps es → Run S s qs fs → (ps ≡ qs) × (es ≡ fs)
  one_run r r' = same_run r r' refl

  -- After an accepted list the rest is accepted or refused as by itself: elements joined, or element number and places moved up.
  pub joined : (s t : List X) (es : List A) → outcome head s ≡ accepted es → outcome head (s ++ t) ≡ join es (length s) (outcome head t)
  joined s t es q = run_join ((accepts s es).0 q).1 t

  pub joined_accepted : (s t : List X) (es fs : List A) → outcome head s ≡ accepted es → outcome head t ≡ accepted fs
      → outcome head (s ++ t) ≡ accepted (es ++ fs)
  joined_accepted s t es fs p q = joined s t es p ∙ rw q

  pub joined_refused : (s t : List X) (es : List A) (r n p d : ℕ) → outcome head s ≡ accepted es → outcome head t ≡ refusal r n p d
      → outcome head (s ++ t) ≡ refusal r (length es + n) (length s + p) (length s + d)
  joined_refused s t es r n p d h q = joined s t es h ∙ rw q

  reading_stopped : {s : List X} {x : Outcome A} → Reading s x → (r n p d : ℕ) → x ≡ refusal r n p d
      → Stopped S (λ rest b. head rest ≡ refused r b) s n p d
  reading_stopped at_none r n p d q = let z : ◌≡◌ {A = ℕ} 0 1 = cc in absurd (omega arith)
  reading_stopped (at_more {x = accepted fs} sp x) r n p d q = let z : ◌≡◌ {A = ℕ} 0 1 = cc in absurd (omega arith)
  reading_stopped (at_more {p = f} {t} {e = a} {x = refusal r₀ n₀ p₀ d₀} sp x) r n p d q =
      let i = reading_stopped x r₀ n₀ p₀ d₀ refl in
      let qr : r₀ ≡ r = cc in
      let qn : n ≡ 1 + n₀ = cc in
      let qp : p ≡ length f + p₀ = cc in
      let qd : d ≡ length f + d₀ = cc in
      let l : length (f ++ i.front) ≡ length f + length i.front = length-append f i.front in
      record {
        front = f ++ i.front;
        rest = i.rest;
        elements = a ∷ i.elements;
        behind = i.behind;
        whole = ap (λ (u : List X). f ++ u) i.whole ∙ sym (append_assoc f i.front i.rest);
        run = (f ∷ i.run.0, more sp i.run.1);
        here = i.here ∙ ap (λ (u : ℕ). refused u i.behind) qr;
        element_number = omega (arith, i.element_number);
        first_place = omega (arith, i.first_place);
        deciding = omega (arith, i.deciding);
      }
  reading_stopped (at_stop {s} {r = r₀} {d = d₀} h) r n p d q =
      let qr : r₀ ≡ r = cc in
      let qd : d₀ ≡ d = cc in
      record {
        front = [];
        rest = s;
        elements = [];
        behind = d;
        whole = refl;
        run = ([], done);
        here = rw (qr, qd) at h;
        element_number = cc;
        first_place = cc;
        deciding = sym (zero-add d);
      }

  stopped_refused : {s : List X} {r n p d : ℕ} → Stopped S (λ rest b. head rest ≡ refused r b) s n p d → outcome head s ≡ refusal r n p d
  stopped_refused {s} {r} {n} {p} {d} h =
      ap (outcome head) h.whole
      ∙ run_join h.run.1 h.rest
      ∙ ap (join h.elements (length h.front)) (outcome_stop h.rest r h.behind h.here)
      ∙ simp (h.element_number, h.first_place, h.deciding, add-zero)

  -- A list is refused exactly when, behind a run of elements, what is left is refused at its head: what stands before the refusal is
  -- accepted, with exactly as many elements as it says.
  pub refuses : (s : List X) (r n p d : ℕ) → (outcome head s ≡ refusal r n p d) ↔ Stopped S (λ rest b. head rest ≡ refused r b) s n p d
  refuses s r n p d = (reading_stopped (reading s) r n p d, stopped_refused)

  -- The same by any rule that says exactly what the head refuses.
  pub refuses_by : (Here : ℕ → List X → ℕ → Type 0) → ((rest : List X) (r b : ℕ) → (head rest ≡ refused r b) ↔ Here r rest b)
      → (s : List X) (r n p d : ℕ) → (outcome head s ≡ refusal r n p d) ↔ Stopped S (Here r) s n p d
  refuses_by Here by s r n p d = (forth, back)
    where
      forth : outcome head s ≡ refusal r n p d → Stopped S (Here r) s n p d
      forth q = let h = (refuses s r n p d).0 q in stopped_by_lem h ((by h.rest r h.behind).0 h.here)

      back : Stopped S (Here r) s n p d → outcome head s ≡ refusal r n p d
      back h = (refuses s r n p d).1 (stopped_by_lem h ((by h.rest r h.behind).1 h.here))

  -- What stands before a refusal is accepted, with exactly as many elements as it says.
  pub before_refusal : (s : List X) (r n p d : ℕ) → outcome head s ≡ refusal r n p d
      → (front : List X) × (rest : List X) × (es : List A) × (s ≡ front ++ rest) × (outcome head front ≡ accepted es) × (length es ≡ n) ×
      (length front ≡ p)
  before_refusal s r n p d q =
      let h = (refuses s r n p d).0 q in
      (h.front, h.rest, h.elements, h.whole, run_accepted h.run.1, sym h.element_number, sym h.first_place)

  -- The places of a refusal are places of the list, or its end.
  pub placed : (s : List X) (r n p d : ℕ) → outcome head s ≡ refusal r n p d → Placed (length s) r p d
  placed s r n p d q =
      let h = (refuses s r n p d).0 q in
      let l : length s ≡ length h.front + length h.rest = ap length h.whole ∙ length-append h.front h.rest in
      record {
        number = laws.numbered h.rest r h.behind h.here;
        place = omega (arith, h.first_place);
        deciding = omega (arith, h.deciding, laws.inside h.rest r h.behind h.here);
      }
