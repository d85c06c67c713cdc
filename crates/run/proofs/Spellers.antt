-- A head whose elements are spelt by a speller keeps the record of promises, if the head does: once for writing and converting. And the
-- promises move along an equivalence of grammars.
-- Assumes nothing.
use Prim.Native.Nat.{ℕ, ◌≤◌, ◌<◌}
use mathlib.Core.Path.{◌≡◌, refl, sym, ap, ap₂, ◌∙◌, subst}
use mathlib.Core.Logic.{◌↔◌}
use mathlib.Core.List.{List, [], ◌∷◌, ◌++◌}
use native.Mathlib.Omega.{arith}
use lib.ListN.{length}
use Rattle.run.specs.Loops.{Bounded}
use Rattle.run.specs.Head.{Head, element, refused, none, accepted, outcome}
use Rattle.run.specs.Grammar.{Begins, Reads, Run, done, more}
use Rattle.run.specs.Answers.{same}
use Rattle.run.proofs.Outcomes.{accepts}
use Rattle.run.specs.Speller.{SpeltBy, entries_or10, spelt_head, spelt_by, Why, by_head, not_spelt}

-- ---- grammars that say the same

pub begins_as : {X A : Type 0} {S T : List X → A → Type 0} {s : List X} {e : A} {k : ℕ} (b : Begins S s e k) → T b.front e
    → Begins T s e k
begins_as b t = record { front = b.front; rest = b.rest; whole = b.whole; spells = t; size = b.size }

-- The promises of a head over a grammar are its promises over each that says the same.
pub reads_as : {X A : Type 0} {head : List X → Head A} {S T : List X → A → Type 0} → Reads head S → ((p : List X) (e : A) → S p e ↔ T p e)
    → Reads head T
reads_as laws same-as =
    record {
      finds = λ p t e h. laws.finds p t e ((same-as p e).1 h);
      found = λ s e k q. (let b = laws.found s e k q in begins_as b ((same-as b.front e).0 b.spells));
      some = λ p e h. laws.some p e ((same-as p e).1 h);
      ends = laws.ends;
      goes = laws.goes;
      numbered = laws.numbered;
      inside = laws.inside;
    }

-- ---- what a speller gives of an element

pub entries_some : (s : List ℕ) (k : ℕ) → (s ≡ [] → ⊥) → entries_or10 s k ≡ element s k
entries_some [] k n = absurd (n refl)
entries_some (o ∷ s) k n = refl

no_length : {s : List ℕ} → (length s ≡ 0 → ⊥) → s ≡ [] → ⊥
no_length n e = n (ap length e)

entries_none : (s : List ℕ) (k : ℕ) → length s ≡ 0 → entries_or10 s k ≡ refused 10 0
entries_none [] k n = refl
entries_none (o ∷ s) k n = absurd (omega arith)

-- what the entries that stand at a head, and a refusal there, come from
record Entries (s t : List ℕ) (k n : ℕ) : Type 0 where
  pub gives : s ≡ t
  pub some : t ≡ [] → ⊥
  pub size : k ≡ n

entries_of : (s t : List ℕ) (k n : ℕ) → entries_or10 s k ≡ element t n → Entries s t k n
entries_of [] t k n h = let w : ◌≡◌ {A = ℕ} 0 1 = cc in absurd (omega arith)
entries_of (o ∷ s) t k n h =
    let z : o ∷ s ≡ t = cc in
    record { gives = z; some = λ y. omega (arith, ap length (z ∙ y)); size = cc }

entries_refused : (s : List ℕ) (k r d : ℕ) → entries_or10 s k ≡ refused r d → (10 ≡ r) × (0 ≡ d)
entries_refused [] k r d e = (cc, cc)
entries_refused (o ∷ s) k r d e = let w : ◌≡◌ {A = ℕ} 0 1 = cc in absurd (omega arith)

entries_there : (s : List ℕ) (k : ℕ) → entries_or10 s k ≡ none → ⊥
entries_there [] k e = let w : ◌≡◌ {A = ℕ} 0 1 = cc in omega arith
entries_there (o ∷ s) k e = let w : ◌≡◌ {A = ℕ} 0 1 = cc in omega arith

-- ---- a head, spelt

module _ {X A : Type 0} (speller : A → List ℕ) (head : List X → Head A) where
  -- the element at the head of a list, as what the speller gives of it
  pub spelt_here : {t : List X} {e : A} {k : ℕ} → head t ≡ element e k → (length (speller e) ≡ 0 → ⊥)
      → spelt_by speller head t ≡ element (speller e) k
  spelt_here {e = e} {k = k} q n = ap (spelt_head speller) q ∙ entries_some (speller e) k (no_length n)

  -- 10: the speller gives nothing
  pub spelt_not : {t : List X} {e : A} {k : ℕ} → head t ≡ element e k → length (speller e) ≡ 0 → spelt_by speller head t ≡ refused 10 0
  spelt_not {e = e} {k = k} q n = ap (spelt_head speller) q ∙ entries_none (speller e) k n

  -- a refusal, and the end, are as they were
  pub spelt_refused : {t : List X} {r d : ℕ} → head t ≡ refused r d → spelt_by speller head t ≡ refused r d
  spelt_refused q = ap (spelt_head speller) q

  pub spelt_none : {t : List X} → head t ≡ none → spelt_by speller head t ≡ none
  spelt_none q = ap (spelt_head speller) q

  why_not : (t : List X) (e : A) (k : ℕ) → head t ≡ element e k → (s : List ℕ) → speller e ≡ s → (r d : ℕ) → entries_or10 s k ≡ refused r d
      → Why speller head t r d
  why_not t e k q [] g r d z =
      let er : r ≡ 10 = cc in
      let ed : d ≡ 0 = cc in
      not_spelt q g er ed
  why_not t e k q (o ∷ s) g r d z = let w : ◌≡◌ {A = ℕ} 0 1 = cc in absurd (omega arith)

  why_by : (t : List X) (h : Head A) → head t ≡ h → (r d : ℕ) → spelt_head speller h ≡ refused r d → Why speller head t r d
  why_by t (element e k) q r d z = why_not t e k q (speller e) refl r d z
  why_by t (refused r' d') q r d z =
      let er : r' ≡ r = cc in
      let ed : d' ≡ d = cc in
      by_head (q ∙ ap₂ refused er ed)
  why_by t none q r d z = let w : ◌≡◌ {A = ℕ} 0 1 = cc in absurd (omega arith)

  pub why : (t : List X) (r d : ℕ) → spelt_by speller head t ≡ refused r d → Why speller head t r d
  why t r d z = why_by t (head t) refl r d z

module _ {X A : Type 0} {head : List X → Head A} {S : List X → A → Type 0} (laws : Reads head S) (speller : A → List ℕ) where
  spelt_finds : (p t : List X) (s : List ℕ) → SpeltBy speller S p s → spelt_by speller head (p ++ t) ≡ element s (length p)
  spelt_finds p t s h =
      ap (spelt_head speller) (laws.finds p t h.of h.spells)
      ∙ ap (λ (x : List ℕ). entries_or10 x (length p)) h.gives
      ∙ entries_some s (length p) h.some

  spelt_found : (t : List X) (s : List ℕ) (k : ℕ) (h : Head A) → head t ≡ h → spelt_head speller h ≡ element s k
      → Begins (SpeltBy speller S) t s k
  spelt_found t s k (element e n) q z =
      let g = entries_of (speller e) s n k z in
      let b = laws.found t e n q in
      record {
        front = b.front;
        rest = b.rest;
        whole = b.whole;
        spells = record { of = e; spells = b.spells; gives = g.gives; some = g.some };
        size = sym g.size ∙ b.size;
      }
  spelt_found t s k (refused r d) q z = let w : ◌≡◌ {A = ℕ} 0 1 = cc in absurd (omega arith)
  spelt_found t s k none q z = let w : ◌≡◌ {A = ℕ} 0 1 = cc in absurd (omega arith)

  spelt_goes : (t : List X) (h : Head A) → head t ≡ h → spelt_head speller h ≡ none → t ≡ []
  spelt_goes t (element e k) q z = absurd (entries_there (speller e) k z)
  spelt_goes t (refused r d) q z = let w : ◌≡◌ {A = ℕ} 0 1 = cc in absurd (omega arith)
  spelt_goes t none q z = laws.goes t q

  spelt_numbered : (t : List X) (h : Head A) → head t ≡ h → (r d : ℕ) → spelt_head speller h ≡ refused r d → (0 < r) × (d ≤ length t)
  spelt_numbered t (element e k) q r d z = omega (arith, entries_refused (speller e) k r d z)
  spelt_numbered t (refused r' d') q r d z =
      let er : r' ≡ r = cc in
      let ed : d' ≡ d = cc in
      omega (arith, laws.numbered t r' d' q, laws.inside t r' d' q)
  spelt_numbered t none q r d z = let w : ◌≡◌ {A = ℕ} 0 1 = cc in absurd (omega arith)

  -- A head that keeps the record of promises keeps it when its elements are spelt.
  pub spelt_reads : Reads (spelt_by speller head) (SpeltBy speller S)
  spelt_reads =
      record {
        finds = spelt_finds;
        found = λ t s k z. spelt_found t s k (head t) refl z;
        some = λ p s h. laws.some p h.of h.spells;
        ends = ap (spelt_head speller) laws.ends;
        goes = λ t z. spelt_goes t (head t) refl z;
        numbered = λ t r d z. (spelt_numbered t (head t) refl r d z).0;
        inside = λ t r d z. (spelt_numbered t (head t) refl r d z).1;
      }

  -- and gives at most so many entries, if the speller does
  pub spelt_bounded : {most : ℕ} → ((e : A) → length (speller e) ≤ most) → Bounded (SpeltBy speller S) same most
  spelt_bounded {most} short = record { bound = λ p s h. subst (λ (l : List ℕ). length l ≤ most) h.gives (short h.of) }

  -- a list that is spelt is read
  run_read : {s : List X} {ps : List (List X)} {ss : List (List ℕ)} → Run (SpeltBy speller S) s ps ss → (es : List A) × Run S s ps es
  run_read done = ([], done)
  run_read (more h r) = let i = run_read r in (h.of ∷ i.0, more h.spells i.1)

  pub spelt_read : (s : List X) (ss : List (List ℕ)) → outcome (spelt_by speller head) s ≡ accepted ss
      → (es : List A) × (outcome head s ≡ accepted es)
  spelt_read s ss q =
      let r = (accepts spelt_reads s ss).0 q in
      let i = run_read r.1 in
      (i.0, (accepts laws s i.0).1 (r.0, i.1))
