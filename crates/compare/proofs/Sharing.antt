-- What two lists of elements share, each element with its octets: up to where they differ or one of them ends.
-- Assumes nothing.
use Prim.Native.Nat.{ℕ, suc, ◌+◌, ◌≤◌}
use mathlib.Core.Path.{◌≡◌, refl, sym, ap, ap₂, ◌∙◌, subst}
use mathlib.Core.Bool.{Bool, true, false}
use mathlib.Core.List.{List, [], ◌∷◌, ◌++◌, map}
use native.Mathlib.Nat.{add_assoc, add-zero, zero-add}
use native.Mathlib.Omega.{arith}
use lib.ListN.{length}
use Rattle.run.specs.Choice.{pick}
use Rattle.run.specs.Tagged.{untagged}
use Rattle.element_words.specs.declared.Element.{Element}
use Rattle.compare.specs.declared.Shared.{Shared}
use Rattle.compare.specs.WhatChanged.{Otherwise, none, alike, otherwise}
use Rattle.compare.specs.Comparing.{Segment, same_element, shared_of, nothing_shared, and_then, one_shared, shared}
use Rattle.run.specs.Choice.{same_octets}
use Rattle.run.proofs.Choices.{same_octets_are, are_same_octets}
use Rattle.compare.proofs.SameTests.{octets_exchanged}
use Rattle.compare.proofs.SameTests.{same_element_is, is_same_element, other_element, element_exchanged}

-- ---- sums

pub shared_as : {n n' p p' q q' k k' : ℕ} → n ≡ n' → p ≡ p' → q ≡ q' → k ≡ k' → shared_of n p q k ≡ shared_of n' p' q' k'
shared_as a b c d = cc

pub then_nothing : (a : Shared) → and_then a nothing_shared ≡ a
then_nothing a = shared_as (add-zero a.elements) (add-zero a.first) (add-zero a.second) (add-zero a.otherwise)

pub nothing_then : (a : Shared) → and_then nothing_shared a ≡ a
nothing_then a = shared_as (zero-add a.elements) (zero-add a.first) (zero-add a.second) (zero-add a.otherwise)

pub then_assoc : (a b c : Shared) → and_then (and_then a b) c ≡ and_then a (and_then b c)
then_assoc a b c =
    shared_as (add_assoc a.elements b.elements c.elements) (add_assoc a.first b.first c.first)
    (add_assoc a.second b.second c.second) (add_assoc a.otherwise b.otherwise c.otherwise)

-- ---- the elements, and the octets

abbrev pub elements_of : List Segment → List Element
elements_of xs = map untagged xs

abbrev pub pieces_of : List Segment → List (List ℕ)
pieces_of xs = map (λ (x : Segment). x.1) xs

-- how many octets they are
abbrev pub octet_count : List Segment → ℕ
octet_count [] = 0
octet_count (x ∷ xs) = let more = octet_count xs in length x.1 + more

-- ---- one element

pub shared_same : (x y : Segment) (xs ys : List Segment) → x.0 ≡ y.0
    → shared (x ∷ xs) (y ∷ ys) ≡ and_then (one_shared x.1 y.1) (shared xs ys)
shared_same x y xs ys e =
    let t : same_element x.0 y.0 ≡ true = subst (λ (a : Element). same_element x.0 a ≡ true) e (is_same_element x.0) in
    ap (λ (b : Bool). pick b (and_then (one_shared x.1 y.1) (shared xs ys)) nothing_shared) t

pub shared_other : (x y : Segment) (xs ys : List Segment) → (x.0 ≡ y.0 → ⊥) → shared (x ∷ xs) (y ∷ ys) ≡ nothing_shared
shared_other x y xs ys n =
    ap (λ (b : Bool). pick b (and_then (one_shared x.1 y.1) (shared xs ys)) nothing_shared) (other_element x.0 y.0 n)

-- ---- behind elements that are the same in both

heads : {A : Type 0} {a b : A} {as' bs : List A} → a ∷ as' ≡ b ∷ bs → (a ≡ b) × (as' ≡ bs)
heads e = (cc, cc)

no_head : {A : Type 0} {a : A} {as' : List A} → a ∷ as' ≡ [] → ⊥
no_head e = let z : ◌≡◌ {A = ℕ} 0 1 = cc in absurd (omega arith)

-- what both share behind them is shared
pub shared_on : (cs ds xs ys : List Segment) → elements_of cs ≡ elements_of ds
    → shared (cs ++ xs) (ds ++ ys) ≡ and_then (shared cs ds) (shared xs ys)
shared_on [] [] xs ys e = sym (nothing_then (shared xs ys))
shared_on [] (d ∷ ds) xs ys e = absurd (no_head (sym e))
shared_on (c ∷ cs) [] xs ys e = absurd (no_head e)
shared_on (c ∷ cs) (d ∷ ds) xs ys e =
    let h = heads e in
    let one = one_shared c.1 d.1 in
    shared_same c d (cs ++ xs) (ds ++ ys) h.0
    ∙ ap (and_then one) (shared_on cs ds xs ys h.1)
    ∙ sym (then_assoc one (shared cs ds) (shared xs ys))
    ∙ ap (λ (s : Shared). and_then s (shared xs ys)) (sym (shared_same c d cs ds h.0))

-- how much they are: all of both
pub record AllShared (cs ds : List Segment) : Type 0 where
  pub many : (shared cs ds).elements ≡ length (elements_of cs)
  pub of_first : (shared cs ds).first ≡ octet_count cs
  pub of_second : (shared cs ds).second ≡ octet_count ds
  pub spelled_otherwise : Otherwise (pieces_of cs) (pieces_of ds) (shared cs ds).otherwise

otherwise_one : (p q : List ℕ) (ps qs : List (List ℕ)) (k : ℕ) (t : Bool) → same_octets p q ≡ t → Otherwise ps qs k
    → Otherwise (p ∷ ps) (q ∷ qs) (pick t 0 1 + k)
otherwise_one p q ps qs k true e o =
    subst (λ (l : List ℕ). Otherwise (p ∷ ps) (l ∷ qs) (0 + k)) (same_octets_are p q e)
    (subst (Otherwise (p ∷ ps) (p ∷ qs)) (sym (zero-add k)) (alike o))
otherwise_one p q ps qs k false e o =
    let n : suc k ≡ 1 + k = omega arith in
    subst (Otherwise (p ∷ ps) (q ∷ qs)) n
    (otherwise
    (λ z. let w : ◌≡◌ {A = Bool} true false = sym (are_same_octets p) ∙ ap (same_octets p) z ∙ e in
    let v : ◌≡◌ {A = ℕ} 0 1 = cc in omega arith) o)

pub all_shared : (cs ds : List Segment) → elements_of cs ≡ elements_of ds → AllShared cs ds
all_shared [] [] e = record { many = refl; of_first = refl; of_second = refl; spelled_otherwise = none }
all_shared [] (d ∷ ds) e = absurd (no_head (sym e))
all_shared (c ∷ cs) [] e = absurd (no_head e)
all_shared (c ∷ cs) (d ∷ ds) e =
    let h = heads e in
    let i = all_shared cs ds h.1 in
    let s = shared_same c d cs ds h.0 in
    let n : 1 + length (elements_of cs) ≡ suc (length (elements_of cs)) = omega arith in
    record {
      many = ap (λ (a : Shared). a.elements) s ∙ ap (λ (k : ℕ). 1 + k) i.many ∙ n;
      of_first = ap (λ (a : Shared). a.first) s ∙ ap (λ (k : ℕ). length c.1 + k) i.of_first;
      of_second = ap (λ (a : Shared). a.second) s ∙ ap (λ (k : ℕ). length d.1 + k) i.of_second;
      spelled_otherwise =
          subst (Otherwise (c.1 ∷ pieces_of cs) (d.1 ∷ pieces_of ds)) (sym (ap (λ (a : Shared). a.otherwise) s))
          (otherwise_one c.1 d.1 (pieces_of cs) (pieces_of ds) (shared cs ds).otherwise (same_octets c.1 d.1) refl
          i.spelled_otherwise);
    }

-- ---- where they part

-- how two lists go on of which nothing more is shared
pub data Apart : List Segment → List Segment → Type 0 where
  both_end : Apart [] []
  first_goes_on : {x : Segment} {xs : List Segment} → Apart (x ∷ xs) []
  second_goes_on : {y : Segment} {ys : List Segment} → Apart [] (y ∷ ys)
  differ : {x y : Segment} {xs ys : List Segment} → (x.0 ≡ y.0 → ⊥) → Apart (x ∷ xs) (y ∷ ys)

pub apart_nothing : {xs ys : List Segment} → Apart xs ys → shared xs ys ≡ nothing_shared
apart_nothing both_end = refl
apart_nothing first_goes_on = refl
apart_nothing second_goes_on = refl
apart_nothing (differ {x} {y} {xs} {ys} n) = shared_other x y xs ys n

-- the next two elements, where there are two, differ
pub apart_differ : {xs ys : List Segment} → Apart xs ys → (e g : Element) (t u : List Element) → elements_of xs ≡ e ∷ t
    → elements_of ys ≡ g ∷ u → e ≡ g → ⊥
apart_differ both_end e g t u p q z = no_head (sym p)
apart_differ first_goes_on e g t u p q z = no_head (sym q)
apart_differ second_goes_on e g t u p q z = no_head (sym p)
apart_differ (differ n) e g t u p q z = n ((heads p).0 ∙ z ∙ sym (heads q).0)

-- the elements that both begin with, and how they go on
pub record Parted (xs ys : List Segment) : Type 0 where
  pub front : List Segment
  pub front' : List Segment
  pub rest : List Segment
  pub rest' : List Segment
  pub whole : xs ≡ front ++ rest
  pub whole' : ys ≡ front' ++ rest'
  pub same_elements : elements_of front ≡ elements_of front'
  pub apart : Apart rest rest'

parted_at : {xs ys : List Segment} → Apart xs ys → Parted xs ys
parted_at {xs} {ys} a =
    record { front = []; front' = []; rest = xs; rest' = ys; whole = refl; whole' = refl; same_elements = refl; apart = a }

pub parted : (xs ys : List Segment) → Parted xs ys
parted [] [] = parted_at both_end
parted [] (y ∷ ys) = parted_at second_goes_on
parted (x ∷ xs) [] = parted_at first_goes_on
parted (x ∷ xs) (y ∷ ys) = go (parted xs ys) (same_element x.0 y.0) refl
  where
    go : Parted xs ys → (t : Bool) → same_element x.0 y.0 ≡ t → Parted (x ∷ xs) (y ∷ ys)
    go i true e =
        record {
          front = x ∷ i.front;
          front' = y ∷ i.front';
          rest = i.rest;
          rest' = i.rest';
          whole = ap (λ (l : List Segment). x ∷ l) i.whole;
          whole' = ap (λ (l : List Segment). y ∷ l) i.whole';
          same_elements = ap₂ ◌∷◌ (same_element_is x.0 y.0 e) i.same_elements;
          apart = i.apart;
        }
    go i false e =
        parted_at
        (differ (λ z. let w : ◌≡◌ {A = Bool} true false =
        sym (is_same_element x.0) ∙ ap (same_element x.0) z ∙ e in let v : ◌≡◌ {A = ℕ} 0 1 = cc in omega arith))

-- what both share is then what both begin with
pub shared_parted : {xs ys : List Segment} (p : Parted xs ys) → shared xs ys ≡ shared p.front p.front'
shared_parted p =
    ap₂ shared p.whole p.whole'
    ∙ shared_on p.front p.front' p.rest p.rest' p.same_elements
    ∙ ap (and_then (shared p.front p.front')) (apart_nothing p.apart)
    ∙ then_nothing (shared p.front p.front')

-- no more is shared than there is
count_append : (xs ys : List Segment) → octet_count (xs ++ ys) ≡ octet_count xs + octet_count ys
count_append [] ys = omega arith
count_append (x ∷ xs) ys = omega (arith, count_append xs ys)

pub shared_inside : (xs ys : List Segment) → ((shared xs ys).first ≤ octet_count xs) × ((shared xs ys).second ≤ octet_count ys)
shared_inside xs ys =
    let p = parted xs ys in
    let a = all_shared p.front p.front' p.same_elements in
    let s = shared_parted p in (
      omega (
        arith,
        ap (λ (x : Shared). x.first) s ∙ a.of_first,
        ap octet_count p.whole ∙ count_append p.front
            p.rest,
      ),
      omega (
        arith,
        ap (λ (x : Shared). x.second) s ∙ a.of_second,
        ap octet_count p.whole' ∙ count_append p.front'
            p.rest',
      ),
    )

-- ---- the two exchanged

abbrev pub exchanged : Shared → Shared
exchanged s = shared_of s.elements s.second s.first s.otherwise

pub shared_exchanged : (xs ys : List Segment) → shared ys xs ≡ exchanged (shared xs ys)
shared_exchanged [] [] = refl
shared_exchanged [] (y ∷ ys) = refl
shared_exchanged (x ∷ xs) [] = refl
shared_exchanged (x ∷ xs) (y ∷ ys) =
    ap₂ (λ (s : Shared) (t : Bool). pick t (and_then (one_shared y.1 x.1) s) nothing_shared) (shared_exchanged xs ys)
    (element_exchanged y.0 x.0)
    ∙ ap (λ (t : Bool). pick (same_element x.0 y.0) (and_then (shared_of 1 (length y.1) (length x.1) (pick t 0 1))
    (exchanged (shared xs ys))) nothing_shared) (octets_exchanged y.1 x.1)
    ∙ by (same_element x.0 y.0)
  where
    by : (t : Bool)
        → pick t (and_then (shared_of 1 (length y.1) (length x.1) (pick (same_octets x.1 y.1) 0 1)) (exchanged (shared xs ys)))
        nothing_shared
        ≡ exchanged (pick t (and_then (one_shared x.1 y.1) (shared xs ys)) nothing_shared)
    by true = refl
    by false = refl

-- ---- "spelled otherwise"

-- one number: of pieces that are equal,
one_of : {ps qs rs ss : List (List ℕ)} {k l : ℕ} → Otherwise ps qs k → Otherwise rs ss l → ps ≡ rs → qs ≡ ss → k ≡ l
one_of none none e g = refl
one_of none (alike b) e g = cc
one_of none (otherwise m b) e g = cc
one_of (alike a) none e g = cc
one_of (alike a) (alike b) e g = one_of a b (cc) (cc)
one_of (alike a) (otherwise m b) e g = absurd (m (cc))
one_of (otherwise n a) none e g = cc
one_of (otherwise n a) (alike b) e g = absurd (n (cc))
one_of (otherwise n a) (otherwise m b) e g = ap suc (one_of a b (cc) (cc))

-- and so of the same
pub one_otherwise : {ps qs : List (List ℕ)} {k l : ℕ} → Otherwise ps qs k → Otherwise ps qs l → k ≡ l
one_otherwise a b = one_of a b refl refl

-- it is 0 exactly where all pieces are the same
pub none_otherwise : {ps qs : List (List ℕ)} {k : ℕ} → Otherwise ps qs k → k ≡ 0 → ps ≡ qs
none_otherwise none e = refl
none_otherwise (alike {p} a) e = ap (λ (l : List (List ℕ)). p ∷ l) (none_otherwise a e)
none_otherwise (otherwise n a) e = absurd (omega arith)

pub all_alike : (ps : List (List ℕ)) → Otherwise ps ps 0
all_alike [] = none
all_alike (p ∷ ps) = alike (all_alike ps)
