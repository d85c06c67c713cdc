-- The test of a canonical spelling: among the octets that spell a sequence, exactly those of the lower half in which no value begins with
-- the digit 0.
-- Assumes nothing.
use Prim.Native.Nat.{ℕ, zero, suc, ◌+◌, ◌*◌, ◌≤◌, ◌<◌}
use mathlib.Core.Path.{◌≡◌, refl, sym, ap, subst, ◌∙◌}
use mathlib.Core.List.{List, [], ◌∷◌, ◌++◌, append_assoc}
use mathlib.Core.Bool.{Bool, true, false}
use mathlib.Core.Logic.{◌↔◌, ◌⊎◌, inl, inr, ⊎_elim}
use native.Mathlib.Omega.{arith}
use lib.Dec.{leb, eqb}
use lib.ListN.{drop}
use borrow.Author.Tests.{le-leb, lt-leb, leb-true, leb-false, ne_eqb}
use Rattle.run.specs.Choice.{pick}
use Rattle.sorts.specs.Forms.{CSI}
use Rattle.sequence_reading.specs.declared.Kind.{Kind}
use Rattle.sequence_reading.specs.declared.Kind.TheVariants.{Digit, Separator, Middle, Final, Other}
use Rattle.sequence_reading.specs.Kinds.{kind_of, kind_number, kind_value, CountsAs, CountedRow}
use Rattle.sequence_reading.specs.Grammar as grammar
use Rattle.sequence_reading.specs.Grammar.{Sequence, Decimal, empty, digit, Parameters, Intermediate, SpellsSequence, sequence}
use Rattle.sequence_reading.specs.Twins.{Twins, none, and, as_it_is, raised}
use Rattle.sequence_reading.proofs.NumbersExactly.{kind_exactly}
use Rattle.sequence_spelling.specs.SequenceOctets as spelling
use Rattle.sequence_spelling.specs.SequenceOctets.{Numeral, first, next, Numerals, single, joined, MiddleOctet, one}
use Rattle.sequence_spelling.specs.SequenceOctets.{CanonicalSequence, canonical, canonical_behind}
use Rattle.sequence_spelling.proofs.Back.{spelt_fine}

-- ---- the octet of each kind, in the lower half

abbrev OctetOf : ℕ → Kind → Type 0
OctetOf b (Digit d) = (b ≡ 0x30 + d) × (d ≤ 9)
OctetOf b Separator = b ≡ 0x3B
OctetOf b (Middle i) = (b ≡ i) × (0x20 ≤ i) × (i ≤ 0x2F)
OctetOf b (Final f) = b ≡ f
OctetOf b Other = Unit {0}

row_octet : {b n v : ℕ} {k : Kind} → CountedRow b k n v → OctetOf b k
row_octet (CountedRow.digit h g) = (omega arith, omega arith)
row_octet (CountedRow.separator e) = e
row_octet (CountedRow.intermediate r) = (refl, r.0, r.1)
row_octet (CountedRow.final r) = refl
row_octet (CountedRow.no_octet n) = tt

-- an octet below 80 counts as itself
itself : {b c : ℕ} → CountsAs b c → b < 0x80 → c ≡ b
itself (CountsAs.itself n) h = refl
itself (CountsAs.lowered r) h = absurd (omega (arith, r.0))

octet_of : (b : ℕ) (k : Kind) → kind_of b ≡ k → b < 0x80 → OctetOf b k
octet_of b k e h =
    let r = (kind_exactly b k (kind_number k) (kind_value k)).1 (e, ap kind_number e, ap kind_value e) in
    subst (λ (c : ℕ). OctetOf c k) (itself r.1 h) (row_octet r.2)

-- ---- one octet of the test

-- the test goes on behind an octet of the lower half that is neither the digit 0 nor 3B: inside a value, or behind the last
passes : (begins : Bool) (b : ℕ) (t : List ℕ) → b < 0x80 → (b ≡ 0x30 → ⊥) → (b ≡ 0x3B → ⊥)
    → canonical_behind begins (b ∷ t) ≡ canonical_behind false t
passes true b t l h g = simp (lt-leb 0x80 b l, ne_eqb b 0x30 h, ne_eqb b 0x3B g)
passes false b t l h g = simp (lt-leb 0x80 b l, ne_eqb b 0x3B g)

-- a digit inside a value, be it 0
inner : (d : ℕ) (t : List ℕ) → d ≤ 9 → canonical_behind false ((0x30 + d) ∷ t) ≡ canonical_behind false t
inner d t h = simp (lt-leb 0x80 (0x30 + d) (omega arith), ne_eqb (0x30 + d) 0x3B (omega arith))

-- an octet of the upper half fails it, wherever it stands
upper : (begins : Bool) (s : List ℕ) (b : ℕ) (t : List ℕ) → 0x80 ≤ b → canonical_behind begins (s ++ (b ∷ t)) ≡ false
upper begins [] b t h = rw (le-leb 0x80 b h)
upper begins (o ∷ s) b t h =
    ap (λ (x : Bool). pick (leb 0x80 o) false (pick (pick begins (eqb o 0x30) false) false x)) (upper (eqb o 0x3B) s b t h)
    ∙ all_false (leb 0x80 o) (pick begins (eqb o 0x30) false)
  where
    all_false : (x y : Bool) → pick x false (pick y false false) ≡ false
    all_false true y = refl
    all_false false true = refl
    all_false false false = refl

-- so where it passes each octet is of the lower half
low_at : (begins : Bool) (s : List ℕ) (b : ℕ) (t : List ℕ) → canonical_behind begins (s ++ (b ∷ t)) ≡ true → b < 0x80
low_at begins s b t e = go (leb 0x80 b) refl
  where
    go : (x : Bool) → leb 0x80 b ≡ x → b < 0x80
    go true x = let z : ◌≡◌ {A = ℕ} 0 1 = cc (upper begins s b t (leb-true 0x80 b x)) in absurd (omega arith)
    go false x = leb-false 0x80 b x

-- ---- a value

-- a value above 0, without leading zeros, whatever follows
above_0 : {s : List ℕ} {v : ℕ} → Numeral s v → 0 < v → (t : List ℕ) → canonical_behind true (s ++ t) ≡ canonical_behind false t
above_0 spelling.zero h t = absurd (omega arith)
above_0 (first {d} h g) _ t = passes true (0x30 + d) t (omega arith) (omega arith) (omega arith)
above_0 (next {s} {v} {d} n h g) _ t =
    ap (canonical_behind true) (append_assoc s ((0x30 + d) ∷ []) t) ∙ above_0 n h ((0x30 + d) ∷ t) ∙ inner d t g

-- a value without leading zeros, before what is the same to the test where a value begins and inside one
numeral_passes : {s : List ℕ} {v : ℕ} → Numeral s v → (t : List ℕ) → canonical_behind true t ≡ canonical_behind false t
    → canonical_behind true (s ++ t) ≡ canonical_behind false t
numeral_passes spelling.zero t c = c
numeral_passes (first h g) t c = above_0 (first h g) h t
numeral_passes (next n h g) t c = above_0 (next n h g) (omega arith) t

-- a sub-string of digits with its value: without leading zeros, or the test fails on it
abbrev Either : List ℕ → ℕ → Type 0
Either s v = Numeral s v ⊎ ((t : List ℕ) → canonical_behind true (s ++ t) ≡ false)

-- one digit more, behind a value without leading zeros: only a 0 behind the empty sub-string is a leading zero
grows : {s : List ℕ} {v : ℕ} → Numeral s v → (d : ℕ) → d ≤ 9 → Either (s ++ ((0x30 + d) ∷ [])) (v * 10 + d)
grows spelling.zero zero h = inr (λ t. refl)
grows spelling.zero (suc d) h = inl (let e : 0 * 10 + suc d ≡ suc d = omega arith in rw e (first {d = suc d} (omega arith) h))
grows (first f g) d h = inl (next (first f g) f h)
grows (next n f g) d h = inl (next (next n f g) (omega arith) h)

either : {s : List ℕ} {v : ℕ} → Decimal s v → Either s v
either empty = inl spelling.zero
either (digit {s} {v} {d} b h e) = go (leb 0x80 b) refl (either h)
  where
    fails : ((t : List ℕ) → canonical_behind true (s ++ (b ∷ t)) ≡ false) → Either (s ++ (b ∷ [])) (v * 10 + d)
    fails f = inr (λ t. ap (canonical_behind true) (append_assoc s (b ∷ []) t) ∙ f t)

    go : (x : Bool) → leb 0x80 b ≡ x → Either s v → Either (s ++ (b ∷ [])) (v * 10 + d)
    go true x r = fails (λ t. upper true s b t (leb-true 0x80 b x))
    go false x (inl n) = let o = octet_of b (Digit d) e (leb-false 0x80 b x) in rw o.0 (grows n d o.1)
    go false x (inr f) = fails (λ t. f (b ∷ t))

free_numeral : {s : List ℕ} {v : ℕ} → Decimal s v → (t : List ℕ) → canonical_behind true (s ++ t) ≡ true → Numeral s v
free_numeral h t e = ⊎_elim (λ n. n) (λ f. let z : ◌≡◌ {A = ℕ} 0 1 = cc (f t) in absurd (omega arith)) (either h)

-- ---- the values

joined_passes : {s : List ℕ} {v : ℕ} → Numeral s v → (p t : List ℕ)
    → canonical_behind true ((s ++ (0x3B ∷ p)) ++ t) ≡ canonical_behind true (p ++ t)
joined_passes {s} n p t = ap (canonical_behind true) (append_assoc s (0x3B ∷ p) t) ∙ numeral_passes n (0x3B ∷ (p ++ t)) refl

numerals_pass : {p vs : List ℕ} → Numerals p vs → (t : List ℕ) → canonical_behind true t ≡ canonical_behind false t
    → canonical_behind true (p ++ t) ≡ canonical_behind false t
numerals_pass (single n) t c = numeral_passes n t c
numerals_pass (joined {s} {p} n ns) t c = joined_passes n p t ∙ numerals_pass ns t c

free_numerals : {p vs : List ℕ} → Parameters p vs → (t : List ℕ) → canonical_behind true (p ++ t) ≡ true → Numerals p vs
free_numerals (grammar.single h) t e = single (free_numeral h t e)
free_numerals (grammar.joined {s} {p} b h k ps) t e =
    let e' = ap (canonical_behind true) (sym (append_assoc s (b ∷ p) t)) ∙ e in
    let o = octet_of b Separator k (low_at true s b (p ++ t) e') in
    let n = free_numeral h (b ∷ (p ++ t)) e' in
    let z : canonical_behind true ((s ++ (0x3B ∷ p)) ++ t) ≡ true = rw o at e in
    rw o (joined n (free_numerals ps t (sym (joined_passes n p t) ∙ z)))

-- ---- behind the last value

-- neither an intermediate nor a final is a digit 0 or a 3B
last_passes : {i : List ℕ} {m : ℕ} → MiddleOctet i m → (f : ℕ) → 0x40 ≤ f → f ≤ 0x7E → (begins : Bool)
    → canonical_behind begins (i ++ (f ∷ [])) ≡ true
last_passes spelling.none f h g begins = passes begins f [] (omega arith) (omega arith) (omega arith)
last_passes (one {i} l u) f h g begins =
    passes begins i (f ∷ []) (omega arith) (omega arith) (omega arith) ∙ passes false f [] (omega arith) (omega arith) (omega arith)

middle_octet : {i : List ℕ} {m : ℕ} → Intermediate i m → (p t : List ℕ) → canonical_behind true (p ++ (i ++ t)) ≡ true → MiddleOctet i m
middle_octet grammar.none p t z = spelling.none
middle_octet (grammar.one {b} {i} e) p t z = let o = octet_of b (Middle i) e (low_at true p b t z) in rw o.0 (one o.1 o.2)

-- ---- the sequence

canonical_passes : {s : List ℕ} {q : Sequence} → CanonicalSequence s q → canonical_behind true (drop 1 s) ≡ true
canonical_passes (canonical {p} {i} {vs} {m} {f} h ns o) =
    let e = last_passes o f h.low h.high in
    numerals_pass ns (i ++ (f ∷ [])) (e true ∙ sym (e false)) ∙ e false

passes_canonical : {s : List ℕ} {q : Sequence} → SpellsSequence s q → canonical_behind true (drop 1 s) ≡ true → CanonicalSequence s q
passes_canonical (sequence {s} {vs} {m} {f} b h e) z =
    let p = h.parameters in
    let i = h.intermediate in
    let w : s ++ (b ∷ []) ≡ CSI ∷ ((p ++ i) ++ (b ∷ [])) = ap (λ (l : List ℕ). l ++ (b ∷ [])) h.whole in
    let z' : canonical_behind true ((p ++ i) ++ (b ∷ [])) ≡ true = ap (λ (l : List ℕ). canonical_behind true (drop 1 l)) (sym w) ∙ z in
    let bf = octet_of b (Final f) e (low_at true (p ++ i) b [] z') in
    let a = append_assoc p i (b ∷ []) in
    let y : canonical_behind true (p ++ (i ++ (b ∷ []))) ≡ true = ap (canonical_behind true) (sym a) ∙ z' in
    rw (w ∙ ap (λ (l : List ℕ). CSI ∷ l) a ∙ ap (λ (o : ℕ). CSI ∷ (p ++ (i ++ (o ∷ [])))) bf)
    (canonical (spelt_fine (sequence b h e)) (free_numerals h.valued (i ++ (b ∷ [])) y) (middle_octet h.at_most_one p (b ∷ []) y))

-- Octets that spell a sequence are its canonical spelling exactly if the test passes on them, behind the 9B that they begin with.
pub canonical_behind_lem : {o : ℕ} {p : List ℕ} {q : Sequence} → SpellsSequence (o ∷ p) q
    → (canonical_behind true p ≡ true) ↔ CanonicalSequence (o ∷ p) q
canonical_behind_lem h = (passes_canonical h, canonical_passes)

-- "Canonical spelling uses the lower half": each octet of one, behind 9B, is below 80; so a sequence with an octet of the upper half is not
-- spelt canonically.
pub canonical_low : {o : ℕ} {p : List ℕ} {q : Sequence} → CanonicalSequence (o ∷ p) q → (s : List ℕ) (b : ℕ) (t : List ℕ) → p ≡ s ++ (b ∷ t)
    → b < 0x80
canonical_low h s b t e = low_at true s b t (ap (canonical_behind true) (sym e) ∙ canonical_passes h)

-- where the test passes on an octet and what follows it, it passes on what follows
behind_it : (x y more : Bool) → pick x false (pick y false more) ≡ true → more ≡ true
behind_it true y more e = let z : ◌≡◌ {A = ℕ} 0 1 = cc in absurd (omega arith)
behind_it false true more e = let z : ◌≡◌ {A = ℕ} 0 1 = cc in absurd (omega arith)
behind_it false false more e = e

-- Octets that were put into the upper half fail the test: where it passes, none was.
pub twins_low : {p r : List ℕ} → Twins p r → (begins : Bool) → canonical_behind begins r ≡ true → p ≡ r
twins_low none begins e = refl
twins_low (and {b} {s = p} as_it_is h) begins e =
    ap (λ (l : List ℕ). b ∷ l) (twins_low h (eqb b 0x3B) (behind_it (leb 0x80 b) (pick begins (eqb b 0x30) false) _ e))
twins_low (and {t = t} (raised {b} l u) h) begins e =
    let o : 0x80 + b < 0x80 = low_at begins [] (0x80 + b) t e in absurd (omega arith)
