-- The canonical spelling: it is the only one of the relation, it spells its sequence, and the test of what can be spelt is right.
-- Assumes nothing.
use Prim.Native.Nat.{ℕ, ◌+◌, ◌*◌, ◌/◌, ◌%◌, ◌≤◌, ◌<◌}
use mathlib.Core.Path.{◌≡◌, refl, sym, ap, ap₂, ◌∙◌}
use mathlib.Core.List.{List, [], ◌∷◌, ◌++◌, append_assoc, append-nil}
use mathlib.Core.Bool.{Bool, true, false}
use mathlib.Core.Logic.{◌↔◌, ◌⊎◌, inl, inr, ⊎_elim}
use native.Mathlib.Omega.{arith}
use lib.Dec.{leb, ltb, eqb}
use lib.ListN.{length, length-append}
use borrow.Author.Tests.{lt-ltb, le-ltb, ltb-true, ltb-false, le-leb, leb-true, eq-eqb, ne_eqb, eqb-true}
use Rattle.run.specs.Choice.{pick, within}
use Rattle.run.proofs.Choices.{pick_case, both_true, within_range}
use Rattle.sorts.specs.Forms.{CSI}
use Rattle.sequence_reading.specs.Grammar as grammar
use Rattle.sequence_reading.specs.Grammar.{Sequence, Decimal, empty, digit, Parameters, Intermediate, Small, Inside, SpellsSequence}
use Rattle.sequence_reading.specs.Grammar.{sequence}
use Rattle.sequence_spelling.specs.SequenceOctets as spelling
use Rattle.sequence_spelling.specs.SequenceOctets.{Numeral, first, next, Numerals, single, joined, MiddleOctet, one, Fine}
use Rattle.sequence_spelling.specs.SequenceOctets.{CanonicalSequence, canonical, last1, last2, last3, digits_of, spell_rest}
use Rattle.sequence_spelling.specs.SequenceOctets.{spell_values, spell_middle, spell_sequence, all_small, is_fine}
use Rattle.sequence_reading.proofs.Steps.{kind_digit, kind_separator, kind_middle, kind_final}

-- ---- a value

pub digits_none : (v : ℕ) → v < 1 → digits_of v ≡ []
unfolding digits_of
digits_none v h = simp (lt-ltb v 1 h)

pub digits_one : (v : ℕ) → 1 ≤ v → v < 10 → digits_of v ≡ last1 v
unfolding digits_of
digits_one v g h = simp (le-ltb v 1 g, lt-ltb v 10 h)

pub digits_two : (v : ℕ) → 10 ≤ v → v < 100 → digits_of v ≡ last2 v
unfolding digits_of
digits_two v g h = simp (le-ltb v 1 (omega arith), le-ltb v 10 g, lt-ltb v 100 h)

pub digits_three : (v : ℕ) → 100 ≤ v → digits_of v ≡ last3 v
unfolding digits_of
digits_three v g = simp (le-ltb v 1 (omega arith), le-ltb v 10 (omega arith), le-ltb v 100 g)

digits_case : (P : List ℕ → Type 0) (v : ℕ) → (v < 1 → P []) → (1 ≤ v → v < 10 → P (last1 v)) → (10 ≤ v → v < 100 → P (last2 v))
    → (100 ≤ v → P (last3 v)) → P (digits_of v)
unfolding digits_of
digits_case P v d0 d1 d2 d3 =
    pick_case P (ltb v 1) [] (pick (ltb v 10) (last1 v) (pick (ltb v 100) (last2 v) (last3 v)))
    (λ h. d0 (ltb-true v 1 h))
    (λ g. pick_case P (ltb v 10) (last1 v) (pick (ltb v 100) (last2 v) (last3 v))
    (λ h. d1 (ltb-false v 1 g) (ltb-true v 10 h))
    (λ f. pick_case P (ltb v 100) (last2 v) (last3 v)
    (λ h. d2 (ltb-false v 10 f) (ltb-true v 100 h))
    (λ e. d3 (ltb-false v 100 e))))

digits_short : (v : ℕ) → length (digits_of v) ≤ 3
digits_short v =
    digits_case (λ l. length l ≤ 3) v (λ h. omega arith) (λ g h. omega arith) (λ g h. omega arith) (λ g. omega arith)

numeral_one : (v a : ℕ) → 0 < a → a ≤ 9 → v ≡ a → Numeral ((0x30 + a) ∷ []) v
numeral_one v a h g e = rw e (first h g)

numeral_more : {s : List ℕ} {u : ℕ} (v d : ℕ) → Numeral s u → 0 < u → d ≤ 9 → v ≡ u * 10 + d → Numeral (s ++ ((0x30 + d) ∷ [])) v
numeral_more v d n h g e = rw e (next n h g)

numeral : (v : ℕ) → v ≤ 999 → Numeral (digits_of v) v
numeral v small =
    digits_case (λ l. Numeral l v) v
    (λ h. let z : v ≡ 0 = omega arith in rw z spelling.zero)
    (λ g h. numeral_one v (v % 10) (omega arith) (omega arith) (omega arith))
    (λ g h.
    let a = v / 10 % 10 in
    numeral_more v (v % 10) (numeral_one a a (omega arith) (omega arith) refl) (omega arith) (omega arith) (omega arith))
    (λ g.
    let a = v / 100 % 10 in
    let b = v / 10 % 10 in
    numeral_more v (v % 10)
    (numeral_more (a * 10 + b) b (numeral_one a a (omega arith) (omega arith) refl) (omega arith) (omega arith) refl) (omega arith)
    (omega arith) (omega arith))

digits_next : (v d : ℕ) → 0 < v → v ≤ 99 → d ≤ 9 → digits_of v ++ ((0x30 + d) ∷ []) ≡ digits_of (v * 10 + d)
digits_next v d h g f =
    let w = v * 10 + d in
    let e0 : d ≡ w % 10 = omega arith in
    let e1 : v % 10 ≡ w / 10 % 10 = ap (λ (n : ℕ). n % 10) (omega arith) in
    let e2 : v / 10 % 10 ≡ w / 100 % 10 = ap (λ (n : ℕ). n % 10) (omega arith) in
    digits_case (λ l. l ++ ((0x30 + d) ∷ []) ≡ digits_of w) v
    (λ z. absurd (omega arith))
    (λ p q. ap₂ (λ (a b : ℕ). (0x30 + a) ∷ (0x30 + b) ∷ []) e1 e0 ∙ sym (digits_two w (omega arith) (omega arith)))
    (λ p q.
    ap₂ (λ (a b : ℕ). (0x30 + v / 10 % 10) ∷ (0x30 + a) ∷ (0x30 + b) ∷ []) e1 e0
    ∙ ap (λ (a : ℕ). (0x30 + a) ∷ last2 w) e2
    ∙ sym (digits_three w (omega arith)))
    (λ p. absurd (omega arith))

one_numeral : {s : List ℕ} {v : ℕ} → Numeral s v → v ≤ 999 → s ≡ digits_of v
unfolding digits_of
one_numeral spelling.zero small = refl
one_numeral (first {d} h g) small =
    ap (λ (a : ℕ). (0x30 + a) ∷ []) (omega arith) ∙ sym (digits_one d (omega arith) (omega arith))
one_numeral (next {s} {v} {d} n h g) small =
    ap (λ (l : List ℕ). l ++ ((0x30 + d) ∷ [])) (one_numeral n (omega arith)) ∙ digits_next v d h (omega arith) g

decimal : {s : List ℕ} {v : ℕ} → Numeral s v → Decimal s v
decimal spelling.zero = empty
decimal (first {d} h g) =
    let e : 0 * 10 + d ≡ d = omega arith in rw e at (digit (0x30 + d) empty (kind_digit d g))
decimal (next {s} {v} {d} n h g) = digit (0x30 + d) (decimal n) (kind_digit d g)

-- ---- the values

-- the values behind a 3B are the values with 3B between two, and one before
rest_values : (vs : List ℕ) → 1 ≤ length vs → spell_rest vs ≡ 0x3B ∷ spell_values vs
unfolding spell_rest spell_values
rest_values [] h = absurd (omega arith)
rest_values (v ∷ vs) h = refl

pub rest_size : (vs : List ℕ) → 1 ≤ length vs → length (spell_rest vs) ≡ length (spell_values vs) + 1
rest_size vs h = omega (arith, ap length (rest_values vs h))

pub rest_short : (vs : List ℕ) → length (spell_rest vs) ≤ 4 * length vs
unfolding spell_rest
rest_short [] = omega arith
rest_short (v ∷ vs) = omega (arith, length-append (digits_of v) (spell_rest vs), digits_short v, rest_short vs)

numerals : (vs : List ℕ) → 1 ≤ length vs → Small vs → Numerals (spell_values vs) vs
unfolding spell_values spell_rest
numerals [] h s = absurd (omega arith)
numerals (v ∷ []) h s = rw append-nil (single (numeral v s.0))
numerals (v ∷ (w ∷ vs)) h s = joined (numeral v s.0) (numerals (w ∷ vs) (omega arith) s.1)

some_numeral : {p vs : List ℕ} → Numerals p vs → 1 ≤ length vs
some_numeral (single n) = omega arith
some_numeral (joined n ns) = omega arith

one_numerals : {p vs : List ℕ} → Numerals p vs → Small vs → p ≡ spell_values vs
unfolding spell_values spell_rest
one_numerals (single {s} {v} n) h = one_numeral n h.0 ∙ sym (append-nil (digits_of v))
one_numerals (joined {s} {p} {vs} {v} n ns) h =
    ap₂ (λ (a b : List ℕ). a ++ (0x3B ∷ b)) (one_numeral n h.0) (one_numerals ns h.1)
    ∙ ap (λ (l : List ℕ). digits_of v ++ l) (sym (rest_values vs (some_numeral ns)))

parameters : {p vs : List ℕ} → Numerals p vs → Parameters p vs
parameters (single n) = grammar.single (decimal n)
parameters (joined n ns) = grammar.joined 0x3B (decimal n) kind_separator (parameters ns)

-- ---- the intermediate

pub middle_none : (m : ℕ) → m ≡ 0 → spell_middle m ≡ []
unfolding spell_middle
middle_none m z = simp (eq-eqb m 0 z)

pub middle_one : (m : ℕ) → (m ≡ 0 → ⊥) → spell_middle m ≡ m ∷ []
unfolding spell_middle
middle_one m h = simp (ne_eqb m 0 h)

middle_octet : (m : ℕ) → (m ≡ 0) ⊎ ((0x20 ≤ m) × (m ≤ 0x2F)) → MiddleOctet (spell_middle m) m
middle_octet m h =
    ⊎_elim (λ z. rw (middle_none m z) (rw z spelling.none)) (λ z. rw (middle_one m (omega arith)) (one z.0 z.1)) h

one_middle : {i : List ℕ} {m : ℕ} → MiddleOctet i m → i ≡ spell_middle m
one_middle spelling.none = sym (middle_none 0 refl)
one_middle (one {i} h g) = sym (middle_one i (omega arith))

intermediate : {i : List ℕ} {m : ℕ} → MiddleOctet i m → Intermediate i m
intermediate spelling.none = grammar.none
intermediate (one {i} h g) = grammar.one (kind_middle i h g)

middle_short : {i : List ℕ} {m : ℕ} → MiddleOctet i m → length i ≤ 1
middle_short spelling.none = omega arith
middle_short (one h g) = omega arith

-- ---- the sequence

canonical_is : {s : List ℕ} {q : Sequence} → CanonicalSequence s q → Fine q × (s ≡ spell_sequence q)
unfolding spell_sequence
canonical_is (canonical {p} {i} {vs} {m} {f} h ns o) =
    (h, ap₂ (λ (a b : List ℕ). CSI ∷ (a ++ (b ++ (f ∷ [])))) (one_numerals ns h.small) (one_middle o))

spelt_canonical : {q : Sequence} → Fine q → CanonicalSequence (spell_sequence q) q
unfolding spell_sequence
spelt_canonical {q} h = canonical h (numerals q.values h.some h.small) (middle_octet q.middle h.middle)

-- The canonical spelling of a sequence is the one spelling that the definition gives.
pub canonical_exactly : (s : List ℕ) (q : Sequence) → CanonicalSequence s q ↔ (Fine q × (s ≡ spell_sequence q))
canonical_exactly s q = (canonical_is, λ h. rw h.1 (spelt_canonical h.0))

-- its size, by its parts
pub spell_size : (q : Sequence) → length (spell_sequence q) ≡ 1 + length (spell_values q.values) + length (spell_middle q.middle) + 1
unfolding spell_sequence
spell_size q =
    omega (
      arith,
      length-append (spell_values q.values) (spell_middle q.middle ++ (q.last ∷ [])),
      length-append (spell_middle q.middle) (q.last ∷ []),
    )

-- A spelling has an octet.
pub size_some : (q : Sequence) → 0 < length (spell_sequence q)
size_some q = omega (arith, spell_size q)

-- A spelling has at most 34 octets.
pub size_34 : {q : Sequence} → Fine q → length (spell_sequence q) ≤ 34
size_34 {q} h =
    omega (
      arith,
      spell_size q,
      rest_size q.values h.some,
      rest_short q.values,
      h.eight,
      middle_short (middle_octet q.middle h.middle),
    )

-- The canonical spelling spells its sequence.
pub spells_canonical : {q : Sequence} → Fine q → SpellsSequence (spell_sequence q) q
unfolding spell_sequence
spells_canonical {q} h =
    let p = spell_values q.values in
    let i = spell_middle q.middle in
    let o = middle_octet q.middle h.middle in
    let size : length (CSI ∷ (p ++ i)) ≤ 39 = omega (
      arith,
      length-append p i,
      rest_size q.values h.some,
      rest_short q.values,
      h.eight,
      middle_short o,
    ) in
    let n : Inside (CSI ∷ (p ++ i)) q.middle q.values =
    record {
      parameters = p;
      intermediate = i;
      whole = refl;
      valued = parameters (numerals q.values h.some h.small);
      at_most_one = intermediate o;
      small = h.small;
      eight = h.eight;
      short = size;
    } in
    rw (append_assoc p i (q.last ∷ [])) at (sequence q.last n (kind_final q.last h.low h.high))

-- ---- the test

all_small_lem : (vs : List ℕ) → all_small vs ≡ true → Small vs
all_small_lem [] e = tt
all_small_lem (v ∷ vs) e =
    let h = both_true (leb v 999) (all_small vs) e in
    (leb-true v 999 h.0, all_small_lem vs h.1)

small_all : (vs : List ℕ) → Small vs → all_small vs ≡ true
small_all [] s = refl
small_all (v ∷ vs) s = simp (le-leb v 999 s.0, small_all vs s.1)

middle_may : (m : ℕ) (t : Bool) → eqb m 0 ≡ t → pick t true (within 0x20 0x2F m) ≡ true → (m ≡ 0) ⊎ ((0x20 ≤ m) × (m ≤ 0x2F))
middle_may m true e h = inl (eqb-true m 0 e)
middle_may m false e h = inr (within_range 0x20 0x2F m h)

may_middle : (m : ℕ) → (m ≡ 0) ⊎ ((0x20 ≤ m) × (m ≤ 0x2F)) → pick (eqb m 0) true (within 0x20 0x2F m) ≡ true
may_middle m h =
    ⊎_elim
    (λ z. simp (eq-eqb m 0 z))
    (λ z. simp (ne_eqb m 0 (omega arith), le-leb 0x20 m z.0, le-leb m 0x2F z.1))
    h

test_fine : (q : Sequence) → is_fine q ≡ true → Fine q
unfolding is_fine
test_fine q e =
    let a = both_true (pick (eqb q.middle 0) true (within 0x20 0x2F q.middle)) _ e in
    let b = both_true (within 0x40 0x7E q.last) _ a.1 in
    let c = both_true (within 1 8 (length q.values)) (all_small q.values) b.1 in
    let l = within_range 0x40 0x7E q.last b.0 in
    let n = within_range 1 8 (length q.values) c.0 in
    record {
      middle = middle_may q.middle (eqb q.middle 0) refl a.0;
      low = l.0;
      high = l.1;
      some = n.0;
      eight = n.1;
      small = all_small_lem q.values c.1;
    }

fine_tested : (q : Sequence) → Fine q → is_fine q ≡ true
unfolding is_fine
fine_tested q h =
    simp (
      may_middle q.middle h.middle,
      le-leb 0x40 q.last h.low,
      le-leb q.last 0x7E h.high,
      le-leb 1 (length q.values) h.some,
      le-leb (length q.values) 8 h.eight,
      small_all q.values h.small,
    )

-- The test says exactly what a sequence can be.
pub fine_test : (q : Sequence) → (is_fine q ≡ true) ↔ Fine q
fine_test q = (test_fine q, fine_tested q)
