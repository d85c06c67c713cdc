-- Canonical spelling: the definition gives exactly the relation, over the form. What goes by the form are the tests of its tables; all else
-- is proved once.
-- Assumes nothing.
use Prim.Native.Nat.{ℕ}
use mathlib.Core.Path.{◌≡◌, refl, sym, ap, ◌∙◌, subst}
use mathlib.Core.List.{List, ◌++◌, Memᴰ}
use mathlib.Core.Logic.{◌↔◌}
use native.Mathlib.Omega.{arith}
use Rattle.std.proofs.lemmas.Option.{none-some}
use Rattle.run.proofs.Members.{at_member}
use Rattle.run.proofs.Search.{found_first}
use Rattle.sorts.specs.declared.Form.{Form}
use Rattle.sorts.specs.declared.Form.TheVariants.{Eight, Seven, Basic}
use Rattle.sorts.specs.declared.Sort.{Sort}
use Rattle.sorts.specs.declared.Sort.TheVariants.{Graphic, Mark, Shift}
use Rattle.std.specs.Prelude.{Some, Option, None}
use Rattle.spelling.specs.declared.Spelling.{Spelling}
use Rattle.spelling.specs.declared.Spelling.TheVariants.{One, Shifted, Pair, ShiftedPair}
use Rattle.sorts.specs.Cells.{Cell, ◌is◌, octet, meaning, octet_in}
use Rattle.squares.specs.Squares.{square_of, pair_of}
use Rattle.sorts.specs.Forms.{Alphabet, alphabet_of, SS2}
use Rattle.sorts.specs.Sorts.{sort_by, shifted_by, sort_in, shifted_in}
use Rattle.spelling.specs.CanonicalSpelling.{Codes, NoOctet, IsThat, Chosen, Canonical}
use Rattle.spelling.specs.SpellingGiven.{one_or, shifted_or, pair_or, shifted_pair_or, pair_by, octet_by, spell_in}
use Rattle.sorts.proofs.Tests.{Alike}
use Rattle.sorts.proofs.Lookups.{is_octet, octet_cell}
use Rattle.sorts.proofs.Sorted.{sort_says, shifted_says}
use Rattle.squares.proofs.TableRule.{inverse, forward}

-- ---- the tests of a form's tables

abbrev A : Form → Alphabet
A f = alphabet_of f

-- the octets that the form writes or reads bare
abbrev bare : Alphabet → List Cell
bare a = a.writes ++ a.graphics

-- the octet that is written, where one is named, else this one
abbrev chosen_or : Option ℕ → ℕ → Option ℕ
chosen_or (Some w) o = Some w
chosen_or None o = Some o

-- the octet that is written for a cell's character is the one that the form names, or the cell's own
abbrev chosen_for : Alphabet → Cell → Option ℕ
chosen_for a cell = chosen_or (octet_in a.writes (meaning cell)) (octet cell)

-- a mark: what the octet is, and that this octet is the one for it
abbrev MarkFact : Type 0
MarkFact = Sort × Option ℕ

abbrev mark_told : Alphabet → Cell → MarkFact
mark_told a cell = (sort_by a (octet cell), octet_in a.marks (meaning cell))

abbrev mark_wanted : Cell → MarkFact
mark_wanted cell = (Mark (meaning cell), Some (octet cell))

-- after SS2: that the form has it, what the octet is, that no bare octet is that, and that this octet is the one for it
abbrev ShiftFact : Type 0
ShiftFact = Sort × Sort × Option ℕ × Option ℕ

abbrev shift_told : Alphabet → (ℕ → Option ℕ) → List Cell → Cell → ShiftFact
shift_told a by cells cell = (sort_by a SS2, shifted_by a (octet cell), by (meaning cell), octet_in cells (meaning cell))

abbrev shift_wanted : (ℕ → Sort) → Cell → ShiftFact
shift_wanted sort cell = (Shift, sort (meaning cell), None, Some (octet cell))

-- of cells after SS2, whose sort is `sort`, where `by` looks for a bare octet
abbrev ShiftTest : Alphabet → (ℕ → Option ℕ) → List Cell → (ℕ → Sort) → Type 0
ShiftTest a by cells sort = Alike (shift_told a by cells) (shift_wanted sort) cells

-- what is tested of an alphabet
record Tested (a : Alphabet) : Type 0 where
  pub sorted : Alike (λ cell. sort_by a (octet cell)) (λ cell. Graphic (meaning cell)) (bare a)
  pub first : Alike (λ cell. octet_by a (meaning cell)) (chosen_for a) a.graphics
  pub mark : Alike (mark_told a) mark_wanted a.marks
  pub after : ShiftTest a (octet_by a) a.shifted_graphics Graphic
  pub mark_after : ShiftTest a (octet_in a.marks) a.shifted_marks Mark

tested : (f : Form) → Tested (alphabet_of f)
unfolding alphabet_of
tested Eight = record { sorted = refl; first = refl; mark = refl; after = refl; mark_after = refl }
tested Seven = record { sorted = refl; first = refl; mark = refl; after = refl; mark_after = refl }
tested Basic = record { sorted = refl; first = refl; mark = refl; after = refl; mark_after = refl }

pub record ShiftedCell (f : Form) (by : ℕ → Option ℕ) (cells : List Cell) (sort : ℕ → Sort) (o c : ℕ) : Type 0 where
  pub shifts : sort_in f SS2 ≡ Shift
  pub sorts : shifted_in f o ≡ sort c
  pub not_bare : by c ≡ None
  pub is_it : octet_in cells c ≡ Some o

after_shift : (f : Form) (by : ℕ → Option ℕ) (cells : List Cell) (sort : ℕ → Sort) → ShiftTest (alphabet_of f) by cells sort
    → {o c : ℕ} → Memᴰ (o is c) cells → ShiftedCell f by cells sort o c
unfolding sort_in shifted_in
after_shift f by cells sort test h =
    let e = at_member {B = ShiftFact} (shift_told (alphabet_of f) by cells) (shift_wanted sort) h test in
    record {
      shifts = ap (λ (p : ShiftFact). p.0) e;
      sorts = ap (λ (p : ShiftFact). p.1) e;
      not_bare = ap (λ (p : ShiftFact). p.2) e;
      is_it = ap (λ (p : ShiftFact). p.3) e;
    }

-- what is given is one spelling, or none
same_given : {x y : Spelling} → Some x ≡ Some y → x ≡ y
same_given e = cc e

module _ (f : Form) where
  -- ---- what the tests say of a cell

  bare_sorts : {o c : ℕ} → Memᴰ (o is c) (bare (A f)) → sort_in f o ≡ Graphic c
  unfolding sort_in
  bare_sorts h = at_member (λ cell. sort_by (A f) (octet cell)) (λ cell. Graphic (meaning cell)) h (tested f).sorted

  -- an octet codes c: the octet that is written for c is the chosen one, or this one
  one_first : {o c : ℕ} → Codes f c (One o) → octet_by (A f) c ≡ chosen_or (octet_in (A f).writes c) o
  one_first {o} {c} (Codes.one e) =
      at_member (λ cell. octet_by (A f) (meaning cell)) (chosen_for (A f)) (sort_says f o (Graphic c) e) (tested f).first

  abbrev ShiftedGraphic : ℕ → ℕ → Type 0
  ShiftedGraphic = ShiftedCell f (octet_by (A f)) (A f).shifted_graphics Graphic

  shifted_cell : {o c : ℕ} → Memᴰ (o is c) (A f).shifted_graphics → ShiftedGraphic o c
  shifted_cell = after_shift f (octet_by (A f)) (A f).shifted_graphics Graphic (tested f).after

  shifted_first : {o c : ℕ} → Codes f c (Shifted o) → ShiftedGraphic o c
  shifted_first {o} {c} (Codes.shifted s e) = shifted_cell (shifted_says f o (Graphic c) e)

  pub record MarkCell (o m : ℕ) : Type 0 where
    pub sorts : sort_in f o ≡ Mark m
    pub is_it : octet_in (A f).marks m ≡ Some o

  mark_cell : {o m : ℕ} → Memᴰ (o is m) (A f).marks → MarkCell o m
  unfolding sort_in
  mark_cell h =
      let e = at_member {B = MarkFact} (mark_told (A f)) mark_wanted h (tested f).mark in
      record { sorts = ap (λ (p : MarkFact). p.0) e; is_it = ap (λ (p : MarkFact). p.1) e }

  pub mark_first : (o m : ℕ) → sort_in f o ≡ Mark m → MarkCell o m
  mark_first o m e = mark_cell (sort_says f o (Mark m) e)

  abbrev ShiftedMark : ℕ → ℕ → Type 0
  ShiftedMark = ShiftedCell f (octet_in (A f).marks) (A f).shifted_marks Mark

  shifted_mark : {o m : ℕ} → Memᴰ (o is m) (A f).shifted_marks → ShiftedMark o m
  shifted_mark = after_shift f (octet_in (A f).marks) (A f).shifted_marks Mark (tested f).mark_after

  pub shifted_mark_first : (o m : ℕ) → shifted_in f o ≡ Mark m → ShiftedMark o m
  shifted_mark_first o m e = shifted_mark (shifted_says f o (Mark m) e)

  -- ---- what the definition looks up, and what codes

  module _ (c : ℕ) where
    looked_bare : (o : ℕ) → octet_by (A f) c ≡ Some o → Codes f c (One o)
    looked_bare o e = Codes.one (bare_sorts (octet_cell (bare (A f)) c o e))

    looked_shifted : (o : ℕ) → octet_in (A f).shifted_graphics c ≡ Some o → Codes f c (Shifted o)
    looked_shifted o e = let s = shifted_cell (octet_cell (A f).shifted_graphics c o e) in Codes.shifted s.shifts s.sorts

    chosen_is : (x : Option ℕ) (o : ℕ) → chosen_or x o ≡ None → ⊥
    chosen_is (Some w) o e = none-some _ (sym e)
    chosen_is None o e = none-some _ (sym e)

    -- no octet is found exactly when none codes
    none_codes : octet_by (A f) c ≡ None → (o : ℕ) → Codes f c (One o) → ⊥
    none_codes n o k = chosen_is (octet_in (A f).writes c) o (sym (one_first k) ∙ n)

    none_shifted : octet_in (A f).shifted_graphics c ≡ None → (o : ℕ) → Codes f c (Shifted o) → ⊥
    none_shifted n o k = none-some _ (sym n ∙ (shifted_first k).is_it)

    bare_absent : ((o : ℕ) → Codes f c (One o) → ⊥) → octet_by (A f) c ≡ None
    bare_absent n = go (octet_by (A f) c) refl
      where
        go : (x : Option ℕ) → octet_by (A f) c ≡ x → x ≡ None
        go None e = refl
        go (Some o) e = absurd (n o (looked_bare o e))

    shifted_absent : ((o : ℕ) → Codes f c (Shifted o) → ⊥) → octet_in (A f).shifted_graphics c ≡ None
    shifted_absent n = go (octet_in (A f).shifted_graphics c) refl
      where
        go : (x : Option ℕ) → octet_in (A f).shifted_graphics c ≡ x → x ≡ None
        go None e = refl
        go (Some o) e = absurd (n o (looked_shifted o e))

    -- ---- what is canonical is given

    chosen_same : (x : Option ℕ) (o : ℕ) → IsThat x o → chosen_or x o ≡ Some o
    chosen_same (Some w) o e = ap Some (sym e)
    chosen_same None o e = refl

    given_pair : (m l : ℕ) → NoOctet f c → square_of m l ≡ Some c → spell_in f c ≡ pair_by (A f) (Some (m, l))
    unfolding spell_in
    given_pair m l n e = rw (bare_absent n.bare, shifted_absent n.shifted, inverse m l c e)

    canonical_given : {x : Spelling} → Canonical f c x → spell_in f c ≡ Some x
    unfolding spell_in Chosen
    canonical_given (Canonical.one {o} k h) = rw (one_first k, chosen_same (octet_in (A f).writes c) o h)
    canonical_given (Canonical.shifted k n) = let s = shifted_first k in rw (s.not_bare, s.is_it)
    canonical_given (Canonical.pair (Codes.pair {o} {m} {l} e q) n) = given_pair m l n q ∙ rw (mark_first o m e).is_it
    canonical_given (Canonical.shifted_pair (Codes.shifted_pair {o} {m} {l} s e q) n) =
        let k = shifted_mark_first o m e in
        given_pair m l n q ∙ rw (k.not_bare, k.is_it)

    -- ---- what is given is canonical

    in_both : (xs ys : List Cell) (w : ℕ) → octet_in xs c ≡ Some w → octet_in (xs ++ ys) c ≡ Some w
    in_both xs ys w e = found_first meaning is_octet None xs ys c (Some w) (none-some _) e

    given_chosen : (o : ℕ) → octet_by (A f) c ≡ Some o → (x : Option ℕ) → octet_in (A f).writes c ≡ x → IsThat x o
    given_chosen o e (Some w) q = let z = in_both (A f).writes (A f).graphics w q in cc
    given_chosen o e None q = tt

    -- what a look-up that was not refused gave
    by_mark : (m l : ℕ) {x : Spelling} → NoOctet f c → square_of m l ≡ Some c → (y z : Option ℕ) → octet_in (A f).marks m ≡ y
        → octet_in (A f).shifted_marks m ≡ z → pair_or y l (shifted_pair_or z l None) ≡ Some x → Canonical f c x
    by_mark m l n q (Some o) z ey ez e =
        subst (Canonical f c) (same_given e) (Canonical.pair (Codes.pair (mark_cell (octet_cell (A f).marks m o ey)).sorts q) n)
    by_mark m l n q None (Some o) ey ez e =
        let k = shifted_mark (octet_cell (A f).shifted_marks m o ez) in
        subst (Canonical f c) (same_given e) (Canonical.shifted_pair (Codes.shifted_pair k.shifts k.sorts q) n)
    by_mark m l n q None None ey ez e = absurd (none-some _ e)

    by_pair : (p : Option (ℕ × ℕ)) {x : Spelling} → NoOctet f c → pair_of c ≡ p → pair_by (A f) p ≡ Some x → Canonical f c x
    by_pair (Some (m, l)) n q e = by_mark m l n (forward m l c q) (octet_in (A f).marks m) (octet_in (A f).shifted_marks m) refl refl e
    by_pair None n q e = absurd (none-some _ e)

    by_octets : (y z : Option ℕ) {x : Spelling} → octet_by (A f) c ≡ y → octet_in (A f).shifted_graphics c ≡ z
        → one_or y (shifted_or z (pair_by (A f) (pair_of c))) ≡ Some x → Canonical f c x
    unfolding Chosen
    by_octets (Some o) z ey ez e =
        subst (Canonical f c) (same_given e) (Canonical.one (looked_bare o ey) (given_chosen o ey (octet_in (A f).writes c) refl))
    by_octets None (Some o) ey ez e =
        subst (Canonical f c) (same_given e) (Canonical.shifted (looked_shifted o ez) (none_codes ey))
    by_octets None None ey ez e = by_pair (pair_of c) (record { bare = none_codes ey; shifted = none_shifted ez }) refl e

    given_canonical : {x : Spelling} → spell_in f c ≡ Some x → Canonical f c x
    unfolding spell_in
    given_canonical e = by_octets (octet_by (A f) c) (octet_in (A f).shifted_graphics c) refl refl e

    -- The definition gives exactly the canonical spelling.
    pub exactly : (x : Spelling) → Canonical f c x ↔ (spell_in f c ≡ Some x)
    exactly x = (canonical_given, given_canonical)

    -- There is one.
    pub one_canonical : {x y : Spelling} → Canonical f c x → Canonical f c y → x ≡ y
    one_canonical k h = same_given (sym (canonical_given k) ∙ canonical_given h)

    -- It reads back to its character.
    pub reads_back : {x : Spelling} → Canonical f c x → Codes f c x
    reads_back (Canonical.one k h) = k
    reads_back (Canonical.shifted k n) = k
    reads_back (Canonical.pair k n) = k
    reads_back (Canonical.shifted_pair k n) = k

    -- where no spelling is given, nothing was found
    record NothingFound : Type 0 where
      pub no_bare : octet_by (A f) c ≡ None
      pub no_shifted : octet_in (A f).shifted_graphics c ≡ None
      pub no_pair : pair_by (A f) (pair_of c) ≡ None

    nothing_by : (y z : Option ℕ) → octet_by (A f) c ≡ y → octet_in (A f).shifted_graphics c ≡ z
        → one_or y (shifted_or z (pair_by (A f) (pair_of c))) ≡ None → NothingFound
    nothing_by (Some o) z ey ez e = let w : ◌≡◌ {A = ℕ} 0 1 = cc in absurd (omega arith)
    nothing_by None (Some o) ey ez e = let w : ◌≡◌ {A = ℕ} 0 1 = cc in absurd (omega arith)
    nothing_by None None ey ez e = record { no_bare = ey; no_shifted = ez; no_pair = e }

    -- what codes c, in any way, has a spelling
    codes_unspelt : {y : Spelling} → Codes f c y → NothingFound → ⊥
    codes_unspelt (Codes.one {o} e) n = none_codes n.no_bare o (Codes.one e)
    codes_unspelt (Codes.shifted {o} s e) n = none_shifted n.no_shifted o (Codes.shifted s e)
    codes_unspelt (Codes.pair {o} {m} {l} e q) n =
        let k : pair_by (A f) (pair_of c) ≡ Some (Pair o l) = rw (inverse m l c q, (mark_first o m e).is_it) in
        let w : ◌≡◌ {A = ℕ} 0 1 = cc n.no_pair in
        omega arith
    codes_unspelt (Codes.shifted_pair {o} {m} {l} s e q) n =
        let h = shifted_mark_first o m e in
        let k : pair_by (A f) (pair_of c) ≡ Some (ShiftedPair o l) = rw (inverse m l c q, h.not_bare, h.is_it) in
        let w : ◌≡◌ {A = ℕ} 0 1 = cc n.no_pair in
        omega arith

    codes_spelt : {y : Spelling} → Codes f c y → spell_in f c ≡ None → ⊥
    unfolding spell_in
    codes_spelt k e = codes_unspelt k (nothing_by (octet_by (A f) c) (octet_in (A f).shifted_graphics c) refl refl e)

    -- A character has a canonical spelling in a form exactly when some octets of that form read to it.
    pub has_canonical : ((x : Spelling) × Canonical f c x) ↔ ((y : Spelling) × Codes f c y)
    has_canonical =
        (λ h. (h.0, reads_back h.1), λ h. go h.1 (spell_in f c) refl)
      where
        go : {y : Spelling} → Codes f c y → (z : Option Spelling) → spell_in f c ≡ z → (x : Spelling) × Canonical f c x
        go k (Some x) e = (x, given_canonical e)
        go k None e = absurd (codes_spelt k e)

  -- Octets read to one character at most.
  pub one_character : {c d : ℕ} {x : Spelling} → Codes f c x → Codes f d x → c ≡ d
  one_character (Codes.one e) (Codes.one e') = cc
  one_character (Codes.shifted s e) (Codes.shifted s' e') = cc
  one_character (Codes.pair {m = m} e q) (Codes.pair {m = n} e' q') = let w : m ≡ n = cc in cc
  one_character (Codes.shifted_pair {m = m} s e q) (Codes.shifted_pair {m = n} s' e' q') = let w : m ≡ n = cc in cc

-- An octet is chosen where, if the form writes one for its character, it is that one.
pub written_chosen : (f : Form) (c o : ℕ) → IsThat (octet_in (alphabet_of f).writes c) o → Chosen f c o
unfolding Chosen
written_chosen f c o h = h
