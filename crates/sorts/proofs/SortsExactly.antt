-- The alphabets freed from the order of tests: in each form every member of each of 01's lists sorts so, and only these do, and no octet
-- stands in the lists twice. By one computed test a form; what is made of it is proved once over the form.
-- Assumes nothing.
use Prim.Native.Nat.{ℕ, zero, suc, ◌+◌}
use mathlib.Core.Path.{◌≡◌, refl, sym, ap, ◌∙◌}
use mathlib.Core.Logic.{◌↔◌, inl, inr, ∥∥₁_elim}
use mathlib.Core.HLevel.{⊥_prop}
use mathlib.Core.Bool.{Bool, true, false}
use mathlib.Core.List.{List, [], ◌∷◌, ◌++◌, map, Memᴰ, Nodup, Nodup-nil, Nodup-cons}
use native.Mathlib.Omega.{arith}
use lib.Dec.{eqb, leb}
use borrow.Author.Tests.{eqb-true, leb-true, eq-eqb, le-leb}
use Rattle.run.specs.Choice.{pick, one_of}
use Rattle.run.proofs.Choices.{both_true, is_false, one_of_lem}
use Rattle.run.proofs.Members.{at_member, member_left, member_right}
use Rattle.sorts.specs.declared.Form.{Form}
use Rattle.sorts.specs.declared.Form.TheVariants.{Eight, Seven, Basic}
use Rattle.sorts.specs.declared.Sort.{Sort}
use Rattle.sorts.specs.declared.Sort.TheVariants.{Graphic, Mark, Underline, Shift, Control, SequenceStart, Refused}
use Rattle.sorts.specs.Cells.{Cell, ◌is◌, octet, meaning}
use Rattle.sorts.specs.Forms.{Alphabet, alphabet_of}
use Rattle.sorts.specs.Sorts.{too_high, sort_by, shifted_by, sort_in, shifted_in, sort_number, beginnings, start_number}
use Rattle.sorts.specs.Sorts.{coded_after_shift, after_shift_number}
use Rattle.sorts.specs.SortLists.{Listed, ◌sorts◌, listed_octet, listed_sort, each, each_cell, lists, shifted_lists}
use Rattle.sorts.specs.SortLists.{lengths, shifted_lengths, no_twice, Told, told, wanted, TooHigh, SortsExactly}
use Rattle.sorts.proofs.Sorted.{Says, SaysShifted, sort_says, shifted_says}
use Rattle.sorts.proofs.SortNumbers.{number_else, shifted_number}

-- ---- THE TEST

-- the sort of each listed octet, that none is listed twice, and how many of the 256 octets are of each list's sort
pub test : (f : Form)
    → (told (sort_by (alphabet_of f)) (lists (alphabet_of f)) ≡ wanted (lists (alphabet_of f)) (lengths (alphabet_of f)))
    × (told (shifted_by (alphabet_of f)) (shifted_lists (alphabet_of f)) ≡ wanted (shifted_lists (alphabet_of f)) (shifted_lengths (alphabet_of f)))
unfolding alphabet_of
test Eight = (refl, refl)
test Seven = (refl, refl)
test Basic = (refl, refl)

-- ---- what is made of it

-- a listed octet sorts so
listed_so : (sort : ℕ → Sort) (l : List Listed) (long : List ℕ) → told sort l ≡ wanted l long
    → (o : ℕ) (s : Sort) → Memᴰ (o sorts s) l → sort o ≡ s
listed_so sort l long t o s m = at_member (λ e. sort (listed_octet e)) listed_sort m (ap (λ (x : Told). x.0) t)

of_one : {n : ℕ} {ns : List ℕ} → Memᴰ n ns → one_of ns n ≡ true
of_one {n} (Memᴰ.head {x = k} {xs = ns} p) = rw (eq-eqb k n (sym p))
of_one {n} (Memᴰ.tail {x = k} {xs = ns} h) = go (eqb k n) (of_one h)
  where
    go : (t : Bool) → one_of ns n ≡ true → pick t true (one_of ns n) ≡ true
    go true ih = refl
    go false ih = ih

not_both : {t : Bool} → t ≡ true → t ≡ false → ⊥
not_both e q = let z : ◌≡◌ {A = ℕ} 0 1 = cc in omega arith

-- none twice
distinct : (ns : List ℕ) → no_twice ns ≡ true → Nodup ns
distinct [] e = Nodup-nil
distinct (n ∷ ns) e = go (one_of ns n) refl e (distinct ns)
  where
    go : (t : Bool) → one_of ns n ≡ t → pick t false (no_twice ns) ≡ true → (no_twice ns ≡ true → Nodup ns) → Nodup (n ∷ ns)
    go true q h ih = absurd (not_both h refl)
    go false q h ih = Nodup-cons.1 (λ m. ∥∥₁_elim m ⊥_prop (λ k. not_both (of_one k) q), ih h)

distinct_listed : (sort : ℕ → Sort) (l : List Listed) (long : List ℕ) → told sort l ≡ wanted l long → Nodup (map listed_octet l)
distinct_listed sort l long t = distinct (map listed_octet l) (ap (λ (x : Told). x.1.0) t)

member_map : {A B : Type 0} (g : A → B) {a : A} {l : List A} → Memᴰ a l → Memᴰ (g a) (map g l)
member_map g (Memᴰ.head p) = Memᴰ.head (ap g p)
member_map g (Memᴰ.tail h) = Memᴰ.tail (member_map g h)

module _ (f : Form) where
  so : {o : ℕ} {s : Sort} → Memᴰ (o sorts s) (lists (alphabet_of f)) → sort_in f o ≡ s
  unfolding sort_in
  so {o} {s} m = listed_so (sort_by (alphabet_of f)) (lists (alphabet_of f)) (lengths (alphabet_of f)) (test f).0 o s m

  shifted_so : {o : ℕ} {s : Sort} → Memᴰ (o sorts s) (shifted_lists (alphabet_of f)) → shifted_in f o ≡ s
  unfolding shifted_in
  shifted_so {o} {s} m =
      listed_so (shifted_by (alphabet_of f)) (shifted_lists (alphabet_of f)) (shifted_lengths (alphabet_of f)) (test f).1 o s m

  member_each : {o : ℕ} {os : List ℕ} (s : Sort) → Memᴰ o os → Memᴰ (o sorts s) (each s os)
  member_each s m = member_map (λ o. o sorts s) m

  member_cell : {o c : ℕ} {cells : List Cell} (s : ℕ → Sort) → Memᴰ (o is c) cells → Memᴰ (o sorts s c) (each_cell s cells)
  member_cell s m = member_map (λ cell. octet cell sorts s (meaning cell)) m

  -- the lists of bare octets, and of cells
  abbrev cs : List Listed
  cs = each Control (alphabet_of f).controls

  abbrev ss : List Listed
  ss = each Shift (alphabet_of f).shifts

  abbrev qs : List Listed
  qs = each SequenceStart (alphabet_of f).sequences

  abbrev us : List Listed
  us = each Underline (alphabet_of f).underlines

  abbrev es : List Listed
  es = each (Refused 2) (alphabet_of f).escapes

  abbrev ms : List Listed
  ms = each_cell Mark (alphabet_of f).marks

  -- a member behind the first list, the first two ..
  behind_1 : {e : Listed} {l : List Listed} → Memᴰ e l → Memᴰ e (cs ++ l)
  behind_1 m = member_right cs m

  behind_2 : {e : Listed} {l : List Listed} → Memᴰ e l → Memᴰ e (cs ++ (ss ++ l))
  behind_2 m = behind_1 (member_right ss m)

  behind_3 : {e : Listed} {l : List Listed} → Memᴰ e l → Memᴰ e (cs ++ (ss ++ (qs ++ l)))
  behind_3 m = behind_2 (member_right qs m)

  behind_4 : {e : Listed} {l : List Listed} → Memᴰ e l → Memᴰ e (cs ++ (ss ++ (qs ++ (us ++ l))))
  behind_4 m = behind_3 (member_right us m)

  behind_5 : {e : Listed} {l : List Listed} → Memᴰ e l → Memᴰ e (cs ++ (ss ++ (qs ++ (us ++ (es ++ l)))))
  behind_5 m = behind_4 (member_right es m)

  -- what a sort says of its octet puts it into the lists
  says_listed : (o : ℕ) (s : Sort) → sort_number s ≡ 0 → Says (alphabet_of f) o s → Memᴰ (o sorts s) (lists (alphabet_of f))
  says_listed o Control z m = member_left (member_each Control m) _
  says_listed o Shift z m = behind_1 (member_left (member_each Shift m) _)
  says_listed o SequenceStart z m = behind_2 (member_left (member_each SequenceStart m) _)
  says_listed o Underline z m = behind_3 (member_left (member_each Underline m) _)
  says_listed o (Mark m) z k = behind_5 (member_left (member_cell Mark k) _)
  says_listed o (Graphic c) z k = behind_5 (member_right ms (member_cell Graphic k))
  says_listed o (Refused n) z (inl e) = absurd (omega arith)
  says_listed o (Refused n) z (inr (inl e)) = absurd (omega arith)
  says_listed o (Refused n) z (inr (inr e)) = absurd (omega arith)

  says_shifted_listed : (o : ℕ) (s : Sort) → sort_number s ≡ 0 → SaysShifted (alphabet_of f) o s
      → Memᴰ (o sorts s) (shifted_lists (alphabet_of f))
  says_shifted_listed o Control z m = absurd m
  says_shifted_listed o Shift z m = absurd m
  says_shifted_listed o SequenceStart z m = absurd m
  says_shifted_listed o Underline z m = absurd m
  says_shifted_listed o (Mark m) z k = member_left (member_cell Mark k) _
  says_shifted_listed o (Graphic c) z k = member_right (each_cell Mark (alphabet_of f).shifted_marks) (member_cell Graphic k)
  says_shifted_listed o (Refused n) z (inl e) = absurd (omega arith)
  says_shifted_listed o (Refused n) z (inr e) = absurd (omega arith)

  -- and an octet of number 2 stands in its list
  escape_listed : {o : ℕ} → Memᴰ o (alphabet_of f).escapes → Memᴰ (o sorts Refused 2) (lists (alphabet_of f))
  escape_listed m = behind_4 (member_left (member_each (Refused 2) m) _)

  -- what begins something is what a list says
  pub sort_listed : (o : ℕ) → sort_number (sort_in f o) ≡ 0 → Memᴰ (o sorts sort_in f o) (lists (alphabet_of f))
  sort_listed o z = says_listed o (sort_in f o) z (sort_says f o (sort_in f o) refl)

  pub shifted_listed : (o : ℕ) → sort_number (shifted_in f o) ≡ 0 → Memᴰ (o sorts shifted_in f o) (shifted_lists (alphabet_of f))
  shifted_listed o z = says_shifted_listed o (shifted_in f o) z (shifted_says f o (shifted_in f o) refl)

-- ---- the numbers

-- an octet of number 2 sorts so by the test, and so is not too high
pub start_number_lem : (f : Form) (o : ℕ) → sort_number (sort_by (alphabet_of f) o) ≡ start_number (alphabet_of f) o
start_number_lem f o = go (one_of (alphabet_of f).escapes o) refl
  where
    by_high : (t : Bool) → too_high (alphabet_of f) o ≡ t → one_of (alphabet_of f).escapes o ≡ true → sort_by (alphabet_of f) o ≡ Refused 2
        → sort_number (sort_by (alphabet_of f) o) ≡ start_number (alphabet_of f) o
    by_high true h e q = let five : sort_by (alphabet_of f) o ≡ Refused 5 = rw h in let z : ◌≡◌ {A = ℕ} 2 5 = cc in absurd (omega arith)
    by_high false h e q = ap sort_number q ∙ sym (rw (h, e))

    go : (t : Bool) → one_of (alphabet_of f).escapes o ≡ t → sort_number (sort_by (alphabet_of f) o) ≡ start_number (alphabet_of f) o
    go true e =
        by_high (too_high (alphabet_of f) o) refl e
        (listed_so (sort_by (alphabet_of f)) (lists (alphabet_of f)) (lengths (alphabet_of f)) (test f).0 o (Refused 2)
        (escape_listed f (one_of_lem (alphabet_of f).escapes o e)))
    go false e = number_else (alphabet_of f) o e

-- a sort that has a number is refused with it
refused_with : (n : ℕ) (s : Sort) → sort_number s ≡ suc n → s ≡ Refused (suc n)
refused_with n (Graphic c) e = absurd (omega arith)
refused_with n (Mark m) e = absurd (omega arith)
refused_with n Underline e = absurd (omega arith)
refused_with n Shift e = absurd (omega arith)
refused_with n Control e = absurd (omega arith)
refused_with n SequenceStart e = absurd (omega arith)
refused_with n (Refused k) e = ap Refused e

high_told : (a : Alphabet) (o : ℕ) → TooHigh a o → too_high a o ≡ true
high_told a o h = simp (eq-eqb a.bits 7 h.0, le-leb 0x80 o h.1)

told_high : (a : Alphabet) (o : ℕ) → too_high a o ≡ true → TooHigh a o
told_high a o e =
    let h = both_true (eqb a.bits 7) (leb 0x80 o) e in
    (eqb-true a.bits 7 h.0, leb-true 0x80 o h.1)

-- the tests' outcomes, by the number
abbrev numbered : Bool → Bool → Bool → ℕ
numbered t u v = pick t 5 (pick u 2 (pick v 0 1))

five_by : (t u v : Bool) → numbered t u v ≡ 5 → t ≡ true
five_by true u v e = refl
five_by false true v e = absurd (omega arith)
five_by false false true e = absurd (omega arith)
five_by false false false e = absurd (omega arith)

two_by : (t u v : Bool) → numbered t u v ≡ 2 → u ≡ true
two_by true u v e = absurd (omega arith)
two_by false true v e = refl
two_by false false true e = absurd (omega arith)
two_by false false false e = absurd (omega arith)

one_by : (t u v : Bool) → numbered t u v ≡ 1 → (v ≡ false) × (u ≡ false) × (t ≡ false)
one_by true u v e = absurd (omega arith)
one_by false true v e = absurd (omega arith)
one_by false false true e = absurd (omega arith)
one_by false false false e = (refl, refl, refl)

module _ (f : Form) (o : ℕ) where
  abbrev A : Alphabet
  A = alphabet_of f

  starts : sort_number (sort_in f o) ≡ start_number A o
  unfolding sort_in
  starts = start_number_lem f o

  started : (n : ℕ) → sort_in f o ≡ Refused n → start_number A o ≡ n
  started n e = sym starts ∙ ap sort_number e

  by_start : (n : ℕ) → start_number A o ≡ suc n → sort_in f o ≡ Refused (suc n)
  by_start n e = refused_with n (sort_in f o) (starts ∙ e)

  five_exactly : (sort_in f o ≡ Refused 5) ↔ TooHigh A o
  five_exactly = (
    λ e. told_high A o (five_by (too_high A o) (one_of A.escapes o) (one_of (beginnings A) o) (started 5 e)),
    λ h. by_start 4 (rw (high_told A o h)),
  )

  two_forth : sort_in f o ≡ Refused 2 → Memᴰ o A.escapes
  two_forth e = one_of_lem A.escapes o (two_by (too_high A o) (one_of A.escapes o) (one_of (beginnings A) o) (started 2 e))

  one_exactly : (sort_in f o ≡ Refused 1)
      ↔ ((Memᴰ o (beginnings A) → ⊥) × (Memᴰ o A.escapes → ⊥) × (TooHigh A o → ⊥))
  one_exactly = (forth, back)
    where
      forth : sort_in f o ≡ Refused 1 → (Memᴰ o (beginnings A) → ⊥) × (Memᴰ o A.escapes → ⊥) × (TooHigh A o → ⊥)
      forth e =
          let b = one_by (too_high A o) (one_of A.escapes o) (one_of (beginnings A) o) (started 1 e) in
          (λ m. not_both (of_one m) b.0, λ m. not_both (of_one m) b.1, λ h. not_both (high_told A o h) b.2)

      back : (Memᴰ o (beginnings A) → ⊥) × (Memᴰ o A.escapes → ⊥) × (TooHigh A o → ⊥) → sort_in f o ≡ Refused 1
      back n =
          let v = is_false (one_of (beginnings A) o) (λ e. n.0 (one_of_lem (beginnings A) o e)) in
          let u = is_false (one_of A.escapes o) (λ e. n.1 (one_of_lem A.escapes o e)) in
          let t = is_false (too_high A o) (λ e. n.2 (told_high A o e)) in
          by_start 0 (rw (v, u, t))

  -- after SS2
  shifted_starts : sort_number (shifted_in f o) ≡ after_shift_number A o
  unfolding shifted_in
  shifted_starts = shifted_number A o

  shifted_started : (n : ℕ) → shifted_in f o ≡ Refused n → after_shift_number A o ≡ n
  shifted_started n e = sym shifted_starts ∙ ap sort_number e

  by_shifted : (n : ℕ) → after_shift_number A o ≡ suc n → shifted_in f o ≡ Refused (suc n)
  by_shifted n e = refused_with n (shifted_in f o) (shifted_starts ∙ e)

  shifted_five_exactly : (shifted_in f o ≡ Refused 5) ↔ TooHigh A o
  shifted_five_exactly = (
    λ e. told_high A o (five_by (too_high A o) false (one_of (coded_after_shift A) o) (shifted_started 5 e)),
    λ h. by_shifted 4 (rw (high_told A o h)),
  )

  shifted_one_exactly : (shifted_in f o ≡ Refused 1) ↔ ((Memᴰ o (coded_after_shift A) → ⊥) × (TooHigh A o → ⊥))
  shifted_one_exactly = (forth, back)
    where
      forth : shifted_in f o ≡ Refused 1 → (Memᴰ o (coded_after_shift A) → ⊥) × (TooHigh A o → ⊥)
      forth e =
          let b = one_by (too_high A o) false (one_of (coded_after_shift A) o) (shifted_started 1 e) in
          (λ m. not_both (of_one m) b.0, λ h. not_both (high_told A o h) b.2)

      back : (Memᴰ o (coded_after_shift A) → ⊥) × (TooHigh A o → ⊥) → shifted_in f o ≡ Refused 1
      back n =
          let v = is_false (one_of (coded_after_shift A) o) (λ e. n.0 (one_of_lem (coded_after_shift A) o e)) in
          let t = is_false (too_high A o) (λ e. n.1 (told_high A o e)) in
          by_shifted 0 (rw (v, t))

-- ---- a sort that has the number of 01's rows, and where that is 0 stands in 01's lists, is the octet's
module _ (f : Form) (o : ℕ) (r : Sort) where
  pub sort_by_lem : sort_number r ≡ start_number (alphabet_of f) o → (sort_number r ≡ 0 → Memᴰ (o sorts r) (lists (alphabet_of f)))
      → r ≡ sort_in f o
  sort_by_lem n m = go (sort_number r) refl
    where
      go : (k : ℕ) → sort_number r ≡ k → r ≡ sort_in f o
      go zero e = sym (so f (m e))
      go (suc k) e = refused_with k r e ∙ sym (by_start f o k (sym n ∙ e))

  pub shifted_by_lem : sort_number r ≡ after_shift_number (alphabet_of f) o
      → (sort_number r ≡ 0 → Memᴰ (o sorts r) (shifted_lists (alphabet_of f))) → r ≡ shifted_in f o
  shifted_by_lem n m = go (sort_number r) refl
    where
      go : (k : ℕ) → sort_number r ≡ k → r ≡ shifted_in f o
      go zero e = sym (shifted_so f (m e))
      go (suc k) e = refused_with k r e ∙ sym (by_shifted f o k (sym n ∙ e))

-- ---- the theorem
module _ (f : Form) where
  pub exactly : SortsExactly f
  unfolding sort_in shifted_in
  exactly =
      record {
        controls = λ o. (sort_says f o Control, λ m. so f (says_listed f o Control refl m));
        shifts = λ o. (sort_says f o Shift, λ m. so f (says_listed f o Shift refl m));
        sequences = λ o. (sort_says f o SequenceStart, λ m. so f (says_listed f o SequenceStart refl m));
        underlines = λ o. (sort_says f o Underline, λ m. so f (says_listed f o Underline refl m));
        marks = λ o m. (sort_says f o (Mark m), λ k. so f (says_listed f o (Mark m) refl k));
        graphics = λ o c. (sort_says f o (Graphic c), λ k. so f (says_listed f o (Graphic c) refl k));
        five = five_exactly f;
        two = λ o. (two_forth f o, λ m. so f (escape_listed f m));
        one = one_exactly f;
        shifted_marks_are = λ o m. (shifted_says f o (Mark m), λ k. shifted_so f (says_shifted_listed f o (Mark m) refl k));
        shifted_graphics_are = λ o c. (shifted_says f o (Graphic c), λ k. shifted_so f (says_shifted_listed f o (Graphic c) refl k));
        shifted_five = shifted_five_exactly f;
        shifted_one = shifted_one_exactly f;
        none_twice = distinct_listed (sort_by (alphabet_of f)) (lists (alphabet_of f)) (lengths (alphabet_of f)) (test f).0;
        none_twice_shifted =
            distinct_listed (shifted_by (alphabet_of f)) (shifted_lists (alphabet_of f)) (shifted_lengths (alphabet_of f)) (test f).1;
        tallied = ap (λ (x : Told). x.1.1) (test f).0;
        tallied_shifted = ap (λ (x : Told). x.1.1) (test f).1;
      }

-- how long the lists are: controls, SS2, sequence starts, underlines, number 2's, marks, spacing characters; 95 primary ones and 73
-- supplementary; form 3 has 89 primary ones and 53 supplementary
pub long :
    (lengths (alphabet_of Eight) ≡ 2 ∷ 0 ∷ 0 ∷ 0 ∷ 5 ∷ 13 ∷ (95 + 73) ∷ [])
    × (lengths (alphabet_of Seven) ≡ 2 ∷ 1 ∷ 0 ∷ 0 ∷ 4 ∷ 0 ∷ 95 ∷ [])
    × (shifted_lengths (alphabet_of Seven) ≡ 0 ∷ 0 ∷ 0 ∷ 0 ∷ 0 ∷ 13 ∷ 73 ∷ [])
    × (lengths (alphabet_of Basic) ≡ 7 ∷ 0 ∷ 1 ∷ 1 ∷ 5 ∷ 13 ∷ (89 + 53) ∷ [])
unfolding alphabet_of
long = (refl, refl, refl, refl)
