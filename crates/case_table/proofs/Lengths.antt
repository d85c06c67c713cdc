-- The laws of a table: the lengths that it says, and the pages.
-- Assumes nothing.
use Prim.Native.Nat.{ℕ, zero, suc, ◌+◌, ◌*◌, ◌≤◌, ◌<◌}
use mathlib.Core.Path.{◌≡◌, refl, sym, ap, ap₂, ◌∙◌}
use mathlib.Core.List.{List, [], ◌∷◌}
use native.Mathlib.Nat.{zero-add, suc-add, le_of_suc-le-suc}
use native.Mathlib.Numerals.{add-one}
use native.Mathlib.Omega.{arith}
use lib.ListN.{length, take, drop, get_or, get_or-eq_default}
use lib.Seq.{take-take, drop-drop, take-nil, get_or-take, get_or-drop}
use borrow.Author.Tests.{le-leb, lt-leb}
use Rattle.case_table.specs.Layout.{Layout, version_1, number16, lengths_in, total, of_form, cut, pages_in}
use Rattle.case_table.specs.Check.{total_in}

-- ---- a table says no more than its entries

drop_take : {A : Type 0} (m n : ℕ) (s : List A) → drop m (take (m + n) s) ≡ take n (drop m s)
drop_take zero n s = ap (λ (k : ℕ). take k s) (zero-add n)
drop_take (suc m) n [] = ap (drop (suc m)) (take-nil (suc m + n)) ∙ sym (take-nil n)
drop_take (suc m) n (a ∷ s) = ap (λ (k : ℕ). drop (suc m) (take k (a ∷ s))) (suc-add m n) ∙ drop_take m n s

module _ (layout : Layout) (n : ℕ) (s : List ℕ) where
  first_entry : take layout.entry (take (layout.entry * suc n) s) ≡ take layout.entry s
  first_entry = take-take layout.entry (layout.entry * suc n) s (omega arith)

  other_entries : drop layout.entry (take (layout.entry * suc n) s) ≡ take (layout.entry * n) (drop layout.entry s)
  other_entries =
      let e : layout.entry * suc n ≡ layout.entry + layout.entry * n = omega arith in
      ap (λ (k : ℕ). drop layout.entry (take k s)) e ∙ drop_take layout.entry (layout.entry * n) s

pub lengths_take : (layout : Layout) (n : ℕ) (s : List ℕ) → lengths_in layout n (take (layout.entry * n) s) ≡ lengths_in layout n s
unfolding lengths_in
lengths_take layout zero s = refl
lengths_take layout (suc n) s =
    ap₂ ◌∷◌ (ap layout.says (first_entry layout n s))
    (ap (lengths_in layout n) (other_entries layout n s) ∙ lengths_take layout n (drop layout.entry s))

-- ---- pages of one form are cut from the octets

pub pages_cut_out : (form n : ℕ) (s octets : List ℕ)
    → pages_in version_1 form n s octets ≡ of_form form (cut (lengths_in version_1 n s) octets)
unfolding pages_in lengths_in cut
pages_cut_out form zero s octets = refl
pages_cut_out form (suc n) s octets =
    ap (λ (l : List (ℕ × List ℕ)). (form, take (number16 (take 2 s) 0) octets) ∷ l)
    (pages_cut_out form n (drop 2 s) (drop (number16 (take 2 s) 0) octets))

-- ---- the lengths added up, entry after entry

-- octets that are not there say 0
pub past_16 : (s : List ℕ) (at : ℕ) → length s ≤ at → number16 s at ≡ 0
past_16 s at h =
    let l : length s ≤ at + 1 = omega arith in
    omega (arith, get_or-eq_default s 0 {n = at} h, get_or-eq_default s 0 {n = at + 1} l)

-- the first entry, and one further on
first_said : (s : List ℕ) → number16 (take 2 s) 0 ≡ number16 s 0
first_said s = ap₂ (λ (a b : ℕ). 0x100 * a + b) (get_or-take 2 s 0 0 (omega arith)) (get_or-take 2 s 1 0 (omega arith))

pub said_behind : (k : ℕ) (s : List ℕ) (at : ℕ) → number16 (drop k s) at ≡ number16 s (k + at)
said_behind k s at =
    let e : k + (at + 1) ≡ k + at + 1 = omega arith in
    ap₂ (λ (a b : ℕ). 0x100 * a + b) (get_or-drop k s at 0) (get_or-drop k s (at + 1) 0 ∙ ap (λ (i : ℕ). get_or s i 0) e)

-- the sum of the first lengths, with one length more
pub total_next : (k : ℕ) (s : List ℕ) → total (lengths_in version_1 (k + 1) s) ≡ total (lengths_in version_1 k s) + number16 s (2 * k)
unfolding lengths_in total
total_next zero s = omega (arith, first_said s)
total_next (suc k) s =
    let i = total_next k (drop 2 s) in
    let b = said_behind 2 s (2 * k) in
    let e : 2 + 2 * k ≡ 2 * suc k = omega arith in
    let t = ap total (ap (λ (m : ℕ). lengths_in version_1 m s) (add-one (suc k))) in
    omega (arith, i, b, t, ap (number16 s) e, ap (λ (m : ℕ). total (lengths_in version_1 m (drop 2 s))) (add-one k))

-- fewer lengths add up to no more
pub total_fewer : (k n : ℕ) (s : List ℕ) → k ≤ n → total (lengths_in version_1 k s) ≤ total (lengths_in version_1 n s)
unfolding lengths_in total
total_fewer zero n s h = omega arith
total_fewer (suc k) zero s h = absurd (omega arith)
total_fewer (suc k) (suc n) s h = omega (arith, total_fewer k n (drop 2 s) (le_of_suc-le-suc h))

pub total_many : (table : List ℕ) (n : ℕ) → 256 < n → ◌≡◌ {A = ℕ} 0 (total_in version_1 n table)
unfolding total_in
total_many table n h = sym (rw (lt-leb n 0x100 h))

pub total_few : (table : List ℕ) (n : ℕ) → n ≤ 256 → total_in version_1 n table ≡ total (lengths_in version_1 n table)
unfolding total_in
total_few table n h = rw (le-leb n 0x100 h)

-- ---- one page of those that a table says

pub pages_count : (layout : Layout) (form n : ℕ) (s octets : List ℕ) → length (pages_in layout form n s octets) ≡ n
unfolding pages_in
pages_count layout form zero s octets = refl
pages_count layout form (suc n) s octets = ap suc (pages_count layout form n (drop layout.entry s) _)

pub page_at : (form n k : ℕ) (s octets : List ℕ) (other : ℕ × List ℕ) → k < n
    → get_or (pages_in version_1 form n s octets) k other ≡ (form, take (number16 s (2 * k)) (drop (total (lengths_in version_1 k s)) octets))
unfolding pages_in lengths_in total
page_at form zero k s octets other h = absurd (omega arith)
page_at form (suc n) zero s octets other h = ap (λ (i : ℕ). (form, take i octets)) (first_said s)
page_at form (suc n) (suc k) s octets other h =
    let e : 2 + 2 * k ≡ 2 * suc k = omega arith in
    page_at form n k (drop 2 s) (drop (number16 (take 2 s) 0) octets) other (le_of_suc-le-suc h)
    ∙ ap₂ (λ (i : ℕ) (l : List ℕ). (form, take i l)) (said_behind 2 s (2 * k) ∙ ap (number16 s) e)
    (drop-drop (total (lengths_in version_1 k (drop 2 s))) (number16 (take 2 s) 0) octets)
