-- What a run of writings leaves.
-- Assumes nothing.
use Prim.Native.Nat.{ℕ, suc, ◌+◌, ◌-◌, ◌≤◌, ◌<◌}
use mathlib.Core.Path.{◌≡◌, refl, sym, ap, ap₂, subst, ◌∙◌}
use mathlib.Core.List.{List, [], ◌∷◌, ◌++◌, append_assoc, append-nil}
use mathlib.Core.Bool.{Bool, true, false}
use native.Mathlib.Nat.{add-zero, zero-add}
use native.Mathlib.Numerals.{add-one}
use native.Mathlib.Omega.{arith}
use lib.ListN.{length, get_or, set, take, drop, length-append, length-drop, drop_of_length-le}
use lib.Seq.{sets, sets-eq, length-sets, length-take-le, drop-append_seam, drop-drop, take_all, take-suc, take-append_seam}
use lib.Dec.{leb}
use borrow.Author.Tests.{le-leb, lt-leb}
use borrow.Rule.Slice.PartMut.{put_mid}
use Rattle.run.specs.Choice.{pick}
use Rattle.run.specs.Put.{Put, what_fits}
use Rattle.run.specs.Head.{Outcome, accepted}
use Rattle.run.specs.Answers.{given, over, written_of, RoomFor}
use Rattle.run.proofs.Answers.{given_append, given_one}

sets_append : (l : List ℕ) (i : ℕ) (xs ys : List ℕ) → sets l i (xs ++ ys) ≡ sets (sets l i xs) (i + length xs) ys
sets_append l i [] ys = ap (λ (k : ℕ). sets l k ys) (omega arith)
sets_append l i (x ∷ xs) ys =
    sets_append _ (suc i) xs ys ∙ ap (λ (k : ℕ). sets (sets l i (x ∷ xs)) k ys) (omega arith)

-- nothing is written
pub put_none : (l : List ℕ) (at : ℕ) → Put l at [] l at
put_none l at = record { place = sym (add-zero at); holds = refl }

-- one writing after another
pub put_both : {a b c xs ys : List ℕ} {i j k : ℕ} → Put a i xs b j → Put b j ys c k → Put a i (xs ++ ys) c k
put_both {a} {b} {c} {xs} {ys} {i} {j} {k} p q =
    record {
      place = omega (arith, p.place, q.place, length-append xs ys);
      holds = q.holds ∙ ap₂ (λ (l : List ℕ) (n : ℕ). sets l n ys) p.holds p.place ∙ sym (sets_append a i xs ys);
    }

-- a writing keeps the length
pub put_length : {a b xs : List ℕ} {i j : ℕ} → Put a i xs b j → length b ≡ length a
put_length {a} {b} {xs} {i} p = ap length p.holds ∙ length-sets a i xs

-- the same entries under another name
pub put_as : {a b xs ys : List ℕ} {i j : ℕ} → xs ≡ ys → Put a i xs b j → Put a i ys b j
put_as {a} {b} {i = i} {j = j} e p = subst (λ (l : List ℕ). Put a i l b j) e p

-- a writing from a buffer's start leaves the entries over its first
pub put_over : {a b xs : List ℕ} {j : ℕ} → Put a 0 xs b j → length xs ≤ length a → b ≡ over a xs
put_over {a} {b} {xs} p h = p.holds ∙ sets-eq xs a 0 (omega arith) ∙ rw zero-add

-- and these are its first
pub put_taken : {a b xs : List ℕ} {j : ℕ} → Put a 0 xs b j → length xs ≤ length a → take j b ≡ xs
put_taken {a} {b} {xs} {j} p h =
    let n : j ≡ length xs = omega (arith, p.place) in
    ap₂ take n (put_over p h) ∙ take-append_seam xs (drop (length xs) a)

-- what there is room for after a writing
pub room_rest : {a b : List ℕ} {i j : ℕ} (xs ys : List ℕ) → Put a i xs b j → i + length (xs ++ ys) ≤ length a → j + length ys ≤ length b
room_rest xs ys p h = omega (arith, length-append xs ys, p.place, put_length p)

-- what stands before something that was put, put after it
pub put_before : (a : List ℕ) {b c : List ℕ} (xs ys : List ℕ) → length (xs ++ ys) ≤ length a → b ≡ sets a (length xs) ys → c ≡ sets b 0 xs
    → c ≡ sets a 0 (xs ++ ys)
put_before a {b} {c} xs ys h e q =
    let l = length-append xs ys in
    let n : length b ≡ length a = ap length e ∙ length-sets a (length xs) ys in
    let behind : drop (length xs) b ≡ ys ++ drop (length xs + length ys) a =
    ap (drop (length xs))
    (e ∙ sets-eq ys a (length xs) (omega (arith, l, h)) ∙ append_assoc (take (length xs) a) ys (drop (length xs + length ys) a))
    ∙ ap (λ (i : ℕ). drop i (take (length xs) a ++ (ys ++ drop (length xs + length ys) a))) (sym (length-take-le (length xs) a (omega (arith, l, h))))
    ∙ drop-append_seam (take (length xs) a) (ys ++ drop (length xs + length ys) a) in
    q
    ∙ sets-eq xs b 0 (omega (arith, l, h, n))
    ∙ ap (λ (u : List ℕ). xs ++ u) (ap (λ (i : ℕ). drop i b) (zero-add (length xs)) ∙ behind)
    ∙ sym (append_assoc xs ys (drop (length xs + length ys) a))
    ∙ ap (λ (i : ℕ). (xs ++ ys) ++ drop i a) (sym l ∙ sym (zero-add (length (xs ++ ys))))
    ∙ sym (sets-eq (xs ++ ys) a 0 (omega (arith, h)))

-- ---- what elements give, put

-- what some elements give, and then what others give, is what they give joined
pub put_given : {A : Type 0} (gives : A → List ℕ) (es fs : List A) {a b c : List ℕ} {i j k : ℕ}
    → Put a i (given gives es) b j → Put b j (given gives fs) c k → Put a i (given gives (es ++ fs)) c k
put_given gives es fs p q = put_as (sym (given_append gives es fs)) (put_both p q)

pub put_given_one : {A : Type 0} (gives : A → List ℕ) (es : List A) (e : A) {a b c : List ℕ} {i j k : ℕ}
    → Put a i (given gives es) b j → Put b j (gives e) c k → Put a i (given gives (es ++ (e ∷ []))) c k
put_given_one gives es e p q = put_as (sym (given_one gives es e)) (put_both p q)

-- where there is room for all, the buffer holds what was given, and then the untouched rest
pub put_given_all : {A : Type 0} (gives : A → List ℕ) {es : List A} {x : Outcome A} {a b : List ℕ} {j : ℕ} → Put a 0 (given gives es) b j
    → x ≡ accepted es → RoomFor gives (length a) x → b ≡ written_of gives a x
put_given_all gives {es} {a = a} p e room =
    let k : length (given gives es) ≤ length a = rw e at room in
    put_over p k ∙ rw (e, le-leb (length (given gives es)) (length a) k)

-- ---- the entries from a place on, lent to a callee

abbrev pub behind : List ℕ → ℕ → List ℕ
behind l o = take (length l - o) (drop o l)

pub behind_is : (l : List ℕ) (o : ℕ) → behind l o ≡ drop o l
behind_is l o = take_all (length l - o) (drop o l) (omega (arith, length-drop o l))

pub behind_length : (l : List ℕ) (o : ℕ) → length (behind l o) ≡ length l - o
behind_length l o = ap length (behind_is l o) ∙ length-drop o l

-- what a callee put over the first of them is put from the place on
pub behind_put : (l : List ℕ) (o : ℕ) (l' ws : List ℕ) → o + length ws ≤ length l → l' ≡ over (behind l o) ws
    → Put l o ws (put_mid o (length l - o) l l') (o + length ws)
behind_put l o l' ws h e =
    let z : drop (length l - o) (drop o l) ≡ [] = drop_of_length-le (drop o l) {i = length l - o} (omega (arith, length-drop o l)) in
    record {
      place = refl;
      holds =
          ap₂ (λ (a b : List ℕ). take o l ++ (a ++ b)) (e ∙ ap (λ (k : List ℕ). over k ws) (behind_is l o)) z
          ∙ ap (λ (k : List ℕ). take o l ++ k) (append-nil _ ∙ ap (λ (k : List ℕ). ws ++ k) (drop-drop (length ws) o l))
          ∙ sym (append_assoc (take o l) ws (drop (o + length ws) l))
          ∙ sym (sets-eq ws l o h);
    }

-- ---- what fits

pub all_fit : (out : List ℕ) (at : ℕ) (entries : List ℕ) → at + length entries ≤ length out → what_fits out at entries ≡ entries
all_fit out at entries h = rw (le-leb (at + length entries) (length out) h)

pub none_fits : (out : List ℕ) (at : ℕ) (entries : List ℕ) → length out < at + length entries → what_fits out at entries ≡ []
none_fits out at entries h = rw (lt-leb (at + length entries) (length out) h)

pub nothing_fits : (out : List ℕ) (at : ℕ) → what_fits out at [] ≡ []
nothing_fits out at = by_test (leb (at + 0) (length out))
  where
    by_test : (t : Bool) → ◌≡◌ {A = List ℕ} (pick t [] []) []
    by_test true = refl
    by_test false = refl

-- what has room is written
pub put_fits : {a b : List ℕ} {i j : ℕ} (entries : List ℕ) → i + length entries ≤ length a → Put a i (what_fits a i entries) b j
    → Put a i entries b j
put_fits {a} {i = i} entries h p = put_as (all_fit a i entries h) p

-- one, two and three entries, one after another, where there is room for all
pub put_one : {a b : List ℕ} {i j x : ℕ} → i + 1 ≤ length a → Put a i (what_fits a i (x ∷ [])) b j → Put a i (x ∷ []) b j
put_one {x = x} h p = put_fits (x ∷ []) h p

pub put_two : {a b c : List ℕ} {i j k x y : ℕ} → i + 2 ≤ length a → Put a i (what_fits a i (x ∷ [])) b j
    → Put b j (what_fits b j (y ∷ [])) c k → Put a i (x ∷ y ∷ []) c k
put_two {x = x} {y = y} h p q = let o = put_one (omega arith) p in put_both o (put_one (room_rest (x ∷ []) (y ∷ []) o h) q)

pub put_three : {a b c d : List ℕ} {i j k l x y z : ℕ} → i + 3 ≤ length a → Put a i (what_fits a i (x ∷ [])) b j
    → Put b j (what_fits b j (y ∷ [])) c k → Put c k (what_fits c k (z ∷ [])) d l → Put a i (x ∷ y ∷ z ∷ []) d l
put_three {x = x} {y = y} {z = z} h p q r =
    let o = put_one (omega arith) p in put_both o (put_two (room_rest (x ∷ []) (y ∷ z ∷ []) o h) q r)

-- one entry
pub put_entry : {l : List ℕ} {at o : ℕ} → Put l at (o ∷ []) (set l at o) (at + 1)
put_entry = record { place = refl; holds = refl }

-- one entry, where there is room for it and where there is none
pub entry_fits : (l : List ℕ) (at o : ℕ) → at < length l → Put l at (what_fits l at (o ∷ [])) (set l at o) (at + 1)
entry_fits l at o h = put_as (sym (all_fit l at (o ∷ []) (omega arith))) put_entry

pub entry_lost : (l : List ℕ) (at o : ℕ) → length l ≤ at → Put l at (what_fits l at (o ∷ [])) l at
entry_lost l at o h = put_as (sym (none_fits l at (o ∷ []) (omega arith))) (put_none l at)

-- the first of some entries, and then the next of them
pub put_next : {a b : List ℕ} {at : ℕ} (s : List ℕ) (i : ℕ) → i < length s → Put a at (take i s) b (at + i)
    → Put a at (take (i + 1) s) (set b (at + i) (get_or s i 0)) (at + (i + 1))
put_next {b = b} {at = at} s i h p =
    let x : ℕ = get_or s i 0 in
    let one : Put b (at + i) (x ∷ []) (set b (at + i) x) (at + (i + 1)) = record { place = omega arith; holds = refl } in
    put_as (sym (rw (add-one, take-suc s i 0))) (put_both p one)
