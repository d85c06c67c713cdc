-- A test over a list, which antt computes, becomes the rule at each member.
-- Assumes nothing.
use Prim.Native.Nat.{ℕ, zero, suc, ◌<◌}
use mathlib.Core.Path.{◌≡◌, refl, sym, ap, ◌∙◌}
use mathlib.Core.List.{List, [], ◌∷◌, ◌++◌, map, Memᴰ}
use native.Mathlib.Nat.{le_of_suc-le-suc}
use native.Mathlib.Omega.{arith}
use lib.ListN.{length, get_or}

-- what stands first in a list, and the list without it
pub first : {A : Type 0} → A → List A → A
first d [] = d
first d (x ∷ xs) = x

pub rest : {A : Type 0} → List A → List A
rest [] = []
rest (x ∷ xs) = xs

-- two lists are one from the first on
pub same_first : {A : Type 0} {x y : A} {xs ys : List A} → x ∷ xs ≡ y ∷ ys → x ≡ y
unfolding first
same_first {x = x} e = ap (first x) e

pub same_rest : {A : Type 0} {x y : A} {xs ys : List A} → x ∷ xs ≡ y ∷ ys → xs ≡ ys
unfolding rest
same_rest e = ap rest e

-- f and g agree at each member of a list at which their values, listed, are one list
pub at_member : {A B : Type 0} (f g : A → B) {a : A} {l : List A} → Memᴰ a l → map f l ≡ map g l → f a ≡ g a
at_member f g (Memᴰ.head p) e = ap f p ∙ same_first e ∙ sym (ap g p)
at_member f g (Memᴰ.tail m) e = at_member f g m (same_rest e)

-- a member of one of two lists is a member of the two joined
pub member_left : {A : Type 0} {a : A} {l : List A} → Memᴰ a l → (m : List A) → Memᴰ a (l ++ m)
member_left (Memᴰ.head p) m = Memᴰ.head p
member_left (Memᴰ.tail h) m = Memᴰ.tail (member_left h m)

pub member_right : {A : Type 0} {a : A} (l : List A) {m : List A} → Memᴰ a m → Memᴰ a (l ++ m)
member_right [] h = h
member_right (x ∷ l) h = Memᴰ.tail (member_right l h)

-- the entry at a place of a list is a member of it
pub member_at : {A : Type 0} (l : List A) (d : A) (k : ℕ) → k < length l → Memᴰ (get_or l k d) l
member_at [] d k h = absurd (omega arith)
member_at (a ∷ l) d zero h = Memᴰ.head refl
member_at (a ∷ l) d (suc k) h = Memᴰ.tail (member_at l d k (le_of_suc-le-suc h))
