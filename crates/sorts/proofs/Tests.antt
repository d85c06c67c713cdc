-- A test of a table: two functions agree at each entry, or a number of each is below a bound. antt computes it, and one law turns it into
-- the fact at an entry.
-- Assumes nothing.
use Prim.Native.Nat.{ℕ, ◌<◌}
use mathlib.Core.Path.{◌≡◌}
use mathlib.Core.Bool.{true}
use mathlib.Core.List.{List, map, Memᴰ}
use lib.Dec.{ltb}
use borrow.Author.Tests.{ltb-true}
use Rattle.run.proofs.Members.{at_member}

abbrev pub Alike : {A B : Type 0} → (A → B) → (A → B) → List A → Type 0
Alike told wanted l = map told l ≡ map wanted l

abbrev pub AllBelow : {A : Type 0} → ℕ → (A → ℕ) → List A → Type 0
AllBelow b key l = Alike (λ a. ltb (key a) b) (λ a. true) l

pub below : {A : Type 0} (b : ℕ) (key : A → ℕ) {a : A} {l : List A} → Memᴰ a l → AllBelow b key l → key a < b
below b key {a} h t = ltb-true (key a) b (at_member (λ x. ltb (key x) b) (λ x. true) h t)
