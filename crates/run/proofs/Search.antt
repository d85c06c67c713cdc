-- A look-up by key: what it finds is a member of the list; what holds of each entry holds of what is found. The filled places of a table.
-- Assumes nothing.
use Prim.Native.Nat.{ℕ, zero, suc}
use mathlib.Core.Path.{◌≡◌, refl, sym, ap, subst, ◌∙◌}
use mathlib.Core.List.{List, [], ◌∷◌, ◌++◌, map, Memᴰ}
use mathlib.Core.Bool.{Bool, true, false}
use lib.Dec.{eqb, T}
use borrow.Author.Tests.{eqb-true}
use Rattle.run.specs.Choice.{pick, first_by}
use Rattle.run.proofs.Members.{same_first, same_rest}

module _ {A B : Type 0} (key : A → ℕ) (gives : A → B) (missing : B) where
  -- an entry of the list that has the key and gives what was found
  pub record Hit (l : List A) (k : ℕ) (b : B) : Type 0 where
    pub entry : A
    pub member : Memᴰ entry l
    pub has_key : key entry ≡ k
    pub is_given : gives entry ≡ b

  hit_more : {x : A} {l : List A} {k : ℕ} {b : B} → Hit l k b → Hit (x ∷ l) k b
  hit_more h = record { entry = h.entry; member = Memᴰ.tail h.member; has_key = h.has_key; is_given = h.is_given }

  hit_by : (a : A) (l : List A) (k : ℕ) (b : B) (t : Bool) → eqb (key a) k ≡ t → (missing ≡ b → ⊥)
      → (first_by key gives missing l k ≡ b → Hit l k b) → pick t (gives a) (first_by key gives missing l k) ≡ b → Hit (a ∷ l) k b
  hit_by a l k b true q n ih e = record { entry = a; member = Memᴰ.head refl; has_key = eqb-true (key a) k q; is_given = e }
  hit_by a l k b false q n ih e = hit_more (ih e)

  -- what is found, and not missing, is given by a member with the key
  pub hit : (l : List A) (k : ℕ) (b : B) → (missing ≡ b → ⊥) → first_by key gives missing l k ≡ b → Hit l k b
  hit [] k b n e = absurd (n e)
  hit (a ∷ l) k b n e = hit_by a l k b (eqb (key a) k) refl n (hit l k b n) e

  append_by : (a : A) (l m : List A) (k : ℕ) (b : B) (t : Bool)
      → (first_by key gives missing l k ≡ b → first_by key gives missing (l ++ m) k ≡ b)
      → pick t (gives a) (first_by key gives missing l k) ≡ b → pick t (gives a) (first_by key gives missing (l ++ m) k) ≡ b
  append_by a l m k b true ih e = e
  append_by a l m k b false ih e = ih e

  -- what is found in the first of two lists is found in the two joined
  pub found_first : (l m : List A) (k : ℕ) (b : B) → (missing ≡ b → ⊥) → first_by key gives missing l k ≡ b
      → first_by key gives missing (l ++ m) k ≡ b
  found_first [] m k b n e = absurd (n e)
  found_first (a ∷ l) m k b n e = append_by a l m k b (eqb (key a) k) (found_first l m k b n) e

  found_by : {C : Type 0} (f g : B → C) (t : Bool) (a b : B) → f a ≡ g a → f b ≡ g b → f (pick t a b) ≡ g (pick t a b)
  found_by f g true a b p q = p
  found_by f g false a b p q = q

  -- f and g agree at what is found, where they agree at what is missing and at what each entry gives
  pub found_alike : {C : Type 0} (f g : B → C) (l : List A) → f missing ≡ g missing → map (λ a. f (gives a)) l ≡ map (λ a. g (gives a)) l
      → (k : ℕ) → f (first_by key gives missing l k) ≡ g (first_by key gives missing l k)
  found_alike f g [] m e k = m
  found_alike f g (a ∷ l) m e k =
      found_by f g (eqb (key a) k) (gives a) (first_by key gives missing l k) (same_first e) (found_alike f g l m (same_rest e) k)

  unmet_by : (test : ℕ → Bool) (a : A) (k : ℕ) (b : B) (t : Bool) → eqb (key a) k ≡ t → test (key a) ≡ true → (T (test k) → ⊥)
      → b ≡ missing → pick t (gives a) b ≡ missing
  unmet_by test a k b true q met n e = absurd (n (subst T (sym (sym (ap test (eqb-true (key a) k q)) ∙ met)) tt))
  unmet_by test a k b false q met n e = e

  -- nothing is found by a key that fails a test which each entry's key meets
  pub unmet : (test : ℕ → Bool) (l : List A) → map (λ a. test (key a)) l ≡ map (λ a. true) l → (k : ℕ) → (T (test k) → ⊥)
      → first_by key gives missing l k ≡ missing
  unmet test [] met k n = refl
  unmet test (a ∷ l) met k n =
      unmet_by test a k (first_by key gives missing l k) (eqb (key a) k) refl (same_first met) n (unmet test l (same_rest met) k n)

-- the entries of n places of a table from i on: `table i` is 0 where the place i is empty, else the key of its entry `at i`
abbrev pub filled : {A : Type 0} → (ℕ → ℕ) → (ℕ → A) → ℕ → ℕ → List A
filled table at i zero = []
filled table at i (suc n) = let more = filled table at (suc i) n in pick (eqb (table i) 0) more (at i ∷ more)
