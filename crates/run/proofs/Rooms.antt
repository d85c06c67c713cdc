-- From the first pass's answer to the whole answer, with the room: over any outcome whose refusals have a number.
-- Assumes nothing.
use Prim.Native.Nat.{ℕ, ◌≤◌, ◌<◌}
use mathlib.Core.Path.{◌≡◌, refl, ap, ◌∙◌}
use mathlib.Core.List.{List}
use native.Mathlib.Omega.{arith}
use lib.ListN.{length}
use borrow.Author.Tests.{le-leb, lt-leb}
use Rattle.run.specs.Head.{Head, Outcome, accepted, refusal, outcome}
use Rattle.run.specs.Grammar.{Reads}
use Rattle.run.specs.declared.Answer.{Answer}
use Rattle.run.specs.Answers.{short_room, given, answer_of, roomy_answer, RoomFor, after_reading}
use Rattle.run.specs.Loops.{Numbered, WholeAnswer}
use Rattle.run.proofs.Outcomes.{placed}

pub numbered : {X A : Type 0} {head : List X → Head A} {S : List X → A → Type 0} → Reads head S → (s : List X) → Numbered (outcome head s)
numbered {A = A} {head = head} laws s = go (outcome head s) refl
  where
    go : (x : Outcome A) → outcome head s ≡ x → Numbered x
    go (accepted es) e = tt
    go (refusal r n p d) e = (placed laws s r n p d e).number

module _ {A : Type 0} (gives : A → List ℕ) (n : ℕ) (l : List ℕ) (m : Answer) where
  -- the first pass refused
  pub refuses : (x : Outcome A) → m ≡ roomy_answer gives n x → (m.number ≡ 0 → ⊥) → WholeAnswer gives n l x m l
  refuses (accepted es) q h = absurd (h (ap (λ (y : Answer). y.number) q))
  refuses (refusal r e p d) q h = (q, refl)

  -- the room is short
  pub short : (x : Outcome A) → Numbered x → m ≡ roomy_answer gives n x → m.number ≡ 0 → length l < m.count
      → WholeAnswer gives n l x (short_room m.count) l
  short (accepted es) z q h k =
      let c : m.count ≡ length (given gives es) = ap (λ (y : Answer). y.count) q in
      let t = lt-leb (length (given gives es)) (length l) (omega arith) in
      (simp (c, t), simp t)
  short (refusal r e p d) z q h k = let y : m.number ≡ r = ap (λ (y : Answer). y.number) q in absurd (omega arith)

  -- there is room
  pub roomy : (x : Outcome A) → Numbered x → m ≡ roomy_answer gives n x → m.number ≡ 0 → m.count ≤ length l
      → RoomFor gives (length l) x × (m ≡ answer_of gives n (length l) x)
  roomy (accepted es) z q h k =
      let c : m.count ≡ length (given gives es) = ap (λ (y : Answer). y.count) q in
      let t : length (given gives es) ≤ length l = omega arith in
      (t, q ∙ simp (le-leb (length (given gives es)) (length l) t))
  roomy (refusal r e p d) z q h k = let y : m.number ≡ r = ap (λ (y : Answer). y.number) q in absurd (omega arith)

-- room for what is given, and room enough, are an answer as with room enough
pub as_roomy : {A : Type 0} (gives : A → List ℕ) (n room : ℕ) (x : Outcome A)
    → ((es : List A) → x ≡ accepted es → length (given gives es) ≤ room) → answer_of gives n room x ≡ roomy_answer gives n x
as_roomy gives n room (accepted es) h = simp (le-leb (length (given gives es)) room (h es refl))
as_roomy gives n room (refusal r e p d) h = refl

-- ---- one outcome after another: the reading first

module _ {A B : Type 0} (gives : A → List ℕ) (gives' : B → List ℕ) (n : ℕ) (l : List ℕ) (m : Answer) where
  -- the first is refused, and so is the whole
  pub first_refused : (x : Outcome A) (y : Outcome B) → m ≡ roomy_answer gives n x → (m.number ≡ 0 → ⊥)
      → WholeAnswer gives' n l (after_reading x y) m l
  first_refused (accepted es) y q h = absurd (h (ap (λ (y : Answer). y.number) q))
  first_refused (refusal r e p d) y q h = (q, refl)

  -- the first is accepted, and the whole is the second
  pub first_accepted : (x : Outcome A) (y : Outcome B) (r : Answer) (l' : List ℕ) → Numbered x → m ≡ roomy_answer gives n x → m.number ≡ 0
      → WholeAnswer gives' n l y r l' → WholeAnswer gives' n l (after_reading x y) r l'
  first_accepted (accepted es) y r l' z q h a = a
  first_accepted (refusal r₀ e p d) y r l' z q h a = let w : m.number ≡ r₀ = ap (λ (y : Answer). y.number) q in absurd (omega arith)
