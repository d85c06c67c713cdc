-- The laws of answers and of lent buffers, over any payload.
-- Assumes nothing.
use mathlib.Core.Path.{◌≡◌, refl, sym, ◌∙◌, ap}
use mathlib.Core.Logic.{◌↔◌}
use mathlib.Core.List.{List, [], ◌∷◌, ◌++◌, append_assoc, append-nil}
use mathlib.Core.Bool.{Bool, true, false}
use Prim.Native.Nat.{ℕ, ◌+◌, ◌-◌, ◌≤◌}
use native.Mathlib.Omega.{arith}
use lib.Dec.{eqb, leb}
use lib.ListN.{length, drop, get_or, length-append, length-drop}
use lib.Seq.{get_or-append-add, get_or-drop}
use borrow.Author.Tests.{leb-true, eq-eqb, ne_eqb, eqb-true, eqb-false}
use Rattle.run.specs.Choice.{pick}
use Rattle.run.specs.Head.{Outcome, accepted, refusal}
use Rattle.run.specs.declared.Answer.{Answer}
use Rattle.run.specs.declared.ReadAnswer.{ReadAnswer}
use Rattle.run.specs.Answers.{answer, given, answer_of, written_of, over, carrying, Carries}

-- what joined lists of elements give is what each gives, joined
pub given_append : {A : Type 0} (gives : A → List ℕ) (es fs : List A) → given gives (es ++ fs) ≡ given gives es ++ given gives fs
unfolding given
given_append gives [] fs = refl
given_append gives (e ∷ es) fs =
    ap (λ (l : List ℕ). gives e ++ l) (given_append gives es fs) ∙ sym (append_assoc (gives e) (given gives es) (given gives fs))

pub given_length : {A : Type 0} (gives : A → List ℕ) (es fs : List A)
    → length (given gives (es ++ fs)) ≡ length (given gives es) + length (given gives fs)
given_length gives es fs = ap length (given_append gives es fs) ∙ length-append (given gives es) (given gives fs)

-- room for what joined lists give is room for what the first gives
pub given_front : {A : Type 0} (gives : A → List ℕ) (es fs : List A) {r : ℕ} → length (given gives (es ++ fs)) ≤ r
    → length (given gives es) ≤ r
given_front gives es fs h = omega (arith, given_length gives es fs, h)

-- and of one element more
pub given_one : {A : Type 0} (gives : A → List ℕ) (es : List A) (e : A) → given gives (es ++ (e ∷ [])) ≡ given gives es ++ gives e
unfolding given
given_one gives es e = given_append gives es (e ∷ []) ∙ ap (λ (l : List ℕ). given gives es ++ l) (append-nil (gives e))

pub given_more : {A : Type 0} (gives : A → List ℕ) (es : List A) (e : A)
    → length (given gives (es ++ (e ∷ []))) ≡ length (given gives es) + length (gives e)
given_more gives es e = ap length (given_one gives es e) ∙ length-append (given gives es) (gives e)

pub over_length : (l ws : List ℕ) → length ws ≤ length l → length (over l ws) ≡ length l
over_length l ws h = omega (arith, length-append ws (drop (length ws) l), length-drop (length ws) l)

-- an entry past what was given stays
pub over_past : (l ws : List ℕ) (k d : ℕ) → length ws ≤ k → get_or (over l ws) k d ≡ get_or l k d
over_past l ws k d h =
    let e : length ws + (k - length ws) ≡ k = omega arith in
    ap (λ (i : ℕ). get_or (over l ws) i d) (sym e)
    ∙ get_or-append-add ws (drop (length ws) l) (k - length ws) d
    ∙ get_or-drop (length ws) l (k - length ws) d
    ∙ ap (λ (i : ℕ). get_or l i d) e

module _ {A : Type 0} (gives : A → List ℕ) (n : ℕ) (l : List ℕ) where
  by_room : (ws : List ℕ) (t : Bool) (es : ℕ) → leb (length ws) (length l) ≡ t
      → ((pick t (answer 0 es n (length ws)) (answer 9 0 0 (length ws))).number ≡ 0 → ⊥) → pick t (over l ws) l ≡ l
  by_room ws true es e h = absurd (h refl)
  by_room ws false es e h = refl

  -- A refusal leaves the buffer as it stood, every entry of it.
  pub refusal_keeps : (x : Outcome A) → ((answer_of gives n (length l) x).number ≡ 0 → ⊥) → written_of gives l x ≡ l
  refusal_keeps (accepted es) h = by_room (given gives es) (leb (length (given gives es)) (length l)) (length es) refl h
  refusal_keeps (refusal r e p d) h = refl

  room_length : (ws : List ℕ) (t : Bool) → leb (length ws) (length l) ≡ t → length (pick t (over l ws) l) ≡ length l
  room_length ws true e = over_length l ws (leb-true (length ws) (length l) e)
  room_length ws false e = refl

  -- The buffer keeps its length.
  pub written_length : (x : Outcome A) → length (written_of gives l x) ≡ length l
  written_length (accepted es) = room_length (given gives es) (leb (length (given gives es)) (length l)) refl
  written_length (refusal r e p d) = refl

  past_by : (ws : List ℕ) (t : Bool) (es k d : ℕ) → (pick t (answer 0 es n (length ws)) (answer 9 0 0 (length ws))).count ≤ k
      → get_or (pick t (over l ws) l) k d ≡ get_or l k d
  past_by ws true es k d h = over_past l ws k d h
  past_by ws false es k d h = refl

  -- Entries past the count stay.
  pub past_count : (x : Outcome A) (k d : ℕ) → (answer_of gives n (length l) x).count ≤ k → get_or (written_of gives l x) k d ≡ get_or l k d
  past_count (accepted es) k d h = past_by (given gives es) (leb (length (given gives es)) (length l)) (length es) k d h
  past_count (refusal r e p i) k d h = refl

-- ---- the fifth number

pub carrying_none : (a : Answer) (k : ℕ) → (a.number ≡ 0 → ⊥) → ◌≡◌ {A = ReadAnswer} (record { answer = a; respelled = 0 }) (carrying a k)
carrying_none a k h = rw (ne_eqb a.number 0 h)

pub carrying_it : (a : Answer) (k : ℕ) → a.number ≡ 0 → ◌≡◌ {A = ReadAnswer} (record { answer = a; respelled = k }) (carrying a k)
carrying_it a k h = rw (eq-eqb a.number 0 h)

pub carrying_zero : (a : Answer) → ◌≡◌ {A = ReadAnswer} (carrying a 0) (record { answer = a; respelled = 0 })
carrying_zero a = go (eqb a.number 0)
  where
    go : (t : Bool) → ◌≡◌ {A = ReadAnswer} (record { answer = a; respelled = pick t 0 0 }) (record { answer = a; respelled = 0 })
    go true = refl
    go false = refl

-- An accepted answer carries it,
pub accepted_carries : {r : ReadAnswer} (a : Answer) (k : ℕ) → r ≡ carrying a k → r.answer.number ≡ 0 → r.respelled ≡ k
accepted_carries a k e z =
    ap (λ (x : ReadAnswer). x.respelled) e
    ∙ ap (λ (t : Bool). pick t k 0) (eq-eqb a.number 0 (sym (ap (λ (x : ReadAnswer). x.answer.number) e) ∙ z))

-- a refusal 0;
pub refused_carries : {r : ReadAnswer} (a : Answer) (k : ℕ) → r ≡ carrying a k → (r.answer.number ≡ 0 → ⊥) → r.respelled ≡ 0
refused_carries a k e n =
    ap (λ (x : ReadAnswer). x.respelled) e
    ∙ ap (λ (t : Bool). pick t k 0) (ne_eqb a.number 0 (λ z. n (ap (λ (x : ReadAnswer). x.answer.number) e ∙ z)))

-- and where one number is counted so, an answer with it is exactly one that carries what is counted.
module _ {Counted : ℕ → Type 0} (r : ReadAnswer) (n : ℕ) (counted : r.answer.number ≡ 0 → (k : ℕ) → (n ≡ k) ↔ Counted k) where
  by_number : Carries Counted r → (t : Bool) → eqb r.answer.number 0 ≡ t → r.respelled ≡ pick t n 0
  by_number c true e = let z = eqb-true r.answer.number 0 e in sym ((counted z r.respelled).1 (c.on_acceptance z))
  by_number c false e = c.on_refusal (eqb-false r.answer.number 0 e)

  pub carries_exactly : (r ≡ carrying r.answer n) ↔ Carries Counted r
  carries_exactly = (
    λ e.
        record {
          on_acceptance = λ z. (counted z r.respelled).0 (sym (accepted_carries r.answer n e z));
          on_refusal = refused_carries r.answer n e;
        },
    λ c. ap (λ (k : ℕ). record { answer = r.answer; respelled = k }) (by_number c (eqb r.answer.number 0) refl),
  )
