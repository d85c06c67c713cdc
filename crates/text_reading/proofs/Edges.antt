-- At the public edge: the form's number, the limit, and the fifth number.
-- Assumes nothing.
use Prim.Native.Nat.{ℕ, ◌≤◌, ◌<◌}
use mathlib.Core.Path.{◌≡◌, sym, ap, ap₂, ◌∙◌}
use mathlib.Core.List.{List}
use native.Mathlib.Omega.{arith}
use lib.ListN.{length}
use borrow.Author.Tests.{le-leb, lt-leb, ne_eqb}
use Rattle.run.specs.declared.Answer.{Answer}
use Rattle.run.specs.declared.ReadAnswer.{ReadAnswer}
use Rattle.run.specs.Answers.{bare, short_room, carrying}
use Rattle.sorts.specs.declared.Form.{Form}
use Rattle.std.specs.Prelude.{Option, Some, None}
use Rattle.text_reading.specs.ReadAnswers.{within_limit}
use Rattle.text_reading.specs.ReadingNumbers.{limit}
use Rattle.text_reading.specs.LawWords.{Asked}
use Rattle.sorts.specs.Forms.{in_form}

module _ {A : Type 0} where
  -- no form has the number
  pub no_form : (y : Option Form) (x : A) (k : Form → A) → y ≡ None → x ≡ in_form y x k
  no_form y x k q = sym (ap (λ (z : Option Form). in_form z x k) q)

  -- a form has it
  pub a_form : (y : Option Form) (f : Form) (x a : A) (k : Form → A) → y ≡ Some f → a ≡ k f → a ≡ in_form y x k
  a_form y f x a k q e = e ∙ sym (ap (λ (z : Option Form). in_form z x k) q)

  pub over : (input : List ℕ) (x a : A) → limit < length input → x ≡ within_limit input x a
  over input x a h = simp (lt-leb (length input) limit h)

  pub within : (input : List ℕ) (x a : A) → length input ≤ limit → a ≡ within_limit input x a
  within input x a h = simp (le-leb (length input) limit h)

-- ---- an answer, and what the lent buffer holds after: 11, then 12, then what is promised in the form

module _ (y : Option Form) (input buffer : List ℕ) (promised : Form → Answer) (held : Form → List ℕ) where
  pub asked_none : {r : Answer} → r ≡ bare 11 → y ≡ None → Asked y input buffer promised held r buffer
  asked_none e q = (e ∙ no_form _ _ _ q, no_form _ _ _ q)

  pub asked_over : {r : Answer} {f : Form} → r ≡ bare 12 → y ≡ Some f → limit < length input → Asked y input buffer promised held r buffer
  asked_over e q h = (e ∙ a_form _ _ _ _ _ q (over input _ _ h), a_form _ _ _ _ _ q (over input _ _ h))

  pub asked_within : {r : Answer} {after : List ℕ} {f : Form} → (r ≡ promised f) × (after ≡ held f) → y ≡ Some f → length input ≤ limit
      → Asked y input buffer promised held r after
  asked_within e q h = (a_form _ _ _ _ _ q (e.0 ∙ within input _ _ h), a_form _ _ _ _ _ q (e.1 ∙ within input _ _ h))

-- ---- an answer with its fifth number

module _ {r : ReadAnswer} (a b : Answer) (j k : ℕ) where
  -- a refusal carries 0, whatever is given
  pub carried_refused : r ≡ carrying a j → (a.number ≡ 0 → ⊥) → a ≡ b → r ≡ carrying b k
  carried_refused e n q =
      let z = ne_eqb a.number 0 n in
      let none : ◌≡◌ {A = ReadAnswer} (carrying a j) (carrying a k) = rw z in
      e ∙ none ∙ ap (λ (x : Answer). carrying x k) q

  -- so do 11, 12 and 9
  pub carried_bare : {m : ℕ} → r ≡ carrying a j → a ≡ bare m → 0 < m → a ≡ b → r ≡ carrying b k
  carried_bare {m} e is h q = carried_refused e (λ z. omega (arith, ap (λ (x : Answer). x.number) is)) q

  pub carried_nine : {m : ℕ} → r ≡ carrying a j → a ≡ short_room m → a ≡ b → r ≡ carrying b k
  carried_nine e is q = carried_refused e (λ z. omega (arith, ap (λ (x : Answer). x.number) is)) q

  -- and an accepted answer what is given
  pub carried : r ≡ carrying a j → a ≡ b → j ≡ k → r ≡ carrying b k
  carried e q z = e ∙ ap₂ carrying q z
