-- Each promise of a public function allows only one answer; and how that is shown of a promise.
-- Assumes nothing.
use Prim.Native.Nat.{ℕ}
use mathlib.Core.Path.{◌≡◌, sym, ◌∙◌}
use mathlib.Core.List.{List}
use Rattle.run.specs.declared.Answer.{Answer}
use Rattle.run.specs.Answers.{bare, short_room, carrying}
use Rattle.run.specs.Put.{Put}
use Rattle.run.specs.OneAnswer.{Once, OnceBoth}
use Rattle.run.specs.Promises.{BareAnswerPromise, ShortRoomPromise, ReadingOfPromise, PutPromise}

-- a promise by which the result is one thing
pub once : {A : Type 0} (promise : A → Type 0) (one : A) → ((r : A) → promise r → r ≡ one) → Once promise
once promise one is r r' p q = is r p ∙ sym (is r' q)

-- the same of a result and of a lent buffer
pub once_both : {A B : Type 0} (promise : A → B → Type 0) (one : A) (held : B)
    → ((r : A) (b : B) → promise r b → (r ≡ one) × (b ≡ held)) → OnceBoth promise
once_both promise one held is r r' b b' p q =
    let x = is r b p in
    let y = is r' b' q in
    (x.0 ∙ sym y.0, x.1 ∙ sym y.1)

-- the same of what a writer leaves: the place and the buffer
pub once_put : (out : List ℕ) (at : ℕ) (entries : List ℕ) → OnceBoth (λ (r : ℕ) (after : List ℕ). Put out at entries after r)
once_put out at entries r r' a a' p q = (p.place ∙ sym q.place, p.holds ∙ sym q.holds)

pub one_answer : (number needed at octet : ℕ) (out : List ℕ) (a : Answer) (k : ℕ)
    → Once (BareAnswerPromise number)
    × Once (ShortRoomPromise needed)
    × Once (ReadingOfPromise a k)
    × OnceBoth (PutPromise out at octet)
one_answer number needed at octet out a k = (
  once (BareAnswerPromise number) (bare number) (λ r p. p),
  once (ShortRoomPromise needed) (short_room needed) (λ r p. p),
  once (ReadingOfPromise a k) (carrying a k) (λ r p. p),
  once_put out at _,
)
