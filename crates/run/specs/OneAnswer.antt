-- To be believed: what it is that a promise allows only one answer. A promise is a name of specs/Promises, which a function's `ensures`
-- cites.
-- Assumes nothing.
use Rattle.std.specs.Prelude.{◌≡◌}

-- two results that keep the promise, of the same arguments, are equal
abbrev pub Once : {A : Type 0} → (A → Type 0) → Type 0
Once {A} promise = (r r' : A) → promise r → promise r' → r ≡ r'

-- the same of a result and of what a lent buffer holds after; or of what a lent part holds, and of where it lies
abbrev pub OnceBoth : {A B : Type 0} → (A → B → Type 0) → Type 0
OnceBoth {A} {B} promise = (r r' : A) (b b' : B) → promise r b → promise r' b' → (r ≡ r') × (b ≡ b')
