-- The public function's promise allows only one answer: two results that keep it, of the same arguments, are equal. 01's number and what
-- is canonical alone allow only one.
-- Assumes nothing.
use Prim.Native.Nat.{ℕ}
use Rattle.run.specs.OneAnswer.{Once}
use Rattle.run.proofs.OneAnswer.{once}
use Rattle.sorts.specs.declared.Form.{Form}
use Rattle.spelling.specs.SpellingGiven.{spell_in}
use Rattle.spelling.specs.Promises.{SpellInPromise, SpellInNumbers}
use Rattle.spelling.proofs.SpellingFacts.{spelling_by}

pub one_answer : (form : Form) (c : ℕ) → Once (SpellInPromise form c)
one_answer form c = once (SpellInPromise form c) (spell_in form c) (λ r p. p.0)

pub one_by_numbers : (form : Form) (c : ℕ) → Once (SpellInNumbers form c)
one_by_numbers form c = once (SpellInNumbers form c) (spell_in form c) (spelling_by form c)
