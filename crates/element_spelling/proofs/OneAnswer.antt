-- Each public function's promise allows only one answer: two results that keep it, of the same arguments, are equal.
-- Assumes nothing.
use Prim.Native.Nat.{ℕ}
use mathlib.Core.List.{List}
use lib.ListN.{length}
use Rattle.run.specs.OneAnswer.{Once, OnceBoth}
use Rattle.run.proofs.OneAnswer.{once, once_put}
use Rattle.sorts.specs.declared.Form.{Form}
use Rattle.element_words.specs.declared.Element.{Element}
use Rattle.element_spelling.specs.ElementOctets.{spell_element}
use Rattle.element_spelling.specs.Promises.{SpeltSizePromise, PutSpellingPromise}

pub one_answer : (form : Form) (e : Element) (out : List ℕ) (at : ℕ)
    → Once (SpeltSizePromise form e)
    × OnceBoth (PutSpellingPromise form e out at)
one_answer form e out at = (once (SpeltSizePromise form e) (length (spell_element form e)) (λ r p. p), once_put out at _)
