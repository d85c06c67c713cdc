-- Each public function's promise allows only one answer: two results that keep it, of the same arguments, are equal.
-- Assumes nothing.
use Prim.Native.Nat.{ℕ, min}
use mathlib.Core.List.{List}
use lib.ListN.{length}
use Rattle.run.specs.OneAnswer.{Once, OnceBoth}
use Rattle.run.proofs.OneAnswer.{once, once_put}
use Rattle.element_words.specs.declared.Element.{Element}
use Rattle.element_words.specs.Words.{words_of, is_sequence, meant_at}
use Rattle.element_words.specs.Promises.{IsSequencePromise, ElementOfPromise, KeptPromise, WordsInPromise, PutWordsPromise}

pub one_answer : (words : List ℕ) (at head count : ℕ) (e : Element)
    → Once (IsSequencePromise head words)
    × Once (ElementOfPromise words at)
    × Once (KeptPromise count)
    × Once (WordsInPromise e)
    × OnceBoth (PutWordsPromise e words at)
one_answer words at head count e = (
  once (IsSequencePromise head words) (is_sequence head words) (λ r p. p),
  once (ElementOfPromise words at) (meant_at words at) (λ r p. p.0),
  once (KeptPromise count) (min count 8) (λ r p. p),
  once (WordsInPromise e) (length (words_of e)) (λ r p. p),
  once_put words at _,
)
