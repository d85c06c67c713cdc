-- Where a text stops: behind a run, and with more octets behind it; and how many elements and words stand before.
-- Assumes nothing.
use Prim.Native.Nat.{ℕ, ◌+◌, ◌≤◌}
use mathlib.Core.Path.{◌≡◌, ap, ◌∙◌}
use mathlib.Core.List.{List, ◌++◌, append_assoc}
use native.Mathlib.Omega.{arith}
use lib.ListN.{length, length-append}
use Rattle.run.specs.Grammar.{RunOf}
use Rattle.run.specs.Answers.{given}
use Rattle.run.proofs.Loops.{run_few}
use Rattle.sorts.specs.declared.Form.{Form}
use Rattle.element_words.specs.declared.Element.{Element}
use Rattle.element_words.specs.Words.{words_of}
use Rattle.element_reading.specs.Grammar.{Spells}
use Rattle.element_reading.proofs.Reader.{reads, refuses_exactly_by}
use Rattle.element_reading.proofs.Deciding.{refusal_stays}
use Rattle.element_reading.proofs.Places.{reading_number}
use Rattle.text_loops.proofs.FewWords.{few_words, words_fit}
use Rattle.text_reading.specs.ReadingNumbers.{ReadingFault}

-- a fault other than 4 stays, whatever follows
abbrev pub fault_stays : {f : Form} {s : List ℕ} {r n p d : ℕ} → ReadingFault f s r n p d → (r ≡ 4 → ⊥) → (u : List ℕ)
    → ReadingFault f (s ++ u) r n p d
fault_stays {f} h n u =
    record {
      front = h.front;
      rest = h.rest ++ u;
      elements = h.elements;
      behind = h.behind;
      whole = ap (λ (l : List ℕ). l ++ u) h.whole ∙ append_assoc h.front h.rest u;
      run = h.run;
      here = refusal_stays f h.here n u;
      element_number = h.element_number;
      first_place = h.first_place;
      deciding = h.deciding;
    }

-- the numbers of a fault: 1 to 8; no more elements than octets before it; its deciding place is behind the first, in the text or its end
pub record Small (r n p d size : ℕ) : Type 0 where
  pub some : 1 ≤ r
  pub number : r ≤ 8
  pub few : n ≤ p
  pub onward : p ≤ d
  pub inside : d ≤ size

pub fault_small : {f : Form} {s : List ℕ} {r n p d : ℕ} → ReadingFault f s r n p d → Small r n p d (length s)
fault_small {f} {s} {r} h =
    let k = reading_number f h.here in
    let i = run_few (reads f) (few_words f) h.run.1 in
    let b = (reads f).inside h.rest r h.behind ((refuses_exactly_by f h.rest r h.behind).1 h.here) in
    let l : length s ≡ length h.front + length h.rest = ap length h.whole ∙ length-append h.front h.rest in
    record {
      some = k.0;
      number = k.1;
      few = omega (arith, i.few, h.element_number, h.first_place);
      onward = omega (arith, h.first_place, h.deciding);
      inside = omega (arith, h.deciding, b);
    }

-- a run has no more elements, and no more words, than octets
pub run_small : {f : Form} {s : List ℕ} {es : List Element} → RunOf (Spells f) s es
    → (length es ≤ length s) × (length (given words_of es) ≤ length s)
run_small {f} r = ((run_few (reads f) (few_words f) r.1).few, words_fit r.1)
