-- What was read of a text up to its end or its first fault, by what the text comes to: its words, and how many of its elements were not
-- canonical, are those of the run before.
-- Assumes nothing.
use Prim.Native.Nat.{ℕ, ◌+◌, ◌≤◌, ◌<◌}
use mathlib.Core.Path.{◌≡◌, refl, sym, ap, ◌∙◌, subst}
use mathlib.Core.List.{List}
use native.Mathlib.Omega.{arith}
use lib.ListN.{length, length-append}
use borrow.Author.Tests.{le-leb}
use Rattle.run.specs.Head.{Outcome, accepted, refusal, refused}
use Rattle.run.specs.Grammar.{Stopped}
use Rattle.run.specs.Before.{Standing, whats}
use Rattle.run.specs.Answers.{answer, given}
use Rattle.run.proofs.Before.{given_before, before_fault, standing_whats}
use Rattle.sorts.specs.declared.Form.{Form}
use Rattle.element_words.specs.declared.Element.{Element}
use Rattle.element_words.specs.Words.{words_of}
use Rattle.element_reading.specs.ElementHead.{head_in}
use Rattle.element_reading.specs.Grammar.{Spells}
use Rattle.element_reading.proofs.Reader.{reads, refuses_exactly_by}
use Rattle.text_loops.specs.declared.Measured.{Measured}
use Rattle.text_loops.specs.Fronts.{read_in, measured, words_before, respelled_before}
use Rattle.text_loops.proofs.Tallied.{tally_start, tally_stop}
use Rattle.text_reading.specs.ReadingNumbers.{ReadingFault}
use Rattle.text_reading.proofs.ReadTexts.{accepted_exactly, refused_exactly}
use Rattle.text_reading.proofs.Respelled.{respelled_joined, respelled_few}
use Rattle.open_elements.proofs.Faults.{fault_small, run_small}

module _ (f : Form) (s : List ℕ) where
  pub accepted_measured : (fs : List Element) → read_in f s ≡ accepted fs
      → (measured f s
      ≡ record {
        answer = answer 0 (length fs) (length s) (length (given words_of fs));
        words = length (given words_of fs);
        respelled = respelled_before f s;
      })
      × (words_before f s ≡ given words_of fs)
  accepted_measured fs q =
      let w = given_before (reads f) words_of s fs q in
      (rw (q, w), w)

  -- the words before a fault
  pub fault_words : {r n p d : ℕ} (at : ReadingFault f s r n p d) → words_before f s ≡ given words_of at.elements
  fault_words {r} {n} {p} {d} at =
      let h : Stopped (Spells f) (λ rest b. head_in f rest ≡ refused r b) s n p d =
      record {
        front = at.front;
        rest = at.rest;
        elements = at.elements;
        behind = at.behind;
        whole = at.whole;
        run = at.run;
        here = (refuses_exactly_by f at.rest r at.behind).1 at.here;
        element_number = at.element_number;
        first_place = at.first_place;
        deciding = at.deciding;
      } in
      ap (λ (l : List (Standing Element)). given words_of (whats l)) (before_fault (reads f) h)
      ∙ ap (given words_of) (standing_whats 0 h.run.1)

  -- the run before a fault, and its words
  pub record ReadTo (r n p d : ℕ) : Type 0 where
    pub fault : ReadingFault f s r n p d
    pub words : words_before f s ≡ given words_of fault.elements

  pub refused_read : (r n p d : ℕ) → read_in f s ≡ refusal r n p d → ReadTo r n p d
  refused_read r n p d q =
      let at = (refused_exactly f s r n p d).0 q in
      record { fault = at; words = fault_words at }

  pub refused_measured : {r n p d : ℕ} (q : read_in f s ≡ refusal r n p d) (z : ReadTo r n p d)
      → measured f s
      ≡ record { answer = answer r n p d; words = length (given words_of z.fault.elements); respelled = respelled_before f s }
  refused_measured {r} q z = let t = le-leb r 8 (fault_small z.fault).number in rw (q, z.words, t)

-- ---- how many elements were not canonical: of a text that is refused, those of the run before the fault

pub head_respelled : (f : Form) (s : List ℕ) {r d : ℕ} → head_in f s ≡ refused r d → respelled_before f s ≡ 0
head_respelled f s q = sym (tally_stop f s (tally_start f s) q)

pub fault_respelled : {f : Form} {s : List ℕ} {r n p d : ℕ} (at : ReadingFault f s r n p d)
    → respelled_before f s ≡ respelled_before f at.front
fault_respelled {f} {s} {r} at =
    let none = head_respelled f at.rest ((refuses_exactly_by f at.rest r at.behind).1 at.here) in
    let both = ap (respelled_before f) at.whole ∙ respelled_joined f at.front at.rest at.elements at.run in
    omega (arith, both, none)

-- ---- what was read, its numbers: no more elements and words than octets, and no more that were not canonical than elements; a refusal is
-- one of 1 to 8, and decided behind its first octet

pub record Modest (m : Measured) (size : ℕ) : Type 0 where
  pub number : m.answer.number ≤ 8
  pub elements : m.answer.element ≤ m.answer.place
  pub words : m.words ≤ size
  pub place : m.answer.place ≤ size
  pub onward : 0 < m.answer.number → m.answer.place ≤ m.answer.count
  pub inside : m.answer.count ≤ size
  pub respelled : m.respelled ≤ m.answer.element

pub modest : (f : Form) (s : List ℕ) → Modest (measured f s) (length s)
modest f s = go (read_in f s) refl
  where
    go : (x : Outcome Element) → read_in f s ≡ x → Modest (measured f s) (length s)
    go (accepted fs) q =
        let r = run_small ((accepted_exactly f s fs).0 q) in
        subst (λ (m : Measured). Modest m (length s)) (sym (accepted_measured f s fs q).0)
        (record {
          number = omega arith;
          elements = r.0;
          words = r.1;
          place = omega arith;
          onward = λ z. absurd (omega arith);
          inside = r.1;
          respelled = respelled_few f s fs q;
        })
    go (refusal r n p d) q =
        let z = refused_read f s r n p d q in
        let k = fault_small z.fault in
        let w = run_small z.fault.run in
        let l : length s ≡ length z.fault.front + length z.fault.rest =
        ap length z.fault.whole ∙ length-append z.fault.front z.fault.rest in
        let few = respelled_few f _ _ ((accepted_exactly f z.fault.front z.fault.elements).1 z.fault.run) in
        subst (λ (m : Measured). Modest m (length s)) (sym (refused_measured f s q z))
        (record {
          number = k.number;
          elements = k.few;
          words = omega (arith, w.1, l);
          place = omega (arith, k.onward, k.inside);
          onward = λ z. k.onward;
          inside = k.inside;
          respelled = omega (arith, fault_respelled z.fault, few, z.fault.element_number);
        })
