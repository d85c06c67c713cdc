-- What `element_at` finds keeps its promise: 01's four numbers of it, the fifth, and the element's words, stand in 01's row for the place,
-- and in no other; and its flag says whether the octets read are canonical.
-- Assumes nothing.
use Prim.Native.Nat.{ℕ, ◌+◌, ◌-◌}
use mathlib.Core.Path.{◌≡◌, refl, sym, ap, ap₂, ◌∙◌, subst, subst₂}
use mathlib.Core.Logic.{◌↔◌}
use mathlib.Core.Bool.{Bool, true, false}
use mathlib.Core.List.{List}
use native.Mathlib.Omega.{arith}
use lib.ListN.{length, take, drop, length-drop, drop_of_length-le}
use Rattle.run.specs.Choice.{pick}
use Rattle.run.specs.Head.{Head, element, refused, none}
use Rattle.run.specs.Grammar.{Begins}
use Rattle.run.specs.Tagged.{tag_head}
use Rattle.run.specs.declared.ReadAnswer.{ReadAnswer}
use Rattle.run.specs.Answers.{answer}
use Rattle.run.proofs.Choices.{is_false}
use Rattle.run.proofs.Outcomes.{front_taken}
use Rattle.sorts.specs.declared.Form.{Form}
use Rattle.element_words.specs.declared.Element.{Element}
use Rattle.element_words.specs.Words.{words_of}
use Rattle.element_spelling.specs.ElementOctets.{CanonicalElement, is_canonical}
use Rattle.element_spelling.proofs.Writer.{is_canonical_lem}
use Rattle.element_reading.specs.declared.Step.{Step}
use Rattle.element_reading.specs.declared.Step.TheVariants.{Element as Read}
use Rattle.element_reading.specs.Grammar.{Spells}
use Rattle.element_reading.specs.ElementHead.{head_in, step_of, step_at}
use Rattle.element_reading.specs.ElementNumbers.{step_reading, step_words, reading, ElementRow}
use Rattle.element_reading.specs.Promises.{ElementAtPromise}
use Rattle.element_reading.proofs.Reader.{reads, refuses_exactly_by, begins_head}
use Rattle.element_reading.proofs.ReadBack.{says_canonical}

module _ (f : Form) (text : List ℕ) (at : ℕ) where
  abbrev Told : Step → Type 0
  Told s = ElementRow f text at (step_reading s) (step_words s)

  -- the answer, by what stands at the head
  abbrev step : Head Element → Step
  step h = step_of at (tag_head (is_canonical f) (drop at text) h)

  -- an element that stands there has its row, by the test of its octets
  pub element_row : (e : Element) (k : ℕ) (b : Begins (Spells f) (drop at text) e k) (t : Bool) → is_canonical f b.front e ≡ t
      → ElementRow f text at (reading (answer 0 1 (at + k) (length (words_of e))) (pick t 0 1)) (words_of e)
  element_row e k b true q = ElementRow.canonical b (says_canonical f b.spells q)
  element_row e k b false q =
      ElementRow.otherwise b (λ c. let z : true ≡ false = sym (is_canonical_lem f c) ∙ q in let w : ◌≡◌ {A = ℕ} 0 1 = cc in omega arith)

  row_of : (h : Head Element) → head_in f (drop at text) ≡ h → Told (step h)
  row_of (element e k) q =
      let b = (reads f).found (drop at text) e k q in
      element_row e k b (is_canonical f (take k (drop at text)) e) (ap (λ (p : List ℕ). is_canonical f p e) (sym (front_taken b)))
  row_of (refused r d) q = ElementRow.refused ((refuses_exactly_by f (drop at text) r d).0 q)
  row_of none q =
      let z : length (drop at text) ≡ 0 = ap length ((reads f).goes (drop at text) q) in
      ElementRow.none_left (omega (arith, length-drop at text))

  step_row : Told (step_at f text at)
  unfolding step_at
  step_row = row_of (head_in f (drop at text)) refl

  by_head : (h : Head Element) → head_in f (drop at text) ≡ h
      → (step_reading (step_at f text at) ≡ step_reading (step h)) × (step_words (step_at f text at) ≡ step_words (step h))
  unfolding step_at
  by_head h q = (ap (λ (x : Head Element). step_reading (step x)) q, ap (λ (x : Head Element). step_words (step x)) q)

  -- an element whose octets pass the test, or not
  by_test : {e : Element} {k : ℕ} (b : Begins (Spells f) (drop at text) e k) (t : Bool) → is_canonical f b.front e ≡ t
      → (step_reading (step_at f text at) ≡ reading (answer 0 1 (at + k) (length (words_of e))) (pick t 0 1))
      × (step_words (step_at f text at) ≡ words_of e)
  by_test {e} {k} b t q =
      let h = by_head (element e k) (begins_head f b) in
      let z : is_canonical f (take k (drop at text)) e ≡ t = ap (λ (p : List ℕ). is_canonical f p e) (front_taken b) ∙ q in
      (h.0 ∙ ap (λ (x : Bool). reading (answer 0 1 (at + k) (length (words_of e))) (pick x 0 1)) z, h.1)

  row_step : {a : ReadAnswer} {ws : List ℕ} → ElementRow f text at a ws
      → (step_reading (step_at f text at) ≡ a) × (step_words (step_at f text at) ≡ ws)
  row_step (ElementRow.none_left h) = by_head none (ap (head_in f) (drop_of_length-le text h) ∙ (reads f).ends)
  row_step (ElementRow.canonical b c) = by_test b true (is_canonical_lem f c)
  row_step (ElementRow.otherwise {e} b n) =
      by_test b false (is_false (is_canonical f b.front e) (λ q. n (says_canonical f b.spells q)))
  row_step (ElementRow.refused {r} {d} h) = by_head (refused r d) ((refuses_exactly_by f (drop at text) r d).1 h)

  -- The five numbers of the answer at a place, and the words of the element read there, are exactly those of the row.
  pub step_exactly : (a : ReadAnswer) (ws : List ℕ)
      → ElementRow f text at a ws ↔ ((step_reading (step_at f text at) ≡ a) × (step_words (step_at f text at) ≡ ws))
  step_exactly a ws = (row_step, λ e. subst₂ (ElementRow f text at) e.0 e.1 step_row)

  flag_by : (h : Head Element) → head_in f (drop at text) ≡ h → (e : Element) (next : ℕ) (b : Bool) → Read e next b ≡ step h
      → (b ≡ true) ↔ CanonicalElement f (take (next - at) (drop at text)) e
  flag_by (element e₀ k) q e next b z =
      let i = (reads f).found (drop at text) e₀ k q in
      let same : e₀ ≡ e = cc in
      let after : next ≡ at + k = cc in
      let told : b ≡ is_canonical f (take k (drop at text)) e₀ = cc in
      let size : next - at ≡ k = omega (arith, after) in
      let octets : take (next - at) (drop at text) ≡ i.front = ap (λ (n : ℕ). take n (drop at text)) size ∙ front_taken i in
      let test : b ≡ is_canonical f (take (next - at) (drop at text)) e =
      told ∙ ap₂ (λ (n : ℕ) (x : Element). is_canonical f (take n (drop at text)) x) (sym size) same in
      (λ y. says_canonical f (subst₂ (Spells f) (sym octets) same i.spells) (sym test ∙ y), λ c. test ∙ is_canonical_lem f c)
  flag_by (refused r d) q e next b z = let w : ◌≡◌ {A = ℕ} 0 1 = cc in absurd (omega arith)
  flag_by none q e next b z = let w : ◌≡◌ {A = ℕ} 0 1 = cc in absurd (omega arith)

  -- The flag of an element that is read holds exactly where the octets read, from its place up to the one after it, are its canonical
  -- spelling.
  pub flag_exactly : (e : Element) (next : ℕ) (b : Bool) → ElementAtPromise f text at (Read e next b)
      → (b ≡ true) ↔ CanonicalElement f (take (next - at) (drop at text)) e
  unfolding step_at
  flag_exactly e next b promise = flag_by (head_in f (drop at text)) refl e next b promise.0

  pub step_kept : (r : Step) → r ≡ step_at f text at → ElementAtPromise f text at r
  step_kept r e = (e, subst Told (sym e) step_row)
