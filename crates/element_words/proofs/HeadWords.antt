-- A head word and values that are a sequence: what the test of it says, and what the code's steps rest on.
-- Assumes nothing.
use Prim.Native.Nat.{ℕ, ◌-◌, ◌/◌, ◌%◌, ◌≤◌, ◌<◌}
use mathlib.Core.Path.{◌≡◌, refl, sym, ap, ◌∙◌}
use mathlib.Core.Bool.{Bool, true, false}
use mathlib.Core.List.{List}
use mathlib.Core.Logic.{⊎_elim}
use native.Mathlib.Omega.{arith}
use lib.ListN.{length}
use lib.Dec.{eqb}
use borrow.Author.Tests.{eq-eqb, ne_eqb, eqb-true, eqb-false}
use Rattle.run.specs.Choice.{pick}
use Rattle.run.proofs.Choices.{both_true}
use Rattle.sequence_spelling.specs.SequenceOctets.{Fine, is_fine, spell_sequence, size_of}
use Rattle.sequence_spelling.proofs.Exactly.{fine_test, size_some}
use Rattle.element_words.specs.Words.{sequences_from}
use Rattle.element_words.specs.Words.{head_word, sequence_of, is_sequence}
use Rattle.element_words.proofs.Words.{count_back}

module _ (h : ℕ) (vs : List ℕ) where
  pub is_true : is_sequence h vs ≡ true → Fine (sequence_of h vs) × (head_word (sequence_of h vs) ≡ h)
  is_true e =
      let b = both_true (is_fine (sequence_of h vs)) (eqb (head_word (sequence_of h vs)) h) e in
      ((fine_test (sequence_of h vs)).0 b.0, eqb-true (head_word (sequence_of h vs)) h b.1)

  pub sequence_fine : is_sequence h vs ≡ true → Fine (sequence_of h vs)
  sequence_fine e = (is_true e).0

  pub count_is : is_sequence h vs ≡ true → h % 0x100 ≡ length vs
  count_is e =
      let t = is_true e in
      sym (ap (λ (k : ℕ). k % 0x100) t.1) ∙ count_back (sequence_of h vs) t.0

  pub never : (is_sequence h vs ≡ true → ⊥) → false ≡ is_sequence h vs
  never n = go (is_sequence h vs) refl
    where
      go : (b : Bool) → is_sequence h vs ≡ b → false ≡ b
      go true e = absurd (n e)
      go false e = refl

  pub high_middle : 0x2F < (h - sequences_from) / 0x10000 → false ≡ is_sequence h vs
  high_middle l = never (λ e. ⊎_elim (λ z. omega arith) (λ z. omega arith) (is_true e).0.middle)

  fine_or : (b : Bool) → is_fine (sequence_of h vs) ≡ b
      → (size_of (sequence_of h vs) ≡ 0 → false ≡ is_sequence h vs) × ((size_of (sequence_of h vs) ≡ 0 → ⊥) → is_fine (sequence_of h vs) ≡ true)
  unfolding size_of
  fine_or true e = (
    λ z. absurd (let y : length (spell_sequence (sequence_of h vs)) ≡ 0 = sym (rw e) ∙ z in omega (arith, size_some (sequence_of h vs))),
    λ n. e,
  )
  fine_or false e = (λ z. rw e, λ n. absurd (n (rw e)))

  pub no_size : size_of (sequence_of h vs) ≡ 0 → false ≡ is_sequence h vs
  no_size z = (fine_or (is_fine (sequence_of h vs)) refl).0 z

  same_test : (a b c d : ℕ) → (a ≡ b → c ≡ d) → (c ≡ d → a ≡ b) → eqb a b ≡ eqb c d
  same_test a b c d f g = go (eqb a b) refl
    where
      go : (t : Bool) → eqb a b ≡ t → t ≡ eqb c d
      go true e = sym (eq-eqb c d (f (eqb-true a b e)))
      go false e = sym (ne_eqb c d (λ q. eqb-false a b e (g q)))

  pub by_count : sequences_from ≤ h → (h - sequences_from) / 0x10000 ≤ 0x2F → (size_of (sequence_of h vs) ≡ 0 → ⊥)
      → eqb (h % 0x100) (length vs) ≡ is_sequence h vs
  by_count l m n =
      same_test (h % 0x100) (length vs) (head_word (sequence_of h vs)) h (λ e. omega arith) (λ e. omega arith)
      ∙ ap (λ (b : Bool). pick b (eqb (head_word (sequence_of h vs)) h) false) (sym ((fine_or (is_fine (sequence_of h vs)) refl).1 n))

module _ (h : ℕ) (vs : List ℕ) (e : is_sequence h vs ≡ true) where
  pub middle_small : (h - sequences_from) / 0x10000 < 0x100
  middle_small = ⊎_elim (λ z. omega arith) (λ z. omega arith) (is_true h vs e).0.middle
