-- From what the words at a place mean to what a loop knows.
-- Assumes nothing.
use Prim.Native.Nat.{ℕ, ◌+◌, ◌<◌}
use mathlib.Core.Path.{◌≡◌, refl, sym, ap, ap₂, ◌∙◌}
use mathlib.Core.List.{List}
use native.Mathlib.Omega.{arith}
use lib.ListN.{length, get_or, drop, length-drop}
use borrow.Author.Tests.{lt-ltb}
use Rattle.run.specs.Head.{Head, element, refused, none}
use Rattle.run.proofs.FromPlace.{at_place}
use Rattle.element_words.specs.declared.Element.{Element}
use Rattle.element_words.specs.declared.Element.TheVariants.{One}
use Rattle.element_words.specs.declared.Meant.{Meant}
use Rattle.element_words.specs.declared.Meant.TheVariants.{Element as Word}
use Rattle.element_words.specs.Words.{sequences_from, word_head, meant_of, meant_at}
use Rattle.element_words.proofs.Words.{words_read, words_refused}
use Rattle.text_loops.specs.LawWords.{HereStands}

-- ---- words

here_by : (h : Head Element) (at : ℕ) (e : Element) (next : ℕ) → meant_of at h ≡ Word e next → HereStands h at e next
here_by (element e₀ k) at e next q = record { size = k; here = cc; onward = cc }
here_by (refused r d) at e next q = let w : ◌≡◌ {A = ℕ} 0 1 = cc in absurd (omega arith)
here_by none at e next q = let w : ◌≡◌ {A = ℕ} 0 1 = cc in absurd (omega arith)

-- the element that the words at a place are
pub word_here : (words : List ℕ) (at : ℕ) (e : Element) (next : ℕ) → meant_at words at ≡ Word e next
    → HereStands (word_head (drop at words)) at e next
unfolding meant_at
word_here words at e next q = here_by (word_head (drop at words)) at e next q

module _ (words : List ℕ) (at : ℕ) (inside : at < length words) where
  none_by : (h : Head Element) → word_head (drop at words) ≡ h → ((e : Element) (k : ℕ) → meant_of at h ≡ Word e k → ⊥) → h ≡ refused 10 0
  none_by (element e k) q u = absurd (u e (at + k) refl)
  none_by (refused r d) q u = let z = words_refused (drop at words) r d q in ap₂ refused (sym z.0) (sym z.1)
  none_by none q u = absurd (omega (arith, length-drop at words, ap length (words_read.goes (drop at words) q)))

  -- words before the end that are no element are refused with 10, at the first
  pub no_word_here : (x : Meant) → x ≡ meant_at words at → ((e : Element) (k : ℕ) → x ≡ Word e k → ⊥) → word_head (drop at words) ≡ refused 10 0
  unfolding meant_at
  no_word_here x q o = none_by (word_head (drop at words)) refl (λ e k z. o e k (q ∙ z))

-- ---- a word that is a character's

-- one word below 2^26 is an element by itself
pub word_here_alone : (words : List ℕ) (at : ℕ) → at < length words → get_or words at 0 < sequences_from
    → word_head (drop at words) ≡ element (One (get_or words at 0)) 1
unfolding word_head
word_here_alone words at h l = ap word_head (at_place words at h) ∙ simp (lt-ltb (get_or words at 0) sequences_from l)
