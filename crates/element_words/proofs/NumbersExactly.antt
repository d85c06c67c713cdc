-- What `element_of` finds keeps its promise: 01's number and values of it stand in 01's row for the place, and in no other.
-- Assumes nothing.
use Prim.Native.Nat.{ℕ, ◌<◌}
use mathlib.Core.Path.{◌≡◌, refl, sym, ap, ◌∙◌, subst, subst₂}
use mathlib.Core.Logic.{◌↔◌}
use mathlib.Core.List.{List, [], ◌∷◌}
use native.Mathlib.Omega.{arith}
use lib.ListN.{length, drop, length-drop}
use Rattle.run.specs.Head.{Head, element, refused, none}
use Rattle.run.specs.declared.Answer.{Answer}
use Rattle.run.specs.Grammar.{Begins}
use Rattle.element_words.specs.declared.Element.{Element}
use Rattle.element_words.specs.declared.Meant.{Meant}
use Rattle.element_words.specs.Words.{Means, word_head, meant_of, meant_at}
use Rattle.element_words.specs.MeantNumbers.{meant_answer, meant_words, MeantRow}
use Rattle.element_words.specs.Promises.{ElementOfPromise}
use Rattle.element_words.proofs.Words.{words_read}
use Rattle.element_words.proofs.Meanings.{no_word}

-- the reader of words gives what begins the list
begins_head : {ws : List ℕ} {e : Element} {k : ℕ} → Begins Means ws e k → word_head ws ≡ element e k
begins_head {e = e} b =
    ap word_head b.whole ∙ words_read.finds b.front b.rest e b.spells ∙ ap (element e) (sym b.size)

refused_some : (ws : List ℕ) (r d : ℕ) → word_head ws ≡ refused r d → 0 < length ws
refused_some [] r d q = let e = words_read.ends in let w : ◌≡◌ {A = ℕ} 0 1 = cc in absurd (omega arith)
refused_some (w ∷ ws) r d q = omega arith

module _ (words : List ℕ) (at : ℕ) where
  abbrev Told : Meant → Type 0
  Told m = MeantRow words at (meant_answer at m) (meant_words m)

  row_of : (h : Head Element) → word_head (drop at words) ≡ h → Told (meant_of at h)
  row_of (element e k) q = MeantRow.element (words_read.found (drop at words) e k q)
  row_of (refused r d) q =
      MeantRow.no_element (omega (arith, refused_some (drop at words) r d q, length-drop at words))
      (λ e k b. let p = begins_head b in let w : ◌≡◌ {A = ℕ} 0 1 = cc in omega arith)
  row_of none q =
      let z : length (drop at words) ≡ 0 = ap length (words_read.goes (drop at words) q) in
      MeantRow.none_left (omega (arith, length-drop at words))

  meant_row : Told (meant_at words at)
  unfolding meant_at
  meant_row = row_of (word_head (drop at words)) refl

  by_head : (h : Head Element) → word_head (drop at words) ≡ h → meant_at words at ≡ meant_of at h
  unfolding meant_at
  by_head h q = ap (meant_of at) q

  -- where words stand and no element's are the first of them, 10
  none_means : at < length words → ((e : Element) (k : ℕ) → Begins Means (drop at words) e k → ⊥) → (h : Head Element)
      → word_head (drop at words) ≡ h → meant_at words at ≡ meant_of at (refused 10 0)
  none_means l n (element e k) q = absurd (n e k (words_read.found (drop at words) e k q))
  none_means l n (refused r d) q = by_head (refused r d) q
  none_means l n none q =
      let z : length (drop at words) ≡ 0 = ap length (words_read.goes (drop at words) q) in
      absurd (omega (arith, length-drop at words))

  row_meant : {a : Answer} {ws : List ℕ} → MeantRow words at a ws
      → (meant_answer at (meant_at words at) ≡ a) × (meant_words (meant_at words at) ≡ ws)
  row_meant (MeantRow.none_left h) = let e = sym (no_word words at h) in (ap (meant_answer at) e, ap meant_words e)
  row_meant (MeantRow.element {e} {k} b) =
      let q = by_head (element e k) (begins_head b) in
      (ap (meant_answer at) q, ap meant_words q)
  row_meant (MeantRow.no_element l n) =
      let q = none_means l n (word_head (drop at words)) refl in
      (ap (meant_answer at) q, ap meant_words q)

  -- The four numbers of the answer for the words at a place, and the element's words, are exactly those of 01's row.
  pub meant_exactly : (a : Answer) (ws : List ℕ)
      → MeantRow words at a ws ↔ ((meant_answer at (meant_at words at) ≡ a) × (meant_words (meant_at words at) ≡ ws))
  meant_exactly a ws = (row_meant, λ e. subst₂ (MeantRow words at) e.0 e.1 meant_row)

  pub meant_kept : (r : Meant) → r ≡ meant_at words at → ElementOfPromise words at r
  meant_kept r e = (e, subst Told (sym e) meant_row)
