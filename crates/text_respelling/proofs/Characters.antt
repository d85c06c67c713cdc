-- What lent tables read of a text is what stands at its head, in its canonical spelling: a spacing character, or a pair; and where the
-- target's table spells it, what the passes know of it.
-- Assumes nothing.
use Prim.Native.Nat.{ℕ, ◌+◌, ◌-◌, ◌≤◌, ◌<◌}
use mathlib.Core.Path.{◌≡◌, refl, sym, ap, ◌∙◌, subst}
use mathlib.Core.Bool.{Bool, true, false}
use mathlib.Core.List.{List, [], ◌∷◌}
use native.Mathlib.Omega.{arith}
use lib.Dec.{ltb}
use lib.ListN.{length, get_or, take, drop, drop_of_length-le}
use borrow.Author.Tests.{ltb-true, ltb-false, lt-ltb, le-ltb}
use Rattle.run.specs.Choice.{pick}
use Rattle.run.specs.Head.{element}
use Rattle.run.proofs.FromPlace.{at_place}
use Rattle.squares.specs.Squares.{square_table}
use Rattle.sorts.specs.declared.Form.{Form}
use Rattle.sorts.specs.declared.Sort.{Sort}
use Rattle.std.specs.Prelude.{Option, Some, None}
use Rattle.sorts.specs.Sorts.{sort_in}
use Rattle.spelling_tables.specs.PackedSpellings.{spelling_table, packed_in}
use Rattle.lent_tables.specs.CodeTables.{no_character, code_table, code_in, paired_in}
use Rattle.lent_tables.proofs.LentEntries.{WrittenOctet, graphic_code, pair_code}
use Rattle.element_words.specs.declared.Element.TheVariants.{One}
use Rattle.element_spelling.specs.ElementOctets.{is_canonical}
use Rattle.element_reading.specs.ElementHead.{head_sort, head_in, canonical_head, pair_head, follower_head}
use Rattle.text_loops.specs.LawWords.{HereStands}
use Rattle.text_loops.proofs.Tallied.{stands_told, canonical_one, written_canonical, listed_canonical}
use Rattle.text_writing.proofs.Packed.{packed_word}
use Rattle.text_writing.proofs.Runs.{Spelt}
use Rattle.text_respelling.specs.declared.Character.{Character}
use Rattle.text_respelling.specs.Parts.{character, pairs_from, pair_of, marked_in, character_in}

-- ---- what is read at a place

module _ (codes : List ℕ) (squares : List (List ℕ)) (text : List ℕ) (at w : ℕ) (inside : at < length text)
    (code : w ≡ code_in codes (get_or text at 0)) where
  here : (x : Option Character) → pick (ltb w no_character) (Some (character w 1)) (marked_in squares w (drop (at + 1) text)) ≡ x
      → x ≡ character_in codes squares (drop at text)
  here x q =
      sym q
      ∙ ap (λ (k : ℕ). pick (ltb k no_character) (Some (character k 1)) (marked_in squares k (drop (at + 1) text))) code
      ∙ sym (ap (character_in codes squares) (at_place text at inside))

  -- a spacing character by itself
  pub single : w < no_character → Some (character w 1) ≡ character_in codes squares (drop at text)
  single h = here (Some (character w 1)) (simp (lt-ltb w no_character h))

  -- a mark at the end of the text
  pub alone : no_character ≤ w → length text - at < 2 → None ≡ character_in codes squares (drop at text)
  alone h l =
      here None
      (simp (le-ltb w no_character h) (ap (marked_in squares w) (drop_of_length-le text {i = at + 1} (omega arith))))

  -- a mark and what follows it: none, or a character of ASCII,
  module _ (h : no_character ≤ w) (l : 2 ≤ length text - at) (c : ℕ) (e : c ≡ paired_in squares w (get_or text (at + 1) 0)) where
    marked : (x : Option Character) → pair_of c ≡ x → x ≡ character_in codes squares (drop at text)
    marked x q =
        here x
        (simp (le-ltb w no_character h)
        (ap (marked_in squares w) (at_place text (at + 1) (omega arith)) ∙ ap pair_of (sym e) ∙ q))

    pub low_pair : c < pairs_from → None ≡ character_in codes squares (drop at text)
    low_pair b = marked None (simp (lt-ltb c pairs_from b))

    -- or another
    pub high_pair : pairs_from ≤ c → Some (character c 2) ≡ character_in codes squares (drop at text)
    high_pair b = marked (Some (character c 2)) (simp (le-ltb c pairs_from b))

-- ---- and that is an element

-- the character c stands at the head of s, and its k octets are its canonical spelling
record CanonicalHere (f : Form) (s : List ℕ) (c k : ℕ) : Type 0 where
  pub here : head_in f s ≡ element (One c) k
  pub canonical : is_canonical f (take k s) (One c) ≡ true

module _ (f : Form) (c k : ℕ) where
  no_character_here : {A : Type 0} → ◌≡◌ {A = Option Character} None (Some (character c k)) → A
  no_character_here e = let w : ◌≡◌ {A = ℕ} 0 1 = cc in absurd (omega arith)

  -- by the test whether the pair's character is one of ASCII
  by_character : (o l : ℕ) (s : List ℕ) (x : ℕ) → x ≡ paired_in square_table (code_in (code_table f) o) l → (t : Bool) → ltb x pairs_from ≡ t
      → pick t None (Some (character x 2)) ≡ Some (character c k) → CanonicalHere f (o ∷ l ∷ s) c k
  unfolding head_in follower_head
  by_character o l s x q true t e = no_character_here e
  by_character o l s x q false t e =
      let same : character x 2 ≡ character c k = cc in
      let is : x ≡ c = ap (λ (y : Character). y.code) same in
      let size : 2 ≡ k = ap (λ (y : Character). y.size) same in
      let high : 0x80 ≤ c = omega (arith, ltb-false x pairs_from t, is) in
      let p = pair_code f o l c (λ z. omega arith) (sym is ∙ q) in
      subst (CanonicalHere f (o ∷ l ∷ s) c) size
      (record {
        here =
            ap (λ (z : Sort). head_sort f z o (l ∷ s)) p.sorts
            ∙ ap (λ (y : Option ℕ). pair_head false 1 y (sort_in f l)) p.square;
        canonical = listed_canonical f o l c p high;
      })

  paired : (o : ℕ) (s : List ℕ) → marked_in square_table (code_in (code_table f) o) s ≡ Some (character c k) → CanonicalHere f (o ∷ s) c k
  paired o [] e = no_character_here e
  paired o (l ∷ s) e =
      let x : ℕ = paired_in square_table (code_in (code_table f) o) l in by_character o l s x refl (ltb x pairs_from) refl e

  by_test : (o : ℕ) (s : List ℕ) (t : Bool) → ltb (code_in (code_table f) o) no_character ≡ t
      → pick t (Some (character (code_in (code_table f) o) 1)) (marked_in square_table (code_in (code_table f) o) s) ≡ Some (character c k)
      → CanonicalHere f (o ∷ s) c k
  unfolding head_in
  by_test o s true t e =
      let w : ℕ = code_in (code_table f) o in
      let same : character w 1 ≡ character c k = cc in
      let q : w ≡ c = ap (λ (x : Character). x.code) same in
      let size : 1 ≡ k = ap (λ (x : Character). x.size) same in
      let is = subst (WrittenOctet f o) q (graphic_code f o (ltb-true w no_character t)) in
      subst (CanonicalHere f (o ∷ s) c) size
      (record { here = ap (λ (z : Sort). head_sort f z o s) is.sorts; canonical = written_canonical f o c is })
  by_test o s false t e = paired o s e

  character_here : (s : List ℕ) → character_in (code_table f) square_table s ≡ Some (character c k) → CanonicalHere f s c k
  character_here [] e = no_character_here e
  character_here (o ∷ s) e = by_test o s (ltb (code_in (code_table f) o) no_character) refl e

-- ---- which the target's table spells

module _ (f g : Form) (text : List ℕ) (at : ℕ) (x : Character) (found : Some x ≡ character_in (code_table f) square_table (drop at text))
    (p : ℕ) (looked : p ≡ packed_in (spelling_table g) x.code) (some : p ≡ 0 → ⊥) where
  there : CanonicalHere f (drop at text) x.code x.size
  there = character_here f x.code x.size (drop at text) (sym found)

  pub text_spelt : Spelt (head_in f) g text at x.code x.size p
  text_spelt = record { here = there.here; spelling = packed_word g x.code p looked some }

  -- and it is told of it that it is canonical
  pub text_told : HereStands (canonical_head f (drop at text)) at (canonical_one x.code) (at + x.size)
  text_told = stands_told f (drop at text) at there.here there.canonical
