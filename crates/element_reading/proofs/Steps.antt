-- What each way out of the code that reads an element rests on: the definition at a place of a text, by the octet there.
-- Assumes nothing.
use Prim.Native.Nat.{ℕ, ◌+◌, ◌*◌, ◌-◌, ◌≤◌, ◌<◌}
use mathlib.Core.Path.{◌≡◌, refl, sym, ap, ap₂, ◌∙◌}
use mathlib.Core.Bool.{Bool, true}
use mathlib.Core.List.{List, ◌∷◌}
use native.Mathlib.Nat.{add-zero}
use native.Mathlib.Omega.{arith}
use lib.ListN.{length, get_or, take, drop, drop_of_length-le, length-append, length-drop}
use Rattle.run.specs.Head.{Head, element, refused, none}
use Rattle.run.proofs.FromPlace.{at_place}
use Rattle.sorts.specs.declared.Form.{Form}
use Rattle.sorts.specs.declared.Sort.{Sort}
use Rattle.sorts.specs.declared.Sort.TheVariants.{Graphic, Control, Refused}
use Rattle.std.specs.Prelude.{Option, Some, None}
use Rattle.squares.specs.Squares.{square_of}
use Rattle.sorts.specs.Sorts.{sort_in}
use Rattle.element_words.specs.declared.Element.TheVariants.{One, Sequence as SequenceOf}
use Rattle.sequence_reading.specs.declared.Reading.TheVariants.{Whole, Refused as Bad, End as NoMore}
use Rattle.sequence_reading.specs.Grammar.{Sequence}
use Rattle.sequence_reading.specs.EightValues.{values_of}
use Rattle.sequence_reading.specs.SequenceHead.{sequence_head, reading_of, reading_at}
use Rattle.sequence_reading.proofs.Reader.{sequence_reads, read_eight}
use Rattle.sequence_spelling.specs.SequenceOctets.{canonical_behind}
use Rattle.canonical_tests.specs.Tests.{word_canonical}
use Rattle.element_reading.specs.declared.Step.TheVariants.{Element as Read, Refused as Stopped, End}
use Rattle.element_words.specs.Words.{sequences_from}
use Rattle.element_words.specs.Words.{graphic_word, control_word, head_word}
use Rattle.element_reading.specs.ElementHead.{high_or, pair_head, follower_head, as_element}
use Rattle.element_reading.specs.ElementHead.{head_sort, head_in, step_at}
use Rattle.element_reading.specs.StepTests.{test_by, step_by}
use Rattle.element_reading.proofs.StepsRight.{step_right}

-- ---- a control sequence
module _ (at : ℕ) where
  whole_by : (f : Form) (text : List ℕ) (h : Head Sequence) (m l n k w : ℕ) (vs : List ℕ) (b : Bool) → reading_of at h ≡ Whole m l n vs k
      → w ≡ sequences_from + 0x10000 * m + 0x100 * l + n → b ≡ canonical_behind true (drop 1 (take (k - at) (drop at text)))
      → Read (SequenceOf w n vs) k b ≡ step_by f text at (as_element h)
  whole_by f text (element q j) m l n k w vs b e z c =
      let em : q.middle ≡ m = cc in
      let el : q.last ≡ l = cc in
      let en : length q.values ≡ n = cc in
      let ev : values_of q.values ≡ vs = cc in
      let ek : at + j ≡ k = cc in
      let ew : w ≡ head_word q = omega arith in
      let ej : k - at ≡ j = omega arith in
      let eb : b ≡ canonical_behind true (drop 1 (take j (drop at text))) =
      c ∙ ap (λ (i : ℕ). canonical_behind true (drop 1 (take i (drop at text)))) ej in
      cc
  whole_by f text (refused r d) m l n k w vs b e z c = let y : ◌≡◌ {A = ℕ} 0 1 = cc in absurd (omega arith)
  whole_by f text none m l n k w vs b e z c = let y : ◌≡◌ {A = ℕ} 0 1 = cc in absurd (omega arith)

  stopped_by_lem : (f : Form) (text : List ℕ) (h : Head Sequence) (r d : ℕ) → reading_of at h ≡ Bad r d
      → Stopped r at d ≡ step_by f text at (as_element h)
  stopped_by_lem f text (element q j) r d e = let y : ◌≡◌ {A = ℕ} 0 1 = cc in absurd (omega arith)
  stopped_by_lem f text (refused r' d') r d e = let er : r' ≡ r = cc in let ed : at + d' ≡ d = cc in cc
  stopped_by_lem f text none r d e = let y : ◌≡◌ {A = ℕ} 0 1 = cc in absurd (omega arith)

  ended_by_lem : (f : Form) (text : List ℕ) (h : Head Sequence) → reading_of at h ≡ NoMore → End ≡ step_by f text at (as_element h)
  ended_by_lem f text (element q j) e = let y : ◌≡◌ {A = ℕ} 0 1 = cc in absurd (omega arith)
  ended_by_lem f text (refused r d) e = let y : ◌≡◌ {A = ℕ} 0 1 = cc in absurd (omega arith)
  ended_by_lem f text none e = refl

  -- a sequence that is read has at most eight values, and ends within the text
  inside_by : (s : List ℕ) (h : Head Sequence) → sequence_head s ≡ h → (m l n k : ℕ) (vs : List ℕ) → reading_of at h ≡ Whole m l n vs k
      → (n ≤ 8) × (at < k) × (k - at ≤ length s)
  inside_by s (element q j) z m l n k vs e =
      let en : length q.values ≡ n = cc in
      let ek : at + j ≡ k = cc in
      let b = sequence_reads.found s q j z in
      let whole : length s ≡ length b.front + length b.rest = ap length b.whole ∙ length-append b.front b.rest in
      omega (arith, read_eight s q j z, b.size, sequence_reads.some b.front q b.spells)
  inside_by s (refused r d) z m l n k vs e = let y : ◌≡◌ {A = ℕ} 0 1 = cc in absurd (omega arith)
  inside_by s none z m l n k vs e = let y : ◌≡◌ {A = ℕ} 0 1 = cc in absurd (omega arith)

  module _ (text : List ℕ) where
    pub sequence_whole : (m l n k w : ℕ) (vs : List ℕ) (b : Bool) → reading_at text at ≡ Whole m l n vs k
        → w ≡ sequences_from + 0x10000 * m + 0x100 * l + n → b ≡ canonical_behind true (drop 1 (take (k - at) (drop at text)))
        → (f : Form) → Read (SequenceOf w n vs) k b ≡ step_by f text at (as_element (sequence_head (drop at text)))
    unfolding reading_at
    sequence_whole m l n k w vs b e z c f = whole_by f text (sequence_head (drop at text)) m l n k w vs b e z c

    pub sequence_inside : (m l n k : ℕ) (vs : List ℕ) → reading_at text at ≡ Whole m l n vs k
        → (n ≤ 8) × (at < k) × (k ≤ length text)
    unfolding reading_at
    sequence_inside m l n k vs e =
        let i = inside_by (drop at text) (sequence_head (drop at text)) refl m l n k vs e in
        (i.0, i.1, omega (arith, i.1, i.2, length-drop at text))

    pub sequence_stopped : (r d : ℕ) → reading_at text at ≡ Bad r d
        → (f : Form) → Stopped r at d ≡ step_by f text at (as_element (sequence_head (drop at text)))
    unfolding reading_at
    sequence_stopped r d e f = stopped_by_lem f text (sequence_head (drop at text)) r d e

    pub sequence_ended : reading_at text at ≡ NoMore → (f : Form) → End ≡ step_by f text at (as_element (sequence_head (drop at text)))
    unfolding reading_at
    sequence_ended e f = ended_by_lem f text (sequence_head (drop at text)) e

    -- from the element's first octet on
    pub sequence_first : (f : Form) → at < length text → step_by f text at (as_element (sequence_head (drop at text)))
        ≡ step_by f text at (as_element (sequence_head (get_or text at 0 ∷ drop (at + 1) text)))
    sequence_first f h = ap (λ (l : List ℕ). step_by f text at (as_element (sequence_head l))) (at_place text at h)

-- ---- by the sort of an octet: all but a refusal; all but a spacing character and a mark

module _ (f : Form) (text : List ℕ) where
  -- ---- a follower at i
  module _ (m : ℕ) (u : Bool) (at i : ℕ) (le : at ≤ i) where
    pub follower_end : length text ≤ i → Stopped 4 at i ≡ step_by f text at (follower_head f m u (i - at) (drop i text))
    unfolding follower_head
    follower_end h =
        sym (ap (λ (l : List ℕ). step_by f text at (follower_head f m u (i - at) l)) (drop_of_length-le text h)
        ∙ ap (Stopped 4 at) (omega arith))

    follower_here : i < length text
        → step_by f text at (follower_head f m u (i - at) (drop i text))
        ≡ step_by f text at (pair_head u (i - at) (square_of m (get_or text i 0)) (sort_in f (get_or text i 0)))
    unfolding follower_head
    follower_here h = ap (λ (l : List ℕ). step_by f text at (follower_head f m u (i - at) l)) (at_place text i h)

    pub follower_not : (r : ℕ) → i < length text → square_of m (get_or text i 0) ≡ None → r ≡ high_or 3 (sort_in f (get_or text i 0))
        → Stopped r at i ≡ step_by f text at (follower_head f m u (i - at) (drop i text))
    follower_not r h e q =
        let n : i ≡ at + (i - at) = omega arith in
        ap₂ (λ (k : ℕ) (c : ℕ). Stopped k at c) q n
        ∙ sym (follower_here h ∙ ap (λ (x : Option ℕ). step_by f text at (pair_head u (i - at) x (sort_in f (get_or text i 0)))) e)

    pub follower_is : (c w : ℕ) (b : Bool) → i < length text → square_of m (get_or text i 0) ≡ Some c → w ≡ graphic_word u c
        → b ≡ word_canonical f w (get_or text i 0) (i + 1 - at)
        → Read (One w) (i + 1) b ≡ step_by f text at (follower_head f m u (i - at) (drop i text))
    follower_is c w b h e q z =
        let n : i + 1 ≡ at + (i - at + 1) = omega arith in
        let j : i ≡ at + (i - at + 1) - 1 = omega arith in
        let s : i + 1 - at ≡ i - at + 1 = omega arith in
        let t : b ≡ word_canonical f (graphic_word u c) (get_or text (at + (i - at + 1) - 1) 0) (i - at + 1) =
        z
        ∙ ap₂ (λ (x y : ℕ). word_canonical f w (get_or text x 0) y) j s
        ∙ ap (λ (v : ℕ). word_canonical f v (get_or text (at + (i - at + 1) - 1) 0) (i - at + 1)) q in
        ap₂ (λ (k : ℕ) (c : Bool). Read (One k) (i + 1) c) q t
        ∙ ap (λ (k : ℕ). Read (One (graphic_word u c)) k (test_by f text at (One (graphic_word u c)) (i - at + 1))) n
        ∙ sym (follower_here h ∙ ap (λ (x : Option ℕ). step_by f text at (pair_head u (i - at) x (sort_in f (get_or text i 0)))) e)

  module _ (at : ℕ) where
    -- the follower of a mark, d octets behind the first
    pub follower_behind : (d m : ℕ) (u : Bool)
        → step_by f text at (follower_head f m u (at + d - at) (drop (at + d) text))
        ≡ step_by f text at (follower_head f m u d (drop (at + d) text))
    follower_behind d m u =
        ap (λ (k : ℕ). step_by f text at (follower_head f m u k (drop (at + d) text))) (let n : at + d - at ≡ d = omega arith in n)

    -- ---- at the element's first octet
    pub none_left : length text ≤ at → End ≡ step_at f text at
    unfolding head_in
    none_left h = sym (ap (λ (l : List ℕ). step_by f text at (head_in f l)) (drop_of_length-le text h)) ∙ step_right f text at

    pub first_here : (s : Sort) → at < length text → sort_in f (get_or text at 0) ≡ s
        → step_by f text at (head_sort f s (get_or text at 0) (drop (at + 1) text)) ≡ step_at f text at
    unfolding head_in
    first_here s h e =
        sym (ap (λ (l : List ℕ). step_by f text at (head_in f l)) (at_place text at h)
        ∙ ap (λ (x : Sort). step_by f text at (head_sort f x (get_or text at 0) (drop (at + 1) text))) e)
        ∙ step_right f text at

    -- one octet is the element
    one_here : (w : ℕ) (b : Bool) → b ≡ word_canonical f w (get_or text at 0) 1
        → Read (One w) (at + 1) b ≡ step_by f text at (element (One w) 1)
    one_here w b z =
        let j : at ≡ at + 1 - 1 = omega arith in
        ap (Read (One w) (at + 1)) (z ∙ ap (λ (x : ℕ). word_canonical f w (get_or text x 0) 1) j)

    pub graphic_here : (c : ℕ) (b : Bool) → at < length text → sort_in f (get_or text at 0) ≡ Graphic c
        → b ≡ word_canonical f c (get_or text at 0) 1 → Read (One c) (at + 1) b ≡ step_at f text at
    graphic_here c b h e z = one_here c b z ∙ first_here (Graphic c) h e

    pub control_here : (w : ℕ) (b : Bool) → at < length text → sort_in f (get_or text at 0) ≡ Control → w ≡ control_word (get_or text at 0)
        → b ≡ word_canonical f w (get_or text at 0) 1 → Read (One w) (at + 1) b ≡ step_at f text at
    control_here w b h e q z =
        one_here w b z ∙ ap (λ (v : ℕ). step_by f text at (element (One v) 1)) q ∙ first_here Control h e

    pub refused_here : (n : ℕ) → at < length text → sort_in f (get_or text at 0) ≡ Refused n → Stopped n at at ≡ step_at f text at
    refused_here n h e = ap (Stopped n at) (sym (add-zero at)) ∙ first_here (Refused n) h e
