-- How many elements were not canonical, as the loops over a text count them: behind an element, behind a run of what a lent table has,
-- behind a pair of it; and where a loop stops.
-- Assumes nothing.
use Prim.Native.Nat.{ℕ, ◌+◌, ◌≤◌}
use mathlib.Core.Path.{◌≡◌, refl, sym, ap, ap₂, ◌∙◌, subst₂}
use mathlib.Core.Bool.{Bool, true}
use mathlib.Core.List.{List, [], ◌∷◌, ◌++◌, map}
use native.Mathlib.Nat.{add-zero}
use native.Mathlib.Omega.{arith}
use borrow.Author.Tests.{eqb-true}
use lib.ListN.{length, take, drop, length-map}
use Rattle.run.specs.Choice.{pick}
use Rattle.run.specs.Head.{Head, element, refused, none}
use Rattle.run.specs.Grammar.{Run, Reads}
use Rattle.run.specs.Answers.{given}
use Rattle.run.specs.Loops.{Bounded}
use Rattle.run.specs.Tagged.{Tagged, tag_head}
use Rattle.run.specs.Tally.{noted}
use Rattle.run.proofs.Loops.{count_start, count_turn, count_turns}
use Rattle.run.proofs.Before.{counted_end, counted_stop}
use Rattle.run.proofs.Tags.{element_of, tagged_reads}
use Rattle.run.proofs.Tallies.{noted_size, noted_few, tally_most}
use Rattle.sorts.specs.declared.Form.{Form}
use Rattle.std.specs.Prelude.{Option, Some, None}
use Rattle.sorts.specs.Cells.{octet_in}
use Rattle.sorts.specs.Forms.{alphabet_of}
use Rattle.spelling.specs.CanonicalSpelling.{Codes, Canonical, IsThat}
use Rattle.spelling.proofs.CanonicalExactly.{written_chosen}
use Rattle.lent_tables.specs.CodeTables.{is_written, ListedPair}
use Rattle.lent_tables.proofs.LentEntries.{WrittenOctet}
use Rattle.element_words.specs.declared.Element.{Element}
use Rattle.element_words.specs.declared.Element.TheVariants.{One}
use Rattle.element_spelling.specs.ElementOctets.{CanonicalElement, is_canonical}
use Rattle.element_spelling.proofs.Writer.{is_canonical_lem}
use Rattle.canonical_tests.proofs.TestsRight.{high_pair_canonical}
use Rattle.element_reading.specs.declared.Step.TheVariants.{Element as Read}
use Rattle.element_reading.specs.Grammar.{Spells}
use Rattle.element_reading.specs.ElementHead.{head_in, canonical_head, step_of, step_at}
use Rattle.element_reading.proofs.Reader.{reads}
use Rattle.text_loops.specs.Fronts.{respelled_before}
use Rattle.text_loops.specs.LawWords.{HereStands, Tallied}

-- ---- what stands at a place, with whether it is canonical

told_by_lem : (h : Head (Element × Bool)) (at : ℕ) (e : Element) (next : ℕ) (b : Bool) → step_of at h ≡ Read e next b
    → HereStands h at (e, b) next
told_by_lem (element x k) at e next b q =
    let e0 : x.0 ≡ e = cc in
    let e1 : x.1 ≡ b = cc in
    record { size = k; here = ap₂ (λ (y : Element) (z : Bool). element (y, z) k) e0 e1; onward = cc }
told_by_lem (refused r d) at e next b q = let w : ◌≡◌ {A = ℕ} 0 1 = cc in absurd (omega arith)
told_by_lem none at e next b q = let w : ◌≡◌ {A = ℕ} 0 1 = cc in absurd (omega arith)

pub told_here : (f : Form) (text : List ℕ) (at : ℕ) (e : Element) (next : ℕ) (b : Bool) → step_at f text at ≡ Read e next b
    → HereStands (canonical_head f (drop at text)) at (e, b) next
unfolding step_at
told_here f text at e next b q = told_by_lem (canonical_head f (drop at text)) at e next b q

module _ (f : Form) (s : List ℕ) {e : Element} {k : ℕ} {b : Bool} where
  -- an element that is told stands there: what it is told is forgotten;
  pub told_stands : canonical_head f s ≡ element (e, b) k → head_in f s ≡ element e k
  told_stands q = (element_of (is_canonical f) s (head_in f s) (e, b) k q).0

  -- and one that stands there is told by the test of its octets
  pub stands_told : (at : ℕ) → head_in f s ≡ element e k → is_canonical f (take k s) e ≡ b → HereStands (canonical_head f s) at (e, b) (at + k)
  stands_told at h q =
      record { size = k; here = ap (tag_head (is_canonical f) s) h ∙ ap (λ (t : Bool). element (e, t) k) q; onward = refl }

-- ---- what a lent table has is canonical

module _ (f : Form) where
  chosen_by : (o : ℕ) (x : Option ℕ) → is_written x o ≡ true → IsThat x o
  chosen_by o (Some w) q = eqb-true o w q
  chosen_by o None q = tt

  -- an octet that is written for its character
  pub written_canonical : (o c : ℕ) → WrittenOctet f o c → is_canonical f (o ∷ []) (One c) ≡ true
  written_canonical o c w =
      let chosen = written_chosen f c o (chosen_by o (octet_in (alphabet_of f).writes c) w.written) in
      is_canonical_lem f (CanonicalElement.graphic (Canonical.one (Codes.one w.sorts) chosen))

  -- a pair of a character that is not of ASCII
  pub listed_canonical : (o l c : ℕ) → ListedPair f o l c → 0x80 ≤ c → is_canonical f (o ∷ l ∷ []) (One c) ≡ true
  listed_canonical o l c p h = high_pair_canonical f o p.mark l c p.sorts p.square h

-- ---- the loops

-- a character that is spelt canonically
abbrev pub canonical_one : ℕ → Element × Bool
canonical_one w = (One w, true)

noted_none : (ws : List ℕ) → given noted (map canonical_one ws) ≡ []
unfolding given
noted_none [] = refl
noted_none (w ∷ ws) = noted_none ws

module _ (f : Form) where
  pub told_reads : Reads (canonical_head f) (Tagged (is_canonical f) (Spells f))
  told_reads = tagged_reads (is_canonical f) (reads f)

  pub noted_bound : Bounded (Tagged (is_canonical f) (Spells f)) noted 1
  noted_bound = noted_few (is_canonical f) (Spells f)

  module _ (text : List ℕ) where
    pub tally_start : Tallied f text 0 0 0
    tally_start = count_start told_reads noted_bound text

    module _ {at n k : ℕ} (was : Tallied f text at n k) where
      -- it stays below the elements, and the elements below the octets
      pub tally_small : (k ≤ n) × (n ≤ at)
      tally_small =
          let e : length was.es ≡ n = sym was.number in
          omega (arith, was.counted, was.number, was.passed.few.few, tally_most was.es)

      -- behind an element
      pub tally_turn : {e : Element} {next r : ℕ} {b : Bool} → HereStands (canonical_head f (drop at text)) at (e, b) next
          → r ≡ pick b 0 1 → Tallied f text next (n + 1) (k + r)
      tally_turn {e} {b = b} h q = count_turn told_reads noted_bound text was h.here h.onward (q ∙ noted_size e b)

      -- behind a run of characters that are spelt canonically
      pub tally_turns : {p : List ℕ} (t : List ℕ) {ps : List (List ℕ)} (ws : List ℕ) → drop at text ≡ p ++ t
          → Run (Tagged (is_canonical f) (Spells f)) p ps (map canonical_one ws) → Tallied f text (at + length p) (n + length ws) k
      tally_turns {p} t ws w r =
          subst₂ (λ (i j : ℕ). Tallied f text (at + length p) (n + i) j) (length-map ws canonical_one)
          (ap (λ (l : List ℕ). k + length l) (noted_none ws) ∙ add-zero k) (count_turns told_reads noted_bound text was t w r)

      -- where the loop stops
      pub tally_stop : {r d : ℕ} → head_in f (drop at text) ≡ refused r d → k ≡ respelled_before f text
      tally_stop q = counted_stop told_reads noted_bound text was (ap (tag_head (is_canonical f) (drop at text)) q)

      pub tally_end : length text ≤ at → k ≡ respelled_before f text
      tally_end h = counted_end told_reads noted_bound text was h
