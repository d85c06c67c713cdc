-- To be believed: what changed between two texts of one form, in the words of document 02, No. 4, and the order of its refusals. The texts
-- are runs of elements (`Spells`, `ReadingFault`); nothing here speaks of a reader, nor of the walk over both.
-- Assumes nothing.
use Rattle.std.specs.Prelude.{ℕ, suc, ◌≤◌, ◌<◌, ◌≡◌, List, [], ◌∷◌, ◌++◌, length, Some}
use Rattle.run.specs.Grammar.{Run, RunOf, Begins}
use Rattle.run.specs.declared.Answer.{Answer}
use Rattle.run.specs.Answers.{answer, bare, count_of}
use Rattle.sorts.specs.declared.Form.{Form}
use Rattle.sorts.specs.Forms.{form_of, NoForm}
use Rattle.element_words.specs.declared.Element.{Element}
use Rattle.element_reading.specs.Grammar.{Spells}
use Rattle.text_reading.specs.ReadingNumbers.{limit, ReadingFault}
use Rattle.compare.specs.declared.Comparison.{Comparison}

-- ---- two texts that mean the same

-- "the number of elements spelled otherwise": the pieces of the one text and those of the other, side by side, and how many differ
pub data Otherwise : List (List ℕ) → List (List ℕ) → ℕ → Type 0 where
  none : Otherwise [] [] 0
  alike : {p : List ℕ} {ps qs : List (List ℕ)} {k : ℕ} → Otherwise ps qs k → Otherwise (p ∷ ps) (p ∷ qs) k
  otherwise : {p q : List ℕ} {ps qs : List (List ℕ)} {k : ℕ} → (p ≡ q → ⊥) → Otherwise ps qs k → Otherwise (p ∷ ps) (q ∷ qs) (suc k)

-- "say that they mean the same, with the number of elements spelled otherwise": n elements, of which k are
pub record MeanSame (f : Form) (first second : List ℕ) (n k : ℕ) : Type 0 where
  pub elements : List Element
  pub pieces : List (List ℕ)
  pub pieces' : List (List ℕ)
  pub run : Run (Spells f) first pieces elements
  pub run' : Run (Spells f) second pieces' elements
  pub spelled_otherwise : Otherwise pieces pieces' k
  pub number : n ≡ length elements

-- ---- two texts that do not

-- an element begins there
pub record GoesOn (f : Form) (s : List ℕ) : Type 0 where
  pub what : Element
  pub size : ℕ
  pub begins : Begins (Spells f) s what size

-- an element begins in each, and they are not the same
pub record Differ (f : Form) (s t : List ℕ) : Type 0 where
  pub one : GoesOn f s
  pub other : GoesOn f t
  pub not_same : one.what ≡ other.what → ⊥

-- "the element at which their meanings first differ, and the octet place in each": n elements stand before it, the same in both texts,
-- which take the octets before the places p and q; `Rests` says of what is left of each how they go on
pub record FirstDiffer (f : Form) (Rests : List ℕ → List ℕ → Type 0) (first second : List ℕ) (n p q : ℕ) : Type 0 where
  pub common : List Element
  pub front : List ℕ
  pub rest : List ℕ
  pub front' : List ℕ
  pub rest' : List ℕ
  pub whole : first ≡ front ++ rest
  pub whole' : second ≡ front' ++ rest'
  pub run : RunOf (Spells f) front common
  pub run' : RunOf (Spells f) front' common
  pub rests : Rests rest rest'
  pub element_number : n ≡ length common
  pub first_place : p ≡ length front
  pub second_place : q ≡ length front'

-- both texts are runs of elements, up to their ends: a fault behind the difference would be a refusal
pub record BothRun (f : Form) (first second : List ℕ) : Type 0 where
  pub meaning : List Element
  pub meaning' : List Element
  pub run : RunOf (Spells f) first meaning
  pub run' : RunOf (Spells f) second meaning'

-- ---- what is said of them, in numbers

-- a refusal: the four numbers, which text it was (0 where it is neither), and "the first's empty end"
abbrev pub refused_by : Answer → ℕ → ℕ → Comparison
refused_by a text end =
    record {
      answer = a;
      text = text;
      same = 0;
      first_place = 0;
      second_place = 0;
      otherwise = 0;
      tail_text = 1;
      tail_place = end;
    }

-- they mean the same: n elements, k of them spelled otherwise; the places are the texts' lengths; the part is the first's empty end
abbrev pub same_of : ℕ → ℕ → ℕ → ℕ → Comparison
same_of n first second k =
    record {
      answer = answer 0 n 0 0;
      text = 0;
      same = 1;
      first_place = first;
      second_place = second;
      otherwise = k;
      tail_text = 1;
      tail_place = first;
    }

-- they first differ at the element n, at the places p and q; the part is the given text's, from the given place on
abbrev pub differ_at : ℕ → ℕ → ℕ → ℕ → ℕ → Comparison
differ_at n p q text place =
    record {
      answer = answer 0 n 0 0;
      text = 0;
      same = 0;
      first_place = p;
      second_place = q;
      otherwise = 0;
      tail_text = text;
      tail_place = place;
    }

-- ---- "Refusals: 11 and 12 as before, then the first text's reading refusal, then the second's, with which text it was."

module _ (form : ℕ) (first second : List ℕ) where
  -- neither 11 nor 12: the form is one, and both texts are within the limit
  pub record FormAndLimit (f : Form) : Type 0 where
    pub is_form : form_of form ≡ Some f
    pub first_within : length first ≤ limit
    pub second_within : length second ≤ limit

  pub data CompareRow : Comparison → Type 0 where
    no_form : NoForm form → CompareRow (refused_by (bare 11) 0 (length first))
    first_over : {f : Form} → form_of form ≡ Some f → limit < length first → CompareRow (refused_by (bare 12) 1 (length first))
    second_over : {f : Form} → form_of form ≡ Some f → length first ≤ limit → limit < length second
        → CompareRow (refused_by (bare 12) 2 (length first))
    first_refused : {f : Form} {r n p d : ℕ} → FormAndLimit f → ReadingFault f first r n p d
        → CompareRow (refused_by (answer r n p (count_of r d)) 1 (length first))
    second_refused : {f : Form} {es : List Element} {r n p d : ℕ} → FormAndLimit f → RunOf (Spells f) first es
        → ReadingFault f second r n p d → CompareRow (refused_by (answer r n p (count_of r d)) 2 (length first))
    -- "If both mean the same .. it is the first's empty end"
    mean_same : {f : Form} {n k : ℕ} → FormAndLimit f → MeanSame f first second n k
        → CompareRow (same_of n (length first) (length second) k)
    -- "if they differ before either ends, the first text's part from the differing element"
    differ : {f : Form} {n p q : ℕ} → FormAndLimit f → BothRun f first second → FirstDiffer f (Differ f) first second n p q
        → CompareRow (differ_at n p q 1 p)
    -- "Where one text ends first, hand back the surplus tail of whichever text goes on."
    second_ends : {f : Form} {n p q : ℕ} → FormAndLimit f → BothRun f first second
        → FirstDiffer f (λ rest rest'. GoesOn f rest × (rest' ≡ [])) first second n p q → CompareRow (differ_at n p q 1 p)
    first_ends : {f : Form} {n p q : ℕ} → FormAndLimit f → BothRun f first second
        → FirstDiffer f (λ rest rest'. (rest ≡ []) × GoesOn f rest') first second n p q → CompareRow (differ_at n p q 2 q)
