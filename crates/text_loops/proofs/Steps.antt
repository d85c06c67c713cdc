-- From what a step answers to what a loop over a text knows.
-- Assumes nothing.
use Prim.Native.Nat.{ℕ, ◌+◌, ◌≤◌, ◌<◌}
use mathlib.Core.Path.{◌≡◌, refl, sym, ap, ap₂, ◌∙◌, subst}
use mathlib.Core.Bool.{Bool}
use mathlib.Core.List.{List, [], ◌∷◌}
use native.Mathlib.Omega.{arith}
use lib.ListN.{length, take, drop, get_or, length-drop}
use borrow.Author.Tests.{le-leb}
use Rattle.run.specs.Choice.{pick}
use Rattle.run.specs.Loops.{Filled}
use Rattle.run.specs.Head.{Head, element, refused, none}
use Rattle.run.specs.Tagged.{tag_head}
use Rattle.run.specs.declared.Answer.{Answer}
use Rattle.run.specs.Answers.{answer, count_of, RoomFor}
use Rattle.run.proofs.FromPlace.{at_place}
use Rattle.run.specs.Put.{Put, what_fits}
use Rattle.run.proofs.Puts.{put_length, put_fits}
use Rattle.run.proofs.Loops.{count_onward, count_stop, count_end, count_turn, take_turn, fill_small, fill_onward, fill_room, fill_turn, fill_never}
use Rattle.run.proofs.Before.{counted_end, counted_stop, taken_end, taken_stop}
use Rattle.sorts.specs.declared.Form.{Form}
use Rattle.sorts.specs.declared.Sort.{Sort}
use Rattle.sorts.specs.declared.Sort.TheVariants.{Graphic}
use Rattle.sorts.specs.Sorts.{sort_in}
use Rattle.element_words.specs.declared.Element.{Element}
use Rattle.element_words.specs.declared.Element.TheVariants.{One}
use Rattle.element_reading.specs.declared.Step.{Step}
use Rattle.element_reading.specs.declared.Step.TheVariants.{Element as Read}
use Rattle.element_words.specs.Words.{words_of}
use Rattle.element_spelling.specs.ElementOctets.{is_canonical}
use Rattle.canonical_tests.specs.Tests.{word_canonical}
use Rattle.canonical_tests.proofs.TestsRight.{alone_test}
use Rattle.element_reading.specs.ElementHead.{head_in, canonical_head, head_sort, step_of, step_at}
use Rattle.element_reading.proofs.Reader.{reads, refuses_exactly_by}
use Rattle.element_reading.proofs.Places.{reading_number}
use Rattle.text_loops.specs.declared.Measured.{Measured}
use Rattle.text_loops.specs.Fronts.{read_in, measured, step_answer_after, ReadInto}
use Rattle.text_loops.specs.LawWords.{HereStands, RefusedStep, CountedBoth, TakenBoth}
use Rattle.text_loops.proofs.FewWords.{few_words, counted_fits}
use Rattle.text_loops.proofs.Tallied.{told_here, told_stands, stands_told, tally_small, tally_turn, tally_stop, tally_end}

-- ---- a step that is an element

pub here : (f : Form) (text : List ℕ) (at : ℕ) (e : Element) (next : ℕ) (b : Bool) → step_at f text at ≡ Read e next b
    → HereStands (head_in f (drop at text)) at e next
here f text at e next b q =
    let h = told_here f text at e next b q in
    record { size = h.size; here = told_stands f (drop at text) h.here; onward = h.onward }

-- an octet that is a spacing character by itself is an element
pub graphic_here : (f : Form) (text : List ℕ) (at : ℕ) (c : ℕ) → at < length text → Graphic c ≡ sort_in f (get_or text at 0)
    → HereStands (head_in f (drop at text)) at (One c) (at + 1)
unfolding head_in
graphic_here f text at c h q =
    record {
      size = 1;
      here =
          ap (head_in f) (at_place text at h)
          ∙ ap (λ (k : Sort). head_sort f k (get_or text at 0) (drop (at + 1) text)) (sym q);
      onward = refl;
    }

-- and so is told of it
pub graphic_told : (f : Form) (text : List ℕ) (at : ℕ) (c : ℕ) (b : Bool) → at < length text → Graphic c ≡ sort_in f (get_or text at 0)
    → b ≡ word_canonical f c (get_or text at 0) 1 → HereStands (canonical_head f (drop at text)) at (One c, b) (at + 1)
unfolding graphic_here
graphic_told f text at c b h q z =
    let o = get_or text at 0 in
    let piece : take 1 (drop at text) ≡ o ∷ [] = ap (take 1) (at_place text at h) in
    stands_told f (drop at text) at (graphic_here f text at c h q).here
    (ap (λ (p : List ℕ). is_canonical f p (One c)) piece ∙ sym (alone_test f o c (sym q)) ∙ sym z)

-- ---- one that is none: at the place of a text that is not at its end, a refusal of reading

pub count_is_place : (r d : ℕ) → r ≤ 8 → d ≡ count_of r d
count_is_place r d h = sym (rw (le-leb r 8 h))

-- a step that read no element
abbrev pub NotRead : Step → Type 0
NotRead x = (e : Element) (k : ℕ) (b : Bool) → x ≡ Read e k b → ⊥

module _ (f : Form) (text : List ℕ) (at : ℕ) where
  -- the answer, by what stands at the head
  abbrev step : Head Element → Step
  step h = step_of at (tag_head (is_canonical f) (drop at text) h)

  refuses_by : (h : Head Element) → head_in f (drop at text) ≡ h → ((e : Element) (k : ℕ) (b : Bool) → step h ≡ Read e k b → ⊥)
      → at < length text → RefusedStep f text at (step h)
  refuses_by (element e k) q u l = absurd (u e (at + k) (is_canonical f (take k (drop at text)) e) refl)
  refuses_by (refused r d) q u l =
      record {
        number = r;
        behind = d;
        here = q;
        answers = λ n. ap (answer r n at) (count_is_place r (at + d) (reading_number f ((refuses_exactly_by f (drop at text) r d).0 q)).1);
      }
  refuses_by none q u l = absurd (omega (arith, length-drop at text, ap length ((reads f).goes (drop at text) q)))

  pub step_refused : (x : Step) → x ≡ step_at f text at → NotRead x → at < length text → RefusedStep f text at x
  unfolding step_at
  step_refused x q o l =
      subst (RefusedStep f text at) (sym q) (refuses_by (head_in f (drop at text)) refl (λ e k b z. o e k b (q ∙ z)) l)

-- ---- what the passes of reading know at a place

module _ (f : Form) (text : List ℕ) where
  -- measuring: the numbers, none of which is above the place
  pub record Measuring (at n count k : ℕ) : Type 0 where
    pub both : CountedBoth f text at n count k
    pub inside : at ≤ length text
    pub elements : n ≤ at
    pub words : count ≤ at
    pub respelled : k ≤ n

  pub measuring : {at n count k : ℕ} → CountedBoth f text at n count k → Measuring at n count k
  measuring was =
      let fits = counted_fits f text was.counted in
      record { both = was; inside = fits.2; elements = fits.0; words = fits.1; respelled = (tally_small f text was.tallied).0 }

  -- behind an element that a step reads
  pub behind_element : {at n count k size r : ℕ} {e : Element} {next : ℕ} {b : Bool} → CountedBoth f text at n count k
      → step_at f text at ≡ Read e next b → size ≡ length (words_of e) → r ≡ pick b 0 1
      → (at < next) × CountedBoth f text next (n + 1) (count + size) (k + r)
  behind_element {at} {e = e} {next} {b} was is size r =
      let h = here f text at e next b is in (
        omega (arith, count_onward (reads f) (few_words f) text was.counted h.here, h.onward),
        record {
          counted = count_turn (reads f) (few_words f) text was.counted h.here h.onward size;
          tallied = tally_turn f text was.tallied (told_here f text at e next b is) r;
        },
      )

  -- reading in one pass: the numbers, and what stands in the buffer
  module _ (into : List ℕ) where
    pub record Taking (at n o k : ℕ) (l : List ℕ) : Type 0 where
      pub both : TakenBoth f text into at n o k l
      pub inside : at ≤ length text
      pub elements : n ≤ at
      pub words : o ≤ at
      pub respelled : k ≤ n
      pub size : length l ≡ length into

    pub taking : {at n o k : ℕ} {l : List ℕ} → TakenBoth f text into at n o k l → Taking at n o k l
    taking was =
        let fits = counted_fits f text was.taken.counted in
        record {
          both = was;
          inside = fits.2;
          elements = fits.0;
          words = fits.1;
          respelled = (tally_small f text was.tallied).0;
          size = put_length was.taken.put;
        }

    module _ {at n o k : ℕ} {l : List ℕ} (was : TakenBoth f text into at n o k l) {e : Element} {b : Bool} {next : ℕ}
        (h : HereStands (canonical_head f (drop at text)) at (e, b) next) where
      stands : head_in f (drop at text) ≡ element e h.size
      stands = told_stands f (drop at text) h.here

      -- what has room for a word of each octet has room for the element's words;
      pub take_room : length text ≤ length into → o + length (words_of e) ≤ length l
      take_room room =
          let behind = count_turn (reads f) (few_words f) text was.taken.counted stands h.onward refl in
          omega (arith, counted_fits f text behind, put_length was.taken.put)

      -- behind them
      pub taken_element : {r o' : ℕ} {l' : List ℕ} → r ≡ pick b 0 1 → Put l o (words_of e) l' o'
          → (at < next) × TakenBoth f text into next (n + 1) o' (k + r) l'
      taken_element q put = (
        omega (arith, count_onward (reads f) (few_words f) text was.taken.counted stands, h.onward),
        record {
          taken = take_turn (reads f) (few_words f) text into was.taken stands h.onward put;
          tallied = tally_turn f text was.tallied h q;
        },
      )

  -- filling: what stands in the buffer, and so the place in it
  module _ (l₀ : List ℕ) where
    pub record Filling (at o : ℕ) (l : List ℕ) : Type 0 where
      pub filled : Filled (head_in f) words_of 34 text l₀ at o l
      pub inside : at ≤ length text
      pub within : o ≤ length l₀
      pub size : length l ≡ length l₀

    module _ (room : RoomFor words_of (length l₀) (read_in f text)) where
      pub filling : {at o : ℕ} {l : List ℕ} → Filled (head_in f) words_of 34 text l₀ at o l → Filling at o l
      filling was =
          record {
            filled = was;
            inside = was.passed.inside;
            within = fill_small (reads f) (few_words f) text l₀ room was;
            size = put_length was.put;
          }

      -- behind an element that a step reads
      pub filled_element : {at o o' : ℕ} {l l' : List ℕ} {e : Element} {next : ℕ} {b : Bool}
          → Filled (head_in f) words_of 34 text l₀ at o l → step_at f text at ≡ Read e next b
          → Put l o (what_fits l o (words_of e)) l' o' → (at < next) × Filled (head_in f) words_of 34 text l₀ next o' l'
      filled_element {at} {e = e} {next} {b} was is put =
          let h = here f text at e next b is in
          let room_here = fill_room (reads f) (few_words f) text l₀ room was h.here in (
            omega (arith, fill_onward (reads f) (few_words f) text l₀ room was h.here, h.onward),
            fill_turn (reads f) (few_words f) text l₀ room was h.here h.onward (put_fits (words_of e) room_here put),
          )

-- ---- the ways out of the loops over a text

-- an answer, so many words, and so many elements that were not canonical
abbrev measured_as : Answer → ℕ → ℕ → Measured
measured_as a n k = record { answer = a; words = n; respelled = k }

measured_as_lem : {a b : Answer} {n m k j : ℕ} → a ≡ b → n ≡ m → k ≡ j → measured_as a n k ≡ measured_as b m j
measured_as_lem {b = b} {n} {k = k} p q r = ap (λ (x : Answer). measured_as x n k) p ∙ ap₂ (measured_as b) q r

module _ (f : Form) (text : List ℕ) where
  pub read_stop : {at n count k : ℕ} {a : Answer} (x : Step) → CountedBoth f text at n count k → x ≡ step_at f text at
      → NotRead x → at < length text → a ≡ step_answer_after n x → measured_as a count k ≡ measured f text
  read_stop {at} {n} x was q o l e =
      let h = step_refused f text at x q o l in
      measured_as_lem (e ∙ h.answers n ∙ count_stop (reads f) (few_words f) text was.counted h.here refl)
      (counted_stop (reads f) (few_words f) text was.counted h.here) (tally_stop f text was.tallied h.here)

  pub read_end : {at n count k : ℕ} → CountedBoth f text at n count k → length text ≤ at
      → measured_as (answer 0 n at count) count k ≡ measured f text
  read_end was h =
      measured_as_lem (count_end (reads f) (few_words f) text was.counted h) (counted_end (reads f) (few_words f) text was.counted h)
      (tally_end f text was.tallied h)

  -- the same of a loop that puts each element's words as it goes
  module _ {into l : List ℕ} {at n o k : ℕ} (was : TakenBoth f text into at n o k l) where
    counted : CountedBoth f text at n o k
    counted = record { counted = was.taken.counted; tallied = was.tallied }

    pub into_stop : {a : Answer} (x : Step) → x ≡ step_at f text at → NotRead x → at < length text
        → a ≡ step_answer_after n x → ReadInto f text into (measured_as a o k) l
    into_stop x q i h e =
        let r = step_refused f text at x q i h in
        record { measures = read_stop x counted q i h e; puts = taken_stop (reads f) (few_words f) text was.taken r.here }

    pub into_end : length text ≤ at → ReadInto f text into (measured_as (answer 0 n at o) o k) l
    into_end h = record { measures = read_end counted h; puts = taken_end (reads f) (few_words f) text was.taken h }

  -- an accepted text has an element at each place before its end
  pub read_never : (words : List ℕ) (room : RoomFor words_of (length words) (read_in f text)) {at o : ℕ} {l : List ℕ} (x : Step)
      → Filled (head_in f) words_of 34 text words at o l → x ≡ step_at f text at → NotRead x → at < length text → ⊥
  read_never words room {at} x was q i h =
      fill_never (reads f) (few_words f) text words room was (step_refused f text at x q i h).here
