-- What is read by the lent tables is what the reader of elements reads: a run of spacing characters, and a pair.
-- Assumes nothing.
use Prim.Native.Nat.{ℕ, zero, suc, ◌+◌, ◌≤◌, ◌<◌}
use mathlib.Core.Path.{◌≡◌, refl, sym, ap, ◌∙◌, subst}
use mathlib.Core.Bool.{Bool, true, false}
use mathlib.Core.List.{List, [], ◌∷◌, ◌++◌, map}
use native.Mathlib.Nat.{add-zero, le_of_suc-le-suc, not-suc-le-zero}
use native.Mathlib.Omega.{arith}
use lib.Dec.{ltb}
use lib.ListN.{length, get_or, set, take, drop, length-map}
use lib.Seq.{drop-cons, take_all}
use borrow.Author.Tests.{lt-ltb, le-ltb, ltb-true}
use Rattle.run.specs.Loops.{Filled}
use Rattle.run.specs.Choice.{pick}
use Rattle.run.specs.Head.{element}
use Rattle.run.specs.Grammar.{Run, done, more}
use Rattle.run.specs.Tagged.{Tagged, untagged}
use Rattle.run.specs.Answers.{given, RoomFor}
use Rattle.run.specs.Put.{Put}
use Rattle.run.proofs.Tags.{run_untagged}
use Rattle.run.proofs.Loops.{count_turn, count_turns, fill_room, fill_rooms, fill_turn, fill_turns}
use Rattle.run.proofs.Puts.{put_as, put_entry}
use Rattle.squares.specs.Squares.{square_table}
use Rattle.sorts.specs.declared.Form.{Form}
use Rattle.sorts.specs.declared.Sort.{Sort}
use Rattle.std.specs.Prelude.{Option}
use Rattle.sorts.specs.Sorts.{sort_in}
use Rattle.lent_tables.specs.CodeTables.{no_character, code_table, code_in, paired_in}
use Rattle.lent_tables.proofs.LentEntries.{graphic_code, pair_code}
use Rattle.element_words.specs.declared.Element.{Element}
use Rattle.element_words.specs.declared.Element.TheVariants.{One}
use Rattle.element_words.specs.Words.{words_of}
use Rattle.element_spelling.specs.ElementOctets.{is_canonical}
use Rattle.canonical_tests.proofs.TestsRight.{alone_test}
use Rattle.element_reading.specs.Grammar.{Spells}
use Rattle.element_reading.specs.ElementHead.{head_sort, head_in, canonical_head, pair_head, follower_head}
use Rattle.element_reading.proofs.Reader.{reads}
use Rattle.text_loops.specs.RunsAndPairs.{spacing_words, pair_word}
use Rattle.text_loops.specs.Fronts.{read_in}
use Rattle.text_loops.specs.LawWords.{HereStands, Tallied, CountedBoth}
use Rattle.text_loops.proofs.FewWords.{few_words}
use Rattle.text_loops.proofs.Steps.{graphic_told}
use Rattle.text_loops.proofs.Tallied.{stands_told, canonical_one, written_canonical, listed_canonical, tally_turn, tally_turns}

-- ---- a run that is counted and written octet by octet

module _ (codes : List ℕ) where
  -- the spacing characters that a list begins with, of all its octets
  abbrev pub all_words : List ℕ → List ℕ
  all_words s = spacing_words codes (length s) s

  -- where the first octet is tested: the rest is known of the octets behind it, or there is none
  few_by : (t : Bool) (w n : ℕ) (ws : List ℕ) → length ws ≤ n → length (pick t (w ∷ ws) []) ≤ suc n
  few_by true w n ws h = omega arith
  few_by false w n ws h = omega arith

  more_by : (t : Bool) (w i x : ℕ) (ws : List ℕ) → suc i ≤ length (pick t (w ∷ ws) []) → (i ≤ length ws → (i < length ws) × (get_or ws i 0 ≡ x))
      → (suc i < length (pick t (w ∷ ws) [])) × (get_or (pick t (w ∷ ws) []) (suc i) 0 ≡ x)
  more_by true w i x ws l next = let m = next (omega arith) in (omega (arith, m.0), m.1)
  more_by false w i x ws l next = absurd (omega arith)

  stop_by : (t : Bool) (w i : ℕ) (ws : List ℕ) → suc i ≤ length (pick t (w ∷ ws) []) → (i ≤ length ws → i ≡ length ws)
      → suc i ≡ length (pick t (w ∷ ws) [])
  stop_by true w i ws l next = ap suc (next (omega arith))
  stop_by false w i ws l next = absurd (omega arith)

  pub run_few : (k : ℕ) (s : List ℕ) → length (spacing_words codes k s) ≤ length s
  run_few zero s = omega arith
  run_few (suc k) [] = omega arith
  run_few (suc k) (o ∷ s) =
      few_by (ltb (code_in codes o) no_character) (code_in codes o) (length s) (spacing_words codes k s) (run_few k s)

  -- the i-th octet, where the i before it are such characters: it is the next,
  pub run_more : (s : List ℕ) (i : ℕ) → i < length s → i ≤ length (all_words s) → code_in codes (get_or s i 0) < no_character
      → (i < length (all_words s)) × (get_or (all_words s) i 0 ≡ code_in codes (get_or s i 0))
  run_more [] i h l q = absurd (omega arith)
  run_more (o ∷ s) zero h l q = rw (lt-ltb (code_in codes o) no_character q) (omega arith, refl)
  run_more (o ∷ s) (suc i) h l q =
      more_by (ltb (code_in codes o) no_character) (code_in codes o) i (code_in codes (get_or s i 0)) (all_words s) l
      (λ z. run_more s i (omega arith) z q)

  -- or the run's end
  pub run_stop : (s : List ℕ) (i : ℕ) → i < length s → i ≤ length (all_words s) → no_character ≤ code_in codes (get_or s i 0)
      → i ≡ length (all_words s)
  run_stop [] i h l q = absurd (omega arith)
  run_stop (o ∷ s) zero h l q = rw (le-ltb (code_in codes o) no_character q)
  run_stop (o ∷ s) (suc i) h l q =
      stop_by (ltb (code_in codes o) no_character) (code_in codes o) i (all_words s) l (λ z. run_stop s i (omega arith) z q)

-- the first of them are all, where they are as many
pub run_put : {l l' ws : List ℕ} {o i next : ℕ} → i ≡ length ws → Put l o (take i ws) l' next → Put l o ws l' next
run_put {ws = ws} {i = i} all p = put_as (take_all i ws (omega (arith, all))) p

-- a run of at most k octets is all the run of the first k
pub first_words : (codes : List ℕ) (k : ℕ) (s : List ℕ) → all_words codes (take k s) ≡ spacing_words codes k s
first_words codes zero s = refl
first_words codes (suc k) [] = refl
first_words codes (suc k) (o ∷ s) =
    ap (λ (l : List ℕ). pick (ltb (code_in codes o) no_character) (code_in codes o ∷ l) []) (first_words codes k s)

-- ---- a pair

pub no_pair : (codes : List ℕ) (squares : List (List ℕ)) (s : List ℕ) → length s < 2 → 0 ≡ pair_word codes squares s
no_pair codes squares [] h = refl
no_pair codes squares (o ∷ []) h = refl
no_pair codes squares (o ∷ (l ∷ s)) h = absurd (not-suc-le-zero (le_of_suc-le-suc (le_of_suc-le-suc h)))

pub pair_here : (codes : List ℕ) (squares : List (List ℕ)) (text : List ℕ) (at w x : ℕ) → at + 1 < length text
    → w ≡ code_in codes (get_or text at 0) → x ≡ paired_in squares w (get_or text (at + 1) 0) → x ≡ pair_word codes squares (drop at text)
pair_here codes squares text at w x h e q =
    let n : suc at ≡ at + 1 = omega arith in
    q
    ∙ ap (λ (k : ℕ). paired_in squares k (get_or text (at + 1) 0)) e
    ∙ sym (ap (pair_word codes squares)
    (drop-cons text at 0 (omega arith) ∙ ap (λ (l : List ℕ). get_or text at 0 ∷ l)
    (ap (λ (k : ℕ). drop k text) n ∙ drop-cons text (at + 1) 0 h)))

-- ---- what stands there is an element

module _ (f : Form) where
  -- a pair of a character that is not of ASCII is canonical
  pair_told : (s : List ℕ) (x : ℕ) → x ≡ pair_word (code_table f) square_table s → 0x80 ≤ x → is_canonical f (take 2 s) (One x) ≡ true
  pair_told [] x e n = absurd (omega (arith, e))
  pair_told (o ∷ []) x e n = absurd (omega (arith, e))
  pair_told (o ∷ (l ∷ s)) x e n = listed_canonical f o l x (pair_code f o l x (λ z. omega arith) e) n

  pair_head_lem : (s : List ℕ) (x : ℕ) → x ≡ pair_word (code_table f) square_table s → (x ≡ 0 → ⊥) → head_in f s ≡ element (One x) 2
  unfolding head_in follower_head
  pair_head_lem [] x e n = absurd (n e)
  pair_head_lem (o ∷ []) x e n = absurd (n e)
  pair_head_lem (o ∷ (l ∷ s)) x e n =
      let p = pair_code f o l x n e in
      ap (λ (k : Sort). head_sort f k o (l ∷ s)) p.sorts ∙ ap (λ (y : Option ℕ). pair_head false 1 y (sort_in f l)) p.square

  -- ---- a run of spacing characters is a run of elements, each of one octet, which is its canonical spelling

  record Spaced (s ws : List ℕ) : Type 0 where
    pub front : List ℕ
    pub rest : List ℕ
    pub pieces : List (List ℕ)
    pub whole : s ≡ front ++ rest
    pub size : length front ≡ length ws
    pub told : Run (Tagged (is_canonical f) (Spells f)) front pieces (map canonical_one ws)

  none_spaced : (s : List ℕ) → Spaced s []
  none_spaced s = record { front = []; rest = s; pieces = []; whole = refl; size = refl; told = done }

  -- without what is told of it
  ones : (ws : List ℕ) → map untagged (map canonical_one ws) ≡ map One ws
  ones [] = refl
  ones (w ∷ ws) = ap (λ (l : List Element). One w ∷ l) (ones ws)

  plain_run : {s ws : List ℕ} (r : Spaced s ws) → Run (Spells f) r.front r.pieces (map One ws)
  plain_run {ws = ws} r = subst (Run (Spells f) r.front r.pieces) (ones ws) (run_untagged (is_canonical f) r.told)

  abbrev words : ℕ → List ℕ → List ℕ
  words k s = spacing_words (code_table f) k s

  -- by the test of the first octet; `next`: the same from the octet behind it
  spaced_test : (k o : ℕ) (s : List ℕ) (t : Bool) → ltb (code_in (code_table f) o) no_character ≡ t → Spaced s (words k s)
      → Spaced (o ∷ s) (pick t (code_in (code_table f) o ∷ words k s) [])
  spaced_test k o s true t next =
      let w : ℕ = code_in (code_table f) o in
      record {
        front = o ∷ next.front;
        rest = next.rest;
        pieces = (o ∷ []) ∷ next.pieces;
        whole = ap (λ (l : List ℕ). o ∷ l) next.whole;
        size = ap suc next.size;
        told =
            let is = graphic_code f o (ltb-true w no_character t) in
            more (Spells.graphic is.sorts, sym (written_canonical f o w is)) next.told;
      }
  spaced_test k o s false t next = none_spaced (o ∷ s)

  spaced : (k : ℕ) (s : List ℕ) → Spaced s (words k s)
  spaced zero s = none_spaced s
  spaced (suc k) [] = none_spaced []
  spaced (suc k) (o ∷ s) = spaced_test k o s (ltb (code_in (code_table f) o) no_character) refl (spaced k s)

-- the words of the elements of a run are its characters
given_ones : (ws : List ℕ) → given words_of (map One ws) ≡ ws
unfolding given
given_ones [] = refl
given_ones (w ∷ ws) = ap (λ (l : List ℕ). w ∷ l) (given_ones ws)

-- ---- what the passes of reading know behind a run, and behind a pair

module _ (f : Form) (text : List ℕ) where
  -- the run at a place
  abbrev run : ℕ → List ℕ
  run at = words f 16 (drop at text)

  run_there : (at : ℕ) → Spaced f (drop at text) (run at)
  run_there at = spaced f 16 (drop at text)

  pair_of : (at x : ℕ) → x ≡ pair_word (code_table f) square_table (drop at text) → (x ≡ 0 → ⊥)
      → head_in f (drop at text) ≡ element (One x) 2
  pair_of at x e n = pair_head_lem f (drop at text) x e n

  -- a spacing character that the table has, and a pair that is not of ASCII, with what is told of them
  pub spacing_stands : (at c : ℕ) → at < length text → c ≡ code_in (code_table f) (get_or text at 0) → c < no_character
      → HereStands (canonical_head f (drop at text)) at (One c, true) (at + 1)
  spacing_stands at c h e l =
      let o = get_or text at 0 in
      let is = graphic_code f o (omega (arith, e)) in
      let canonical = sym (alone_test f o (code_in (code_table f) o) is.sorts ∙ written_canonical f o (code_in (code_table f) o) is) in
      rw e (graphic_told f text at (code_in (code_table f) o) true h (sym is.sorts) canonical)

  pub pair_stands : (at x : ℕ) → x ≡ pair_word (code_table f) square_table (drop at text) → 0x80 ≤ x
      → HereStands (canonical_head f (drop at text)) at (One x, true) (at + 2)
  pair_stands at x e z =
      stands_told f (drop at text) at (pair_of at x e (λ q. omega arith)) (pair_told f (drop at text) x e z)

  -- measuring
  pub behind_run : {at n count respelled k : ℕ} → CountedBoth f text at n count respelled → k ≡ length (run at)
      → CountedBoth f text (at + k) (n + k) (count + k) respelled
  behind_run {at} {n} {count} {respelled} {k} was e =
      let r = run_there at in
      let on = count_turns (reads f) (few_words f) text was.counted r.rest r.whole (plain_run f r) in
      record {
        counted = rw e (simp (r.size, length-map (run at) One, given_ones (run at)) at on);
        tallied = rw e (simp r.size at (tally_turns f text was.tallied r.rest (run at) r.whole r.told));
      }

  pub behind_pair : {at n count respelled x : ℕ} → CountedBoth f text at n count respelled
      → x ≡ pair_word (code_table f) square_table (drop at text) → 0x80 ≤ x
      → CountedBoth f text (at + 2) (n + 1) (count + 1) respelled
  behind_pair {at} {n} {respelled = respelled} {x} was e z =
      let here = pair_of at x e (λ q. omega arith) in
      record {
        counted = count_turn (reads f) (few_words f) text was.counted here refl refl;
        tallied =
            subst (Tallied f text (at + 2) (n + 1)) (add-zero respelled) (tally_turn f text was.tallied (pair_stands at x e z) refl);
      }

  -- filling
  module _ (l₀ : List ℕ) (room : RoomFor words_of (length l₀) (read_in f text)) {at o : ℕ} {l : List ℕ}
      (was : Filled (head_in f) words_of 34 text l₀ at o l) where
    pub room_for_run : o + length (run at) ≤ length l
    room_for_run =
        let r = run_there at in
        let rooms = fill_rooms (reads f) (few_words f) text l₀ room was r.rest r.whole (plain_run f r) in
        omega (arith, rooms, ap length (given_ones (run at)))

    pub filled_run : {k : ℕ} {l' : List ℕ} → k ≡ length (run at) → Put l o (run at) l' (o + k)
        → Filled (head_in f) words_of 34 text l₀ (at + k) (o + k) l'
    filled_run {k} {l'} e p =
        let r = run_there at in
        subst (λ (j : ℕ). Filled (head_in f) words_of 34 text l₀ (at + j) (o + k) l') (r.size ∙ sym e)
        (fill_turns (reads f) (few_words f) text l₀ room was r.rest r.whole (plain_run f r)
        (put_as (sym (given_ones (run at))) p))

    module _ {x : ℕ} (e : x ≡ pair_word (code_table f) square_table (drop at text)) (z : x ≡ 0 → ⊥) where
      pub room_for_pair : o < length l
      room_for_pair = omega (arith, fill_room (reads f) (few_words f) text l₀ room was (pair_of at x e z))

      pub filled_pair : Filled (head_in f) words_of 34 text l₀ (at + 2) (o + 1) (set l o x)
      filled_pair = fill_turn (reads f) (few_words f) text l₀ room was (pair_of at x e z) refl put_entry
