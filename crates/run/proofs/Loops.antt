-- What a loop that goes through a list, element after element, knows at a place: over any head that keeps the record of promises, so once
-- for reading, writing and converting, and for measuring and filling. `head` and `S` stand behind `laws`, what an element gives and at
-- most how much behind `bounded`.
-- Assumes nothing.
use Prim.Native.Nat.{ℕ, ◌+◌, ◌*◌, ◌≤◌, ◌<◌}
use mathlib.Core.Path.{◌≡◌, refl, sym, ap, ap₂, ◌∙◌, subst}
use mathlib.Core.List.{List, [], ◌∷◌, ◌++◌, append-nil}
use native.Mathlib.Nat.{add-zero, mul-add, le-mul_of_pos_right}
use native.Mathlib.Omega.{arith}
use lib.ListN.{length, take, drop, length-append, length-drop, take-append-drop, drop_of_length-le}
use lib.Seq.{take-append_seam, take-append-add, length-take-le}
use Rattle.run.specs.Head.{Head, element, refused, none, Outcome, accepted, refusal, join, outcome}
use Rattle.run.specs.Grammar.{Run, done, more, Reads}
use Rattle.run.specs.declared.Answer.{Answer}
use Rattle.run.specs.Answers.{answer, count_of, given, written_of, roomy_answer, RoomFor}
use Rattle.run.specs.Put.{Put}
use Rattle.run.specs.Loops.{Bounded, Few, Passed, Counted, Filled, Taken}
use Rattle.run.proofs.Outcomes.{outcome_none, outcome_stop, accepts, joined, joined_accepted}
use Rattle.run.proofs.Answers.{given_more, given_length, given_front}
use Rattle.run.proofs.Puts.{put_none, put_length, put_given, put_given_one, put_given_all}

-- ---- how much an element gives, and a run of elements

pub run_few : {X A : Type 0} {head : List X → Head A} {S : List X → A → Type 0} (laws : Reads head S) {gives : A → List ℕ} {most : ℕ}
    (bounded : Bounded S gives most) {s : List X} {ps : List (List X)} {es : List A}
    → Run S s ps es → Few gives most (length s) es
unfolding given
run_few laws bounded done = record { few = omega arith; short = omega arith }
run_few laws {gives} {most} bounded (more {p} {s} {ps} {e} {es} sp r) =
    let i = run_few laws bounded r in
    let n = laws.some p e sp in
    let l = length-append p s in
    let m : most * length (p ++ s) ≡ most * length p + most * length s = ap (λ (k : ℕ). most * k) l ∙ mul-add most (length p) (length s) in
    record {
      few = omega (arith, i.few);
      short = omega (arith, i.short, m, le-mul_of_pos_right most n, bounded.bound p e sp, length-append (gives e) (given gives es));
    }

-- ---- the place of a loop

module _ {X A : Type 0} {head : List X → Head A} {S : List X → A → Type 0} (laws : Reads head S) {gives : A → List ℕ} {most : ℕ}
    (bounded : Bounded S gives most) (s : List X) where
  pub start : Passed head gives most s 0 []
  unfolding given
  start = record { inside = omega arith; few = record { few = omega arith; short = omega arith }; front = outcome_none laws }

  module _ {at : ℕ} {es : List A} (was : Passed head gives most s at es) where
    -- what the whole list comes to is what is left of it, behind these elements
    pub sofar : outcome head s ≡ join es at (outcome head (drop at s))
    sofar =
        ap (outcome head) (sym (take-append-drop at s))
        ∙ joined laws (take at s) (drop at s) es was.front
        ∙ ap (λ (k : ℕ). join es k (outcome head (drop at s))) (length-take-le at s was.inside)

    -- an element has an entry at least, ends within the list, and gives at most so many entries
    pub onward : {e : A} {k : ℕ} → head (drop at s) ≡ element e k → (0 < k) × (at + k ≤ length s) × (length (gives e) ≤ most)
    onward {e} {k} q =
        let f = laws.found (drop at s) e k q in
        let l : length (drop at s) ≡ length f.front + length f.rest = ap length f.whole ∙ length-append f.front f.rest in
        omega (
          arith,
          laws.some f.front e f.spells,
          length-drop at s,
          l,
          f.size,
          was.inside,
          bounded.bound f.front e
              f.spells,
        )

    -- a run of elements, passed at once
    pub turns : {p : List X} (t : List X) {ps : List (List X)} {fs : List A}
        → drop at s ≡ p ++ t → Run S p ps fs → Passed head gives most s (at + length p) (es ++ fs)
    turns {p} t {ps} {fs} w r =
        let l : length (drop at s) ≡ length p + length t = ap length w ∙ length-append p t in
        let i = run_few laws bounded r in
        let n = length-take-le at s was.inside in
        let piece : take (length p) (drop at s) ≡ p = ap (take (length p)) w ∙ take-append_seam p t in
        let upto : take (at + length p) s ≡ take at s ++ p =
        ap₂ (λ (k : ℕ) (u : List X). take (k + length p) u) (sym n) (sym (take-append-drop at s))
        ∙ take-append-add (take at s) (drop at s) (length p)
        ∙ ap (λ (u : List X). take at s ++ u) piece in
        record {
          inside = omega (arith, length-drop at s, l, was.inside);
          few =
              record {
                few = omega (arith, was.few.few, i.few, length-append es fs);
                short = omega (arith, was.few.short, i.short, given_length gives es fs, mul-add most at (length p));
              };
          front = ap (outcome head) upto ∙ joined_accepted laws (take at s) p es fs was.front ((accepts laws p fs).1 (ps, r));
        }

    pub turn : {e : A} {k : ℕ} → head (drop at s) ≡ element e k → Passed head gives most s (at + k) (es ++ (e ∷ []))
    turn {e} {k} q =
        let f = laws.found (drop at s) e k q in
        let n : at + length (f.front ++ []) ≡ at + k = omega (arith, f.size, ap length (append-nil f.front)) in
        subst (λ (i : ℕ). Passed head gives most s i (es ++ (e ∷ []))) n
        (turns f.rest (f.whole ∙ ap (λ (p : List X). p ++ f.rest) (sym (append-nil f.front))) (more f.spells done))

    -- the end of the list
    pub finish : length s ≤ at → outcome head s ≡ accepted es
    finish h =
        sofar
        ∙ ap (λ (l : List X). join es at (outcome head l)) (drop_of_length-le s h)
        ∙ ap (join es at) (outcome_none laws)
        ∙ simp append-nil

    -- a refusal
    pub halt : {r d : ℕ} → head (drop at s) ≡ refused r d → outcome head s ≡ refusal r (length es) at (at + d)
    halt {r} {d} q =
        sofar ∙ ap (join es at) (outcome_stop laws (drop at s) r d q) ∙ simp add-zero

    -- before the end something stands
    pub goes_on : at < length s → head (drop at s) ≡ none → ⊥
    goes_on h q = omega (arith, length-drop at s, ap length (laws.goes (drop at s) q))

-- ---- measuring: the numbers counted on the way

module _ {X A : Type 0} {head : List X → Head A} {S : List X → A → Type 0} (laws : Reads head S) {gives : A → List ℕ} {most : ℕ}
    (bounded : Bounded S gives most) (s : List X) where
  pub count_start : Counted head gives most s 0 0 0
  unfolding given
  count_start = record { es = []; passed = start laws bounded s; number = refl; counted = refl }

  module _ {at n count : ℕ} (was : Counted head gives most s at n count) where
    -- the numbers stay small
    pub count_small : (n ≤ at) × (count ≤ most * at) × (at ≤ length s)
    count_small =
        omega (arith, was.number, was.counted, was.passed.few.few, was.passed.few.short, was.passed.inside)

    pub count_onward : {e : A} {k : ℕ} → head (drop at s) ≡ element e k → (0 < k) × (at + k ≤ length s) × (length (gives e) ≤ most)
    count_onward = onward laws bounded s was.passed

    -- a run of elements, counted at once
    pub count_turns : {p : List X} (t : List X) {ps : List (List X)} {fs : List A} → drop at s ≡ p ++ t → Run S p ps fs
        → Counted head gives most s (at + length p) (n + length fs) (count + length (given gives fs))
    count_turns t {fs = fs} w r =
        record {
          es = was.es ++ fs;
          passed = turns laws bounded s was.passed t w r;
          number = omega (arith, was.number, length-append was.es fs);
          counted = omega (arith, was.counted, given_length gives was.es fs);
        }

    pub count_turn : {e : A} {k next size : ℕ} → head (drop at s) ≡ element e k → next ≡ at + k → size ≡ length (gives e)
        → Counted head gives most s next (n + 1) (count + size)
    count_turn {e} {k} {next} {size} q o z =
        subst (λ (i : ℕ). Counted head gives most s i (n + 1) (count + size)) (sym o)
        (record {
          es = was.es ++ (e ∷ []);
          passed = turn laws bounded s was.passed q;
          number = omega (arith, was.number, length-append was.es (e ∷ []));
          counted = omega (arith, was.counted, given_more gives was.es e);
        })

    -- the answer at the end, and at a refusal
    pub count_end : length s ≤ at → ◌≡◌ {A = Answer} (answer 0 n at count) (roomy_answer gives (length s) (outcome head s))
    count_end h =
        let e : at ≡ length s = omega (arith, was.passed.inside) in
        rw (finish laws bounded s was.passed h, was.number, was.counted, e)

    pub count_stop : {r d c : ℕ} → head (drop at s) ≡ refused r d → c ≡ count_of r (at + d)
        → ◌≡◌ {A = Answer} (answer r n at c) (roomy_answer gives (length s) (outcome head s))
    count_stop q z = rw (halt laws bounded s was.passed q, z, was.number)

-- ---- filling: what was given so far stands over the buffer's first entries

pub room_front : {A : Type 0} (gives : A → List ℕ) (es : List A) (k r : ℕ) (x : Outcome A) → RoomFor gives r (join es k x)
    → length (given gives es) ≤ r
room_front gives es k r (accepted fs) h = given_front gives es fs h
room_front gives es k r (refusal a b c d) h = absurd h

module _ {X A : Type 0} {head : List X → Head A} {S : List X → A → Type 0} (laws : Reads head S) {gives : A → List ℕ} {most : ℕ}
    (bounded : Bounded S gives most) (s : List X) (l₀ : List ℕ) where
  pub fill_start : Filled head gives most s l₀ 0 0 l₀
  unfolding given
  fill_start = record { es = []; passed = start laws bounded s; put = put_none l₀ 0 }

  module _ (room : RoomFor gives (length l₀) (outcome head s)) {at o : ℕ} {l : List ℕ} (was : Filled head gives most s l₀ at o l) where
    pub fill_length : length l ≡ length l₀
    fill_length = put_length was.put

    -- elements passed so far have room
    passed_room : {i : ℕ} {es : List A} → Passed head gives most s i es → length (given gives es) ≤ length l₀
    passed_room {i} {es} t = room_front gives es i (length l₀) (outcome head (drop i s)) (rw (sofar laws bounded s t) at room)

    -- the place stays within the buffer
    pub fill_small : o ≤ length l₀
    fill_small = omega (arith, was.put.place, passed_room was.passed)

    pub fill_onward : {e : A} {k : ℕ} → head (drop at s) ≡ element e k → (0 < k) × (at + k ≤ length s) × (length (gives e) ≤ most)
    fill_onward = onward laws bounded s was.passed

    -- what the next elements give has room
    pub fill_rooms : {p : List X} (t : List X) {ps : List (List X)} {fs : List A} → drop at s ≡ p ++ t → Run S p ps fs
        → o + length (given gives fs) ≤ length l
    fill_rooms t {fs = fs} w r =
        omega (arith, passed_room (turns laws bounded s was.passed t w r), given_length gives was.es fs, was.put.place, fill_length)

    pub fill_room : {e : A} {k : ℕ} → head (drop at s) ≡ element e k → o + length (gives e) ≤ length l
    fill_room {e} q =
        omega (arith, passed_room (turn laws bounded s was.passed q), given_more gives was.es e, was.put.place, fill_length)

    pub fill_turns : {p : List X} (t : List X) {ps : List (List X)} {fs : List A} {o' : ℕ} {l' : List ℕ} → drop at s ≡ p ++ t
        → Run S p ps fs → Put l o (given gives fs) l' o' → Filled head gives most s l₀ (at + length p) o' l'
    fill_turns t {fs = fs} w r p =
        record {
          es = was.es ++ fs;
          passed = turns laws bounded s was.passed t w r;
          put = put_given gives was.es fs was.put p;
        }

    pub fill_turn : {e : A} {k next o' : ℕ} {l' : List ℕ} → head (drop at s) ≡ element e k → next ≡ at + k → Put l o (gives e) l' o'
        → Filled head gives most s l₀ next o' l'
    fill_turn {e} q z p =
        record {
          es = was.es ++ (e ∷ []);
          passed = subst (λ (i : ℕ). Passed head gives most s i (was.es ++ (e ∷ []))) (sym z) (turn laws bounded s was.passed q);
          put = put_given_one gives was.es e was.put p;
        }

    -- at the end the buffer holds what was given, and then the untouched rest
    pub fill_end : length s ≤ at → l ≡ written_of gives l₀ (outcome head s)
    fill_end h = put_given_all gives was.put (finish laws bounded s was.passed h) room

    -- an accepted list has no refusal on the way
    pub fill_never : {r d : ℕ} → head (drop at s) ≡ refused r d → ⊥
    fill_never q = rw (halt laws bounded s was.passed q) at room

-- ---- both in one pass

module _ {X A : Type 0} {head : List X → Head A} {S : List X → A → Type 0} (laws : Reads head S) {gives : A → List ℕ} {most : ℕ}
    (bounded : Bounded S gives most) (s : List X) (l₀ : List ℕ) where
  pub take_start : Taken head gives most s l₀ 0 0 0 l₀
  unfolding given count_start
  take_start = record { counted = count_start laws bounded s; put = put_none l₀ 0 }

  pub take_turn : {at n o next o' k : ℕ} {l l' : List ℕ} {e : A} → Taken head gives most s l₀ at n o l → head (drop at s) ≡ element e k
      → next ≡ at + k → Put l o (gives e) l' o' → Taken head gives most s l₀ next (n + 1) o' l'
  take_turn {e = e} was q z p =
      let es = was.counted.es in
      record {
        counted =
            record {
              es = es ++ (e ∷ []);
              passed =
                  subst (λ (i : ℕ). Passed head gives most s i (es ++ (e ∷ []))) (sym z) (turn laws bounded s was.counted.passed q);
              number = omega (arith, was.counted.number, length-append es (e ∷ []));
              counted = omega (arith, was.counted.counted, given_more gives es e, p.place);
            };
        put = put_given_one gives es e was.put p;
      }
