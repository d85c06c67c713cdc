-- What the writers use: a spelling by the parts in which it is written, how far the loops over the values have come, and what is written.
-- Assumes nothing.
use Prim.Native.Nat.{ℕ, suc, ◌+◌, ◌≤◌, ◌<◌}
use mathlib.Core.Path.{◌≡◌, refl, sym, ap, ◌∙◌}
use mathlib.Core.List.{List, [], ◌∷◌, ◌++◌, append_assoc, append-nil}
use mathlib.Core.Bool.{Bool, true, false}
use mathlib.Core.Logic.{◌↔◌, ◌⊎◌}
use native.Mathlib.Numerals.{add-one}
use native.Mathlib.Omega.{arith}
use lib.ListN.{length, get_or, drop, length-append, drop_of_length-le}
use lib.Seq.{drop-cons}
use Rattle.run.specs.Put.{Put, what_fits}
use Rattle.run.proofs.Choices.{is_false, alike_tests}
use Rattle.run.proofs.Puts.{put_none, put_both, put_as, put_length, put_one, all_fit, none_fits}
use Rattle.sorts.specs.Forms.{CSI}
use Rattle.sequence_reading.specs.Grammar.{Sequence, Small}
use Rattle.sequence_spelling.specs.SequenceOctets.{Fine, digits_of, spell_rest, spell_values, spell_middle, spell_sequence, is_fine, size_of}
use Rattle.sequence_spelling.specs.SequenceOctets.{put_sequence}
use Rattle.sequence_spelling.proofs.Exactly.{rest_size, spell_size, size_some, fine_test, middle_none, middle_one}

-- ---- what can be spelt

pub not_fine : (q : Sequence) → (Fine q → ⊥) → false ≡ is_fine q
not_fine q h = sym (is_false (is_fine q) (λ e. h ((fine_test q).0 e)))

pub small_at : (vs : List ℕ) (k : ℕ) → Small vs → k < length vs → get_or vs k 0 ≤ 999
small_at [] k s h = absurd (omega arith)
small_at (v ∷ vs) ℕ.zero s h = s.0
small_at (v ∷ vs) (suc k) s h = small_at vs k s.1 (omega arith)

pub small_each : (vs : List ℕ) → ((k : ℕ) → k < length vs → get_or vs k 0 ≤ 999) → Small vs
small_each [] h = tt
small_each (v ∷ vs) h = (h 0 (omega arith), small_each vs (λ k g. h (suc k) (omega arith)))

-- where the other parts are in range, the values decide
pub fine_by_values : (m f : ℕ) (vs : List ℕ) (r : Bool) → (m ≡ 0) ⊎ ((0x20 ≤ m) × (m ≤ 0x2F)) → (0x40 ≤ f) × (f ≤ 0x7E)
    → (1 ≤ length vs) × (length vs ≤ 8) → ((r ≡ true) ↔ ((k : ℕ) → k < length vs → get_or vs k 0 ≤ 999))
    → r ≡ is_fine (record { middle = m; last = f; values = vs })
fine_by_values m f vs r mid fin few h =
    alike_tests r (is_fine _)
    (λ e. (fine_test _).1 (record { middle = mid; low = fin.0; high = fin.1; some = few.0; eight = few.1; small = small_each vs (h.0 e) }))
    (λ e. h.1 (λ k g. small_at vs k ((fine_test _).0 e).small g))

-- ---- the size

rest_cons : (values : List ℕ) (k : ℕ) → k < length values
    → spell_rest (drop k values) ≡ (0x3B ∷ digits_of (get_or values k 0)) ++ spell_rest (drop (k + 1) values)
unfolding spell_rest
rest_cons values k h = rw (add-one, drop-cons values k 0 h)

-- what one value takes of the rest
pub rest_step : (values : List ℕ) (k : ℕ) → k < length values
    → length (spell_rest (drop k values)) ≡ 1 + length (digits_of (get_or values k 0)) + length (spell_rest (drop (k + 1) values))
rest_step values k h =
    omega (arith, ap length (rest_cons values k h), length-append (digits_of (get_or values k 0)) (spell_rest (drop (k + 1) values)))

pub rest_end : (values : List ℕ) (k : ℕ) → length values ≤ k → length (spell_rest (drop k values)) ≡ 0
unfolding spell_rest
rest_end values k h = rw (drop_of_length-le values h)

pub no_size : (q : Sequence) → is_fine q ≡ false → 0 ≡ size_of q
unfolding size_of
no_size q e = rw e

full_size : (q : Sequence) → is_fine q ≡ true → size_of q ≡ length (spell_sequence q)
unfolding size_of
full_size q e = rw e

pub size_bare : (m f : ℕ) (vs : List ℕ) → is_fine (record { middle = m; last = f; values = vs }) ≡ true → m ≡ 0
    → length (spell_rest vs) + 1 ≡ size_of (record { middle = m; last = f; values = vs })
size_bare m f vs e z =
    let q : Sequence = record { middle = m; last = f; values = vs } in
    omega (arith, full_size q e, spell_size q, rest_size vs ((fine_test q).0 e).some, ap length (middle_none m z))

pub size_middle : (m f : ℕ) (vs : List ℕ) → is_fine (record { middle = m; last = f; values = vs }) ≡ true → (m ≡ 0 → ⊥)
    → length (spell_rest vs) + 1 + 1 ≡ size_of (record { middle = m; last = f; values = vs })
size_middle m f vs e z =
    let q : Sequence = record { middle = m; last = f; values = vs } in
    omega (arith, full_size q e, spell_size q, rest_size vs ((fine_test q).0 e).some, ap length (middle_one m z))

-- ---- what is written

unput : (out : List ℕ) (at : ℕ) (q : Sequence) → is_fine q ≡ false → put_sequence out at q ≡ []
unfolding put_sequence
unput out at q e = rw e

tight : (out : List ℕ) (at : ℕ) (q : Sequence) → is_fine q ≡ true → length out < at + length (spell_sequence q) → put_sequence out at q ≡ []
unfolding put_sequence
tight out at q e h = rw e (none_fits out at (spell_sequence q) h)

wide : (out : List ℕ) (at : ℕ) (q : Sequence) → is_fine q ≡ true → at + length (spell_sequence q) ≤ length out
    → put_sequence out at q ≡ spell_sequence q
unfolding put_sequence
wide out at q e h = rw e (all_fit out at (spell_sequence q) h)

module _ (out : List ℕ) (at : ℕ) (q : Sequence) where
  nothing_by : (t : Bool) → is_fine q ≡ t → size_of q ≡ 0 → put_sequence out at q ≡ []
  nothing_by true e z = absurd (omega (arith, full_size q e, size_some q))
  nothing_by false e z = unput out at q e

  pub put_nothing : size_of q ≡ 0 → Put out at (put_sequence out at q) out at
  put_nothing z = put_as (sym (nothing_by (is_fine q) refl z)) (put_none out at)

  short_by : (t : Bool) → is_fine q ≡ t → length out < at + size_of q → put_sequence out at q ≡ []
  short_by true e h = tight out at q e (omega (arith, full_size q e))
  short_by false e h = unput out at q e

  pub put_short : length out < at + size_of q → Put out at (put_sequence out at q) out at
  put_short h = put_as (sym (short_by (is_fine q) refl h)) (put_none out at)

  fine_by : (t : Bool) → is_fine q ≡ t → 0 < size_of q → is_fine q ≡ true
  fine_by true e h = e
  fine_by false e h = absurd (omega (arith, no_size q e))

  module _ (some : 0 < size_of q) where
    pub sized_fine : Fine q
    sized_fine = (fine_test q).0 (fine_by (is_fine q) refl some)

    pub sized : size_of q ≡ length (spell_sequence q)
    sized = full_size q (fine_by (is_fine q) refl some)

    pub put_spelt : {after : List ℕ} {r : ℕ} → at + size_of q ≤ length out → Put out at (spell_sequence q) after r
        → Put out at (put_sequence out at q) after r
    put_spelt h p = put_as (sym (wide out at q (fine_by (is_fine q) refl some) (omega (arith, sized)))) p

-- how far `put_rest` has come: what is written, and what is left
pub record Partly (out₀ : List ℕ) (at : ℕ) (values out : List ℕ) (i k : ℕ) : Type 0 where
  pub done : List ℕ
  pub all : done ++ spell_rest (drop k values) ≡ spell_rest values
  pub put : Put out₀ at done out i

module _ (out₀ : List ℕ) (at : ℕ) (values : List ℕ) where
  pub partly_start : Partly out₀ at values out₀ at 0
  partly_start = record { done = []; all = refl; put = put_none out₀ at }

  module _ (out : List ℕ) (i k : ℕ) (s : Partly out₀ at values out i k) where
    -- what the next value takes is within what is left
    pub partly_room : k < length values → i + 1 + length (digits_of (get_or values k 0)) ≤ at + length (spell_rest values)
    partly_room h =
        omega (
          arith,
          s.put.place,
          ap length s.all,
          length-append s.done (spell_rest (drop k values)),
          rest_step values k h,
        )

    pub partly_more : {a b : List ℕ} {j n : ℕ} → k < length values → Put out i (0x3B ∷ []) a j → Put a j (digits_of (get_or values k 0)) b n
        → Partly out₀ at values b n (k + 1)
    partly_more h p q =
        record {
          done = s.done ++ (0x3B ∷ digits_of (get_or values k 0));
          all =
              append_assoc s.done (0x3B ∷ digits_of (get_or values k 0)) (spell_rest (drop (k + 1) values))
              ∙ ap (λ (l : List ℕ). s.done ++ l) (sym (rest_cons values k h))
              ∙ s.all;
          put = put_both s.put (put_both p q);
        }

    pub partly_end : length values ≤ k → Put out₀ at (spell_rest values) out i
    unfolding spell_rest
    partly_end h =
        put_as
        (sym (append-nil s.done)
        ∙ ap (λ (l : List ℕ). s.done ++ spell_rest l) (sym (drop_of_length-le values h))
        ∙ s.all)
        s.put

-- a spelling by its parts, in the order in which they are written
pub whole_parts : (m f : ℕ) (vs : List ℕ) → 1 ≤ length vs
    → (CSI ∷ []) ++ (digits_of (get_or vs 0 0) ++ (spell_rest (drop 1 vs) ++ (spell_middle m ++ (f ∷ []))))
    ≡ spell_sequence (record { middle = m; last = f; values = vs })
unfolding spell_sequence spell_values
whole_parts m f [] h = absurd (omega arith)
whole_parts m f (v ∷ vs) h =
    ap (λ (l : List ℕ). CSI ∷ l) (sym (append_assoc (digits_of v) (spell_rest vs) (spell_middle m ++ (f ∷ []))))

whole_size : (m f : ℕ) (vs : List ℕ) → 1 ≤ length vs
    → length (spell_sequence (record { middle = m; last = f; values = vs }))
    ≡ 1 + length (digits_of (get_or vs 0 0)) + length (spell_rest (drop 1 vs)) + length (spell_middle m) + 1
whole_size m f vs h =
    omega (
      arith,
      ap length (whole_parts m f vs h),
      length-append (digits_of (get_or vs 0 0)) (spell_rest (drop 1 vs) ++ (spell_middle m ++ (f ∷ []))),
      length-append (spell_rest (drop 1 vs)) (spell_middle m ++ (f ∷ [])),
      length-append (spell_middle m) (f ∷ []),
    )

-- Where there is room for the spelling, there is room for each part after those before it, and the parts are the whole.
module _ (m f : ℕ) (vs out : List ℕ) (at : ℕ) (some : 1 ≤ length vs)
    (room : at + length (spell_sequence (record { middle = m; last = f; values = vs })) ≤ length out) where
  module _ {a : List ℕ} {i : ℕ} (first : Put out at (what_fits out at (CSI ∷ [])) a i) where
    start : Put out at (CSI ∷ []) a i
    start = put_one (omega (arith, whole_size m f vs some)) first

    pub value_room : i + length (digits_of (get_or vs 0 0)) ≤ length a
    value_room = omega (arith, whole_size m f vs some, start.place, put_length start)

    module _ {b : List ℕ} {j : ℕ} (value : Put a i (digits_of (get_or vs 0 0)) b j) where
      pub rest_room : j + length (spell_rest (drop 1 vs)) + length (spell_middle m) + 1 ≤ length b
      rest_room = omega (arith, whole_size m f vs some, start.place, put_length start, value.place, put_length value)

      module _ {c : List ℕ} {k : ℕ} (others : Put b j (spell_rest (drop 1 vs)) c k) where
        pub middle_room : k + length (spell_middle m) + 1 ≤ length c
        middle_room = omega (arith, rest_room, others.place, put_length others)

        pub whole_put : {d e : List ℕ} {l n : ℕ} → Put c k (spell_middle m) d l → Put d l (what_fits d l (f ∷ [])) e n
            → Put out at (spell_sequence (record { middle = m; last = f; values = vs })) e n
        whole_put p q =
            put_as (whole_parts m f vs some)
            (put_both start (put_both value
            (put_both others (put_both p (put_one (omega (arith, middle_room, p.place, put_length p)) q)))))
