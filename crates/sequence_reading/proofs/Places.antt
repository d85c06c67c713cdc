-- How far `read_sequence` has come: the invariant of its loop, and what each outcome of a step makes of it.
-- Assumes nothing.
use Prim.Native.Nat.{ℕ, suc, ◌+◌, ◌≤◌, ◌<◌}
use mathlib.Core.Path.{◌≡◌, refl, sym, ap, ap₂, subst, ◌∙◌}
use mathlib.Core.List.{List, [], ◌∷◌, ◌++◌}
use native.Mathlib.Numerals.{add-one}
use native.Mathlib.Omega.{arith}
use lib.ListN.{length, get_or, drop, set, drop_of_length-le}
use lib.Seq.{drop-cons}
use Rattle.sequence_reading.specs.declared.Scan.{Scan}
use Rattle.sequence_reading.specs.declared.Next.{Next}
use Rattle.sequence_reading.specs.declared.Next.TheVariants.{More, Value, Last}
use Rattle.sequence_reading.specs.declared.Reading.TheVariants.{Whole, Refused, End}
use Rattle.std.proofs.Common.{Result, Ok, Err}
use Rattle.sorts.specs.Forms.{CSI}
use Rattle.sequence_reading.specs.EightValues.{values_of}
use Rattle.sequence_reading.specs.SequenceHead.{Fair, step_of, after, scan, begun, sequence_head, reading_at}
use Rattle.sequence_reading.proofs.Reach.{snoc_length, Standing, standing_fair, standing_start, Says, step_says}
use Rattle.sequence_reading.proofs.Reader.{foreign_refused}

-- ---- the values

-- one value more, at its place
values_snoc : (vs : List ℕ) (v : ℕ) → length vs < 8 → set (values_of vs) (length vs) v ≡ values_of (vs ++ (v ∷ []))
values_snoc [] v h = refl
values_snoc (a ∷ []) v h = refl
values_snoc (a ∷ (b ∷ [])) v h = refl
values_snoc (a ∷ (b ∷ (c ∷ []))) v h = refl
values_snoc (a ∷ (b ∷ (c ∷ (d ∷ [])))) v h = refl
values_snoc (a ∷ (b ∷ (c ∷ (d ∷ (e ∷ []))))) v h = refl
values_snoc (a ∷ (b ∷ (c ∷ (d ∷ (e ∷ (f ∷ [])))))) v h = refl
values_snoc (a ∷ (b ∷ (c ∷ (d ∷ (e ∷ (f ∷ (g ∷ []))))))) v h = refl
values_snoc (a ∷ (b ∷ (c ∷ (d ∷ (e ∷ (f ∷ (g ∷ (i ∷ vs)))))))) v h = absurd (omega arith)

-- ---- the places

module _ (text : List ℕ) (at : ℕ) where
  -- nothing, at or past the end
  pub none_left : length text ≤ at → End ≡ reading_at text at
  unfolding reading_at sequence_head
  none_left h = rw (drop_of_length-le text h)

  -- 6 where no 9B stands
  pub no_sequence : at < length text → (get_or text at 0 ≡ CSI → ⊥) → Refused 6 at ≡ reading_at text at
  unfolding reading_at
  no_sequence h n =
      rw (drop-cons text at 0 h, foreign_refused (get_or text at 0) (drop (suc at) text) n)
      (ap (Refused 6) (omega arith))

  -- what the loop keeps
  pub record Reached (values : List ℕ) (s : Scan) (i : ℕ) : Type 0 where
    pub octets : List ℕ
    pub closed : List ℕ
    pub standing : Standing octets closed s
    pub fair : Fair s
    pub held : values ≡ values_of closed
    pub place : i ≡ at + s.taken
    pub inside : i ≤ length text
    pub same : scan closed s (drop i text) ≡ sequence_head (drop at text)

  pub reached_start : at < length text → get_or text at 0 ≡ CSI → Reached (values_of []) begun (at + 1)
  unfolding sequence_head
  reached_start h e =
      record {
        octets = CSI ∷ [];
        closed = [];
        standing = standing_start;
        fair = standing_fair standing_start;
        held = refl;
        place = refl;
        inside = omega arith;
        same = rw (add-one, drop-cons text at 0 h, e);
      }

  -- the scan at a place, by its octet's outcome
  scan_at : (vs : List ℕ) (s : Scan) (i : ℕ) (n : Result Next ℕ) → i < length text → step_of s (get_or text i 0) ≡ n
      → scan vs s (drop i text) ≡ after n vs s (λ ws t. scan ws t (drop (i + 1) text))
  unfolding scan
  scan_at vs s i n h e = rw (add-one, drop-cons text i 0 h, e)

  module _ (values : List ℕ) (s : Scan) (i : ℕ) (r : Reached values s i) (h : i < length text) where
    says : (n : Result Next ℕ) → step_of s (get_or text i 0) ≡ n → Says r.octets r.closed s (get_or text i 0) n
    says n e =
        subst (Says r.octets r.closed s (get_or text i 0)) e
        (step_says r.octets r.closed s (get_or text i 0) r.standing)

    taken_more : {ws : List ℕ} {t : Scan} → Standing (r.octets ++ (get_or text i 0 ∷ [])) ws t → i + 1 ≡ at + t.taken
    taken_more g =
        omega (arith, g.taken, snoc_length r.octets (get_or text i 0), r.standing.taken, r.place)

    pub reached_more : (t : Scan) → step_of s (get_or text i 0) ≡ Ok (More t) → Reached values t (i + 1)
    reached_more t e =
        let g = says (Ok (More t)) e in
        record {
          octets = r.octets ++ (get_or text i 0 ∷ []);
          closed = r.closed;
          standing = g;
          fair = standing_fair g;
          held = r.held;
          place = taken_more g;
          inside = omega arith;
          same = sym (scan_at r.closed s i (Ok (More t)) h e) ∙ r.same;
        }

    -- one value more
    closes : {v : List ℕ} → v ≡ set values s.closed s.current → v ≡ values_of (r.closed ++ (s.current ∷ []))
    closes e =
        e
        ∙ ap₂ (λ (l : List ℕ) (k : ℕ). set l k s.current) r.held r.standing.closed
        ∙ values_snoc r.closed s.current (omega (arith, r.standing.closed, r.fair.few))

    pub reached_value : {v : List ℕ} (t : Scan) → step_of s (get_or text i 0) ≡ Ok (Value t)
        → v ≡ set values s.closed s.current → Reached v t (i + 1)
    reached_value t e l =
        let g = says (Ok (Value t)) e in
        record {
          octets = r.octets ++ (get_or text i 0 ∷ []);
          closed = r.closed ++ (s.current ∷ []);
          standing = g;
          fair = standing_fair g;
          held = closes l;
          place = taken_more g;
          inside = omega arith;
          same = sym (scan_at r.closed s i (Ok (Value t)) h e) ∙ r.same;
        }

    pub reached_last : {v : List ℕ} (f : ℕ) → step_of s (get_or text i 0) ≡ Ok (Last f) → v ≡ set values s.closed s.current
        → Whole s.middle f (s.closed + 1) v (i + 1) ≡ reading_at text at
    unfolding reading_at
    reached_last {v} f e l =
        let vs = r.closed ++ (s.current ∷ []) in
        let n : length vs ≡ s.closed + 1 = omega (arith, snoc_length r.closed s.current, r.standing.closed) in
        let x : v ≡ values_of vs = closes l in
        let y : i + 1 ≡ at + (s.taken + 1) = omega (arith, r.place) in
        rw (← r.same, scan_at r.closed s i (Ok (Last f)) h e, n, ← x, y)

    pub reached_bad : (n : ℕ) → step_of s (get_or text i 0) ≡ Err n → Refused n i ≡ reading_at text at
    unfolding reading_at
    reached_bad n e = rw (← r.same, scan_at r.closed s i (Err n) h e, ← r.place)

  pub reached_end : (values : List ℕ) (s : Scan) (i : ℕ) → Reached values s i → length text ≤ i
      → Refused 4 (length text) ≡ reading_at text at
  unfolding reading_at scan
  reached_end values s i r h =
      rw (← r.same, drop_of_length-le text h, ← r.place) (ap (Refused 4) (omega (arith, r.inside)))
