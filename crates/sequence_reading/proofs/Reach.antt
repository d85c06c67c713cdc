-- How far a reading has come: what stands before its state is `Inside` a sequence, and from there each octet does what the grammar says.
-- Assumes nothing.
use Prim.Native.Nat.{ℕ, ◌+◌, ◌*◌, ◌≤◌, ◌<◌}
use mathlib.Core.Path.{◌≡◌, refl, sym, ap, ap₂, subst, ◌∙◌}
use mathlib.Core.List.{List, [], ◌∷◌, ◌++◌, append_assoc, append-nil}
use native.Mathlib.Omega.{arith}
use lib.Dec.{leb, eqb}
use lib.ListN.{length, length-append}
use borrow.Author.Tests.{leb-true, leb-false, eqb-true, eqb-false}
use Rattle.run.specs.Choice.{pick}
use Rattle.run.specs.Head.{Head, element, refused, none}
use Rattle.run.specs.Grammar.{Begins}
use Rattle.run.proofs.Choices.{pick_case}
use Rattle.std.proofs.Common.{Result, Ok, Err}
use Rattle.sorts.specs.Forms.{CSI}
use Rattle.sequence_reading.specs.declared.Kind.{Kind}
use Rattle.sequence_reading.specs.declared.Kind.TheVariants.{Digit, Separator, Middle, Final, Other}
use Rattle.sequence_reading.specs.declared.Scan.{Scan}
use Rattle.sequence_reading.specs.declared.Next.{Next}
use Rattle.sequence_reading.specs.declared.Next.TheVariants.{More, Value, Last}
use Rattle.sequence_reading.specs.Kinds.{kind_of}
use Rattle.sequence_reading.specs.Grammar as grammar
use Rattle.sequence_reading.specs.Grammar.{Sequence, Decimal, empty, digit, Parameters, single, joined, Intermediate, one, Small}
use Rattle.sequence_reading.specs.Grammar.{last_of, Inside, SpellsSequence, sequence, NotAllowed, no_kind, late_digit, late_separator}
use Rattle.sequence_reading.specs.Grammar.{second_middle, Passes, passes_999, ninth, Goes, digit_goes, separator_goes, middle_goes}
use Rattle.sequence_reading.specs.Grammar.{RefusesSequence, ends, not_allowed, passes, fortieth}
use Rattle.sequence_reading.specs.SequenceHead.{Fair, unless_late, unless_full, digit_step, value_step, middle_step, kind_step, step_of}
use Rattle.sequence_reading.specs.SequenceHead.{after, scan, begun, sequence_head}
use Rattle.sequence_reading.proofs.Steps.{middle_says, is_late, not_late, is_full, not_full, digit_late, digit_passes, digit_within}
use Rattle.sequence_reading.proofs.Steps.{value_late, value_passes, value_within, middle_within, step_as}

-- ---- lists of values

pub snoc_length : (s : List ℕ) (b : ℕ) → length (s ++ (b ∷ [])) ≡ length s + 1
snoc_length s b = length-append s (b ∷ [])

not_snoc : (ws : List ℕ) (c : ℕ) → [] ≡ ws ++ (c ∷ []) → ⊥
not_snoc ws c e = omega (arith, ap length e, snoc_length ws c)

pub small_snoc : (vs : List ℕ) (v : ℕ) → Small vs → v ≤ 999 → Small (vs ++ (v ∷ []))
small_snoc [] v s h = (h, tt)
small_snoc (x ∷ vs) v s h = (s.0, small_snoc vs v s.1 h)

small_front : (vs : List ℕ) (v : ℕ) → Small (vs ++ (v ∷ [])) → Small vs
small_front [] v s = tt
small_front (x ∷ vs) v s = (s.0, small_front vs v s.1)

small_last : (vs : List ℕ) (v : ℕ) → Small (vs ++ (v ∷ [])) → v ≤ 999
small_last [] v s = s.0
small_last (x ∷ vs) v s = small_last vs v s.1

last_snoc : (vs : List ℕ) (v : ℕ) → last_of (vs ++ (v ∷ [])) ≡ v
last_snoc [] v = refl
last_snoc (x ∷ []) v = refl
last_snoc (x ∷ (y ∷ vs)) v = last_snoc (y ∷ vs) v

-- the values before the open one
abbrev pub closed_of : List ℕ → List ℕ
closed_of [] = []
closed_of (v ∷ []) = []
closed_of (v ∷ (w ∷ vs)) = v ∷ closed_of (w ∷ vs)

pub closed_last : (vs : List ℕ) → 1 ≤ length vs → vs ≡ closed_of vs ++ (last_of vs ∷ [])
closed_last [] h = absurd (omega arith)
closed_last (v ∷ []) h = refl
closed_last (v ∷ (w ∷ vs)) h = ap (λ (l : List ℕ). v ∷ l) (closed_last (w ∷ vs) (omega arith))

pub some_value : {p vs : List ℕ} → Parameters p vs → 1 ≤ length vs
some_value (single d) = omega arith
some_value (joined b d e ps) = omega arith

-- ---- from the grammar to the reader

abbrev pub state : ℕ → ℕ → ℕ → ℕ → Scan
state c k m t = record { current = c; closed = k; middle = m; taken = t }

-- one octet, by its kind
scan_as : (ws : List ℕ) (s : Scan) (b : ℕ) (rest : List ℕ) (k : Kind) (n : Result Next ℕ) → kind_of b ≡ k → kind_step k s ≡ n
    → scan ws s (b ∷ rest) ≡ after n ws s (λ vs t. scan vs t rest)
unfolding scan
scan_as ws s b rest k n e q = rw (step_as s b k e ∙ q)

through_decimal : {s : List ℕ} {v : ℕ} → Decimal s v → (ws rest : List ℕ) (k t : ℕ) → v ≤ 999 → t + length s ≤ 39
    → scan ws (state 0 k 0 t) (s ++ rest) ≡ scan ws (state v k 0 (t + length s)) rest
through_decimal empty ws rest k t h g = ap (λ (n : ℕ). scan ws (state 0 k 0 n) rest) (omega arith)
through_decimal (digit {s} {v} {d} b dec e) ws rest k t h g =
    let l = snoc_length s b in
    let here = state v k 0 (t + length s) in
    ap (scan ws (state 0 k 0 t)) (append_assoc s (b ∷ []) rest)
    ∙ through_decimal dec ws (b ∷ rest) k t (omega arith) (omega arith)
    ∙ scan_as ws here b rest (Digit d) _ e (digit_within here d (v * 10 + d) refl h ∙ not_late here _ refl ∙ not_full here _ (omega arith))
    ∙ ap (λ (n : ℕ). scan ws (state (v * 10 + d) k 0 n) rest) (omega arith)

through_parameters : {p vs : List ℕ} → Parameters p vs → (cs : List ℕ) (c : ℕ) → vs ≡ cs ++ (c ∷ []) → (ws rest : List ℕ) (k t : ℕ)
    → Small vs → k + length cs ≤ 7 → t + length p ≤ 39
    → scan ws (state 0 k 0 t) (p ++ rest) ≡ scan (ws ++ cs) (state c (k + length cs) 0 (t + length p)) rest
through_parameters (single {s} {v} dec) [] c w ws rest k t h n g =
    let e : v ≡ c = cc in
    through_decimal dec ws rest k t h.0 g
    ∙ simp (e, append-nil) (ap (λ (n : ℕ). scan ws (state c n 0 (t + length s)) rest) (omega arith))
through_parameters (single dec) (x ∷ cs) c w ws rest k t h n g = absurd (not_snoc cs c (cc))
through_parameters (joined b dec e ps) [] c w ws rest k t h n g =
    absurd (omega (arith, some_value ps, ap length w))
through_parameters (joined {s} {p} {vs} {v} b dec e ps) (x ∷ cs) c w ws rest k t h n g =
    let vx : v ≡ x = cc in
    let wr : vs ≡ cs ++ (c ∷ []) = cc in
    let l = length-append s (b ∷ p) in
    let here = state v k 0 (t + length s) in
    ap (scan ws (state 0 k 0 t)) (append_assoc s (b ∷ p) rest)
    ∙ through_decimal dec ws (b ∷ (p ++ rest)) k t h.0 (omega arith)
    ∙ scan_as ws here b (p ++ rest) Separator _ e (value_within here (omega arith) ∙ not_late here _ refl ∙ not_full here _ (omega arith))
    ∙ through_parameters ps cs c wr (ws ++ (v ∷ [])) rest (k + 1) (t + length s + 1) h.1 (omega arith) (omega arith)
    ∙ simp (append_assoc, vx) (ap₂ (λ (i j : ℕ). scan (ws ++ (x ∷ cs)) (state c i 0 j) rest) (omega arith) (omega arith))

through_middle : {i : List ℕ} {m : ℕ} → Intermediate i m → (ws rest : List ℕ) (c k t : ℕ) → t + length i ≤ 39
    → scan ws (state c k 0 t) (i ++ rest) ≡ scan ws (state c k m (t + length i)) rest
through_middle grammar.none ws rest c k t h = ap (λ (n : ℕ). scan ws (state c k 0 n) rest) (omega arith)
through_middle (one {b} {i} e) ws rest c k t h =
    let here = state c k 0 t in
    scan_as ws here b rest (Middle i) _ e (middle_within here i ∙ not_late here _ refl ∙ not_full here _ (omega arith))

-- the state in which what is inside a sequence leaves the reader
abbrev pub state_of : List ℕ → ℕ → List ℕ → Scan
state_of s m vs = state (last_of vs) (length (closed_of vs)) m (length s)

pub arrive : {s vs : List ℕ} {m : ℕ} → Inside s m vs → (t : List ℕ) → sequence_head (s ++ t) ≡ scan (closed_of vs) (state_of s m vs) t
unfolding sequence_head
arrive {s} {vs} {m} h t =
    let p = h.parameters in
    let i = h.intermediate in
    let cs = closed_of vs in
    let c = last_of vs in
    let w : vs ≡ cs ++ (c ∷ []) = closed_last vs (some_value h.valued) in
    let few : length cs ≤ 7 = omega (arith, h.eight, ap length w, snoc_length cs c) in
    let size : length s ≡ 1 + (length p + length i) = omega (arith, ap length h.whole, length-append p i) in
    ap (λ (l : List ℕ). sequence_head (l ++ t)) h.whole
    ∙ ap (scan [] begun) (append_assoc p i t)
    ∙ through_parameters h.valued cs c w [] (i ++ t) 0 1 h.small (omega arith) (omega (arith, h.short))
    ∙ through_middle h.at_most_one cs t c (0 + length cs) (1 + length p) (omega (arith, h.short))
    ∙ ap₂ (λ (a b : ℕ). scan cs (state c a m b) t) (omega arith) (omega arith)

-- what the grammar refuses, the state refuses

step_not_allowed : {m : ℕ} {k : Kind} → NotAllowed m k → (s : Scan) → s.middle ≡ m → kind_step k s ≡ Err 6
step_not_allowed no_kind s e = refl
step_not_allowed (late_digit {m} {d} h) s e = digit_late s d (omega arith)
step_not_allowed (late_separator h) s e = value_late s (omega arith)
step_not_allowed (second_middle {m} {i} h) s e = middle_within s i ∙ is_late s _ (omega arith)

step_passes : {vs : List ℕ} {k : Kind} → Passes vs k → (s : Scan) → s.middle ≡ 0 → s.current ≡ last_of vs → s.closed + 1 ≡ length vs
    → kind_step k s ≡ Err 7
step_passes (passes_999 {vs} {d} h) s m c n = digit_passes s d (omega arith) ∙ not_late s _ m
step_passes (ninth h) s m c n = value_passes s (omega arith) ∙ not_late s _ m

step_fortieth : {m : ℕ} {vs : List ℕ} {k : Kind} → Goes m vs k → (s : Scan) → s.middle ≡ m → s.current ≡ last_of vs
    → s.closed + 1 ≡ length vs → s.taken ≡ 39 → kind_step k s ≡ Err 8
step_fortieth (digit_goes {vs} {d} h) s m c n t =
    digit_within s d (s.current * 10 + d) refl (omega arith) ∙ not_late s _ m ∙ is_full s _ (omega arith)
step_fortieth (separator_goes h) s m c n t = value_within s (omega arith) ∙ not_late s _ m ∙ is_full s _ (omega arith)
step_fortieth (middle_goes {vs} {i}) s m c n t = middle_within s i ∙ not_late s _ m ∙ is_full s _ (omega arith)

module _ {s vs : List ℕ} {m : ℕ} (h : Inside s m vs) where
  closed_count : length (closed_of vs) + 1 ≡ length vs
  closed_count = sym (ap length (closed_last vs (some_value h.valued)) ∙ snoc_length (closed_of vs) (last_of vs))

  -- one octet more
  arrive_at : (b : ℕ) (t : List ℕ) (n : Result Next ℕ) → kind_step (kind_of b) (state_of s m vs) ≡ n
      → sequence_head (s ++ (b ∷ t)) ≡ after n (closed_of vs) (state_of s m vs) (λ ws u. scan ws u t)
  arrive_at b t n e = arrive h (b ∷ t) ∙ scan_as (closed_of vs) (state_of s m vs) b t (kind_of b) n refl e

  arrive_final : (b f : ℕ) (t : List ℕ) → kind_of b ≡ Final f
      → sequence_head (s ++ (b ∷ t)) ≡ element (record { middle = m; last = f; values = vs }) (length s + 1)
  arrive_final b f t e =
      arrive_at b t (Ok (Last f)) (rw e)
      ∙ rw (← closed_last vs (some_value h.valued))

pub spelling_found : {p : List ℕ} {q : Sequence} → SpellsSequence p q → (t : List ℕ) → sequence_head (p ++ t) ≡ element q (length p)
spelling_found (sequence {s} {vs} {m} {f} b h e) t =
    ap sequence_head (append_assoc s (b ∷ []) t) ∙ arrive_final h b f t e ∙ rw (snoc_length s b)

pub refusal_found : {u : List ℕ} {r d : ℕ} → RefusesSequence u r d → sequence_head u ≡ refused r d
unfolding scan
refusal_found (ends {s} h) = sym (ap sequence_head (append-nil s)) ∙ arrive h []
refusal_found (not_allowed {s} {vs} {m} b t h n) = arrive_at h b t (Err 6) (step_not_allowed n (state_of s m vs) refl)
refusal_found (passes {s} {vs} b t h n) = arrive_at h b t (Err 7) (step_passes n (state_of s 0 vs) refl refl (closed_count h))
refusal_found (fortieth {s} {vs} {m} b t h l n) = arrive_at h b t (Err 8) (step_fortieth n (state_of s m vs) refl refl (closed_count h) l)

-- ---- from the reader to the grammar

snoc_digit : {p vs : List ℕ} {d : ℕ} → Parameters p vs → (ws : List ℕ) (c b : ℕ) → vs ≡ ws ++ (c ∷ []) → kind_of b ≡ Digit d
    → Parameters (p ++ (b ∷ [])) (ws ++ ((c * 10 + d) ∷ []))
snoc_digit (single {s} {v} dec) [] c b w e = let vc : v ≡ c = cc in rw (← vc) (single (digit b dec e))
snoc_digit (single dec) (x ∷ ws) c b w e = absurd (not_snoc ws c (cc))
snoc_digit (joined b' dec e' ps) [] c b w e = absurd (omega (arith, some_value ps, ap length w))
snoc_digit (joined {s} {p} {vs} {v} b' dec e' ps) (x ∷ ws) c b w e =
    let vx : v ≡ x = cc in
    let wr : vs ≡ ws ++ (c ∷ []) = cc in
    rw (← vx, append_assoc s (b' ∷ p) (b ∷ [])) (joined b' dec e' (snoc_digit ps ws c b wr e))

snoc_separator : {p vs : List ℕ} → Parameters p vs → (b : ℕ) → kind_of b ≡ Separator → Parameters (p ++ (b ∷ [])) (vs ++ (0 ∷ []))
snoc_separator (single dec) b e = joined b dec e (single empty)
snoc_separator (joined {s} {p} b' dec e' ps) b e =
    rw (append_assoc s (b' ∷ p) (b ∷ [])) (joined b' dec e' (snoc_separator ps b e))

no_middle : {i : List ℕ} {m : ℕ} → Intermediate i m → m ≡ 0 → i ≡ []
no_middle grammar.none z = refl
no_middle (one {b} {i} e) z = absurd (omega (arith, middle_says b i e))

-- the octets s, then a state and the values that are closed
pub record Standing (s ws : List ℕ) (a : Scan) : Type 0 where
  pub inside : Inside s a.middle (ws ++ (a.current ∷ []))
  pub closed : a.closed ≡ length ws
  pub taken : a.taken ≡ length s

pub standing_fair : {s ws : List ℕ} {a : Scan} → Standing s ws a → Fair a
standing_fair {s} {ws} {a} h =
    record {
      small = small_last ws a.current h.inside.small;
      few = omega (arith, h.closed, h.inside.eight, snoc_length ws a.current);
      short = omega (arith, h.taken, h.inside.short);
    }

pub standing_start : Standing (CSI ∷ []) [] begun
standing_start =
    record {
      inside =
          record {
            parameters = [];
            intermediate = [];
            whole = refl;
            valued = single empty;
            at_most_one = grammar.none;
            small = (omega arith, tt);
            eight = omega arith;
            short = omega arith;
          };
      closed = refl;
      taken = refl;
    }

-- what an octet's outcome says: one octet more stands; or the octet is a final; or what begins so is refused, whatever follows
abbrev pub Says : List ℕ → List ℕ → Scan → ℕ → Result Next ℕ → Type 0
Says s ws a b (Ok (More t)) = Standing (s ++ (b ∷ [])) ws t
Says s ws a b (Ok (Value t)) = Standing (s ++ (b ∷ [])) (ws ++ (a.current ∷ [])) t
Says s ws a b (Ok (Last f)) = kind_of b ≡ Final f
Says s ws a b (Err n) = (t : List ℕ) → RefusesSequence (s ++ (b ∷ t)) n (length s)

module _ (s ws : List ℕ) (a : Scan) (b : ℕ) (h : Standing s ws a) where
  abbrev values : List ℕ
  values = ws ++ (a.current ∷ [])

  -- what is inside, where no intermediate stands yet
  bare : a.middle ≡ 0 → Inside s 0 values
  bare z = rw z at h.inside

  front : a.middle ≡ 0 → s ≡ CSI ∷ h.inside.parameters
  front z =
      h.inside.whole
      ∙ ap (λ (l : List ℕ). CSI ∷ (h.inside.parameters ++ l)) (no_middle h.inside.at_most_one z)
      ∙ rw append-nil

  says_6 : (k : Kind) → kind_of b ≡ k → NotAllowed a.middle k → Says s ws a b (Err 6)
  says_6 k e n t = not_allowed b t h.inside (rw e n)

  says_7 : (k : Kind) → kind_of b ≡ k → a.middle ≡ 0 → Passes values k → Says s ws a b (Err 7)
  says_7 k e z n t = passes b t (bare z) (rw e n)

  says_8 : (k : Kind) → kind_of b ≡ k → 39 ≤ a.taken → Goes a.middle values k → Says s ws a b (Err 8)
  says_8 k e f n t = fortieth b t h.inside (omega (arith, h.taken, h.inside.short)) (rw e n)

  -- after an intermediate 6; at the 40th octet 8
  unless_late_says : (k : Kind) (n : Result Next ℕ) → kind_of b ≡ k → (0 < a.middle → NotAllowed a.middle k) → (a.middle ≡ 0 → Says s ws a b n)
      → Says s ws a b (unless_late a n)
  unless_late_says k n e late f =
      pick_case (Says s ws a b) (eqb a.middle 0) n (Err 6)
      (λ z. f (eqb-true a.middle 0 z))
      (λ z. let y : a.middle ≡ 0 → ⊥ = eqb-false a.middle 0 z in says_6 k e (late (omega arith)))

  unless_full_says : (k : Kind) (n : Result Next ℕ) → kind_of b ≡ k → Goes a.middle values k → (a.taken < 39 → Says s ws a b n)
      → Says s ws a b (unless_full a n)
  unless_full_says k n e g f =
      pick_case (Says s ws a b) (leb 39 a.taken) (Err 8) n
      (λ z. says_8 k e (leb-true 39 a.taken z) g)
      (λ z. f (leb-false 39 a.taken z))

  -- one octet more, of parameters or an intermediate
  module _ (z : a.middle ≡ 0) (r : a.taken < 39) where
    inside_parameter : (vs : List ℕ) → Parameters (h.inside.parameters ++ (b ∷ [])) vs → Small vs → length vs ≤ 8
        → Inside (s ++ (b ∷ [])) 0 vs
    inside_parameter vs p small few =
        record {
          parameters = h.inside.parameters ++ (b ∷ []);
          intermediate = [];
          whole = ap (λ (l : List ℕ). l ++ (b ∷ [])) (front z) ∙ rw append-nil;
          valued = p;
          at_most_one = grammar.none;
          small = small;
          eight = few;
          short = omega (arith, snoc_length s b, h.taken);
        }

    inside_middle : (i : ℕ) → kind_of b ≡ Middle i → Inside (s ++ (b ∷ [])) i values
    inside_middle i e =
        record {
          parameters = h.inside.parameters;
          intermediate = b ∷ [];
          whole = ap (λ (l : List ℕ). l ++ (b ∷ [])) (front z);
          valued = h.inside.valued;
          at_most_one = one e;
          small = h.inside.small;
          eight = h.inside.eight;
          short = omega (arith, snoc_length s b, h.taken);
        }

    one_more : a.taken + 1 ≡ length (s ++ (b ∷ []))
    one_more = omega (arith, snoc_length s b, h.taken)

  digit_says : (d : ℕ) → kind_of b ≡ Digit d → Says s ws a b (digit_step a d)
  unfolding digit_step
  digit_says d e =
      let v : ℕ = a.current * 10 + d in
      let n : Result Next ℕ = Ok (More (record { current = v; closed = a.closed; middle = 0; taken = a.taken + 1 })) in
      let l : last_of values ≡ a.current = last_snoc ws a.current in
      unless_late_says (Digit d) (pick (leb v 999) (unless_full a n) (Err 7)) e late_digit
      (λ z. pick_case (Says s ws a b) (leb v 999) (unless_full a n) (Err 7)
      (λ t.
      let h' : v ≤ 999 = leb-true v 999 t in
      unless_full_says (Digit d) n e (rw z (digit_goes {vs = values} {d = d} (omega arith)))
      (λ r.
      record {
        inside =
            inside_parameter z r (ws ++ (v ∷ [])) (snoc_digit h.inside.valued ws a.current b refl e)
            (small_snoc ws v (small_front ws a.current h.inside.small) h')
            (omega (arith, h.inside.eight, snoc_length ws v, snoc_length ws a.current));
        closed = h.closed;
        taken = one_more z r;
      }))
      (λ t. let h' : 999 < v = leb-false v 999 t in says_7 (Digit d) e z (passes_999 (omega arith))))

  value_says : kind_of b ≡ Separator → Says s ws a b (value_step a)
  unfolding value_step
  value_says e =
      let n : Result Next ℕ = Ok (Value (record { current = 0; closed = a.closed + 1; middle = 0; taken = a.taken + 1 })) in
      let l : length values ≡ a.closed + 1 = snoc_length ws a.current ∙ ap (λ (i : ℕ). i + 1) (sym h.closed) in
      unless_late_says Separator (pick (leb 7 a.closed) (Err 7) (unless_full a n)) e late_separator
      (λ z. pick_case (Says s ws a b) (leb 7 a.closed) (Err 7) (unless_full a n)
      (λ t. let h' : 7 ≤ a.closed = leb-true 7 a.closed t in says_7 Separator e z (ninth (omega arith)))
      (λ t.
      let h' : a.closed < 7 = leb-false 7 a.closed t in
      unless_full_says Separator n e (rw z (separator_goes {vs = values} (omega arith)))
      (λ r.
      record {
        inside =
            inside_parameter z r (values ++ (0 ∷ [])) (snoc_separator h.inside.valued b e)
            (small_snoc values 0 h.inside.small (omega arith))
            (omega (arith, snoc_length values 0));
        closed = sym l;
        taken = one_more z r;
      })))

  middle_step_says : (i : ℕ) → kind_of b ≡ Middle i → Says s ws a b (middle_step a i)
  unfolding middle_step
  middle_step_says i e =
      let n : Result Next ℕ = Ok (More (record { current = a.current; closed = a.closed; middle = i; taken = a.taken + 1 })) in
      unless_late_says (Middle i) (unless_full a n) e second_middle
      (λ z. unless_full_says (Middle i) n e (rw z middle_goes)
      (λ r. record { inside = inside_middle z r i e; closed = h.closed; taken = one_more z r }))

  kind_says : (k : Kind) → kind_of b ≡ k → Says s ws a b (kind_step k a)
  kind_says (Digit d) e = digit_says d e
  kind_says Separator e = value_says e
  kind_says (Middle i) e = middle_step_says i e
  kind_says (Final f) e = e
  kind_says Other e = says_6 Other e no_kind

  -- Each octet does what the grammar says.
  pub step_says : Says s ws a b (step_of a b)
  unfolding step_of
  step_says = kind_says (kind_of b) refl

-- what the answer over a whole list says
abbrev pub Tells : List ℕ → Head Sequence → Type 0
Tells u (element q k) = Begins SpellsSequence u q k
Tells u (refused r d) = RefusesSequence u r d
Tells u none = ⊥

after_tells : (s ws : List ℕ) (a : Scan) (b : ℕ) (t : List ℕ) → Standing s ws a → (rest : List ℕ → Scan → Head Sequence)
    → ((vs : List ℕ) (c : Scan) → Standing (s ++ (b ∷ [])) vs c → Tells (s ++ (b ∷ t)) (rest vs c)) → (n : Result Next ℕ) → Says s ws a b n
    → Tells (s ++ (b ∷ t)) (after n ws a rest)
after_tells s ws a b t h rest ih (Ok (More c)) n = ih ws c n
after_tells s ws a b t h rest ih (Ok (Value c)) n = ih (ws ++ (a.current ∷ [])) c n
after_tells s ws a b t h rest ih (Ok (Last f)) n =
    record {
      front = s ++ (b ∷ []);
      rest = t;
      whole = sym (append_assoc s (b ∷ []) t);
      spells = sequence b h.inside n;
      size = omega (arith, h.taken, snoc_length s b);
    }
after_tells s ws a b t h rest ih (Err r) n = rw h.taken (n t)

pub view : (t s ws : List ℕ) (a : Scan) → Standing s ws a → Tells (s ++ t) (scan ws a t)
unfolding scan
view [] s ws a h = rw (append-nil, h.taken) (ends h.inside)
view (b ∷ t) s ws a h =
    after_tells s ws a b t h (λ vs c. scan vs c t)
    (λ vs c g. subst (λ (l : List ℕ). Tells l (scan vs c t)) (append_assoc s (b ∷ []) t) (view t (s ++ (b ∷ [])) vs c g))
    (step_of a b)
    (step_says s ws a b h)
