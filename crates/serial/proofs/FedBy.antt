-- From what was read of a piece to what the call answers, and what the lent words hold after.
-- Assumes nothing.
use Prim.Native.Nat.{ℕ, ◌≤◌, ◌<◌}
use mathlib.Core.Path.{◌≡◌, refl, sym, ap, ap₂, ◌∙◌, subst}
use mathlib.Core.Bool.{Bool, true, false}
use mathlib.Core.List.{List, ◌++◌}
use native.Mathlib.Omega.{arith}
use native.Mathlib.Nat.{zero-add}
use lib.Dec.{eqb, leb}
use lib.ListN.{length, take, drop, drop_of_length-le}
use lib.Seq.{drop-append_seam, take_all, sets, sets-eq, length-sets}
use borrow.Author.Tests.{le-leb, lt-leb, leb-true, leb-false, eqb-true}
use Rattle.run.specs.Choice.{pick}
use Rattle.run.specs.Head.{Outcome, accepted, refusal}
use Rattle.run.specs.Answers.{short_room, over}
use Rattle.run.specs.Put.{what_fits}
use Rattle.run.proofs.Puts.{all_fit, none_fits}
use Rattle.sorts.specs.declared.Form.{Form}
use Rattle.element_words.specs.declared.Element.{Element}
use Rattle.element_reading.specs.Grammar.{Refuses}
use Rattle.element_reading.proofs.Deciding.{unfinished}
use Rattle.text_loops.specs.declared.Measured.{Measured}
use Rattle.text_loops.specs.Fronts.{read_in, measured, words_before}
use Rattle.serial.specs.declared.Carry.{Carry}
use Rattle.serial.specs.declared.Fed.{Fed}
use Rattle.serial.specs.Feeding.{
  waiting,
  kept_by,
  no_octets,
  stops_page,
  so_far,
  respelled_so_far,
  faulted_by,
  ended_by,
  waits_by,
  fed_by,
  fed_in,
  words_in,
}
use Rattle.open_elements.specs.Steps.{Gathered, FrontOf}
use Rattle.open_elements.proofs.Faults.{fault_small}
use Rattle.open_elements.proofs.Fronts.{accepted_measured, refused_read, refused_measured}

-- what is put from the start where it fits stands over the buffer's first entries
put_fits : (words ws : List ℕ) → sets words 0 (what_fits words 0 ws) ≡ pick (leb (length ws) (length words)) (over words ws) words
put_fits words ws = go (leb (length ws) (length words)) refl
  where
    go : (t : Bool) → leb (length ws) (length words) ≡ t → sets words 0 (what_fits words 0 ws) ≡ pick t (over words ws) words
    go true e =
        let h = leb-true (length ws) (length words) e in
        ap (sets words 0) (all_fit words 0 ws (omega (arith, h)))
        ∙ sets-eq ws words 0 (omega (arith, h))
        ∙ ap (λ (i : ℕ). ws ++ drop i words) (zero-add (length ws))
    go false e = ap (sets words 0) (none_fits words 0 ws (omega (arith, leb-false (length ws) (length words) e)))

-- where the page goes on, at most 39 octets wait
waits_few : (f : Form) (s : List ℕ) (ended : Bool) → stops_page (measured f s).answer.number ended ≡ false
    → length (drop (measured f s).answer.place s) ≤ 39
waits_few f s ended w = go (read_in f s) refl
  where
    four : (r : ℕ) → stops_page r ended ≡ false → 1 ≤ r → r ≡ 4
    four r w some = by_tests (eqb r 4) refl (eqb r 0) refl w
      where
        by_tests : (t : Bool) → eqb r 4 ≡ t → (u : Bool) → eqb r 0 ≡ u → pick t ended (pick u false true) ≡ false → r ≡ 4
        by_tests true i u j w = eqb-true r 4 i
        by_tests false i true j w = absurd (omega (arith, some, eqb-true r 0 j))
        by_tests false i false j w = let z : ◌≡◌ {A = ℕ} 0 1 = cc in absurd (omega arith)

    go : (x : Outcome Element) → read_in f s ≡ x → length (drop (measured f s).answer.place s) ≤ 39
    go (accepted es) q =
        subst (λ (x : Measured). length (drop x.answer.place s) ≤ 39) (sym (accepted_measured f s es q).0)
        (omega (arith, ap length (drop_of_length-le s {i = length s} (omega arith))))
    go (refusal r n p d) q =
        let z = refused_read f s r n p d q in
        let m = refused_measured f s q z in
        let is = four r (sym (ap (λ (x : Measured). stops_page x.answer.number ended) m) ∙ w) (fault_small z.fault).some in
        let k : Refuses f z.fault.rest 4 z.fault.behind =
        subst (λ (i : ℕ). Refuses f z.fault.rest i z.fault.behind) is z.fault.here in
        let rest : drop p s ≡ z.fault.rest =
        ap₂ drop z.fault.first_place z.fault.whole ∙ drop-append_seam z.fault.front z.fault.rest in
        subst (λ (x : Measured). length (drop x.answer.place s) ≤ 39) (sym m) (omega (arith, ap length rest, (unfinished f k).1))

module _ (f : Form) (c : Carry) (piece : List ℕ) (ended : Bool) (words : List ℕ) {m : Measured} {after : List ℕ}
    (front : FrontOf f (waiting c ++ piece) words m after) where
  pub fed_words : after ≡ words_in f c piece words
  fed_words = front.1 ∙ put_fits words (words_before f (waiting c ++ piece))

  abbrev by_room : Measured → Fed
  by_room x =
      pick (leb x.words (length words)) (fed_by c (length piece) ended (waiting c ++ piece) x) (kept_by c (short_room x.words))

  -- the buffer keeps its length
  pub fed_length : length after ≡ length words
  fed_length = ap length front.1 ∙ length-sets words 0 (what_fits words 0 (words_before f (waiting c ++ piece)))

  -- the room is short
  pub fed_short : length after < m.words → kept_by c (short_room m.words) ≡ fed_in f c piece ended (length words)
  fed_short h = let t = lt-leb m.words (length words) (omega (arith, h, fed_length)) in sym (simp t) ∙ ap by_room front.0

  -- there is room
  module _ (room : m.words ≤ length after) where
    fed_roomy : fed_by c (length piece) ended (waiting c ++ piece) m ≡ fed_in f c piece ended (length words)
    fed_roomy = let t = le-leb m.words (length words) (omega (arith, room, fed_length)) in sym (simp t) ∙ ap by_room front.0

    -- a fault stops the page
    pub fed_fault : stops_page m.answer.number ended ≡ true
        → faulted_by c m ≡ fed_in f c piece ended (length words)
    fed_fault e = sym (simp e) ∙ fed_roomy

    -- the page ends
    pub fed_ended : stops_page m.answer.number ended ≡ false → ended ≡ true
        → ended_by c (length piece) m ≡ fed_in f c piece ended (length words)
    fed_ended e k = sym (go (stops_page m.answer.number ended) e ended k) ∙ fed_roomy
      where
        go : (t : Bool) → t ≡ false → (u : Bool) → u ≡ true
            → pick t (faulted_by c m) (pick u (ended_by c (length piece) m) (waits_by c (length piece) (waiting c ++ piece) m))
            ≡ ended_by c (length piece) m
        go t e u k = simp (e, k)

    -- the page goes on
    fed_on : stops_page m.answer.number ended ≡ false → ended ≡ false
        → waits_by c (length piece) (waiting c ++ piece) m ≡ fed_in f c piece ended (length words)
    fed_on e k = sym (go (stops_page m.answer.number ended) e ended k) ∙ fed_roomy
      where
        go : (t : Bool) → t ≡ false → (u : Bool) → u ≡ false
            → pick t (faulted_by c m) (pick u (ended_by c (length piece) m) (waits_by c (length piece) (waiting c ++ piece) m))
            ≡ waits_by c (length piece) (waiting c ++ piece) m
        go t e u k = simp (e, k)

    -- and what is left waits
    pub fed_waits : stops_page m.answer.number ended ≡ false → ended ≡ false → (zeros : List ℕ) → zeros ≡ no_octets
        → {size : ℕ} {held : List ℕ} → Gathered (waiting c ++ piece) m.answer.place zeros size held
        → record {
          carry =
              record {
                answer = so_far c.answer (length piece) m;
                respelled = respelled_so_far c m;
                holds = size;
                form = c.form;
                stopped = 0;
                held = held;
              };
          answer = so_far c.answer (length piece) m;
          respelled = respelled_so_far c m;
          handed = m.words;
        }
        ≡ fed_in f c piece ended (length words)
    fed_waits e k zeros z {size} {held} g =
        let s : List ℕ = waiting c ++ piece in
        let rest : List ℕ = drop m.answer.place s in
        let few : length rest ≤ 39 =
        subst (λ (x : Measured). length (drop x.answer.place s) ≤ 39) (sym front.0)
        (waits_few f s ended (ap (λ (x : Measured). stops_page x.answer.number ended) (sym front.0) ∙ e)) in
        let all : take (length zeros) rest ≡ rest = ap (λ (l : List ℕ). take (length l) rest) z ∙ take_all 39 rest few in
        let size_is : size ≡ length rest = g.many ∙ ap length all in
        let held-is : held ≡ over no_octets rest = g.stand ∙ ap₂ over z all in
        simp (size_is, held-is) (fed_on e k)
