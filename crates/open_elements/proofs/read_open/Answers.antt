-- The first forty octets say what stands at the head (first_octets): a refusal (first_refused), or an element that ends behind what waited
-- (ends_behind), with the rest read behind it (front_fits, front_short), and the elements that were not canonical added up
-- (behind_respelled).
use Prim.Native.Nat.{ℕ, ◌+◌, ◌-◌, ◌≤◌, ◌<◌}
use mathlib.Core.Path.{◌≡◌, refl, sym, ap, ◌∙◌, subst}
use mathlib.Core.Bool.{Bool, false}
use mathlib.Core.List.{List, ◌++◌}
use native.Mathlib.Omega.{arith}
use lib.ListN.{length, drop, length-append, length-drop}
use lib.Seq.{length-take-le}
use borrow.Author.Rules.{rules}
use Rattle.run.specs.Choice.{pick}
use Rattle.run.specs.Head.{element, refused}
use Rattle.run.proofs.Puts.{behind_is}
use Rattle.sorts.specs.declared.Form.{Form}
use Rattle.element_words.specs.declared.Element.{Element}
use Rattle.element_words.specs.Words.{words_of}
use Rattle.element_reading.specs.ElementHead.{head_in, canonical_head}
use Rattle.text_loops.specs.declared.Measured.{Measured}
use Rattle.text_loops.specs.Promises.{ReadFrontPromise}
use Rattle.text_loops.proofs.Tallied.{told_stands}
use Rattle.open_elements.proofs.Fronts.{Modest, modest}
use Rattle.open_elements.proofs.Opened.{head_words, behind_respelled, gathered_size, first_octets, first_some, first_told}
use Rattle.open_elements.proofs.Opened.{first_refused, ends_behind, front_fits, front_short}
use Rattle.open_elements.proofs.read_open.Goals as goal
use Rattle.open_elements.proofs.read_open.Goals.{In-Element, After-read_front-rest, then-count-words, else-count-words}

-- ---- an element was found at the head of the octets that wait and the piece, and whether it is canonical

-- the rest of the piece was read as the rest of all; and what comes to no more than all octets
record RestRead (f : Form) (waiting piece : List ℕ) (b : Bool) (next : ℕ) (words : List ℕ) (w : ℕ) (m : Measured) (after : List ℕ) : Type 0 where
  pub as_rest : ReadFrontPromise f (drop next (waiting ++ piece)) words w false m after
  pub element : m.answer.element + next ≤ length waiting + length piece
  pub place : m.answer.place + next ≤ length waiting + length piece
  pub deciding : m.answer.count + next ≤ length waiting + length piece
  pub count : w + m.words ≤ length waiting + length piece
  pub respelled : pick b 0 1 + m.respelled ≤ length waiting + length piece

module _ (f : Form) (waiting piece : List ℕ) (open' : head_in f waiting ≡ refused 4 (length waiting)) {e : Element} {b : Bool} {next : ℕ}
    (told : canonical_head f (waiting ++ piece) ≡ element (e, b) next) where
  -- it ends behind what waited, within the piece
  ends : (length waiting < next)
      × (next ≤ length waiting + length piece)
      × (drop next (waiting ++ piece) ≡ drop (next - length waiting) piece)
  ends = ends_behind f waiting piece open' (told_stands f (waiting ++ piece) told)

  rest_read : (words : List ℕ) (w : ℕ) {t : List ℕ} {m : Measured} {after : List ℕ} → t ≡ drop (next - length waiting) piece
      → ReadFrontPromise f t words w false m after → w ≡ length (words_of e) → RestRead f waiting piece b next words w m after
  rest_read words w {m = m} {after} is read size =
      let rest = drop next (waiting ++ piece) in
      let as_rest : ReadFrontPromise f rest words w false m after =
      subst (λ (l : List ℕ). ReadFrontPromise f l words w false m after) (is ∙ sym ends.2) read in
      let small : Modest m (length rest) = subst (λ (x : Measured). Modest x (length rest)) (sym as_rest.0) (modest f rest) in
      let all = modest f (waiting ++ piece) in
      let within = ends.1 in
      let long : length rest + next ≡ length waiting + length piece =
      omega (arith, length-drop next (waiting ++ piece), length-append waiting piece, within) in
      let first = head_words f (waiting ++ piece) (told_stands f (waiting ++ piece) told) in
      let both = behind_respelled f (waiting ++ piece) told in
      let respelled = ap (λ (x : Measured). x.respelled) as_rest.0 in
      record {
        as_rest = as_rest;
        element = omega (arith, small.elements, small.place);
        place = omega (arith, small.place);
        deciding = omega (arith, small.inside);
        count = omega (arith, small.words, first, size);
        respelled = omega (arith, all.respelled, all.elements, all.place, length-append waiting piece, both, respelled);
      }

pub slice_bounds-first-end : goal.slice_bounds-first-end
slice_bounds-first-end c = gathered_size c.gather-size.ensures

pub slice_bounds-element_at-end : goal.slice_bounds-element_at-end
slice_bounds-element_at-end c = sym (length-take-le _ _ (gathered_size c.gather-size.ensures))

pub returns-in_default : goal.returns-in_default
returns-in_default c =
    let a = c.args in
    let w = first_octets refl c.gather-size.ensures in
    let h = first_refused a.form (a.waiting.now ++ a.piece.now) _ a.words.now w
    (first_some a.form a.waiting.now a.piece.now c.requires w) _
    c.element_at-step.ensures.0 c.in_default.not-Element c.step_answer.ensures in
    (c.nothing_read.ensures ∙ h.0, h.1)

-- the element at the head
found : (c : In-Element)
    → canonical_head c.args.form (c.args.waiting.now ++ c.args.piece.now) ≡ element (c.in-Element.e, c.in-Element.canonical) c.in-Element.next
found c =
    let a = c.args in
    let e = c.in-Element in
    first_told a.form (a.waiting.now ++ a.piece.now) _ (first_octets refl c.gather-size.ensures) e.e e.next e.canonical
    (sym c.element_at-step.ensures.0 ∙ e.is)

behind : (c : In-Element)
    → (length c.args.waiting.now < c.in-Element.next) × (c.in-Element.next ≤ length c.args.waiting.now + length c.args.piece.now)
behind c = let h = ends c.args.form c.args.waiting.now c.args.piece.now c.requires (found c) in (h.0, h.1)

pub overflow_sub-at : goal.overflow_sub-at
overflow_sub-at c = let h = behind (goal.at.overflow_sub-at c).In-Element in omega arith

pub slice_bounds-read_front-count : goal.slice_bounds-read_front-count
slice_bounds-read_front-count c = let h = behind (goal.at.slice_bounds-read_front-count c).In-Element in omega arith

pub slice_bounds-read_front-start : goal.slice_bounds-read_front-start
slice_bounds-read_front-start c = let h = behind (goal.at.slice_bounds-read_front-start c).In-Element in omega arith

-- and the rest behind it
the_rest : (c : After-read_front-rest)
    → RestRead c.args.form c.args.waiting.now c.args.piece.now c.in-Element.canonical c.in-Element.next c.args.words.now c.words_in-w.result
    c.read_front-rest.result c.read_front-rest.new.words
the_rest c =
    let a = c.args in
    let e = c.in-Element in
    rest_read a.form a.waiting.now a.piece.now c.requires
    (first_told a.form (a.waiting.now ++ a.piece.now) _ (first_octets refl c.gather-size.ensures) e.e e.next e.canonical
    (sym c.element_at-step.ensures.0 ∙ e.is))
    a.words.now _ (behind_is a.piece.now _) c.read_front-rest.ensures c.words_in-w.ensures

-- two slices are not as long as all addresses
pub overflow_add-count : goal.overflow_add-count
overflow_add-count c =
    let r = the_rest (goal.at.overflow_add-count c).After-read_front-rest in
    let long : length c.args.waiting.now + length c.args.piece.now < 0x10000000000000000 = search rules in
    omega arith

pub behind_one-requires-clause-element_fits : goal.behind_one-requires-clause-element_fits
behind_one-requires-clause-element_fits c =
    let r = the_rest (goal.at.behind_one-requires-clause-element_fits c).After-read_front-rest in
    let h = behind (goal.at.behind_one-requires-clause-element_fits c).In-Element in
    let long : length c.args.waiting.now + length c.args.piece.now < 0x10000000000000000 = search rules in
    omega arith

pub behind_one-requires-clause-places_fit : goal.behind_one-requires-clause-places_fit
behind_one-requires-clause-places_fit c =
    let r = the_rest (goal.at.behind_one-requires-clause-places_fit c).After-read_front-rest in
    let long : length c.args.waiting.now + length c.args.piece.now < 0x10000000000000000 = search rules in
    (omega arith, omega arith)

pub overflow_add-result : goal.overflow_add-result
overflow_add-result c =
    let r = the_rest (goal.at.overflow_add-result c).After-read_front-rest in
    let long : length c.args.waiting.now + length c.args.piece.now < 0x10000000000000000 = search rules in
    let one = c.not_canonical.ensures in
    omega arith

pub returns : goal.returns
returns c =
    let told = found (goal.at.returns c).In-Element in
    let r = (the_rest (goal.at.returns c).After-read_front-rest).as_rest in
    elim c.if-count-words.branch [
      | then-count-words w ↦
          let h = front_fits _ _ told c.args.words.now _ _ _ c.words_in-w.ensures c.not_canonical.ensures r.0 r.1 c.behind_one.ensures
          w.if-count-words.true w.put_words.ensures in
          (h.0, w.words-is ∙ h.1)
      | else-count-words w ↦
          let h = front_short _ _ told c.args.words.now _ _ _ c.words_in-w.ensures c.not_canonical.ensures r.0 r.1 c.behind_one.ensures
          w.if-count-words.false in
          (h.0, w.words-is ∙ h.1)
    ]
