-- What is read of a text up to its end or its first fault, and what is written of it.
-- Assumes nothing.
use Prim.Native.Nat.{ℕ, ◌+◌, ◌-◌, ◌≤◌, ◌<◌}
use mathlib.Core.Path.{◌≡◌, refl, sym, ap, ◌∙◌, subst}
use mathlib.Core.Bool.{Bool, true, false}
use mathlib.Core.List.{List, []}
use native.Mathlib.Omega.{arith}
use lib.Dec.{eqb, leb}
use lib.ListN.{length, take}
use lib.Seq.{sets, length-sets, length-take-le}
use borrow.Author.Tests.{eqb-true, leb-true, leb-false, le-leb}
use borrow.Rule.Slice.PartMut.{put_mid}
use Rattle.run.specs.Choice.{pick}
use Rattle.run.specs.Head.{Outcome, accepted, refusal}
use Rattle.run.specs.Loops.{Numbered}
use Rattle.run.specs.Answers.{roomy_answer, over, written_of, RoomFor}
use Rattle.run.specs.Put.{Put, what_fits}
use Rattle.run.proofs.Outcomes.{accepts}
use Rattle.run.proofs.Before.{front_accepted}
use Rattle.run.proofs.Rooms.{numbered}
use Rattle.run.proofs.Puts.{put_as, put_length, put_over, put_taken, behind, behind_length, behind_put, all_fit, none_fits, nothing_fits}
use Rattle.sorts.specs.declared.Form.{Form}
use Rattle.element_words.specs.declared.Element.{Element}
use Rattle.element_words.specs.Words.{words_of}
use Rattle.element_reading.proofs.Reader.{reads}
use Rattle.text_loops.specs.declared.Measured.{Measured}
use Rattle.text_loops.specs.Fronts.{read_in, elements_before, words_before, measured, asked_for, is_wanted}
use Rattle.text_loops.specs.Promises.{ReadFrontPromise}
use Rattle.text_loops.proofs.FewWords.{words_fit}

-- What stands before a text's end or its first fault is accepted, with the elements before.
pub front_read : (f : Form) (text : List ℕ) →
    let p = (measured f text).answer.place in
    (p ≤ length text) × (read_in f (take p text) ≡ accepted (elements_before f text))
front_read f text = front_accepted (reads f) words_of text

-- No octet gives more than one word.
before_few : (f : Form) (text : List ℕ) → length (words_before f text) ≤ length text
before_few f text =
    let front = front_read f text in
    let run = (accepts (reads f) _ (elements_before f text)).0 front.1 in
    omega (arith, words_fit run.1, length-take-le _ text front.0)

-- what is written keeps the buffer's length
pub front_length : (f : Form) (text words : List ℕ) (o : ℕ) (whole : Bool) {m : Measured} {after : List ℕ}
    → ReadFrontPromise f text words o whole m after → length after ≡ length words
front_length f text words o whole read =
    ap length read.1 ∙ length-sets words o (what_fits words o (asked_for whole (read_in f text) (words_before f text)))

-- ---- what is asked for and fits, by what the text comes to

-- all is asked for, of a text that is accepted or where no whole one is wanted
asked_all : (whole : Bool) (n : ℕ) (ws : List ℕ) (x : Outcome Element) → Numbered x
    → pick whole (eqb (roomy_answer words_of n x).number 0) true ≡ true → asked_for whole x ws ≡ ws
asked_all whole n ws (accepted es) z q = refl
asked_all true n ws (refusal r e p d) z q = absurd (omega (arith, eqb-true r 0 q))
asked_all false n ws (refusal r e p d) z q = refl

-- where no whole text is wanted, all
asked_any : (whole : Bool) (ws : List ℕ) (x : Outcome Element) → whole ≡ false → asked_for whole x ws ≡ ws
asked_any whole ws (accepted es) q = refl
asked_any true ws (refusal r e p d) q = let z : ◌≡◌ {A = ℕ} 0 1 = cc in absurd (omega arith)
asked_any false ws (refusal r e p d) q = refl

-- else nothing
asked_none : (whole : Bool) (n : ℕ) (ws : List ℕ) (x : Outcome Element)
    → pick whole (eqb (roomy_answer words_of n x).number 0) true ≡ false → asked_for whole x ws ≡ []
asked_none true n ws (accepted es) q = let z : ◌≡◌ {A = ℕ} 0 1 = cc in absurd (omega arith)
asked_none true n ws (refusal r e p d) q = refl
asked_none false n ws x q = let z : ◌≡◌ {A = ℕ} 0 1 = cc in absurd (omega arith)

-- what does not fit is not written
short_fits : (whole : Bool) (words : List ℕ) (o : ℕ) (ws : List ℕ) (x : Outcome Element) → length words < o + length ws
    → what_fits words o (asked_for whole x ws) ≡ []
short_fits whole words o ws (accepted es) h = none_fits words o ws h
short_fits true words o ws (refusal r e p d) h = nothing_fits words o
short_fits false words o ws (refusal r e p d) h = none_fits words o ws h

module _ (f : Form) (text words : List ℕ) (o : ℕ) (whole : Bool) (m : Measured) (is : m ≡ measured f text) where
  -- a test of what was measured is one of what measuring promises
  tested : (t : Bool) → is_wanted m (length words) o whole ≡ t → is_wanted (measured f text) (length words) o whole ≡ t
  tested t q = ap (λ (a : Measured). is_wanted a (length words) o whole) (sym is) ∙ q

  -- what is not wanted is not written
  pub not_wanted : is_wanted m (length words) o whole ≡ false → ReadFrontPromise f text words o whole m words
  not_wanted q = (is, ap (sets words o) (sym (by_room (leb (o + length (words_before f text)) (length words)) refl (tested false q))))
    where
      by_room : (t : Bool) → leb (o + length (words_before f text)) (length words) ≡ t
          → pick t (pick whole (eqb (measured f text).answer.number 0) true) false ≡ false
          → what_fits words o (asked_for whole (read_in f text) (words_before f text)) ≡ []
      by_room true e q =
          ap (what_fits words o) (asked_none whole (length text) (words_before f text) (read_in f text) q) ∙ nothing_fits words o
      by_room false e q = short_fits whole words o (words_before f text) (read_in f text) (leb-false _ _ e)

  -- what is wanted has room, and is written whole
  record Wanted : Type 0 where
    pub room : o + length (words_before f text) ≤ length words
    pub all : asked_for whole (read_in f text) (words_before f text) ≡ words_before f text

  wanted : is_wanted m (length words) o whole ≡ true → Wanted
  wanted q = by_room (leb (o + length (words_before f text)) (length words)) refl (tested true q)
    where
      by_room : (t : Bool) → leb (o + length (words_before f text)) (length words) ≡ t
          → pick t (pick whole (eqb (measured f text).answer.number 0) true) false ≡ true → Wanted
      by_room true e q =
          record {
            room = leb-true _ _ e;
            all = asked_all whole (length text) (words_before f text) (read_in f text) (numbered (reads f) text) q;
          }
      by_room false e q = let z : ◌≡◌ {A = ℕ} 0 1 = cc in absurd (omega arith)

  -- and so it is what is promised
  promised : Wanted → {after : List ℕ} {next : ℕ} → Put words o (words_before f text) after next
      → ReadFrontPromise f text words o whole m after
  promised w p =
      let fits = ap (what_fits words o) w.all ∙ all_fit words o (words_before f text) w.room in
      (is, p.holds ∙ ap (sets words o) (sym fits))

  -- where each octet has room for a word, and no whole text is wanted, what is read straight into the buffer is all that is wanted
  pub read_straight : whole ≡ false → o + length text ≤ length words
      → (l' : List ℕ) → Put (behind words o) 0 (words_before f text) l' m.words
      → ReadFrontPromise f text words o whole m (put_mid o (length words - o) words l')
  read_straight any h l' p =
      let few = before_few f text in
      let room : o + length (words_before f text) ≤ length words = omega arith in
      let over-behind = put_over p (omega (arith, behind_length words o)) in
      promised (record { room = room; all = asked_any whole (words_before f text) (read_in f text) any })
      (behind_put words o l' (words_before f text) room over-behind)

  module _ (q : is_wanted m (length words) o whole ≡ true) where
    -- what was read into an array that has room for a word of each octet is copied from it
    module _ (first read : List ℕ) (p : Put first 0 (words_before f text) read m.words) (h : length text ≤ length first) where
      pub wanted_first : (m.words ≤ length read) × (o + m.words ≤ length words)
      wanted_first = omega (arith, p.place, put_length p, before_few f text, (wanted q).room)

      pub wanted_copied : {after : List ℕ} {next : ℕ} → Put words o (take m.words read) after next
          → ReadFrontPromise f text words o whole m after
      wanted_copied r = promised (wanted q) (put_as (put_taken p (omega (arith, before_few f text))) r)

    -- how far the text is read lies in it, and the place of the words in the buffer
    pub wanted_inside : (m.answer.place ≤ length text) × (o ≤ length words)
    wanted_inside =
        (subst (λ (a : Measured). a.answer.place ≤ length text) (sym is) (front_read f text).0, omega (arith, (wanted q).room))

    front : read_in f (take m.answer.place text) ≡ accepted (elements_before f text)
    front = ap (λ (a : Measured). read_in f (take a.answer.place text)) is ∙ (front_read f text).1

    behind_room : length (words_before f text) ≤ length (behind words o)
    behind_room = omega (arith, (wanted q).room, behind_length words o)

    -- what is filled in behind the place is accepted, and has room
    pub wanted_room : RoomFor words_of (length (behind words o)) (read_in f (take m.answer.place text))
    wanted_room = rw front behind_room

    -- and so it is what is promised
    pub wanted_written : (l' : List ℕ) → l' ≡ written_of words_of (behind words o) (read_in f (take m.answer.place text))
        → ReadFrontPromise f text words o whole m (put_mid o (length words - o) words l')
    wanted_written l' e =
        let t = le-leb (length (words_before f text)) (length (behind words o)) behind_room in
        let over-behind : l' ≡ over (behind words o) (words_before f text) = e ∙ rw (front, t) in
        promised (wanted q) (behind_put words o l' (words_before f text) (wanted q).room over-behind)
