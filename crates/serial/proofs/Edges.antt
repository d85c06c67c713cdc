-- At the public edge: by the carry's form, by whether feeding could have left it, and by the limit.
-- Assumes nothing.
use Prim.Native.Nat.{ℕ, ◌+◌, ◌≤◌, ◌<◌}
use mathlib.Core.Path.{◌≡◌, sym, ◌∙◌}
use mathlib.Core.Bool.{Bool, true, false}
use mathlib.Core.List.{List}
use lib.ListN.{length}
use borrow.Author.Tests.{le-leb, lt-leb, ne_eqb}
use Rattle.run.specs.Answers.{bare}
use Rattle.sorts.specs.declared.Form.{Form}
use Rattle.std.specs.Prelude.{Some, None}
use Rattle.sorts.specs.Forms.{form_of}
use Rattle.text_reading.specs.ReadingNumbers.{limit}
use Rattle.serial.specs.declared.Carry.{Carry}
use Rattle.serial.specs.declared.Fed.{Fed}
use Rattle.serial.specs.Feeding.{could_go, could_stop, kept_by, repeated_by, stopped_by, fed_in, words_in, feed_answer, feed_words}
use Rattle.serial.specs.Promises.{FeedPromise}

module _ (c : Carry) (piece : List ℕ) (ended : Bool) (words : List ℕ) where
  -- it has no form
  pub edge_none : {r : Fed} → r ≡ kept_by c (bare 11) → form_of c.form ≡ None → FeedPromise c piece ended words r words
  unfolding feed_answer feed_words
  edge_none e is = (e ∙ sym (simp is), sym (simp is))

  module _ {f : Form} (is : form_of c.form ≡ Some f) where
    -- the page ended or was refused
    module _ (over : c.stopped ≡ 0 → ⊥) where
      pub edge_repeats : {r : Fed} → r ≡ repeated_by c → could_stop c ≡ true → FeedPromise c piece ended words r words
      unfolding feed_answer feed_words
      edge_repeats e could = let t = ne_eqb c.stopped 0 over in (e ∙ sym (simp (is, t, could)), sym (simp (is, t, could)))

      pub edge_nobodys_stopped : {r : Fed} → r ≡ kept_by c (bare 11) → could_stop c ≡ false → FeedPromise c piece ended words r words
      unfolding feed_answer feed_words
      edge_nobodys_stopped e could = let t = ne_eqb c.stopped 0 over in (e ∙ sym (simp (is, t, could)), sym (simp (is, t, could)))

    -- the page goes on
    module _ (on : c.stopped ≡ 0) where
      pub edge_nobodys : {r : Fed} → r ≡ kept_by c (bare 11) → could_go f c ≡ false → FeedPromise c piece ended words r words
      unfolding feed_answer feed_words
      edge_nobodys e could = (e ∙ sym (simp (is, on, could)), sym (simp (is, on, could)))

      module _ (could : could_go f c ≡ true) where
        pub edge_past : {r : Fed} → r ≡ stopped_by c.form (bare 12) 0 0 → limit < c.answer.place + length piece
            → FeedPromise c piece ended words r words
        unfolding feed_answer feed_words
        edge_past e beyond =
            let t = lt-leb (c.answer.place + length piece) limit beyond in
            (e ∙ sym (simp (is, on, could, t)), sym (simp (is, on, could, t)))

        pub edge_within : {r : Fed} {after : List ℕ} → (r ≡ fed_in f c piece ended (length words)) × (after ≡ words_in f c piece words)
            → c.answer.place + length piece ≤ limit → FeedPromise c piece ended words r after
        unfolding feed_answer feed_words
        edge_within e within =
            let t = le-leb (c.answer.place + length piece) limit within in
            (e.0 ∙ sym (simp (is, on, could, t)), e.1 ∙ sym (simp (is, on, could, t)))
