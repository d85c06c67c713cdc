-- To be believed: the promise of each public function, by its name; its arguments, at entry, then its result, then what a lent buffer holds
-- after. Which rows of request No. 1 the answers are, with the fifth number of No. 5, and what calls come to, one after another, is proved
-- in proofs/Theorems.
-- Assumes nothing.
use Rattle.std.specs.Prelude.{ℕ, ◌≡◌, Bool, List, length}
use Rattle.serial.specs.declared.Carry.{Carry}
use Rattle.serial.specs.declared.Fed.{Fed}
use Rattle.serial.specs.Feeding.{fresh_answer, feed_answer, feed_words}

-- a fresh carry of a form
abbrev pub FreshPromise : ℕ → Fed → Type 0
FreshPromise form r = r ≡ fresh_answer form

-- the next piece of a page, and whether it is the last
abbrev pub FeedPromise : Carry → List ℕ → Bool → List ℕ → Fed → List ℕ → Type 0
FeedPromise carry piece ended words r after =
    (r ≡ feed_answer carry piece ended (length words)) × (after ≡ feed_words carry piece words)
