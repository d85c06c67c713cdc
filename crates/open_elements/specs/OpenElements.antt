-- Proved equal to the grammar's words: `is_open`, whether octets that wait are none, or an unfinished element's (proofs/Opened:
-- open_exactly); and what is read of them and of the piece that goes on with them, by `Fronts` of crate `text_loops`.
-- Assumes nothing.
use Rattle.std.specs.Prelude.{ℕ, Bool, true, false, List, ◌++◌, eqb}
use Rattle.std.proofs.lemmas.List.Edits.{sets}
use Rattle.run.specs.Choice.{pick}
use Rattle.run.specs.Head.{Head, element, refused, none}
use Rattle.run.specs.declared.Answer.{Answer}
use Rattle.run.specs.Answers.{bare}
use Rattle.run.specs.Put.{what_fits}
use Rattle.sorts.specs.declared.Form.{Form}
use Rattle.element_words.specs.declared.Element.{Element}
use Rattle.element_reading.specs.ElementHead.{head_in}
use Rattle.text_loops.specs.declared.Measured.{Measured}
use Rattle.text_loops.specs.Fronts.{measured, words_before}

-- none wait, or those of an unfinished element: 4 alone
abbrev pub open_head : Head Element → Bool
open_head (element e k) = false
open_head (refused r d) = eqb r 4
open_head none = true

abbrev pub is_open : Form → List ℕ → Bool
is_open f s = open_head (head_in f s)

-- an answer where nothing was read
abbrev pub nothing_read : Answer → Measured
nothing_read a = record { answer = a; words = 0; respelled = 0 }

-- what waits is no open element
abbrev pub not_open : Measured
not_open = nothing_read (bare 11)

-- those that wait and the piece, read as one text up to its end or its first fault
abbrev pub read_on : Form → List ℕ → List ℕ → Measured
read_on f waiting piece = pick (is_open f waiting) (measured f (waiting ++ piece)) not_open

-- and their words, where they fit
abbrev pub read_on_words : Form → List ℕ → List ℕ → List ℕ → List ℕ
read_on_words f waiting piece words =
    pick (is_open f waiting) (sets words 0 (what_fits words 0 (words_before f (waiting ++ piece)))) words
