-- What is read straight into the buffer is all that is wanted (read_straight); else what is not wanted is not written (not_wanted), and
-- what is wanted has room (wanted_first) and is copied (wanted_copied).
use mathlib.Core.Path.{sym, ◌∙◌}
use native.Mathlib.Omega.{arith}
use lib.Seq.{length-take-le}
use Rattle.text_loops.proofs.Fronts.{read_straight, wanted_first, wanted_copied}
use Rattle.text_loops.proofs.read_short.Goals as goal

pub returns-then-text-words : goal.returns-then-text-words
returns-then-text-words c =
    let x = c.read_once.ensures in
    read_straight _ _ _ _ _ _ x.measures c.if-not-whole.true (omega arith) _ x.puts

pub slice_bounds-first-end : goal.slice_bounds-first-end
slice_bounds-first-end c =
    let wants = sym c.is_wanted.ensures ∙ c.if-is_wanted.true in
    let x = c.read_once-m.ensures in
    (wanted_first _ _ _ _ _ _ x.measures wants _ _ x.puts c.requires).0

pub slice_bounds-put_first-end : goal.slice_bounds-put_first-end
slice_bounds-put_first-end c =
    let wants = sym c.is_wanted.ensures ∙ c.if-is_wanted.true in
    let x = c.read_once-m.ensures in
    sym (length-take-le _ _ (wanted_first _ _ _ _ _ _ x.measures wants _ _ x.puts c.requires).0)

pub returns-then-is_wanted : goal.returns-then-is_wanted
returns-then-is_wanted c =
    let wants = sym c.is_wanted.ensures ∙ c.if-is_wanted.true in
    let x = c.read_once-m.ensures in
    wanted_copied _ _ _ _ _ _ x.measures wants _ _ x.puts c.requires c.put_first.ensures
