-- Nothing where there is no sequence (put_nothing) or no room (put_short), else all of it (put_spelt).
use Prim.Native.Nat.{◌<◌}
use mathlib.Core.Path.{sym, ◌∙◌}
use Rattle.sequence_reading.specs.Grammar.{Sequence}
use Rattle.sequence_spelling.specs.SequenceOctets.{size_of}
use Rattle.sequence_spelling.proofs.Puts.{put_nothing, put_short, sized_fine, sized, put_spelt}
use native.Mathlib.Omega.{arith}
use Rattle.sequence_spelling.proofs.Sequence.put.Goals as goal
use Rattle.sequence_spelling.proofs.Sequence.put.Goals.{then-size-eq0-via-then-size-eq0, then-size-eq0-via-else-size-eq0+then-out-at}
use Rattle.sequence_spelling.proofs.Sequence.put.Goals.{then-size-eq0-via-else-size-eq0+else-out-at+then-out-at-2}

pub returns-then-size-eq0 : goal.returns-then-size-eq0
returns-then-size-eq0 c =
    elim c.then-size-eq0.branch [
      | then-size-eq0-via-then-size-eq0 w ↦ put_nothing _ _ _ (sym c.size-size.ensures ∙ w.if-size-eq0.true)
      | then-size-eq0-via-else-size-eq0+then-out-at w ↦ put_short _ _ _ (omega (arith, c.size-size.ensures))
      | then-size-eq0-via-else-size-eq0+else-out-at+then-out-at-2 w ↦ put_short _ _ _ (omega (arith, c.size-size.ensures))
    ]

pub put_whole-requires : goal.put_whole-requires
put_whole-requires c =
    let a = c.args in
    let q : Sequence = record { middle = a.self.middle; last = a.self.last; values = a.self.values.now } in
    let some : 0 < size_of q = omega (arith, c.size-size.ensures) in
    record {
      some_value = (sized_fine a.out.now a.at q some).some;
      room = omega (arith, sized a.out.now a.at q some, c.size-size.ensures);
    }

pub returns : goal.returns
returns c =
    put_spelt _ _ _ (omega (arith, c.size-size.ensures))
    (omega (arith, c.size-size.ensures)) c.put_whole.ensures
