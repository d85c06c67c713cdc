-- What was read of the octets that waited and the piece (read_on) says what the call answers: the room is short (fed_short), a fault
-- (fed_fault), the end (fed_ended), or the rest waits (fed_waits).
use mathlib.Core.Path.{refl, sym, ◌∙◌, subst}
use mathlib.Core.List.{◌++◌}
use native.Mathlib.Omega.{arith}
use lib.ListN.{length}
use Rattle.text_loops.specs.declared.Measured.{Measured}
use Rattle.open_elements.specs.Steps.{FrontOf}
use Rattle.open_elements.proofs.Fronts.{Modest, modest}
use Rattle.open_elements.proofs.Opened.{open_exactly, open_on}
use Rattle.serial.specs.Feeding.{waiting, CouldGo}
use Rattle.serial.proofs.Could.{could_go_exactly}
use Rattle.serial.proofs.Repeating.{Sums, sums}
use Rattle.serial.proofs.FedBy.{fed_words, fed_fault, fed_ended, fed_waits}
use Rattle.serial.proofs.Carry.feed_in.Goals as goal
use Rattle.serial.proofs.Carry.feed_in.Goals.{After-read_on-m}

-- the carry is read on, so what waits is open: what was read is the front of all
front : (c : After-read_on-m)
    → FrontOf c.args.form (waiting c.args.self.now ++ c.args.piece.now) c.args.words.now c.read_on-m.result c.read_on-m.new.words
front c =
    let a = c.args in
    let k = (could_go_exactly a.form a.self.now).0 c.requires.goes in
    open_on a.form (waiting a.self.now) a.piece.now a.words.now ((open_exactly a.form (waiting a.self.now)).1 k.unfinished) c.read_on-m.ensures

-- the sums that the answer is made of
small : (c : After-read_on-m) → CouldGo c.args.form c.args.self.now
small c = (could_go_exactly c.args.form c.args.self.now).0 c.requires.goes

modest_read : (c : After-read_on-m) → Modest c.read_on-m.result (length (waiting c.args.self.now ++ c.args.piece.now))
modest_read c =
    let s = waiting c.args.self.now ++ c.args.piece.now in
    subst (λ (x : Measured). Modest x (length s)) (sym (front c).0) (modest c.args.form s)

read_sums : (c : After-read_on-m) → Sums (small c) c.args.piece.now c.requires.within (modest_read c)
read_sums c = sums (small c) c.args.piece.now c.requires.within (modest_read c)

pub overflow_add-fault : goal.overflow_add-fault
overflow_add-fault c = let s = read_sums (goal.at.overflow_add-fault c).After-read_on-m in omega arith

pub overflow_add-fault-then-stops : goal.overflow_add-fault-then-stops
overflow_add-fault-then-stops c = let s = read_sums (goal.at.overflow_add-fault-then-stops c).After-read_on-m in omega arith

pub overflow_add-fault-then-stops-2 : goal.overflow_add-fault-then-stops-2
overflow_add-fault-then-stops-2 c = let s = read_sums (goal.at.overflow_add-fault-then-stops-2 c).After-read_on-m in omega arith

pub returns-then-stops : goal.returns-then-stops
returns-then-stops c =
    let a = c.args in
    let read = front (goal.at.returns-then-stops c).After-read_on-m in (
      c.stop.ensures ∙ fed_fault a.form a.self.now a.piece.now a.ended a.words.now read c.if-words-m.false (sym c.stops.ensures ∙ c.if-stops.true),
      fed_words a.form a.self.now a.piece.now a.ended a.words.now read,
    )

pub overflow_add-answer : goal.overflow_add-answer
overflow_add-answer c = let s = read_sums (goal.at.overflow_add-answer c).After-read_on-m in omega arith

pub overflow_add-respelled : goal.overflow_add-respelled
overflow_add-respelled c = let s = read_sums (goal.at.overflow_add-respelled c).After-read_on-m in omega arith

pub returns-then-ended : goal.returns-then-ended
returns-then-ended c =
    let a = c.args in
    let read = front (goal.at.returns-then-ended c).After-read_on-m in (
      c.stop-then-ended.ensures
          ∙ fed_ended a.form a.self.now a.piece.now a.ended a.words.now read c.if-words-m.false (sym c.stops.ensures ∙ c.if-stops.false) c.if-ended.true,
      fed_words a.form a.self.now a.piece.now a.ended a.words.now read,
    )

pub returns : goal.returns
returns c =
    let a = c.args in
    let read = front (goal.at.returns c).After-read_on-m in (
      c.handed.ensures
          ∙ fed_waits a.form a.self.now a.piece.now a.ended a.words.now read c.if-words-m.false (sym c.stops.ensures ∙ c.if-stops.false)
          c.if-ended.false _ refl c.gather-holds.ensures,
      fed_words a.form a.self.now a.piece.now a.ended a.words.now read,
    )
