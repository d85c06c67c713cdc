-- The test of a carry that is read on is exactly its bounds.
-- Assumes nothing.
use Prim.Native.Nat.{◌-◌}
use mathlib.Core.Path.{◌≡◌}
use mathlib.Core.Logic.{◌↔◌}
use mathlib.Core.Bool.{true}
use lib.Dec.{eqb, leb}
use borrow.Author.Tests.{le-leb, leb-true, eqb-true}
use Rattle.run.proofs.Choices.{both_true}
use Rattle.sorts.specs.declared.Form.{Form}
use Rattle.text_reading.specs.ReadingNumbers.{limit}
use Rattle.open_elements.specs.OpenElements.{is_open}
use Rattle.open_elements.proofs.Opened.{open_exactly}
use Rattle.serial.specs.declared.Carry.{Carry}
use Rattle.serial.specs.Feeding.{waiting, CouldGo, could_go}

module _ (f : Form) (c : Carry) where
  forth : could_go f c ≡ true → CouldGo f c
  forth e =
      let e1 = both_true (eqb c.answer.number 0) _ e in
      let e2 = both_true (leb c.respelled c.answer.element) _ e1.1 in
      let e3 = both_true _ _ e2.1 in
      let e4 = both_true _ _ e3.1 in
      let e5 = both_true _ _ e4.1 in
      let e6 = both_true _ _ e5.1 in
      let e7 = both_true _ (is_open f (waiting c)) e6.1 in
      record {
        number = eqb-true _ 0 e1.0;
        respelled = leb-true _ _ e2.0;
        few = leb-true _ _ e3.0;
        within = leb-true _ _ e4.0;
        held = leb-true _ _ e5.0;
        elements = leb-true _ _ e6.0;
        words = leb-true _ _ e7.0;
        unfinished = (open_exactly f (waiting c)).0 e7.1;
      }

  back : CouldGo f c → could_go f c ≡ true
  back k =
      let t0 = le-leb c.respelled c.answer.element k.respelled in
      let t1 = le-leb c.holds 39 k.few in
      let t2 = le-leb c.answer.place limit k.within in
      let t3 = le-leb c.holds c.answer.place k.held in
      let t4 = le-leb c.answer.element (c.answer.place - c.holds) k.elements in
      let t5 = le-leb c.answer.count (c.answer.place - c.holds) k.words in
      simp (k.number, t0, t1, t2, t3, t4, t5, (open_exactly f (waiting c)).1 k.unfinished)

  pub could_go_exactly : (could_go f c ≡ true) ↔ CouldGo f c
  could_go_exactly = (forth, back)
