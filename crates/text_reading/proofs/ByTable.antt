-- An answer is given exactly by document 01's table and order, over any kind of input; and its number tells the row.
-- Assumes nothing.
use Prim.Native.Nat.{ℕ, ◌≤◌}
use mathlib.Core.Path.{◌≡◌, refl, sym, ap, ◌∙◌, subst₂}
use mathlib.Core.Logic.{◌↔◌}
use mathlib.Core.Bool.{Bool, true, false}
use mathlib.Core.List.{List}
use native.Mathlib.Omega.{arith}
use lib.ListN.{length}
use lib.Dec.{leb}
use borrow.Author.Tests.{leb-true, leb-false, le-leb, lt-leb}
use Rattle.run.specs.Choice.{pick}
use Rattle.run.specs.Head.{Outcome, accepted, refusal}
use Rattle.run.specs.declared.Answer.{Answer}
use Rattle.run.specs.Answers.{answer, bare, short_room, given, answer_of, written_of, over}
use Rattle.sorts.specs.declared.Form.{Form}
use Rattle.std.specs.Prelude.{Option, Some, None}
use Rattle.sorts.specs.Forms.{form_of, in_form}
use Rattle.text_reading.specs.ReadAnswers.{within_limit}
use Rattle.text_reading.specs.ReadingNumbers.{limit, Answered, Formed, Tells}
use Rattle.text_reading.specs.LawWords.{Meets, FaultNumbers}
use Rattle.text_reading.proofs.Edges.{no_form, a_form, over as past, within}
use Rattle.sorts.specs.Forms.{NoForm}
use Rattle.sorts.proofs.FormNumbers.{none_exactly}

module _ {A : Type 0} (gives : A → List ℕ) (Runs : List A → Type 0) (Fault : ℕ → ℕ → ℕ → ℕ → Type 0) (x : Outcome A)
    (meets : Meets Runs Fault x) (input buffer : List ℕ) where
  abbrev Row : Answer → List ℕ → Type 0
  Row = Answered gives Runs Fault input buffer

  by_room : (es : List A) → length input ≤ limit → Runs es → (t : Bool) → leb (length (given gives es)) (length buffer) ≡ t
      → Row (pick t (answer 0 (length es) (length input) (length (given gives es))) (short_room (length (given gives es))))
      (pick t (over buffer (given gives es)) buffer)
  by_room es h r true e = Answered.accepted h r (leb-true _ _ e)
  by_room es h r false e = Answered.room_is_short h r (leb-false _ _ e)

  by_outcome : (y : Outcome A) → x ≡ y → length input ≤ limit
      → Row (answer_of gives (length input) (length buffer) y) (written_of gives buffer y)
  by_outcome (accepted es) q h = by_room es h ((meets.runs es).0 q) (leb (length (given gives es)) (length buffer)) refl
  by_outcome (refusal r n p d) q h = Answered.fault h ((meets.faults r n p d).0 q)

  by_limit : (t : Bool) → leb (length input) limit ≡ t
      → Row (pick t (answer_of gives (length input) (length buffer) x) (bare 12)) (pick t (written_of gives buffer x) buffer)
  by_limit true e = by_outcome x refl (leb-true _ _ e)
  by_limit false e = Answered.over_limit (leb-false _ _ e)

  abbrev IsGiven : Answer → List ℕ → Type 0
  IsGiven a after =
      (within_limit input (bare 12) (answer_of gives (length input) (length buffer) x) ≡ a) ×
      (within_limit input buffer (written_of gives buffer x) ≡ after)

  -- within the limit, by what the outcome is
  fits : (y : Outcome A) → x ≡ y → length input ≤ limit
      → IsGiven (answer_of gives (length input) (length buffer) y) (written_of gives buffer y)
  fits y q h = (
    sym (within input _ _ h) ∙ ap (answer_of gives (length input) (length buffer)) q,
    sym (within input _ _ h) ∙ ap
        (written_of gives buffer) q,
  )

  of_row : {a : Answer} {after : List ℕ} → Row a after → IsGiven a after
  of_row (Answered.over_limit h) = (sym (past input _ _ h), sym (past input _ _ h))
  of_row (Answered.fault {r} {n} {p} {d} h k) = fits (refusal r n p d) ((meets.faults r n p d).1 k) h
  of_row (Answered.room_is_short {es} h r l) =
      let e = fits (accepted es) ((meets.runs es).1 r) h in
      let s = lt-leb (length (given gives es)) (length buffer) l in
      (e.0 ∙ simp s, e.1 ∙ simp s)
  of_row (Answered.accepted {es} h r l) =
      let e = fits (accepted es) ((meets.runs es).1 r) h in
      let s = le-leb (length (given gives es)) (length buffer) l in
      (e.0 ∙ simp s, e.1 ∙ simp s)

  -- what is answered, and what the buffer holds, is exactly what the table says
  pub by_table : (a : Answer) (after : List ℕ)
      → ((within_limit input (bare 12) (answer_of gives (length input) (length buffer) x) ≡ a)
      × (within_limit input buffer (written_of gives buffer x) ≡ after))
      ↔ Answered gives Runs Fault input buffer a after
  by_table a after = (λ e. subst₂ Row e.0 e.1 (by_limit (leb (length input) limit) refl), of_row)

module _ (form : ℕ) (buffer : List ℕ) (Inside : Form → Answer → List ℕ → Type 0) (k : Form → Answer) (l : Form → List ℕ)
    (inside : (f : Form) (a : Answer) (after : List ℕ) → ((k f ≡ a) × (l f ≡ after)) ↔ Inside f a after) where
  -- in a form, what is answered is what the table says inside it
  pub in_its_form : (f : Form) → form_of form ≡ Some f → Inside f (in_form (form_of form) (bare 11) k) (in_form (form_of form) buffer l)
  in_its_form f q = (inside f _ _).0 (a_form _ _ _ _ _ q refl, a_form _ _ _ _ _ q refl)

  -- 11 exactly where the number is no form's
  pub no_form_exactly : ((f : Form) → form_of form ≡ Some f → (k f).number ≡ 11 → ⊥)
      → ((in_form (form_of form) (bare 11) k).number ≡ 11) ↔ NoForm form
  no_form_exactly never = (
    λ e. (none_exactly form).0 (forth (form_of form) refl e),
    λ n. ap (λ (a : Answer). a.number)
        (sym (no_form _ _ _ ((none_exactly form).1 n))),
  )
    where
      forth : (y : Option Form) → form_of form ≡ y → (in_form y (bare 11) k).number ≡ 11 → y ≡ None
      forth (Some f) q e = absurd (never f q e)
      forth None q e = refl

  of_formed : {a : Answer} {after : List ℕ} → Formed form buffer Inside a after
      → (in_form (form_of form) (bare 11) k ≡ a) × (in_form (form_of form) buffer l ≡ after)
  of_formed (Formed.no_form n) = let q = (none_exactly form).1 n in (sym (no_form _ _ _ q), sym (no_form _ _ _ q))
  of_formed (Formed.of_a_form {f} {a} {after} q h) =
      let e = (inside f a after).1 h in (sym (a_form _ _ _ _ _ q refl) ∙ e.0, sym (a_form _ _ _ _ _ q refl) ∙ e.1)

  pub by_form : (a : Answer) (after : List ℕ)
      → ((in_form (form_of form) (bare 11) k ≡ a) × (in_form (form_of form) buffer l ≡ after)) ↔ Formed form buffer Inside a after
  by_form a after = (forth (form_of form) refl, of_formed)
    where
      forth : (y : Option Form) → form_of form ≡ y → (in_form y (bare 11) k ≡ a) × (in_form y buffer l ≡ after)
          → Formed form buffer Inside a after
      forth (Some f) q e = Formed.of_a_form q ((inside f a after).0 e)
      forth None q e = subst₂ (Formed form buffer Inside) e.0 e.1 (Formed.no_form ((none_exactly form).0 q))

-- ---- the number tells the row

module _ {A : Type 0} {gives : A → List ℕ} {Runs : List A → Type 0} {Fault : ℕ → ℕ → ℕ → ℕ → Type 0} {input buffer : List ℕ}
    (numbered : FaultNumbers Fault) where
  pub tells : {a : Answer} {after : List ℕ} → Answered gives Runs Fault input buffer a after → Tells gives Runs Fault input buffer a after
  tells (Answered.over_limit h) =
      record {
        not_11 = λ e. omega arith;
        is_12 = λ e. (h, refl);
        is_9 = λ e. absurd (omega arith);
        is_0 = λ e. absurd (omega arith);
        is_fault = λ a b c. absurd (omega arith);
        kept = λ n. refl;
      }
  tells (Answered.fault {r} {n} {p} {d} h k) =
      let z = numbered r n p d k in
      record {
        not_11 = λ e. omega (arith, z.1);
        is_12 = λ e. absurd (omega (arith, z.1));
        is_9 = λ e. absurd (z.2 e);
        is_0 = λ e. absurd (omega (arith, z.0));
        is_fault = λ a b c. (d, h, k, refl);
        kept = λ n. refl;
      }
  tells (Answered.room_is_short {es} h r l) =
      record {
        not_11 = λ e. omega arith;
        is_12 = λ e. absurd (omega arith);
        is_9 = λ e. (es, h, r, l, refl);
        is_0 = λ e. absurd (omega arith);
        is_fault = λ a b c. absurd (c refl);
        kept = λ n. refl;
      }
  tells (Answered.accepted {es} h r l) =
      record {
        not_11 = λ e. omega arith;
        is_12 = λ e. absurd (omega arith);
        is_9 = λ e. absurd (omega arith);
        is_0 = λ e. (es, h, r, l, refl, refl);
        is_fault = λ a b c. absurd (omega arith);
        kept = λ n. absurd (n refl);
      }

-- a refusal leaves the buffer as it stood
pub kept_in_form : {form : ℕ} {buffer : List ℕ} {Inside : Form → Answer → List ℕ → Type 0} {a : Answer} {after : List ℕ}
    → ((f : Form) (b : Answer) (l : List ℕ) → Inside f b l → (b.number ≡ 0 → ⊥) → l ≡ buffer) → Formed form buffer Inside a after
    → (a.number ≡ 0 → ⊥) → after ≡ buffer
kept_in_form inside (Formed.no_form q) n = refl
kept_in_form inside (Formed.of_a_form {f} {a} {after} q h) n = inside f a after h n
