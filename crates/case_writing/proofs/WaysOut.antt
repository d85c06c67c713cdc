-- Each way out of writing a case: what it answers, and what it leaves.
-- Assumes nothing.
use Prim.Native.Nat.{ℕ, ◌+◌, ◌*◌, ◌≤◌, ◌<◌}
use mathlib.Core.Path.{◌≡◌, sym, ap, ◌∙◌}
use mathlib.Core.Bool.{true, false}
use mathlib.Core.List.{List}
use native.Mathlib.Omega.{arith}
use lib.ListN.{length, length-append}
use borrow.Author.Tests.{le-leb, lt-leb}
use Rattle.run.specs.declared.Answer.{Answer}
use Rattle.run.specs.Answers.{answer, bare, short_room, given}
use Rattle.run.specs.Put.{Put}
use Rattle.run.proofs.Puts.{put_both, put_over}
use Rattle.sorts.specs.declared.Form.{Form}
use Rattle.std.specs.Prelude.{Some, None}
use Rattle.sorts.specs.Forms.{form_of}
use Rattle.case_table.specs.Layout.{header, big16, case_with}
use Rattle.case_writing.specs.FromParts.{fitting, write_case_answer, write_case_octets}
use Rattle.case_table.proofs.Laid.{table_length}

-- "Size is exactly 8 + 2 x pages + the lengths"
pub case_length : (form : ℕ) (lengths octets : List ℕ) → length (case_with form lengths octets) ≡ 8 + 2 * length lengths + length octets
case_length form lengths octets =
    omega (arith, length-append (given big16 lengths) octets, table_length lengths)

module _ (form : ℕ) (lengths octets case : List ℕ) where
  abbrev Promised : Answer → List ℕ → Type 0
  Promised r case' = (r ≡ write_case_answer form lengths octets (length case)) × (case' ≡ write_case_octets form lengths octets case)

  pub no_form : (r : Answer) → r ≡ bare 11 → form_of form ≡ None → Promised r case
  unfolding write_case_answer write_case_octets
  no_form r e q = (e ∙ sym (simp q), sym (simp q))

  module _ (f : Form) (is_form : form_of form ≡ Some f) where
    pub unfit : (r : Answer) → r ≡ bare 15 → fitting lengths (length octets) ≡ false → Promised r case
    unfolding write_case_answer write_case_octets
    unfit r e q = (e ∙ sym (simp (is_form, q)), sym (simp (is_form, q)))

    module _ (fits : fitting lengths (length octets) ≡ true) where
      pub short : (r : Answer) → r ≡ short_room (8 + 2 * length lengths + length octets)
          → length case < 8 + 2 * length lengths + length octets → Promised r case
      unfolding write_case_answer write_case_octets
      short r e h =
          let n = case_length form lengths octets in
          let l = lt-leb (length (case_with form lengths octets)) (length case) (omega arith) in
          (e ∙ sym (simp (is_form, fits, l) (ap short_room n)), sym (simp (is_form, fits, l)))

      pub written : 8 + 2 * length lengths + length octets ≤ length case → (a b d : List ℕ) (i j k : ℕ)
          → Put case 0 (header 1 form (length lengths)) a i → Put a i (given big16 lengths) b j → Put b j octets d k
          → Promised (answer 0 0 (length octets) (8 + 2 * length lengths + length octets)) d
      unfolding write_case_answer write_case_octets
      written h a b d i j k p q r =
          let n = case_length form lengths octets in
          let m : length (case_with form lengths octets) ≤ length case = omega arith in
          let l = le-leb (length (case_with form lengths octets)) (length case) m in (
            sym (simp (is_form, fits, l) (ap (answer 0 0 (length octets)) n)),
            put_over (put_both p (put_both q r)) m ∙ sym (simp (is_form, fits, l)),
          )
