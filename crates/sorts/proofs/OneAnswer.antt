-- Each public function's promise allows only one answer: two results that keep it, of the same arguments, are equal. Where the result is
-- an enum, 01's numbers and values alone allow only one.
-- Assumes nothing.
use Prim.Native.Nat.{ℕ}
use Rattle.run.specs.OneAnswer.{Once}
use Rattle.run.proofs.OneAnswer.{once}
use Rattle.sorts.specs.declared.Form.{Form}
use Rattle.sorts.specs.Cells.{octet_in}
use Rattle.sorts.specs.Tables.{supplementary}
use Rattle.sorts.specs.Forms.{form_of}
use Rattle.sorts.specs.Sorts.{sort_in, shifted_in}
use Rattle.sorts.specs.Promises.{FormOfPromise, SortInPromise, SortShiftedPromise, FindSpacingPromise}
use Rattle.sorts.specs.Promises.{FormOfNumbers, SortInNumbers, SortShiftedNumbers, FindSpacingNumbers}
use Rattle.sorts.proofs.SortsExactly.{sort_by_lem, shifted_by_lem}
use Rattle.sorts.proofs.NumbersExactly.{answered_form, same_found, form_by, spacing_by}

pub one_answer : (form : Form) (number octet c : ℕ)
    → Once (FormOfPromise number)
    × Once (SortInPromise form octet)
    × Once (SortShiftedPromise form octet)
    × Once (FindSpacingPromise c)
one_answer form number octet c = (
  once (FormOfPromise number) (answered_form (form_of number)) (λ r p. same_found r (form_of number) p.0),
  once (SortInPromise form octet) (sort_in form octet) (λ r p. p.0),
  once (SortShiftedPromise form octet) (shifted_in form octet) (λ r p. p.0),
  once (FindSpacingPromise c) (octet_in supplementary c) (λ r p. p.0),
)

pub one_by_numbers : (form : Form) (number octet c : ℕ)
    → Once (FormOfNumbers number)
    × Once (SortInNumbers form octet)
    × Once (SortShiftedNumbers form octet)
    × Once (FindSpacingNumbers c)
one_by_numbers form number octet c = (
  once (FormOfNumbers number) (form_of number) (form_by number),
  once (SortInNumbers form octet) (sort_in form octet) (λ r p. sort_by_lem form octet r p.0 p.1),
  once (SortShiftedNumbers form octet) (shifted_in form octet) (λ r p. shifted_by_lem form octet r p.0 p.1),
  once (FindSpacingNumbers c) (octet_in supplementary c) (spacing_by c),
)
