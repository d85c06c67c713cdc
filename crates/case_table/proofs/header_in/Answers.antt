-- `header_in` meets its contract: each way out is one law of Headers, by what was asked before it.
use Prim.Native.Nat.{ℕ, ◌≤◌}
use mathlib.Core.Path.{◌≡◌, sym, ap, ap₂, ◌∙◌}
use mathlib.Core.Bool.{Bool, true}
use mathlib.Core.List.{List}
use native.Mathlib.Omega.{arith}
use lib.ListN.{get_or}
use Rattle.sorts.specs.declared.Form.{Form}
use Rattle.std.specs.Prelude.{Some}
use Rattle.sorts.specs.Forms.{form_of}
use Rattle.case_table.specs.Layout.{version_1, mark, number16}
use Rattle.case_table.specs.Promises.{HeaderInPromise}
use Rattle.case_table.specs.Check.{Said, says, begins, header_in}
use Rattle.case_table.proofs.Headers.{Begun, Known, short, unmarked, other_version, no_form, many, wrong_size, right, sized}
use Rattle.case_table.proofs.Checked.{row_in}
use Rattle.case_table.proofs.header_in.Goals as goal
use Rattle.case_table.proofs.header_in.Goals.{then-size-lt8-via-then-size-lt8, then-size-lt8-via-else-size-lt8+then-not-is_marked}
use Rattle.case_table.proofs.header_in.Goals.{then-pages-gt256-via-then-pages-gt256, then-pages-gt256-via-else-pages-gt256+then-size-pages}

-- what is the answer is its row
promised : {header table : List ℕ} {size : ℕ} {r : Said} → r ≡ header_in version_1 header table size → HeaderInPromise header table size r
promised {header} {table} {size} e = (e, row_in version_1 header table size e)

-- what was asked before a place
begun : {header : List ℕ} {size : ℕ} {marked : Bool} → 8 ≤ size → marked ≡ begins mark header → marked ≡ true → Begun header size
begun eight e marked = record { eight = eight; marked = sym e ∙ marked }

known : {header : List ℕ} {size version octet : ℕ} {f : Form} → Begun header size
    → version ≡ number16 header 3 → version ≡ 1
    → octet ≡ get_or header 5 0 → form_of octet ≡ Some f → Known version_1 header size
known {f = f} begun v version o found =
    record {
      begun = begun;
      version = sym v ∙ version;
      the_form = f;
      is_form = ap form_of (sym o) ∙ found;
    }

pub returns-then-size-lt8 : goal.returns-then-size-lt8
returns-then-size-lt8 c =
    elim c.then-size-lt8.branch [
      | then-size-lt8-via-then-size-lt8 w ↦ promised (short _ _ _ _ w.if-size-lt8.true)
      | then-size-lt8-via-else-size-lt8+then-not-is_marked w ↦
          promised (unmarked _ _ _ _ w.if-size-lt8.false (sym w.is_marked.ensures ∙ w.if-not-is_marked.true))
    ]

pub returns-then-number_at-ne1 : goal.returns-then-number_at-ne1
returns-then-number_at-ne1 c =
    let b = begun c.if-size-lt8.false c.is_marked.ensures c.if-not-is_marked.false in
    promised (other_version _ _ _ _ b (λ e. c.if-number_at-ne1.true (c.number_at.ensures.0 ∙ e)))

pub returns-in_default : goal.returns-in_default
returns-in_default c =
    let b = begun c.if-size-lt8.false c.is_marked.ensures c.if-not-is_marked.false in
    promised
    (no_form _ _ _ _ b (sym c.number_at.ensures.0 ∙ c.if-number_at-ne1.false)
    (ap form_of (sym c.octet_at-form.ensures.0) ∙ sym c.in_default.ensures.0))

pub returns-then-pages-gt256 : goal.returns-then-pages-gt256
returns-then-pages-gt256 c =
    let b = begun c.if-size-lt8.false c.is_marked.ensures c.if-not-is_marked.false in
    let k = known b c.number_at.ensures.0 c.if-number_at-ne1.false c.octet_at-form.ensures.0 (sym c.in-Ok.ensures.0) in
    let n = c.number_at-pages.ensures.0 in
    elim c.then-pages-gt256.branch [
      | then-pages-gt256-via-then-pages-gt256 w ↦ promised (many _ _ _ _ k (omega (arith, n)))
      | then-pages-gt256-via-else-pages-gt256+then-size-pages w ↦
          let size = sized c.args.header.now _ _ _ n w.total_of.ensures.0 (omega arith) in
          promised (wrong_size _ _ _ _ k (omega (arith, n)) (λ q. w.if-size-pages.true (q ∙ sym size)))
    ]

pub returns : goal.returns
returns c =
    let b = begun c.if-size-lt8.false c.is_marked.ensures c.if-not-is_marked.false in
    let k = known b c.number_at.ensures.0 c.if-number_at-ne1.false c.octet_at-form.ensures.0 (sym c.in-Ok.ensures.0) in
    let n = c.number_at-pages.ensures.0 in
    let size = sized c.args.header.now _ _ _ n c.total_of.ensures.0 (omega arith) in
    promised (ap₂ says c.octet_at-form.ensures.0 n ∙ right _ _ _ _ k (omega (arith, n)) (c.if-size-pages.false ∙ size))
