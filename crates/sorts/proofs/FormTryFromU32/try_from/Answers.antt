-- The form of a number, by its keys 1, 2 and 3; any other has none, as `form_of` passes each of its entries.
use mathlib.Core.Path.{refl, sym}
use mathlib.Core.List.{[], ◌∷◌}
use borrow.Author.Tests.{ne_eqb}
use Rattle.run.proofs.Range.{at_keys}
use Rattle.sorts.specs.declared.Form.TheVariants.{Eight, Seven, Basic}
use Rattle.std.specs.Prelude.{Some, Ok, Err}
use Rattle.sorts.specs.Forms.{form_of}
use Rattle.sorts.proofs.NumbersExactly.{form_kept}
use Rattle.sorts.proofs.FormTryFromU32.try_from.Goals as goal

pub returns-in-1 : goal.returns-in-1
returns-in-1 c = form_kept _ (Ok Eight) (at_keys (λ n. Some Eight) form_of (1 ∷ []) refl _ c.in-1.is)

pub returns-in-2 : goal.returns-in-2
returns-in-2 c = form_kept _ (Ok Seven) (at_keys (λ n. Some Seven) form_of (2 ∷ []) refl _ c.in-2.is)

pub returns-in-3 : goal.returns-in-3
returns-in-3 c = form_kept _ (Ok Basic) (at_keys (λ n. Some Basic) form_of (3 ∷ []) refl _ c.in-3.is)

pub returns-in_default : goal.returns-in_default
returns-in_default c =
    let none = c.in_default.in_default-own.rest in
    form_kept _ (Err (record {}))
    (simp (ne_eqb 1 _ (λ e. none.0.0.1 (sym e)), ne_eqb 2 _ (λ e. none.0.1 (sym e)), ne_eqb 3 _ (λ e. none.1 (sym e))))
