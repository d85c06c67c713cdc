-- A form's number: 1 to 3 exactly where `form_of` finds a form, and none exactly where it finds none; it is small; 01's number for it is 11.
-- Assumes nothing.
use Prim.Native.Nat.{ℕ, suc, ◌≤◌}
use mathlib.Core.Path.{◌≡◌, refl, sym, ap, ◌∙◌}
use mathlib.Core.List.{map}
use mathlib.Core.Logic.{◌↔◌}
use mathlib.Core.Bool.{Bool, true, false}
use native.Mathlib.Omega.{arith}
use Rattle.std.specs.Option.{is_some}
use Rattle.std.proofs.lemmas.Option.{none-some}
use Rattle.run.specs.Choice.{within}
use Rattle.run.proofs.Choices.{within_range}
use Rattle.run.proofs.Members.{at_member}
use Rattle.run.proofs.Range.{within as in_range}
use Rattle.run.proofs.Search.{hit}
use Rattle.sorts.specs.declared.Form.{Form}
use Rattle.std.specs.Prelude.{Option, Some, None}
use Rattle.sorts.specs.Forms.{number_of, form_in, forms, form_of, last_form, IsForm, NoForm, form_number}

-- ---- the tests

number_test : map (λ e. within 1 last_form (number_of e)) forms ≡ map (λ e. true) forms
number_test = refl

-- ---- a form is found exactly where the number is one's

pub found_is : (n : ℕ) (f : Form) → form_of n ≡ Some f → IsForm n
found_is n f e =
    let h = hit number_of (λ e. Some (form_in e)) None forms n (Some f) (none-some _) e in
    let r = within_range 1 last_form (number_of h.entry)
    (at_member (λ e. within 1 last_form (number_of e)) (λ e. true) h.member number_test) in
    (omega (arith, r.0, h.has_key), omega (arith, r.1, h.has_key))

pub is_found : (n : ℕ) → IsForm n → (f : Form) × (form_of n ≡ Some f)
is_found n i = go (form_of n) refl
  where
    go : (y : Option Form) → form_of n ≡ y → (f : Form) × (form_of n ≡ Some f)
    go (Some f) q = (f, q)
    go None q =
        let t : is_some (form_of n) ≡ true = in_range (λ k. is_some (form_of k)) (λ k. true) 1 (suc last_form) refl n i.0
        (omega (arith, i.1)) in
        let z : ◌≡◌ {A = ℕ} 0 1 = cc (ap is_some q) in
        absurd (omega arith)

-- ---- none is found exactly where it is none's: "form not 1 to 3"

pub none_exactly : (n : ℕ) → (form_of n ≡ None) ↔ NoForm n
none_exactly n = (λ q i. none-some _ (sym q ∙ (is_found n i).1), back (form_of n) refl)
  where
    back : (y : Option Form) → form_of n ≡ y → NoForm n → form_of n ≡ None
    back (Some f) q none = absurd (none (found_is n f q))
    back None q none = q

-- 01's number is 0 exactly where it is a form's, else 11
pub form_number_lem : (n : ℕ) → (form_number (form_of n) ≡ 0) ↔ IsForm n
form_number_lem n = (forth (form_of n) refl, λ i. ap form_number (is_found n i).1)
  where
    forth : (y : Option Form) → form_of n ≡ y → form_number y ≡ 0 → IsForm n
    forth (Some f) q e = found_is n f q
    forth None q e = absurd (omega arith)

-- a form's number is small, and so an octet
pub form_small : (n : ℕ) → IsForm n → n ≤ last_form
form_small n i = i.1
