-- What each function that answers an enum finds keeps its promise: 01's number of it is the one that 01's rows give, and its values are
-- those that 01's lists and tables give.
-- Assumes nothing.
use Prim.Native.Nat.{ℕ}
use mathlib.Core.Path.{◌≡◌, refl, sym, ap, subst, ◌∙◌}
use mathlib.Core.List.Memᴰ
use mathlib.Core.List.{[], ◌∷◌, Memᴰ}
use native.Mathlib.Omega.{arith}
use Rattle.std.proofs.lemmas.Option.{none-some}
use Rattle.run.proofs.Members.{at_member, same_first}
use Rattle.run.proofs.Search.{hit}
use Rattle.sorts.specs.declared.Form.{Form}
use Rattle.sorts.specs.declared.UnknownForm.{UnknownForm}
use Rattle.std.specs.Prelude.{Option, Some, None, Result, Ok, Err}
use Rattle.sorts.specs.declared.Sort.{Sort}
use Rattle.sorts.specs.Cells.{◌is◌, octet, meaning, octet_in, octet_values}
use Rattle.sorts.specs.Tables.{supplementary}
use Rattle.sorts.specs.Forms.{NamedForm, ◌names◌, number_of, form_in, forms, alphabet_of, form_of, form_number}
use Rattle.sorts.specs.Sorts.{sort_in, shifted_in, sort_number}
use Rattle.sorts.specs.SortLists.{◌sorts◌, lists, shifted_lists}
use Rattle.sorts.specs.Promises.{found_form, FormOfPromise, FormOfNumbers, SortInPromise, SortShiftedPromise, FindSpacingPromise}
use Rattle.sorts.specs.Promises.{FindSpacingNumbers}
use Rattle.sorts.proofs.Tests.{Alike}
use Rattle.sorts.proofs.Lookups.{octet_cell, none_octet}
use Rattle.sorts.proofs.FormNumbers.{none_exactly}
use Rattle.sorts.proofs.SortNumbers.{shifted_number}
use Rattle.sorts.proofs.SortsExactly.{start_number_lem, sort_listed, shifted_listed}

-- ---- the form of a number

-- the test: each number of the list finds its form
forms_test : Alike (λ e. form_of (number_of e)) (λ e. Some (form_in e)) forms
forms_test = refl

same_name : (e : NamedForm) (n : ℕ) (f : Form) → number_of e ≡ n → Some (form_in e) ≡ Some f → e ≡ n names f
same_name (k names g) n f p q = let w : g ≡ f = cc in cc

named : (n : ℕ) (f : Form) → form_of n ≡ Some f → Memᴰ (n names f) forms
named n f e =
    let h = hit number_of (λ e. Some (form_in e)) None forms n (Some f) (none-some _) e in
    Memᴰ.cast (sym (same_name h.entry n f h.has_key h.is_given)) h.member

is_11 : (x : Option Form) → form_number x ≡ 11 → x ≡ None
is_11 (Some f) h = absurd (omega arith)
is_11 None h = refl

-- the answer that has found it
abbrev pub answered_form : Option Form → Result Form UnknownForm
answered_form (Some f) = Ok f
answered_form None = Err (record {})

pub form_kept : (n : ℕ) (r : Result Form UnknownForm) → found_form r ≡ form_of n → FormOfPromise n r
form_kept n r e = (
  e,
  (
    (λ h. (none_exactly n).0 (sym e ∙ is_11 (found_form r) h), λ none. ap form_number (e ∙ (none_exactly n).1 none)),
    λ f. (λ q. named n f (sym e ∙ q), λ m. e ∙ at_member (λ e. form_of (number_of e)) (λ e. Some (form_in e)) m forms_test),
  ),
)

-- what is answered is told by what is found
pub same_found : (r : Result Form UnknownForm) (x : Option Form) → found_form r ≡ x → r ≡ answered_form x
same_found (Ok f) (Some g) e = let w : f ≡ g = cc in cc
same_found (Ok f) None e = absurd (none-some _ (sym e))
same_found (Err u) (Some g) e = absurd (none-some _ e)
same_found (Err u) None e = refl

-- 01's number and form fix the answer
pub form_by : (n : ℕ) (r : Option Form) → FormOfNumbers n r → r ≡ form_of n
form_by n r p = go (form_of n) refl
  where
    go : (x : Option Form) → form_of n ≡ x → r ≡ form_of n
    go (Some f) q = (p.1 f).1 (named n f q) ∙ sym q
    go None q = is_11 r (p.0.1 ((none_exactly n).0 q)) ∙ sym q

-- ---- the sort of an octet

pub sort_kept : (f : Form) (o : ℕ) (r : Sort) → r ≡ sort_in f o → SortInPromise f o r
unfolding sort_in
sort_kept f o r e = (
  e,
  (
    ap sort_number e ∙ start_number_lem f o,
    λ z. subst (λ (s : Sort). Memᴰ (o sorts s) (lists (alphabet_of f))) (sym e) (sort_listed f o (sym (ap sort_number e) ∙ z)),
  ),
)

pub shifted_kept : (f : Form) (o : ℕ) (r : Sort) → r ≡ shifted_in f o → SortShiftedPromise f o r
unfolding shifted_in
shifted_kept f o r e = (
  e,
  (
    ap sort_number e ∙ shifted_number (alphabet_of f) o,
    λ z. subst (λ (s : Sort). Memᴰ (o sorts s) (shifted_lists (alphabet_of f))) (sym e)
        (shifted_listed f o (sym (ap sort_number e) ∙ z)),
  ),
)

-- ---- the octet of a supplementary character

-- the test: each character of the table is found at its octet, so none stands in it twice
spacing_test : Alike (λ cell. octet_in supplementary (meaning cell)) (λ cell. Some (octet cell)) supplementary
unfolding supplementary
spacing_test = refl

is_none : (x : Option ℕ) → octet_values x ≡ [] → x ≡ None
is_none (Some o) h = let z : ◌≡◌ {A = ℕ} 0 1 = cc in absurd (omega arith)
is_none None h = refl

is_that : (o : ℕ) (x : Option ℕ) → octet_values x ≡ o ∷ [] → x ≡ Some o
is_that o (Some p) h = ap Some (same_first h)
is_that o None h = let z : ◌≡◌ {A = ℕ} 0 1 = cc in absurd (omega arith)

pub spacing_kept : (c : ℕ) (r : Option ℕ) → r ≡ octet_in supplementary c → FindSpacingPromise c r
spacing_kept c r e = (
  e,
  (
    (λ h o m. none_octet supplementary c o (sym e ∙ is_none r h) m, back r e),
    λ o. (λ h. octet_cell supplementary c o (sym e ∙ is_that o r h), λ m. ap octet_values (e ∙ at_its_octet m)),
  ),
)
  where
    at_its_octet : {o : ℕ} → Memᴰ (o is c) supplementary → octet_in supplementary c ≡ Some o
    at_its_octet m = at_member (λ cell. octet_in supplementary (meaning cell)) (λ cell. Some (octet cell)) m spacing_test

    back : (x : Option ℕ) → x ≡ octet_in supplementary c → ((o : ℕ) → Memᴰ (o is c) supplementary → ⊥) → octet_values x ≡ []
    back (Some o) q none = absurd (none o (octet_cell supplementary c o (sym q)))
    back None q none = refl

-- 01's values fix the answer
pub spacing_by : (c : ℕ) (r : Option ℕ) → FindSpacingNumbers c r → r ≡ octet_in supplementary c
spacing_by c r p = go (octet_in supplementary c) refl
  where
    go : (x : Option ℕ) → octet_in supplementary c ≡ x → r ≡ octet_in supplementary c
    go (Some o) q = is_that o r ((p.1 o).1 (octet_cell supplementary c o q)) ∙ sym q
    go None q = is_none r (p.0.1 (λ o m. none_octet supplementary c o q m)) ∙ sym q
