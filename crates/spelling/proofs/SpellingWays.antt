-- What the canonical spelling is at each way out of the code that looks for it. The facts of the tables are tests over the form, which antt
-- computes; what is made of them is proved once over it, and holds of a form with letters of its own and of one without marks.
-- Assumes nothing.
use Prim.Native.Nat.{ℕ, ◌≤◌}
use mathlib.Core.Path.{◌≡◌, refl, sym, ap, ◌∙◌}
use mathlib.Core.List.{List, ◌++◌}
use mathlib.Core.Bool.{Bool, true, false}
use native.Mathlib.Omega.{arith}
use lib.Dec.{ltb}
use borrow.Author.Tests.{ltb-true, ltb-false, le-ltb, le-leb, lt-leb}
use Rattle.std.specs.Option.{is_some}
use Rattle.std.proofs.lemmas.Option.{none-some}
use Rattle.run.specs.Choice.{pick}
use Rattle.run.proofs.Members.{at_member}
use Rattle.run.proofs.Range.{listed, within}
use Rattle.sorts.specs.declared.Form.{Form}
use Rattle.sorts.specs.declared.Form.TheVariants.{Eight, Seven, Basic}
use Rattle.std.specs.Prelude.{Option, Some, None}
use Rattle.sorts.specs.Cells.{Cell, octet, meaning, octet_in}
use Rattle.sorts.specs.Tables.{supplementary}
use Rattle.sorts.specs.Forms.{alphabet_of}
use Rattle.sorts.proofs.Tests.{Alike}
use Rattle.sorts.proofs.Lookups.{octet_hit}
use Rattle.squares.specs.Squares.{pairing, squares, pair_of}
use Rattle.squares.proofs.TableRule.{pair_hit}
use Rattle.spelling.specs.declared.Spelling.{Spelling}
use Rattle.spelling.specs.declared.Spelling.TheVariants.{One}
use Rattle.spelling.specs.SpellingGiven.{pair_by, octet_by, spell_in, primary_octet, itself, spell_spacing, spell_pair}

-- ---- a character that is not supplementary, by an octet of its own

-- the octets that a form writes or reads bare
abbrev bare : Form → List Cell
bare f = (alphabet_of f).writes ++ (alphabet_of f).graphics

abbrev known : ℕ → ℕ → Bool
known b c = pick (ltb c b) true (is_some (octet_in supplementary c))

-- each of the form's characters with an octet of its own is below b, or supplementary
abbrev pub Below : Form → ℕ → Type 0
Below f b = Alike (λ cell. known b (meaning cell)) (λ cell. true) (bare f)

module _ (f : Form) (b : ℕ) (below : Below f b) where
  pub none_above : (c : ℕ) → b ≤ c → None ≡ primary_octet f c
  unfolding primary_octet
  none_above c h = go (octet_in supplementary c) refl (octet_by (alphabet_of f) c) refl
    where
      go : (x : Option ℕ) → octet_in supplementary c ≡ x → (y : Option ℕ) → octet_by (alphabet_of f) c ≡ y → None ≡ pick (is_some x) None y
      go (Some o) p y q = refl
      go None p None q = refl
      go None p (Some o) q =
          let k = octet_hit (bare f) c o q in
          let t : known b c ≡ true = sym (ap (known b) k.has_key)
          ∙ at_member (λ cell. known b (meaning cell)) (λ cell. true) k.member below in
          let u : known b c ≡ false = simp (le-ltb c b h, p) in
          let z : ◌≡◌ {A = ℕ} 0 1 = cc in
          absurd (omega arith)

-- below 7F, as ASCII
pub basic_below : Below Basic 0x7F
unfolding alphabet_of supplementary
basic_below = refl

eight_below : Below Eight 0x7F
unfolding alphabet_of supplementary
eight_below = refl

seven_below : Below Seven 0x7F
unfolding alphabet_of supplementary
seven_below = refl

-- a form in which such a character is its own octet
module _ (f : Form) (below : Below f 0x7F) (ascii : listed itself 0 0x7F ≡ listed (primary_octet f) 0 0x7F) where
  is_itself : (c : ℕ) → itself c ≡ primary_octet f c
  is_itself c = go (ltb c 0x7F) refl
    where
      go : (t : Bool) → ltb c 0x7F ≡ t → itself c ≡ primary_octet f c
      go true e = within itself (primary_octet f) 0 0x7F ascii c (omega arith) (ltb-true c 0x7F e)
      go false e =
          let h : 0x7F ≤ c = ltb-false c 0x7F e in
          let n : itself c ≡ None = simp (le-leb 0x20 c (omega arith), lt-leb c 0x7E (omega arith)) in
          n ∙ none_above f 0x7F below c h

pub itself_eight : (c : ℕ) → itself c ≡ primary_octet Eight c
unfolding primary_octet
itself_eight = is_itself Eight eight_below refl

pub itself_seven : (c : ℕ) → itself c ≡ primary_octet Seven c
unfolding primary_octet
itself_seven = is_itself Seven seven_below refl

primary_known : (f : Form) (c o : ℕ) → primary_octet f c ≡ Some o → octet_by (alphabet_of f) c ≡ Some o
unfolding primary_octet
primary_known f c o = go (octet_in supplementary c) (octet_by (alphabet_of f) c)
  where
    go : (x y : Option ℕ) → pick (is_some x) None y ≡ Some o → y ≡ Some o
    go (Some p) y e = absurd (none-some _ e)
    go None y e = e

pub spelt_primary : (f : Form) (c o : ℕ) → primary_octet f c ≡ Some o → Some (One o) ≡ spell_in f c
unfolding spell_in
spelt_primary f c o e = rw (primary_known f c o e)

-- ---- a supplementary character, or neither

abbrev is_supplementary : ℕ → Bool
is_supplementary c = is_some (octet_in supplementary c)

abbrev spell_pairing : Form → Option (ℕ × ℕ) → Option Spelling
spell_pairing f (Some (m, l)) = Some (spell_pair f m l)
spell_pairing f None = None

-- what is tested of a form: its spelling of each supplementary character and of each pair; an octet after SS2 is a supplementary
-- character's
record Tested (f : Form) : Type 0 where
  pub spacing : Alike (λ cell. spell_spacing f (octet cell)) (λ cell. spell_in f (meaning cell)) supplementary
  pub pair : Alike (λ s. spell_pairing f (pairing s)) (λ s. pair_by (alphabet_of f) (pairing s)) squares
  pub shifted : Alike (λ cell. is_supplementary (meaning cell)) (λ cell. true) (alphabet_of f).shifted_graphics

tested : (f : Form) → Tested f
unfolding alphabet_of spell_in spell_spacing supplementary pair_of squares
tested Eight = record { spacing = refl; pair = refl; shifted = refl }
tested Seven = record { spacing = refl; pair = refl; shifted = refl }
tested Basic = record { spacing = refl; pair = refl; shifted = refl }

pub spelt_spacing : (f : Form) (c o : ℕ) → octet_in supplementary c ≡ Some o → spell_spacing f o ≡ spell_in f c
spelt_spacing f c o e =
    let h = octet_hit supplementary c o e in
    let eo : octet h.entry ≡ o = cc h.is_given in
    sym (ap (spell_spacing f) eo)
    ∙ at_member (λ cell. spell_spacing f (octet cell)) (λ cell. spell_in f (meaning cell)) h.member (tested f).spacing
    ∙ ap (spell_in f) h.has_key

-- neither: the pair
module _ (f : Form) (c : ℕ) (no-primary : primary_octet f c ≡ None) (no_spacing : octet_in supplementary c ≡ None) where
  no_bare : octet_by (alphabet_of f) c ≡ None
  unfolding primary_octet
  no_bare = go (octet_in supplementary c) (octet_by (alphabet_of f) c) no_spacing no-primary
    where
      go : (x y : Option ℕ) → x ≡ None → pick (is_some x) None y ≡ None → y ≡ None
      go (Some o) y p e = absurd (none-some _ (sym p))
      go None y p e = e

  no_shifted : octet_in (alphabet_of f).shifted_graphics c ≡ None
  no_shifted = go (octet_in (alphabet_of f).shifted_graphics c) refl
    where
      go : (x : Option ℕ) → octet_in (alphabet_of f).shifted_graphics c ≡ x → x ≡ None
      go None e = refl
      go (Some o) e =
          let h = octet_hit (alphabet_of f).shifted_graphics c o e in
          let told = at_member (λ cell. is_supplementary (meaning cell)) (λ cell. true) h.member (tested f).shifted in
          let k : is_supplementary c ≡ true = sym (ap is_supplementary h.has_key) ∙ told in
          let z : is_supplementary c ≡ false = ap is_some no_spacing in
          let y : ◌≡◌ {A = ℕ} 0 1 = cc in
          absurd (omega arith)

  by_pair : spell_in f c ≡ pair_by (alphabet_of f) (pair_of c)
  unfolding spell_in
  by_pair = rw (no_bare, no_shifted)

  pub spelt_nowhere : pair_of c ≡ None → None ≡ spell_in f c
  spelt_nowhere e = sym (by_pair ∙ rw e)

  pub spelt_pair : (m l : ℕ) → pair_of c ≡ Some (m, l) → Some (spell_pair f m l) ≡ spell_in f c
  spelt_pair m l e =
      let h = pair_hit c m l e in
      sym (ap (spell_pairing f) h.is_given)
      ∙ at_member (λ s. spell_pairing f (pairing s)) (λ s. pair_by (alphabet_of f) (pairing s)) h.member (tested f).pair
      ∙ ap (pair_by (alphabet_of f)) (h.is_given ∙ sym e)
      ∙ sym by_pair
