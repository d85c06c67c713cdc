-- To be believed: the forms' numbers, and what document 01 says of each form, one record a form.
-- Assumes nothing.
use Rattle.std.specs.Prelude.{ℕ, ◌≤◌, List, [], ◌∷◌, ◌++◌, Option, Some, None}
use Rattle.run.specs.Choice.{first_by}
use Rattle.sorts.specs.declared.Form.{Form}
use Rattle.sorts.specs.declared.Form.TheVariants.{Eight, Seven, Basic}
use Rattle.sorts.specs.Cells.{Cell, ◌is◌, low}
use Rattle.sorts.specs.Tables.{Row, row, letters, primary, primary_3, supplementary, supplementary_3}

infix 70 ◌names◌
-- a number, and the form that it names
pub data NamedForm : Type 0 where
  ◌names◌ : ℕ → Form → NamedForm

abbrev pub number_of : NamedForm → ℕ
number_of (n names f) = n

abbrev pub form_in : NamedForm → Form
form_in (n names f) = f

-- "Form 1: T51String, eight bits"; "Form 2: T51String, seven bits"; "Form 3: basic T.61"
abbrev pub forms : List NamedForm
forms = 1 names Eight ∷ 2 names Seven ∷ 3 names Basic ∷ []

-- the form of a number
abbrev pub form_of : ℕ → Option Form
form_of = first_by number_of (λ e. Some (form_in e)) None forms

-- a form's number: 1 to 3
abbrev pub last_form : ℕ
last_form = 3

abbrev pub IsForm : ℕ → Type 0
IsForm n = (1 ≤ n) × (n ≤ last_form)

-- "form not 1 to 3"
abbrev pub NoForm : ℕ → Type 0
NoForm n = IsForm n → ⊥

-- 01's number of each answer to that: 11 where there is no such form
abbrev pub form_number : Option Form → ℕ
form_number (Some f) = 0
form_number None = 11

-- by that answer: x where there is no such form
abbrev pub in_form : {A : Type 0} → Option Form → A → (Form → A) → A
in_form (Some f) x k = k f
in_form None x k = x

-- "SS2 (19)", single shift two
abbrev pub SS2 : ℕ
SS2 = 0x19

-- the underline octet: "CC stands before a spacing character, or before a mark with its follower"
abbrev pub CC : ℕ
CC = 0xCC

-- what begins a control sequence: "Control sequence, form 3: 9B"
abbrev pub CSI : ℕ
CSI = 0x9B

pub record Alphabet : Type 0 where
  pub bits : ℕ  -- 7 or 8
  pub controls : List ℕ
  pub shifts : List ℕ  -- SS2, where the form has it
  pub sequences : List ℕ  -- what begins a control sequence
  pub underlines : List ℕ
  pub escapes : List ℕ  -- what number 2 is given for
  pub marks : List Cell  -- an octet, and the mark that it codes
  pub graphics : List Cell  -- an octet, and the spacing character that it codes
  pub shifted_marks : List Cell  -- the same of the octet after SS2
  pub shifted_graphics : List Cell
  pub writes : List Cell  -- where two octets code a character: the one that is written

-- each mark's own octet
abbrev pub own : List Row → List Cell
own [] = []
own (row m k cs ∷ rs) = m is m ∷ own rs

unfoldable pub form1 : Alphabet
unfolding letters primary supplementary
form1 = record {
  bits = 8;
  controls = 0x0A ∷ 0x0D ∷ [];
  shifts = [];
  sequences = [];
  underlines = [];
  escapes = 0x0E ∷ 0x0F ∷ 0x1B ∷ 0x1D ∷ SS2 ∷ [];
  marks = own letters;
  graphics = primary ++ supplementary;
  shifted_marks = [];
  shifted_graphics = [];
  writes = [];
}

unfoldable pub form2 : Alphabet
unfolding letters primary supplementary
form2 = record {
  bits = 7;
  controls = 0x0A ∷ 0x0D ∷ [];
  shifts = SS2 ∷ [];
  sequences = [];
  underlines = [];
  escapes = 0x0E ∷ 0x0F ∷ 0x1B ∷ 0x1D ∷ [];
  marks = [];
  graphics = primary;
  shifted_marks = low (own letters);
  shifted_graphics = low supplementary;
  writes = [];
}

unfoldable pub form3 : Alphabet
unfolding letters primary_3 supplementary_3
form3 = record {
  bits = 8;
  controls = 0x08 ∷ 0x0A ∷ 0x0C ∷ 0x0D ∷ 0x1A ∷ 0x8B ∷ 0x8C ∷ [];
  shifts = [];
  sequences = CSI ∷ [];
  underlines = CC ∷ [];
  escapes = 0x0E ∷ 0x0F ∷ 0x1B ∷ 0x1D ∷ SS2 ∷ [];
  marks = own letters;
  graphics = primary_3 ++ supplementary_3;
  shifted_marks = [];
  shifted_graphics = [];
  -- "Form 3 writes the number sign A6 and the currency sign A8."
  writes = 0xA6 is 0x0023 ∷ 0xA8 is 0x00A4 ∷ [];
}

unfoldable pub alphabet_of : Form → Alphabet
unfolding form1 form2 form3
alphabet_of Eight = form1
alphabet_of Seven = form2
alphabet_of Basic = form3
