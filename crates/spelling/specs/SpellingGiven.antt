-- Proved equal to the canonical spelling (CanonicalExactly: exactly): the definition that gives it, looked up in a form's tables;
-- behind it, parts of the code.
-- Assumes nothing.
use Rattle.std.specs.Prelude.{ℕ, ◌%◌, ◌++◌, Option, Some, None}
use Rattle.std.specs.Option.{is_some}
use Rattle.run.specs.Choice.{pick, within}
use Rattle.sorts.specs.declared.Form.{Form}
use Rattle.sorts.specs.declared.Form.TheVariants.{Eight, Seven, Basic}
use Rattle.sorts.specs.Cells.{char_in, octet_in}
use Rattle.sorts.specs.Tables.{supplementary, supplementary_3}
use Rattle.sorts.specs.Forms.{Alphabet, alphabet_of}
use Rattle.squares.specs.Squares.{pair_of}
use Rattle.spelling.specs.declared.Spelling.{Spelling}
use Rattle.spelling.specs.declared.Spelling.TheVariants.{One, Shifted, Pair, ShiftedPair}

abbrev pub one_or : Option ℕ → Option Spelling → Option Spelling
one_or (Some o) other = Some (One o)
one_or None other = other

abbrev pub shifted_or : Option ℕ → Option Spelling → Option Spelling
shifted_or (Some o) other = Some (Shifted o)
shifted_or None other = other

abbrev pub pair_or : Option ℕ → ℕ → Option Spelling → Option Spelling
pair_or (Some o) l other = Some (Pair o l)
pair_or None l other = other

abbrev pub shifted_pair_or : Option ℕ → ℕ → Option Spelling → Option Spelling
shifted_pair_or (Some o) l other = Some (ShiftedPair o l)
shifted_pair_or None l other = other

abbrev pub pair_by : Alphabet → Option (ℕ × ℕ) → Option Spelling
pair_by a (Some (m, l)) = pair_or (octet_in a.marks m) l (shifted_pair_or (octet_in a.shifted_marks m) l None)
pair_by a None = None

-- the octet that is written for c, else the first that codes it
abbrev pub octet_by : Alphabet → ℕ → Option ℕ
octet_by a c = octet_in (a.writes ++ a.graphics) c

-- that octet, else the one after SS2, else the pair
abbrev pub spell_by : Alphabet → ℕ → Option Spelling
spell_by a c =
    one_or (octet_by a c)
    (shifted_or (octet_in a.shifted_graphics c)
    (pair_by a (pair_of c)))

unfoldable pub spell_in : Form → ℕ → Option Spelling
unfolding alphabet_of
spell_in f c = spell_by (alphabet_of f) c

-- ---- parts of the code

-- the octet of a character that is not among the supplementary ones of forms 1 and 2: an ASCII character's, and in a form with letters of
-- its own theirs
unfoldable pub primary_octet : Form → ℕ → Option ℕ
unfolding alphabet_of supplementary
primary_octet f c = pick (is_some (octet_in supplementary c)) None (octet_by (alphabet_of f) c)

-- "20 to 7E as ASCII": a character that is its own octet
abbrev pub itself : ℕ → Option ℕ
itself c = pick (within 0x20 0x7E c) (Some c) None

-- an octet of form 3's supplementary set, as a spelling
abbrev pub one_if : Option ℕ → ℕ → Option Spelling
one_if (Some c) o = Some (One o)
one_if None o = None

-- a spacing character by its octet in form 1
unfoldable pub spell_spacing : Form → ℕ → Option Spelling
unfolding supplementary_3
spell_spacing Eight o = Some (One o)
spell_spacing Seven o = Some (Shifted (o % 0x80))
spell_spacing Basic o = one_if (char_in supplementary_3 o) o

-- a pair by its mark's octet in form 1
abbrev pub spell_pair : Form → ℕ → ℕ → Spelling
spell_pair Eight m l = Pair m l
spell_pair Seven m l = ShiftedPair (m % 0x80) l
spell_pair Basic m l = Pair m l
