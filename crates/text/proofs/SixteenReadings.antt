-- Document 01's "Sixteen readings to prove" hold: one table (specs/SixteenReadings), under one claim, by computation.
-- Assumes nothing.
use mathlib.Core.Path.{refl}
use Rattle.run.specs.Head.{from, outcome}
use Rattle.run.specs.Answers.{given}
use Rattle.sorts.specs.Tables.{primary, primary_3, supplementary, supplementary_3, grave, acute, circumflex, tilde, macron, breve}
use Rattle.sorts.specs.Tables.{dot_above, diaeresis, ring, cedilla, double_acute, ogonek, caron, letters, accents, rows}
use Rattle.sorts.specs.Forms.{form1, form2, form3, alphabet_of}
use Rattle.squares.specs.Squares.{square_of, squares, pair_of}
use Rattle.sorts.specs.Sorts.{sort_in, shifted_in}
use Rattle.spelling.specs.SpellingGiven.{spell_in}
use Rattle.sequence_reading.specs.Kinds.{kind_of}
use Rattle.sequence_reading.specs.SequenceHead.{digit_step, value_step, middle_step, step_of, scan, sequence_head}
use Rattle.sequence_spelling.specs.SequenceOctets.{digits_of, spell_rest, spell_values, spell_middle, spell_sequence, is_fine}
use Rattle.element_reading.specs.ElementHead.{follower_head, shifted_head, underlined_head, head_in}
use Rattle.element_spelling.specs.ElementOctets.{spell_element}
use Rattle.text_reading.specs.ReadAnswers.{read_answer, read_words}
use Rattle.text.specs.Outcomes.{convert_in}
use Rattle.text.specs.WriteAnswers.{convert_answer, convert_text}
use Rattle.text.specs.SixteenReadings.{readings, AllHold}

pub sixteen : AllHold readings
unfolding from outcome given primary primary_3 supplementary supplementary_3 grave acute circumflex tilde macron breve dot_above diaeresis
    ring cedilla double_acute ogonek caron letters accents rows form1 form2 form3 alphabet_of square_of squares pair_of sort_in shifted_in
    spell_in kind_of digit_step value_step middle_step step_of scan sequence_head digits_of spell_rest spell_values spell_middle spell_sequence is_fine
    follower_head shifted_head underlined_head head_in spell_element convert_in read_answer read_words convert_answer convert_text
sixteen = (
  ((refl, refl), tt),
  (
    ((refl, refl), (refl, refl)),
    (
      ((refl, refl), (refl, refl)),
      (
        ((refl, refl), tt),
        (
          ((refl, refl), tt),
          (
            ((refl, refl), tt),
            (
              ((refl, refl), tt),
              (
                ((refl, refl), tt),
                (
                  ((refl, refl), tt),
                  (
                    ((refl, refl), (refl, refl)),
                    (
                      ((refl, refl), tt),
                      (
                        ((refl, refl), (refl, refl)),
                        (
                          ((refl, refl), tt),
                          (
                            ((refl, refl), tt),
                            (
                              ((refl, refl), (refl, refl)),
                              (
                                ((refl, refl), tt),
                                tt,
                              ),
                            ),
                          ),
                        ),
                      ),
                    ),
                  ),
                ),
              ),
            ),
          ),
        ),
      ),
    ),
  ),
)
