-- Every played example is played as document 01 has it.
use Rattle.std.specs.Prelude.{◌≡◌, refl, map}
use Rattle.rules.specs.Computes.{computes}
use Rattle.text.specs.Text.{onto, fields, lines, is_letter, digits, is_number, value_from, value, decimal_of, decimal, tabbed, sheet_line, commas, keys_text, keys_line}
use Rattle.forms.specs.Form.{is_below, is_min, low_of, is_first, settings_of, settings_form, ranged, first_form, is_operation, operation_of, is_begin, is_steps, line_form}
use Rattle.sheet.specs.Sheet.{refusal, begin_line, run_line, play_form, line_of, end_text, end_form, end_of, first_played, first_of, play_lines, play_first, play_all, sheet_of}
use Rattle.sheet.specs.Examples.{lines_of_b, twice_contended, examples, parted, ended, asked, asked_of, said_of, played, written}

-- every example is played as document 01 has it
pub examples-played : map played examples ≡ map written examples
unfolding computes onto fields lines is_letter digits is_number value_from value decimal_of decimal tabbed sheet_line commas keys_text keys_line is_below is_min low_of is_first settings_of settings_form ranged first_form is_operation operation_of is_begin is_steps line_form refusal begin_line run_line play_form line_of end_text end_form end_of first_played first_of play_lines play_first play_all sheet_of lines_of_b twice_contended examples parted ended asked asked_of said_of
examples-played = refl
