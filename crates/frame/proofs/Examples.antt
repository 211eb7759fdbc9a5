-- The worked examples hold: each is computed. Assumes nothing.
use mathlib.Core.Path.{refl}
use Rattle.base.specs.Examples.{AllHold, ◌also◌}
use Rattle.base.specs.Calls.{long}
use Rattle.base.specs.Bytes.{is_in, digit, capital, letter, marks, shared, xset, same}
use Rattle.fields.specs.Field.{body, cut_lines, upto, past, grouped, fields}
use Rattle.fields.specs.Frame.{rule_1, framed, rule_2, scan, rule_3, tagged, line_bad, bad_line, rule_4}
use Rattle.types.specs.Form.{places_103, places_202}
use Rattle.types.specs.Walk.{find, wrong, walk, rule_18, walked, word}
use Rattle.frame.specs.Frame.{refusal, spots_of, fields_found, frame_of}
use Rattle.frame.specs.Cases.{Holds, cases}

pub worked : AllHold Holds cases
unfolding cases long is_in digit capital letter marks shared xset same body cut_lines upto past grouped fields rule_1 framed rule_2 scan rule_3 tagged line_bad bad_line rule_4 places_103 places_202 find wrong walk rule_18 walked word refusal spots_of fields_found frame_of
worked = refl also refl also refl also refl also refl also refl also refl also refl also refl also refl also refl also tt
