-- The worked examples hold: each is computed. Assumes nothing.
use mathlib.Core.Path.{refl}
use Rattle.base.specs.Examples.{AllHold, ◌also◌}
use Rattle.base.specs.Calls.{long}
use Rattle.base.specs.Bytes.{is_in, digit, capital, letter, marks, shared, xset, same}
use Rattle.fields.specs.Field.{message, body, cut_lines, upto, past, grouped, fields}
use Rattle.fields.specs.Frame.{rule_1, framed, rule_2, scan, rule_3, tagged, line_bad, bad_line, rule_4}
use Rattle.fields.specs.Places.{listed}
use Rattle.fields.specs.Cases.{Holds, cases}

pub worked : AllHold Holds cases
unfolding cases long is_in digit capital letter marks shared xset same message body cut_lines upto past grouped fields rule_1 framed rule_2 scan rule_3 tagged line_bad bad_line rule_4 listed
worked =
    refl also refl also refl also refl also refl
    also refl also refl also refl also refl also refl also refl also refl
    also refl also refl also refl also refl also refl also refl also refl also refl also refl
    also (refl, refl, refl, refl) also (refl, refl, refl, refl) also (refl, refl, refl, refl) also (refl, refl, refl, refl)
    also (refl, refl, refl, refl)
    also tt
