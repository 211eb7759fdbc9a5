-- The worked examples hold: each is computed. Assumes nothing.
use mathlib.Core.Path.{refl}
use Rattle.base.specs.Examples.{AllHold, ◌also◌}
use Rattle.base.specs.Bytes.{digit, capital, same}
use Rattle.fields.specs.Shapes.{shaped}
use Rattle.types.specs.Form.{places_103, places_202}
use Rattle.types.specs.Walk.{rule_18}
use Rattle.types.specs.Sign.{sign_of}
use Rattle.contents.specs.Tags.{tags_103, tags_202, held_by}
use Rattle.roles.specs.Role.{shape_of}
use Rattle.roles.specs.Rule14.{is_cyrillic_inn}
use Rattle.records.specs.Record.{pieces, record_of, records, rest, begun}
use Rattle.records.specs.Rule19.{is_digits, general, untaxed, sound, bad_from, judge, sheet_sign, sheet_form, rule_19, verdict_19_and_18}
use Rattle.records.specs.Cases.{Holds, cases}

pub worked : AllHold Holds cases
unfolding cases digit capital same shaped places_103 places_202 rule_18 sign_of tags_103 tags_202 held_by shape_of is_cyrillic_inn pieces record_of records rest begun is_digits general untaxed sound bad_from judge sheet_sign sheet_form rule_19 verdict_19_and_18
worked =
    (refl, refl, refl) also (refl, refl, refl, refl) also refl also (refl, refl, refl, refl) also (refl, refl, refl, refl) also (refl, refl, refl, refl) also refl also refl
    also refl also refl also refl also refl also refl also refl also refl also refl
    also refl also refl also refl also refl also refl also refl also refl also refl
    also refl also refl also refl also refl also refl also refl also refl also (refl, refl, refl)
    also (refl, refl, refl) also (refl, refl, refl) also refl also refl also refl also refl also refl also refl
    also (refl, refl, refl) also refl also refl also (refl, refl, refl) also (refl, refl, refl) also refl also refl also refl
    also refl also (refl, refl, refl) also refl also refl also refl also refl also refl also refl
    also refl also refl also refl also refl also (refl, refl, refl) also (refl, refl, refl) also (refl, refl, refl) also refl
    also refl also refl also refl also refl also refl also refl also refl also refl
    also refl also refl also refl
    also tt
