-- The worked examples of 14 and 21 hold: computed. Assumes nothing.
use mathlib.Core.Path.{refl}
use Rattle.base.specs.Examples.{AllHold, ◌also◌}
use Rattle.base.specs.Bytes.{is_in, digit, capital, letter, marks, shared, xset, same}
use Rattle.alphabets.specs.Grid.{grid, character}
use Rattle.alphabets.specs.Bank.{reads}
use Rattle.contents.specs.Tests.{looks_tax}
use Rattle.contents.specs.Tags.{tags_103, tags_202, held_by}
use Rattle.roles.specs.Role.{shape_of, cast}
use Rattle.roles.specs.Speech.{name_speeches, later_text, details_speech, note_speeches, speeches}
use Rattle.types.specs.Sign.{sign_of}
use Rattle.roles.specs.Rule14.{hidden, is_cyrillic_inn, tax_like, breaks_14, unheard, speeches_of, rule_14}
use Rattle.roles.specs.Rule21.{over_most, rule_21}
use Rattle.roles.specs.Cases.{cases, Holds}

pub worked : AllHold Holds cases
unfolding cases is_in digit capital letter marks shared xset same grid character reads tags_103 tags_202 shape_of held_by looks_tax cast name_speeches later_text details_speech note_speeches speeches hidden is_cyrillic_inn tax_like breaks_14 unheard speeches_of sign_of rule_14 over_most rule_21
worked =
    refl also refl also refl also refl also refl also refl also refl also refl also refl also refl also refl also refl
    also refl also refl also refl also refl also refl also refl also refl also refl also refl also refl also refl also refl
    also refl also refl also refl also refl also refl also refl also refl also refl also refl also refl also refl also refl
    also refl also refl also refl also refl also refl also refl also refl also refl also refl also refl also refl also refl
    also refl also refl also refl also refl also refl also refl also refl also refl also refl also refl also refl also refl
    also refl also refl also refl also refl also refl also refl also refl also refl also refl also refl also refl
    also refl also refl also refl also refl also refl also refl also refl also refl also refl also refl
    also tt
