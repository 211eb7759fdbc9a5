-- The worked examples hold: each is computed. Assumes nothing.
use mathlib.Core.Path.{refl}
use Rattle.base.specs.Bytes.{digit, capital, same}
use Rattle.base.specs.Examples.{AllHold, ◌also◌}
use Rattle.fields.specs.Lines.{split}
use Rattle.contents.specs.Words.{capital_or_digit}
use Rattle.contents.specs.Tags.{tags_103, tags_202, held_by}
use Rattle.contents.specs.Tests.{lead_digits, ends, has_pair, is_reference, is_purpose, is_payment, is_own_account, is_party_by_bik, is_party, is_bic, is_account, is_tax, word_and_digit, looks_tax, is_rpp, is_details, is_rest, right}
use Rattle.contents.specs.Cases.{Holds, cases}

pub worked : AllHold Holds cases
unfolding cases digit capital same split capital_or_digit tags_103 tags_202 held_by lead_digits ends has_pair is_reference is_purpose is_payment is_own_account is_party_by_bik is_party is_bic is_account is_tax word_and_digit looks_tax is_rpp is_details is_rest right
worked =
    (refl, refl) also (refl, refl) also (refl, refl) also (refl, refl) also (refl, refl) also (refl, refl) also (refl, refl) also (refl, refl)
    also (refl, refl) also (refl, refl) also (refl, refl) also (refl, refl) also (refl, refl) also (refl, refl) also (refl, refl) also (refl, refl)
    also (refl, refl) also (refl, refl) also (refl, refl) also (refl, refl) also (refl, refl) also (refl, refl) also (refl, refl) also (refl, refl)
    also (refl, refl) also (refl, refl) also (refl, refl) also (refl, refl) also (refl, refl) also (refl, refl) also (refl, refl) also (refl, refl)
    also (refl, refl) also (refl, refl) also (refl, refl) also (refl, refl) also (refl, refl) also (refl, refl) also (refl, refl)
    also tt
