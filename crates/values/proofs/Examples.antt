-- The worked examples hold: each is computed. Assumes nothing.
use mathlib.Core.Path.{refl}
use Rattle.base.specs.Examples.{AllHold, ◌also◌}
use Rattle.base.specs.Bytes.{is_in, digit, capital, same}
use Rattle.contents.specs.Tests.{lead_digits, is_payment, is_party_by_bik, looks_tax}
use Rattle.contents.specs.Tags.{tags_103, tags_202, held_by}
use Rattle.values.specs.Number.{onward}
use Rattle.values.specs.Day.{leap, days_in, is_day, year_of, real_day, dated}
use Rattle.values.specs.Money.{kopecks}
use Rattle.values.specs.Values.{payment, rpp_dates, parties, taxes, customer_taxes, payer_taxes, values_of}
use Rattle.values.specs.Judged.{first_bad, rule_9, rule_10, rule_11, rule_12, rule_13}
use Rattle.values.specs.Answers.{kopecks_of}
use Rattle.values.specs.Cases.{Holds, cases}

pub worked : AllHold Holds cases
unfolding cases is_in digit capital same lead_digits is_payment is_party_by_bik looks_tax tags_103 tags_202 held_by onward leap days_in is_day year_of real_day dated kopecks payment rpp_dates parties taxes customer_taxes payer_taxes values_of first_bad rule_9 rule_10 rule_11 rule_12 rule_13 kopecks_of
worked =
    (refl, refl) also refl also (refl, refl) also (refl, refl) also (refl, refl) also (refl, refl) also refl also refl also refl also refl also refl
    also refl also refl also refl also refl
    also refl also refl also refl also refl also refl also refl
    also refl also refl
    also refl
    also refl also refl also refl also refl also refl
    also refl also refl also refl also refl also refl
    also refl also refl also refl also refl
    also refl also refl also refl also refl
    also refl also refl
    also refl also refl also refl
    also refl also refl also refl also refl
    also refl also refl also refl also refl also refl
    also refl
    also refl
    also tt
