-- The worked examples hold: each is computed. Assumes nothing.
use mathlib.Core.Path.{refl}
use Rattle.base.specs.Examples.{AllHold, ◌also◌}
use Rattle.base.specs.Calls.{long, short}
use Rattle.base.specs.Bytes.{is_in, digit, capital, letter, marks, shared, xset, same}
use Rattle.fields.specs.Field.{message, body, cut_lines, upto, past, grouped, fields}
use Rattle.fields.specs.Frame.{rule_1, framed, rule_2, scan, rule_3, tagged, line_bad, bad_line, rule_4}
use Rattle.fields.specs.Shapes.{shaped}
use Rattle.types.specs.Form.{places_103, places_202}
use Rattle.types.specs.Walk.{find, wrong, walk, rule_18, walked}
use Rattle.types.specs.Sign.{sign_of}
use Rattle.message.specs.Message.{verdict_of}
use Rattle.contents.specs.Words.{capital_or_digit}
use Rattle.contents.specs.Tests as tests
use Rattle.contents.specs.Rule8.{first_wrong, right_field, rule_8}
use Rattle.values.specs.Number.{onward}
use Rattle.values.specs.Day.{leap, days_in, is_day, year_of, real_day, dated}
use Rattle.values.specs.Values.{payment, rpp_dates, parties, taxes, customer_taxes, payer_taxes, values_of}
use Rattle.values.specs.Judged.{first_bad, rule_9, rule_10, rule_11, rule_12, rule_13}
use Rattle.contents.specs.Tags.{tags_103, tags_202, held_by}
use Rattle.roles.specs.Role.{shape_of, cast}
use Rattle.roles.specs.Speech.{name_speeches, details_speech, note_speeches, speeches}
use Rattle.roles.specs.Speech as speech
use Rattle.roles.specs.Rule14.{hidden, is_cyrillic_inn, tax_like, breaks_14, unheard, speeches_of, rule_14}
use Rattle.roles.specs.Rule21.{over_most, rule_21}
use Rattle.alphabets.specs.Grid.{grid, kind}
use Rattle.alphabets.specs.Grid as signs
use Rattle.alphabets.specs.Bank.{reads, plainly}
use Rattle.alphabets.specs.Best.{latin_next, best, bad, writes}
use Rattle.records.specs.Record.{pieces, record_of, records, rest, begun}
use Rattle.records.specs.Rule19.{is_digits, general, untaxed, sound, bad_from, judge, sheet_sign, sheet_form, rule_19}
use Rattle.details.specs.Breaking.{opens, last, broken}
use Rattle.details.specs.Breaking as breaking
use Rattle.details.specs.Layouts.{lines_for, size_for}
use Rattle.runon.specs.Run.{cut_at, last_cut, run_for}
use Rattle.runon.specs.RunOn.{run_of, run_on}
use Rattle.writer.specs.Spread.{content_lines, spread}
use Rattle.writer.specs.Sheet.{unsaid, rule_15, crowded, rule_16, fields_of, message_for}
use Rattle.writer.specs.Holder.{lies_in, holder_in, holder_of}
use Rattle.written.specs.Cases.{Holds, cases, crowded_cases, cut_cases, new_cases}

pub worked : AllHold Holds cases
unfolding cases long short is_in digit capital letter marks shared xset same message body cut_lines upto past grouped fields rule_1 framed rule_2 scan rule_3 tagged line_bad bad_line rule_4 shaped places_103 places_202 find wrong walk rule_18 walked sign_of verdict_of first_wrong right_field rule_8 onward leap days_in is_day year_of real_day dated payment parties tests.looks_tax taxes values_of first_bad rule_9 rule_10 rule_11 rule_12 rule_13 tags_103 tags_202 held_by shape_of cast name_speeches details_speech note_speeches speeches speech.later_text hidden is_cyrillic_inn tax_like breaks_14 unheard speeches_of rule_14 over_most rule_21 grid kind signs.character reads plainly latin_next best bad writes pieces record_of records rest begun is_digits general untaxed sound bad_from judge sheet_sign sheet_form rule_19 opens last broken breaking.breaks lines_for size_for content_lines spread cut_at last_cut run_for run_of run_on unsaid rule_15 crowded rule_16 fields_of message_for lies_in holder_in holder_of capital_or_digit tests.lead_digits tests.ends tests.has_pair tests.is_reference tests.is_purpose tests.is_payment tests.is_own_account tests.is_party_by_bik tests.is_party tests.is_bic tests.is_account tests.is_tax tests.is_rpp tests.is_details tests.is_rest tests.right rpp_dates customer_taxes payer_taxes
worked =
    (refl, refl) also (refl, refl) also (refl, refl) also refl also refl also refl also refl also refl also refl also refl also refl
    also refl also refl also refl also refl also refl also refl also refl also refl also refl also refl also refl
    also refl also refl also refl also refl also refl also refl
    also tt

pub crowded_worked : AllHold Holds crowded_cases
unfolding crowded_cases long short is_in digit capital letter marks shared xset same message body cut_lines upto past grouped fields rule_1 framed rule_2 scan rule_3 tagged line_bad bad_line rule_4 shaped places_103 places_202 find wrong walk rule_18 walked sign_of verdict_of first_wrong right_field rule_8 onward leap days_in is_day year_of real_day dated payment parties tests.looks_tax taxes values_of first_bad rule_9 rule_10 rule_11 rule_12 rule_13 tags_103 tags_202 held_by shape_of cast name_speeches details_speech note_speeches speeches speech.later_text hidden is_cyrillic_inn tax_like breaks_14 unheard speeches_of rule_14 over_most rule_21 grid kind signs.character reads plainly latin_next best bad writes pieces record_of records rest begun is_digits general untaxed sound bad_from judge sheet_sign sheet_form rule_19 opens last broken breaking.breaks lines_for size_for content_lines spread cut_at last_cut run_for run_of run_on unsaid rule_15 crowded rule_16 fields_of message_for lies_in holder_in holder_of capital_or_digit tests.lead_digits tests.ends tests.has_pair tests.is_reference tests.is_purpose tests.is_payment tests.is_own_account tests.is_party_by_bik tests.is_party tests.is_bic tests.is_account tests.is_tax tests.is_rpp tests.is_details tests.is_rest tests.right rpp_dates customer_taxes payer_taxes
crowded_worked =
    refl also refl also refl also refl also refl also refl also refl also refl also refl also refl
    also tt

pub cut_worked : AllHold Holds cut_cases
unfolding cut_cases long short is_in digit capital letter marks shared xset same message body cut_lines upto past grouped fields rule_1 framed rule_2 scan rule_3 tagged line_bad bad_line rule_4 shaped places_103 places_202 find wrong walk rule_18 walked sign_of verdict_of first_wrong right_field rule_8 onward leap days_in is_day year_of real_day dated payment parties tests.looks_tax taxes values_of first_bad rule_9 rule_10 rule_11 rule_12 rule_13 tags_103 tags_202 held_by shape_of cast name_speeches details_speech note_speeches speeches speech.later_text hidden is_cyrillic_inn tax_like breaks_14 unheard speeches_of rule_14 over_most rule_21 grid kind signs.character reads plainly latin_next best bad writes pieces record_of records rest begun is_digits general untaxed sound bad_from judge sheet_sign sheet_form rule_19 opens last broken breaking.breaks lines_for size_for content_lines spread cut_at last_cut run_for run_of run_on unsaid rule_15 crowded rule_16 fields_of message_for lies_in holder_in holder_of capital_or_digit tests.lead_digits tests.ends tests.has_pair tests.is_reference tests.is_purpose tests.is_payment tests.is_own_account tests.is_party_by_bik tests.is_party tests.is_bic tests.is_account tests.is_tax tests.is_rpp tests.is_details tests.is_rest tests.right rpp_dates customer_taxes payer_taxes
cut_worked =
    (refl, refl) also (refl, refl) also (refl, refl) also refl
    also tt

pub new_worked : AllHold Holds new_cases
unfolding new_cases long short is_in digit capital letter marks shared xset same message body cut_lines upto past grouped fields rule_1 framed rule_2 scan rule_3 tagged line_bad bad_line rule_4 shaped places_103 places_202 find wrong walk rule_18 walked sign_of verdict_of first_wrong right_field rule_8 onward leap days_in is_day year_of real_day dated payment parties tests.looks_tax taxes values_of first_bad rule_9 rule_10 rule_11 rule_12 rule_13 tags_103 tags_202 held_by shape_of cast name_speeches details_speech note_speeches speeches speech.later_text hidden is_cyrillic_inn tax_like breaks_14 unheard speeches_of rule_14 over_most rule_21 grid kind signs.character reads plainly latin_next best bad writes pieces record_of records rest begun is_digits general untaxed sound bad_from judge sheet_sign sheet_form rule_19 opens last broken breaking.breaks lines_for size_for content_lines spread cut_at last_cut run_for run_of run_on unsaid rule_15 crowded rule_16 fields_of message_for lies_in holder_in holder_of capital_or_digit tests.lead_digits tests.ends tests.has_pair tests.is_reference tests.is_purpose tests.is_payment tests.is_own_account tests.is_party_by_bik tests.is_party tests.is_bic tests.is_account tests.is_tax tests.is_rpp tests.is_details tests.is_rest tests.right rpp_dates customer_taxes payer_taxes
new_worked =
    refl also refl also refl also refl also refl also refl
    also tt
