-- `values::findings::found_in` meets its contract: each content by what its reader says. Assumes nothing.
use mathlib.Core.Path.{refl}
use Rattle.fields.specs.Lines.{lines_in}
use Rattle.contents.specs.declared.Content.TheVariants as holds
use Rattle.values.specs.Values.{values_of}
use Rattle.values.proofs.FoundLaws.{found_as, line_asks, plain_asks, bank_held, customer_held, payer_held, bank_by_bic, bank_by_name, rest_dated, details_dated, rpp_and_rest, rpp_and_details}
use Rattle.values.proofs.findings.found_in.Goals as goal

pub note_found-requires : goal.note_found-requires
note_found-requires c = let r = c.in_ok-rpp_and_rest-in-DocumentAndRest in rest_dated (lines_in c.args.c.now) r.field-0 r.ensures

pub note_found-requires-in-DocumentAndDetails : goal.note_found-requires-in-DocumentAndDetails
note_found-requires-in-DocumentAndDetails c = let a = c.args in let r = c.in_ok-rpp_and_details-in-DocumentAndDetails in details_dated a.sign (lines_in a.c.now) r.field-0 r.ensures

pub line_found-requires : goal.line_found-requires
unfolding values_of
line_found-requires c = line_asks holds.Reference c.args.c.now c.in-Reference.is (λ t ls. refl) (λ sign ls. (λ x. x, λ x. x)) c.is_reference.ensures

pub line_found-requires-in-Related : goal.line_found-requires-in-Related
unfolding values_of
line_found-requires-in-Related c = line_asks holds.Related c.args.c.now c.in-Related.is (λ t ls. refl) (λ sign ls. (λ x. x, λ x. x)) c.is_just.ensures

pub line_found-requires-in-Operation : goal.line_found-requires-in-Operation
unfolding values_of
line_found-requires-in-Operation c = line_asks holds.Operation c.args.c.now c.in-Operation.is (λ t ls. refl) (λ sign ls. (λ x. x, λ x. x)) c.is_just-in-Operation.ensures

pub line_found-requires-in-Purpose : goal.line_found-requires-in-Purpose
unfolding values_of
line_found-requires-in-Purpose c = line_asks holds.Purpose c.args.c.now c.in-Purpose.is (λ t ls. refl) (λ sign ls. (λ x. x, λ x. x)) c.is_purpose.ensures

pub line_found-requires-in-OwnAccount : goal.line_found-requires-in-OwnAccount
unfolding values_of
line_found-requires-in-OwnAccount c = line_asks holds.OwnAccount c.args.c.now c.in-OwnAccount.is (λ t ls. refl) (λ sign ls. (λ x. x, λ x. x)) c.is_own_account.ensures

pub line_found-requires-in-Charges : goal.line_found-requires-in-Charges
unfolding values_of
line_found-requires-in-Charges c = line_asks holds.Charges c.args.c.now c.in-Charges.is (λ t ls. refl) (λ sign ls. (λ x. x, λ x. x)) c.is_just-in-Charges.ensures

pub plain_found-requires : goal.plain_found-requires
unfolding values_of
plain_found-requires c = let a = c.args in plain_asks holds.AccountAndBic a.sign (lines_in a.c.now) c.in-AccountAndBic.is (λ t ls. refl) c.account_and_bic.ensures

pub plain_found-requires-in-Details : goal.plain_found-requires-in-Details
unfolding values_of
plain_found-requires-in-Details c = let a = c.args in plain_asks holds.Details a.sign (lines_in a.c.now) c.in-Details.is (λ t ls. refl) c.details.ensures

pub plain_found-requires-in-Regulatory : goal.plain_found-requires-in-Regulatory
unfolding values_of
plain_found-requires-in-Regulatory c = let a = c.args in plain_asks holds.Regulatory a.sign (lines_in a.c.now) c.in-Regulatory.is (λ t ls. refl) c.regulatory.ensures

pub returns-in-Payment : goal.returns-in-Payment
returns-in-Payment c = rw c.in-Payment.is (c.paid_found.ensures c.args.sign)

pub returns-in_ok-payer-in-Payer : goal.returns-in_ok-payer-in-Payer
returns-in_ok-payer-in-Payer c = let a = c.args in let ls = lines_in a.c.now in let r = c.in_ok-payer-in-Payer in
    found_as holds.Payer a.sign ls c.in-Payer.is c.held_found.ensures (payer_held a.sign ls r.field-0 r.ensures)

pub returns-in_ok-bank_by_bic-in-BankByBic : goal.returns-in_ok-bank_by_bic-in-BankByBic
returns-in_ok-bank_by_bic-in-BankByBic c = let a = c.args in let ls = lines_in a.c.now in let r = c.in_ok-bank_by_bic-in-BankByBic in
    found_as holds.BankByBic a.sign ls c.in-BankByBic.is c.bank_found.ensures (bank_by_bic a.sign ls r.field-0 r.ensures)

pub returns-in_ok-bank_by_name-in-BankByName : goal.returns-in_ok-bank_by_name-in-BankByName
returns-in_ok-bank_by_name-in-BankByName c = let a = c.args in let ls = lines_in a.c.now in let r = c.in_ok-bank_by_name-in-BankByName in
    found_as holds.BankByName a.sign ls c.in-BankByName.is c.party_found.ensures (bank_by_name a.sign ls r.field-0 r.ensures)

pub returns-in_ok-customer-in-BeneficiaryBank : goal.returns-in_ok-customer-in-BeneficiaryBank
returns-in_ok-customer-in-BeneficiaryBank c = let a = c.args in let ls = lines_in a.c.now in let r = c.in_ok-customer-in-BeneficiaryBank in
    found_as holds.BeneficiaryBank a.sign ls c.in-BeneficiaryBank.is c.held_found-in-BeneficiaryBank.ensures (bank_held a.sign ls r.field-0 r.ensures)

pub returns-in_ok-customer-in-Beneficiary : goal.returns-in_ok-customer-in-Beneficiary
returns-in_ok-customer-in-Beneficiary c = let a = c.args in let ls = lines_in a.c.now in let r = c.in_ok-customer-in-Beneficiary in
    found_as holds.Beneficiary a.sign ls c.in-Beneficiary.is c.held_found-in-Beneficiary.ensures (customer_held a.sign ls r.field-0 r.ensures)

pub returns-in_ok-rpp_and_rest-in-DocumentAndRest : goal.returns-in_ok-rpp_and_rest-in-DocumentAndRest
returns-in_ok-rpp_and_rest-in-DocumentAndRest c = let a = c.args in let ls = lines_in a.c.now in let r = c.in_ok-rpp_and_rest-in-DocumentAndRest in
    found_as holds.DocumentAndRest a.sign ls c.in-DocumentAndRest.is c.note_found.ensures (rpp_and_rest a.sign ls r.field-0 r.ensures)

pub returns-in_ok-rpp_and_details-in-DocumentAndDetails : goal.returns-in_ok-rpp_and_details-in-DocumentAndDetails
returns-in_ok-rpp_and_details-in-DocumentAndDetails c = let a = c.args in let ls = lines_in a.c.now in let r = c.in_ok-rpp_and_details-in-DocumentAndDetails in
    found_as holds.DocumentAndDetails a.sign ls c.in-DocumentAndDetails.is c.note_found-in-DocumentAndDetails.ensures (rpp_and_details a.sign ls r.field-0 r.ensures)

pub returns-in-Reference : goal.returns-in-Reference
returns-in-Reference c = c.line_found.ensures c.args.sign

pub returns-in-Related : goal.returns-in-Related
returns-in-Related c = c.line_found-in-Related.ensures c.args.sign

pub returns-in-Operation : goal.returns-in-Operation
returns-in-Operation c = c.line_found-in-Operation.ensures c.args.sign

pub returns-in-Purpose : goal.returns-in-Purpose
returns-in-Purpose c = c.line_found-in-Purpose.ensures c.args.sign

pub returns-in-OwnAccount : goal.returns-in-OwnAccount
returns-in-OwnAccount c = c.line_found-in-OwnAccount.ensures c.args.sign

pub returns-in-Charges : goal.returns-in-Charges
returns-in-Charges c = c.line_found-in-Charges.ensures c.args.sign
