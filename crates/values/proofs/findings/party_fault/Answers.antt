-- `values::findings::party_fault` meets its contract. Assumes nothing.
use mathlib.Core.Path.{sym, ◌∙◌}
use native.Mathlib.Omega.{arith}
use Rattle.base.proofs.SaysLaws.{says_same, says_text}
use Rattle.fields.specs.Lines.{lines_in}
use Rattle.contents.specs.Answers.{cut}
use Rattle.values.proofs.FoundLaws.{place_unless}
use Rattle.values.proofs.FrontLaws.{party_account_lem, party_alone, party_pair}
use Rattle.values.proofs.findings.party_fault.Goals as goal

pub returns-then-not-account : goal.returns-then-not-account
returns-then-not-account c = sym (party_alone c.args.c.now c.in-Bik.account (rw c.in-Bik.is at c.requires) c.if-not-account.true)

pub slice_bounds-is_just-end : goal.slice_bounds-is_just-end
slice_bounds-is_just-end c = omega (arith, party_pair c.args.c.now c.in-Bik.account (rw c.in-Bik.is at c.requires) c.if-not-account.false)

pub slice_bounds-is_just-end-in-Bik : goal.slice_bounds-is_just-end-in-Bik
slice_bounds-is_just-end-in-Bik c = omega (arith, party_pair c.args.c.now c.in-Bik.account (rw c.in-Bik.is at c.requires) c.if-not-account.false)

pub returns-in-Account : goal.returns-in-Account
returns-in-Account c = sym (party_account_lem (lines_in c.args.c.now) (rw c.in-Account.is at c.requires))

pub returns-else-not-account : goal.returns-else-not-account
returns-else-not-account c = let s = c.args.c.now in
    place_unless 0 c.then_some.ensures (says_same c.is_just-same.ensures (says_text (cut 10 3 s) (cut 31 3 s)))
    ∙ sym (party_pair s c.in-Bik.account (rw c.in-Bik.is at c.requires) c.if-not-account.false).1
