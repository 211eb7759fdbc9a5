-- `contents::lines::party_line` meets its contract. Assumes nothing.
use Rattle.base.proofs.SaysLaws.{said, denied}
use Rattle.contents.proofs.BankLaws.{bik_tests, account_tests, bik_long, not_party}
use Rattle.contents.proofs.lines.party_line.Goals as goal

pub returns-then-not-are_digits : goal.returns-then-not-are_digits
returns-then-not-are_digits c = let l = c.args.l.now in not_party l (λ b a t. denied c.are_digits-2.ensures c.if-not-are_digits.true-raw (bik_tests b a l t).nine) (λ a t. c.if-l-eq-BY_ACCOUNT.false (account_tests a l t).0)

pub returns-then-not-has_word-4 : goal.returns-then-not-has_word-4
returns-then-not-has_word-4 c = let l = c.args.l.now in not_party l (λ b a t. denied c.has_word-4.ensures c.if-not-has_word-4.true-raw ((bik_tests b a l t).tail c.if-l-eq-BY_BIK.false).1) (λ a t. c.if-l-eq-BY_ACCOUNT.false (account_tests a l t).0)

pub returns-then-not-are_digits-2 : goal.returns-then-not-are_digits-2
returns-then-not-are_digits-2 c = let l = c.args.l.now in not_party l (λ b a t. denied c.are_digits-3.ensures c.if-not-are_digits-2.true-raw ((bik_tests b a l t).tail c.if-l-eq-BY_BIK.false).2) (λ a t. c.if-l-eq-BY_ACCOUNT.false (account_tests a l t).0)

pub returns : goal.returns
returns c = bik_long c.args.l.now (said c.has_word-2.ensures c.if-not-has_word-2.false-raw) (said c.has_word-3.ensures c.if-not-has_word-3.false-raw) (said c.are_digits-2.ensures c.if-not-are_digits.false-raw) c.if-l-ne-BY_BOTH.false (said c.has_word-4.ensures c.if-not-has_word-4.false-raw) (said c.are_digits-3.ensures c.if-not-are_digits-2.false-raw)
