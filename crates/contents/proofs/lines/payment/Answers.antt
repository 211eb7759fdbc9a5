-- `contents::lines::payment` meets its contract. Assumes nothing.
use Rattle.base.proofs.SaysLaws.{said, denied}
use native.Mathlib.Omega.{arith}
use Rattle.contents.proofs.PaidLaws.{paid_tests, paid_passes, paid_made}
use Rattle.contents.proofs.lines.payment.Goals as goal

pub returns-then-not-are_digits : goal.returns-then-not-are_digits
returns-then-not-are_digits c = λ a b x y t. denied c.are_digits.ensures c.if-not-are_digits.true-raw (paid_tests a b x y c.args.l.now t).day

pub returns-then-not-are_capitals : goal.returns-then-not-are_capitals
returns-then-not-are_capitals c = λ a b x y t. denied c.are_capitals.ensures c.if-not-are_capitals.true-raw (paid_tests a b x y c.args.l.now t).money

pub returns-then-l-comma : goal.returns-then-l-comma
returns-then-l-comma c = λ a b x y t. absurd (omega (arith, (paid_passes a b x y c.args.l.now c.digits_from-whole.result c.digits_from-whole.ensures t).there, c.if-l-comma.true))

pub returns-then-not-has_word : goal.returns-then-not-has_word
returns-then-not-has_word c = λ a b x y t. denied c.has_word.ensures c.if-not-has_word.true-raw (paid_passes a b x y c.args.l.now c.digits_from-whole.result c.digits_from-whole.ensures t).comma

pub returns-then-not-are_digits-2 : goal.returns-then-not-are_digits-2
returns-then-not-are_digits-2 c = λ a b x y t. denied c.are_digits-2.ensures c.if-not-are_digits-2.true-raw (paid_passes a b x y c.args.l.now c.digits_from-whole.result c.digits_from-whole.ensures t).parts

pub returns : goal.returns
returns c = paid_made c.digits_from-whole.result c.args.l.now (record {
  least = c.if-l-lt-SHORTEST_PAID.false;
  most = c.if-l-gt-LONGEST_PAID.false;
  day = said c.are_digits.ensures c.if-not-are_digits.false-raw;
  money = said c.are_capitals.ensures c.if-not-are_capitals.false-raw;
  run = c.digits_from-whole.ensures;
  some = c.if-whole-lt1.false;
  there = c.if-l-comma.false;
  few = c.if-decimals-gt-MOST_DECIMALS.false;
  comma = said c.has_word.ensures c.if-not-has_word.false-raw;
  parts = said c.are_digits-2.ensures c.if-not-are_digits-2.false-raw;
})
