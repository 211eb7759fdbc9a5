-- `contents::lines::rpp_line` meets its contract. Assumes nothing.
use Rattle.base.proofs.SaysLaws.{said, denied}
use native.Mathlib.Omega.{arith}
use Rattle.contents.proofs.RppLaws.{rpp_passes, rpp_short, rpp_long}
use Rattle.contents.proofs.lines.rpp_line.Goals as goal

pub returns-then-l-i : goal.returns-then-l-i
returns-then-l-i c = λ x. absurd (omega (arith, (rpp_passes c.args.l.now c.digits_from-number.result c.digits_from-number.ensures x).there, c.if-l-i.true))

pub returns-then-not-is_rpp_body : goal.returns-then-not-is_rpp_body
returns-then-not-is_rpp_body c = λ x. denied c.is_rpp_body.ensures c.if-not-is_rpp_body.true-raw (rpp_passes c.args.l.now c.digits_from-number.result c.digits_from-number.ensures x).body

pub returns-then-not-ends_in : goal.returns-then-not-ends_in
returns-then-not-ends_in c = λ x. denied c.ends_in.ensures c.if-not-ends_in.true-raw ((rpp_passes c.args.l.now c.digits_from-number.result c.digits_from-number.ensures x).short c.if-l-end.true)

pub returns-then-l-end : goal.returns-then-l-end
returns-then-l-end c = rpp_short c.digits_from-number.result c.args.l.now (said c.has_word.ensures c.if-not-has_word.false-raw) c.digits_from-number.ensures c.if-number-lt1.false c.if-l-i.false (said c.is_rpp_body.ensures c.if-not-is_rpp_body.false-raw) (said c.ends_in.ensures c.if-not-ends_in.false-raw)

pub returns-then-not-is_pointed : goal.returns-then-not-is_pointed
returns-then-not-is_pointed c = λ x. denied c.is_pointed.ensures c.if-not-is_pointed.true-raw ((rpp_passes c.args.l.now c.digits_from-number.result c.digits_from-number.ensures x).long c.if-l-end.false).0

pub returns-then-not-ends_in-2 : goal.returns-then-not-ends_in-2
returns-then-not-ends_in-2 c = λ x. denied c.ends_in-2.ensures c.if-not-ends_in-2.true-raw ((rpp_passes c.args.l.now c.digits_from-number.result c.digits_from-number.ensures x).long c.if-l-end.false).1

pub returns : goal.returns
returns c = rpp_long c.digits_from-number.result c.args.l.now (said c.has_word.ensures c.if-not-has_word.false-raw) c.digits_from-number.ensures c.if-number-lt1.false c.if-l-i.false (said c.is_rpp_body.ensures c.if-not-is_rpp_body.false-raw) c.if-l-end.false (said c.is_pointed.ensures c.if-not-is_pointed.false-raw) (said c.ends_in-2.ensures c.if-not-ends_in-2.false-raw)
