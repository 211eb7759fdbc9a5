-- `answers::programs::names_type` meets its contract: byte by byte. Assumes nothing.
use Rattle.answers.proofs.TypeLaws.{untyped_short, untyped_first, untyped_second, untyped_third, typed_last}
use Rattle.answers.proofs.programs.names_type.Goals as goal

pub returns-then-i-lt4 : goal.returns-then-i-lt4
returns-then-i-lt4 c = untyped_short c.args.i.now c.if-i-lt4.true

pub returns-then-not-is_digit : goal.returns-then-not-is_digit
returns-then-not-is_digit c = untyped_first c.args.i.now c.is_digit.ensures c.if-not-is_digit.true-raw

pub returns-then-not-is_digit-2 : goal.returns-then-not-is_digit-2
returns-then-not-is_digit-2 c = untyped_second c.args.i.now c.is_digit.ensures c.if-not-is_digit.false-raw c.is_digit-2.ensures c.if-not-is_digit-2.true-raw

pub returns-then-not-is_digit-3 : goal.returns-then-not-is_digit-3
returns-then-not-is_digit-3 c = untyped_third c.args.i.now c.is_digit.ensures c.if-not-is_digit.false-raw c.is_digit-2.ensures c.if-not-is_digit-2.false-raw c.is_digit-3.ensures c.if-not-is_digit-3.true-raw

pub returns : goal.returns
returns c = typed_last c.args.i.now c.is_digit.ensures c.if-not-is_digit.false-raw c.is_digit-2.ensures c.if-not-is_digit-2.false-raw c.is_digit-3.ensures c.if-not-is_digit-3.false-raw
