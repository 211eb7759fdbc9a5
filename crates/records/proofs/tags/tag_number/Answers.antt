-- `records::tags::tag_number` meets its contract: by the tag's length. Assumes nothing.
use native.Mathlib.Omega.{arith}
use Rattle.records.proofs.PartLaws.{tag_other}
use Rattle.records.proofs.tags.tag_number.Goals as goal

pub returns-in_default : goal.returns-in_default
returns-in_default c = let h = c.in_default.len_below in tag_other c.args.t.now (λ e. omega (arith, h, e)) (λ e. omega (arith, h, e))

pub returns-in_default-2 : goal.returns-in_default-2
returns-in_default-2 c = let h = c.in_default.len_at_least in tag_other c.args.t.now (λ e. omega (arith, h, e)) (λ e. omega (arith, h, e))
