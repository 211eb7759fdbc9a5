-- `sheets::parts::digits_of` meets its contract. Assumes nothing.
use Rattle.sheets.specs.Gather.{code_digits}
use lib.ListN.{take}
use mathlib.Core.Bool.{Bool}
use mathlib.Core.Path.{sym, ap, ◌∙◌}
use Rattle.sheets.proofs.parts.digits_of.Goals as goal

pub returns-then-sign : goal.returns-then-sign
returns-then-sign c = c.front.ensures ∙ ap (take 5) c.past.ensures ∙ ap (λ (b : Bool). code_digits b c.args.l.now) (sym c.if-sign.true)

pub returns : goal.returns
returns c = c.front-2.ensures ∙ ap (take 5) c.past-2.ensures ∙ ap (λ (b : Bool). code_digits b c.args.l.now) (sym c.if-sign.false)
