-- `roles::clauses::breaks_tax` meets its contract: the first two clauses, then the third. Assumes nothing.
use mathlib.Core.Path.{refl, ap, ◌∙◌}
use mathlib.Core.Bool.{true}
use Rattle.base.proofs.Flags.{pick_yes, pick_no}
use Rattle.contents.specs.Tests.{looks_tax}
use Rattle.roles.specs.Rule14.{is_cyrillic_inn}
use Rattle.roles.proofs.ClauseLaws.{tax_is}
use Rattle.roles.proofs.clauses.breaks_tax.Goals as goal

pub returns-then-breaks_name : goal.returns-then-breaks_name
returns-then-breaks_name c = let a = c.args in pick_yes _ c.breaks_name.ensures c.if-breaks_name.true refl ∙ tax_is a.back.now a.name.now

pub returns-then-looks_tax : goal.returns-then-looks_tax
returns-then-looks_tax c = let a = c.args in
    c.if-looks_tax.true
    ∙ pick_no true c.breaks_name.ensures c.if-breaks_name.false (pick_yes _ (c.looks_tax.ensures ∙ ap looks_tax c.first_characters-f.ensures) c.if-looks_tax.true refl) ∙ tax_is a.back.now a.name.now

pub returns-else-looks_tax : goal.returns-else-looks_tax
returns-else-looks_tax c = let a = c.args in
    pick_no true c.breaks_name.ensures c.if-breaks_name.false (pick_no true (c.looks_tax.ensures ∙ ap looks_tax c.first_characters-f.ensures) c.if-looks_tax.false (c.is_inn.ensures ∙ ap is_cyrillic_inn c.first_characters-f.ensures)) ∙ tax_is a.back.now a.name.now
