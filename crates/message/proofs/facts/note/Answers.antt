-- `message::facts::note` meets its contract. Assumes nothing.
use mathlib.Core.Path.{sym, ap, ◌∙◌}
use mathlib.Core.Bool.{Bool, ◌||◌}
use Rattle.std.specs.Option.{option_or}
use Rattle.fields.specs.Shapes.{unpack}
use Rattle.message.specs.Facts.{with_found}
use Rattle.message.proofs.FactLaws.{made_with}
use Rattle.message.proofs.facts.note.Goals as goal

pub returns : goal.returns
returns c = let a = c.args in let f = a.f.now in let x = c.in-Some.x in
    made_with f a.s (unpack a.tag) x (c.or-f.ensures ∙ ap (option_or f.day) c.within.ensures) (c.or-f-2.ensures ∙ ap (option_or f.currency) c.within-2.ensures)
    (c.or-f-3.ensures ∙ ap (option_or f.party) c.within-3.ensures) (ap (λ (b : Bool). f.payer || b) c.is_kpp.ensures) (ap (λ (b : Bool). f.payee || b) c.is_kpp-2.ensures)
    ∙ sym (ap (with_found f a.s (unpack a.tag)) c.in-Some.is)
