-- `message::facts::mark` meets its contract. Assumes nothing.
use mathlib.Core.Path.{sym, ap, ◌∙◌}
use mathlib.Core.Bool.{Bool, ◌||◌}
use Rattle.std.specs.Option.{option_or}
use Rattle.base.specs.Quoted.{bytes}
use Rattle.fields.specs.Shapes.{pack, unpack}
use Rattle.fields.proofs.PackLaws.{same_unpack}
use Rattle.message.specs.Facts.{place_if}
use Rattle.message.proofs.FactLaws.{made_marked, place_made}
use Rattle.message.proofs.facts.mark.Goals as goal

pub returns : goal.returns
returns c = let a = c.args in let f = a.f.now in
    made_marked f a.o (unpack a.tag)
    (c.or-f.ensures ∙ ap (option_or f.bank) (place_made _ a.o c.then_some.ensures ∙ ap (λ (b : Bool). place_if b a.o) c.is_56.ensures))
    (ap (λ (b : Bool). f.through || b) c.is_57.ensures)
    (c.or-f-2.ensures ∙ ap (option_or f.purpose) (place_made _ a.o c.then_some-2.ensures ∙ ap (λ (b : Bool). place_if b a.o) (sym (same_unpack a.tag (pack (bytes "26T"))))))
    (c.or-f-3.ensures ∙ ap (option_or f.budget) (place_made _ a.o c.then_some-3.ensures ∙ ap (λ (b : Bool). place_if b a.o) (sym (same_unpack a.tag (pack (bytes "77B"))))))
