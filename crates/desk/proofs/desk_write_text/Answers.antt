-- `desk::desk_write_text` meets its contract. Assumes nothing.
use mathlib.Core.Path.{subst}
use mathlib.Core.Bool.{Bool}
use Rattle.alphabets.proofs.SizeLaws.{write_small}
use Rattle.alphabets.specs.Text.{WrittenTo}
use Rattle.desk.specs.Answer.{is_on}
use Rattle.desk.proofs.Sizes.{text_small}
use Rattle.desk.proofs.desk_write_text.Goals as goal

pub word_of-requires : goal.word_of-requires
word_of-requires c =
    let call : let a = c.args in WrittenTo (is_on a.sign) a.text.now a.out.now c.write_text-o.result c.write_text-o.new.out = let a = c.args in subst (λ (s : Bool). WrittenTo s a.text.now a.out.now c.write_text-o.result c.write_text-o.new.out) c.is_on.ensures c.write_text-o.ensures in
    text_small c.write_text-o.result (write_small _ _ _ _ _ call)

pub returns : goal.returns
returns c =
    let call : let a = c.args in WrittenTo (is_on a.sign) a.text.now a.out.now c.write_text-o.result c.write_text-o.new.out = let a = c.args in subst (λ (s : Bool). WrittenTo s a.text.now a.out.now c.write_text-o.result c.write_text-o.new.out) c.is_on.ensures c.write_text-o.ensures in
    record { answer = c.write_text-o.result; call = call; value = c.word_of.ensures }
