-- `desk::desk_read_text` meets its contract. Assumes nothing.
use mathlib.Core.Path.{subst}
use mathlib.Core.Bool.{Bool}
use Rattle.alphabets.proofs.SizeLaws.{read_small}
use Rattle.alphabets.specs.Text.{ReadTo}
use Rattle.desk.specs.Answer.{is_on}
use Rattle.desk.proofs.Sizes.{text_small}
use Rattle.desk.proofs.desk_read_text.Goals as goal

pub word_of-requires : goal.word_of-requires
word_of-requires c =
    let call : let a = c.args in ReadTo (is_on a.sign) a.bank.now a.out.now c.read_text-o.result c.read_text-o.new.out = let a = c.args in subst (λ (s : Bool). ReadTo s a.bank.now a.out.now c.read_text-o.result c.read_text-o.new.out) c.is_on.ensures c.read_text-o.ensures in
    text_small c.read_text-o.result (read_small _ _ _ _ _ call)

pub returns : goal.returns
returns c =
    let call : let a = c.args in ReadTo (is_on a.sign) a.bank.now a.out.now c.read_text-o.result c.read_text-o.new.out = let a = c.args in subst (λ (s : Bool). ReadTo s a.bank.now a.out.now c.read_text-o.result c.read_text-o.new.out) c.is_on.ensures c.read_text-o.ensures in
    record { answer = c.read_text-o.result; call = call; value = c.word_of.ensures }
