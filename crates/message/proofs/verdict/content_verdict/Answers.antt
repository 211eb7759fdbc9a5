-- `message::verdict::content_verdict` meets its contract. Assumes nothing.
use mathlib.Core.Path.{refl}
use Rattle.fields.specs.Field.{fields}
use Rattle.message.proofs.JudgeLaws.{read_wrong, read_right, right_contents, content_refused, content_inner}
use Rattle.message.proofs.verdict.content_verdict.Goals as goal

pub inner_verdict-requires : goal.inner_verdict-requires
inner_verdict-requires c = let f = c.args.f.now in
    let r = read_right f.form _ (fields f.message.now) c.read_fields.ensures c.in-Ok.is in
    (r.1, right_contents f.form f.message.now f.signed refl r.0)

pub returns-in-Err : goal.returns-in-Err
returns-in-Err c = let f = c.args.f.now in
    content_refused f.form f.message.now f.signed refl (read_wrong f.form _ (fields f.message.now) c.read_fields.ensures c.in-Err.is)

pub returns-in-Ok : goal.returns-in-Ok
returns-in-Ok c = let f = c.args.f.now in
    content_inner f.form f.message.now f.signed refl (read_right f.form _ (fields f.message.now) c.read_fields.ensures c.in-Ok.is).0 c.inner_verdict.ensures
