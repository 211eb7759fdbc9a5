-- `message::verdict::inner_verdict` meets its contract. Assumes nothing.
use Rattle.std.proofs.lemmas.Result.{err_from_is_err_and}
use Rattle.fields.specs.Field.{fields}
use Rattle.message.proofs.JudgeLaws.{inner_refused, inner_texts, inner_lengths}
use Rattle.message.proofs.verdict.inner_verdict.Goals as goal

pub returns-in_err-values_rule : goal.returns-in_err-values_rule
returns-in_err-values_rule c = let f = c.args.f.now in
    let p = err_from_is_err_and c.from_residual.result c.from_residual.ensures.1 in
    rw (p.1, p.2) (inner_refused f.form (fields f.message.now) c.requires.0 c.values_rule.ensures c.in_err-values_rule.was)

pub returns-in_err-texts_rule : goal.returns-in_err-texts_rule
returns-in_err-texts_rule c = let f = c.args.f.now in
    let p = err_from_is_err_and c.from_residual-in_err-texts_rule.result c.from_residual-in_err-texts_rule.ensures.1 in
    rw (p.1, p.2) (inner_texts f.form (fields f.message.now) c.requires.0 c.values_rule.ensures c.in_ok-values_rule.was c.texts_rule.ensures c.in_err-texts_rule.was)

pub returns : goal.returns
returns c = let f = c.args.f.now in inner_lengths f.form (fields f.message.now) c.requires.0 c.values_rule.ensures c.in_ok-values_rule.was c.texts_rule.ensures c.in_ok-texts_rule.was c.lengths_rule.ensures
