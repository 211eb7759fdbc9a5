-- `sheets::built::put_field` meets its contract: a record, or nothing. Assumes nothing.
use native.Mathlib.Omega.{arith}
use mathlib.Core.Path.{◌∙◌}
use Rattle.fields.specs.Lines.{lines_in}
use Rattle.fields.proofs.PackLaws.{packed_front}
use Rattle.sheets.specs.Steps.{rest_text}
use Rattle.sheets.proofs.FieldLaws.{field_none, field_some}
use Rattle.sheets.proofs.built.put_field.Goals as goal

pub returns-then-is_left_out : goal.returns-then-is_left_out
returns-then-is_left_out c = let a = c.args in (omega arith, field_none a.r.now.back.now a.r.now.sign (rest_text a.r.now.back.now a.r.now.sign (lines_in a.r.now.rest.now)) a.f.now a.form (c.unwrap_or.ensures ∙ packed_front c.args.f.now c.line_tag.ensures) c.shape_of-shape.ensures c.requires.0 c.is_left_out.ensures c.if-is_left_out.true)

pub returns : goal.returns
returns c = let a = c.args in (c.put_record.ensures.0, field_some a.r.now.back.now a.r.now.sign (rest_text a.r.now.back.now a.r.now.sign (lines_in a.r.now.rest.now)) a.f.now a.form (c.unwrap_or.ensures ∙ packed_front c.args.f.now c.line_tag.ensures) c.shape_of-shape.ensures c.requires.0 c.is_left_out.ensures c.if-is_left_out.false c.put_record.ensures.1)
