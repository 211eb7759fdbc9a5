-- `sheets::built::put_record` meets its contract. Assumes nothing.
use lib.ListN.{length}
use Rattle.fields.specs.Lines.{lines_in}
use Rattle.sheets.specs.Steps.{rest_text}
use Rattle.sheets.proofs.FieldLaws.{tag_some, tag_within, field_small, record_put, tag_place}
use Rattle.sheets.proofs.built.put_record.Goals as goal

pub returns : goal.returns
returns c = let s = c.requires in let a = c.args in let t = c.put_tag-t in let p = c.put_content-e in (field_small a.f.now a.at t.result (length a.r.now.rest.now) (tag_some t.ensures.1) (tag_within s.0 t.ensures.0) p.ensures.0, record_put a.r.now.back.now a.r.now.sign (rest_text a.r.now.back.now a.r.now.sign (lines_in a.r.now.rest.now)) a.f.now a.shape t.ensures.0 t.ensures.3 (tag_place a.f.now a.at t.result (tag_some t.ensures.1) (tag_within s.0 t.ensures.0)) p.ensures.1 c.put.ensures)
