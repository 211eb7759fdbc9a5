-- `writer::built::build_on` meets its contract: another type, no cut, or the message with both halves. Assumes nothing.
use borrow.Enum.Refused.{opened}
use mathlib.Core.Path.{sym, ◌∙◌}
use native.Mathlib.Omega.{arith}
use Rattle.writer.specs.Steps.{records_at}
use Rattle.writer.proofs.SeenLaws.{other_nowhere}
use Rattle.writer.proofs.BuildLaws.{seven_within, uncut_unfit, lines_103, cut_103, unfit_103, whole_103}
use Rattle.writer.proofs.built.build_on.Goals as goal

pub returns-in_default : goal.returns-in_default
returns-in_default c = let a = c.args in let s = a.sheet.now in let p = c.requires.sheet_len_bound in uncut_unfit s p.3 p.0 p.1 p.2 c.requires.sheet_value.0 (other_nowhere a.form a.sign (records_at s 7) (opened c.in_default.in_default-own.keys2)) c.requires.sheet_value.1

pub find_cut-requires : goal.find_cut-requires
find_cut-requires c = let s = c.args.sheet.now in let p = c.requires.sheet_len_bound in (p.0, seven_within s p.3, lines_103 s p.3 p.0 p.1 p.2 c.requires.sheet_value.0 c.in-Mt103.is)

pub returns-in_default-find_cut : goal.returns-in_default-find_cut
returns-in_default-find_cut c = let s = c.args.sheet.now in let p = c.requires.sheet_len_bound in unfit_103 s p.3 p.0 p.1 p.2 c.requires.sheet_value.0 c.in-Mt103.is c.find_cut.ensures c.in_default-find_cut.is c.requires.sheet_value.1

pub slice_bounds-put_run-count : goal.slice_bounds-put_run-count
slice_bounds-put_run-count c = let p = c.requires.sheet_len_bound in (cut_103 c.args.sheet.now p.3 p.0 p.1 p.2 c.requires.sheet_value.0 c.in-Mt103.is c.find_cut.ensures c.in-Some.is).known.first

pub slice_bounds-put_run-start : goal.slice_bounds-put_run-start
slice_bounds-put_run-start c = let p = c.requires.sheet_len_bound in (cut_103 c.args.sheet.now p.3 p.0 p.1 p.2 c.requires.sheet_value.0 c.in-Mt103.is c.find_cut.ensures c.in-Some.is).known.first

pub slice_bounds-put_run-end : goal.slice_bounds-put_run-end
slice_bounds-put_run-end c = let p = c.requires.sheet_len_bound in let k = (cut_103 c.args.sheet.now p.3 p.0 p.1 p.2 c.requires.sheet_value.0 c.in-Mt103.is c.find_cut.ensures c.in-Some.is).known in omega (arith, k.second, k.inside)

pub slice_bounds-put_run-count-2 : goal.slice_bounds-put_run-count-2
slice_bounds-put_run-count-2 c = let p = c.requires.sheet_len_bound in (cut_103 c.args.sheet.now p.3 p.0 p.1 p.2 c.requires.sheet_value.0 c.in-Mt103.is c.find_cut.ensures c.in-Some.is).known.second

pub slice_bounds-put_run-start-2 : goal.slice_bounds-put_run-start-2
slice_bounds-put_run-start-2 c = let p = c.requires.sheet_len_bound in (cut_103 c.args.sheet.now p.3 p.0 p.1 p.2 c.requires.sheet_value.0 c.in-Mt103.is c.find_cut.ensures c.in-Some.is).known.second

pub slice_bounds-put_run-end-2 : goal.slice_bounds-put_run-end-2
slice_bounds-put_run-end-2 c = let p = c.requires.sheet_len_bound in (cut_103 c.args.sheet.now p.3 p.0 p.1 p.2 c.requires.sheet_value.0 c.in-Mt103.is c.find_cut.ensures c.in-Some.is).known.inside

pub put_run-run-requires : goal.put_run-run-requires
put_run-run-requires c = let s = c.args.sheet.now in
    let p = c.requires.sheet_len_bound in
    let k = (cut_103 s p.3 p.0 p.1 p.2 c.requires.sheet_value.0 c.in-Mt103.is c.find_cut.ensures c.in-Some.is).known in record {
      s_len_bound = (p.0, seven_within s p.3, lines_103 s p.3 p.0 p.1 p.2 c.requires.sheet_value.0 c.in-Mt103.is);
      halves = (k.halves, k.each, k.fits);
    }

pub returns : goal.returns
returns c = let s = c.args.sheet.now in
    let p = c.requires.sheet_len_bound in
    let k = cut_103 s p.3 p.0 p.1 p.2 c.requires.sheet_value.0 c.in-Mt103.is c.find_cut.ensures c.in-Some.is in
    whole_103 s p.3 p.0 p.1 p.2 c.requires.sheet_value.0 c.in-Mt103.is (sym c.in-Some.is ∙ c.find_cut.ensures) k c.put_run-run.ensures.0
