-- `writer::holder::record_at` meets its contract: a sheet that is refused, or one gone over from its second record on, with its details cut or not. Assumes nothing.
use mathlib.Core.Path.{◌∙◌}
use native.Mathlib.Omega.{arith}
use Rattle.writer.proofs.BuildLaws.{built_stopped, built_whole}
use Rattle.writer.proofs.HolderLaws.{holder_refused, built_within, built_seven, built_good, built_texts, built_details, built_lines, built_cut, holder_built, holder_run}
use Rattle.writer.proofs.holder.record_at.Goals as goal

pub returns-in_default : goal.returns-in_default
returns-in_default c = let s = c.args.sheet.now in holder_refused s c.args.place (built_stopped s c.build.ensures c.in_default.is)

pub find_holder-requires : goal.find_holder-requires
find_holder-requires c = let s = c.args.sheet.now in let b = built_whole s c.build.ensures c.in-Ok.is in (built_within s b, built_seven s b, built_good s b, built_texts s b, built_details s b c.in-None.is)

pub slice_bounds-put_run-count : goal.slice_bounds-put_run-count
slice_bounds-put_run-count c = let s = c.args.sheet.now in (built_cut s (built_whole s c.build.ensures c.in-Ok.is) c.in-Some.is).known.first

pub slice_bounds-put_run-start : goal.slice_bounds-put_run-start
slice_bounds-put_run-start c = let s = c.args.sheet.now in (built_cut s (built_whole s c.build.ensures c.in-Ok.is) c.in-Some.is).known.first

pub slice_bounds-put_run-end : goal.slice_bounds-put_run-end
slice_bounds-put_run-end c = let s = c.args.sheet.now in let k = (built_cut s (built_whole s c.build.ensures c.in-Ok.is) c.in-Some.is).known in omega (arith, k.second, k.inside)

pub slice_bounds-put_run-count-in-Some : goal.slice_bounds-put_run-count-in-Some
slice_bounds-put_run-count-in-Some c = let s = c.args.sheet.now in (built_cut s (built_whole s c.build.ensures c.in-Ok.is) c.in-Some.is).known.second

pub slice_bounds-put_run-start-in-Some : goal.slice_bounds-put_run-start-in-Some
slice_bounds-put_run-start-in-Some c = let s = c.args.sheet.now in (built_cut s (built_whole s c.build.ensures c.in-Ok.is) c.in-Some.is).known.second

pub slice_bounds-put_run-end-in-Some : goal.slice_bounds-put_run-end-in-Some
slice_bounds-put_run-end-in-Some c = let s = c.args.sheet.now in (built_cut s (built_whole s c.build.ensures c.in-Ok.is) c.in-Some.is).known.inside

pub put_run-run-requires : goal.put_run-run-requires
put_run-run-requires c = let s = c.args.sheet.now in
    let b = built_whole s c.build.ensures c.in-Ok.is in
    let k = (built_cut s b c.in-Some.is).known in record { s_len_bound = (built_within s b, built_seven s b, built_lines s b c.in-Some.is); halves = (k.halves, k.each, k.fits) }

pub returns-in-None : goal.returns-in-None
returns-in-None c = let s = c.args.sheet.now in let b = built_whole s c.build.ensures c.in-Ok.is in c.find_holder.ensures ∙ holder_built s b c.in-None.is c.args.place

pub returns-in-Some : goal.returns-in-Some
returns-in-Some c = let s = c.args.sheet.now in let b = built_whole s c.build.ensures c.in-Ok.is in holder_run s b c.in-Some.is c.args.place c.put_run-run.ensures.1
