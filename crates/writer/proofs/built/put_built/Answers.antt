-- `writer::built::put_built` meets its contract: with its details cut or not. Assumes nothing.
use native.Mathlib.Omega.{arith}
use Rattle.writer.proofs.HolderLaws.{built_within, built_seven, built_good, built_lines, built_cut, put_built, put_run_built}
use Rattle.writer.proofs.built.put_built.Goals as goal

pub put_message-requires : goal.put_message-requires
put_message-requires c = let s = c.args.sheet.now in let b = c.requires.0 in (built_within s b, built_seven s b, built_good s b)

pub slice_bounds-put_run-count : goal.slice_bounds-put_run-count
slice_bounds-put_run-count c = (built_cut c.args.sheet.now c.requires.0 c.in-Some.is).known.first

pub slice_bounds-put_run-start : goal.slice_bounds-put_run-start
slice_bounds-put_run-start c = (built_cut c.args.sheet.now c.requires.0 c.in-Some.is).known.first

pub slice_bounds-put_run-end : goal.slice_bounds-put_run-end
slice_bounds-put_run-end c = let k = (built_cut c.args.sheet.now c.requires.0 c.in-Some.is).known in omega (arith, k.second, k.inside)

pub slice_bounds-put_run-count-in-Some : goal.slice_bounds-put_run-count-in-Some
slice_bounds-put_run-count-in-Some c = (built_cut c.args.sheet.now c.requires.0 c.in-Some.is).known.second

pub slice_bounds-put_run-start-in-Some : goal.slice_bounds-put_run-start-in-Some
slice_bounds-put_run-start-in-Some c = (built_cut c.args.sheet.now c.requires.0 c.in-Some.is).known.second

pub slice_bounds-put_run-end-in-Some : goal.slice_bounds-put_run-end-in-Some
slice_bounds-put_run-end-in-Some c = (built_cut c.args.sheet.now c.requires.0 c.in-Some.is).known.inside

pub put_run-requires : goal.put_run-requires
put_run-requires c = let s = c.args.sheet.now in
    let b = c.requires.0 in
    let k = (built_cut s b c.in-Some.is).known in record { s_len_bound = (built_within s b, built_seven s b, built_lines s b c.in-Some.is); halves = (k.halves, k.each, k.fits) }

pub returns-in-None : goal.returns-in-None
returns-in-None c = put_built c.args.sheet.now c.requires.0 c.in-None.is c.put_message.ensures c.requires.1

pub returns-in-Some : goal.returns-in-Some
returns-in-Some c = put_run_built c.args.sheet.now c.requires.0 c.in-Some.is c.put_run.ensures.0 c.requires.1
