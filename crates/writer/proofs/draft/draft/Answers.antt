-- `writer::draft::draft` meets its contract: the sheet's refusal, 17, or the message put into the room lent. Assumes nothing.
use native.Mathlib.Omega.{arith}
use Rattle.std.proofs.lemmas.Result.{err_from_is_err_and}
use Rattle.writer.proofs.BuildLaws.{built_stopped, built_whole, built_size}
use Rattle.writer.proofs.CallLaws.{draft_refused, draft_short, draft_done}
use Rattle.writer.proofs.draft.draft.Goals as goal

pub returns-then-out-size : goal.returns-then-out-size
returns-then-out-size c = let s = c.args.sheet.now in draft_short s (built_whole s c.build.ensures c.in_ok-built.was) (built_size s c.build.ensures c.in_ok-built.was) c.args.out.now c.if-out-size.true

pub put_built-requires : goal.put_built-requires
put_built-requires c = let s = c.args.sheet.now in (built_whole s c.build.ensures c.in_ok-built.was, omega (arith, built_size s c.build.ensures c.in_ok-built.was, c.if-out-size.false))

pub returns-in_err-built : goal.returns-in_err-built
returns-in_err-built c = let s = c.args.sheet.now in
    let p = err_from_is_err_and c.from_residual.result c.from_residual.ensures.1 in
    rw (p.1, p.2) (draft_refused s c.args.out.now (built_stopped s c.build.ensures c.in_err-built.was))

pub returns : goal.returns
returns c = let s = c.args.sheet.now in draft_done s (built_whole s c.build.ensures c.in_ok-built.was) (built_size s c.build.ensures c.in_ok-built.was) c.args.out.now c.if-out-size.false c.put_built.ensures
