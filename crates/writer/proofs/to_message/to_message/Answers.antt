-- `writer::to_message::to_message` meets its contract: the sheet's refusal, 17, 1, or the message handed over. Assumes nothing.
use Prim.Native.Nat.{ℕ}
use mathlib.Core.Path.{◌≡◌, sym}
use native.Mathlib.Omega.{arith}
use lib.ListN.{length, replicate, length-replicate}
use lib.Seq.{length-take-le}
use borrow.Author.Rules.{rules}
use Rattle.std.proofs.lemmas.Result.{err_from_is_err_and}
use Rattle.writer.proofs.BuildLaws.{built_stopped, built_whole, built_size}
use Rattle.writer.proofs.CallLaws.{message_refused, message_short, message_over, message_handed}
use Rattle.writer.proofs.to_message.to_message.Goals as goal

pub returns-then-out-size : goal.returns-then-out-size
returns-then-out-size c = let s = c.args.sheet.now in message_short s (built_whole s c.build.ensures c.in_ok-built.was) (built_size s c.build.ensures c.in_ok-built.was) c.args.out.now c.if-out-size.true

pub returns-then-size-gt-ROOM : goal.returns-then-size-gt-ROOM
returns-then-size-gt-ROOM c = let s = c.args.sheet.now in message_over s (built_whole s c.build.ensures c.in_ok-built.was) (built_size s c.build.ensures c.in_ok-built.was) c.args.out.now c.if-out-size.false c.if-size-gt-ROOM.true

pub slice_bounds-hand_over-end : goal.slice_bounds-hand_over-end
slice_bounds-hand_over-end c = let m = c.build.new.out in
    let z : length m ≡ 10000 = search rules in
    sym (length-take-le c.in_ok-built.built.size m (omega (arith, z, c.if-size-gt-ROOM.false)))

pub hand_over-requires : goal.hand_over-requires
hand_over-requires c = let m = c.build.new.out in
    let z : length m ≡ 10000 = search rules in
    omega (arith, length-take-le c.in_ok-built.built.size m (omega (arith, z, c.if-size-gt-ROOM.false)), c.if-out-size.false)

pub returns-in_err-built : goal.returns-in_err-built
returns-in_err-built c = let s = c.args.sheet.now in
    let p = err_from_is_err_and c.from_residual.result c.from_residual.ensures.1 in
    rw (p.1, p.2) (message_refused s c.args.out.now (built_stopped s c.build.ensures c.in_err-built.was))

pub returns : goal.returns
returns c = let s = c.args.sheet.now in
    let z : 10000 ≡ length (replicate {A = ℕ} 10000 0) = sym (length-replicate {A = ℕ} 10000 0) in
    message_handed s (built_whole s c.build.ensures c.in_ok-built.was) (built_size s c.build.ensures c.in_ok-built.was) c.build.ensures (omega (arith, z, c.if-size-gt-ROOM.false)) c.hand_over.ensures
