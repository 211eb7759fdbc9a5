-- `writer::built::build` meets its contract: 1, then 19 and 18, then 15, 16, or the message. Assumes nothing.
use Rattle.std.proofs.lemmas.Result.{err_from_is_err_and}
use Rattle.writer.proofs.StepLaws.{halted}
use Rattle.writer.proofs.BuildLaws.{builds_room, seven_within, told_good, told_built, sound_stuck, sound_put, put_unfit, too_long_sheet, bad_sheet, verdict_is, form_is, sign_is}
use borrow.Author.Rules.{rules}
use Rattle.writer.proofs.built.build.Goals as goal

pub returns-then-sheet-gt-ROOM : goal.returns-then-sheet-gt-ROOM
returns-then-sheet-gt-ROOM c = too_long_sheet c.args.sheet.now c.if-sheet-gt-ROOM.true

pub returns-in_err-j : goal.returns-in_err-j
returns-in_err-j c = let s = c.args.sheet.now in
    let p = err_from_is_err_and c.from_residual.result c.from_residual.ensures.1 in
    rw (p.1, p.2) (bad_sheet s c.if-sheet-gt-ROOM.false (verdict_is s c.judge_sheet-j.ensures c.in_err-j.was))

pub put_message-requires : goal.put_message-requires
put_message-requires c = let s = c.args.sheet.now in
    let e = c.judge_sheet-j.ensures in
    let v = verdict_is s e c.in_ok-j.was in
    (c.if-sheet-gt-ROOM.false, seven_within s v, told_good s v (form_is s e) (sign_is s e))

pub build_on-requires : goal.build_on-requires
build_on-requires c = let s = c.args.sheet.now in
    let e = c.judge_sheet-j.ensures in
    let v = verdict_is s e c.in_ok-j.was in
    record { sheet_len_bound = (c.if-sheet-gt-ROOM.false, form_is s e, sign_is s e, v); sheet_value = put_unfit s v c.if-sheet-gt-ROOM.false (form_is s e) (sign_is s e) (halted c.in-Err-Unfit.is c.in-Err-Unfit.field-0-is) (told_built s v (form_is s e) (sign_is s e) c.put_message.ensures) }

pub returns-in-Err-Stuck : goal.returns-in-Err-Stuck
returns-in-Err-Stuck c = let s = c.args.sheet.now in
    let e = c.judge_sheet-j.ensures in
    let v = verdict_is s e c.in_ok-j.was in
    sound_stuck s v c.if-sheet-gt-ROOM.false (halted c.in-Err-Stuck.is c.in-Err-Stuck.field-0-is) (told_built s v (form_is s e) (sign_is s e) c.put_message.ensures)

pub returns-in-Err-Unfit : goal.returns-in-Err-Unfit
returns-in-Err-Unfit c = builds_room c.args.sheet.now c.args.out.now (search rules) c.build_on.ensures

pub returns-in-Ok : goal.returns-in-Ok
returns-in-Ok c = let s = c.args.sheet.now in
    let e = c.judge_sheet-j.ensures in
    let v = verdict_is s e c.in_ok-j.was in
    sound_put s v c.if-sheet-gt-ROOM.false (form_is s e) (sign_is s e) c.in-Ok.is (told_built s v (form_is s e) (sign_is s e) c.put_message.ensures)
