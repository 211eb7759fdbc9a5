-- `try_at` meets its contract. Assumes nothing.
use Rattle.base.proofs.ByteLaws.{past_in}
use Rattle.runon.proofs.TryLaws.{try_over, try_shut, try_most, try_good, try_bad}
use Rattle.runon.proofs.Details.try_at.Goals as goal

pub returns-in-Err : goal.returns-in-Err
returns-in-Err c = let a = c.args in
    let s = a.self in
    try_over s.sign s.front.now s.note s.text.now a.k c.requires.0 c.requires.1 c.in-Err.ensures.value c.if-n-gt-ROOM_70.true

pub returns-in-Err-2 : goal.returns-in-Err-2
returns-in-Err-2 c = let a = c.args in
    let s = a.self in
    try_shut s.sign s.front.now s.note s.text.now a.k c.requires.0 c.requires.1 c.in-Err.ensures.value c.if-n-gt-ROOM_70.false

pub returns-in-Ok-fit_in : goal.returns-in-Ok-fit_in
returns-in-Ok-fit_in c = let a = c.args in
    let s = a.self in
    try_good s.sign s.front.now s.note s.text.now a.k c.requires.0 c.requires.1 c.in-Ok.ensures.value (past_in s.text.now a.k) c.in-Ok-fit_in.ensures.value c.if-one-two-le-MOST.true

pub returns-in_default : goal.returns-in_default
returns-in_default c = let a = c.args in
    let s = a.self in
    try_most s.sign s.front.now s.note s.text.now a.k c.requires.0 c.requires.1 c.in-Ok.ensures.value (past_in s.text.now a.k) c.in-Ok-fit_in.ensures.value c.if-one-two-le-MOST.false

pub returns-in_default-2 : goal.returns-in_default-2
returns-in_default-2 c = let a = c.args in
    let s = a.self in
    try_bad s.sign s.front.now s.note s.text.now a.k c.requires.0 c.requires.1 c.in-Ok.ensures.value (past_in s.text.now a.k) c.in_default.ensures.value
