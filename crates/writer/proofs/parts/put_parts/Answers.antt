-- `writer::parts::put_parts` meets its contract: from each part on as from the first. Assumes nothing.
use Prim.Native.Nat.{◌+◌, ◌-◌, ◌*◌, ◌≤◌}
use mathlib.Core.Path.{◌≡◌, refl}
use native.Mathlib.Omega.{arith}
use borrow.Author.Rules.{rules}
use lib.ListN.{length, take, drop}
use mathlib.Core.Path.{refl}
use Rattle.std.specs.Prelude.{Err}
use Rattle.std.proofs.lemmas.Result.{err_from_is_err_and}
use Rattle.records.proofs.PieceLaws.{end_within, piece_length}
use Rattle.writer.proofs.StepLaws.{in_put, not_put, within_more, within_any, within_put}
use Rattle.writer.proofs.PartLaws.{parts_on, parts_stop, parts_end}
use Rattle.writer.proofs.parts.put_parts.Goals as goal

pub loop-i-init : goal.loop-i-init
loop-i-init c = (refl, c.requires.1, omega arith, omega arith, λ r after d. d)

pub slice_bounds-p-count : goal.slice_bounds-p-count
slice_bounds-p-count c =
    let within : (c.loop-i.i ≤ c.mark_at-e.result) × (c.mark_at-e.result ≤ length c.args.l.now) = let a = c.args in (omega (arith, c.mark_at-e.ensures), end_within 9 a.l.now c.loop-i.i c.mark_at-e.result c.loop-i-test.true c.mark_at-e.ensures) in
    omega (arith, within)

pub slice_bounds-p-start : goal.slice_bounds-p-start
slice_bounds-p-start c =
    let within : (c.loop-i.i ≤ c.mark_at-e.result) × (c.mark_at-e.result ≤ length c.args.l.now) = let a = c.args in (omega (arith, c.mark_at-e.ensures), end_within 9 a.l.now c.loop-i.i c.mark_at-e.result c.loop-i-test.true c.mark_at-e.ensures) in
    omega (arith, within)

pub slice_bounds-p-end : goal.slice_bounds-p-end
slice_bounds-p-end c =
    let within : (c.loop-i.i ≤ c.mark_at-e.result) × (c.mark_at-e.result ≤ length c.args.l.now) = let a = c.args in (omega (arith, c.mark_at-e.ensures), end_within 9 a.l.now c.loop-i.i c.mark_at-e.result c.loop-i-test.true c.mark_at-e.ensures) in
    omega (arith, within)

pub put_line-requires : goal.put_line-requires
put_line-requires c =
    let within : (c.loop-i.i ≤ c.mark_at-e.result) × (c.mark_at-e.result ≤ length c.args.l.now) = let a = c.args in (omega (arith, c.mark_at-e.ensures), end_within 9 a.l.now c.loop-i.i c.mark_at-e.result c.loop-i-test.true c.mark_at-e.ensures) in
    let sized : length (take (c.mark_at-e.result - c.loop-i.i) (drop c.loop-i.i c.args.l.now)) ≡ c.mark_at-e.result - c.loop-i.i = piece_length c.args.l.now c.loop-i.i c.mark_at-e.result within.0 within.1 in
    (omega (arith, sized, within, c.requires), omega (arith, within, c.requires), omega (arith, c.loop-i.invariant, c.requires))

pub returns-in_err-at : goal.returns-in_err-at
returns-in_err-at c =
    let p = err_from_is_err_and c.from_residual.result c.from_residual.ensures.1 in
    let within : (c.loop-i.i ≤ c.mark_at-e.result) × (c.mark_at-e.result ≤ length c.args.l.now) = let a = c.args in (omega (arith, c.mark_at-e.ensures), end_within 9 a.l.now c.loop-i.i c.mark_at-e.result c.loop-i-test.true c.mark_at-e.ensures) in
    let sized : length (take (c.mark_at-e.result - c.loop-i.i) (drop c.loop-i.i c.args.l.now)) ≡ c.mark_at-e.result - c.loop-i.i = piece_length c.args.l.now c.loop-i.i c.mark_at-e.result within.0 within.1 in
    let a = c.args in
    let r = c.put_line.ensures in
    let h = c.in_err-at.was in
    let n = not_put {r = Err c.in_err-at.field-0.0} refl in
    rw (p.1, p.2) (
      parts_stop a.sign c.loop-i.role a.l.now c.loop-i.i c.mark_at-e.result c.loop-i-test.true c.mark_at-e.ensures c.is_spoken-spoken.ensures (rw h at r.0) c.loop-i.invariant.4 n,
      within_more (length a.l.now) (a.at + 4 * length a.l.now + 4) (within_any (a.at + 4 * length a.l.now + 4) n (rw h at r.1)) (omega (arith, sized, within)) (omega arith),
    )

pub overflow_add-i : goal.overflow_add-i
overflow_add-i c =
    let within : (c.loop-i.i ≤ c.mark_at-e.result) × (c.mark_at-e.result ≤ length c.args.l.now) = let a = c.args in (omega (arith, c.mark_at-e.ensures), end_within 9 a.l.now c.loop-i.i c.mark_at-e.result c.loop-i-test.true c.mark_at-e.ensures) in
    omega (arith, within, c.requires)

pub loop-i-smaller : goal.loop-i-smaller
loop-i-smaller c =
    let within : (c.loop-i.i ≤ c.mark_at-e.result) × (c.mark_at-e.result ≤ length c.args.l.now) = let a = c.args in (omega (arith, c.mark_at-e.ensures), end_within 9 a.l.now c.loop-i.i c.mark_at-e.result c.loop-i-test.true c.mark_at-e.ensures) in
    omega (arith, within, c.mark_at-e.ensures, c.loop-i-test.true)

pub loop-i-preserved : goal.loop-i-preserved
loop-i-preserved c =
    let within : (c.loop-i.i ≤ c.mark_at-e.result) × (c.mark_at-e.result ≤ length c.args.l.now) = let a = c.args in (omega (arith, c.mark_at-e.ensures), end_within 9 a.l.now c.loop-i.i c.mark_at-e.result c.loop-i-test.true c.mark_at-e.ensures) in
    let sized : length (take (c.mark_at-e.result - c.loop-i.i) (drop c.loop-i.i c.args.l.now)) ≡ c.mark_at-e.result - c.loop-i.i = piece_length c.args.l.now c.loop-i.i c.mark_at-e.result within.0 within.1 in
    let a = c.args in (
      search rules,
      omega (arith, within),
      omega (arith, c.loop-i.invariant, c.mark_at-e.ensures),
      omega (arith, sized, within, c.loop-i.invariant, c.mark_at-e.ensures, within_put c.in_ok-at.was c.put_line.ensures.1),
      parts_on a.sign c.loop-i.role a.l.now c.loop-i.i c.mark_at-e.result c.loop-i-test.true c.mark_at-e.ensures c.is_spoken-spoken.ensures c.put_line.ensures.0 c.loop-i.invariant.4 c.in_ok-at.was c.next_role-role.ensures,
    )

pub shape_of-out : goal.shape_of-out
shape_of-out c = c.loop-i.invariant.0

pub returns : goal.returns
returns c = let a = c.args in (parts_end a.sign c.loop-i.role a.l.now c.loop-i.i (omega (arith, c.loop-i-test.false)) c.loop-i.invariant.4, in_put c.loop-i.at (length a.l.now) (a.at + 4 * length a.l.now + 4) (omega (arith, c.loop-i.invariant)))
