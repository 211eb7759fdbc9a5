-- `alphabets::put_best` meets its contract. Assumes nothing.
use mathlib.Core.Bool.{false}
use Rattle.std.proofs.lemmas.Result.{err_from_is_err_and}
use Rattle.alphabets.specs.Best.{best, writes}
use Rattle.alphabets.proofs.PartLaws.{none_room, miss_room, fit_room, fit_put, said_put}
use Rattle.alphabets.proofs.WriteLaws.{Measured, measured, unmeasured}
use Rattle.alphabets.proofs.put_best.Goals as goal

pub returns-in_err-n : goal.returns-in_err-n
returns-in_err-n c = let a = c.args in
    let p = err_from_is_err_and c.from_residual.result c.from_residual.ensures.1 in
    rw (p.1, p.2) (c.in_err-n.ensures, none_room a.out.now a.at _ (unmeasured (writes a.desk.now) _ c.in_err-n.ensures))

pub fill-requires : goal.fill-requires
fill-requires c = let a = c.args in
    let w : Measured a.desk.now c.in_ok-n.n = measured _ _ c.in_ok-n.ensures in
    (w.fine, fit_room a.out.now a.at _ (best false a.desk.now) w.count c.fits.result c.fits.ensures c.if-fits.true)

pub returns-then-fits : goal.returns-then-fits
returns-then-fits c = let a = c.args in
    let w : Measured a.desk.now c.in_ok-n.n = measured _ _ c.in_ok-n.ensures in
    said_put (writes a.desk.now) a.out.now a.at _ _ _ w.is w.count (fit_put a.out.now a.at _ _ w.count c.fits.result c.fits.ensures _ c.if-fits.true c.fill.ensures)

pub returns-else-fits : goal.returns-else-fits
returns-else-fits c = let a = c.args in
    let w : Measured a.desk.now c.in_ok-n.n = measured _ _ c.in_ok-n.ensures in
    said_put (writes a.desk.now) a.out.now a.at _ _ _ w.is w.count (miss_room a.out.now a.at _ _ w.count c.fits.result c.fits.ensures c.if-fits.false)
