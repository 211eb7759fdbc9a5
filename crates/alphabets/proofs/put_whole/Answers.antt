-- `alphabets::put_whole` meets its contract. Assumes nothing.
use mathlib.Core.Path.{◌≡◌, sym, ◌∙◌}
use mathlib.Core.Bool.{false}
use Rattle.std.proofs.lemmas.Result.{err_from_is_err_and}
use Rattle.base.specs.Calls.{said}
use Rattle.alphabets.specs.Bank.{reads}
use Rattle.alphabets.specs.Pieces.{Read, piece_in}
use Rattle.alphabets.specs.Parts.{spoken}
use Rattle.alphabets.proofs.PartLaws.{told_ok, told_err, stuck_put, said_put, miss_room, fit_room, fit_put}
use Rattle.alphabets.proofs.SpokenLaws.{counted}
use Rattle.alphabets.proofs.PartTheorems.{whole_stops, whole_open, whole_read}
use Rattle.alphabets.proofs.put_whole.Goals as goal

pub returns-in_err-heard : goal.returns-in_err-heard
returns-in_err-heard c = let a = c.args in
    let p = err_from_is_err_and c.from_residual.result c.from_residual.ensures.1 in
    let q = told_err _ c.read_piece.result c.map_err.ensures.cases _ c.in_err-heard.was in
    rw (p.1, p.2, q.2) (stuck_put (reads false a.bank.now) a.out.now 0 _ (whole_stops c.back_table-back.result a.bank.now c.back_table-back.ensures _ (sym c.read_piece.ensures ∙ q.1)))

pub returns-then-heard : goal.returns-then-heard
returns-then-heard c = let a = c.args in
    let counts : piece_in c.back_table-back.result false a.bank.now ≡ Read c.in_ok-heard.heard.units c.in_ok-heard.heard.latin = sym c.read_piece.ensures ∙ told_ok _ c.read_piece.result c.map_err.ensures.cases _ c.in_ok-heard.was in
    stuck_put (reads false a.bank.now) a.out.now 0 _ (whole_open c.back_table-back.result a.bank.now c.back_table-back.ensures _ _ counts c.if-heard.true)

pub fill_piece-requires : goal.fill_piece-requires
fill_piece-requires c = let a = c.args in
    let counts : piece_in c.back_table-back.result false a.bank.now ≡ Read c.in_ok-heard.heard.units c.in_ok-heard.heard.latin = sym c.read_piece.ensures ∙ told_ok _ c.read_piece.result c.map_err.ensures.cases _ c.in_ok-heard.was in
    fit_room a.out.now 0 _ (spoken c.back_table-back.result false a.bank.now) (counted c.back_table-back.result false a.bank.now _ _ counts) c.fits.result c.fits.ensures c.if-fits.true

pub returns-then-fits : goal.returns-then-fits
returns-then-fits c = let a = c.args in
    let counts : piece_in c.back_table-back.result false a.bank.now ≡ Read c.in_ok-heard.heard.units c.in_ok-heard.heard.latin = sym c.read_piece.ensures ∙ told_ok _ c.read_piece.result c.map_err.ensures.cases _ c.in_ok-heard.was in
    let is : reads false a.bank.now ≡ said (spoken c.back_table-back.result false a.bank.now) = whole_read c.back_table-back.result a.bank.now c.back_table-back.ensures _ _ counts c.if-heard.false in
    said_put (reads false a.bank.now) a.out.now 0 _ _ _ is (counted c.back_table-back.result false a.bank.now _ _ counts)
    (fit_put a.out.now 0 _ _ (counted c.back_table-back.result false a.bank.now _ _ counts) c.fits.result c.fits.ensures _ c.if-fits.true c.fill_piece.ensures)

pub returns-else-fits : goal.returns-else-fits
returns-else-fits c = let a = c.args in
    let counts : piece_in c.back_table-back.result false a.bank.now ≡ Read c.in_ok-heard.heard.units c.in_ok-heard.heard.latin = sym c.read_piece.ensures ∙ told_ok _ c.read_piece.result c.map_err.ensures.cases _ c.in_ok-heard.was in
    let is : reads false a.bank.now ≡ said (spoken c.back_table-back.result false a.bank.now) = whole_read c.back_table-back.result a.bank.now c.back_table-back.ensures _ _ counts c.if-heard.false in
    said_put (reads false a.bank.now) a.out.now 0 _ _ _ is (counted c.back_table-back.result false a.bank.now _ _ counts)
    (miss_room a.out.now 0 _ _ (counted c.back_table-back.result false a.bank.now _ _ counts) c.fits.result c.fits.ensures c.if-fits.false)
