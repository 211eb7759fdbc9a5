-- `alphabets::parts::put_piece` meets its contract. Assumes nothing.
use mathlib.Core.Path.{◌≡◌, sym, ap, ◌∙◌}
use Rattle.std.proofs.lemmas.Result.{err_from_is_err_and}
use Rattle.base.specs.Calls.{placed}
use Rattle.alphabets.specs.Pieces.{Read, piece_in}
use Rattle.alphabets.specs.Parts.{spoken}
use Rattle.alphabets.proofs.PartLaws.{none_room, miss_room, fit_room, fit_put}
use Rattle.alphabets.proofs.SpokenLaws.{counted, text_stops, text_read}
use Rattle.alphabets.proofs.parts.put_piece.Goals as goal

pub returns-in_err-heard : goal.returns-in_err-heard
returns-in_err-heard c = let a = c.args in
    let p = err_from_is_err_and c.from_residual.result c.from_residual.ensures.1 in
    rw (p.1, p.2) (c.in_err-heard.ensures, none_room a.out.now a.at _ (text_stops a.back.now a.latin a.part.now _ (sym c.in_err-heard.ensures)))

pub fill_piece-requires : goal.fill_piece-requires
fill_piece-requires c = let a = c.args in
    let counts : piece_in a.back.now a.latin a.part.now ≡ Read c.in_ok-heard.heard.units c.in_ok-heard.heard.latin = sym c.in_ok-heard.ensures in
    fit_room a.out.now a.at _ (spoken a.back.now a.latin a.part.now) (counted a.back.now a.latin a.part.now _ _ counts) c.fits.result c.fits.ensures c.if-fits.true

pub returns-then-fits : goal.returns-then-fits
returns-then-fits c = let a = c.args in
    let counts : piece_in a.back.now a.latin a.part.now ≡ Read c.in_ok-heard.heard.units c.in_ok-heard.heard.latin = sym c.in_ok-heard.ensures in (
      c.in_ok-heard.ensures,
      fit_put a.out.now a.at _ _ (counted a.back.now a.latin a.part.now _ _ counts) c.fits.result c.fits.ensures _ c.if-fits.true c.fill_piece.ensures
          ∙ ap (placed a.out.now a.at) (sym (text_read a.back.now a.latin a.part.now _ _ counts)),
    )

pub returns-else-fits : goal.returns-else-fits
returns-else-fits c = let a = c.args in
    let counts : piece_in a.back.now a.latin a.part.now ≡ Read c.in_ok-heard.heard.units c.in_ok-heard.heard.latin = sym c.in_ok-heard.ensures in (
      c.in_ok-heard.ensures,
      miss_room a.out.now a.at _ _ (counted a.back.now a.latin a.part.now _ _ counts) c.fits.result c.fits.ensures c.if-fits.false
          ∙ ap (placed a.out.now a.at) (sym (text_read a.back.now a.latin a.part.now _ _ counts)),
    )
