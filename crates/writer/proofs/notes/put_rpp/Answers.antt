-- `writer::notes::put_rpp` meets its contract: the mark, then the part as a line. Assumes nothing.
use Prim.Native.Nat.{◌+◌, ◌*◌, ◌-◌}
use mathlib.Core.Path.{◌≡◌}
use native.Mathlib.Omega.{arith}
use lib.ListN.{length, take, drop}
use Rattle.records.proofs.PieceLaws.{piece_length}
use Rattle.writer.proofs.StepLaws.{within_more}
use Rattle.writer.proofs.NoteLaws.{rpp_put}
use Rattle.writer.proofs.notes.put_rpp.Goals as goal

pub slice_bounds-put_line-count : goal.slice_bounds-put_line-count
slice_bounds-put_line-count c = omega (arith, c.requires)

pub slice_bounds-put_line-start : goal.slice_bounds-put_line-start
slice_bounds-put_line-start c = omega (arith, c.requires)

pub slice_bounds-put_line-end : goal.slice_bounds-put_line-end
slice_bounds-put_line-end c = omega (arith, c.requires)

pub overflow_add-at : goal.overflow_add-at
overflow_add-at c = omega (arith, c.requires)

pub put_line-requires : goal.put_line-requires
put_line-requires c = let a = c.args in (
  omega (arith, c.requires, piece_length a.l.now a.i a.e c.requires.1 c.requires.2),
  omega (arith, c.requires),
  omega (arith, c.requires),
)

pub returns : goal.returns
returns c = let a = c.args in
    let p = take (a.e - a.i) (drop a.i a.l.now) in
    let z : length p ≡ a.e - a.i = piece_length a.l.now a.i a.e c.requires.1 c.requires.2 in (
      rpp_put p a.i c.put.ensures c.put_line.ensures.0,
      within_more (length a.l.now) (a.at + 4 * length a.l.now + 7) c.put_line.ensures.1 (omega (arith, c.requires)) (omega (arith, c.requires)),
    )
