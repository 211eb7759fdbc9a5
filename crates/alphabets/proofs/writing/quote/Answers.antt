-- `alphabets::writing::quote` meets its contract. Assumes nothing.
use Prim.Native.Nat.{◌+◌}
use mathlib.Core.Path.{◌≡◌}
use native.Mathlib.Omega.{arith}
use lib.ListN.{set, length-set}
use Rattle.base.specs.Calls.{placed}
use Rattle.alphabets.proofs.WriteLaws.{quote_kept, quote_below, quote_done}
use Rattle.alphabets.proofs.writing.quote.Goals as goal

pub put_part-requires : goal.put_part-requires
put_part-requires c = omega (arith, length-set c.args.out.now c.args.n 39, c.requires)

pub bounds-out-n-2 : goal.bounds-out-n-2
bounds-out-n-2 c =
    let over-out : let a = c.args in c.put_part.new.out ≡ placed (set a.out.now a.n 39) (a.n + 1) a.part.now = c.put_part.ensures in
    quote_below c.args.out.now c.args.part.now _ c.args.n c.requires over-out

pub shape_of-out : goal.shape_of-out
shape_of-out c =
    let over-out : let a = c.args in c.put_part.new.out ≡ placed (set a.out.now a.n 39) (a.n + 1) a.part.now = c.put_part.ensures in
    simp length-set (quote_kept c.args.out.now c.args.part.now _ c.args.n c.requires over-out)

pub returns : goal.returns
returns c =
    let over-out : let a = c.args in c.put_part.new.out ≡ placed (set a.out.now a.n 39) (a.n + 1) a.part.now = c.put_part.ensures in
    quote_done c.args.out.now c.args.part.now _ c.args.n c.requires over-out
