-- What one more read gave stands behind what earlier ones gave. Assumes nothing.
use Rattle.std.proofs.Common.{ℕ, List, ◌≡◌, ◌≤◌, ◌+◌, ◌++◌, length, take, sym, ap, ◌∙◌, subst, arith}
use Rattle.std.proofs.Math.Seq.{take-append-add}
use Rattle.std.proofs.lemmas.List.{take-append-le, length-take-le}
use borrow.Rule.Slice.PartMut.{put_mid, post_of}
use Rattle.std.specs.Io.KnownBytes.{Consumes}
use Rattle.std.proofs.KnownBytes.{Consumes-trans}
use Rattle.streams.proofs.fill.Goals as goal

-- the first n, and the first few of those that were read behind them
take_read : (n k got : ℕ) (old read : List ℕ) → n ≤ length old → got ≤ length read → take n old ++ take got read ≡ take (n + got) (put_mid n k old read)
take_read n k got old read h g =
    ap (λ l. take n old ++ l) (sym (take-append-le got read (post_of n k old) g)) ∙ sym (take-append-add (take n old) (read ++ post_of n k old) got)
    ∙ ap (λ m. take (m + got) (take n old ++ (read ++ post_of n k old))) (length-take-le n old h)

pub loop-n-preserved : goal.loop-n-preserved
loop-n-preserved g c =
    let given = c.in_ok-got.ensures in
    let within : c.in_ok-got.got ≤ length c.read.new.buf = omega (arith, given.bound) in
    (omega (arith, within), subst (Consumes _ _) (take_read c.loop-n.n _ c.in_ok-got.got c.loop-n.room c.read.new.buf (omega arith) within) (Consumes-trans _ _ _ _ _ c.loop-n.invariant.1 given.bytes.0))
