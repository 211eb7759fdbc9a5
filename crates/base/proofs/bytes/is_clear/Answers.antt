-- `base::bytes::is_clear` meets its contract: a byte more a turn, as long as none stops the search. Assumes nothing.
use mathlib.Core.Path.{◌≡◌, refl}
use mathlib.Core.Bool.{Bool, true}
use mathlib.Core.List.{List}
use Prim.Native.Nat.{ℕ}
use Rattle.std.proofs.Common.{rules, tests}
use Rattle.std.proofs.lemmas.Iterator.{YieldsList-from_slice}
use Rattle.std.proofs.lemmas.Fn.{fold_over, fronts}
use lib.ListN.{length}
use Rattle.std.specs.List.{position_or_len}
use Rattle.base.proofs.MarkLaws.{one_more}
use Rattle.base.proofs.bytes.is_clear.Goals as goal

pub returns : goal.returns
returns g c clear test says =
    fold_over fronts (λ y. y.now) _ (λ (ys : List ℕ) (b : Bool). b ≡ true → position_or_len test ys ≡ length ys) _
    (λ ys a x b f' j k. let add = one_more test ys x.now a b j in search (rules, tests))
    _ _ _ _ (YieldsList-from_slice c.args.run.now c.iter.ensures.rest).runs (λ e. refl) c.fold.ensures.ran clear
