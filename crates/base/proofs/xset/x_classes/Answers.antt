-- `base::xset::x_classes` meets its contract: the table is computed. Assumes nothing.
use mathlib.Core.Path.{refl}
use Rattle.base.specs.Bytes.{is_in, digit, capital, letter, marks, shared, xset, classes}
use Rattle.base.proofs.xset.x_classes.Goals as goal

pub returns : goal.returns
unfolding is_in digit capital letter marks shared xset classes
returns c = refl
