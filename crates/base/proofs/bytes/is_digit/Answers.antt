-- `base::bytes::is_digit` meets its contract. Assumes nothing.
use Rattle.base.specs.Bytes.{digit}
use Rattle.base.proofs.bytes.is_digit.Goals as goal

pub returns : goal.returns
unfolding digit
returns c = c.is_ascii_digit.ensures.value
