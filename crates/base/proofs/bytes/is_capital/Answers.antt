-- `base::bytes::is_capital` meets its contract. Assumes nothing.
use Rattle.base.specs.Bytes.{capital}
use Rattle.base.proofs.bytes.is_capital.Goals as goal

pub returns : goal.returns
unfolding capital
returns c = c.is_ascii_uppercase.ensures.value
