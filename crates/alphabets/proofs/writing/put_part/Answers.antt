-- `alphabets::writing::put_part` meets its contract. Assumes nothing.
use native.Mathlib.Omega.{arith}
use Rattle.alphabets.proofs.WriteLaws.{one_letter}
use Rattle.alphabets.proofs.writing.put_part.Goals as goal

pub returns-in-len1 : goal.returns-in-len1
returns-in-len1 c = one_letter c.args.out.now c.args.part.now c.args.n (omega arith) c.requires
