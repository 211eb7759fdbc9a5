-- `contents::lines::is_purpose` meets its contract. Assumes nothing.
use Rattle.base.proofs.SaysLaws.{says_so}
use native.Mathlib.Omega.{arith}
use Rattle.contents.proofs.ShortLaws.{purpose_made}
use Rattle.contents.proofs.lines.is_purpose.Goals as goal

pub returns-in-1-to-14 : goal.returns-in-1-to-14
returns-in-1-to-14 c =
    says_so (purpose_made c.args.l.now (record { size = omega arith; letter = omega arith; low_1 = omega arith; high_1 = omega arith; low_2 = omega arith; high_2 = omega arith; least = omega arith; most = omega arith; other = λ q. omega arith }))

pub returns-in-1-to-14-2 : goal.returns-in-1-to-14-2
returns-in-1-to-14-2 c =
    says_so (purpose_made c.args.l.now (record { size = omega arith; letter = omega arith; low_1 = omega arith; high_1 = omega arith; low_2 = omega arith; high_2 = omega arith; least = omega arith; most = omega arith; other = λ q. omega arith }))
