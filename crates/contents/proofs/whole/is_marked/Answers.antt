-- `contents::whole::is_marked` meets its contract. Assumes nothing.
use native.Mathlib.Omega.{arith}
use Rattle.contents.proofs.MarkedLaws.{marked_tests, marked_made}
use Rattle.contents.proofs.whole.is_marked.Goals as goal

pub returns-then-l-le-WIDTH : goal.returns-then-l-le-WIDTH
returns-then-l-le-WIDTH c = let a = c.args in
    record { so = λ e. marked_made a.mark.now a.l.now (omega arith) (omega arith) (c.has_word.ensures.so e); not_so = λ e m. c.has_word.ensures.not_so e (marked_tests a.mark.now a.l.now m).2 }
