-- `records::pieces::Pieces::begins` meets its contract: the byte that stands there is told, if it is no mark. Assumes nothing.
use mathlib.Core.Path.{◌≡◌, sym, ◌∙◌}
use mathlib.Core.Bool.{true, false}
use lib.ListN.{length}
use borrow.Author.Tests.{le-ltb}
use Rattle.records.proofs.PieceLaws.{begins_is, begins_not, begins_past}
use Rattle.records.proofs.pieces.Pieces.begins.Goals as goal
use Rattle.records.proofs.pieces.Pieces.begins.Goals.{then-self, else-self}

pub returns-then-self-b : goal.returns-then-self-b
returns-then-self-b c = let a = c.args in
    elim c.if-self.branch [
      | then-self w ↦ begins_is a.self.mark a.b a.self.text.now a.self.at w.if-self.true (sym w.value-is ∙ c.if-self-b.true)
      | else-self w ↦ let z : false ≡ true = sym (le-ltb a.self.at (length a.self.text.now) w.if-self.false) ∙ sym w.value-is ∙ c.if-self-b.true in cc
    ]

pub returns-else-self-b : goal.returns-else-self-b
returns-else-self-b c = let a = c.args in
    elim c.if-self.branch [
      | then-self w ↦ c.if-self-b.false ∙ sym (begins_not a.self.mark a.b a.self.text.now a.self.at w.if-self.true (sym w.value-is ∙ c.if-self-b.false))
      | else-self w ↦ c.if-self-b.false ∙ sym (begins_past a.self.mark a.b a.self.text.now a.self.at w.if-self.false)
    ]
