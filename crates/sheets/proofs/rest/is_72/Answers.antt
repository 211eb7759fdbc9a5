-- `sheets::rest::is_72` meets its contract. Assumes nothing.
use mathlib.Core.Path.{◌≡◌, ap, ◌∙◌}
use mathlib.Core.Bool.{false}
use Prim.Native.Nat.{ℕ}
use Rattle.std.proofs.Common.{nat_eq, arith}
use Rattle.std.proofs.lemmas.Bool.Decides.{nat_tests}
use Rattle.base.specs.Bytes.{byte}
use Rattle.fields.specs.Shapes.{unpack}
use Rattle.fields.proofs.PackLaws.{packed_front}
use Rattle.roles.specs.Role.{shape_of}
use Rattle.sheets.specs.Steps.{is_note}
use Rattle.sheets.proofs.TagLaws.{other_digit}
use Rattle.sheets.proofs.rest.is_72.Goals as goal

pub returns-then-f-eq50 : goal.returns-then-f-eq50
returns-then-f-eq50 c = c.is_note.ensures ∙ ap is_note (c.shape_of.ensures ∙ ap (λ (t : ℕ). shape_of c.args.form (unpack t)) (c.unwrap_or.ensures ∙ packed_front c.args.f.now c.line_tag.ensures))

pub returns-else-f-eq50 : goal.returns-else-f-eq50
returns-else-f-eq50 c = let z : nat_eq (byte c.args.f.now 2) 50 ≡ false = grind (arith, nat_tests) in z ∙ other_digit c.args.form c.requires c.if-f-eq50.false
