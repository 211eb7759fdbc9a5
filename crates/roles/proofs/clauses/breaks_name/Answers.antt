-- `roles::clauses::breaks_name` meets its contract: the first clause, then the second. Assumes nothing.
use Prim.Native.Nat.{ℕ}
use mathlib.Core.Path.{refl, ap, ◌∙◌}
use mathlib.Core.Bool.{true, false}
use mathlib.Core.List.{List, [], ◌∷◌}
use Rattle.base.specs.Bytes.{byte, is_in}
use Rattle.base.proofs.Flags.{pick_yes, pick_no}
use Rattle.roles.proofs.ClauseLaws.{name_is}
use Rattle.roles.proofs.clauses.breaks_name.Goals as goal

pub returns-then-is_mute : goal.returns-then-is_mute
returns-then-is_mute c = let a = c.args in c.if-is_mute.true ∙ pick_yes _ c.is_mute.ensures c.if-is_mute.true refl ∙ name_is a.back.now a.name.now

pub returns-then-starts : goal.returns-then-starts
returns-then-starts c = let a = c.args in
    pick_no true c.is_mute.ensures c.if-is_mute.false (pick_yes false c.starts.ensures c.if-starts.true (c.is_mark.ensures ∙ ap (λ (l : List ℕ). is_in (byte l 0) (47 ∷ 58 ∷ 45 ∷ [])) c.first_characters.ensures)) ∙ name_is a.back.now a.name.now

pub returns-else-starts : goal.returns-else-starts
returns-else-starts c = let a = c.args in
    c.if-starts.false ∙ pick_no true c.is_mute.ensures c.if-is_mute.false (pick_no _ c.starts.ensures c.if-starts.false refl) ∙ name_is a.back.now a.name.now
