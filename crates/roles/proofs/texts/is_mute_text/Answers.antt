-- `roles::texts::is_mute_text` meets its contract: each line's piece goes on from the piece before. Assumes nothing.
use mathlib.Core.Path.{sym, ap, ◌∙◌}
use mathlib.Core.Bool.{Bool, not, ◌||◌}
use Rattle.fields.specs.Lines.{lines_in}
use lib.ListN.{drop}
use Rattle.roles.specs.Speech.{details_text}
use Rattle.roles.specs.Found.{lines_left}
use Rattle.roles.proofs.TextLaws.{joined, joined_left, mute_first, mute_none, mute_stop, mute_go}
use Rattle.roles.proofs.texts.is_mute_text.Goals as goal

pub loop-part-init : goal.loop-part-init
loop-part-init c = let a = c.args in
    mute_first a.back.now (lines_left c.into_iter-part-iterator.result) (details_text a.front a.mark (lines_in (drop a.from a.c.now)))
    (ap (λ t. joined (lines_left t)) c.into_iter-part-iterator.ensures.into_iter_gives ∙ ap joined c.new-part-items.ensures.lines ∙ joined_left a.c.now a.from a.front a.mark)

pub returns-in_default : goal.returns-in_default
returns-in_default c =
    mute_stop c.args.back.now c.loop-part.latin c.loop-part.some c.in-Some.part.now c.in-Some.ensures.steps _ (sym c.in_default.is ∙ c.read_piece.ensures) ∙ sym c.loop-part.invariant

pub loop-part-preserved : goal.loop-part-preserved
loop-part-preserved c =
    c.loop-part.invariant ∙ mute_go c.args.back.now c.loop-part.latin c.loop-part.some c.in-Some.part.now c.in-Some.ensures.steps c.in-Ok.heard (sym c.in-Ok.is ∙ c.read_piece.ensures)

pub returns-then-latin : goal.returns-then-latin
returns-then-latin c = c.if-latin.true ∙ sym (ap (λ (q : Bool). q || not c.loop-part.some) c.if-latin.true) ∙ mute_none c.args.back.now c.loop-part.latin c.loop-part.some c.in-None.ensures.steps.0 ∙ sym c.loop-part.invariant

pub returns-else-latin : goal.returns-else-latin
returns-else-latin c = sym (ap (λ (q : Bool). q || not c.loop-part.some) c.if-latin.false) ∙ mute_none c.args.back.now c.loop-part.latin c.loop-part.some c.in-None.ensures.steps.0 ∙ sym c.loop-part.invariant
