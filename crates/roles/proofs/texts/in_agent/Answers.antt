-- `roles::texts::in_agent` meets its contract. Assumes nothing.
use mathlib.Core.Path.{◌∙◌}
use Rattle.roles.proofs.FoundLaws.{agent_names}
use Rattle.roles.proofs.texts.in_agent.Goals as goal

pub returns : goal.returns
returns c = let a = c.args in c.in_names.ensures ∙ agent_names a.back.now a.c.now c.mark_at.result c.mark_at.ensures
