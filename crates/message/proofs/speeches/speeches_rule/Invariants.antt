-- `message::speeches::speeches_rule` meets its contract: from spot to spot. Assumes nothing.
use Rattle.roles.specs.Rule14.{unheard, speeches_of}
use Rattle.fields.specs.Field.{fields}
use Rattle.base.specs.Bytes.{byte}
use lib.ListN.{drop}
use mathlib.Core.Path.{◌≡◌}
use Rattle.message.proofs.speeches.speeches_rule.Given as goal

abbrev pub invariant-loop-k : goal.invariant-loop-k
invariant-loop-k l = let f = l.f in
    unheard (speeches_of f.form 5 (fields f.message.now)) ≡ unheard (speeches_of f.form (byte f.frame.spots l.k) (drop l.k (fields f.message.now)))
