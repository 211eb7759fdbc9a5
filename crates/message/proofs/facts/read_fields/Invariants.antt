-- `message::facts::read_fields` meets its contract: from spot to spot. Assumes nothing.
use mathlib.Core.Path.{◌≡◌}
use lib.ListN.{drop}
use Rattle.base.specs.Bytes.{byte}
use Rattle.fields.specs.Field.{fields}
use Rattle.fields.specs.Places.{start_of}
use Rattle.contents.specs.Rule8.{first_wrong, right_field}
use Rattle.message.specs.Facts.{nothing_yet, facts_from}
use Rattle.message.proofs.facts.read_fields.Given as goal

abbrev pub invariant-loop-k : goal.invariant-loop-k
invariant-loop-k l = let h = l.held in
    (first_wrong 8 (right_field h.form h.sign) start_of 5 (fields h.message.now) ≡ first_wrong 8 (right_field h.form h.sign) start_of (byte h.frame.spots l.k) (drop l.k (fields h.message.now)))
    × (facts_from h.form nothing_yet 5 (fields h.message.now) ≡ facts_from h.form l.f (byte h.frame.spots l.k) (drop l.k (fields h.message.now)))
