-- `contents::tags::held_103` meets its contract: tag by tag, computed. Assumes nothing.
use Prim.Native.Nat.{ℕ}
use mathlib.Core.Path.{sym, ap}
use Rattle.base.specs.Bytes.{same}
use Rattle.fields.specs.Shapes.{unpack}
use Rattle.contents.specs.Tags.{tags_103, held_in}
use Rattle.contents.proofs.TagLaws.{no_tag}
use Rattle.contents.proofs.tags.held_103.Goals as goal

pub returns-in-3289088 : goal.returns-in-3289088
unfolding tags_103 same
returns-in-3289088 c = sym (ap (λ (t : ℕ). held_in tags_103 (unpack t)) c.in-3289088.is)

pub returns-in-3289922 : goal.returns-in-3289922
unfolding tags_103 same
returns-in-3289922 c = sym (ap (λ (t : ℕ). held_in tags_103 (unpack t)) c.in-3289922.is)

pub returns-in-3290708 : goal.returns-in-3290708
unfolding tags_103 same
returns-in-3290708 c = sym (ap (λ (t : ℕ). held_in tags_103 (unpack t)) c.in-3290708.is)

pub returns-in-3355201 : goal.returns-in-3355201
unfolding tags_103 same
returns-in-3355201 c = sym (ap (λ (t : ℕ). held_in tags_103 (unpack t)) c.in-3355201.is)

pub returns-in-3485771 : goal.returns-in-3485771
unfolding tags_103 same
returns-in-3485771 c = sym (ap (λ (t : ℕ). held_in tags_103 (unpack t)) c.in-3485771.is)

pub returns-in-3486273 : goal.returns-in-3486273
unfolding tags_103 same
returns-in-3486273 c = sym (ap (λ (t : ℕ). held_in tags_103 (unpack t)) c.in-3486273.is)

pub returns-in-3486530 : goal.returns-in-3486530
unfolding tags_103 same
returns-in-3486530 c = sym (ap (λ (t : ℕ). held_in tags_103 (unpack t)) c.in-3486530.is)

pub returns-in-3487297 : goal.returns-in-3487297
unfolding tags_103 same
returns-in-3487297 c = sym (ap (λ (t : ℕ). held_in tags_103 (unpack t)) c.in-3487297.is)

pub returns-in-3487300 : goal.returns-in-3487300
unfolding tags_103 same
returns-in-3487300 c = sym (ap (λ (t : ℕ). held_in tags_103 (unpack t)) c.in-3487300.is)

pub returns-in-3487553 : goal.returns-in-3487553
unfolding tags_103 same
returns-in-3487553 c = sym (ap (λ (t : ℕ). held_in tags_103 (unpack t)) c.in-3487553.is)

pub returns-in-3487556 : goal.returns-in-3487556
unfolding tags_103 same
returns-in-3487556 c = sym (ap (λ (t : ℕ). held_in tags_103 (unpack t)) c.in-3487556.is)

pub returns-in-3488000 : goal.returns-in-3488000
unfolding tags_103 same
returns-in-3488000 c = sym (ap (λ (t : ℕ). held_in tags_103 (unpack t)) c.in-3488000.is)

pub returns-in-3616768 : goal.returns-in-3616768
unfolding tags_103 same
returns-in-3616768 c = sym (ap (λ (t : ℕ). held_in tags_103 (unpack t)) c.in-3616768.is)

pub returns-in-3617089 : goal.returns-in-3617089
unfolding tags_103 same
returns-in-3617089 c = sym (ap (λ (t : ℕ). held_in tags_103 (unpack t)) c.in-3617089.is)

pub returns-in-3617280 : goal.returns-in-3617280
unfolding tags_103 same
returns-in-3617280 c = sym (ap (λ (t : ℕ). held_in tags_103 (unpack t)) c.in-3617280.is)

pub returns-in-3618626 : goal.returns-in-3618626
unfolding tags_103 same
returns-in-3618626 c = sym (ap (λ (t : ℕ). held_in tags_103 (unpack t)) c.in-3618626.is)

pub returns-in_default : goal.returns-in_default
unfolding tags_103
returns-in_default c = let r = c.in_default.in_default-own.rest in
    sym (no_tag tags_103 c.args.tag (r.0.0.0.0.0.0.0.0.0.0.0.0.0.0.0.1, (r.0.0.0.0.0.0.0.0.0.0.0.0.0.0.1, (r.0.0.0.0.0.0.0.0.0.0.0.0.0.1, (r.0.0.0.0.0.0.0.0.0.0.0.0.1, (r.0.0.0.0.0.0.0.0.0.0.0.1, (r.0.0.0.0.0.0.0.0.0.0.1, (r.0.0.0.0.0.0.0.0.0.1, (r.0.0.0.0.0.0.0.0.1, (r.0.0.0.0.0.0.0.1, (r.0.0.0.0.0.0.1, (r.0.0.0.0.0.1, (r.0.0.0.0.1, (r.0.0.0.1, (r.0.0.1, (r.0.1, (r.1, tt)))))))))))))))))
