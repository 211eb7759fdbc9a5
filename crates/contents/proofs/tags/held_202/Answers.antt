-- `contents::tags::held_202` meets its contract: tag by tag, computed. Assumes nothing.
use Prim.Native.Nat.{ℕ}
use mathlib.Core.Path.{sym, ap}
use Rattle.base.specs.Bytes.{same}
use Rattle.fields.specs.Shapes.{unpack}
use Rattle.contents.specs.Tags.{tags_202, held_in}
use Rattle.contents.proofs.TagLaws.{no_tag}
use Rattle.contents.proofs.tags.held_202.Goals as goal

pub returns-in-3289088 : goal.returns-in-3289088
unfolding tags_202 same
returns-in-3289088 c = sym (ap (λ (t : ℕ). held_in tags_202 (unpack t)) c.in-3289088.is)

pub returns-in-3289344 : goal.returns-in-3289344
unfolding tags_202 same
returns-in-3289344 c = sym (ap (λ (t : ℕ). held_in tags_202 (unpack t)) c.in-3289344.is)

pub returns-in-3355201 : goal.returns-in-3355201
unfolding tags_202 same
returns-in-3355201 c = sym (ap (λ (t : ℕ). held_in tags_202 (unpack t)) c.in-3355201.is)

pub returns-in-3486273 : goal.returns-in-3486273
unfolding tags_202 same
returns-in-3486273 c = sym (ap (λ (t : ℕ). held_in tags_202 (unpack t)) c.in-3486273.is)

pub returns-in-3486530 : goal.returns-in-3486530
unfolding tags_202 same
returns-in-3486530 c = sym (ap (λ (t : ℕ). held_in tags_202 (unpack t)) c.in-3486530.is)

pub returns-in-3487297 : goal.returns-in-3487297
unfolding tags_202 same
returns-in-3487297 c = sym (ap (λ (t : ℕ). held_in tags_202 (unpack t)) c.in-3487297.is)

pub returns-in-3487300 : goal.returns-in-3487300
unfolding tags_202 same
returns-in-3487300 c = sym (ap (λ (t : ℕ). held_in tags_202 (unpack t)) c.in-3487300.is)

pub returns-in-3487553 : goal.returns-in-3487553
unfolding tags_202 same
returns-in-3487553 c = sym (ap (λ (t : ℕ). held_in tags_202 (unpack t)) c.in-3487553.is)

pub returns-in-3487556 : goal.returns-in-3487556
unfolding tags_202 same
returns-in-3487556 c = sym (ap (λ (t : ℕ). held_in tags_202 (unpack t)) c.in-3487556.is)

pub returns-in-3487809 : goal.returns-in-3487809
unfolding tags_202 same
returns-in-3487809 c = sym (ap (λ (t : ℕ). held_in tags_202 (unpack t)) c.in-3487809.is)

pub returns-in-3487812 : goal.returns-in-3487812
unfolding tags_202 same
returns-in-3487812 c = sym (ap (λ (t : ℕ). held_in tags_202 (unpack t)) c.in-3487812.is)

pub returns-in-3617280 : goal.returns-in-3617280
unfolding tags_202 same
returns-in-3617280 c = sym (ap (λ (t : ℕ). held_in tags_202 (unpack t)) c.in-3617280.is)

pub returns-in_default : goal.returns-in_default
unfolding tags_202
returns-in_default c = let r = c.in_default.in_default-own.rest in
    sym (no_tag tags_202 c.args.tag (r.0.0.0.0.0.0.0.0.0.0.0.1, (r.0.0.0.0.0.0.0.0.0.0.1, (r.0.0.0.0.0.0.0.0.0.1, (r.0.0.0.0.0.0.0.0.1, (r.0.0.0.0.0.0.0.1, (r.0.0.0.0.0.0.1, (r.0.0.0.0.0.1, (r.0.0.0.0.1, (r.0.0.0.1, (r.0.0.1, (r.0.1, (r.1, tt)))))))))))))
