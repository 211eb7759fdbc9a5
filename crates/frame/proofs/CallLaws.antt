-- The ways out of the call `frame`, and what a message that is not refused has. Assumes nothing.
use Prim.Native.Nat.{ℕ, ◌≤◌, ◌<◌}
use mathlib.Core.Path.{◌≡◌, ap}
use mathlib.Core.Bool.{Bool, true, false}
use mathlib.Core.List.{List}
use native.Mathlib.Omega.{arith}
use lib.ListN.{length}
use Rattle.std.specs.Prelude.{Ok}
use Rattle.base.specs.Choice.{pick}
use Rattle.base.specs.Verdicts.{Fine, Broken, Refused, answered}
use Rattle.base.proofs.RuleLaws.{then_fine, answered_ok}
use Rattle.base.proofs.CallLaws.{is_long, not_long, within_limit}
use Rattle.fields.specs.Field.{fields}
use Rattle.fields.specs.Frame.{limit, framed, rule_1, rule_2, rule_3, rule_4}
use Rattle.fields.proofs.FrameLaws.{rule_2_fine, framed_long}
use Rattle.types.specs.declared.Form.{Form}
use Rattle.types.specs.Form.{places_of}
use Rattle.types.specs.Walk.{walked}
use Rattle.types.specs.Tables.{most, padded}
use Rattle.types.proofs.TableLaws.{few_places, no_places, some_places}
use Rattle.types.proofs.WalkLaws.{walked_accepted}
use Rattle.types.proofs.WordLaws.{walked_sound}
use Rattle.frame.specs.declared.Frame.{Frame}
use Rattle.frame.specs.Frame.{refusal, word_of, capacity, spots_of, fields_found, frame_of}
use Rattle.frame.proofs.PassLaws.{body_567, refused_frame}
use Rattle.frame.proofs.RuleLaws.{frame_rules_lem}
use Rattle.types.specs.Sentences.{AllRight, SoundWalk}

-- ---- a message that is not refused
pub record Taken (form : Form) (m : List ℕ) : Type 0 where
  pub within : length m ≤ limit
  pub frame_fine : rule_2 m ≡ Fine
  pub bytes_fine : rule_3 m ≡ Fine
  pub lines_fine : rule_4 m ≡ Fine
  pub walk_fine : walked form m ≡ Fine
  pub long : 7 ≤ length m
  pub right : AllRight (places_of form) 0 (fields m)
  pub sound : SoundWalk (places_of form) (fields m)
  pub few : length (fields m) ≤ most

pub taken : (form : Form) (m : List ℕ) → refusal form m ≡ Fine → Taken form m
unfolding rule_1
taken form m e =
    let c = frame_rules_lem form m e in
    let s = walked_sound form m c.walk in
    record {
      within = within_limit limit m c.size;
      frame_fine = c.frame;
      bytes_fine = c.bytes;
      lines_fine = c.lines;
      walk_fine = c.walk;
      long = framed_long m ((rule_2_fine m).0 c.frame);
      right = ((walked_accepted form m).0 c.walk).fine;
      sound = s;
      few = omega (arith, s.few_fields, few_places form);
    }

-- ---- the ways out
by_frame : (m : List ℕ) (b : Bool) → framed m ≡ b → rule_2 m ≡ pick b Fine (Broken 2 0)
unfolding rule_2
by_frame m b e = ap (λ (t : Bool). pick t Fine (Broken 2 0)) e

pub framed_fine : (m : List ℕ) → framed m ≡ true → rule_2 m ≡ Fine
framed_fine m e = by_frame m true e

module _ (form : Form) (m : List ℕ) where
  pub is_18 : length (places_of form) ≡ 0 → Refused 18 0 ≡ frame_of form m
  unfolding frame_of refusal
  is_18 h = refused_frame form m (rw (no_places form h))

  module _ (h : length (places_of form) ≡ 0 → ⊥) where
    pub is_1 : limit < length m → Refused 1 limit ≡ frame_of form m
    unfolding frame_of refusal rule_1
    is_1 l = refused_frame form m (rw (some_places form h, is_long limit m l))

    module _ (l : length m ≤ limit) where
      pub is_2 : framed m ≡ false → Refused 2 0 ≡ frame_of form m
      unfolding frame_of refusal rule_1
      is_2 e = refused_frame form m (rw (some_places form h, not_long limit m l, by_frame m false e))

      pub is_rest_lem : framed m ≡ true → answered (body_567 form m) (fields_found form m) ≡ frame_of form m
      unfolding frame_of refusal rule_1
      is_rest_lem e = rw (some_places form h, not_long limit m l, by_frame m true e, then_fine (walked form m))

-- ---- what a caller learns of the answer
-- what is handed on of a message that is not refused
pub record Found (form : Form) (m spots : List ℕ) (w : ℕ) : Type 0 where
  pub clean : refusal form m ≡ Fine
  pub spots_are : spots ≡ padded capacity 0 (spots_of m)
  pub word_is : w ≡ word_of form m

module _ (form : Form) (m : List ℕ) where
  pub found : {f : Frame} → Ok f ≡ frame_of form m → Found form m f.spots f.present
  unfolding frame_of fields_found
  found e =
      let w = answered_ok (refusal form m) e in
      record { clean = w.0; spots_are = ap (λ (g : Frame). g.spots) w.1; word_is = ap (λ (g : Frame). g.present) w.1 }

  pub fields_counted : {f : Frame} → Ok f ≡ frame_of form m → f.fields ≡ length (fields m)
  unfolding frame_of fields_found
  fields_counted e = ap (λ (g : Frame). g.fields) (answered_ok (refusal form m) e).1
