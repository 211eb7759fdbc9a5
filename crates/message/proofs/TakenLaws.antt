-- What the fields keep of a message that the quick pass took. Assumes nothing.
use Prim.Native.Nat.{ℕ}
use mathlib.Core.Path.{◌≡◌, refl, sym, ap, ◌∙◌, subst}
use mathlib.Core.List.{List}
use Rattle.std.specs.Prelude.{Option}
use Rattle.std.specs.Borrow.{Bor}
use lib.Count.{ones}
use lib.ListN.{length}
use Rattle.base.specs.Verdicts.{Verdict, Fine}
use Rattle.base.proofs.RuleLaws.{answered_ok}
use Rattle.fields.specs.Field.{Field, fields}
use Rattle.types.specs.declared.Form.{Form}
use Rattle.types.specs.declared.Form.TheVariants.{Other, Mt103, Mt202}
use Rattle.types.specs.Form.{places_of}
use Rattle.types.specs.Walk.{walked}
use Rattle.frame.specs.Frame.{refusal, word_of, fields_found, frame_of}
use Rattle.frame.proofs.CallLaws.{Found, Taken, taken, found, fields_counted}
use Rattle.message.specs.declared.parts.Fields.{Fields}
use Rattle.contents.specs.Rule8.{rule_8}
use Rattle.roles.specs.Rule21.{rule_21}
use Rattle.message.specs.declared.Span.{Span}
use Rattle.message.specs.Lists.{part_at}
use Rattle.message.proofs.FieldLaws.{Settled, settled}

module _ (f : Fields) where
  found_in_it : Found f.form f.message.now f.frame.spots f.frame.present
  found_in_it = found f.form f.message.now (sym f.taken)

  pub clean_in : refusal f.form f.message.now ≡ Fine
  clean_in = found_in_it.clean

  pub has : Taken f.form f.message.now
  has = taken f.form f.message.now clean_in

  -- its fields stand at their spots, and are so many
  pub settled_in : Settled f.message.now f.frame.spots
  settled_in = settled found_in_it

  pub count_in : f.frame.fields ≡ length (fields f.message.now)
  count_in = fields_counted f.form f.message.now (sym f.taken)

  -- their places are those of the word
  pub word_in : f.frame.present ≡ word_of f.form f.message.now
  word_in = found_in_it.word_is

  -- and has as many ones
  pub ones_in : ones f.frame.present ≡ length (fields f.message.now)
  ones_in = ap ones word_in ∙ has.sound.as_many

  pub walk_in : walked f.form f.message.now ≡ Fine
  walk_in = has.walk_fine

  -- the same of a 103
  module _ (z : f.form ≡ Mt103) where
    pub word_103 : f.frame.present ≡ word_of Mt103 f.message.now
    word_103 = word_in ∙ ap (λ (x : Form). word_of x f.message.now) z

    pub walk_103 : walked Mt103 f.message.now ≡ Fine
    walk_103 = ap (λ (x : Form). walked x f.message.now) (sym z) ∙ walk_in

    pub part_103 : {p : Option Span} (q : ℕ) → p ≡ part_at (places_of f.form) q 5 (fields f.message.now) → p ≡ part_at (places_of Mt103) q 5 (fields f.message.now)
    part_103 q e = e ∙ ap (λ (x : Form). part_at (places_of x) q 5 (fields f.message.now)) z

-- 21 is of a 103 alone
pub not_103 : (form : Form) (fs : List Field) → (form ≡ Mt103 → ⊥) → Fine ≡ rule_21 form fs
unfolding rule_21
not_103 Other fs n = refl
not_103 Mt103 fs n = absurd (n refl)
not_103 Mt202 fs n = refl

-- 8 and 21 of a 103
module _ (f : Fields) (z : f.form ≡ Mt103) where
  pub rule_8_103 : rule_8 f.form f.message.now ≡ Fine → rule_8 Mt103 f.message.now ≡ Fine
  rule_8_103 e = ap (λ (x : Form). rule_8 x f.message.now) (sym z) ∙ e

  pub as_103 : {v : Verdict} → v ≡ rule_21 Mt103 (fields f.message.now) → v ≡ rule_21 f.form (fields f.message.now)
  as_103 e = e ∙ ap (λ (x : Form). rule_21 x (fields f.message.now)) (sym z)

-- what holds of a message that is handed on, holds of the one that was lent
pub as_lent : {form lent_form : Form} {m lent : Bor (List ℕ)} → form ≡ lent_form → m ≡ lent → (P : Form → List ℕ → Type 0) → P form m.now → P lent_form lent.now
as_lent {form} {lent_form} {m} p q P x = subst (λ (b : Bor (List ℕ)). P lent_form b.now) q (subst (λ (y : Form). P y m.now) p x)

-- what the pass found of it
pub frame_is : (f : Fields) → f.frame ≡ fields_found f.form f.message.now
unfolding frame_of
frame_is f = (answered_ok (refusal f.form f.message.now) (sym f.taken)).1
