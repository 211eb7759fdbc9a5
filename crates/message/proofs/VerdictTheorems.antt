-- What a judged message is, said of the definitions that the call's contract cites (O1, D2a, D2b). Assumes nothing.
use Prim.Native.Nat.{ℕ}
use mathlib.Core.Path.{◌≡◌, sym, ap, ap₂, subst, ◌∙◌}
use mathlib.Core.Bool.{Bool, true}
use mathlib.Core.List.{List}
use mathlib.Core.Logic.{◌↔◌}
use Rattle.std.specs.Prelude.{Result, Ok, Err}
use Rattle.std.specs.Borrow.{Bor}
use Rattle.std.proofs.Props.{props}
use Rattle.base.specs.declared.Refusal.{Refusal}
use Rattle.base.specs.Choice.{all}
use Rattle.base.specs.Rules.{then, first, Clean, FirstOf}
use Rattle.base.specs.Verdicts.{Verdict, Fine, Broken}
use Rattle.base.proofs.RuleLaws.{fine_broken, then_clean, accepted_iff, refused_iff, answered_ok, answered_err}
use Rattle.base.proofs.CallLaws.{one_answer}
use Rattle.fields.specs.Field.{fields}
use Rattle.types.specs.declared.Form.{Form}
use Rattle.types.specs.Sign.{sign_of}
use Rattle.frame.specs.declared.Frame.{Frame}
use Rattle.frame.specs.Frame.{refusal, fields_found, frame_of}
use Rattle.frame.proofs.CallLaws.{Found}
use Rattle.contents.specs.Rule8.{right_field, EachRight, FirstWrong}
use Rattle.contents.proofs.RuleLaws.{rule_8_fine, rule_8_right, rule_8_broken}
use Rattle.values.specs.Values.{values_in}
use Rattle.values.specs.Judged.{first_bad, no_day, foreign, rule_9, rule_10}
use Rattle.message.specs.declared.parts.Fields.{Fields}
use Rattle.message.specs.Fields.{HandsOn}
use Rattle.message.specs.Taken.{taken_once}
use Rattle.message.specs.Message.{inner_rules, content_rules, message_rules, verdict_of, judged_of}
use Rattle.message.proofs.JudgeLaws.{verdict_by}
use Rattle.message.proofs.RuleLaws.{accepted_rules}

-- any two outcomes are equal
pub judge_one : (form : Form) (m : List ℕ) {r s : Result Frame Refusal} → r ≡ judged_of form m → s ≡ judged_of form m → r ≡ s
judge_one form m p q = one_answer p q

-- fields of the same form and message are the same: what the pass found and the sign are settled by these
module _ (form : Form) (m : Bor (List ℕ)) where
  abbrev made : (sign : Bool) (frame : Frame) → frame_of form m.now ≡ Ok frame → sign ≡ sign_of (fields m.now) → Fields
  made sign frame t s = record { form = form; message = m; sign = sign; frame = frame; taken = t; signed = s }

  by_proofs : (sign : Bool) (frame : Frame) (t t' : frame_of form m.now ≡ Ok frame) (s s' : sign ≡ sign_of (fields m.now)) → made sign frame t s ≡ made sign frame t' s'
  by_proofs sign frame t t' s s' =
      let once : IsProp (sign ≡ sign_of (fields m.now)) = Prim.hlevel props in
      ap₂ (made sign frame) (taken_once form m.now frame t t') (once s s')

  by_frame : (sign : Bool) {frame frame' : Frame} → frame ≡ frame' → (t : frame_of form m.now ≡ Ok frame) (t' : frame_of form m.now ≡ Ok frame') (s s' : sign ≡ sign_of (fields m.now))
      → made sign frame t s ≡ made sign frame' t' s'
  by_frame sign {frame} e t t' s s' =
      subst (λ (x : Frame). (u : frame_of form m.now ≡ Ok x) → made sign frame t s ≡ made sign x u s') e (λ u. by_proofs sign frame t u s s') t'

  by_sign : {sign sign' : Bool} {frame frame' : Frame} → sign ≡ sign' → frame ≡ frame' → (t : frame_of form m.now ≡ Ok frame) (t' : frame_of form m.now ≡ Ok frame')
      (s : sign ≡ sign_of (fields m.now)) (s' : sign' ≡ sign_of (fields m.now)) → made sign frame t s ≡ made sign' frame' t' s'
  by_sign {sign} {sign'} {frame} {frame'} d e t t' s s' =
      subst (λ (x : Bool). (u : x ≡ sign_of (fields m.now)) → made sign frame t s ≡ made x frame' t' u) d (λ u. by_frame sign e t t' s u) s'

ok_same : {f g : Frame} → ◌≡◌ {A = Result Frame Refusal} (Ok f) (Ok g) → f ≡ g
ok_same e = cc

pub fields_one : (f g : Fields) → f.form ≡ g.form → f.message ≡ g.message → f ≡ g
fields_one f g p q = by_form p q g.taken g.signed
  where
    by_form : {form : Form} {m : Bor (List ℕ)} → f.form ≡ form → f.message ≡ m → (t : frame_of form m.now ≡ Ok g.frame) (s : g.sign ≡ sign_of (fields m.now)) → f ≡ made form m g.sign g.frame t s
    by_form {form} {m} p q t s =
        subst (λ (y : Form). (u : frame_of y m.now ≡ Ok g.frame) → f ≡ made y m g.sign g.frame u s) p
        (λ u. subst (λ (n : Bor (List ℕ)). (v : frame_of f.form n.now ≡ Ok g.frame) (w : g.sign ≡ sign_of (fields n.now)) → f ≡ made f.form n g.sign g.frame v w) q
        (λ v w. by_sign f.form f.message (f.signed ∙ sym w) (ok_same (sym f.taken ∙ v)) f.taken v f.signed w) u s) t

-- any two outcomes of `judged` are equal
pub handed_one : (form : Form) (m : Bor (List ℕ)) (v : Verdict) (r s : Result Fields Refusal) → HandsOn form m v r → HandsOn form m v s → r ≡ s
handed_one form m v (Ok f) (Ok g) p q = ap Ok (fields_one f g (p.1 ∙ sym q.1) (p.2 ∙ sym q.2))
handed_one form m v (Ok f) (Err k) p q = absurd (fine_broken k.number k.place (sym p.0 ∙ q))
handed_one form m v (Err j) (Ok g) p q = absurd (fine_broken j.number j.place (sym q.0 ∙ p))
handed_one form m v (Err j) (Err k) p q = ap Err (err_same (sym p ∙ q))
  where
    err_same : {a b : Refusal} → ◌≡◌ {A = Verdict} (Err a) (Err b) → a ≡ b
    err_same e = cc

module _ (form : Form) (m : List ℕ) where
  -- accepted exactly if no rule is broken, and refused exactly by the first that is
  pub message_accepts : (verdict_of form m ≡ Fine) ↔ Clean (message_rules form m)
  unfolding verdict_of
  message_accepts = accepted_iff (message_rules form m)

  pub message_refuses : (n p : ℕ) → (verdict_of form m ≡ Broken n p) ↔ FirstOf (message_rules form m) n p
  unfolding verdict_of
  message_refuses n p = refused_iff (message_rules form m) n p

  pub frame_clean : verdict_of form m ≡ Fine → refusal form m ≡ Fine
  frame_clean e = (then_clean (refusal form m) (first (content_rules form m)) (sym (verdict_by form m) ∙ e)).0

  -- each content is right
  pub contents_right : verdict_of form m ≡ Fine → all (right_field form (sign_of (fields m))) (fields m) ≡ true
  contents_right e = (rule_8_fine form m).0 (accepted_rules form m e).inside.contents

  -- and so it is as the grammar says
  pub accepted_right : verdict_of form m ≡ Fine → EachRight form (sign_of (fields m)) (fields m)
  accepted_right e = (rule_8_right form m).0 (accepted_rules form m e).inside.contents

  -- where 18 and 1 to 7 leave it alone, a message with a field that isn't right is refused by 8, where the content of the first such field starts
  pub wrong_refused : (p : ℕ) → refusal form m ≡ Fine → FirstWrong form (sign_of (fields m)) 5 (fields m) p → verdict_of form m ≡ Broken 8 p
  wrong_refused p e w = verdict_by form m ∙ ap₂ (λ (u v : Verdict). then u (then v (first (inner_rules form (fields m))))) e ((rule_8_broken form m p).1 w)

  -- no date is wrong
  pub days_right : verdict_of form m ≡ Fine → first_bad 9 no_day (values_in form 5 (fields m)) ≡ Fine
  unfolding rule_9
  days_right e = (accepted_rules form m e).inside.days

  -- and no currency
  pub roubles_only : verdict_of form m ≡ Fine → first_bad 10 foreign (values_in form 5 (fields m)) ≡ Fine
  unfolding rule_10
  roubles_only e = (accepted_rules form m e).inside.currency

  -- ---- what a caller learns of the answer
  pub refused_as : {r : Refusal} → Err r ≡ judged_of form m → verdict_of form m ≡ Err r
  unfolding judged_of
  refused_as e = answered_err _ (verdict_of form m) e

  module _ {f : Frame} (e : Ok f ≡ judged_of form m) where
    pub accepted_is : verdict_of form m ≡ Fine
    unfolding judged_of
    accepted_is = (answered_ok (verdict_of form m) e).0

    pub judged_whole : f ≡ fields_found form m
    unfolding judged_of
    judged_whole = (answered_ok (verdict_of form m) e).1

    pub judged_found : Found form m f.spots f.present
    unfolding fields_found
    judged_found = record { clean = frame_clean accepted_is; spots_are = ap (λ (g : Frame). g.spots) judged_whole; word_is = ap (λ (g : Frame). g.present) judged_whole }
