-- What the pass promises, said of the definitions that its contract cites (O1, N1-N7, N18, K1). Assumes nothing.
use Prim.Native.Nat.{ℕ, ◌+◌, ◌≤◌}
use mathlib.Core.Path.{◌≡◌, sym, ap, ◌∙◌, subst}
use mathlib.Core.List.{List}
use mathlib.Core.Logic.{◌↔◌}
use native.Mathlib.Omega.{arith}
use lib.Count.{ones}
use lib.ListN.{length}
use Rattle.base.specs.Bits.{bit}
use Rattle.std.specs.Prelude.{Result, Ok}
use Rattle.base.specs.declared.Refusal.{Refusal}
use Rattle.base.specs.Verdicts.{Verdict, Refused, answered}
use Rattle.base.proofs.RuleLaws.{accepted_iff, refused_iff, answered_ok, answered_err}
use Rattle.base.proofs.CallLaws.{one_answer}
use Rattle.fields.specs.Field.{fields}
use Rattle.types.specs.declared.Form.{Form}
use Rattle.types.specs.Form.{places_of}
use Rattle.base.specs.Rules.{Clean, FirstOf}
use Rattle.frame.specs.declared.Frame.{Frame}
use Rattle.frame.specs.Frame.{frame_rules, refusal, capacity, fields_found, frame_of}
use Rattle.frame.proofs.CallLaws.{taken, found, fields_counted}
use Rattle.types.specs.Sentences.{Present}

-- any two outcomes are equal
pub frame_one : (form : Form) (m : List ℕ) {r s : Result Frame Refusal} → r ≡ frame_of form m → s ≡ frame_of form m → r ≡ s
frame_one form m p q = one_answer p q

module _ (form : Form) (m : List ℕ) where
  -- accepted exactly if no rule is broken, and refused exactly by the first that is
  pub frame_accepts : (frame_of form m ≡ Ok (fields_found form m)) ↔ Clean (frame_rules form m)
  unfolding refusal frame_of
  frame_accepts = (λ e. (accepted_iff (frame_rules form m)).0 ((answered_ok (refusal form m) (sym e)).0), λ c. ap (λ (v : Verdict). answered v (fields_found form m)) ((accepted_iff (frame_rules form m)).1 c))

  pub frame_refuses : (n p : ℕ) → (frame_of form m ≡ Refused n p) ↔ FirstOf (frame_rules form m) n p
  unfolding refusal frame_of
  frame_refuses n p = (λ e. (refused_iff (frame_rules form m) n p).0 (answered_err _ (refusal form m) (sym e)), λ f. ap (λ (v : Verdict). answered v (fields_found form m)) ((refused_iff (frame_rules form m) n p).1 f))

-- an accepted message: its fields are counted, the spots have room for them, and the word has a one for each, at the places present
pub record Sized (form : Form) (m : List ℕ) (f : Frame) : Type 0 where
  pub count : f.fields ≡ length (fields m)
  pub few : f.fields ≤ length (places_of form)
  pub fits : f.fields + 1 ≤ capacity
  pub as_many_ones : ones f.present ≡ f.fields
  pub bits : (i : ℕ) → (bit f.present i ≡ 1) ↔ Present (places_of form) (fields m) i

pub frame_sized : (form : Form) (m : List ℕ) {f : Frame} → Ok f ≡ frame_of form m → Sized form m f
frame_sized form m {f} e =
    let d = found form m e in
    let t = taken form m d.clean in
    let c = fields_counted form m e in
    let s = t.sound in
    let w = d.word_is in
    record {
      count = c;
      few = omega (arith, s.few_fields);
      fits = omega (arith, t.few);
      as_many_ones = ap ones w ∙ s.as_many ∙ sym c;
      bits = λ i. subst (λ (x : ℕ). (bit x i ≡ 1) ↔ Present (places_of form) (fields m) i) (sym w) (s.bits i);
    }
