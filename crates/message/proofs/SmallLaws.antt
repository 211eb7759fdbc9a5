-- Numbers and places of a message's refusals are small: each fits one word (K4). Assumes nothing.
use Prim.Native.Nat.{ℕ, ◌+◌, ◌-◌, ◌≤◌}
use mathlib.Core.Path.{◌≡◌, refl, sym, subst}
use mathlib.Core.Bool.{Bool, true, false, false≢true}
use mathlib.Core.List.{List, [], ◌∷◌}
use native.Mathlib.Omega.{arith}
use lib.ListN.{length, length-append}
use Rattle.std.specs.Prelude.{Err}
use Rattle.base.specs.Choice.{pick, all}
use Rattle.base.specs.Rules.{last_number, then, first}
use Rattle.base.specs.Verdicts.{Verdict, Fine, Broken}
use Rattle.base.proofs.Bools.{right}
use Rattle.fields.specs.Field.{Field, field, lined, lines_of, fields}
use Rattle.fields.specs.Frame.{limit}
use Rattle.fields.specs.Places.{lines_size, start_of, next_of}
use Rattle.fields.specs.Shapes.{lineable}
use Rattle.fields.proofs.FieldLaws.{fields_lineable, fields_dash}
use Rattle.fields.proofs.PlaceLaws.{size_append}
use Rattle.types.specs.declared.Form.{Form}
use Rattle.types.specs.Sign.{sign_of}
use Rattle.types.specs.Sentences.{end_of_fields}
use Rattle.frame.specs.Frame.{refusal}
use Rattle.frame.proofs.CallLaws.{Taken, taken}
use Rattle.frame.proofs.SmallLaws.{Small, refusal_small}
use Rattle.contents.specs.Rule8.{first_wrong, right_field, rule_8}
use Rattle.values.specs.Values.{ValueKind, Value, kind_of, place_of, values_in}
use Rattle.values.specs.Judged.{first_bad, rule_9, rule_10, rule_11, rule_12, rule_13}
use Rattle.values.proofs.JudgedLaws.{Ordered, none, next}
use Rattle.values.proofs.ValueLaws.{in_order}
use Rattle.roles.specs.Rule14.{unheard, speeches_of, rule_14}
use Rattle.roles.specs.Rule21.{rule_21}
use Rattle.roles.proofs.BreachLaws.{unheard_within, unheard_number, spoken_within}
use Rattle.roles.proofs.OverTheorems.{rule_21_within}
use Rattle.message.specs.Message.{content_rules, verdict_of}
use Rattle.message.proofs.JudgeLaws.{verdict_by}
use Rattle.message.proofs.RuleLaws.{content_holds}

-- ---- 8: a content starts within its field
wrong_small : (b : ℕ) (test : Field → Bool) (o : ℕ) (fs : List Field) → all lineable fs ≡ true → o + lines_size (lines_of fs) ≤ b → Small b (first_wrong 8 test start_of o fs)
unfolding first_wrong
wrong_small b test o [] a h = tt
wrong_small b test o (field t [] ∷ fs) a h = absurd (false≢true a)
wrong_small b test o (field t (l ∷ ls) ∷ fs) a h =
    let n = length-append t (58 ∷ l) in
    let s = size_append (lined (field t (l ∷ ls))) (lines_of fs) in
    go (test (field t (l ∷ ls))) (wrong_small b test (next_of o (field t (l ∷ ls))) fs (right (lineable (field t (l ∷ ls))) (all lineable fs) a) (omega arith)) (omega arith)
  where
    go : (q : Bool) → Small b (first_wrong 8 test start_of (next_of o (field t (l ∷ ls))) fs) → start_of o (field t (l ∷ ls)) ≤ b
        → Small b (pick q (first_wrong 8 test start_of (next_of o (field t (l ∷ ls))) fs) (Broken 8 (start_of o (field t (l ∷ ls)))))
    go true s g = s
    go false s g = (omega arith, g)

-- ---- 9 to 13: values stand in the fields
ordered_through : {o e : ℕ} {vs : List Value} → Ordered o vs e → o ≤ e
ordered_through (none h) = h
ordered_through (next h r) = omega (arith, ordered_through r)

bad_small : (number : ℕ) (bad : ValueKind → Bool) → number ≤ last_number → {o e : ℕ} {vs : List Value} → Ordered o vs e → Small e (first_bad number bad vs)
unfolding first_bad
bad_small number bad k (none h) = tt
bad_small number bad k {e = e} (next {v = v} {vs = vs} h r) = go (bad (kind_of v)) (bad_small number bad k r)
  where
    go : (q : Bool) → Small e (first_bad number bad vs) → Small e (pick q (Broken number (place_of v)) (first_bad number bad vs))
    go true s = (k, ordered_through r)
    go false s = s

after_size : (o : ℕ) (fs : List Field) → end_of_fields o fs ≡ o + lines_size (lines_of fs)
after_size o [] = omega arith
after_size o (f ∷ fs) = let s = size_append (lined f) (lines_of fs) in omega (arith, after_size (next_of o f) fs)

-- ---- 14: texts stand in the message
texts_small : (b : ℕ) (form : Form) (fs : List Field) → 5 + lines_size (lines_of fs) + 2 ≤ b → Small b (rule_14 form fs)
unfolding rule_14
texts_small b form fs h = go (sign_of fs) (unheard (speeches_of form 5 fs)) refl
  where
    go : (q : Bool) (v : Verdict) → unheard (speeches_of form 5 fs) ≡ v → Small b (pick q v Fine)
    go false v e = tt
    go true Fine e = tt
    go true (Err r) e =
        (omega (arith, unheard_number (speeches_of form 5 fs) r.number r.place e), omega (arith, unheard_within (speeches_of form 5 fs) 7 (5 + lines_size (lines_of fs) + 2) r.number r.place (spoken_within form 5 fs) e))

-- ---- 21: /NZP/ stands in the fields
lengths_small : (b : ℕ) (form : Form) (fs : List Field) → 5 + lines_size (lines_of fs) ≤ b → Small b (rule_21 form fs)
lengths_small b form fs h = go (rule_21 form fs) refl
  where
    go : (v : Verdict) → rule_21 form fs ≡ v → Small b v
    go Fine e = tt
    go (Err r) e = let w = rule_21_within form fs r.number r.place e in (omega (arith, w.0), omega (arith, w.1))

-- ---- the whole
widened : (a b : ℕ) (v : Verdict) → a ≤ b → Small a v → Small b v
widened a b Fine h s = tt
widened a b (Err r) h s = (s.0, omega (arith, s.1))

content_small : (form : Form) (m : List ℕ) → Taken form m → Small limit (first (content_rules form m))
unfolding rule_8 rule_9 rule_10 rule_11 rule_12 rule_13
content_small form m t =
    let fs = fields m in
    let d : 5 + lines_size (lines_of fs) ≡ length m - 2 = fields_dash m t.frame_fine t.bytes_fine t.lines_fine in
    let w = t.within in
    let g = t.long in
    let e : end_of_fields 5 fs ≤ limit = omega (arith, after_size 5 fs) in
    let value : (number : ℕ) (bad : ValueKind → Bool) → number ≤ last_number → Small limit (first_bad number bad (values_in form 5 fs)) =
    λ number bad k. widened (end_of_fields 5 fs) limit (first_bad number bad (values_in form 5 fs)) e (bad_small number bad k (in_order form 5 fs)) in
    content_holds (Small limit) form m tt (record {
      contents = wrong_small limit (right_field form (sign_of fs)) 5 fs (fields_lineable m t.lines_fine) (omega arith);
      days = value 9 _ (omega arith);
      currency = value 10 _ (omega arith);
      banks = value 11 _ (omega arith);
      parties = value 12 _ (omega arith);
      taxes = value 13 _ (omega arith);
      texts = texts_small limit form fs (omega arith);
      lengths = lengths_small limit form fs (omega arith);
    })

-- a message's refusal has a number up to the last and a place up to the limit
pub verdict_small : (form : Form) (m : List ℕ) → Small limit (verdict_of form m)
verdict_small form m = subst (Small limit) (sym (verdict_by form m)) (go (refusal form m) refl (refusal_small form m))
  where
    go : (v : Verdict) → refusal form m ≡ v → Small limit v → Small limit (then v (first (content_rules form m)))
    go Fine e s = content_small form m (taken form m e)
    go (Err r) e s = s
