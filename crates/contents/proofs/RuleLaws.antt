-- 8 in words, over the grammar; that no right content is empty; and where the sign stands (N8, T1). Assumes nothing.
use Prim.Native.Nat.{ℕ, suc, ◌+◌}
use mathlib.Core.Path.{◌≡◌, refl, sym, ap, ◌∙◌}
use mathlib.Core.Bool.{Bool, true, false, ◌&&◌, ◌||◌, false≢true}
use mathlib.Core.List.{List, [], ◌∷◌, ◌++◌}
use mathlib.Core.Logic.{◌↔◌}
use native.Mathlib.Omega.{arith}
use lib.ListN.{drop}
use Rattle.base.specs.Choice.{pick, all}
use Rattle.base.specs.Bytes.{begins, same}
use Rattle.base.specs.Quoted.{bytes}
use Rattle.base.specs.Says.{Not}
use Rattle.base.specs.Verdicts.{Fine, Broken}
use Rattle.base.proofs.Bools.{left, right, both}
use Rattle.base.proofs.RuleLaws.{fine_broken, same_broken}
use Rattle.base.proofs.SaysLaws.{is_so}
use Rattle.fields.specs.Field.{Field, field, lined, lines_of, fields}
use Rattle.fields.specs.Places.{lines_size, start_of, next_of}
use Rattle.fields.proofs.PlaceLaws.{size_append}
use Rattle.types.specs.declared.Form.{Form}
use Rattle.types.specs.declared.Form.TheVariants.{Other, Mt103, Mt202}
use Rattle.types.specs.Form.{Place, mandatory, places_of, places_103, places_202}
use Rattle.types.specs.Walk.{find, walked}
use Rattle.types.specs.Sign.{first_line, sign_of}
use Rattle.types.proofs.WalkLaws.{seated, walked_accepted}
use Rattle.contents.specs.Tags.{held_by, RightField}
use Rattle.contents.specs.Rule8.{first_wrong, right_field, rule_8, EachRight, FirstWrong}
use Rattle.contents.proofs.FieldTests.{right_says}
use Rattle.types.specs.Sentences.{Seated, Accepted}

-- ---- the test of a field is exact
pub field_says : (form : Form) (sign : Bool) (f : Field) → (right_field form sign f ≡ true) ↔ RightField form sign f
unfolding right_field
field_says form sign (field t ls) = let s = right_says (held_by form t) sign ls in (s.so, is_so s)

pub all_right : (form : Form) (sign : Bool) (fs : List Field) → (all (right_field form sign) fs ≡ true) ↔ EachRight form sign fs
all_right form sign fs = (to fs, from fs)
  where
    to : (fs : List Field) → all (right_field form sign) fs ≡ true → EachRight form sign fs
    to [] e = tt
    to (f ∷ fs) e = ((field_says form sign f).0 (left (right_field form sign f) _ e), to fs (right (right_field form sign f) _ e))

    from : (fs : List Field) → EachRight form sign fs → all (right_field form sign) fs ≡ true
    from [] e = refl
    from (f ∷ fs) e = both ((field_says form sign f).1 e.0) (from fs e.1)

-- ---- a rule that asks the same of every field
module _ (n : ℕ) (test : Field → Bool) (place : ℕ → Field → ℕ) where
  all_pass : (o : ℕ) (fs : List Field) → first_wrong n test place o fs ≡ Fine → all test fs ≡ true
  unfolding first_wrong
  all_pass o [] e = refl
  all_pass o (f ∷ fs) e = go (test f) e (all_pass (next_of o f) fs)
    where
      go : (b : Bool) → pick b (first_wrong n test place (next_of o f) fs) (Broken n (place o f)) ≡ Fine → (first_wrong n test place (next_of o f) fs ≡ Fine → all test fs ≡ true) → (b && all test fs) ≡ true
      go true e r = r e
      go false e r = absurd (fine_broken n (place o f) (sym e))

  pass_all : (o : ℕ) (fs : List Field) → all test fs ≡ true → first_wrong n test place o fs ≡ Fine
  unfolding first_wrong
  pass_all o [] e = refl
  pass_all o (f ∷ fs) e = rw (left (test f) (all test fs) e) (pass_all (next_of o f) fs (right (test f) (all test fs) e))

  at_wrong : (o : ℕ) (us : List Field) (f : Field) (ws : List Field) → all test us ≡ true → test f ≡ false
      → first_wrong n test place o (us ++ f ∷ ws) ≡ Broken n (place (o + lines_size (lines_of us)) f)
  unfolding first_wrong
  at_wrong o [] f ws e q = let z : o ≡ o + 0 = omega arith in rw q (ap (λ (k : ℕ). Broken n (place k f)) z)
  at_wrong o (u ∷ us) f ws e q =
      let s = size_append (lined u) (lines_of us) in
      let z : next_of o u + lines_size (lines_of us) ≡ o + lines_size (lined u ++ lines_of us) = omega arith in
      rw (left (test u) (all test us) e) (at_wrong (next_of o u) us f ws (right (test u) (all test us) e) q ∙ ap (λ (k : ℕ). Broken n (place k f)) z)

  -- it gives no other number
  pub own_number : (o : ℕ) (fs : List Field) (k p : ℕ) → first_wrong n test place o fs ≡ Broken k p → k ≡ n
  unfolding first_wrong
  own_number o [] k p e = absurd (fine_broken k p e)
  own_number o (f ∷ fs) k p e = go (test f) e (own_number (next_of o f) fs k p)
    where
      go : (b : Bool) → pick b (first_wrong n test place (next_of o f) fs) (Broken n (place o f)) ≡ Broken k p → (first_wrong n test place (next_of o f) fs ≡ Broken k p → k ≡ n) → k ≡ n
      go true e r = r e
      go false e r = sym (same_broken e).0

-- ---- 8 in words
pub rule_8_fine : (form : Form) (m : List ℕ) → (rule_8 form m ≡ Fine) ↔ (all (right_field form (sign_of (fields m))) (fields m) ≡ true)
unfolding rule_8
rule_8_fine form m = (all_pass 8 (right_field form (sign_of (fields m))) start_of 5 (fields m), pass_all 8 (right_field form (sign_of (fields m))) start_of 5 (fields m))

-- it is not broken exactly if every field is right
pub rule_8_right : (form : Form) (m : List ℕ) → (rule_8 form m ≡ Fine) ↔ EachRight form (sign_of (fields m)) (fields m)
rule_8_right form m =
    let a = rule_8_fine form m in
    let b = all_right form (sign_of (fields m)) (fields m) in
    (λ e. b.0 (a.0 e), λ e. a.1 (b.1 e))

module _ (form : Form) (sign : Bool) where
  further : (o : ℕ) (f : Field) (fs : List Field) (p : ℕ) → RightField form sign f → FirstWrong form sign (next_of o f) fs p → FirstWrong form sign o (f ∷ fs) p
  further o f fs p e w =
      let s = size_append (lined f) (lines_of w.before) in
      let z : next_of o f + lines_size (lines_of w.before) ≡ o + lines_size (lined f ++ lines_of w.before) = omega arith in
      record {
        before = f ∷ w.before;
        this = w.this;
        after = w.after;
        list = ap (λ (l : List Field). f ∷ l) w.list;
        pass = (e, w.pass);
        wrong = w.wrong;
        at = w.at ∙ ap (λ (k : ℕ). start_of k w.this) z;
      }

  find_wrong : (o : ℕ) (fs : List Field) (p : ℕ) → first_wrong 8 (right_field form sign) start_of o fs ≡ Broken 8 p → FirstWrong form sign o fs p
  unfolding first_wrong
  find_wrong o [] p e = absurd (fine_broken 8 p e)
  find_wrong o (f ∷ fs) p e = go (right_field form sign f) refl e (find_wrong (next_of o f) fs p)
    where
      go : (b : Bool) → right_field form sign f ≡ b → pick b (first_wrong 8 (right_field form sign) start_of (next_of o f) fs) (Broken 8 (start_of o f)) ≡ Broken 8 p
          → (first_wrong 8 (right_field form sign) start_of (next_of o f) fs ≡ Broken 8 p → FirstWrong form sign (next_of o f) fs p) → FirstWrong form sign o (f ∷ fs) p
      go true q e r = further o f fs p ((field_says form sign f).0 q) (r e)
      go false q e r =
          let s : p ≡ start_of o f = sym (same_broken e).1 in
          let z : o ≡ o + 0 = omega arith in
          record {
            before = [];
            this = f;
            after = fs;
            list = refl;
            pass = tt;
            wrong = λ x. false≢true (sym q ∙ (field_says form sign f).1 x);
            at = s ∙ ap (λ (k : ℕ). start_of k f) z;
          }

  not_right : (f : Field) → Not (RightField form sign f) → right_field form sign f ≡ false
  not_right f n = go (right_field form sign f) refl
    where
      go : (b : Bool) → right_field form sign f ≡ b → b ≡ false
      go true e = absurd (n ((field_says form sign f).0 e))
      go false e = refl

-- it is broken at p exactly if p is where the content of the first field starts that isn't right
pub rule_8_broken : (form : Form) (m : List ℕ) (p : ℕ) → (rule_8 form m ≡ Broken 8 p) ↔ FirstWrong form (sign_of (fields m)) 5 (fields m) p
unfolding rule_8
rule_8_broken form m p =
    let s : Bool = sign_of (fields m) in (
      find_wrong form s 5 (fields m) p,
      λ w. ap (first_wrong 8 (right_field form s) start_of 5) w.list ∙ at_wrong 8 (right_field form s) start_of 5 w.before w.this w.after ((all_right form s w.before).1 w.pass) (not_right form s w.this w.wrong)
          ∙ ap (Broken 8) (sym w.at),
    )

-- ---- the sign of a message whose walk is accepted: its first field is 20
starts_20 : (t : List ℕ) (ps : List Place) → Seated (mandatory (bytes "20" ∷ []) ∷ ps) 0 (find (mandatory (bytes "20" ∷ []) ∷ ps) t) → same t (bytes "20") ≡ true
unfolding find
starts_20 t ps s = go (same t (bytes "20")) s
  where
    go : (b : Bool) → Seated (mandatory (bytes "20" ∷ []) ∷ ps) 0 (pick (b || false) 0 (suc (find ps t))) → b ≡ true
    go true s = refl
    go false s = absurd (s.free (record { at = 0; low = omega arith; high = omega arith; mandatory = refl }))

first_20 : (form : Form) (t : List ℕ) → Seated (places_of form) 0 (find (places_of form) t) → same t (bytes "20") ≡ true
unfolding places_103 places_202
first_20 Mt103 t s = starts_20 t (drop 1 places_103) s
first_20 Mt202 t s = starts_20 t (drop 1 places_202) s
first_20 Other t s = absurd (omega (arith, s.within))

abbrev pub first_of : List Field → List ℕ
first_of [] = []
first_of (field t ls ∷ fs) = first_line ls

pub sign_first : (form : Form) (m : List ℕ) → walked form m ≡ Fine → sign_of (fields m) ≡ begins 43 (first_of (fields m))
unfolding sign_of
sign_first form m w = go (fields m) ((walked_accepted form m).0 w)
  where
    go : (fs : List Field) → Accepted (places_of form) 0 fs → sign_of fs ≡ begins 43 (first_of fs)
    go [] a = refl
    go (field t ls ∷ fs) a = rw (first_20 form t (seated (places_of form) 0 t a.fine.0))
