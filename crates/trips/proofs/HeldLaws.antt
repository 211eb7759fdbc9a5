-- Every field of a message that no rule refuses is held: its tag and lines are as 2, 3 and 4 want them, its content is right by 8, and with
-- the sign no text of it breaks 14 (N2-N4, N8, N14). Assumes nothing.
use Prim.Native.Nat.{ℕ, ◌+◌}
use mathlib.Core.Path.{◌≡◌, refl, ap, ◌∙◌, subst}
use mathlib.Core.Bool.{Bool, true, false≢true}
use mathlib.Core.List.{List, [], ◌∷◌, ◌++◌, map}
use native.Mathlib.Omega.{arith}
use Rattle.base.specs.Choice.{all}
use Rattle.base.specs.Bytes.{xset}
use Rattle.base.specs.Verdicts.{Fine}
use Rattle.base.proofs.Bools.{left, right, both, all_front, all_behind}
use Rattle.base.specs.Examples.{AllHold}
use Rattle.fields.specs.Field.{Field, field, lines_of, fields}
use Rattle.fields.specs.Places.{start_of, next_of}
use Rattle.fields.specs.Shapes.{shaped, goes_on, proper}
use Rattle.fields.proofs.FieldLaws.{fields_proper, fields_in}
use Rattle.types.specs.declared.Form.{Form}
use Rattle.types.specs.Sign.{sign_of}
use Rattle.contents.specs.Rule8.{right_field}
use Rattle.contents.proofs.RuleLaws.{rule_8_fine}
use Rattle.roles.specs.Role.{shape_of}
use Rattle.roles.specs.Speech.{Speech, speech, speeches}
use Rattle.roles.specs.Rule14.{texts, speeches_of}
use Rattle.roles.specs.Sentences.{Heard}
use Rattle.roles.specs.declared.Shape.{Shape}
use Rattle.roles.proofs.BreachLaws.{rule_14_fine}
use Rattle.roles.proofs.BackTableLaws.{speeches_moved}
use Rattle.message.specs.Message.{verdict_of}
use Rattle.message.proofs.RuleLaws.{accepted_rules}
use Rattle.written.proofs.ReadyLaws.{Fair}
use Rattle.trips.proofs.Held.{HeldField}

-- ---- what is heard is heard at any place
heard_front : (xs ys : List Speech) → Heard (xs ++ ys) → Heard xs
heard_front [] ys h = tt
heard_front (speech m o b ∷ xs) ys h = (h.0, heard_front xs ys h.1)

heard_behind : (xs ys : List Speech) → Heard (xs ++ ys) → Heard ys
heard_behind [] ys h = h
heard_behind (speech m o b ∷ xs) ys h = heard_behind xs ys h.1

abbrev further : ℕ → Speech → Speech
further o (speech m p b) = speech m (o + p) b

heard_moved : (o : ℕ) (xs : List Speech) → Heard (map (further o) xs) → Heard xs
heard_moved o [] h = tt
heard_moved o (speech m p b ∷ xs) h = (h.0, heard_moved o xs h.1)

heard_start : (sh : Shape) (o : ℕ) (ls : List (List ℕ)) → Heard (speeches true sh o ls) → Heard (speeches true sh 0 ls)
heard_start sh o ls h =
    let z : o ≡ o + 0 = omega arith in
    heard_moved o (speeches true sh 0 ls) (subst Heard (ap (λ (k : ℕ). speeches true sh k ls) z ∙ speeches_moved true sh o 0 ls) h)

-- ---- field by field, the first colon at o
module _ (form : Form) (s : Bool) where
  each_held : (o : ℕ) (fs : List Field) → all proper fs ≡ true → all (all xset) (lines_of fs) ≡ true → all (right_field form s) fs ≡ true
      → (s ≡ true → Heard (speeches_of form o fs)) → AllHold (HeldField form s) fs
  unfolding speeches_of
  each_held o [] p x r h = tt
  each_held o (field t [] ∷ fs) p x r h = absurd (false≢true p)
  each_held o (field t (l ∷ ls) ∷ fs) p x r h =
      let f : Field = field t (l ∷ ls) in
      let q = left (proper f) (all proper fs) p in
      let u = all_behind xset (58 ∷ t) (58 ∷ l) (left (all xset (58 ∷ (t ++ 58 ∷ l))) _ x) in
      let y = right (all xset (58 ∷ (t ++ 58 ∷ l))) _ x in
      let fair : Fair (l ∷ ls) = record { some = refl; on = right (shaped t) (all goes_on ls) q; inside = both (right (xset 58) (all xset l) u) (all_front (all xset) ls (lines_of fs) y) } in (
        record {
          tagged = left (shaped t) (all goes_on ls) q;
          fair = fair;
          right = left (right_field form s f) _ r;
          heard = λ g. heard_start (shape_of form t) (start_of o f) (l ∷ ls) (heard_front (texts form o f) (speeches_of form (next_of o f) fs) (h g));
        },
        each_held (next_of o f) fs (right (proper f) (all proper fs) p) (all_behind (all xset) ls (lines_of fs) y) (right (right_field form s f) _ r)
            (λ g. heard_behind (texts form o f) (speeches_of form (next_of o f) fs) (h g)),
      )

pub all_held : (form : Form) (m : List ℕ) → verdict_of form m ≡ Fine → AllHold (HeldField form (sign_of (fields m))) (fields m)
all_held form m e =
    let c = accepted_rules form m e in
    let p = c.pass in
    each_held form (sign_of (fields m)) 5 (fields m) (fields_proper m p.lines) (fields_in m p.frame p.bytes p.lines) ((rule_8_fine form m).0 c.inside.contents)
    ((rule_14_fine form (fields m)).0 c.inside.texts)
