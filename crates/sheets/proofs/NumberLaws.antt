-- 17 is never a message's own refusal, rule by rule: it speaks of room alone (O1, N17). Assumes nothing.
use Prim.Native.Nat.{ℕ, suc, ◌+◌}
use mathlib.Core.Path.{◌≡◌, refl}
use mathlib.Core.Bool.{Bool, true, false}
use mathlib.Core.List.{List, [], ◌∷◌}
use native.Mathlib.Omega.{arith}
use lib.Dec.{eqb, ltb}
use lib.ListN.{length}
use Rattle.base.specs.Choice.{pick}
use Rattle.base.specs.Bytes.{xset, begins, empty}
use Rattle.base.specs.Calls.{long}
use Rattle.base.specs.Verdicts.{Verdict, Fine, Broken}
use Rattle.base.proofs.RuleLaws.{fine_broken, same_broken}
use Rattle.fields.specs.Field.{body, lines, fields}
use Rattle.fields.specs.Frame.{limit, rule_1, rule_2, rule_3, rule_4, framed, scan, line_bad, bad_line}
use Rattle.fields.specs.Places.{start_of}
use Rattle.types.specs.declared.Form.{Form}
use Rattle.types.specs.Form.{Place, places_of}
use Rattle.types.specs.Sentences.{Judged, unknown, not_later, skipping, right, Refused, at_field, at_end}
use Rattle.types.specs.Sign.{sign_of}
use Rattle.types.specs.Walk.{rule_18, walked}
use Rattle.types.proofs.WalkLaws.{walked_refused}
use Rattle.contents.specs.Rule8.{right_field, rule_8}
use Rattle.contents.proofs.RuleLaws.{own_number}
use Rattle.values.proofs.RuleLaws.{broken_9, broken_10, broken_11, broken_12, broken_13}
use Rattle.roles.specs.Rule14.{unheard, speeches_of, rule_14}
use Rattle.roles.proofs.BreachLaws.{unheard_number}
use Rattle.roles.proofs.OverTheorems.{rule_21_within}
use Rattle.message.specs.Message.{verdict_of}
use Rattle.message.proofs.RuleLaws.{verdict_holds}

abbrev Never : Verdict → Type 0
Never v = (p : ℕ) → v ≡ Broken 17 p → ⊥

fine_never : Never Fine
fine_never p e = fine_broken 17 p e

other_never : (n q : ℕ) → (n ≡ 17 → ⊥) → Never (Broken n q)
other_never n q h p e = h (same_broken e).0

pick_never : (b : Bool) (v w : Verdict) → Never v → Never w → Never (pick b v w)
pick_never true v w a c = a
pick_never false v w a c = c

-- ---- rule by rule
scan_never : (lf : Bool) (o : ℕ) (xs : List ℕ) → Never (scan lf o xs)
unfolding scan
scan_never lf o [] = fine_never
scan_never true o (x ∷ xs) = scan_never false (suc o) xs
scan_never false o (x ∷ xs) =
    let t : Never (Broken 3 o) = other_never 3 o (λ e. omega arith) in
    pick_never (eqb x 13) _ _ (pick_never (begins 10 xs) _ _ (scan_never true (suc o) xs) t) (pick_never (xset x) _ _ (scan_never false (suc o) xs) t)

line_never : (f : Bool) (o : ℕ) (ls : List (List ℕ)) → Never (bad_line f o ls)
unfolding bad_line
line_never f o [] = fine_never
line_never f o (l ∷ ls) = pick_never (line_bad f l) (Broken 4 o) (bad_line false (o + length l + 2) ls) (other_never 4 o (λ e. omega arith)) (line_never false (o + length l + 2) ls)

fault_never : {ps : List Place} {next : ℕ} {t : List ℕ} {n : ℕ} → Judged ps next t n → n ≡ 17 → ⊥
fault_never (unknown h) e = omega arith
fault_never (not_later q h l) e = omega arith
fault_never (skipping q h l k) e = omega arith
fault_never (right q h l k) e = omega arith

walk_never : (form : Form) (m : List ℕ) → Never (walked form m)
walk_never form m p e = go ((walked_refused form m 17 p).0 e)
  where
    go : Refused (places_of form) 0 5 (fields m) 17 p → ⊥
    go (at_field r) = fault_never r.fault refl
    go (at_end r) = omega (arith, r.number)

-- ---- the refusal
pub verdict_never : (form : Form) (m : List ℕ) (p : ℕ) → verdict_of form m ≡ Broken 17 p → ⊥
unfolding rule_18 rule_1 long rule_2 rule_3 rule_4 rule_8 rule_14
verdict_never form m =
    let fs = fields m in
    verdict_holds Never form m fine_never (record {
      pass = record {
        type = pick_never (empty (places_of form)) (Broken 18 0) Fine (other_never 18 0 (λ e. omega arith)) fine_never;
        size = pick_never (ltb limit (length m)) (Broken 1 limit) Fine (other_never 1 limit (λ e. omega arith)) fine_never;
        frame = pick_never (framed m) Fine (Broken 2 0) fine_never (other_never 2 0 (λ e. omega arith));
        bytes = scan_never false 5 (body m);
        lines = line_never true 5 (lines (body m));
        walk = walk_never form m;
      };
      inside = record {
        contents = λ p e. omega (arith, own_number 8 (right_field form (sign_of fs)) start_of 5 fs 17 p e);
        days = λ p e. omega (arith, ((broken_9 form fs 17 p).0 e).0);
        currency = λ p e. omega (arith, ((broken_10 form fs 17 p).0 e).0);
        banks = λ p e. omega (arith, ((broken_11 form fs 17 p).0 e).0);
        parties = λ p e. omega (arith, ((broken_12 form fs 17 p).0 e).0);
        taxes = λ p e. omega (arith, ((broken_13 form fs 17 p).0 e).0);
        texts = pick_never (sign_of fs) (unheard (speeches_of form 5 fs)) Fine (λ p e. omega (arith, unheard_number (speeches_of form 5 fs) 17 p e)) fine_never;
        lengths = λ p e. omega (arith, (rule_21_within form fs 17 p e).0);
      };
    })
