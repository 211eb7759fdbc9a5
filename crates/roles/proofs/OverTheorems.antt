-- 21 is given exactly if the first 72 has a rest of the details, and this and what stands in 70 come to more than they may; at its /NZP/. Assumes
-- nothing.
use Prim.Native.Nat.{ℕ, ◌+◌, ◌≤◌, ◌<◌}
use mathlib.Core.Path.{◌≡◌, refl, sym, ap, ◌∙◌}
use mathlib.Core.Bool.{Bool, true, false}
use mathlib.Core.List.{List, [], ◌∷◌, ◌++◌}
use mathlib.Core.Logic.{◌↔◌}
use native.Mathlib.Omega.{arith}
use lib.Dec.{ltb}
use lib.ListN.{length, length-append}
use borrow.Author.Tests.{ltb-true, lt-ltb}
use Rattle.std.specs.Prelude.{Err, Option, None, Some}
use Rattle.base.specs.Choice.{pick}
use Rattle.base.specs.Bytes.{same}
use Rattle.base.specs.Examples.{AllHold}
use Rattle.base.specs.Quoted.{bytes}
use Rattle.base.specs.Verdicts.{Verdict, Fine, Broken}
use Rattle.base.proofs.ByteLaws.{same_is}
use Rattle.base.proofs.RuleLaws.{fine_broken, same_broken}
use Rattle.fields.specs.Field.{Field, field, tag_of, lined, lines_of}
use Rattle.fields.specs.Places.{lines_size, start_of, next_of}
use Rattle.fields.proofs.PlaceLaws.{size_append}
use Rattle.types.specs.Sentences.{end_of_fields}
use Rattle.types.specs.declared.Form.{Form}
use Rattle.types.specs.declared.Form.TheVariants.{Other, Mt103, Mt202}
use Rattle.contents.specs.Parts.{opens_rpp}
use Rattle.roles.specs.Places.{verdict_at}
use Rattle.roles.specs.Rule21.{most, size_72, over_from, over_most, of_first, bytes_in_70, rule_21}
use Rattle.roles.specs.Sentences.{Rest, alone, behind_rpp, Over}

-- ---- over the lines of a 72
record OverIn (n : ℕ) (ls : List (List ℕ)) (q : ℕ) : Type 0 where
  rest : List (List ℕ)
  has : Rest ls q rest
  many : most < n + size_72 rest

nowhere_at : (q : ℕ) → None ≡ Some q → ⊥
nowhere_at q e = let z : ◌≡◌ {A = ℕ} 0 1 = cc in omega arith

same_at : {p q : ℕ} → Some p ≡ Some q → p ≡ q
same_at e = cc

from_over : (n o : ℕ) (l : List ℕ) (ls : List (List ℕ)) (q : ℕ) → over_from n o (l ∷ ls) ≡ Some q → (o ≡ q) × (most < n + size_72 (l ∷ ls))
from_over n o l ls q e = go (ltb most (n + size_72 (l ∷ ls))) refl e
  where
    go : (b : Bool) → ltb most (n + size_72 (l ∷ ls)) ≡ b → pick b (Some o) None ≡ Some q → (o ≡ q) × (most < n + size_72 (l ∷ ls))
    go true g e = (same_at e, ltb-true most (n + size_72 (l ∷ ls)) g)
    go false g e = absurd (nowhere_at q e)

over_in : (n : ℕ) (ls : List (List ℕ)) (q : ℕ) → over_most n ls ≡ Some q → OverIn n ls q
unfolding over_most
over_in n [] q e = absurd (nowhere_at q e)
over_in n (l ∷ ls) q e = go (opens_rpp l) refl ls e
  where
    go : (b : Bool) → opens_rpp l ≡ b → (ks : List (List ℕ)) → pick b (over_from n (length l + 2) ks) (over_from n 0 (l ∷ ks)) ≡ Some q → OverIn n (l ∷ ks) q
    go false g ks e = let w = from_over n 0 l ks q e in rw (← w.0) (record { rest = l ∷ ks; has = alone l ks g; many = w.1 })
    go true g [] e = absurd (nowhere_at q e)
    go true g (k ∷ ks) e = let w = from_over n (length l + 2) k ks q e in rw (← w.0) (record { rest = k ∷ ks; has = behind_rpp l k ks g; many = w.1 })

in_over : (n : ℕ) {ls rs : List (List ℕ)} {q : ℕ} → Rest ls q rs → most < n + size_72 rs → over_most n ls ≡ Some q
unfolding over_most
in_over n (alone l ls g) h =
    ap (λ (b : Bool). pick b (over_from n (length l + 2) ls) (over_from n 0 (l ∷ ls))) g ∙ ap (λ (b : Bool). pick b (Some 0) None) (lt-ltb most (n + size_72 (l ∷ ls)) h)
in_over n (behind_rpp r l ls g) h =
    ap (λ (b : Bool). pick b (over_from n (length r + 2) (l ∷ ls)) (over_from n 0 (r ∷ l ∷ ls))) g ∙ ap (λ (b : Bool). pick b (Some (length r + 2)) None) (lt-ltb most (n + size_72 (l ∷ ls)) h)

-- the rest begins in the content
rest_within : {ls rs : List (List ℕ)} {q : ℕ} → Rest ls q rs → q + 2 ≤ lines_size ls
rest_within (alone l ls g) = omega arith
rest_within (behind_rpp r l ls g) = omega arith

-- ---- over the fields
abbrev over_72 : ℕ → ℕ → List Field → Verdict
over_72 n o fs = of_first (bytes "72") Fine (λ s ls. verdict_at 21 s (over_most n ls)) o fs

record Spotted (s : ℕ) (v : Option ℕ) (k p : ℕ) : Type 0 where
  at : ℕ
  is : v ≡ Some at
  number : k ≡ 21
  place : p ≡ s + at

spotted : (s : ℕ) (v : Option ℕ) (k p : ℕ) → verdict_at 21 s v ≡ Broken k p → Spotted s v k p
spotted s None k p e = absurd (fine_broken k p e)
spotted s (Some q) k p e = let w = same_broken e in record { at = q; is = refl; number = sym w.0; place = sym w.1 }

over_says : (n o : ℕ) (fs : List Field) (k p : ℕ) → over_72 n o fs ≡ Broken k p → (k ≡ 21) × Over n o fs p
over_says n o [] k p e = absurd (fine_broken k p e)
over_says n o (field t ls ∷ fs) k p e = go (same t (bytes "72")) refl e (over_says n (next_of o (field t ls)) fs k p)
  where
    go : (b : Bool) → same t (bytes "72") ≡ b → pick b (verdict_at 21 (start_of o (field t ls)) (over_most n ls)) (over_72 n (next_of o (field t ls)) fs) ≡ Broken k p
        → (over_72 n (next_of o (field t ls)) fs ≡ Broken k p → (k ≡ 21) × Over n (next_of o (field t ls)) fs p) → (k ≡ 21) × Over n o (field t ls ∷ fs) p
    go true g e r =
        let w = spotted (start_of o (field t ls)) (over_most n ls) k p e in
        let i = over_in n ls w.at w.is in
        let z = same_is t (bytes "72") g in (
          w.number,
          record {
            before = [];
            behind = fs;
            lines = ls;
            list = ap (λ (u : List ℕ). field u ls ∷ fs) z;
            first = tt;
            from = w.at;
            rest = i.rest;
            has = i.has;
            many = i.many;
            place = w.place ∙ ap (λ (u : List ℕ). o + 2 + length u + w.at) z;
          },
        )
    go false g e r =
        let w = r e in
        let i = w.1 in (
          w.0,
          record {
            before = field t ls ∷ i.before;
            behind = i.behind;
            lines = i.lines;
            list = ap (λ (gs : List Field). field t ls ∷ gs) i.list;
            first = (g, i.first);
            from = i.from;
            rest = i.rest;
            has = i.has;
            many = i.many;
            place = i.place;
          },
        )

passed : (n o : ℕ) (before : List Field) (fs : List Field) → AllHold (λ (f : Field). same (tag_of f) (bytes "72") ≡ false) before → over_72 n o (before ++ fs) ≡ over_72 n (end_of_fields o before) fs
passed n o [] fs h = refl
passed n o (field t ls ∷ before) fs h =
    ap (λ (b : Bool). pick b (verdict_at 21 (start_of o (field t ls)) (over_most n ls)) (over_72 n (next_of o (field t ls)) (before ++ fs))) h.0
    ∙ passed n (next_of o (field t ls)) before fs h.1

says_over : (n o : ℕ) (fs : List Field) (p : ℕ) → Over n o fs p → over_72 n o fs ≡ Broken 21 p
unfolding same
says_over n o fs p w =
    ap (over_72 n o) w.list ∙ passed n o w.before (field (bytes "72") w.lines ∷ w.behind) w.first
    ∙ ap (verdict_at 21 (start_of (end_of_fields o w.before) (field (bytes "72") w.lines))) (in_over n w.has w.many) ∙ ap (Broken 21) (sym w.place)

-- given exactly so
pub rule_21_iff : (fs : List Field) (k p : ℕ) → (rule_21 Mt103 fs ≡ Broken k p) ↔ ((k ≡ 21) × Over (bytes_in_70 fs) 5 fs p)
unfolding rule_21
rule_21_iff fs k p = (over_says (bytes_in_70 fs) 5 fs k p, λ w. says_over (bytes_in_70 fs) 5 fs p w.1 ∙ ap (λ (n : ℕ). Broken n p) (sym w.0))

pub rule_21_fine : (fs : List Field) → (rule_21 Mt103 fs ≡ Fine) ↔ ((p : ℕ) → Over (bytes_in_70 fs) 5 fs p → ⊥)
rule_21_fine fs = (λ e p w. fine_broken 21 p (sym e ∙ (rule_21_iff fs 21 p).1 (refl, w)), go (rule_21 Mt103 fs) refl)
  where
    go : (v : Verdict) → rule_21 Mt103 fs ≡ v → ((p : ℕ) → Over (bytes_in_70 fs) 5 fs p → ⊥) → v ≡ Fine
    go Fine e h = refl
    go (Err r) e h = absurd (h r.place ((rule_21_iff fs r.number r.place).0 e).1)

-- of no other type
pub rule_21_other : (form : Form) (fs : List Field) (k p : ℕ) → rule_21 form fs ≡ Broken k p → form ≡ Mt103
unfolding rule_21
rule_21_other Mt103 fs k p e = refl
rule_21_other Mt202 fs k p e = absurd (fine_broken k p e)
rule_21_other Other fs k p e = absurd (fine_broken k p e)

-- ---- its place stands in the fields
over_within : (n o : ℕ) (fs : List Field) (k p : ℕ) → over_72 n o fs ≡ Broken k p → p ≤ o + lines_size (lines_of fs)
unfolding over_most
over_within n o [] k p e = absurd (fine_broken k p e)
over_within n o (field t [] ∷ fs) k p e = go (same t (bytes "72")) e (over_within n (next_of o (field t [])) fs k p)
  where
    go : (b : Bool) → pick b Fine (over_72 n (next_of o (field t [])) fs) ≡ Broken k p → (over_72 n (next_of o (field t [])) fs ≡ Broken k p → p ≤ o + 0 + lines_size (lines_of fs)) → p ≤ o + lines_size (lines_of fs)
    go true e r = absurd (fine_broken k p e)
    go false e r = omega (arith, r e)
over_within n o (field t (l ∷ ls) ∷ fs) k p e = go (same t (bytes "72")) e (over_within n (next_of o (field t (l ∷ ls))) fs k p)
  where
    go : (b : Bool) → pick b (verdict_at 21 (start_of o (field t (l ∷ ls))) (over_most n (l ∷ ls))) (over_72 n (next_of o (field t (l ∷ ls))) fs) ≡ Broken k p
        → (over_72 n (next_of o (field t (l ∷ ls))) fs ≡ Broken k p → p ≤ next_of o (field t (l ∷ ls)) + lines_size (lines_of fs)) → p ≤ o + lines_size (lines_of (field t (l ∷ ls) ∷ fs))
    go true e r =
        let w = spotted (start_of o (field t (l ∷ ls))) (over_most n (l ∷ ls)) k p e in
        let i = over_in n (l ∷ ls) w.at w.is in
        omega (arith, w.place, rest_within i.has, length-append t (58 ∷ l), size_append (lined (field t (l ∷ ls))) (lines_of fs))
    go false e r = omega (arith, r e, size_append (lined (field t (l ∷ ls))) (lines_of fs))

pub rule_21_within : (form : Form) (fs : List Field) (k p : ℕ) → rule_21 form fs ≡ Broken k p → (k ≡ 21) × (p ≤ 5 + lines_size (lines_of fs))
unfolding rule_21
rule_21_within Mt103 fs k p e = ((over_says (bytes_in_70 fs) 5 fs k p e).0, over_within (bytes_in_70 fs) 5 fs k p e)
rule_21_within Mt202 fs k p e = absurd (fine_broken k p e)
rule_21_within Other fs k p e = absurd (fine_broken k p e)
