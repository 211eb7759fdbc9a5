-- Numbers and places of refusals are small, and so are the answers: each fits one word. Assumes nothing.
use Prim.Native.Nat.{ℕ, suc, ◌+◌, ◌-◌, ◌≤◌}
use mathlib.Core.Path.{◌≡◌, refl, sym, ap, ◌∙◌}
use mathlib.Core.Bool.{Bool, true, false}
use mathlib.Core.List.{List, [], ◌∷◌}
use native.Mathlib.Omega.{arith}
use lib.Dec.{eqb, leb, ltb}
use lib.ListN.{length}
use Rattle.std.specs.Prelude.{Err}
use Rattle.base.specs.Choice.{pick}
use Rattle.base.specs.Bytes.{xset, begins, empty}
use Rattle.base.specs.Rules.{last_number, then}
use Rattle.base.specs.Calls.{long}
use Rattle.base.specs.Verdicts.{Verdict, Fine, Broken}
use Rattle.base.proofs.CallLaws.{within_limit}
use Rattle.fields.specs.Field.{Field, tag_of, lined, lines_of, body, lines, fields}
use Rattle.fields.specs.Frame.{limit, rule_1, rule_2, rule_3, rule_4, framed, scan, line_bad, bad_line}
use Rattle.fields.specs.Places.{lines_size, next_of}
use Rattle.fields.proofs.FrameLaws.{rule_2_fine, body_length, body_ended}
use Rattle.fields.proofs.LineLaws.{crlf_lines}
use Rattle.fields.proofs.FieldLaws.{crlf_size, fields_dash}
use Rattle.fields.proofs.PlaceLaws.{size_append}
use Rattle.types.specs.declared.Form.{Form}
use Rattle.types.specs.Form.{Place, places_of}
use Rattle.types.specs.Walk.{find, skips, wrong, walk, rule_18, walked}
use Rattle.frame.specs.Frame.{refusal}

-- a refusal's number is at most the last, and its place at most b
abbrev pub Small : ℕ → Verdict → Type 0
Small b Fine = Unit {0}
Small b (Err r) = (r.number ≤ last_number) × (r.place ≤ b)

then_small : (b : ℕ) (v w : Verdict) → Small b v → (v ≡ Fine → Small b w) → Small b (then v w)
then_small b Fine w s h = h refl
then_small b (Err r) w s h = s

pick_small : (b : ℕ) (q : Bool) (v w : Verdict) → Small b v → Small b w → Small b (pick q v w)
pick_small b true v w s t = s
pick_small b false v w s t = t

scan_small : (b : ℕ) (lf : Bool) (o : ℕ) (xs : List ℕ) → o + length xs ≤ b → Small b (scan lf o xs)
unfolding scan
scan_small b lf o [] h = tt
scan_small b true o (x ∷ xs) h = scan_small b false (suc o) xs (omega arith)
scan_small b false o (x ∷ xs) h =
    let t : Small b (Broken 3 o) = (omega arith, omega arith) in
    pick_small b (eqb x 13) _ _ (pick_small b (begins 10 xs) _ _ (scan_small b true (suc o) xs (omega arith)) t) (pick_small b (xset x) _ _ (scan_small b false (suc o) xs (omega arith)) t)

line_small : (b : ℕ) (f : Bool) (o : ℕ) (ls : List (List ℕ)) → o + lines_size ls ≤ b → Small b (bad_line f o ls)
unfolding bad_line
line_small b f o [] h = tt
line_small b f o (l ∷ ls) h = pick_small b (line_bad f l) (Broken 4 o) (bad_line false (o + length l + 2) ls) (omega arith, omega arith) (line_small b false (o + length l + 2) ls (omega arith))

wrong_small : (ps : List Place) (next q : ℕ) → wrong ps next q ≤ 7
unfolding wrong
wrong_small ps next q = go (leb (length ps) q) (ltb q next) (skips ps next q)
  where
    go : (a b c : Bool) → pick a 5 (pick b 6 (pick c 7 0)) ≤ 7
    go true b c = omega arith
    go false true c = omega arith
    go false false true = omega arith
    go false false false = omega arith

walk_small : (b : ℕ) (ps : List Place) (next o : ℕ) (fs : List Field) → o + lines_size (lines_of fs) ≤ b → Small b (walk ps next o fs)
unfolding walk
walk_small b ps next o [] h = pick_small b (skips ps next (length ps)) (Broken 7 o) Fine (omega arith, omega arith) tt
walk_small b ps next o (f ∷ fs) h =
    let s = size_append (lined f) (lines_of fs) in
    let q : ℕ = find ps (tag_of f) in
    pick_small b (eqb (wrong ps next q) 0) (walk ps (suc q) (next_of o f) fs) (Broken (wrong ps next q) o)
    (walk_small b ps (suc q) (next_of o f) fs (omega arith)) (omega (arith, wrong_small ps next q), omega arith)

pub refusal_small : (form : Form) (m : List ℕ) → Small limit (refusal form m)
unfolding refusal rule_18 rule_1 rule_2 rule_3 rule_4 walked long
refusal_small form m =
    then_small limit (rule_18 form) _ (pick_small limit (empty (places_of form)) (Broken 18 0) Fine (omega arith, omega arith) tt) (λ e18.
    then_small limit (rule_1 m) _ (pick_small limit (ltb limit (length m)) (Broken 1 limit) Fine (omega arith, omega arith) tt) (λ e1.
    let l : length m ≤ limit = within_limit limit m e1 in
    then_small limit (rule_2 m) _ (pick_small limit (framed m) Fine (Broken 2 0) tt (omega arith, omega arith)) (λ e2.
    let w = (rule_2_fine m).0 e2 in
    let c : length (body m) + 7 ≡ length m = body_length m w in
    then_small limit (rule_3 m) _ (scan_small limit false 5 (body m) (omega arith)) (λ e3.
    let d : lines_size (lines (body m)) ≡ length (body m) = sym (crlf_size (lines (body m))) ∙ ap length (crlf_lines 5 (body m) (body_ended m w) e3) in
    then_small limit (rule_4 m) _ (line_small limit true 5 (lines (body m)) (omega arith)) (λ e4.
    let f : 5 + lines_size (lines_of (fields m)) ≡ length m - 2 = fields_dash m e2 e3 e4 in
    then_small limit (walked form m) Fine (walk_small limit (places_of form) 0 5 (fields m) (omega arith)) (λ e5. tt))))))
