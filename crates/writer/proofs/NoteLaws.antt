-- The notes of field 72: their parts as code finds them, and their lines. Assumes nothing.
use Prim.Native.Nat.{ℕ, ◌+◌, ◌-◌, ◌≤◌}
use mathlib.Core.Path.{◌≡◌, refl, sym, ap, subst, ◌∙◌}
use mathlib.Core.Bool.{Bool, true, false}
use mathlib.Core.List.{List, [], ◌∷◌, ◌++◌, append_assoc}
use native.Mathlib.Omega.{arith}
use lib.ListN.{length, take, drop}
use Rattle.writer.specs.Comes.{Step, Put}
use Rattle.base.specs.Choice.{pick}
use Rattle.base.specs.Bytes.{empty, count_up_to}
use Rattle.base.specs.Quoted.{bytes}
use Rattle.base.specs.Rules.{then}
use Rattle.base.specs.Calls.{text_of, placed}
use Rattle.base.proofs.ByteLaws.{is_filled}
use Rattle.base.proofs.Room.{puts_put}
use Rattle.alphabets.specs.Bank.{plainly}
use Rattle.fields.specs.Field.{with_cr_lf}
use Rattle.roles.specs.declared.Shape.TheVariants.{Note202}
use Rattle.records.specs.Found.{pieces_at}
use Rattle.records.specs.Rule19.{detailed, rpp_and_detailed}
use Rattle.records.proofs.PieceLaws.{pieces_at_lem, end_within, piece_length}
use Rattle.details.specs.declared.DetailsField.{DetailsField}
use Rattle.details.specs.declared.DetailsField.TheVariants.{In72, BehindRpp}
use Rattle.details.specs.Front.{rpp_line, note_field}
use Rattle.writer.specs.Spread.{coded, cast_parts, details_lines, rpp_lines, note_lines}
use Rattle.writer.specs.Sheet.{stopped_at, unsaid, crowded_details, crowded_note}
use Rattle.writer.specs.Steps.{Adds, AddsDetails}
use Rattle.writer.proofs.StepLaws.{adds_same, adds_by, adds_front, adds_then, adds_cut}
use Rattle.writer.proofs.PurposeLaws.{some_within}
use Rattle.writer.proofs.PartLaws.{plain_line}

-- ---- one part behind /RPP/
pub rpp_put : (part : List ℕ) (i : ℕ) {out mid after : List ℕ} {at : ℕ} {r : Step} → mid ≡ placed out at (bytes "/RPP/") → Adds (stopped_at i (plainly part)) false (text_of (plainly part) ++ 13 ∷ 10 ∷ []) mid (at + 5) r after
    → Adds (stopped_at i (plainly part)) false (with_cr_lf (rpp_line part ∷ [])) out at r after
rpp_put part i {out} {mid} {after} {at} {r} f a =
    adds_same (stopped_at i (plainly part)) {t = bytes "/RPP/" ++ (text_of (plainly part) ++ 13 ∷ 10 ∷ [])} {u = with_cr_lf (rpp_line part ∷ [])}
    (λ z. ap (λ (t : List ℕ). bytes "/RPP/" ++ (t ++ 13 ∷ 10 ∷ [])) (plain_line part i z) ∙ sym (append_assoc (bytes "/RPP/") part (13 ∷ 10 ∷ [])))
    (adds_front (bytes "/RPP/") (text_of (plainly part) ++ 13 ∷ 10 ∷ []) (puts_put {u = bytes "/RPP/"} refl f) a)

-- ---- what stands behind an RPP line
pub rpp_behind : (rpp : List ℕ) (behind : DetailsField → List (List ℕ)) → empty rpp ≡ false → with_cr_lf (rpp_line rpp ∷ []) ++ with_cr_lf (behind BehindRpp) ≡ with_cr_lf (rpp_lines rpp ++ behind (note_field rpp))
rpp_behind rpp behind e =
    append_assoc (rpp_line rpp) (13 ∷ 10 ∷ []) (with_cr_lf (behind BehindRpp))
    ∙ ap (λ (b : Bool). with_cr_lf (pick b [] (rpp_line rpp ∷ []) ++ behind (pick b In72 BehindRpp))) (sym e)

-- ---- the parts of 72 in a 202
pub empty_part : (p : List ℕ) → length p ≡ 0 → p ≡ []
empty_part [] e = refl
empty_part (x ∷ p) e = absurd (omega arith)

module _ (s : Bool) (l : List ℕ) (i e : ℕ) (q : e ≡ i + count_up_to 9 (drop i l)) (d : rpp_and_detailed (pieces_at 9 l i) ≡ true) where
  inside : i ≤ length l
  inside = some_within rpp_and_detailed l i refl d

  pub note_end : e ≤ length l
  note_end = end_within 9 l i e inside q

  abbrev rpp : List ℕ
  rpp = take (e - i) (drop i l)

  abbrev rest : List (List ℕ)
  rest = pieces_at 9 l (e + 1)

  list : pieces_at 9 l i ≡ rpp ∷ rest
  list = pieces_at_lem 9 l i e inside q

  pub note_detailed : detailed rest ≡ true
  note_detailed = sym (ap rpp_and_detailed list) ∙ d

  rpp_long : length rpp ≡ e - i
  rpp_long = piece_length l i e (omega arith) note_end

  abbrev AddsNote : List (List ℕ) → List ℕ → ℕ → Step → List ℕ → Type 0
  AddsNote ps out at k after = Adds (unsaid s i (cast_parts Note202 ps)) (crowded_note (crowded_details s) ps) (with_cr_lf (note_lines (details_lines s) ps)) out at k after

  abbrev Behind : DetailsField → List ℕ → ℕ → Step → List ℕ → Type 0
  Behind p out at k after = AddsDetails s p (e + 1) rest out at k after

  pub note_empty : {out after : List ℕ} {at : ℕ} {k : Step} → e ≡ i → Behind In72 out at k after → AddsNote (pieces_at 9 l i) out at k after
  unfolding unsaid plainly
  note_empty {out} {after} {at} {k} z a =
      let y : e + 1 ≡ i + 0 + 1 = omega arith in
      subst (λ (ps : List (List ℕ)). AddsNote ps out at k after) (sym (list ∙ ap (λ (p : List ℕ). p ∷ rest) (empty_part rpp (omega (arith, rpp_long)))))
      (subst (λ (o : ℕ). AddsDetails s In72 o rest out at k after) y a)

  module _ (some : e ≡ i → ⊥) where
    full : empty rpp ≡ false
    full = is_filled rpp (λ z. some (omega (arith, rpp_long)))

    note_list : then (stopped_at i (plainly rpp)) (unsaid s (e + 1) (coded rest)) ≡ unsaid s i (cast_parts Note202 (rpp ∷ rest))
    unfolding unsaid
    note_list = let z : e + 1 ≡ i + length rpp + 1 = omega (arith, rpp_long) in ap (λ (o : ℕ). then (stopped_at i (plainly rpp)) (unsaid s o (coded rest))) z

    abbrev Before : List ℕ → ℕ → Step → List ℕ → Type 0
    Before out at r mid = Adds (stopped_at i (plainly rpp)) false (with_cr_lf (rpp_line rpp ∷ [])) out at r mid

    crowded_is : crowded_details s BehindRpp rest ≡ crowded_note (crowded_details s) (rpp ∷ rest)
    crowded_is = ap (λ (b : Bool). crowded_details s (pick b In72 BehindRpp) rest) (sym full)

    lines_are : with_cr_lf (rpp_line rpp ∷ []) ++ with_cr_lf (details_lines s BehindRpp rest) ≡ with_cr_lf (note_lines (details_lines s) (rpp ∷ rest))
    lines_are = rpp_behind rpp (λ p. details_lines s p rest) full

    pub note_on : {out mid after : List ℕ} {at n : ℕ} {r k : Step} → r ≡ Put n → Before out at r mid → Behind BehindRpp mid n k after → AddsNote (pieces_at 9 l i) out at k after
    note_on {out} {mid} {after} {at} {n} {r} {k} g b a =
        let b1 : Before out at (Put n) mid = subst (λ (x : Step). Before out at x mid) g b in
        subst (λ (ps : List (List ℕ)). AddsNote ps out at k after) (sym list)
        (subst (λ (c : Bool). Adds (unsaid s i (cast_parts Note202 (rpp ∷ rest))) c (with_cr_lf (note_lines (details_lines s) (rpp ∷ rest))) out at k after) crowded_is
        (adds_by note_list lines_are (adds_then (stopped_at i (plainly rpp)) (unsaid s (e + 1) (coded rest)) (with_cr_lf (rpp_line rpp ∷ [])) (with_cr_lf (details_lines s BehindRpp rest)) b1 a)))

    pub note_stop : {out mid after : List ℕ} {at : ℕ} (r : Step) → ((m : ℕ) → r ≡ Put m → ⊥) → Before out at r mid → AddsNote (pieces_at 9 l i) out at r after
    note_stop {out} {mid} {after} {at} r nope b =
        subst (λ (ps : List (List ℕ)). AddsNote ps out at r after) (sym list)
        (adds_by {t = with_cr_lf (note_lines (details_lines s) (rpp ∷ rest))} note_list refl
        (adds_cut (stopped_at i (plainly rpp)) (unsaid s (e + 1) (coded rest)) (with_cr_lf (rpp_line rpp ∷ [])) r nope b))
