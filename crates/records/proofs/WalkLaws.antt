-- The lines of a sheet one after another: its sign, the first bad record, and what it comes to. Assumes nothing.
use Prim.Native.Nat.{ℕ, ◌+◌, ◌-◌, ◌<◌, ◌≤◌}
use mathlib.Core.Path.{◌≡◌, refl, sym, ap, ap₂, ◌∙◌}
use mathlib.Core.Bool.{Bool, true, false, true≢false}
use lib.Dec.{eqb}
use borrow.Author.Tests.{eq-eqb, ne_eqb, eqb-true}
use mathlib.Core.List.{List, [], ◌∷◌, map}
use native.Mathlib.Omega.{arith}
use lib.ListN.{length, take, drop, drop_of_length-le}
use lib.Seq.{length-take-le}
use Rattle.std.specs.Prelude.{Err}
use Rattle.base.specs.declared.Refusal.{Refusal}
use Rattle.base.specs.Choice.{pick}
use Rattle.base.specs.Bytes.{begins, empty, same, count_up_to}
use Rattle.base.specs.Quoted.{bytes}
use Rattle.base.specs.Rules.{then}
use Rattle.base.specs.Verdicts.{Verdict, Fine, Broken}
use Rattle.base.proofs.RuleLaws.{then_fine}
use Rattle.base.proofs.ByteLaws.{is_filled}
use Rattle.fields.specs.Field.{field, tag_of}
use Rattle.types.specs.declared.Form.{Form}
use Rattle.types.specs.Walk.{rule_18}
use Rattle.types.specs.Sign.{first_line, sign_of}
use Rattle.types.specs.declared.Form.TheVariants.{Other}
use Rattle.records.specs.Record.{Record, line, pieces, front, final, record_of, records, rest, begun}
use Rattle.records.specs.Found.{parts_in, pieces_at, bad_sheet_line, no_type}
use Rattle.records.specs.Rule19.{good, typed, form_in, named_form, bad_from, judge, sheet_sign, sheet_form, rule_19, verdict_19_and_18, judged}
use Rattle.records.specs.declared.Judged.{Judged}
use Rattle.records.proofs.PieceLaws.{past_end, at_from, pieces_head, end_within, last_at, More, more_at, piece_length, starts_within, piece_end, piece_this}
use Rattle.records.proofs.SheetLaws.{line_record}
use Rattle.records.proofs.FoundLaws.{type_none}

-- ---- the sign
by_tag : (r : Record) (rs : List Record) → sign_of (r ∷ rs) ≡ pick (same (tag_of r) (bytes "20")) (begins 43 (first_line (parts_in r))) (sign_of rs)
unfolding sign_of
by_tag (field t ps) rs = refl

module _ (s : List ℕ) where
  pub sign_start : {xs : List (List ℕ)} → xs ≡ pieces 10 s → sheet_sign s ≡ sign_of (map record_of xs)
  unfolding sheet_sign begun
  sign_start e = sym (ap (λ (ls : List (List ℕ)). sign_of (map record_of ls)) e)

  pub sign_end : {xs : List (List ℕ)} → sheet_sign s ≡ sign_of (map record_of xs) → xs ≡ [] → false ≡ sheet_sign s
  unfolding sign_of
  sign_end h e = sym (h ∙ ap (λ (ls : List (List ℕ)). sign_of (map record_of ls)) e)

  module _ {l t : List ℕ} {xs ls ps : List (List ℕ)} (h : sheet_sign s ≡ sign_of (map record_of xs)) (e : xs ≡ l ∷ ls) (f : record_of l ≡ field t ps) where
    sign_here : (b : Bool) → same t (bytes "20") ≡ b → sheet_sign s ≡ pick b (begins 43 (first_line ps)) (sign_of (map record_of ls))
    sign_here b k =
        h ∙ ap (λ (ls : List (List ℕ)). sign_of (map record_of ls)) e ∙ ap (λ (r : Record). sign_of (r ∷ map record_of ls)) f ∙ by_tag (field t ps) (map record_of ls)
        ∙ ap (λ (b : Bool). pick b (begins 43 (first_line ps)) (sign_of (map record_of ls))) k

    pub sign_hit : {r : Bool} → same t (bytes "20") ≡ true → r ≡ begins 43 (first_line ps) → r ≡ sheet_sign s
    sign_hit k p = p ∙ sym (sign_here true k)

    pub sign_miss : same t (bytes "20") ≡ false → sheet_sign s ≡ sign_of (map record_of ls)
    sign_miss k = sign_here false k

-- ---- the line from i to e
module _ (s : List ℕ) (i e : ℕ) (h : i ≤ length s) (q : e ≡ i + count_up_to 10 (drop i s)) where
  abbrev this : List ℕ
  this = take (e - i) (drop i s)

  -- ---- 19
  sized : length this ≡ e - i
  sized = piece_length s i e (omega arith) (end_within 10 s i e h q)

  module _ (form : Form) (g : Bool) where
    pub bad_last : i < length s → e ≡ length s → Broken 19 i ≡ bad_sheet_line form g i (pieces_at 10 s i)
    unfolding bad_sheet_line
    bad_last k z =
        sym (ap (bad_sheet_line form g i) (last_at 10 s i e h q z)
        ∙ ap (λ (b : Bool). pick b Fine (Broken 19 i)) (is_filled this (λ w. absurd (omega (arith, sized, w)))))

    bad_here : (b : Bool) → (e ≡ length s → ⊥) → good form g (record_of this) ≡ b → bad_sheet_line form g i (pieces_at 10 s i) ≡ pick b (bad_sheet_line form g (e + 1) (pieces_at 10 s (e + 1))) (Broken 19 i)
    unfolding bad_sheet_line
    bad_here b z k =
        let m = more_at 10 s i e h q (omega (arith, end_within 10 s i e h q, z)) in
        let n : i + length this + 1 ≡ e + 1 = omega (arith, sized) in
        ap (bad_sheet_line form g i) m.at
        ∙ ap₂ (λ (b : Bool) (o : ℕ). pick b (bad_sheet_line form g o (m.next ∷ m.behind)) (Broken 19 i)) k n
        ∙ ap (λ (ls : List (List ℕ)). pick b (bad_sheet_line form g (e + 1) ls) (Broken 19 i)) (sym m.on)

    pub bad_hit : (e ≡ length s → ⊥) → good form g (record_of this) ≡ false → Broken 19 i ≡ bad_sheet_line form g i (pieces_at 10 s i)
    bad_hit z k = sym (bad_here false z k)

    pub bad_miss : (e ≡ length s → ⊥) → good form g (record_of this) ≡ true → bad_sheet_line form g i (pieces_at 10 s i) ≡ bad_sheet_line form g (e + 1) (pieces_at 10 s (e + 1))
    bad_miss z k = bad_here true z k

pub bad_end : (s : List ℕ) (i : ℕ) (form : Form) (g : Bool) → i ≤ length s → length s ≤ i → Fine ≡ bad_sheet_line form g i (pieces_at 10 s i)
unfolding bad_sheet_line pieces
bad_end s i form g h k = sym (ap (bad_sheet_line form g i) (at_from 10 s i h ∙ ap (pieces 10) (drop_of_length-le s k)))

pub sized_empty : (l : List ℕ) → eqb (length l) 0 ≡ empty l
sized_empty [] = refl
sized_empty (x ∷ l) = ne_eqb (length (x ∷ l)) 0 (λ e. omega arith)

-- by the line itself: the last is fine where it is empty, any other where it is good
module _ (s : List ℕ) (i : ℕ) (form : Form) (g : Bool) where
  pub bad_done : pieces_at 10 s i ≡ [] → Fine ≡ bad_sheet_line form g i (pieces_at 10 s i)
  unfolding bad_sheet_line
  bad_done e = sym (ap (bad_sheet_line form g i) e)

  module _ {l : List ℕ} {ls : List (List ℕ)} (w : pieces_at 10 s i ≡ l ∷ ls) {fine : Bool} (f : fine ≡ pick (eqb (i + length l) (length s)) (empty l) (good form g (record_of l))) where
    bad_by : (b : Bool) → fine ≡ b → bad_sheet_line form g i (pieces_at 10 s i) ≡ pick b (bad_sheet_line form g (i + length l + 1) (pieces_at 10 s (i + length l + 1))) (Broken 19 i)
    unfolding bad_sheet_line
    bad_by b k = go (eqb e (length s)) refl f
      where
        e : ℕ
        e = i + length l

        h : i ≤ length s
        h = starts_within 10 s i l w

        q : e ≡ i + count_up_to 10 (drop i s)
        q = piece_end 10 s i l w

        go : (t : Bool) → eqb e (length s) ≡ t → fine ≡ pick t (empty l) (good form g (record_of l)) → bad_sheet_line form g i (pieces_at 10 s i) ≡ pick b (bad_sheet_line form g (e + 1) (pieces_at 10 s (e + 1))) (Broken 19 i)
        go true z f =
            let y : e ≡ length s = eqb-true e (length s) z in
            ap (bad_sheet_line form g i) (last_at 10 s i e h q y ∙ ap (λ (x : List ℕ). x ∷ []) (piece_this 10 s i l w))
            ∙ ap₂ (λ (b : Bool) (v : Verdict). pick b v (Broken 19 i)) (sym f ∙ k) (sym (ap (bad_sheet_line form g (e + 1)) (past_end 10 s (e + 1) (omega arith))))
        go false z f =
            bad_here s i e h q form g b (λ y. true≢false (sym (eq-eqb e (length s) y) ∙ z)) (ap (λ (x : List ℕ). good form g (record_of x)) (piece_this 10 s i l w) ∙ sym f ∙ k)

    pub bad_off : fine ≡ false → Broken 19 i ≡ bad_sheet_line form g i (pieces_at 10 s i)
    bad_off k = sym (bad_by false k)

    pub bad_on : fine ≡ true → bad_sheet_line form g i (pieces_at 10 s i) ≡ bad_sheet_line form g (i + length l + 1) (pieces_at 10 s (i + length l + 1))
    bad_on k = bad_by true k

-- over the lines as over the records
pub bad_lines : (form : Form) (g : Bool) (o : ℕ) (ls : List (List ℕ)) → bad_sheet_line form g o ls ≡ bad_from form g o (map record_of (front ls)) (final ls)
unfolding bad_sheet_line bad_from
bad_lines form g o [] = refl
bad_lines form g o (l ∷ []) = refl
bad_lines form g o (l ∷ k ∷ ls) =
    ap (λ (v : Verdict). pick (good form g (record_of l)) v (Broken 19 o))
    (bad_lines form g (o + length l + 1) (k ∷ ls)
    ∙ ap (λ (m : List ℕ). bad_from form g (o + length m + 1) (map record_of (front (k ∷ ls))) (final (k ∷ ls))) (sym (line_record l)))

-- ---- 18 behind 19
pub then_stop : {v x : Verdict} {r : Refusal} (w : Verdict) → v ≡ x → v ≡ Err r → Err r ≡ then x w
then_stop w e b = sym (ap (λ (u : Verdict). then u w) (sym e ∙ b))

pub then_type : {r v x : Verdict} (form : Form) → v ≡ x → v ≡ Fine → r ≡ rule_18 form → r ≡ then x (rule_18 form)
then_type form e f k = k ∙ sym (ap (λ (u : Verdict). then u (rule_18 form)) (sym e ∙ f))

-- ---- the sheet by its first line, which ends at e
abbrev made : Verdict → Form → Bool → Judged
made v k g = record { verdict = v; form = k; sign = g }

module _ (s : List ℕ) (e : ℕ) (q : e ≡ 0 + count_up_to 10 (drop 0 s)) {g : Bool} (w : g ≡ sheet_sign s) where
  pub first_within : e ≤ length s
  first_within = end_within 10 s 0 e (omega arith) q

  pub first_size : e ≡ length (take e s)
  first_size = sym (length-take-le e s first_within)

  pub none_ended : e ≡ length s → records s ≡ []
  unfolding records
  none_ended z =
      ap (λ (ls : List (List ℕ)). map record_of (front ls))
      (pieces_head 10 s e q ∙ ap (λ (ls : List (List ℕ)). take e s ∷ ls) (past_end 10 s (e + 1) (omega arith)))

  pub judge_none : e ≡ length s → no_type g ≡ judged s
  unfolding judged verdict_19_and_18 sheet_form rule_19 judge
  judge_none z =
      let r = none_ended z in
      let v : Broken 19 0 ≡ verdict_19_and_18 s = sym (ap (λ (rs : List Record). then (judge (sheet_sign s) rs (rest s)) (then (rule_18 (sheet_form s)) Fine)) r) in
      let k : Other ≡ sheet_form s = sym (ap named_form r) in
      ap₂ (λ (v : Verdict) (k : Form). made v k g) v k ∙ ap (made (verdict_19_and_18 s) (sheet_form s)) w

  module _ (z : e ≡ length s → ⊥) where
    split : More 10 s 0 e
    split = more_at 10 s 0 e (omega arith) q (omega (arith, first_within, z))

    whole : pieces 10 s ≡ take e s ∷ split.next ∷ split.behind
    whole = pieces_head 10 s e q ∙ ap (λ (ls : List (List ℕ)). take e s ∷ ls) split.on

    pub head_record : records s ≡ record_of (take e s) ∷ map record_of (front (pieces_at 10 s (e + 1)))
    unfolding records
    head_record = ap (λ (ls : List (List ℕ)). map record_of (front ls)) whole ∙ ap (λ (ls : List (List ℕ)). record_of (take e s) ∷ map record_of (front ls)) (sym split.on)

    rest_is : rest s ≡ final (pieces_at 10 s (e + 1))
    unfolding rest
    rest_is = ap final whole ∙ ap final (sym split.on)

    pub judge_untyped : typed (record_of (take e s)) ≡ false → no_type g ≡ judged s
    unfolding judged verdict_19_and_18 sheet_form rule_19 judge
    judge_untyped y =
        let r = head_record in
        let v : Broken 19 0 ≡ verdict_19_and_18 s =
        sym (ap (λ (rs : List Record). then (judge (sheet_sign s) rs (rest s)) (then (rule_18 (sheet_form s)) Fine)) r
        ∙ ap (λ (b : Bool). then (pick b (bad_from (form_in (record_of (take e s))) (sheet_sign s) (0 + length (line (record_of (take e s))) + 1) (map record_of (front (pieces_at 10 s (e + 1)))) (rest s)) (Broken 19 0)) (then (rule_18 (sheet_form s)) Fine)) y) in
        let k : Other ≡ sheet_form s = sym (ap named_form r ∙ type_none (record_of (take e s)) y) in
        ap₂ (λ (v : Verdict) (k : Form). made v k g) v k ∙ ap (made (verdict_19_and_18 s) (sheet_form s)) w

    pub judge_typed : {v : Verdict} {form : Form} → typed (record_of (take e s)) ≡ true → form ≡ form_in (record_of (take e s))
        → v ≡ then (bad_sheet_line form g (e + 1) (pieces_at 10 s (e + 1))) (rule_18 form) → made v form g ≡ judged s
    unfolding judged verdict_19_and_18 sheet_form rule_19 judge
    judge_typed {v} {form} y n u =
        let r = head_record in
        let rs : List Record = map record_of (front (pieces_at 10 s (e + 1))) in
        let k : form ≡ sheet_form s = n ∙ sym (ap named_form r) in
        let n₁ : e ≡ length (line (record_of (take e s))) = first_size ∙ ap length (sym (line_record (take e s))) in
        let o : e + 1 ≡ 0 + length (line (record_of (take e s))) + 1 = omega (arith, n₁) in
        let b : bad_sheet_line form g (e + 1) (pieces_at 10 s (e + 1)) ≡ rule_19 s =
        bad_lines form g (e + 1) (pieces_at 10 s (e + 1))
        ∙ ap₂ (λ (o : ℕ) (x : List ℕ). bad_from form g o rs x) o (sym rest_is)
        ∙ ap₂ (λ (m : Form) (g : Bool). bad_from m g (0 + length (line (record_of (take e s))) + 1) rs (rest s)) n w
        ∙ sym (ap (λ (x : List Record). judge (sheet_sign s) x (rest s)) r
        ∙ ap (λ (c : Bool). pick c (bad_from (form_in (record_of (take e s))) (sheet_sign s) (0 + length (line (record_of (take e s))) + 1) rs (rest s)) (Broken 19 0)) y) in
        let t : v ≡ verdict_19_and_18 s =
        u ∙ ap₂ (λ (x : Verdict) (m : Form). then x (rule_18 m)) b k ∙ ap (then (rule_19 s)) (sym (then_fine (rule_18 (sheet_form s)))) in
        ap₂ (λ (v : Verdict) (k : Form). made v k g) t k ∙ ap (made (verdict_19_and_18 s) (sheet_form s)) w
