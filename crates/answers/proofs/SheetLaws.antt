-- The answer of `tosheet`: the type in front, then the message's sheet or its refusal; any two outcomes are equal, 10,000 bytes always have room,
-- and what stands behind the first 10,005 bytes changes nothing (R1, R3, O1, K9). Assumes nothing.
use Prim.Native.Nat.{ℕ, zero, suc, ◌+◌, ◌<◌, ◌≤◌}
use mathlib.Core.Path.{◌≡◌, refl, sym, ap, ap₂, ◌∙◌, subst}
use mathlib.Core.Bool.{Bool, true, false}
use mathlib.Core.List.{List, [], ◌∷◌}
use mathlib.Core.Logic.{◌↔◌}
use native.Mathlib.Omega.{arith}
use native.Mathlib.Decide.{dec_lt}
use lib.ListN.{length, take, length-drop}
use lib.Seq.{take_all, length-take-le}
use Rattle.std.specs.Prelude.{Err}
use Rattle.base.specs.Choice.{pick}
use Rattle.base.specs.Bytes.{byte}
use Rattle.base.specs.Rules.{then, first}
use Rattle.base.specs.Calls.{short, over}
use Rattle.base.specs.Verdicts.{Verdict, Fine, Broken, Outcome, Done, Refused, answered}
use Rattle.base.proofs.RuleLaws.{fine_broken, first_last, then_clean, same_broken}
use Rattle.base.proofs.CallLaws.{gives_one, gives_refused, gives_past, not_short, is_long}
use Rattle.fields.specs.Frame.{limit, rule_1}
use Rattle.types.specs.Form.{form_of}
use Rattle.types.specs.declared.Form.{Form}
use Rattle.types.specs.Walk.{rule_18}
use Rattle.message.specs.Message.{message_rules, verdict_of}
use Rattle.message.proofs.SmallLaws.{verdict_small}
use Rattle.frame.proofs.SmallLaws as verdicts
use Rattle.records.specs.Rule19.{type_number}
use Rattle.sheets.specs.Calls.{read_rules, SheetTo}
use Rattle.sheets.proofs.SizeLaws.{sheet_size}
use Rattle.answers.specs.Line.{refusal_line, shown, Shows}
use Rattle.answers.specs.Programs.{names_type, message_in, type_rule, sheet_verdict, sheet_in, sheet_answer, named_outcome, SheetAnswered, input_read, form_for}
use Rattle.answers.specs.Steps.{ReadsNamed, shown_of}
use Rattle.answers.proofs.CallLaws.{shown_is, done_shown, shows_done, shows_front}
use Rattle.answers.proofs.LineTheorems.{sheet_apart, text_exact, line_exact, line_fits}

-- any two outcomes are equal, lent units counted
pub sheet_answer_one : (i out : List ℕ) {r q : Outcome} {a b : List ℕ} → SheetAnswered i out r a → SheetAnswered i out q b → (r ≡ q) × (a ≡ b)
unfolding SheetAnswered
sheet_answer_one i out g h = gives_one g h

-- ---- the type in front
pub reads_untyped : (i m : List ℕ) → names_type i ≡ false → ReadsNamed i m (Refused 18 0) m
reads_untyped i m e = gives_refused _ _ m 18 0 (ap (λ (b : Bool). then (pick b Fine (Broken 18 0)) (first (read_rules (form_for i) (message_in i) m))) e)

pub reads_typed : (i m : List ℕ) {n : ℕ} {form : Form} {t after : List ℕ} {r : Outcome} → names_type i ≡ true → n ≡ type_number i → form ≡ form_of n → t ≡ message_in i → SheetTo form t m r after → ReadsNamed i m r after
unfolding SheetTo
reads_typed i m {n} {form} {t} {after} {r} e k f q g =
    gives_past (ap (λ (b : Bool). pick b Fine (Broken 18 0)) e)
    (subst (λ (x : List ℕ). SheetTo (form_for i) x m r after) q (subst (λ (x : Form). SheetTo x t m r after) (f ∙ ap form_of k) g))

-- ---- with room enough for a sheet, 17 makes no difference
room_last : (i m : List ℕ) → (sheet_verdict i ≡ Fine → length (sheet_in i) ≤ length m) → first (type_rule i ∷ read_rules (form_for i) (message_in i) m) ≡ sheet_verdict i
room_last i m h = first_last (type_rule i ∷ message_rules (form_for i) (message_in i)) (short (sheet_in i) m) ∙ go (sheet_verdict i) refl
  where
    go : (v : Verdict) → sheet_verdict i ≡ v → then v (short (sheet_in i) m) ≡ v
    go (Err r) e = refl
    go Fine e = not_short (sheet_in i) m (h e)

-- and 10,000 bytes are enough
fine_size : (i : List ℕ) → sheet_verdict i ≡ Fine → length (sheet_in i) ≤ limit
unfolding verdict_of
fine_size i e = sheet_size (form_for i) (message_in i) (then_clean (type_rule i) (first (message_rules (form_for i) (message_in i))) e).1

module _ (i old m : List ℕ) (l : length old ≡ limit) (a : Outcome) (g : ReadsNamed i old a m) where
  pub sheet_answered : {out after : List ℕ} {r : Outcome} → Shows (shown_of a m) out r after → SheetAnswered i out r after
  unfolding SheetAnswered sheet_answer
  sheet_answered {out} {after} {r} h =
      subst (λ (t : List ℕ). Shows t out r after) (shown_is _ _ old m g ∙ ap (λ (v : Verdict). shown v (sheet_in i)) (room_last i old (λ e. omega (arith, fine_size i e)))) h

-- ---- the two ways, whatever room the call has that is enough for the sheet
module _ (i out : List ℕ) (r : Outcome) (after : List ℕ) (g : SheetTo (form_for i) (message_in i) out r after) where
  -- the whole call: 18 where no type is named
  whole_outcome : named_outcome i r ≡ answered (first (type_rule i ∷ read_rules (form_for i) (message_in i) out)) (length (sheet_in i))
  unfolding SheetTo
  whole_outcome = go (names_type i)
    where
      go : (b : Bool) → pick b r (Refused 18 0) ≡ answered (then (pick b Fine (Broken 18 0)) (first (read_rules (form_for i) (message_in i) out))) (length (sheet_in i))
      go true = g.answers
      go false = refl

  pub answer_sheet : (n : ℕ) → named_outcome i r ≡ Done n → sheet_answer i ≡ take n after
  unfolding SheetTo sheet_answer
  answer_sheet n = go (names_type i)
    where
      go : (b : Bool) → pick b r (Refused 18 0) ≡ Done n → shown (then (pick b Fine (Broken 18 0)) (first (message_rules (form_for i) (message_in i)))) (sheet_in i) ≡ take n after
      go true e =
          done_shown (read_rules (form_for i) (message_in i) out) (sheet_in i) out after g e (first (message_rules (form_for i) (message_in i)))
          (λ f. (then_clean (first (message_rules (form_for i) (message_in i))) (short (sheet_in i) out) (sym (first_last (message_rules (form_for i) (message_in i)) (short (sheet_in i) out)) ∙ f)).0)
      go false e = let z : ◌≡◌ {A = ℕ} 0 1 = cc in absurd (omega arith)

  module _ (h : length (sheet_in i) ≤ length out) where
    sheet_outcome : named_outcome i r ≡ answered (sheet_verdict i) (length (sheet_in i))
    sheet_outcome = whole_outcome ∙ ap (λ (v : Verdict). answered v (length (sheet_in i))) (room_last i out (λ e. h))

    -- the sheet exactly if a type is named and the call writes it, a refusal's line exactly if the call gives that refusal, or 18 for want of a type
    pub exact_sheet : (sheet_answer i ≡ sheet_in i) ↔ (named_outcome i r ≡ Done (length (sheet_in i)))
    unfolding sheet_answer
    exact_sheet = text_exact (sheet_verdict i) (sheet_in i) (sheet_apart (form_for i) (message_in i)) (named_outcome i r) sheet_outcome

    pub exact_sheet_refused : (n p : ℕ) → (sheet_answer i ≡ refusal_line n p) ↔ (named_outcome i r ≡ Refused n p)
    unfolding sheet_answer
    exact_sheet_refused = line_exact (sheet_verdict i) (sheet_in i) (sheet_apart (form_for i) (message_in i)) (named_outcome i r) sheet_outcome

-- ---- it fits 10,000 bytes
fits_by : (i : List ℕ) (v : Verdict) → sheet_verdict i ≡ v → length (shown v (sheet_in i)) ≤ limit
unfolding verdict_of
fits_by i Fine e = fine_size i e
fits_by i (Err r) e = go (names_type i) (first (message_rules (form_for i) (message_in i))) (verdict_small (form_for i) (message_in i)) e
  where
    go : (b : Bool) (v : Verdict) → verdicts.Small limit v → then (pick b Fine (Broken 18 0)) v ≡ Broken r.number r.place → length (refusal_line r.number r.place) ≤ limit
    go true Fine s f = absurd (fine_broken r.number r.place f)
    go true (Err u) s f = let k = same_broken f in omega (arith, line_fits r.number r.place (omega (arith, k.0, s.0)) (omega (arith, k.1, s.1)))
    go false v s f = let k = same_broken f in omega (arith, line_fits r.number r.place (omega (arith, k.0)) (omega (arith, k.1)))

pub sheet_answer_fits : (i : List ℕ) → length (sheet_answer i) ≤ limit
unfolding sheet_answer
sheet_answer_fits i = fits_by i (sheet_verdict i) refl

pub sheet_done : (i out after : List ℕ) (r : Outcome) → limit ≤ length out → SheetAnswered i out r after → (r ≡ Done (length (sheet_answer i))) × (after ≡ over (sheet_answer i) out)
unfolding SheetAnswered
sheet_done i out after r h g = shows_done (sheet_answer i) out after r (omega (arith, sheet_answer_fits i)) g

pub sheet_front : (i out after : List ℕ) (r : Outcome) (k : ℕ) → SheetAnswered i out r after → r ≡ Done k → (k ≤ length after) × (take k after ≡ sheet_answer i)
unfolding SheetAnswered
sheet_front i out after r k g e = shows_front (sheet_answer i) out after r k g e

-- ---- what stands behind the first 10,005 bytes changes nothing
over_verdict : (form : Form) (m : List ℕ) → limit < length m → verdict_of form m ≡ then (rule_18 form) (Broken 1 limit)
unfolding verdict_of rule_1
over_verdict form m h = rw (is_long limit m h)

over_answer : (i : List ℕ) → limit < length (message_in i) → sheet_verdict i ≡ then (type_rule i) (then (rule_18 (form_for i)) (Broken 1 limit))
unfolding verdict_of
over_answer i h = ap (then (type_rule i)) (over_verdict (form_for i) (message_in i) h)

never_fine : (v w : Verdict) (n p : ℕ) → then v (then w (Broken n p)) ≡ Fine → ⊥
never_fine Fine Fine n p e = fine_broken n p (sym e)
never_fine Fine (Err r) n p e = fine_broken r.number r.place (sym e)
never_fine (Err r) w n p e = fine_broken r.number r.place (sym e)

shown_same : (v w : Verdict) (t u : List ℕ) → v ≡ w → (v ≡ Fine → ⊥) → shown v t ≡ shown w u
shown_same v Fine t u e n = absurd (n e)
shown_same v (Err r) t u e n = ap (λ (x : Verdict). shown x t) e

same_front : (i : List ℕ) (n k : ℕ) → k < n → byte (take n i) k ≡ byte i k
same_front i zero k h = absurd (omega arith)
same_front [] (suc n) k h = refl
same_front (x ∷ i) (suc n) zero h = refl
same_front (x ∷ i) (suc n) (suc k) h = same_front i n k (omega arith)

module _ (i j : List ℕ) (a : byte j 0 ≡ byte i 0) (b : byte j 1 ≡ byte i 1) (c : byte j 2 ≡ byte i 2) where
  number_same : type_number j ≡ type_number i
  number_same = rw (a, b, c) refl

  type_same : byte j 3 ≡ byte i 3 → names_type j ≡ names_type i
  unfolding names_type
  type_same d = rw (a, b, c, d) refl

pub sheet_answer_read : (i : List ℕ) → sheet_answer (take input_read i) ≡ sheet_answer i
unfolding sheet_answer
sheet_answer_read i = go (dec_lt (limit + 5) (length i))
  where
    j : List ℕ
    j = take (limit + 5) i

    same : (k : ℕ) → k < limit + 5 → byte j k ≡ byte i k
    same k h = same_front i (limit + 5) k h

    forms : form_for j ≡ form_for i
    forms = ap form_of (number_same i j (same 0 (omega arith)) (same 1 (omega arith)) (same 2 (omega arith)))

    types : names_type j ≡ names_type i
    types = type_same i j (same 0 (omega arith)) (same 1 (omega arith)) (same 2 (omega arith)) (same 3 (omega arith))

    go : Dec (limit + 5 < length i) → sheet_answer j ≡ sheet_answer i
    go (no h) = ap sheet_answer (take_all (limit + 5) i (omega arith))
    go (yes h) =
        let a : limit < length (message_in j) = omega (arith, length-drop 4 j, length-take-le (limit + 5) i (omega arith)) in
        let b : limit < length (message_in i) = omega (arith, length-drop 4 i) in
        let v : sheet_verdict j ≡ sheet_verdict i =
        over_answer j a ∙ ap₂ (λ (q : Bool) (k : Form). then (pick q Fine (Broken 18 0)) (then (rule_18 k) (Broken 1 limit))) types forms ∙ sym (over_answer i b) in
        shown_same (sheet_verdict j) (sheet_verdict i) _ _ v (λ e. never_fine (type_rule j) (rule_18 (form_for j)) 1 limit (sym (over_answer j a) ∙ e))
