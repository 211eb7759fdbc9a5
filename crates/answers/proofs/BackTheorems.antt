-- There and back through the two programs: the sheet that `tomessage` wrote comes back, byte for byte; and the sheet that `tosheet` wrote is written
-- again as a message of that sheet, or refused by 16; and why details break where they do in the message that `tomessage` wrote (D2d, D2e, K7, B10,
-- R1-R3). Assumes nothing.
use Prim.Native.Nat.{ℕ, ◌≤◌}
use mathlib.Core.Path.{◌≡◌, refl, sym, ap, ap₂, ◌∙◌, subst}
use mathlib.Core.List.{List, ◌∷◌, ◌++◌}
use mathlib.Core.Logic.{◌⊎◌, inl, inr}
use lib.ListN.{length, take}
use Rattle.base.specs.Bytes.{digit}
use Rattle.base.specs.Rules.{then, first, Clean}
use Rattle.base.specs.Calls.{over}
use Rattle.base.specs.Verdicts.{Verdict, Fine, Broken, Outcome, Done}
use Rattle.base.proofs.RuleLaws.{fine_broken, then_clean, first_clean, clean_first}
use Rattle.fields.specs.Field.{fields}
use Rattle.fields.specs.Frame.{limit}
use Rattle.types.specs.declared.Form.{Form}
use Rattle.types.specs.declared.Form.TheVariants.{Other, Mt103, Mt202}
use Rattle.types.specs.Walk.{rule_18}
use Rattle.types.specs.Sign.{sign_of}
use Rattle.message.specs.Message.{message_rules, verdict_of}
use Rattle.message.proofs.RuleLaws.{accepted_rules}
use Rattle.records.specs.Rule19.{sheet_form}
use Rattle.writer.specs.Sheet.{message_for, sheet_rules, own_rule}
use Rattle.written.proofs.OwnLaws.{own_fine}
use Rattle.sheets.specs.Gather.{type_name, sheet_of}
use Rattle.trips.specs.Again.{CrowdedBehindRpp}
use Rattle.trips.specs.Why.{WhyMessage}
use Rattle.trips.proofs.BackLaws.{type_stands, sheet_back}
use Rattle.trips.proofs.AgainTheorems.{sheet_passes, own_again}
use Rattle.trips.proofs.WhyLaws.{built_why}
use Rattle.answers.specs.Line.{NoLine, shown}
use Rattle.answers.specs.Programs.{message_verdict, message_answer, MessageAnswered, names_type, message_in, form_for, type_rule, sheet_verdict, sheet_in, sheet_answer, SheetAnswered}
use Rattle.answers.specs.Back.{input_of, WritesSheet, Rewritten, again, crowded}
use Rattle.answers.proofs.LineTheorems.{line_apart, shown_fine}
use Rattle.answers.proofs.VerdictLaws.{verdict_by}
use Rattle.answers.proofs.AnswerTheorems.{answer_done, answer_front}
use Rattle.answers.proofs.SheetLaws.{sheet_done, sheet_front}

-- ---- what stands behind the name of one of the two types
named_answer : (form : Form) (m : List ℕ) → rule_18 form ≡ Fine → sheet_answer (type_name form ++ 10 ∷ m) ≡ shown (verdict_of form m) (sheet_of form m)
unfolding rule_18 sheet_answer names_type digit verdict_of
named_answer Mt103 m e = refl
named_answer Mt202 m e = refl
named_answer Other m e = absurd (fine_broken 18 0 (sym e))

-- an accepted message, handed over with the type that its sheet names
own_sheet : (form : Form) (m : List ℕ) → verdict_of form m ≡ Fine → sheet_answer (input_of (sheet_of form m) m) ≡ sheet_of form m
own_sheet form m e =
    let t = (accepted_rules form m e).pass.type in
    ap (λ (p : List ℕ). sheet_answer (p ++ 10 ∷ m)) (type_stands form m t) ∙ named_answer form m t ∙ ap (λ (v : Verdict). shown v (sheet_of form m)) e

-- ---- from a sheet
module _ (s : List ℕ) (e : message_verdict s ≡ Fine) where
  both_fine : (first (sheet_rules s) ≡ Fine) × (own_rule s ≡ Fine)
  both_fine = then_clean (first (sheet_rules s)) (own_rule s) (sym (verdict_by s) ∙ e)

  clean : Clean (sheet_rules s)
  clean = first_clean (sheet_rules s) both_fine.0

  same_back : sheet_answer (input_of s (message_for s)) ≡ s
  same_back =
      ap (λ (x : List ℕ). sheet_answer (input_of x (message_for s))) (sym (sheet_back s clean))
      ∙ own_sheet (sheet_form s) (message_for s) (own_fine s clean both_fine.1) ∙ sheet_back s clean

-- the sheet comes back, where its message is written
pub message_back : (s : List ℕ) → NoLine (message_answer s) → sheet_answer (input_of s (message_answer s)) ≡ s
unfolding message_answer
message_back s h =
    let e = shown_fine (message_verdict s) (message_for s) h in
    ap (λ (v : Verdict). sheet_answer (input_of s (shown v (message_for s)))) e ∙ same_back s e

writes_sheet : (i t : List ℕ) → sheet_answer i ≡ t → WritesSheet i t
writes_sheet i t e out r after k g = subst (λ (x : List ℕ). (r ≡ Done (length x)) × (after ≡ over x out)) e (sheet_done i out after r k g)

-- the same of what the two calls leave
pub programs_back : (s out after : List ℕ) (k : ℕ) → MessageAnswered s out (Done k) after → NoLine (take k after) → WritesSheet (input_of s (take k after)) s
programs_back s out after k g h =
    let f = (answer_front s out after (Done k) k g refl).1 in
    writes_sheet (input_of s (take k after)) s (ap (λ (x : List ℕ). sheet_answer (input_of s x)) f ∙ message_back s (subst NoLine f h))

-- and in what is left, where that is a message, no other break saves a line
pub programs_why : (s out after : List ℕ) (k : ℕ) → MessageAnswered s out (Done k) after → NoLine (take k after) → WhyMessage (sheet_form s) (take k after)
unfolding message_answer
programs_why s out after k g h =
    let f : take k after ≡ message_answer s = (answer_front s out after (Done k) k g refl).1 in
    let e : message_verdict s ≡ Fine = shown_fine (message_verdict s) (message_for s) (subst NoLine f h) in
    subst (WhyMessage (sheet_form s)) (sym (f ∙ ap (λ (v : Verdict). shown v (message_for s)) e)) (built_why s (clean s e))

-- ---- from a message: i is an input that `tosheet` turns into a sheet
module _ (i : List ℕ) (e : sheet_verdict i ≡ Fine) where
  accepted_in : verdict_of (form_for i) (message_in i) ≡ Fine
  unfolding verdict_of
  accepted_in = (then_clean (type_rule i) (first (message_rules (form_for i) (message_in i))) e).1

  passes : Clean (sheet_rules (sheet_in i)) → message_verdict (sheet_in i) ≡ Fine
  passes c = verdict_by (sheet_in i) ∙ ap₂ then (clean_first (sheet_rules (sheet_in i)) c) (own_again (form_for i) (message_in i) accepted_in c)

  stops : first (sheet_rules (sheet_in i)) ≡ Broken 16 0 → message_verdict (sheet_in i) ≡ Broken 16 0
  stops f = verdict_by (sheet_in i) ∙ ap (λ (v : Verdict). then v (own_rule (sheet_in i))) f

  module _ (r : Outcome) (b : List ℕ) (k : ℕ) (d : r ≡ Done k) (f : take k b ≡ message_answer (sheet_in i)) where
    -- what is written for the sheet
    shown_as : {v : Verdict} → message_verdict (sheet_in i) ≡ v → take k b ≡ shown v (message_for (sheet_in i))
    unfolding message_answer
    shown_as q = f ∙ ap (λ (v : Verdict). shown v (message_for (sheet_in i))) q

    rewritten : Rewritten i (sheet_in i) r b
    rewritten = go (sheet_passes (form_for i) (message_in i) accepted_in)
      where
        go : Clean (sheet_rules (sheet_in i)) ⊎ ((first (sheet_rules (sheet_in i)) ≡ Broken 16 0) × CrowdedBehindRpp (form_for i) (sign_of (fields (message_in i))) (fields (message_in i))) → Rewritten i (sheet_in i) r b
        go (inl c) =
            let m : take k b ≡ message_for (sheet_in i) = shown_as (passes c) in
            again k d (subst NoLine (sym m) (line_apart (sheet_in i)))
            (writes_sheet (input_of (sheet_in i) (take k b)) (sheet_in i) (ap (λ (x : List ℕ). sheet_answer (input_of (sheet_in i) x)) m ∙ same_back (sheet_in i) (passes c)))
        go (inr n) = crowded k d (shown_as (stops n.0)) n.1

-- what the two calls leave
pub programs_again : (i out a : List ℕ) (n : ℕ) → SheetAnswered i out (Done n) a → NoLine (take n a)
    → (room : List ℕ) (r : Outcome) (b : List ℕ) → limit ≤ length room → MessageAnswered (take n a) room r b → Rewritten i (take n a) r b
unfolding sheet_answer
programs_again i out a n g h room r b k w =
    let f : take n a ≡ sheet_answer i = (sheet_front i out a (Done n) n g refl).1 in
    let e : sheet_verdict i ≡ Fine = shown_fine (sheet_verdict i) (sheet_in i) (subst NoLine f h) in
    let t : take n a ≡ sheet_in i = f ∙ ap (λ (v : Verdict). shown v (sheet_in i)) e in
    let d : r ≡ Done (length (message_answer (take n a))) = (answer_done (take n a) room b r k w).0 in
    let m : take (length (message_answer (take n a))) b ≡ message_answer (sheet_in i) = (answer_front (take n a) room b r (length (message_answer (take n a))) w d).1 ∙ ap message_answer t in
    subst (λ (x : List ℕ). Rewritten i x r b) (sym t) (rewritten i e r b (length (message_answer (take n a))) d m)
