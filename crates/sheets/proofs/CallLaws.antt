-- The ways out of the call: the message's refusal, 17, or the sheet. Assumes nothing.
use Prim.Native.Nat.{ℕ, ◌≤◌, ◌<◌}
use mathlib.Core.Path.{◌≡◌, refl, sym, ap, ap₂, subst, ◌∙◌}
use mathlib.Core.Bool.{Bool}
use mathlib.Core.List.{List, ◌∷◌, ◌++◌}
use native.Mathlib.Omega.{arith}
use native.Mathlib.Nat.{zero-add}
use lib.ListN.{length}
use Rattle.std.specs.Prelude.{Err}
use Rattle.base.specs.declared.Refusal.{Refusal}
use Rattle.base.specs.Rules.{then, first}
use Rattle.base.specs.Calls.{short, over, Gives, Puts}
use Rattle.base.specs.Verdicts.{Verdict, Fine, Broken, Done, Refused}
use Rattle.base.proofs.RuleLaws.{first_last}
use Rattle.base.proofs.CallLaws.{gives_refused, gives_done, is_short, not_short}
use Rattle.base.proofs.Room.{over_sets, puts_by}
use Rattle.alphabets.specs.Steps.{back_table}
use Rattle.fields.specs.Field.{fields}
use Rattle.fields.specs.Lines.{lines_in}
use Rattle.types.specs.declared.Form.{Form}
use Rattle.types.specs.Walk.{rule_18}
use Rattle.types.specs.Sign.{sign_of}
use Rattle.frame.proofs.RuleLaws.{frame_rules_lem}
use Rattle.frame.proofs.CallLaws.{taken}
use Rattle.message.specs.Message.{message_rules, verdict_of}
use Rattle.message.specs.declared.parts.Fields.{Fields}
use Rattle.message.proofs.TakenLaws.{settled_in, clean_in}
use Rattle.records.specs.Record.{line}
use Rattle.sheets.specs.Gather.{type_record, sheet_of}
use Rattle.sheets.specs.Calls.{read_rules, SheetTo}
use Rattle.sheets.specs.Steps.{rest_text, runs_on, sheet_by}
use Rattle.sheets.proofs.TagLaws.{two_fields}
use Rattle.sheets.proofs.ReadLaws.{sheet_same}
use Rattle.sheets.proofs.SizeLaws.{sheet_no_longer}

module _ (form : Form) (m out : List ℕ) where
  -- 17 comes behind the message's refusal
  pub last_17 : {v w : Verdict} → verdict_of form m ≡ v → short (sheet_of form m) out ≡ w → first (read_rules form m out) ≡ then v w
  unfolding verdict_of
  last_17 e q = first_last (message_rules form m) (short (sheet_of form m) out) ∙ ap₂ then e q

  pub own_refused : {r : Refusal} → verdict_of form m ≡ Err r → SheetTo form m out (Err r) out
  unfolding SheetTo
  own_refused {r} e = gives_refused (read_rules form m out) (sheet_of form m) out r.number r.place (last_17 e refl)

  module _ (v : verdict_of form m ≡ Fine) where
    sized : {now after : List ℕ} {n : ℕ} → Puts (sheet_of form m) now 0 n after → n ≡ length (sheet_of form m)
    sized p = p.answers ∙ zero-add _

    pub sheet_short : {now after : List ℕ} {n : ℕ} → Puts (sheet_of form m) now 0 n after → length out < n → SheetTo form m out (Refused 17 n) out
    unfolding SheetTo
    sheet_short {n = n} p h =
        let z = sized p in
        gives_refused (read_rules form m out) (sheet_of form m) out 17 n (last_17 v (is_short (sheet_of form m) out (omega arith)) ∙ ap (Broken 17) (sym z))

    pub sheet_done : {after : List ℕ} {r : ℕ} → length (sheet_of form m) ≤ length out → Puts (sheet_of form m) out 0 r after → SheetTo form m out (Done r) after
    unfolding SheetTo
    sheet_done {after = after} {r = r} h p =
        let t : List ℕ = sheet_of form m in
        let z = sized p in
        let w : after ≡ over t out = p.fills (omega arith) ∙ sym (over_sets t out h) in
        subst (λ (o : List ℕ). Gives (read_rules form m out) t out (Done r) o) (sym w)
        (subst (λ (j : ℕ). Gives (read_rules form m out) t out (Done j) (over t out)) (sym z)
        (gives_done (read_rules form m out) t out (last_17 v (not_short t out h))))

    -- there is room for it where it was measured, and where there is room for the message
    pub room_measured : {now after : List ℕ} {n : ℕ} → Puts (sheet_of form m) now 0 n after → n ≤ length out → length (sheet_of form m) ≤ length out
    room_measured p h = omega (arith, sized p)

    pub room_enough : length m ≤ length out → length (sheet_of form m) ≤ length out
    room_enough h = omega (arith, sheet_no_longer form m v)

-- what is put is the sheet
pub sheet_put : (f : Fields) → verdict_of f.form f.message.now ≡ Fine → {b : List ℕ} → b ≡ back_table
    → {rest : List ℕ} → rest ≡ runs_on f.form f.message.now f.frame.spots (length (fields f.message.now)) → {out after : List ℕ} {r : ℕ}
    → Puts (line (type_record f.form) ++ 10 ∷ sheet_by b f.form f.sign (rest_text b f.sign (lines_in rest)) (fields f.message.now)) out 0 r after → Puts (sheet_of f.form f.message.now) out 0 r after
sheet_put f v k {rest} q p =
    let form = f.form in
    let m : List ℕ = f.message.now in
    puts_by
    (ap₂ (λ (x : List ℕ) (s : Bool). line (type_record form) ++ 10 ∷ sheet_by x form s (rest_text x s (lines_in rest)) (fields m)) k f.signed
    ∙ ap (λ (x : List ℕ). line (type_record form) ++ 10 ∷ sheet_by back_table form (sign_of (fields m)) (rest_text back_table (sign_of (fields m)) (lines_in x)) (fields m)) q
    ∙ sheet_same form m v (settled_in f)) p

-- of a message that the pass took: it has a type, and two fields at least
pub type_in : (f : Fields) → rule_18 f.form ≡ Fine
type_in f = (frame_rules_lem f.form f.message.now (clean_in f)).type

pub two_in : (f : Fields) → 2 ≤ length (fields f.message.now)
two_in f = two_fields f.form (type_in f) (taken f.form f.message.now (clean_in f)).sound
