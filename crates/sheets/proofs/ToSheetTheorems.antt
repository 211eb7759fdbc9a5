-- What the contract of `to_sheet` says: accepted exactly if no rule is broken, refused by the first that is, and what is in the room then; that
-- any two outcomes are equal; that room of the message's length is always enough; and that every text of an accepted message reads (N17, O1, K4,
-- K6, K9, D2e). Assumes nothing.
use Prim.Native.Nat.{ℕ, ◌<◌, ◌≤◌}
use mathlib.Core.Path.{◌≡◌, refl, ap, ◌∙◌, subst, sym}
use mathlib.Core.List.{List}
use mathlib.Core.Logic.{◌↔◌}
use native.Mathlib.Omega.{arith}
use lib.ListN.{length}
use Rattle.std.specs.Prelude.{Err}
use Rattle.base.specs.Rules.{first, Clean, FirstOf}
use Rattle.base.specs.Calls.{over, room, Gives}
use Rattle.base.specs.Verdicts.{Verdict, Fine, Broken, Outcome, Done, Refused, answered}
use Rattle.base.proofs.RuleLaws.{accepted_iff, refused_iff, same_refusal}
use Rattle.base.proofs.CallLaws.{gives_one, accepted, refused, is_short, not_short}
use Rattle.fields.specs.Field.{fields}
use Rattle.types.specs.declared.Form.{Form}
use Rattle.types.specs.Sign.{sign_of}
use Rattle.message.specs.Message.{verdict_of}
use Rattle.sheets.specs.Gather.{sheet_of}
use Rattle.sheets.specs.Calls.{read_rules, SheetTo}
use Rattle.sheets.proofs.ReadLaws.{AllReadable, readable}
use Rattle.sheets.proofs.SizeLaws.{sheet_no_longer}
use Rattle.sheets.proofs.NumberLaws.{verdict_never}
use Rattle.sheets.proofs.CallLaws.{last_17}

-- any two outcomes are equal, lent units counted
pub sheet_one : (form : Form) (m out : List ℕ) {r q : Outcome} {a b : List ℕ} → SheetTo form m out r a → SheetTo form m out q b → (r ≡ q) × (a ≡ b)
unfolding SheetTo
sheet_one form m out g h = gives_one g h

module _ (form : Form) (m out : List ℕ) (r : Outcome) (after : List ℕ) (g : SheetTo form m out r after) where
  -- the outcome by the first rule that is broken
  by_first : {v : Verdict} → first (read_rules form m out) ≡ v → r ≡ answered v (length (sheet_of form m))
  unfolding SheetTo
  by_first e = g.answers ∙ ap (λ (v : Verdict). answered v (length (sheet_of form m))) e

  held : {q : Outcome} → r ≡ q → Gives (read_rules form m out) (sheet_of form m) out q after
  unfolding SheetTo
  held e = subst (λ (x : Outcome). Gives (read_rules form m out) (sheet_of form m) out x after) e g

  -- accepted exactly if no rule is broken: with the sheet's length, and the sheet over the front of the room
  pub sheet_accepted : ((n : ℕ) × (r ≡ Done n)) ↔ Clean (read_rules form m out)
  sheet_accepted = (
    λ e. (accepted_iff (read_rules form m out)).0 (accepted (read_rules form m out) (sheet_of form m) out e.0 after (held e.1)).clean,
    λ c. (length (sheet_of form m), by_first ((accepted_iff (read_rules form m out)).1 c)),
  )

  pub sheet_filled : (n : ℕ) → r ≡ Done n → (n ≡ length (sheet_of form m)) × (after ≡ over (sheet_of form m) out)
  sheet_filled n e = let a = accepted (read_rules form m out) (sheet_of form m) out n after (held e) in (a.count, a.filled)

  -- refused exactly by the first that is broken, and then the room is as it was
  pub sheet_refused : (n p : ℕ) → (r ≡ Refused n p) ↔ FirstOf (read_rules form m out) n p
  sheet_refused n p = (
    λ e. (refused_iff (read_rules form m out) n p).0 (refused (read_rules form m out) (sheet_of form m) out n p after (held e)).0,
    λ f. by_first ((refused_iff (read_rules form m out) n p).1 f),
  )

  pub sheet_kept : (n p : ℕ) → r ≡ Refused n p → after ≡ out
  sheet_kept n p e = (refused (read_rules form m out) (sheet_of form m) out n p after (held e)).1

  -- a refused message keeps its number and place, whatever the room
  pub sheet_own : (n p : ℕ) → verdict_of form m ≡ Broken n p → r ≡ Refused n p
  sheet_own n p e = by_first (last_17 form m out e refl)

  -- 17 for an accepted one: the room is shorter than the sheet, and the place is the sheet's length
  pub sheet_narrow : verdict_of form m ≡ Fine → length out < length (sheet_of form m) → r ≡ Refused 17 (length (sheet_of form m))
  sheet_narrow e h = by_first (last_17 form m out e (is_short (sheet_of form m) out h))

  -- else the sheet
  pub sheet_wide : verdict_of form m ≡ Fine → length (sheet_of form m) ≤ length out → (r ≡ Done (length (sheet_of form m))) × (after ≡ over (sheet_of form m) out)
  sheet_wide e h = let d = by_first (last_17 form m out e (not_short (sheet_of form m) out h)) in (d, (sheet_filled (length (sheet_of form m)) d).1)

  -- room of the message's length is enough for any message, so there 17 never comes: the message's refusal, or the sheet
  module _ (h : length m ≤ length out) where
    pub sheet_by_lem : {v : Verdict} → verdict_of form m ≡ v → (r ≡ answered v (length (sheet_of form m))) × (after ≡ room v (sheet_of form m) out)
    sheet_by_lem {v = Fine} e = sheet_wide e (omega (arith, sheet_no_longer form m e))
    sheet_by_lem {v = Err q} e = let d = sheet_own q.number q.place e in (d, sheet_kept q.number q.place d)

    pub sheet_never_17 : (p : ℕ) → r ≡ Refused 17 p → ⊥
    sheet_never_17 p e = go (verdict_of form m) refl
      where
        go : (v : Verdict) → verdict_of form m ≡ v → ⊥
        go Fine f = let d = (sheet_by_lem f).0 in let z : ◌≡◌ {A = ℕ} 0 1 = cc in omega arith
        go (Err q) f = let d = (sheet_by_lem f).0 in verdict_never form m q.place (f ∙ ap (λ (i : ℕ). Broken i q.place) (same_refusal (sym d ∙ e)).0)

-- every text of an accepted message reads, so that no part of its sheet stands for a text without a reading
pub texts_read : (form : Form) (m : List ℕ) → verdict_of form m ≡ Fine → AllReadable form (sign_of (fields m)) (fields m)
texts_read form m v = readable form m v (sign_of (fields m)) refl
