-- A message read and written again: its sheet is written, and the message then has the same sheet; or 16 refuses it, and then for details of a 103
-- with the sign that run on behind an RPP line (D2e, K7, O2). The way from a sheet and back stands in BackLaws. Assumes nothing.
use Prim.Native.Nat.{ℕ, ◌≤◌}
use mathlib.Core.Path.{◌≡◌, refl, sym, ap, ap₂, ◌∙◌, subst}
use mathlib.Core.Bool.{Bool}
use mathlib.Core.List.{List, [], ◌∷◌, ◌++◌, map, tail}
use mathlib.Core.Logic.{◌⊎◌, inl, inr}
use native.Mathlib.Omega.{arith}
use lib.ListN.{length, take, drop}
use lib.Seq.{take-append_seam}
use Rattle.types.specs.Form.{type_of}
use Rattle.base.specs.Rules.{then, first, Clean}
use Rattle.base.specs.Calls.{short, over}
use Rattle.base.specs.Calls.{room as left}
use Rattle.base.specs.Verdicts.{Verdict, Fine, Broken, Outcome, Done, answered}
use Rattle.base.proofs.RuleLaws.{first_append, first_last, then_clean}
use Rattle.base.proofs.CallLaws.{accepted, not_short}
use Rattle.base.specs.Examples.{AllHold}
use Rattle.fields.specs.Field.{Field, field, fields}
use Rattle.fields.specs.Frame.{limit}
use Rattle.types.specs.declared.Form.TheVariants.{Mt202}
use Rattle.types.specs.declared.Form.{Form}
use Rattle.types.specs.Sign.{sign_of}
use Rattle.roles.specs.Role.{shape_of}
use Rattle.roles.specs.declared.Shape.{Shape}
use Rattle.roles.specs.declared.Shape.TheVariants.{Plain, Payer, Payee, Agent, Details, Note103, Note202}
use Rattle.frame.proofs.CallLaws.{taken}
use Rattle.message.specs.Message.{message_rules, verdict_of}
use Rattle.message.proofs.VerdictTheorems.{frame_clean}
use Rattle.writer.specs.Sheet.{message_for, sheet_rules, at_start, own_rule, write_rules, MessageTo}
use Rattle.writer.proofs.RuleLaws.{sheet_rules_lem, rules_write}
use Rattle.written.specs.Sentences.{OneByOne}
use Rattle.records.specs.Record.{records}
use Rattle.sheets.specs.Gather.{record_for, gather, sheet_of}
use Rattle.sheets.specs.Calls.{read_rules, SheetTo}
use Rattle.trips.specs.Again.{CrowdedBehindRpp, Returns, back, crowded}
use Rattle.trips.proofs.Held as held
use Rattle.trips.specs.Shown as shown
use Rattle.trips.specs.Shown.{LineByLine, Shown, ShownSheet}
use Rattle.trips.proofs.Held.{Held, HeldField, DetailsOrRpp, Sheeted, SheetedField}
use Rattle.trips.proofs.NameLaws.{sheeted_names}
use Rattle.trips.proofs.DetailRecordLaws.{sheeted_details}
use Rattle.trips.proofs.HeldLaws.{all_held}
use Rattle.trips.proofs.BackLaws.{sheet_back}
use Rattle.trips.proofs.SheetLaws.{accepted_type, accepted_sign, accepted_records, accepted_passes}
use Rattle.trips.proofs.VerdictLaws.{verdict_again}

-- ---- every shape goes line by line, or holds details or an RPP line
either : (sh : Shape) → LineByLine sh ⊎ DetailsOrRpp sh
either Plain = inl shown.plain
either Payer = inl shown.payer
either Payee = inl shown.payee
either Agent = inl shown.agent
either Details = inr held.details
either Note103 = inr held.note_103
either Note202 = inr held.note_202

module _ (form : Form) (s : Bool) where
  one_sheeted : (t : List ℕ) (ls : List (List ℕ)) → Held form s t ls → Sheeted form s t ls
  one_sheeted t ls h = go (either (shape_of form t))
    where
      go : LineByLine (shape_of form t) ⊎ DetailsOrRpp (shape_of form t) → Sheeted form s t ls
      go (inl v) = sheeted_names form s t ls v h
      go (inr v) = sheeted_details form s t ls v h

  all_sheeted : (fs : List Field) → AllHold (HeldField form s) fs → AllHold (SheetedField form s) fs
  all_sheeted [] h = tt
  all_sheeted (field t ls ∷ fs) h = (one_sheeted t ls h.0, all_sheeted fs h.1)

  all_shown : (fs : List Field) → AllHold (SheetedField form s) fs → OneByOne (Shown form s) fs (map (record_for form s) fs)
  all_shown [] h = tt
  all_shown (field t ls ∷ fs) h = ((refl, h.0.shows), all_shown fs h.1)

-- ---- an accepted message
module _ (form : Form) (m : List ℕ) (e : verdict_of form m ≡ Fine) where
  each : AllHold (SheetedField form (sign_of (fields m))) (fields m)
  each = all_sheeted form (sign_of (fields m)) (fields m) (all_held form m e)

  -- the rules of writing let its sheet pass, or 16 refuses it, and then for details of a 103 with the sign that run on behind an RPP line
  pub sheet_passes : Clean (sheet_rules (sheet_of form m)) ⊎ ((first (sheet_rules (sheet_of form m)) ≡ Broken 16 0) × CrowdedBehindRpp form (sign_of (fields m)) (fields m))
  sheet_passes = accepted_passes form m e each

  -- the records of its sheet behind the first say what its fields do, in a 103 joined
  pub sheet_shows : ShownSheet form (sign_of (fields m)) (fields m) (tail (records (sheet_of form m)))
  unfolding gather
  sheet_shows = record { apart = gather form (sign_of (fields m)) (fields m); each = all_shown form (sign_of (fields m)) (fields m) each; joined = accepted_records form m e each }

  module _ (c : Clean (sheet_rules (sheet_of form m))) where
    -- the message built from it is accepted again
    pub accepted_again : verdict_of form (message_for (sheet_of form m)) ≡ Fine
    accepted_again = verdict_again form m e (sheet_of form m) c (accepted_type form m e each) (accepted_sign form m e each) (accepted_records form m e each)

    pub own_again : own_rule (sheet_of form m) ≡ Fine
    own_again = ap (λ (k : Form). at_start (verdict_of k (message_for (sheet_of form m)))) (accepted_type form m e each) ∙ ap at_start accepted_again

    -- it is within the limit: 10,000 bytes have room for it
    pub again_within : length (message_for (sheet_of form m)) ≤ limit
    again_within = (taken form (message_for (sheet_of form m)) (frame_clean form (message_for (sheet_of form m)) accepted_again)).within

    -- and has the same sheet
    pub same_sheet : sheet_of form (message_for (sheet_of form m)) ≡ sheet_of form m
    same_sheet = ap (λ (k : Form). sheet_of k (message_for (sheet_of form m))) (sym (accepted_type form m e each)) ∙ sheet_back (sheet_of form m) c

-- so a 202 always passes
pub passes_202 : (m : List ℕ) → verdict_of Mt202 m ≡ Fine → Clean (sheet_rules (sheet_of Mt202 m))
passes_202 m e = go (sheet_passes Mt202 m e)
  where
    go : Clean (sheet_rules (sheet_of Mt202 m)) ⊎ ((first (sheet_rules (sheet_of Mt202 m)) ≡ Broken 16 0) × CrowdedBehindRpp Mt202 (sign_of (fields m)) (fields m)) → Clean (sheet_rules (sheet_of Mt202 m))
    go (inl c) = c
    go (inr f) = absurd (omega (arith, ap type_of f.1.type))

-- ---- carried to the calls
module _ (form : Form) (m room : List ℕ) (e : verdict_of form m ≡ Fine) (r : Outcome) (b : List ℕ) (enough : Clean (sheet_rules (sheet_of form m)) → length (message_for (sheet_of form m)) ≤ length room) where
  abbrev sheet : List ℕ
  sheet = sheet_of form m

  abbrev built : List ℕ
  built = message_for sheet

  passes : MessageTo sheet room r b → Clean (sheet_rules sheet) → Returns form m room r b
  unfolding MessageTo
  passes g c =
      let f : first (write_rules sheet room) ≡ Fine =
      rules_write sheet room (record { sheet = sheet_rules_lem sheet c; room = not_short built room (enough c); own = own_again form m e c }) in
      let q : b ≡ over built room = g.leaves ∙ ap (λ (v : Verdict). left v built room) f in
      let t : take (length built) b ≡ built = ap (take (length built)) q ∙ take-append_seam built (drop (length built) room) in
      back (length built) (g.answers ∙ ap (λ (v : Verdict). answered v (length built)) f) (ap (verdict_of form) t ∙ accepted_again form m e c) (ap (sheet_of form) t ∙ same_sheet form m e c)
      (q ∙ ap (λ (x : List ℕ). x ++ drop (length built) room) (sym t))

  stops : MessageTo sheet room r b → first (sheet_rules sheet) ≡ Broken 16 0 → CrowdedBehindRpp form (sign_of (fields m)) (fields m) → Returns form m room r b
  unfolding MessageTo
  stops g f n =
      let k : first (write_rules sheet room) ≡ Broken 16 0 = first_append (sheet_rules sheet) (short built room ∷ own_rule sheet ∷ []) ∙ ap (λ (v : Verdict). then v (first (short built room ∷ own_rule sheet ∷ []))) f in
      crowded (g.answers ∙ ap (λ (v : Verdict). answered v (length built)) k) (g.leaves ∙ ap (λ (v : Verdict). left v built room) k) n

  returns : MessageTo sheet room r b → Returns form m room r b
  returns g = go (sheet_passes form m e)
    where
      go : Clean (sheet_rules sheet) ⊎ ((first (sheet_rules sheet) ≡ Broken 16 0) × CrowdedBehindRpp form (sign_of (fields m)) (fields m)) → Returns form m room r b
      go (inl c) = passes g c
      go (inr f) = stops g f.0 f.1

-- a message that was read: it is accepted, and the sheet was left
module _ (form : Form) (m out a : List ℕ) (n : ℕ) (g : SheetTo form m out (Done n) a) where
  pub read_fine : (verdict_of form m ≡ Fine) × (take n a ≡ sheet_of form m)
  unfolding SheetTo verdict_of
  read_fine =
      let w = accepted (read_rules form m out) (sheet_of form m) out n a g in (
        (then_clean (first (message_rules form m)) (short (sheet_of form m) out) (sym (first_last (message_rules form m) (short (sheet_of form m) out)) ∙ w.clean)).0,
        ap₂ (λ (i : ℕ) (x : List ℕ). take i x) w.count w.filled ∙ take-append_seam (sheet_of form m) (drop (length (sheet_of form m)) out),
      )

  -- the records left behind the first say what its fields do, in a 103 joined
  pub read_shows : ShownSheet form (sign_of (fields m)) (fields m) (tail (records (take n a)))
  read_shows = subst (λ (x : List ℕ). ShownSheet form (sign_of (fields m)) (fields m) (tail (records x))) (sym read_fine.1) (sheet_shows form m read_fine.0)

  -- and handed to `to_message` it comes back, with room for the message that is written
  module _ (room : List ℕ) (r : Outcome) (b : List ℕ) (h : MessageTo (take n a) room r b) where
    written_to : MessageTo (sheet_of form m) room r b
    written_to = subst (λ (x : List ℕ). MessageTo x room r b) read_fine.1 h

    pub read_returns : length (message_for (take n a)) ≤ length room → Returns form m room r b
    read_returns k = returns form m room read_fine.0 r b (λ c. subst (λ (x : List ℕ). length (message_for x) ≤ length room) read_fine.1 k) written_to

    -- so with 10,000 bytes
    pub limit_returns : limit ≤ length room → Returns form m room r b
    limit_returns k = returns form m room read_fine.0 r b (λ c. omega (arith, again_within form m read_fine.0 c)) written_to
