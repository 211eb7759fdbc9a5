-- Rule 8 lets pass what is written again of a message that it let pass: each field was so, or is 70 or 72 of a 103, where the details may be cut
-- otherwise and the RPP line is as it was (N8, section C, B6). Assumes nothing.
use Prim.Native.Nat.{ℕ}
use mathlib.Core.Path.{◌≡◌, refl, sym, ap, ◌∙◌, subst}
use mathlib.Core.Bool.{Bool, true, false, true≢false, false≢true}
use mathlib.Core.List.{List, [], ◌∷◌, ◌++◌, map}
use mathlib.Core.Logic.{inl, inr}
use lib.Dec.{eqb}
use lib.ListN.{take, drop}
use Rattle.base.specs.Bytes.{empty, same}
use Rattle.base.specs.Quoted.{bytes}
use Rattle.base.specs.Examples.{AllHold}
use Rattle.base.proofs.ByteLaws.{same_is}
use Rattle.types.specs.declared.Form.{Form}
use Rattle.types.specs.declared.Form.TheVariants.{Other, Mt103, Mt202}
use Rattle.types.specs.Sign.{first_line}
use Rattle.fields.specs.Field.{Field, field}
use Rattle.contents.specs.declared.Content.{Content}
use Rattle.contents.specs.declared.Content.TheVariants as holds
use Rattle.contents.specs.Fields.{IsRpp, RppAndRest, Right}
use Rattle.contents.specs.Tags.{tags_103, held_by}
use Rattle.contents.specs.Rule8.{right_field}
use Rattle.contents.proofs.RuleLaws.{field_says}
use Rattle.roles.specs.Role.{shape_for, shape_of}
use Rattle.roles.specs.declared.Shape.{Shape}
use Rattle.roles.specs.declared.Shape.TheVariants.{Plain, Payer, Payee, Agent, Details, Note103, Note202}
use Rattle.records.specs.Record.{Record}
use Rattle.details.specs.Front.{rpp_line}
use Rattle.runon.specs.RunOn.{tag_70, tag_72, how_many, parts_of, second_part, text_in, run_of, run_as, cut_by, run_on, join_as, join}
use Rattle.runon.specs.declared.Run.{Run}
use Rattle.runon.specs.declared.Run.TheVariants.{Stuck, Whole, Cut, Unfit}
use Rattle.runon.proofs.RecordLaws.{not_72, shape_72}
use Rattle.writer.specs.Spread.{content_lines, field_for}
use Rattle.written.proofs.ReadyLaws.{Ready}
use Rattle.sheets.specs.Gather.{rest_parts, note_parts, content_parts, record_for}
use Rattle.sheets.proofs.TagLaws.{is_joined, shape_else, shape_202, shape_none}
use Rattle.trips.specs.Shown as shown
use Rattle.trips.specs.Shown.{LineByLine}
use Rattle.trips.proofs.Held.{Held, HeldField}
use Rattle.trips.proofs.NameAgainLaws.{names_again}
use Rattle.contents.proofs.RppLaws.{rpp_behind}
use Rattle.trips.proofs.DetailAgainLaws.{pass_70, pass_103, pass_202}
use Rattle.trips.proofs.JoinedLaws.{each_join, each_run}

data Is202 : Shape → Type 0 where
  note_202 : Is202 Note202

-- ---- a field that is neither 70 nor 72 of a 103
note_again : (c : Content) (s : Bool) (ls : List (List ℕ)) → Is202 (shape_for c) → Right c s ls → Ready s (shape_for c) (content_parts s (shape_for c) ls)
    → Right c s (content_lines s (shape_for c) (content_parts s (shape_for c) ls))
note_again holds.Unknown s ls n r w = elim n [ ]
note_again holds.Reference s ls n r w = elim n [ ]
note_again holds.Related s ls n r w = elim n [ ]
note_again holds.Operation s ls n r w = elim n [ ]
note_again holds.Purpose s ls n r w = elim n [ ]
note_again holds.Payment s ls n r w = elim n [ ]
note_again holds.Payer s ls n r w = elim n [ ]
note_again holds.BankByBic s ls n r w = elim n [ ]
note_again holds.BankByName s ls n r w = elim n [ ]
note_again holds.OwnAccount s ls n r w = elim n [ ]
note_again holds.AccountAndBic s ls n r w = elim n [ ]
note_again holds.BeneficiaryBank s ls n r w = elim n [ ]
note_again holds.Beneficiary s ls n r w = elim n [ ]
note_again holds.Details s ls n r w = elim n [ ]
note_again holds.Charges s ls n r w = elim n [ ]
note_again holds.DocumentAndRest s ls n r w = elim n [ ]
note_again holds.Regulatory s ls n r w = elim n [ ]
note_again holds.DocumentAndDetails s ls n r w = pass_202 s ls r w

right_apart : (form : Form) (s : Bool) (t : List ℕ) (ls : List (List ℕ)) → is_joined (shape_of form t) ≡ false → Held form s t ls → Ready s (shape_of form t) (content_parts s (shape_of form t) ls)
    → right_field form s (field t (content_lines s (shape_of form t) (content_parts s (shape_of form t) ls))) ≡ true
unfolding shape_of
right_apart form s t ls n h w = (field_says form s (field t (content_lines s (shape_of form t) (content_parts s (shape_of form t) ls)))).1 (go (shape_of form t) refl)
  where
    Again : Type 0
    Again = Right (held_by form t) s (content_lines s (shape_of form t) (content_parts s (shape_of form t) ls))

    by_names : LineByLine (shape_of form t) → Again
    by_names v = (field_says form s (field t (content_lines s (shape_of form t) (content_parts s (shape_of form t) ls)))).0 (names_again form s t ls v h)

    go : (sh : Shape) → shape_of form t ≡ sh → Again
    go Plain e = by_names (rw e shown.plain)
    go Payer e = by_names (rw e shown.payer)
    go Payee e = by_names (rw e shown.payee)
    go Agent e = by_names (rw e shown.agent)
    go Details e = absurd (true≢false (sym (ap is_joined e) ∙ n))
    go Note103 e = absurd (true≢false (sym (ap is_joined e) ∙ n))
    go Note202 e = note_again (held_by form t) s ls (subst Is202 (sym e) note_202) ((field_says form s (field t ls)).0 h.right) w

-- ---- a record as a message's field came to it, joined and run on: as it was; or a 70; or a 72 with the RPP line that there was, or none
pub data From (form : Form) (s : Bool) (t : List ℕ) (ps : List (List ℕ)) : Type 0 where
  apart : (ls : List (List ℕ)) → ps ≡ content_parts s (shape_of form t) ls → is_joined (shape_of form t) ≡ false → Held form s t ls → From form s t ps
  in_70 : form ≡ Mt103 → same t tag_70 ≡ true → From form s t ps
  in_72 : form ≡ Mt103 → same t tag_72 ≡ true → (empty (first_line ps) ≡ false → IsRpp (rpp_line (first_line ps))) → From form s t ps

abbrev pub FromField : Form → Bool → Record → Type 0
FromField form s (field t ps) = From form s t ps

-- where it is ready, its field is right
right_70 : (s : Bool) (ps : List (List ℕ)) → Ready s (shape_of Mt103 tag_70) ps → right_field Mt103 s (field_for Mt103 s (field tag_70 ps)) ≡ true
unfolding shape_of held_by tags_103 same
right_70 s ps w = (field_says Mt103 s (field tag_70 (content_lines s Details ps))).1 (pass_70 s w)

right_72 : (s : Bool) (ps : List (List ℕ)) → (empty (first_line ps) ≡ false → IsRpp (rpp_line (first_line ps))) → Ready s (shape_of Mt103 tag_72) ps → right_field Mt103 s (field_for Mt103 s (field tag_72 ps)) ≡ true
unfolding shape_of held_by tags_103 same
right_72 s ps i w = (field_says Mt103 s (field tag_72 (content_lines s Note103 ps))).1 (pass_103 s i w)

pub from_right : (form : Form) (s : Bool) (t : List ℕ) (ps : List (List ℕ)) → From form s t ps → Ready s (shape_of form t) ps → right_field form s (field_for form s (field t ps)) ≡ true
from_right form s t ps (apart ls e n h) w =
    ap (λ (k : List (List ℕ)). right_field form s (field_for form s (field t k))) e ∙ right_apart form s t ls n h (subst (Ready s (shape_of form t)) e w)
from_right form s t ps (in_70 f e) w = go form t f (same_is t tag_70 e) w
  where
    go : (k : Form) (u : List ℕ) → k ≡ Mt103 → u ≡ tag_70 → Ready s (shape_of k u) ps → right_field k s (field_for k s (field u ps)) ≡ true
    go k u f e = rw (f, e) (right_70 s ps)
from_right form s t ps (in_72 f e i) w = go form t f (same_is t tag_72 e) w
  where
    go : (k : Form) (u : List ℕ) → k ≡ Mt103 → u ≡ tag_72 → Ready s (shape_of k u) ps → right_field k s (field_for k s (field u ps)) ≡ true
    go k u f e = rw (f, e) (right_72 s ps i)

-- ---- the fields of a message came so
rpp_first : (behind : List (List ℕ) → List (List ℕ)) (l : List ℕ) (ls : List (List ℕ)) → IsRpp l → IsRpp (rpp_line (first_line (note_parts behind (l ∷ ls))))
unfolding same
rpp_first behind l ls d =
    let w = rpp_behind l d in
    subst (λ (x : List ℕ). IsRpp (rpp_line (first_line (note_parts behind (x ∷ ls))))) (sym w.1) (subst IsRpp w.1 d)

nzp_first : (behind : List (List ℕ) → List (List ℕ)) {ls ks : List (List ℕ)} {k : List ℕ} → ls ≡ (bytes "/NZP/" ++ k) ∷ ks → empty (first_line (note_parts behind ls)) ≡ true
unfolding same
nzp_first behind e = rw e refl

first_103 : (s : Bool) (ls : List (List ℕ)) → RppAndRest ls → empty (first_line (content_parts s Note103 ls)) ≡ false → IsRpp (rpp_line (first_line (content_parts s Note103 ls)))
unfolding content_parts
first_103 s [] d z = absurd (true≢false z)
first_103 s (l ∷ []) (inl d) z = rpp_first (rest_parts s) l [] d
first_103 s (l ∷ k ∷ ls) (inl d) z = absurd d
first_103 s (l ∷ ls) (inr (inl (t, ts, d))) z = absurd (true≢false (sym (nzp_first (rest_parts s) d.lines) ∙ z))
first_103 s (l ∷ ls) (inr (inr d)) z = rpp_first (rest_parts s) l ls d.0

held_72 : (s : Bool) (ls : List (List ℕ)) → right_field Mt103 s (field tag_72 ls) ≡ true
    → empty (first_line (content_parts s (shape_of Mt103 tag_72) ls)) ≡ false → IsRpp (rpp_line (first_line (content_parts s (shape_of Mt103 tag_72) ls)))
unfolding shape_of held_by tags_103 same
held_72 s ls r = first_103 s ls ((field_says Mt103 s (field tag_72 ls)).0 r)

one_from : (s : Bool) (t : List ℕ) (ls : List (List ℕ)) → Held Mt103 s t ls → From Mt103 s t (content_parts s (shape_of Mt103 t) ls)
one_from s t ls h = go (same t tag_70) (same t tag_72) refl refl
  where
    at : (u : List ℕ) → u ≡ tag_72 → right_field Mt103 s (field u ls) ≡ true → empty (first_line (content_parts s (shape_of Mt103 u) ls)) ≡ false → IsRpp (rpp_line (first_line (content_parts s (shape_of Mt103 u) ls)))
    at u e = rw e (held_72 s ls)

    go : (a b : Bool) → same t tag_70 ≡ a → same t tag_72 ≡ b → From Mt103 s t (content_parts s (shape_of Mt103 t) ls)
    go true b e f = in_70 refl e
    go false true e f = in_72 refl f (at t (same_is t tag_72 f) h.right)
    go false false e f = apart ls refl (shape_else t e f) h

all_from : (s : Bool) (fs : List Field) → AllHold (HeldField Mt103 s) fs → AllHold (FromField Mt103 s) (map (record_for Mt103 s) fs)
all_from s [] h = tt
all_from s (field t ls ∷ fs) h = (one_from s t ls h.0, all_from s fs h.1)

all_apart : (form : Form) → ((t : List ℕ) → is_joined (shape_of form t) ≡ false) → (s : Bool) (fs : List Field) → AllHold (HeldField form s) fs → AllHold (FromField form s) (map (record_for form s) fs)
all_apart form n s [] h = tt
all_apart form n s (field t ls ∷ fs) h = (apart ls refl (n t) h.0, all_apart form n s fs h.1)

-- ---- joined and run on
module _ (s : Bool) where
  rpp_of : {t : List ℕ} {ps : List (List ℕ)} → same t tag_72 ≡ true → From Mt103 s t ps → empty (first_line ps) ≡ false → IsRpp (rpp_line (first_line ps))
  rpp_of {t} e (apart ls i n h) = absurd (true≢false (sym (ap is_joined (shape_72 t e)) ∙ n))
  rpp_of {t} e (in_70 f g) = absurd (false≢true (sym (not_72 t g) ∙ e))
  rpp_of e (in_72 f g i) = i

  from_join : (two : List ℕ) (rs : List Record) → AllHold (FromField Mt103 s) rs → AllHold (FromField Mt103 s) (join_as two rs)
  from_join two rs h = each_join (FromField Mt103 s) (FromField Mt103 s) two (λ t ps e f w. w) (λ t ps e w. in_70 refl e) (λ t ps e f w. in_72 refl e (rpp_of e w)) rs h

  from_run : (new : Bool) (one two : List ℕ) (rs : List Record) → AllHold (FromField Mt103 s) rs → AllHold (FromField Mt103 s) (run_as new one two rs)
  unfolding same
  from_run new one two rs h =
      each_run (FromField Mt103 s) one two (λ t ps e w. in_70 refl e) (λ t ps e w. in_72 refl e (rpp_of e w)) (in_72 refl refl (λ z. absurd (true≢false z))) new rs h

  from_cut : (r : Run) (rs : List Record) → AllHold (FromField Mt103 s) rs → AllHold (FromField Mt103 s) (cut_by r rs)
  from_cut (Cut k) rs h = from_run (eqb (how_many tag_72 rs) 0) (take k (text_in rs)) (drop k (text_in rs)) rs h
  from_cut (Stuck k) rs h = h
  from_cut Whole rs h = h
  from_cut Unfit rs h = h

pub from_again : (form : Form) (s : Bool) (fs : List Field) → AllHold (HeldField form s) fs → AllHold (FromField form s) (run_on form s (join form (map (record_for form s) fs)))
unfolding run_on join
from_again Mt103 s fs h = from_cut s (run_of s (join Mt103 (map (record_for Mt103 s) fs))) (join Mt103 (map (record_for Mt103 s) fs)) (from_join s (second_part (parts_of tag_72 (map (record_for Mt103 s) fs))) (map (record_for Mt103 s) fs) (all_from s fs h))
from_again Mt202 s fs h = all_apart Mt202 shape_202 s fs h
from_again Other s fs h = all_apart Other shape_none s fs h
