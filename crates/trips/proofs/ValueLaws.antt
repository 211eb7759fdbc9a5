-- 9 to 13 look at the same values when a message is read and written again: its dates, amounts, party lines and tax lines are copied (C32A,
-- Cparty, Ctax, Crpp, N9-N13). Assumes nothing.
use Prim.Native.Nat.{ℕ}
use mathlib.Core.Path.{◌≡◌, refl, sym, ap, ap₂, ◌∙◌, subst}
use mathlib.Core.Bool.{Bool, true, false, not, ◌&&◌, ◌||◌, true≢false}
use mathlib.Core.List.{List, [], ◌∷◌, ◌++◌, map}
use mathlib.Core.Logic.{inl, inr}
use Rattle.base.specs.Choice.{pick}
use Rattle.base.specs.Bytes.{begins, empty, same}
use Rattle.base.specs.Quoted.{bytes}
use Rattle.base.specs.Verdicts.{Fine, Broken}
use Rattle.base.proofs.ByteLaws.{same_is}
use Rattle.base.proofs.RuleLaws.{fine_broken}
use Rattle.base.specs.Examples.{AllHold}
use Rattle.fields.specs.Field.{Field, field}
use Rattle.fields.specs.Places.{start_of, next_of}
use Rattle.types.specs.declared.Form.{Form}
use Rattle.types.specs.declared.Form.TheVariants.{Other, Mt103, Mt202}
use Rattle.types.specs.Sign.{first_line}
use Rattle.types.specs.Walk.{among}
use lib.ListN.{length}
use Rattle.contents.specs.declared.Content.{Content}
use Rattle.contents.specs.declared.Content.TheVariants as holds
use Rattle.contents.specs.Fields.{IsRpp, RppAndRest, RppAndDetails, Right}
use Rattle.contents.specs.Tags.{tags_103, held_by}
use Rattle.contents.specs.Tests.{looks_tax}
use Rattle.contents.specs.Parts.{tax_inn, tax_kpp}
use Rattle.contents.proofs.RuleLaws.{field_says}
use Rattle.values.specs.Values.{ValueKind, tag, tax, Value, at, place_of, kind_of, moved, of_first, taxes, customer_taxes, payer_taxes, note_dates, values_of, values_in}
use Rattle.values.specs.Judged.{first_bad, has, has_tag, tags_56, tags_57, no_day, foreign, bik_differs, kpp_in, is_26T, is_56, is_57, is_77B, without_57, tax_whole, tax_broken, rule_9, rule_10, rule_11, rule_12, rule_13}
use Rattle.roles.specs.Role.{shape_for, shape_of, copy, name, tax_name, taxed, cast}
use Rattle.roles.specs.Speech.{nzp_size, later_size}
use Rattle.roles.specs.declared.Shape.{Shape}
use Rattle.roles.specs.declared.Shape.TheVariants.{Plain, Payer, Payee, Agent, Note103, Note202}
use Rattle.records.specs.Record.{Record}
use Rattle.details.specs.declared.DetailsField.{DetailsField}
use Rattle.details.specs.declared.DetailsField.TheVariants.{In72}
use Rattle.details.specs.Front.{code, rpp_line}
use Rattle.details.specs.Layouts.{layout, divided, marked, fit_lines, lines_for}
use Rattle.runon.specs.Run.{bank_of}
use Rattle.runon.specs.RunOn.{tag_70, tag_72, second_part, run_on, join}
use Rattle.writer.specs.Spread.{details_lines, rest_lines, note_lines, content_lines, field_for}
use Rattle.sheets.specs.Gather.{details_parts, rest_parts, note_parts, content_parts, record_for}
use Rattle.trips.specs.Again.{again, line_again}
use Rattle.trips.specs.Shown.{LineByLine, plain, payer, payee, agent}
use Rattle.trips.proofs.Held.{Held, HeldField, KeptPart}
use Rattle.trips.proofs.NameLaws.{held_kept, held_lines}
use Rattle.contents.proofs.RppLaws.{rpp_behind}
use Rattle.trips.proofs.JoinedLaws.{in_row, RowOf, row_again}

-- ---- the tax line: wherever its place begins
abbrev tax_kinds : List ℕ → List (List ℕ) → List ValueKind
tax_kinds t [] = []
tax_kinds t (l ∷ ls) = pick (looks_tax l) (tax t (tax_inn l) (tax_kpp l) ∷ []) []

tax_kinds_lem : (t : List ℕ) (n : ℕ) (ls : List (List ℕ)) → map kind_of (taxes t n ls) ≡ tax_kinds t ls
unfolding taxes
tax_kinds_lem t n [] = refl
tax_kinds_lem t n (l ∷ ls) = go (looks_tax l)
  where
    go : (b : Bool) → map kind_of (pick b (at n (tax t (tax_inn l) (tax_kpp l)) ∷ []) []) ≡ pick b (tax t (tax_inn l) (tax_kpp l) ∷ []) []
    go true = refl
    go false = refl

-- the lines written again: the tax line is copied, and a name there is none
module _ (s : Bool) (t : List ℕ) where
  abbrev kinds : (List ℕ → List (List ℕ) → List Value) → List (List ℕ) → List ValueKind
  kinds f ls = map kind_of (f t ls)

  one_tax : (b : Bool) (p : List ℕ) (ks ls : List (List ℕ)) → looks_tax p ≡ b → KeptPart s (pick b (copy p) (tax_name p))
      → tax_kinds t (line_again s (pick b (copy p) (tax_name p)) ∷ ks) ≡ tax_kinds t (p ∷ ls)
  one_tax true p ks ls e w = refl
  one_tax false p ks ls e w =
      ap (λ (q : Bool). pick q (tax t (tax_inn (again s p)) (tax_kpp (again s p)) ∷ []) []) w.untaxed_again ∙ sym (ap (λ (q : Bool). pick q (tax t (tax_inn p) (tax_kpp p) ∷ []) []) e)

  tax_again : (ps : List (List ℕ)) → AllHold (KeptPart s) (taxed ps) → tax_kinds t (map (line_again s) (taxed ps)) ≡ tax_kinds t ps
  tax_again [] w = refl
  tax_again (p ∷ ps) w = one_tax (looks_tax p) p (map (line_again s) (map name ps)) ps refl w.0

  -- beside an account
  beside_again : (k l : List ℕ) (ps : List (List ℕ)) → AllHold (KeptPart s) (taxed ps) → kinds customer_taxes (k ∷ map (line_again s) (taxed ps)) ≡ kinds customer_taxes (l ∷ ps)
  unfolding customer_taxes
  beside_again k l ps w = tax_kinds_lem t _ (map (line_again s) (taxed ps)) ∙ tax_again ps w ∙ sym (tax_kinds_lem t _ ps)

  payee_again : (ls : List (List ℕ)) → AllHold (KeptPart s) (cast Payee ls) → kinds customer_taxes (map (line_again s) (cast Payee ls)) ≡ kinds customer_taxes ls
  unfolding cast
  payee_again [] w = refl
  payee_again (p ∷ ps) w = beside_again (line_again s (pick (begins 47 p) (copy p) (name p))) p ps w.1

  front_again : (b : Bool) (p : List ℕ) → KeptPart s (pick b (copy p) (tax_name p)) → begins 47 (line_again s (pick b (copy p) (tax_name p))) ≡ begins 47 p
  front_again true p w = refl
  front_again false p w = w.as_name_lem.slash

  payer_by : (b : Bool) (p : List ℕ) (ps : List (List ℕ)) → begins 47 p ≡ b → AllHold (KeptPart s) (pick b (copy p ∷ taxed ps) (taxed (p ∷ ps)))
      → kinds payer_taxes (map (line_again s) (pick b (copy p ∷ taxed ps) (taxed (p ∷ ps)))) ≡ kinds payer_taxes (p ∷ ps)
  unfolding payer_taxes
  payer_by true p ps e w =
      ap (λ (q : Bool). map kind_of (pick q (customer_taxes t (p ∷ map (line_again s) (taxed ps))) (taxes t 0 (p ∷ map (line_again s) (taxed ps))))) e ∙ beside_again p p ps w.1
      ∙ sym (ap (λ (q : Bool). map kind_of (pick q (customer_taxes t (p ∷ ps)) (taxes t 0 (p ∷ ps)))) e)
  payer_by false p ps e w =
      let l : List ℕ = line_again s (pick (looks_tax p) (copy p) (tax_name p)) in
      let ks : List (List ℕ) = map (line_again s) (map name ps) in
      ap (λ (q : Bool). map kind_of (pick q (customer_taxes t (l ∷ ks)) (taxes t 0 (l ∷ ks)))) (front_again (looks_tax p) p w.0 ∙ e)
      ∙ tax_kinds_lem t 0 (l ∷ ks) ∙ one_tax (looks_tax p) p ks ps refl w.0 ∙ sym (tax_kinds_lem t 0 (p ∷ ps))
      ∙ sym (ap (λ (q : Bool). map kind_of (pick q (customer_taxes t (p ∷ ps)) (taxes t 0 (p ∷ ps)))) e)

  payer_again : (ls : List (List ℕ)) → AllHold (KeptPart s) (cast Payer ls) → kinds payer_taxes (map (line_again s) (cast Payer ls)) ≡ kinds payer_taxes ls
  unfolding cast payer_taxes
  payer_again [] w = refl
  payer_again (p ∷ ps) w = payer_by (begins 47 p) p ps refl w

-- ---- lines that keep their first
copied : (s : Bool) (ls : List (List ℕ)) → map (line_again s) (cast Plain ls) ≡ ls
unfolding cast
copied s [] = refl
copied s (l ∷ ls) = ap (λ (k : List (List ℕ)). l ∷ k) (copied s ls)

agent_again : (s : Bool) (f : List ℕ → List Value) (ls : List (List ℕ)) → of_first f (map (line_again s) (cast Agent ls)) ≡ of_first f ls
unfolding cast
agent_again s f [] = refl
agent_again s f (l ∷ ls) = refl

-- 72: the dates of an RPP line, by what follows /RPP/
abbrev dates_of : List ℕ → List Value
dates_of r = pick (empty r) [] (note_dates (rpp_line r))

laid_dates : (least : ℕ) (text : List ℕ) → of_first note_dates (lines_for In72 least text) ≡ []
unfolding lines_for same
laid_dates least text = go (fit_lines (divided (layout In72) least text))
  where
    go : (ls : List (List ℕ)) → of_first note_dates (marked (layout In72) ls) ≡ []
    go [] = refl
    go (l ∷ ls) = refl

-- as it is written
lines_dates : (behind : DetailsField → List (List ℕ) → List (List ℕ)) → ((ps : List (List ℕ)) → of_first note_dates (behind In72 ps) ≡ []) → (ps : List (List ℕ))
    → of_first note_dates (note_lines behind ps) ≡ dates_of (first_line ps)
lines_dates behind e [] = refl
lines_dates behind e ([] ∷ ps) = e ps
lines_dates behind e ((c ∷ r) ∷ ps) = refl

rest_dates : (s : Bool) (ps : List (List ℕ)) → of_first note_dates (rest_lines s In72 ps) ≡ []
rest_dates s [] = refl
rest_dates s (t ∷ ts) = laid_dates 0 (bank_of s t)

dates_103 : (s : Bool) (ps : List (List ℕ)) → of_first note_dates (content_lines s Note103 ps) ≡ dates_of (first_line ps)
unfolding content_lines
dates_103 s ps = lines_dates (rest_lines s) (rest_dates s) ps

dates_202 : (s : Bool) (ps : List (List ℕ)) → of_first note_dates (content_lines s Note202 ps) ≡ dates_of (first_line ps)
unfolding content_lines
dates_202 s ps = lines_dates (details_lines s) (λ qs. laid_dates (length (code s (first_line qs))) (code s (first_line qs) ++ bank_of s (second_part qs))) ps

-- as it was read
rpp_dates_lem : (behind : List (List ℕ) → List (List ℕ)) (l : List ℕ) (ls : List (List ℕ)) → IsRpp l → of_first note_dates (l ∷ ls) ≡ dates_of (first_line (note_parts behind (l ∷ ls)))
unfolding same
rpp_dates_lem behind l ls d =
    let w = rpp_behind l d in
    ap note_dates w.1 ∙ ap (λ (b : Bool). pick b [] (note_dates (rpp_line w.0))) (sym w.2) ∙ sym (ap (λ (x : List ℕ). dates_of (first_line (note_parts behind (x ∷ ls)))) w.1)

nzp_dates : (behind : List (List ℕ) → List (List ℕ)) {ls ks : List (List ℕ)} {k : List ℕ} → ls ≡ (bytes "/NZP/" ++ k) ∷ ks → of_first note_dates ls ≡ dates_of (first_line (note_parts behind ls))
unfolding same
nzp_dates behind e = rw e refl

read_103 : (s : Bool) (ls : List (List ℕ)) → RppAndRest ls → of_first note_dates ls ≡ dates_of (first_line (content_parts s Note103 ls))
unfolding content_parts
read_103 s [] d = refl
read_103 s (l ∷ []) (inl d) = rpp_dates_lem (rest_parts s) l [] d
read_103 s (l ∷ k ∷ ls) (inl d) = absurd d
read_103 s (l ∷ ls) (inr (inl (t, ts, d))) = nzp_dates (rest_parts s) d.lines
read_103 s (l ∷ ls) (inr (inr d)) = rpp_dates_lem (rest_parts s) l ls d.0

read_202 : (s : Bool) (ls : List (List ℕ)) → RppAndDetails s ls → of_first note_dates ls ≡ dates_of (first_line (content_parts s Note202 ls))
unfolding content_parts
read_202 s [] d = refl
read_202 s (l ∷ ls) (inl d) = nzp_dates (details_parts s nzp_size later_size) d.3.lines
read_202 s (l ∷ ls) (inr d) = rpp_dates_lem (details_parts s nzp_size later_size) l ls d.0

-- ---- a field read and written again has the same values
abbrev pub lines_again : Form → Bool → List ℕ → List (List ℕ) → List (List ℕ)
lines_again form s t ls = content_lines s (shape_of form t) (content_parts s (shape_of form t) ls)

module _ (form : Form) (s : Bool) (t : List ℕ) (ls : List (List ℕ)) (h : Held form s t ls) where
  right_as : {c : Content} → held_by form t ≡ c → Right c s ls
  right_as e = subst (λ (c : Content). Right c s ls) e ((field_says form s (field t ls)).0 h.right)

  shape_as : {c : Content} → held_by form t ≡ c → shape_of form t ≡ shape_for c
  unfolding shape_of
  shape_as e = ap shape_for e

  module _ (sh : Shape) (e : shape_of form t ≡ sh) where
    -- each line for itself
    module _ (v : LineByLine sh) where
      by_line_lem : lines_again form s t ls ≡ map (line_again s) (cast sh ls)
      by_line_lem = held_lines form s t ls (subst LineByLine (sym e) v) h ∙ ap (λ (x : Shape). map (line_again s) (cast x ls)) e

      each_kept : AllHold (KeptPart s) (cast sh ls)
      each_kept = subst (λ (x : Shape). AllHold (KeptPart s) (cast x ls)) e (held_kept form s t ls (subst LineByLine (sym e) v) h)

    as_shaped : lines_again form s t ls ≡ content_lines s sh (content_parts s sh ls)
    as_shaped = ap (λ (x : Shape). content_lines s x (content_parts s x ls)) e

  abbrev Again : Content → Type 0
  Again c = map kind_of (values_of t c (lines_again form s t ls)) ≡ map kind_of (values_of t c ls)

  plain_values : (c : Content) → shape_of form t ≡ Plain → Again c
  plain_values c e = ap (λ (k : List (List ℕ)). map kind_of (values_of t c k)) (by_line_lem Plain e plain ∙ copied s ls)

  payee_values : (f : List (List ℕ) → List ValueKind) → shape_of form t ≡ Payee → ((ks : List (List ℕ)) → f ks ≡ map kind_of (customer_taxes t ks)) → f (lines_again form s t ls) ≡ f ls
  payee_values f e i = ap f (by_line_lem Payee e payee) ∙ i (map (line_again s) (cast Payee ls)) ∙ payee_again s t ls (each_kept Payee e payee) ∙ sym (i ls)

  pub values_again : Again (held_by form t)
  unfolding values_of
  values_again = go (held_by form t) refl
    where
      go : (c : Content) → held_by form t ≡ c → Again c
      go holds.Unknown e = refl
      go holds.Reference e = refl
      go holds.Related e = refl
      go holds.Operation e = refl
      go holds.Purpose e = refl
      go holds.Payment e = plain_values holds.Payment (shape_as e)
      go holds.Payer e = ap (λ (k : List (List ℕ)). map kind_of (payer_taxes t k)) (by_line_lem Payer (shape_as e) payer) ∙ payer_again s t ls (each_kept Payer (shape_as e) payer)
      go holds.BankByBic e = plain_values holds.BankByBic (shape_as e)
      go holds.BankByName e = ap (λ (k : List (List ℕ)). map kind_of (values_of t holds.BankByName k)) (by_line_lem Agent (shape_as e) agent) ∙ ap (map kind_of) (agent_again s _ ls)
      go holds.OwnAccount e = refl
      go holds.AccountAndBic e = refl
      go holds.BeneficiaryBank e = payee_values (λ ks. map kind_of (customer_taxes t ks)) (shape_as e) (λ ks. refl)
      go holds.Beneficiary e = payee_values (λ ks. map kind_of (customer_taxes t ks)) (shape_as e) (λ ks. refl)
      go holds.Details e = refl
      go holds.Charges e = refl
      go holds.DocumentAndRest e = ap (map kind_of) (ap (of_first note_dates) (as_shaped Note103 (shape_as e)) ∙ dates_103 s (content_parts s Note103 ls) ∙ sym (read_103 s ls (right_as e)))
      go holds.DocumentAndDetails e = ap (map kind_of) (ap (of_first note_dates) (as_shaped Note202 (shape_as e)) ∙ dates_202 s (content_parts s Note202 ls) ∙ sym (read_202 s ls (right_as e)))
      go holds.Regulatory e = refl

-- ---- over fields: what they come to but for a 72's tag, since a 72 without an RPP line may come or go
abbrev pub kinds_of : Form → Field → List ValueKind
kinds_of form (field t ls) = pick (same t tag_72) [] (tag t ∷ []) ++ map kind_of (values_of t (held_by form t) ls)

abbrev pub seen : Form → List Field → List ValueKind
seen form fs = in_row (kinds_of form) fs

-- of the fields that records make
abbrev kinds_for : Form → Bool → Record → List ValueKind
kinds_for form s r = kinds_of form (field_for form s r)

seen_for : (form : Form) (s : Bool) (rs : List Record) → seen form (map (field_for form s) rs) ≡ in_row (kinds_for form s) rs
seen_for form s [] = refl
seen_for form s (r ∷ rs) = ap (λ (k : List ValueKind). kinds_for form s r ++ k) (seen_for form s rs)

seen_apart : (form : Form) (s : Bool) (fs : List Field) → AllHold (HeldField form s) fs → in_row (kinds_for form s) (map (record_for form s) fs) ≡ seen form fs
seen_apart form s [] h = refl
seen_apart form s (field t ls ∷ fs) h =
    ap₂ (λ (x y : List ValueKind). (pick (same t tag_72) [] (tag t ∷ []) ++ x) ++ y) (values_again form s t ls h.0) (seen_apart form s fs h.1)

-- 70 has no values, 72 of a 103 those of its RPP line
seen_70 : (s : Bool) (ps : List (List ℕ)) → kinds_for Mt103 s (field tag_70 ps) ≡ tag tag_70 ∷ []
unfolding held_by tags_103 same values_of
seen_70 s ps = refl

seen_72 : (s : Bool) (ps : List (List ℕ)) → kinds_for Mt103 s (field tag_72 ps) ≡ map kind_of (dates_of (first_line ps))
unfolding shape_of held_by tags_103 same values_of
seen_72 s ps = ap (map kind_of) (dates_103 s ps)

as_72 : (s : Bool) (t : List ℕ) (ps : List (List ℕ)) → same t tag_72 ≡ true → kinds_for Mt103 s (field t ps) ≡ map kind_of (dates_of (first_line ps))
as_72 s t ps e = ap (λ (u : List ℕ). kinds_for Mt103 s (field u ps)) (same_is t tag_72 e) ∙ seen_72 s ps

as_70 : (s : Bool) (t : List ℕ) (ps : List (List ℕ)) → same t tag_70 ≡ true → kinds_for Mt103 s (field t ps) ≡ tag tag_70 ∷ []
as_70 s t ps e = ap (λ (u : List ℕ). kinds_for Mt103 s (field u ps)) (same_is t tag_70 e) ∙ seen_70 s ps

seen_row : (s : Bool) → RowOf (kinds_for Mt103 s)
seen_row s = record {
  at_70 = λ t ps qs e. as_70 s t ps e ∙ sym (as_70 s t qs e);
  at_72 = λ t ps qs e f. as_72 s t ps e ∙ ap (λ (r : List ℕ). map kind_of (dates_of r)) f ∙ sym (as_72 s t qs e);
  none = λ t ps e f. as_72 s t ps e ∙ ap (λ (b : Bool). map kind_of (pick b [] (note_dates (rpp_line (first_line ps))))) f;
}

-- a message read and written again comes to the same
pub seen_again : (form : Form) (s : Bool) (fs : List Field) → AllHold (HeldField form s) fs
    → seen form (map (field_for form s) (run_on form s (join form (map (record_for form s) fs)))) ≡ seen form fs
unfolding run_on join
seen_again Mt103 s fs h = seen_for Mt103 s (run_on Mt103 s (join Mt103 (map (record_for Mt103 s) fs))) ∙ row_again (kinds_for Mt103 s) (seen_row s) s (map (record_for Mt103 s) fs) ∙ seen_apart Mt103 s fs h
seen_again Mt202 s fs h = seen_for Mt202 s (map (record_for Mt202 s) fs) ∙ seen_apart Mt202 s fs h
seen_again Other s fs h = seen_for Other s (map (record_for Other s) fs) ∙ seen_apart Other s fs h

-- ---- 9 to 13 are tests of the values alone, not of their places, and none asks for a 72
abbrev some : (ValueKind → Bool) → List ValueKind → Bool
some t [] = false
some t (k ∷ ks) = t k || some t ks

or_assoc : (a b c : Bool) → ((a || b) || c) ≡ (a || (b || c))
or_assoc true b c = refl
or_assoc false b c = refl

some_append : (t : ValueKind → Bool) (ks js : List ValueKind) → some t (ks ++ js) ≡ (some t ks || some t js)
some_append t [] js = refl
some_append t (k ∷ ks) js = ap (λ (b : Bool). t k || b) (some_append t ks js) ∙ sym (or_assoc (t k) (some t ks) (some t js))

has_moved : (t : ValueKind → Bool) (n : ℕ) (vs ws : List Value) → has t (map (moved n) vs ++ ws) ≡ (some t (map kind_of vs) || has t ws)
has_moved t n [] ws = refl
has_moved t n (at p k ∷ vs) ws = ap (λ (b : Bool). t k || b) (has_moved t n vs ws) ∙ sym (or_assoc (t k) (some t (map kind_of vs)) (has t ws))

-- a test that no 72 passes
abbrev Deaf : (ValueKind → Bool) → Type 0
Deaf t = (u : List ℕ) → same u tag_72 ≡ true → t (tag u) ≡ false

has_seen : (form : Form) (t : ValueKind → Bool) → Deaf t → (o : ℕ) (fs : List Field) → has t (values_in form o fs) ≡ some t (seen form fs)
has_seen form t d o [] = refl
has_seen form t d o (field u ls ∷ fs) =
    let f : Field = field u ls in
    let ks : List ValueKind = map kind_of (values_of u (held_by form u) ls) in
    ap (λ (b : Bool). t (tag u) || b) (has_moved t (start_of o f) (values_of u (held_by form u) ls) (values_in form (next_of o f) fs) ∙ ap (λ (b : Bool). some t ks || b) (has_seen form t d (next_of o f) fs))
    ∙ sym (some_append t (pick (same u tag_72) [] (tag u ∷ []) ++ ks) (seen form fs) ∙ ap (λ (b : Bool). b || some t (seen form fs)) (go (same u tag_72) refl) ∙ or_assoc (t (tag u)) (some t ks) (some t (seen form fs)))
  where
    go : (b : Bool) → same u tag_72 ≡ b → some t (pick b [] (tag u ∷ []) ++ map kind_of (values_of u (held_by form u) ls)) ≡ (t (tag u) || some t (map kind_of (values_of u (held_by form u) ls)))
    go true e = ap (λ (b : Bool). b || some t (map kind_of (values_of u (held_by form u) ls))) (sym (d u e))
    go false e = refl

fine_has : (n : ℕ) (bad : ValueKind → Bool) (vs : List Value) → first_bad n bad vs ≡ Fine → has bad vs ≡ false
unfolding first_bad
fine_has n bad [] e = refl
fine_has n bad (v ∷ vs) e = go (bad (kind_of v)) e (fine_has n bad vs)
  where
    go : (b : Bool) → pick b (Broken n (place_of v)) (first_bad n bad vs) ≡ Fine → (first_bad n bad vs ≡ Fine → has bad vs ≡ false) → (b || has bad vs) ≡ false
    go true e r = absurd (fine_broken n (place_of v) (sym e))
    go false e r = r e

has_fine : (n : ℕ) (bad : ValueKind → Bool) (vs : List Value) → has bad vs ≡ false → first_bad n bad vs ≡ Fine
unfolding first_bad
has_fine n bad [] e = refl
has_fine n bad (v ∷ vs) e = go (bad (kind_of v)) e (has_fine n bad vs)
  where
    go : (b : Bool) → (b || has bad vs) ≡ false → (has bad vs ≡ false → first_bad n bad vs ≡ Fine) → pick b (Broken n (place_of v)) (first_bad n bad vs) ≡ Fine
    go true e r = absurd (true≢false e)
    go false e r = r e

some_same : (bad worse : ValueKind → Bool) → ((k : ValueKind) → bad k ≡ worse k) → (ks : List ValueKind) → some bad ks ≡ some worse ks
some_same bad worse h [] = refl
some_same bad worse h (k ∷ ks) = ap₂ ◌||◌ (h k) (some_same bad worse h ks)

module _ (form : Form) (gs fs : List Field) (e : seen form gs ≡ seen form fs) where
  has_same : (t : ValueKind → Bool) → Deaf t → has t (values_in form 5 gs) ≡ has t (values_in form 5 fs)
  has_same t d = has_seen form t d 5 gs ∙ ap (some t) e ∙ sym (has_seen form t d 5 fs)

  fine_same : (n : ℕ) (bad worse : ValueKind → Bool) → Deaf bad → Deaf worse → ((k : ValueKind) → bad k ≡ worse k) → first_bad n worse (values_in form 5 fs) ≡ Fine → first_bad n bad (values_in form 5 gs) ≡ Fine
  fine_same n bad worse d c h f =
      has_fine n bad (values_in form 5 gs)
      (has_seen form bad d 5 gs ∙ ap (some bad) e ∙ some_same bad worse h (seen form fs) ∙ sym (has_seen form worse c 5 fs) ∙ fine_has n worse (values_in form 5 fs) f)

  pub rule_9_again : rule_9 form fs ≡ Fine → rule_9 form gs ≡ Fine
  unfolding rule_9
  rule_9_again f = fine_same 9 no_day no_day (λ u q. refl) (λ u q. refl) (λ k. refl) f

  pub rule_10_again : rule_10 form fs ≡ Fine → rule_10 form gs ≡ Fine
  unfolding rule_10
  rule_10_again f = fine_same 10 foreign foreign (λ u q. refl) (λ u q. refl) (λ k. refl) f

  deaf_tags : (ts : List (List ℕ)) → among tag_72 ts ≡ false → Deaf (has_tag ts)
  deaf_tags ts n u q = ap (λ (x : List ℕ). among x ts) (same_is u tag_72 q) ∙ n

  deaf_56 : Deaf is_56
  unfolding same
  deaf_56 = deaf_tags tags_56 refl

  deaf_57 : Deaf is_57
  unfolding same
  deaf_57 = deaf_tags tags_57 refl

  deaf_26T : Deaf is_26T
  unfolding same
  deaf_26T = deaf_tags (bytes "26T" ∷ []) refl

  deaf_77B : Deaf is_77B
  unfolding same
  deaf_77B = deaf_tags (bytes "77B" ∷ []) refl

  pub rule_11_again : rule_11 form fs ≡ Fine → rule_11 form gs ≡ Fine
  unfolding rule_11
  rule_11_again f =
      let deaf : (vs : List Value) → Deaf (without_57 vs) = λ vs u q. ap (λ (b : Bool). b && not (has is_57 vs)) (deaf_56 u q) in
      fine_same 11 (without_57 (values_in form 5 gs)) (without_57 (values_in form 5 fs)) (deaf (values_in form 5 gs)) (deaf (values_in form 5 fs))
      (λ k. ap (λ (b : Bool). is_56 k && not b) (has_same is_57 deaf_57)) f

  pub rule_12_again : rule_12 form fs ≡ Fine → rule_12 form gs ≡ Fine
  unfolding rule_12
  rule_12_again f = fine_same 12 bik_differs bik_differs (λ u q. refl) (λ u q. refl) (λ k. refl) f

  whole_same : tax_whole (values_in form 5 gs) ≡ tax_whole (values_in form 5 fs)
  whole_same = ap₂ ◌&&◌ (has_same is_77B deaf_77B) (ap₂ ◌&&◌ (has_same (kpp_in (bytes "50K")) (λ u q. refl)) (has_same (kpp_in (bytes "59")) (λ u q. refl)))

  pub rule_13_again : rule_13 form fs ≡ Fine → rule_13 form gs ≡ Fine
  unfolding rule_13
  rule_13_again f =
      let deaf : (vs : List Value) → Deaf (tax_broken vs) = λ vs u q. ap₂ (λ (a b : Bool). (a && not (tax_whole vs)) || (b && not (has is_26T vs))) (deaf_26T u q) (deaf_77B u q) in
      fine_same 13 (tax_broken (values_in form 5 gs)) (tax_broken (values_in form 5 fs)) (deaf (values_in form 5 gs)) (deaf (values_in form 5 fs))
      (λ k. ap₂ (λ (a b : Bool). (is_26T k && not a) || (is_77B k && not b)) whole_same (has_same is_26T deaf_26T)) f
