-- 14 lets the built message pass: with the sign, every text in it reads, as the part it was written for, and breaks no clause (T1, N14,
-- N14a-N14c, D3a). Assumes nothing.
use Prim.Native.Nat.{ℕ, ◌+◌}
use mathlib.Core.Path.{◌≡◌, refl, sym, ap, ap₂, ◌∙◌, subst}
use mathlib.Core.Bool.{Bool, true, false, not, ◌||◌, false≢true}
use mathlib.Core.List.{List, [], ◌∷◌, ◌++◌, map}
use lib.ListN.{length}
use Rattle.types.specs.declared.Form.{Form}
use Rattle.base.specs.Choice.{all}
use Rattle.base.specs.Bytes.{empty}
use Rattle.base.specs.Calls.{Answer, said, text_of}
use Rattle.base.specs.Verdicts.{Fine}
use Rattle.base.proofs.Bools.{left, right, both, isnt, all_imp}
use Rattle.base.specs.Rules.{Clean}
use Rattle.alphabets.specs.Bank.{reading}
use Rattle.alphabets.specs.Best.{writing}
use Rattle.alphabets.proofs.Theorems.{reads_back}
use Rattle.alphabets.proofs.SaidLaws.{said_is}
use Rattle.fields.specs.Field.{field}
use Rattle.fields.specs.Places.{start_of}
use Rattle.fields.specs.Places as fields
use Rattle.fields.specs.Shapes.{goes_on}
use Rattle.contents.specs.Tests.{looks_tax}
use Rattle.roles.specs.Role.{shape_of, Part, copy, name, tax_name, line_of, cast}
use Rattle.roles.specs.Speech.{Manner, as_name, as_tax_name, as_details, Speech, speech, said_at, name_speeches, note_speeches, code_size, nzp_size, speeches}
use Rattle.roles.specs.Speech as speech
use Rattle.roles.specs.Rule14.{mute, is_cyrillic_inn, tax_like, clauses, breaks_14, speeches_of, rule_14}
use Rattle.roles.specs.Sentences.{Heard}
use Rattle.roles.specs.declared.Shape.{Shape}
use Rattle.roles.specs.declared.Shape.TheVariants.{Payer, Payee, Agent}
use Rattle.roles.proofs.BreachLaws.{same_lines, rule_14_fine}
use Rattle.records.specs.Record.{Record}
use Rattle.records.specs.Rule19.{is_digits, sheet_form, sheet_sign}
use Rattle.records.specs.Sentences.{RightParts, plain, agent, payer, payee, details, note_103, note_202}
use Rattle.records.proofs.SoundLaws.{calm, cast_calm}
use Rattle.details.specs.declared.DetailsField.TheVariants.{In70}
use Rattle.details.specs.Front.{code, note_field}
use Rattle.runon.specs.Run.{bank_of, fits_in}
use Rattle.writer.specs.Spread.{cast_parts, line_for, laid_lines, rpp_lines, content_lines, field_for, spread}
use Rattle.writer.specs.Sheet.{crowded, fields_of, sheet_rules}
use Rattle.written.proofs.SpeltLaws.{spelt_open}
use Rattle.written.proofs.ReadyLaws.{speaks, RunParts, own, with_rest, Ready, fits_lines}
use Rattle.written.proofs.CastLaws.{turned, untaxed, cast_untaxed, cast_again, code_size_lem, details_again, note_again, rpp_silent}
use Rattle.written.proofs.BuiltLaws.{AllPass, runs_as, records_pass, built_sign}

-- ---- one text: it reads as its part
back : (p : List ℕ) → speaks true (name p) ≡ true → reading true (text_of (writing true p)) ≡ said p
back p e = reads_back true p (text_of (writing true p)) (said_is (writing true p) e)

by_reading : (m : Manner) (b d : List ℕ) → reading true b ≡ said d → clauses m (empty d) b d ≡ false → breaks_14 m b ≡ false
unfolding breaks_14
by_reading m b d r e = ap (λ (a : Answer). clauses m (mute a) b (text_of a)) r ∙ e

details_heard : (p : List ℕ) → speaks true (name p) ≡ true → empty p ≡ false → breaks_14 as_details (text_of (writing true p)) ≡ false
details_heard p e n = by_reading as_details (text_of (writing true p)) p (back p e) n

name_heard : (p : List ℕ) → speaks true (name p) ≡ true → empty p ≡ false → breaks_14 as_name (text_of (writing true p)) ≡ false
name_heard p e n =
    by_reading as_name (text_of (writing true p)) p (back p e) (ap₂ ◌||◌ n (spelt_open p (text_of (writing true p)) (said_is (writing true p) e)))

tax_heard : (p : List ℕ) → speaks true (name p) ≡ true → empty p ≡ false → looks_tax p ≡ false → is_cyrillic_inn p ≡ false → breaks_14 as_tax_name (text_of (writing true p)) ≡ false
unfolding tax_like
tax_heard p e n t i =
    by_reading as_tax_name (text_of (writing true p)) p (back p e)
    (ap₂ ◌||◌ n (ap₂ ◌||◌ (spelt_open p (text_of (writing true p)) (said_is (writing true p) e)) (ap₂ ◌||◌ t i)))

-- ---- the names of a record
abbrev some : List ℕ → Bool
some p = not (empty p)

part_heard : (o : ℕ) (x : Part) → speaks true x ≡ true → some (line_of x) ≡ true → untaxed x ≡ true → calm x ≡ true → Heard (said_at o (turned true x))
part_heard o (copy p) e n t c = tt
part_heard o (name p) e n t c = (name_heard p e (isnt (empty p) n), tt)
part_heard o (tax_name p) e n t c = (tax_heard p e (isnt (empty p) n) (isnt (looks_tax p) t) (isnt (is_cyrillic_inn p) c), tt)

heard_both : (xs ys : List Speech) → Heard xs → Heard ys → Heard (xs ++ ys)
heard_both [] ys h k = k
heard_both (speech m o b ∷ xs) ys h k = (h.0, heard_both xs ys h.1 k)

names_heard : (o : ℕ) (xs : List Part) → all (speaks true) xs ≡ true → all some (map line_of xs) ≡ true → all untaxed xs ≡ true → all calm xs ≡ true → Heard (name_speeches o (map (turned true) xs))
unfolding name_speeches
names_heard o [] e n t c = tt
names_heard o (x ∷ xs) e n t c =
    heard_both (said_at o (turned true x)) (name_speeches (o + length (line_of (turned true x)) + 2) (map (turned true) xs))
    (part_heard o x (left (speaks true x) _ e) (left (some (line_of x)) _ n) (left (untaxed x) _ t) (left (calm x) _ c))
    (names_heard (o + length (line_of (turned true x)) + 2) xs (right (speaks true x) _ e) (right (some (line_of x)) _ n) (right (untaxed x) _ t) (right (calm x) _ c))

on_some : (ps : List (List ℕ)) → all goes_on ps ≡ true → all some ps ≡ true
on_some ps g = all_imp goes_on some (λ p h. left (some p) _ h) ps g

parts_heard : (o : ℕ) (sh : Shape) (p : List ℕ) (ps : List (List ℕ)) → RightParts true sh (p ∷ ps) → empty p ≡ false → all goes_on ps ≡ true → all (speaks true) (cast sh (p ∷ ps)) ≡ true
    → Heard (name_speeches o (cast sh (map (line_for true) (cast sh (p ∷ ps)))))
parts_heard o sh p ps r n g e =
    let xs : List Part = cast sh (p ∷ ps) in
    let k : all some (map line_of xs) ≡ true = ap (all some) (same_lines sh (p ∷ ps)) ∙ both (ap not n) (on_some ps g) in
    subst (λ (l : List Part). Heard (name_speeches o l)) (sym (cast_again true sh (p ∷ ps) r e)) (names_heard o xs e k (cast_untaxed sh (p ∷ ps)) (cast_calm sh (p ∷ ps) r))

-- ---- details: the one text that their lines hold
text_heard : {xs : List Speech} {at : ℕ} (p : List ℕ) → empty p ≡ false → speaks true (name p) ≡ true → xs ≡ speech as_details at (bank_of true p) ∷ [] → Heard xs
text_heard p n e q = subst Heard (sym q) (details_heard p e n, tt)

heard_details : (vo p : List ℕ) (o : ℕ) → is_digits 5 vo ≡ true → empty p ≡ false → speaks true (name p) ≡ true → not (fits_in true In70 (code true vo) p) ≡ false
    → Heard (speech.details_speech (code_size true) 0 o (laid_lines true In70 (code true vo) p))
heard_details vo p o d n e u =
    let w = details_again In70 (code true vo) (bank_of true p) o (fits_lines true In70 (code true vo) p u) in
    text_heard p n e (ap (λ (k : ℕ). speech.details_speech k 0 o (laid_lines true In70 (code true vo) p)) (sym (code_size_lem true vo d)) ∙ w.1)

-- in 72, behind a front of so many bytes
note_heard : (r front p : List ℕ) (o n : ℕ) → length front ≡ n → empty p ≡ false → speaks true (name p) ≡ true → not (fits_in true (note_field r) front p) ≡ false
    → Heard (note_speeches (nzp_size + n) o (rpp_lines r ++ laid_lines true (note_field r) front p))
note_heard r front p o n l s e u =
    let w = note_again (empty r) r front (bank_of true p) o (fits_lines true (note_field r) front p u) in
    text_heard p s e (ap (λ (k : ℕ). note_speeches (nzp_size + k) o (rpp_lines r ++ laid_lines true (note_field r) front p)) (sym l) ∙ w.1)

-- ---- a record, the records
ready_heard : (o : ℕ) (sh : Shape) (ps : List (List ℕ)) → Ready true sh ps → Heard (speeches true sh o (content_lines true sh ps))
unfolding speeches content_lines crowded
ready_heard o sh ps w = go w.is_right w.says w.fits
  where
    right_heard : {sh : Shape} {ps : List (List ℕ)} → RightParts true sh ps → all (speaks true) (cast_parts sh ps) ≡ true → crowded true sh ps ≡ false
        → Heard (speeches true sh o (content_lines true sh ps))
    right_heard (plain p ps e g) a u = tt
    right_heard (agent p ps e g) a u = parts_heard o Agent p ps (agent p ps e g) e g a
    right_heard (payer p ps e g n) a u = parts_heard o Payer p ps (payer p ps e g n) e g a
    right_heard (payee p ps e g n) a u = parts_heard o Payee p ps (payee p ps e g n) e g a
    right_heard (details v t d e) a u = heard_details v t o d e (left (speaks true (name t)) _ (right (speaks true (copy v)) _ a)) u
    right_heard (note_103 r e) a u = subst Heard (sym (rpp_silent nzp_size o r e)) tt
    right_heard (note_202 r v t d e) a u =
        note_heard r (code true v) t o (code_size true) (code_size_lem true v d) e (left (speaks true (name t)) _ (right (speaks true (copy v)) _ (right (speaks true (copy r)) _ a))) u

    go : {sh : Shape} {ps : List (List ℕ)} → RunParts true sh ps → all (speaks true) (cast_parts sh ps) ≡ true → crowded true sh ps ≡ false
        → Heard (speeches true sh o (content_lines true sh ps))
    go (own r) a u = right_heard r a u
    go (with_rest r t e) a u = note_heard r [] t o 0 refl e (left (speaks true (name t)) _ (right (speaks true (copy r)) _ a)) u

records_heard : (form : Form) (o : ℕ) (rs : List Record) → AllPass form true rs → Heard (speeches_of form o (map (field_for form true) rs))
unfolding speeches_of
records_heard form o [] w = tt
records_heard form o (field t ps ∷ rs) w =
    let ls : List (List ℕ) = content_lines true (shape_of form t) ps in
    heard_both (speeches true (shape_of form t) (start_of o (field t ls)) ls) (speeches_of form (fields.next_of o (field t ls)) (map (field_for form true) rs))
    (ready_heard (start_of o (field t ls)) (shape_of form t) ps w.0.1) (records_heard form (fields.next_of o (field t ls)) rs w.1)

signed_heard : (form : Form) (g : Bool) (rs : List Record) → g ≡ true → AllPass form g rs → Heard (speeches_of form 5 (map (field_for form g) rs))
signed_heard form true rs q w = records_heard form 5 rs w
signed_heard form false rs q w = absurd (false≢true q)

-- ---- a sheet that no rule before 17 refuses
module _ (s : List ℕ) (c : Clean (sheet_rules s)) where
  pub built_rule_14 : rule_14 (sheet_form s) (fields_of s) ≡ Fine
  unfolding fields_of spread
  built_rule_14 = (rule_14_fine (sheet_form s) (fields_of s)).1 (λ q. signed_heard (sheet_form s) (sheet_sign s) (runs_as s c) (sym (built_sign s c) ∙ q) (records_pass s c))
