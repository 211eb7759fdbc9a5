-- Over an accepted message, what code puts is its sheet: every text of it reads, and the pieces of one read as the whole (S2, T7, T12, N14).
-- Assumes nothing.
use Prim.Native.Nat.{ℕ, zero, suc, ◌+◌}
use mathlib.Core.Path.{◌≡◌, refl, sym, ap, ap₂, subst, ◌∙◌}
use mathlib.Core.Bool.{Bool, true, false, not, ◌&&◌, true≢false}
use mathlib.Core.List.{List, [], ◌∷◌, ◌++◌, map}
use lib.ListN.{length, drop}
use Rattle.base.specs.Choice.{pick, all}
use Rattle.base.specs.Bytes.{begins, xset}
use Rattle.base.specs.Calls.{Answer, said, stuck, text_of}
use Rattle.base.specs.Verdicts.{Fine}
use Rattle.base.proofs.Bools.{left, right, all_append, all_front, all_behind}
use Rattle.base.proofs.CallLaws.{not_said}
use Rattle.alphabets.specs.Bank.{reads, reading}
use Rattle.alphabets.specs.Steps.{back_table}
use Rattle.std.specs.Prelude.{Ok, Err}
use Rattle.alphabets.specs.Pieces.{Piece, Read, piece_after, piece_in, piece_on, whole}
use Rattle.alphabets.specs.Parts.{spoken, piece_text}
use Rattle.alphabets.proofs.PieceLaws.{reads_piece, piece_append}
use Rattle.alphabets.proofs.SpokenLaws.{read_stops}
use Rattle.alphabets.proofs.PartTheorems.{text_append, text_whole}
use Rattle.alphabets.proofs.Theorems.{plain_iff, plain_only}
use Rattle.fields.specs.Field.{Field, field, fields, lines_of}
use Rattle.fields.specs.Places.{start_of, next_of}
use Rattle.fields.specs.Lines.{lines_in}
use Rattle.fields.proofs.FieldLaws.{fields_in}
use Rattle.types.specs.declared.Form.{Form}
use Rattle.types.specs.declared.Form.TheVariants.{Mt103}
use Rattle.types.specs.Form.{places_of}
use Rattle.types.specs.Sentences.{AllRight}
use Rattle.types.specs.Sign.{sign_of}
use Rattle.frame.proofs.CallLaws.{taken}
use Rattle.contents.specs.Tests.{looks_tax}
use Rattle.contents.specs.Parts.{opens_rpp}
use Rattle.roles.specs.Role.{shape_of, Part, copy, name, tax_name, line_of, cast}
use Rattle.roles.specs.Parts.{cast_by, is_name_by, next_role}
use Rattle.roles.specs.Speech as speech
use Rattle.roles.specs.Speech.{Manner, as_details, as_tax_name, Speech, name_speeches, later_text, code_size, nzp_size, later_size, speeches}
use Rattle.roles.specs.Rule14.{mute, clauses, breaks_14, speeches_of as texts}
use Rattle.roles.specs.Sentences.{Heard}
use Rattle.roles.specs.declared.Shape.{Shape}
use Rattle.roles.specs.declared.Shape.TheVariants.{Plain, Payer, Payee, Agent, Details, Note103, Note202}
use Rattle.roles.specs.declared.Role.{Role}
use Rattle.roles.specs.declared.Role.TheVariants.{Copies, OfPayer, OfPayee, OfAgent, Taxed, Names}
use Rattle.roles.proofs.PartLaws.{first_part, cast_none, cast_cons}
use Rattle.roles.proofs.BreachLaws.{first_clause, same_lines, rule_14_fine}
use Rattle.message.proofs.FieldLaws.{Settled}
use Rattle.message.specs.Message.{verdict_of}
use Rattle.message.proofs.RuleLaws.{accepted_rules}
use Rattle.message.proofs.VerdictTheorems.{frame_clean}
use Rattle.records.specs.Record.{Record, line, sheet}
use Rattle.runon.specs.RunOn.{tag_72, parts_of, second_part, join}
use Rattle.sheets.specs.Gather.{part_for, code_digits, details_parts, rest_parts, note_parts, content_parts, record_for, gather, type_record, records_of, sheet_of}
use Rattle.sheets.specs.Steps.{said_by, side_of, side_by, parts_by, text_pieces, over_by, details_by, rest_text, rest_by, content_by, runs_on, record_by, sheet_by}
use Rattle.sheets.proofs.TagLaws.{two_fields}
use Rattle.sheets.proofs.JoinLaws.{join_sheet, runs_text}

-- ---- a text that reads
abbrev pub Speaks : Bool → List ℕ → Type 0
Speaks s b = (d : List ℕ) × (reading s b ≡ said d)

spoken_whole : (b : List ℕ) → Speaks true b → piece_text back_table false b ≡ text_of (reading true b)
spoken_whole b w = text_whole b w.0 w.1 ∙ sym (ap text_of w.1)

plain_whole : (b : List ℕ) → Speaks false b → b ≡ text_of (reading false b)
plain_whole b w = plain_only b w.0 w.1 ∙ sym (ap text_of w.1)

-- ---- lines by their roles
abbrev pub Reads : Bool → Part → Type 0
Reads s (copy p) = Unit {0}
Reads s (name p) = Speaks s p
Reads s (tax_name p) = Speaks s p

abbrev pub AllRead : Bool → List Part → Type 0
AllRead s [] = Unit {0}
AllRead s (x ∷ xs) = Reads s x × AllRead s xs

copied : (s : Bool) (p : List ℕ) → said_by back_table (s && false) false p ≡ p
copied true p = refl
copied false p = refl

voiced : (s : Bool) (p : List ℕ) → Speaks s p → said_by back_table (s && true) false p ≡ text_of (reading s p)
voiced true p w = spoken_whole p w
voiced false p w = plain_whole p w

first_read : (s : Bool) (role : Role) (p : List ℕ) → Reads s (first_part role p) → said_by back_table (s && is_name_by role p) false p ≡ part_for s (first_part role p)
first_read s Copies p w = copied s p
first_read s OfPayer p w = go (begins 47 p) (looks_tax p) w
  where
    go : (a b : Bool) → Reads s (pick a (copy p) (pick b (copy p) (tax_name p))) → said_by back_table (s && (not a && not b)) false p ≡ part_for s (pick a (copy p) (pick b (copy p) (tax_name p)))
    go true b w = copied s p
    go false true w = copied s p
    go false false w = voiced s p w
first_read s OfPayee p w = go (begins 47 p) w
  where
    go : (a : Bool) → Reads s (pick a (copy p) (name p)) → said_by back_table (s && not a) false p ≡ part_for s (pick a (copy p) (name p))
    go true w = copied s p
    go false w = voiced s p w
first_read s OfAgent p w = copied s p
first_read s Taxed p w = go (looks_tax p) w
  where
    go : (a : Bool) → Reads s (pick a (copy p) (tax_name p)) → said_by back_table (s && not a) false p ≡ part_for s (pick a (copy p) (tax_name p))
    go true w = copied s p
    go false w = voiced s p w
first_read s Names p w = voiced s p w

parts_cast : (s : Bool) (role : Role) (ls : List (List ℕ)) → AllRead s (cast_by role ls) → parts_by back_table s role ls ≡ map (part_for s) (cast_by role ls)
unfolding parts_by
parts_cast s role [] w = sym (ap (map (part_for s)) (cast_none role))
parts_cast s role (l ∷ ls) w =
    let v : AllRead s (first_part role l ∷ cast_by (next_role role l) ls) = subst (AllRead s) (cast_cons role l ls) w in
    ap₂ (λ (x : List ℕ) (xs : List (List ℕ)). x ∷ xs) (first_read s role l v.0) (parts_cast s (next_role role l) ls v.1) ∙ sym (ap (map (part_for s)) (cast_cons role l ls))

copies : (s : Bool) (ls : List (List ℕ)) → parts_by back_table s Copies ls ≡ ls
unfolding parts_by
copies s [] = refl
copies s (l ∷ ls) = ap₂ (λ (x : List ℕ) (xs : List (List ℕ)). x ∷ xs) (copied s l) (copies s ls)

as_copies : (s : Bool) (ls : List (List ℕ)) → map (part_for s) (map copy ls) ≡ ls
as_copies s [] = refl
as_copies s (l ∷ ls) = ap (λ (xs : List (List ℕ)). l ∷ xs) (as_copies s ls)

-- ---- a text over lines
abbrev run : List (List ℕ) → List ℕ
run [] = []
run (p ∷ ps) = p ++ run ps

behind_run : (mark : ℕ) (ls : List (List ℕ)) → later_text mark ls ≡ run (map (drop mark) ls)
unfolding later_text
behind_run mark [] = refl
behind_run mark (l ∷ ls) = ap (λ (x : List ℕ). drop mark l ++ x) (behind_run mark ls)

over_plain : (latin : Bool) (ps : List (List ℕ)) → over_by back_table false latin ps ≡ run ps
unfolding over_by
over_plain latin [] = refl
over_plain latin (p ∷ ps) = ap (λ (x : List ℕ). p ++ x) (over_plain latin ps)

after_read : (i m n : ℕ) (z : Bool) (p : Piece) → piece_after i m p ≡ Read n z → (k : ℕ) × ((y : Bool) × (p ≡ Read k y))
after_read i m n z (Ok p) e = (p.units, (p.latin, refl))
after_read i m n z (Err k) e = absurd (read_stops n (i + k) z e)

none_said : (y : Bool) → piece_text back_table y [] ≡ []
unfolding piece_text piece_in spoken
none_said y = refl

over_spoken : (latin : Bool) (ps : List (List ℕ)) (n : ℕ) (z : Bool) → piece_in back_table latin (run ps) ≡ Read n z → over_by back_table true latin ps ≡ piece_text back_table latin (run ps)
unfolding over_by
over_spoken latin [] n z e = sym (none_said latin)
over_spoken latin (p ∷ ps) n z e = go (piece_in back_table latin p) refl (sym (piece_append back_table latin p (run ps)) ∙ e) (λ y k v f. over_spoken y ps k v f)
  where
    go : (q : Piece) → piece_in back_table latin p ≡ q → piece_on (length p) (piece_in back_table latin p) (λ y. piece_in back_table y (run ps)) ≡ Read n z
        → ((y : Bool) (k : ℕ) (v : Bool) → piece_in back_table y (run ps) ≡ Read k v → over_by back_table true y ps ≡ piece_text back_table y (run ps))
        → piece_text back_table latin p ++ over_by back_table true (side_by back_table true latin p) ps ≡ piece_text back_table latin (p ++ run ps)
    go (Err k) f g ih = absurd (read_stops n k z (sym (ap (λ (q : Piece). piece_on (length p) q (λ y. piece_in back_table y (run ps))) f) ∙ g))
    go (Ok h) f g ih =
        let y : Bool = h.latin in
        let r = after_read (length p) h.units n z (piece_in back_table y (run ps)) (sym (ap (λ (q : Piece). piece_on (length p) q (λ x. piece_in back_table x (run ps))) f) ∙ g) in
        ap (λ (x : Bool). piece_text back_table latin p ++ over_by back_table true x ps) (ap (side_of latin) f)
        ∙ ap (λ (x : List ℕ). piece_text back_table latin p ++ x) (ih y r.0 r.1.0 r.1.1)
        ∙ sym (text_append back_table latin p (run ps) h.units y r.0 r.1.0 f r.1.1)

-- a text that reads is one piece
one_piece : (b d : List ℕ) → reads false b ≡ said d → (n : ℕ) × ((z : Bool) × (piece_in back_table false b ≡ Read n z))
one_piece b d e = go (piece_in back_table false b) (sym (reads_piece false b) ∙ e)
  where
    go : (p : Piece) → whole (length b) p (spoken back_table false b) ≡ said d → (n : ℕ) × ((z : Bool) × (p ≡ Read n z))
    go (Ok p) f = (p.units, (p.latin, refl))
    go (Err k) f = absurd (not_said k d f)

over_reads : (s : Bool) (ps : List (List ℕ)) → Speaks s (run ps) → over_by back_table s false ps ≡ text_of (reading s (run ps))
over_reads true ps w = let o = one_piece (run ps) w.0 w.1 in over_spoken false ps o.0 o.1.0 o.1.1 ∙ spoken_whole (run ps) w
over_reads false ps w = over_plain false ps ∙ plain_whole (run ps) w

-- ---- contents
abbrev pub DetailsSpeak : Bool → ℕ → ℕ → List (List ℕ) → Type 0
DetailsSpeak s front mark [] = Unit {0}
DetailsSpeak s front mark (l ∷ ls) = Speaks s (drop front l ++ later_text mark ls)

text_same : (s : Bool) (front mark : ℕ) (l : List ℕ) (ls : List (List ℕ)) → Speaks s (drop front l ++ later_text mark ls)
    → over_by back_table s false (text_pieces front mark (l ∷ ls)) ≡ text_of (reading s (drop front l ++ later_text mark ls))
text_same s front mark l ls w =
    let e : drop front l ++ later_text mark ls ≡ run (text_pieces front mark (l ∷ ls)) = ap (λ (x : List ℕ). drop front l ++ x) (behind_run mark ls) in
    over_reads s (text_pieces front mark (l ∷ ls)) (subst (Speaks s) e w) ∙ ap (λ (x : List ℕ). text_of (reading s x)) (sym e)

details_same : (s : Bool) (first mark : ℕ) (ls : List (List ℕ)) → DetailsSpeak s (first + code_size s) mark ls → details_by back_table s first mark ls ≡ details_parts s first mark ls
details_same s first mark [] w = refl
details_same s first mark (l ∷ ls) w = ap (λ (x : List ℕ). code_digits s (drop first l) ∷ x ∷ []) (text_same s (first + code_size s) mark l ls w)

rest_same : (s : Bool) (ls : List (List ℕ)) → DetailsSpeak s nzp_size later_size ls → rest_by back_table s ls ≡ rest_parts s ls
rest_same s [] w = refl
rest_same s (l ∷ ls) w = ap (λ (x : List ℕ). x ∷ []) (text_same s nzp_size later_size l ls w)

-- 72: what stands behind an RPP line, or all of it, reads behind `front` bytes
pub record Noted (s : Bool) (front : ℕ) (l : List ℕ) (ls : List (List ℕ)) : Type 0 where
  pub behind_rpp_lem : opens_rpp l ≡ true → DetailsSpeak s front later_size ls
  pub from_first : opens_rpp l ≡ false → DetailsSpeak s front later_size (l ∷ ls)

note_same : (s : Bool) (front : ℕ) (f g : List (List ℕ) → List (List ℕ)) → ((ls : List (List ℕ)) → DetailsSpeak s front later_size ls → f ls ≡ g ls)
    → (l : List ℕ) (ls : List (List ℕ)) → Noted s front l ls → note_parts f (l ∷ ls) ≡ note_parts g (l ∷ ls)
note_same s front f g h l ls w = go (opens_rpp l) refl
  where
    go : (b : Bool) → opens_rpp l ≡ b → pick b (drop 5 l ∷ f ls) ([] ∷ f (l ∷ ls)) ≡ pick b (drop 5 l ∷ g ls) ([] ∷ g (l ∷ ls))
    go true e = ap (λ (x : List (List ℕ)). drop 5 l ∷ x) (h ls (w.behind_rpp_lem e))
    go false e = ap (λ (x : List (List ℕ)). [] ∷ x) (h (l ∷ ls) (w.from_first e))

abbrev pub NoteSpeaks : Bool → ℕ → List (List ℕ) → Type 0
NoteSpeaks s front [] = Unit {0}
NoteSpeaks s front (l ∷ ls) = Noted s front l ls

abbrev pub Readable : Bool → Shape → List (List ℕ) → Type 0
Readable s Plain ls = Unit {0}
Readable s Payer ls = AllRead s (cast Payer ls)
Readable s Payee ls = AllRead s (cast Payee ls)
Readable s Agent ls = AllRead s (cast Agent ls)
Readable s Details ls = DetailsSpeak s (code_size s) 0 ls
Readable s Note103 ls = NoteSpeaks s nzp_size ls
Readable s Note202 ls = NoteSpeaks s (nzp_size + code_size s) ls

content_same : (s : Bool) (sh : Shape) (ls : List (List ℕ)) → Readable s sh ls → content_by back_table s sh ls ≡ content_parts s sh ls
unfolding content_by content_parts cast
content_same s Plain ls w = copies s ls ∙ sym (as_copies s ls)
content_same s Payer ls w = parts_cast s OfPayer ls w
content_same s Payee ls w = parts_cast s OfPayee ls w
content_same s Agent ls w = parts_cast s OfAgent ls w
content_same true Details ls w = details_same true 0 0 ls w
content_same false Details ls w = details_same false 0 0 ls w
content_same s Note103 [] w = refl
content_same s Note103 (l ∷ ls) w = note_same s nzp_size (rest_by back_table s) (rest_parts s) (rest_same s) l ls w
content_same s Note202 [] w = refl
content_same s Note202 (l ∷ ls) w = note_same s (nzp_size + code_size s) (details_by back_table s nzp_size later_size) (details_parts s nzp_size later_size) (details_same s nzp_size later_size) l ls w

-- ---- with the sign every text reads, by 14
heard_speaks : (m : Manner) (b : List ℕ) → breaks_14 m b ≡ false → Speaks true b
unfolding breaks_14
heard_speaks m b e = go (reading true b) refl
  where
    go : (a : Answer) → reading true b ≡ a → Speaks true b
    go (said d) f = (d, f)
    go (stuck k) f = absurd (true≢false (sym (first_clause m b []) ∙ ap (λ (a : Answer). clauses m (mute a) b (text_of a)) (sym f) ∙ e))

names_read : (o : ℕ) (xs : List Part) → Heard (name_speeches o xs) → AllRead true xs
unfolding name_speeches
names_read o [] h = tt
names_read o (copy p ∷ xs) h = (tt, names_read (o + length p + 2) xs h)
names_read o (name p ∷ xs) h = (heard_speaks speech.as_name p h.0, names_read (o + length p + 2) xs h.1)
names_read o (tax_name p ∷ xs) h = (heard_speaks as_tax_name p h.0, names_read (o + length p + 2) xs h.1)

details_heard : (front mark o : ℕ) (ls : List (List ℕ)) → Heard (speech.details_speech front mark o ls) → DetailsSpeak true front mark ls
unfolding speech.details_speech
details_heard front mark o [] h = tt
details_heard front mark o (l ∷ ls) h = heard_speaks as_details (drop front l ++ later_text mark ls) h.0

note_heard : (front o : ℕ) (ls : List (List ℕ)) → Heard (speech.note_speeches front o ls) → NoteSpeaks true front ls
unfolding speech.note_speeches
note_heard front o [] h = tt
note_heard front o (l ∷ ls) h = record {
  behind_rpp_lem = λ e. details_heard front later_size (o + length l + 2) ls (by e);
  from_first = λ e. details_heard front later_size o (l ∷ ls) (by e);
}
  where
    by : {b : Bool} → opens_rpp l ≡ b → Heard (pick b (speech.details_speech front later_size (o + length l + 2) ls) (speech.details_speech front later_size o (l ∷ ls)))
    by e = subst (λ (b : Bool). Heard (pick b (speech.details_speech front later_size (o + length l + 2) ls) (speech.details_speech front later_size o (l ∷ ls)))) e h

signed_readable : (sh : Shape) (o : ℕ) (ls : List (List ℕ)) → Heard (speeches true sh o ls) → Readable true sh ls
unfolding speeches
signed_readable Plain o ls h = tt
signed_readable Payer o ls h = names_read o (cast Payer ls) h
signed_readable Payee o ls h = names_read o (cast Payee ls) h
signed_readable Agent o ls h = names_read o (cast Agent ls) h
signed_readable Details o ls h = details_heard 11 0 o ls h
signed_readable Note103 o ls h = note_heard nzp_size o ls h
signed_readable Note202 o ls h = note_heard (nzp_size + code_size true) o ls h

-- ---- without it, by 3
plain_speaks : (b : List ℕ) → all xset b ≡ true → Speaks false b
plain_speaks b e = (b, (plain_iff b).1 e)

lines_read : (xs : List Part) → all (all xset) (map line_of xs) ≡ true → AllRead false xs
lines_read [] e = tt
lines_read (copy p ∷ xs) e = (tt, lines_read xs (right (all xset p) _ e))
lines_read (name p ∷ xs) e = (plain_speaks p (left (all xset p) _ e), lines_read xs (right (all xset p) _ e))
lines_read (tax_name p ∷ xs) e = (plain_speaks p (left (all xset p) _ e), lines_read xs (right (all xset p) _ e))

drop_in : (n : ℕ) (b : List ℕ) → all xset b ≡ true → all xset (drop n b) ≡ true
drop_in zero b e = e
drop_in (suc n) [] e = refl
drop_in (suc n) (x ∷ b) e = drop_in n b (right (xset x) (all xset b) e)

later_in : (mark : ℕ) (ls : List (List ℕ)) → all (all xset) ls ≡ true → all xset (later_text mark ls) ≡ true
unfolding later_text
later_in mark [] e = refl
later_in mark (l ∷ ls) e = all_append xset (drop mark l) (later_text mark ls) (drop_in mark l (left (all xset l) _ e)) (later_in mark ls (right (all xset l) _ e))

details_in : (front mark : ℕ) (ls : List (List ℕ)) → all (all xset) ls ≡ true → DetailsSpeak false front mark ls
details_in front mark [] e = tt
details_in front mark (l ∷ ls) e =
    plain_speaks (drop front l ++ later_text mark ls) (all_append xset (drop front l) (later_text mark ls) (drop_in front l (left (all xset l) _ e)) (later_in mark ls (right (all xset l) _ e)))

cast_in : (sh : Shape) (ls : List (List ℕ)) → all (all xset) ls ≡ true → AllRead false (cast sh ls)
cast_in sh ls e = lines_read (cast sh ls) (ap (all (all xset)) (same_lines sh ls) ∙ e)

note_in : (front : ℕ) (ls : List (List ℕ)) → all (all xset) ls ≡ true → NoteSpeaks false front ls
note_in front [] e = tt
note_in front (l ∷ ls) e = record { behind_rpp_lem = λ _. details_in front later_size ls (right (all xset l) _ e); from_first = λ _. details_in front later_size (l ∷ ls) e }

plain_readable : (sh : Shape) (ls : List (List ℕ)) → all (all xset) ls ≡ true → Readable false sh ls
plain_readable Plain ls e = tt
plain_readable Payer ls e = cast_in Payer ls e
plain_readable Payee ls e = cast_in Payee ls e
plain_readable Agent ls e = cast_in Agent ls e
plain_readable Details ls e = details_in 9 0 ls e
plain_readable Note103 ls e = note_in nzp_size ls e
plain_readable Note202 ls e = note_in (nzp_size + code_size false) ls e

-- ---- the fields
abbrev pub AllReadable : Form → Bool → List Field → Type 0
AllReadable form s [] = Unit {0}
AllReadable form s (field t ls ∷ fs) = Readable s (shape_of form t) ls × AllReadable form s fs

heard_split : (xs ys : List Speech) → Heard (xs ++ ys) → Heard xs × Heard ys
heard_split [] ys h = (tt, h)
heard_split (speech.speech m o b ∷ xs) ys h = let k = heard_split xs ys h.1 in ((h.0, k.0), k.1)

fields_heard : (form : Form) (o : ℕ) (fs : List Field) → Heard (texts form o fs) → AllReadable form true fs
unfolding texts
fields_heard form o [] h = tt
fields_heard form o (field t ls ∷ fs) h =
    let f = field t ls in
    let k = heard_split (speeches true (shape_of form t) (start_of o f) ls) (texts form (next_of o f) fs) h in
    (signed_readable (shape_of form t) (start_of o f) ls k.0, fields_heard form (next_of o f) fs k.1)

fields_plain : (form : Form) (fs : List Field) → all (all xset) (lines_of fs) ≡ true → AllReadable form false fs
fields_plain form [] e = tt
fields_plain form (field t [] ∷ fs) e = (plain_readable (shape_of form t) [] refl, fields_plain form fs e)
fields_plain form (field t (l ∷ ls) ∷ fs) e =
    let p : all (all xset) ((58 ∷ (t ++ 58 ∷ l)) ∷ ls) ≡ true = all_front (all xset) ((58 ∷ (t ++ 58 ∷ l)) ∷ ls) (lines_of fs) e in
    let h : all xset (58 ∷ (t ++ 58 ∷ l)) ≡ true = left (all xset (58 ∷ (t ++ 58 ∷ l))) (all (all xset) ls) p in
    let k : all xset l ≡ true = right (xset 58) (all xset l) (all_behind xset t (58 ∷ l) (right (xset 58) (all xset (t ++ 58 ∷ l)) h)) in (
      plain_readable (shape_of form t) (l ∷ ls) (ap (λ (b : Bool). b && all (all xset) ls) k ∙ right (all xset (58 ∷ (t ++ 58 ∷ l))) (all (all xset) ls) p),
      fields_plain form fs (all_behind (all xset) ((58 ∷ (t ++ 58 ∷ l)) ∷ ls) (lines_of fs) e),
    )

records_same : (form : Form) (s : Bool) (fs : List Field) → AllReadable form s fs → map (record_by back_table form s) fs ≡ map (record_for form s) fs
records_same form s [] w = refl
records_same form s (field t ls ∷ fs) w = ap₂ (λ (r : Record) (rs : List Record). r ∷ rs) (ap (field t) (content_same s (shape_of form t) ls w.0)) (records_same form s fs w.1)

-- ---- a message that no rule refuses
module _ (form : Form) (m : List ℕ) (v : verdict_of form m ≡ Fine) where
  pub readable : (s : Bool) → sign_of (fields m) ≡ s → AllReadable form s (fields m)
  readable true e = fields_heard form 5 (fields m) ((rule_14_fine form (fields m)).0 (accepted_rules form m v).inside.texts e)
  readable false e = let t = taken form m (frame_clean form m v) in fields_plain form (fields m) (fields_in m t.frame_fine t.bytes_fine t.lines_fine)

  -- with what runs on, found at the fields' spots
  pub sheet_same : {spots : List ℕ} → Settled m spots
      → line (type_record form) ++ 10 ∷ sheet_by back_table form (sign_of (fields m)) (rest_text back_table (sign_of (fields m)) (lines_in (runs_on form m spots (length (fields m))))) (fields m) ≡ sheet_of form m
  unfolding sheet_of records_of gather
  sheet_same {spots} z =
      let s = sign_of (fields m) in
      let two : List ℕ = rest_text back_table s (lines_in (runs_on form m spots (length (fields m)))) in
      ap (λ (x : List ℕ). line (type_record form) ++ 10 ∷ x)
      (join_sheet back_table s two form (fields m) (found s z)
      ∙ ap (λ (rs : List Record). sheet (join form rs)) (records_same form s (fields m) (readable s refl)))
    where
      found : (s : Bool) → Settled m spots → form ≡ Mt103 → rest_text back_table s (lines_in (runs_on form m spots (length (fields m)))) ≡ second_part (parts_of tag_72 (map (record_by back_table Mt103 s) (fields m)))
      found s z e =
          let t = taken form m (frame_clean form m v) in
          ap (λ (x : Form). rest_text back_table s (lines_in (runs_on x m spots (length (fields m))))) e
          ∙ runs_text back_table s z (subst (λ (x : Form). AllRight (places_of x) 0 (fields m)) e t.right) (two_fields form (accepted_rules form m v).pass.type t.sound)
