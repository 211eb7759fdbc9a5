-- The parts that `Shows` allows for the lines of a field are one only (S2, T7, T12, D2e). Assumes nothing.
use Prim.Native.Nat.{ℕ}
use mathlib.Core.Path.{◌≡◌, refl, sym, ap, ap₂, ◌∙◌}
use mathlib.Core.Bool.{Bool, true, false, true≢false}
use mathlib.Core.List.{List, [], ◌∷◌, ◌++◌, map}
use native.Mathlib.Omega.{arith}
use lib.ListN.{length, drop}
use lib.Seq.{drop-append_seam}
use Rattle.base.specs.Bytes.{byte, empty}
use Rattle.base.specs.Calls.{said, text_of}
use Rattle.alphabets.specs.Bank.{plainly, reads, reading}
use Rattle.fields.specs.Field.{Field, field}
use Rattle.types.specs.declared.Form.{Form}
use Rattle.records.specs.Record.{Record}
use Rattle.records.specs.Rule19.{is_digits}
use Rattle.runon.specs.RunOn.{join}
use Rattle.types.specs.Sign.{first_line}
use Rattle.roles.specs.Role.{Part, copy, name, tax_name, cast}
use Rattle.roles.specs.declared.Shape.{Shape}
use Rattle.roles.specs.declared.Shape.TheVariants.{Plain, Payer, Payee, Agent, Details, Note103, Note202}
use Rattle.details.specs.Lines.{together}
use Rattle.details.specs.Layouts.{Layout, layout, marked}
use Rattle.details.specs.declared.DetailsField.{DetailsField}
use Rattle.details.specs.declared.DetailsField.TheVariants.{In72}
use Rattle.details.specs.Front.{code, rpp_line}
use Rattle.written.specs.Sentences.{OneByOne}
use Rattle.sheets.specs.Gather.{code_digits}
use Rattle.trips.specs.Shown.{LineByLine, plain, payer, payee, agent, ReadPart, ShownDetails, Shows, each, details, note_103, rest, rest_behind, note_202, behind_rpp, Shown, ShownSheet}
use Rattle.trips.proofs.DetailRecordLaws.{code_digits_lem}

-- ---- a line's part
part_one : (s : Bool) (x : Part) {p q : List ℕ} → ReadPart s x p → ReadPart s x q → p ≡ q
part_one s (copy l) a b = a ∙ sym b
part_one s (name l) a b = ap text_of (sym a ∙ b)
part_one s (tax_name l) a b = ap text_of (sym a ∙ b)

pub parts_one : (s : Bool) (xs : List Part) (ps qs : List (List ℕ)) → OneByOne (ReadPart s) xs ps → OneByOne (ReadPart s) xs qs → ps ≡ qs
parts_one s [] [] [] a b = refl
parts_one s [] [] (q ∷ qs) a b = absurd b
parts_one s [] (p ∷ ps) qs a b = absurd a
parts_one s (x ∷ xs) [] qs a b = absurd a
parts_one s (x ∷ xs) (p ∷ ps) [] a b = absurd b
parts_one s (x ∷ xs) (p ∷ ps) (q ∷ qs) a b = ap₂ (λ (y : List ℕ) (ys : List (List ℕ)). y ∷ ys) (part_one s x a.0 b.0) (parts_one s xs ps qs a.1 b.1)

-- ---- details: the lines without their marks
abbrev unmarked : Layout → List (List ℕ) → List (List ℕ)
unmarked v [] = []
unmarked v (l ∷ ls) = drop (length v.mark) l ∷ map (drop (length v.next)) ls

later_back : (m : List ℕ) (ls : List (List ℕ)) → map (drop (length m)) (map (λ (k : List ℕ). m ++ k) ls) ≡ ls
later_back m [] = refl
later_back m (l ∷ ls) = ap₂ (λ (y : List ℕ) (ys : List (List ℕ)). y ∷ ys) (drop-append_seam m l) (later_back m ls)

rows_back : (v : Layout) (ls : List (List ℕ)) → unmarked v (marked v ls) ≡ ls
rows_back v [] = refl
rows_back v (l ∷ ls) = ap₂ (λ (y : List ℕ) (ys : List (List ℕ)). y ∷ ys) (drop-append_seam v.mark l) (later_back v.next ls)

pub same_rows : (v : Layout) (ks ls : List (List ℕ)) → marked v ks ≡ marked v ls → ks ≡ ls
same_rows v ks ls e = sym (rows_back v ks) ∙ ap (unmarked v) e ∙ rows_back v ls

-- so the front and the text behind it are one only
spelt_one : {s : Bool} {p : DetailsField} {front front' : List ℕ} {ls : List (List ℕ)} {text text' : List ℕ} (a : ShownDetails s p front ls text) (b : ShownDetails s p front' ls text')
    → front ++ a.spelt ≡ front' ++ b.spelt
spelt_one {p = p} a b = sym a.spells ∙ ap together (same_rows (layout p) a.rows b.rows (sym a.marks ∙ b.marks)) ∙ b.spells

pub details_one : {s : Bool} {p : DetailsField} {ls : List (List ℕ)} {vo text vo' text' : List ℕ} → is_digits 5 vo ≡ true → is_digits 5 vo' ≡ true → ShownDetails s p (code s vo) ls text → ShownDetails s p (code s vo') ls text'
    → (vo ≡ vo') × (text ≡ text')
details_one {s} {p} {ls} {vo} {text} {vo'} {text'} d e a b =
    let j : code s vo ++ a.spelt ≡ code s vo' ++ b.spelt = spelt_one a b in
    let v : vo ≡ vo' = sym (code_digits_lem s vo a.spelt d) ∙ ap (code_digits s) j ∙ code_digits_lem s vo' b.spelt e in
    let w : a.spelt ≡ b.spelt =
    sym (drop-append_seam (code s vo) a.spelt) ∙ ap (drop (length (code s vo))) (j ∙ ap (λ (x : List ℕ). code s x ++ b.spelt) (sym v)) ∙ drop-append_seam (code s vo) b.spelt in
    (v, ap text_of (sym a.reads ∙ ap (reading s) w ∙ b.reads))

pub rest_one : {s : Bool} {p : DetailsField} {ls : List (List ℕ)} {text text' : List ℕ} → ShownDetails s p [] ls text → ShownDetails s p [] ls text' → text ≡ text'
rest_one {s} a b = ap text_of (sym a.reads ∙ ap (reading s) (spelt_one a b) ∙ b.reads)

-- no lines say nothing
pub none : (b : Bool) → reading b [] ≡ said []
unfolding reads plainly
none true = refl
none false = refl

pub no_lines : {s : Bool} {p : DetailsField} {text : List ℕ} → ShownDetails s p [] [] text → ⊥
no_lines {s} {p} {text} a = go a.rows a.marks a.spells
  where
    go : (rows : List (List ℕ)) → [] ≡ marked (layout p) rows → together rows ≡ a.spelt → ⊥
    go [] e f = true≢false (ap empty (ap text_of (sym (none s) ∙ ap (reading s) f ∙ a.reads)) ∙ a.means)
    go (x ∷ xs) e f = omega (arith, ap length e)

-- ---- a field that goes line by line holds neither details nor an RPP line, and details alone don't begin with one
abbrev by_line : Shape → Bool
by_line Plain = true
by_line Payer = true
by_line Payee = true
by_line Agent = true
by_line Details = false
by_line Note103 = false
by_line Note202 = false

pub by_line_lem : {sh : Shape} → LineByLine sh → by_line sh ≡ true
by_line_lem plain = refl
by_line_lem payer = refl
by_line_lem payee = refl
by_line_lem agent = refl

pub not_rpp : {r : List ℕ} {ls : List (List ℕ)} (rows : List (List ℕ)) → rpp_line r ∷ ls ≡ marked (layout In72) rows → ⊥
not_rpp [] e = omega (arith, ap length e)
not_rpp (x ∷ xs) e = omega (arith, ap (λ (k : List (List ℕ)). byte (first_line k) 1) e)

-- any two records that a field's lines allow are equal
pub shows_one : {s : Bool} {sh : Shape} {ls ps qs : List (List ℕ)} → Shows s sh ls ps → Shows s sh ls qs → ps ≡ qs
shows_one {s} {sh} {ls} {ps} {qs} (each v a) (each w b) = parts_one s (cast sh ls) ps qs a b
shows_one (each v a) (details d b) = absurd (true≢false (sym (by_line_lem v)))
shows_one (each v a) (note_103 z) = absurd (true≢false (sym (by_line_lem v)))
shows_one (each v a) (rest b) = absurd (true≢false (sym (by_line_lem v)))
shows_one (each v a) (rest_behind z b) = absurd (true≢false (sym (by_line_lem v)))
shows_one (each v a) (note_202 d b) = absurd (true≢false (sym (by_line_lem v)))
shows_one (each v a) (behind_rpp z d b) = absurd (true≢false (sym (by_line_lem v)))
shows_one (details c a) (each v b) = absurd (true≢false (sym (by_line_lem v)))
shows_one (details c a) (details d b) = let t = details_one c d a b in ap₂ (λ (x y : List ℕ). x ∷ y ∷ []) t.0 t.1
shows_one (note_103 z) (each v b) = absurd (true≢false (sym (by_line_lem v)))
shows_one (note_103 z) (note_103 y) = refl
shows_one (note_103 z) (rest b) = absurd (not_rpp b.rows b.marks)
shows_one (note_103 z) (rest_behind y b) = absurd (no_lines b)
shows_one (rest a) (each v b) = absurd (true≢false (sym (by_line_lem v)))
shows_one (rest a) (note_103 z) = absurd (not_rpp a.rows a.marks)
shows_one (rest a) (rest b) = ap (λ (x : List ℕ). [] ∷ x ∷ []) (rest_one a b)
shows_one (rest a) (rest_behind z b) = absurd (not_rpp a.rows a.marks)
shows_one (rest_behind z a) (each v b) = absurd (true≢false (sym (by_line_lem v)))
shows_one (rest_behind z a) (note_103 y) = absurd (no_lines a)
shows_one (rest_behind z a) (rest b) = absurd (not_rpp b.rows b.marks)
shows_one (rest_behind {r} z a) (rest_behind y b) = ap (λ (x : List ℕ). r ∷ x ∷ []) (rest_one a b)
shows_one (note_202 c a) (each v b) = absurd (true≢false (sym (by_line_lem v)))
shows_one (note_202 c a) (note_202 d b) = let t = details_one c d a b in ap₂ (λ (x y : List ℕ). [] ∷ x ∷ y ∷ []) t.0 t.1
shows_one (note_202 c a) (behind_rpp z d b) = absurd (not_rpp a.rows a.marks)
shows_one (behind_rpp z c a) (each v b) = absurd (true≢false (sym (by_line_lem v)))
shows_one (behind_rpp z c a) (note_202 d b) = absurd (not_rpp b.rows b.marks)
shows_one (behind_rpp {r} z c a) (behind_rpp y d b) = let t = details_one c d a b in ap₂ (λ (x y : List ℕ). r ∷ x ∷ y ∷ []) t.0 t.1

-- so the records of a sheet are one only
apart_one : (form : Form) (s : Bool) (fs : List Field) (rs us : List Record) → OneByOne (Shown form s) fs rs → OneByOne (Shown form s) fs us → rs ≡ us
apart_one form s [] [] [] a b = refl
apart_one form s [] [] (u ∷ us) a b = absurd b
apart_one form s [] (r ∷ rs) us a b = absurd a
apart_one form s (f ∷ fs) [] us a b = absurd a
apart_one form s (f ∷ fs) (r ∷ rs) [] a b = absurd b
apart_one form s (field t ls ∷ fs) (field u ps ∷ rs) (field v qs ∷ us) a b =
    ap₂ (λ (x : Record) (xs : List Record). x ∷ xs) (ap₂ (λ (x : List ℕ) (y : List (List ℕ)). field x y) (a.0.0 ∙ sym b.0.0) (shows_one a.0.1 b.0.1)) (apart_one form s fs rs us a.1 b.1)

pub sheet_one : {form : Form} {s : Bool} {fs : List Field} {rs us : List Record} → ShownSheet form s fs rs → ShownSheet form s fs us → rs ≡ us
sheet_one {form} {s} {fs} a b = a.joined ∙ ap (join form) (apart_one form s fs a.apart b.apart a.each b.each) ∙ sym b.joined
