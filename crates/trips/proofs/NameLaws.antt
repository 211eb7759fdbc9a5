-- Lines that are copied or names: what they keep when they are read and written again, and the record that they make on the sheet (T7, N14,
-- S6, S7). Assumes nothing.
use Prim.Native.Nat.{ℕ, ◌+◌}
use mathlib.Core.Path.{◌≡◌, refl, sym, ap, ap₂, ◌∙◌, subst}
use mathlib.Core.Bool.{Bool, true, false, not, ◌&&◌, true≢false, false≢true}
use mathlib.Core.List.{List, [], ◌∷◌, map, tail}
use lib.Dec.{eqb}
use lib.ListN.{length}
use borrow.Author.Tests.{eqb-true}
use Rattle.base.specs.Choice.{pick, all}
use Rattle.base.specs.Bytes.{begins, empty, digit, xset, same}
use Rattle.base.specs.Quoted.{bytes}
use Rattle.base.proofs.Bools.{left, right, both, isnt}
use Rattle.base.specs.Examples.{AllHold}
use Rattle.alphabets.proofs.Theorems.{plain_iff, no_shorter}
use Rattle.alphabets.proofs.SaidLaws.{is_said}
use Rattle.fields.specs.Shapes.{goes_on}
use Rattle.types.specs.declared.Form.{Form}
use Rattle.types.specs.Sign.{first_line}
use Rattle.contents.proofs.SizeLaws.{right_nonempty}
use Rattle.contents.specs.Tests.{looks_tax, starts}
use Rattle.roles.specs.Role.{shape_of, Part, copy, name, tax_name, line_of, taxed, cast}
use Rattle.roles.specs.Speech.{name_speeches, speeches}
use Rattle.roles.specs.Rule14.{is_cyrillic_inn}
use Rattle.roles.specs.Sentences.{Heard}
use Rattle.roles.specs.declared.Shape.{Shape}
use Rattle.roles.specs.declared.Shape.TheVariants.{Plain, Payer, Payee, Agent}
use Rattle.roles.proofs.BreachLaws.{same_lines}
use Rattle.roles.proofs.CastLaws.{turned, Lines, Steady, AllSteady, untaxed, cast_untaxed, cast_turned}
use Rattle.records.specs.Record.{plain_text}
use Rattle.records.specs.Rule19 as rule_19
use Rattle.records.specs.Rule19.{general, tax_part, sound}
use Rattle.writer.specs.Spread.{line_for, cast_parts, content_lines}
use Rattle.writer.specs.Sheet.{crowded}
use Rattle.written.specs.Sentences.{OneByOne}
use Rattle.written.proofs.SpeltLaws.{plain_same, slash, colon, dash, spelt_head, spelt_empty, spelt_tax}
use Rattle.written.proofs.ReadyLaws.{Fair, speaks}
use Rattle.sheets.specs.Gather.{part_for, content_parts}
use Rattle.sheets.specs.Steps.{is_note}
use Rattle.trips.specs.Again.{again, line_again}
use Rattle.trips.specs.Shown.{LineByLine, plain, payer, payee, agent, ReadPart, Shows}
use Rattle.trips.specs.Shown as shown
use Rattle.trips.proofs.Held.{Held, Kept, TaxKept, KeptPart, Sheeted}
use Rattle.trips.proofs.ReadingLaws.{read_as, Clear, ClearTax, plain_clear, plain_tax, heard_clear, heard_tax, writes_again}
use Rattle.trips.proofs.SaidLaws.{set_text}

-- ---- names, one by one
clear_kept : {s : Bool} {l : List ℕ} → Clear s l → Kept s l
clear_kept {s} {l} w =
    let q = writes_again s l w in
    record {
      text = read_as s l;
      reads = w.reads;
      means = w.means;
      some = spelt_empty s (read_as s l) (again s l) q ∙ w.means;
      slim = no_shorter s (read_as s l) (again s l) l q w.reads;
      slash = spelt_head s 47 (read_as s l) (again s l) slash q ∙ w.heads 47 slash;
      slash_read = w.heads 47 slash;
    }

-- what is written again for a name in the tax place is no tax line
no_tax : (s : Bool) (l : List ℕ) → ClearTax s l → looks_tax (again s l) ≡ false
no_tax true l w = spelt_tax (read_as true l) (again true l) (writes_again true l w.as_name_lem) (w.no_inn refl)
no_tax false l w = ap looks_tax (plain_same (read_as false l) (again false l) (writes_again false l w.as_name_lem)) ∙ w.untaxed_read

clear_tax_kept : {s : Bool} {l : List ℕ} → ClearTax s l → TaxKept s l
clear_tax_kept {s} {l} w = record { as_name_lem = clear_kept w.as_name_lem; untaxed = w.untaxed; untaxed_read = w.untaxed_read; untaxed_again = no_tax s l w }

-- ---- the parts of a field's lines
abbrev ClearPart : Bool → Part → Type 0
ClearPart s (copy l) = all xset l ≡ true
ClearPart s (name l) = Clear s l
ClearPart s (tax_name l) = ClearTax s l

abbrev some : List ℕ → Bool
some l = not (empty l)

signed_parts : (o : ℕ) (xs : List Part) → Heard (name_speeches o xs) → all (all xset) (map line_of xs) ≡ true → all untaxed xs ≡ true → AllHold (ClearPart true) xs
unfolding name_speeches
signed_parts o [] h i t = tt
signed_parts o (copy l ∷ xs) h i t = (left (all xset l) _ i, signed_parts (o + length l + 2) xs h (right (all xset l) _ i) t)
signed_parts o (name l ∷ xs) h i t = (heard_clear l h.0, signed_parts (o + length l + 2) xs h.1 (right (all xset l) _ i) t)
signed_parts o (tax_name l ∷ xs) h i t =
    (heard_tax l h.0 (isnt (looks_tax l) (left (not (looks_tax l)) _ t)), signed_parts (o + length l + 2) xs h.1 (right (all xset l) _ i) (right (not (looks_tax l)) _ t))

plain_parts : (xs : List Part) → all some (map line_of xs) ≡ true → all (all xset) (map line_of xs) ≡ true → all untaxed xs ≡ true → AllHold (ClearPart false) xs
plain_parts [] e i t = tt
plain_parts (x ∷ xs) e i t =
    (one x (left (some (line_of x)) _ e) (left (all xset (line_of x)) _ i) (left (untaxed x) _ t), plain_parts xs (right (some (line_of x)) _ e) (right (all xset (line_of x)) _ i) (right (untaxed x) _ t))
  where
    one : (x : Part) → some (line_of x) ≡ true → all xset (line_of x) ≡ true → untaxed x ≡ true → ClearPart false x
    one (copy l) e i t = i
    one (name l) e i t = plain_clear l i (isnt (empty l) e)
    one (tax_name l) e i t = plain_tax l i (isnt (empty l) e) (isnt (looks_tax l) t)

-- copied lines have no text that 14 looks at
copied_parts : (s : Bool) (ls : List (List ℕ)) → all (all xset) ls ≡ true → AllHold (ClearPart s) (map copy ls)
copied_parts s [] i = tt
copied_parts s (l ∷ ls) i = (left (all xset l) _ i, copied_parts s ls (right (all xset l) _ i))

-- no line is empty
goes_some : (ls : List (List ℕ)) → all goes_on ls ≡ true → all some ls ≡ true
goes_some [] e = refl
goes_some (l ∷ ls) e = both (left (some l) _ (left (goes_on l) _ e)) (goes_some ls (right (goes_on l) _ e))

all_some : (ls : List (List ℕ)) → empty (first_line ls) ≡ false → all goes_on (tail ls) ≡ true → all some ls ≡ true
all_some [] e g = refl
all_some (l ∷ ls) e g = both (ap not e) (goes_some ls g)

module _ (ls : List (List ℕ)) (fair : Fair ls) (front : empty (first_line ls) ≡ false) where
  lines_in_lem : (sh : Shape) → all (all xset) (map line_of (cast sh ls)) ≡ true
  lines_in_lem sh = ap (all (all xset)) (same_lines sh ls) ∙ fair.inside

  lines_some : (sh : Shape) → all some (map line_of (cast sh ls)) ≡ true
  lines_some sh = ap (all some) (same_lines sh ls) ∙ all_some ls front fair.on

  cast_clear : (s : Bool) (sh : Shape) → LineByLine sh → (s ≡ true → Heard (speeches true sh 0 ls)) → AllHold (ClearPart s) (cast sh ls)
  unfolding speeches cast
  cast_clear s _ plain h = copied_parts s ls fair.inside
  cast_clear true _ payer h = signed_parts 0 (cast Payer ls) (h refl) (lines_in_lem Payer) (cast_untaxed Payer ls)
  cast_clear true _ payee h = signed_parts 0 (cast Payee ls) (h refl) (lines_in_lem Payee) (cast_untaxed Payee ls)
  cast_clear true _ agent h = signed_parts 0 (cast Agent ls) (h refl) (lines_in_lem Agent) (cast_untaxed Agent ls)
  cast_clear false _ payer h = plain_parts (cast Payer ls) (lines_some Payer) (lines_in_lem Payer) (cast_untaxed Payer ls)
  cast_clear false _ payee h = plain_parts (cast Payee ls) (lines_some Payee) (lines_in_lem Payee) (cast_untaxed Payee ls)
  cast_clear false _ agent h = plain_parts (cast Agent ls) (lines_some Agent) (lines_in_lem Agent) (cast_untaxed Agent ls)

held_clear : (form : Form) (s : Bool) (t : List ℕ) (ls : List (List ℕ)) → LineByLine (shape_of form t) → Held form s t ls → AllHold (ClearPart s) (cast (shape_of form t) ls)
held_clear form s t ls v h = cast_clear ls h.fair (right_nonempty form s t ls h.right) s (shape_of form t) v h.heard

all_kept : (s : Bool) (xs : List Part) → AllHold (ClearPart s) xs → AllHold (KeptPart s) xs
all_kept s [] w = tt
all_kept s (x ∷ xs) w = (one x w.0, all_kept s xs w.1)
  where
    one : (x : Part) → ClearPart s x → KeptPart s x
    one (copy l) w = tt
    one (name l) w = clear_kept w
    one (tax_name l) w = clear_tax_kept w

pub held_kept : (form : Form) (s : Bool) (t : List ℕ) (ls : List (List ℕ)) → LineByLine (shape_of form t) → Held form s t ls → AllHold (KeptPart s) (cast (shape_of form t) ls)
held_kept form s t ls v h = all_kept s (cast (shape_of form t) ls) (held_clear form s t ls v h)

-- ---- read, and cast again
module _ (s : Bool) where
  read_lines : Lines (read_as s) (part_for s)
  read_lines = record { copied = λ p. refl; named = λ p. refl; tax_placed = λ p. refl }

  all_steady : (xs : List Part) → AllHold (ClearPart s) xs → AllSteady (read_as s) xs
  all_steady [] w = tt
  all_steady (x ∷ xs) w = (one x w.0, all_steady xs w.1)
    where
      one : (x : Part) → ClearPart s x → Steady (read_as s) x
      one (copy l) w = tt
      one (name l) w = w.heads 47 slash
      one (tax_name l) w = (w.as_name_lem.heads 47 slash, w.untaxed_read)

  cast_read : (sh : Shape) (ls : List (List ℕ)) → AllHold (ClearPart s) (cast sh ls) → cast sh (map (part_for s) (cast sh ls)) ≡ map (turned (read_as s)) (cast sh ls)
  cast_read sh ls w = cast_turned (read_as s) (part_for s) read_lines sh ls (all_steady (cast sh ls) w)

  -- written again, part by part
  lines_again_lem : (xs : List Part) → map (line_for s) (map (turned (read_as s)) xs) ≡ map (line_again s) xs
  lines_again_lem [] = refl
  lines_again_lem (x ∷ xs) = ap₂ ◌∷◌ (one x) (lines_again_lem xs)
    where
      one : (x : Part) → line_for s (turned (read_as s) x) ≡ line_again s x
      one (copy l) = refl
      one (name l) = refl
      one (tax_name l) = refl

  parts_are : (sh : Shape) (ls : List (List ℕ)) → LineByLine sh → content_parts s sh ls ≡ map (part_for s) (cast sh ls)
  unfolding content_parts
  parts_are _ ls plain = refl
  parts_are _ ls payer = refl
  parts_are _ ls payee = refl
  parts_are _ ls agent = refl

  lines_are : (sh : Shape) (ps : List (List ℕ)) → LineByLine sh → content_lines s sh ps ≡ map (line_for s) (cast sh ps)
  unfolding content_lines
  lines_are _ ps plain = refl
  lines_are _ ps payer = refl
  lines_are _ ps payee = refl
  lines_are _ ps agent = refl

-- the lines written again, part by part
pub held_lines : (form : Form) (s : Bool) (t : List ℕ) (ls : List (List ℕ)) → LineByLine (shape_of form t) → Held form s t ls
    → content_lines s (shape_of form t) (content_parts s (shape_of form t) ls) ≡ map (line_again s) (cast (shape_of form t) ls)
held_lines form s t ls v h =
    let sh : Shape = shape_of form t in
    ap (content_lines s sh) (parts_are s sh ls v) ∙ lines_are s sh (map (part_for s) (cast sh ls)) v
    ∙ ap (map (line_for s)) (cast_read s sh ls (held_clear form s t ls v h)) ∙ lines_again_lem s (cast sh ls)

-- ---- the record
cast_parts_lem : (sh : Shape) (ps : List (List ℕ)) → LineByLine sh → cast_parts sh ps ≡ cast sh ps
cast_parts_lem _ ps plain = refl
cast_parts_lem _ ps payer = refl
cast_parts_lem _ ps payee = refl
cast_parts_lem _ ps agent = refl

-- a tax line begins with Latin INN
tax_inn_lem : (l : List ℕ) → looks_tax l ≡ true → is_cyrillic_inn l ≡ false
unfolding looks_tax is_cyrillic_inn same digit
tax_inn_lem [] e = refl
tax_inn_lem (x ∷ l) e =
    let n : x ≡ 73 = eqb-true x 73 (left (eqb x 73) _ (left (starts (bytes "INN") (x ∷ l)) _ e)) in
    ap (λ (y : ℕ). is_cyrillic_inn (y ∷ l)) n

module _ (s : Bool) where
  part_some : (x : Part) → ClearPart s x → some (line_of x) ≡ true → some (part_for s x) ≡ true
  part_some (copy l) w e = e
  part_some (name l) w e = ap not w.means
  part_some (tax_name l) w e = ap not w.as_name_lem.means

  name_on : (l : List ℕ) → Clear s l → goes_on l ≡ true → goes_on (read_as s l) ≡ true
  name_on l w g =
      ap₂ (λ (a b : Bool). not a && b) w.means (ap₂ (λ (a b : Bool). not a && not b) (w.heads 45 dash) (w.heads 58 colon))
      ∙ right (some l) _ g

  parts_on : (xs : List Part) → AllHold (ClearPart s) xs → all goes_on (map line_of xs) ≡ true → all goes_on (map (part_for s) xs) ≡ true
  parts_on [] w g = refl
  parts_on (x ∷ xs) w g = both (one x w.0 (left (goes_on (line_of x)) _ g)) (parts_on xs w.1 (right (goes_on (line_of x)) _ g))
    where
      one : (x : Part) → ClearPart s x → goes_on (line_of x) ≡ true → goes_on (part_for s x) ≡ true
      one (copy l) w g = g
      one (name l) w g = name_on l w g
      one (tax_name l) w g = name_on l w.as_name_lem g

  parts_general : (xs : List Part) (ls : List (List ℕ)) → map line_of xs ≡ ls → Fair ls → empty (first_line ls) ≡ false → AllHold (ClearPart s) xs → general (map (part_for s) xs) ≡ true
  unfolding general
  parts_general [] ls i f e w = absurd (true≢false (ap empty i ∙ f.some))
  parts_general (x ∷ xs) ls i f e w =
      both (part_some x w.0 (ap not (ap (λ (k : List (List ℕ)). empty (first_line k)) i ∙ e))) (parts_on xs w.1 (ap (λ (k : List (List ℕ)). all goes_on (tail k)) i ∙ f.on))

  parts_textual : (xs : List Part) → AllHold (ClearPart s) xs → all plain_text (map (part_for s) xs) ≡ true
  parts_textual [] w = refl
  parts_textual (x ∷ xs) w = both (one x w.0) (parts_textual xs w.1)
    where
      one : (x : Part) → ClearPart s x → plain_text (part_for s x) ≡ true
      one (copy l) w = set_text l w
      one (name l) w = w.textual
      one (tax_name l) w = w.as_name_lem.textual

  parts_say : (xs : List Part) → AllHold (ClearPart s) xs → all (speaks s) (map (turned (read_as s)) xs) ≡ true
  parts_say [] w = refl
  parts_say (x ∷ xs) w = both (one x w.0) (parts_say xs w.1)
    where
      one : (x : Part) → ClearPart s x → speaks s (turned (read_as s) x) ≡ true
      one (copy l) w = ap is_said ((plain_iff l).1 w)
      one (name l) w = ap is_said (writes_again s l w)
      one (tax_name l) w = ap is_said (writes_again s l w.as_name_lem)

  parts_shown : (xs : List Part) → AllHold (ClearPart s) xs → OneByOne (ReadPart s) xs (map (part_for s) xs)
  parts_shown [] w = tt
  parts_shown (x ∷ xs) w = (one x w.0, parts_shown xs w.1)
    where
      one : (x : Part) → ClearPart s x → ReadPart s x (part_for s x)
      one (copy l) w = refl
      one (name l) w = w.reads
      one (tax_name l) w = w.as_name_lem.reads

  -- S5: what is read in the tax place
  placed_inn : (b : Bool) (l : List ℕ) → looks_tax l ≡ b → s ≡ true → ClearPart s (pick b (copy l) (tax_name l)) → is_cyrillic_inn (part_for s (pick b (copy l) (tax_name l))) ≡ false
  placed_inn true l e q w = tax_inn_lem l e
  placed_inn false l e q w = w.no_inn q

  first_inn : (ls : List (List ℕ)) → s ≡ true → AllHold (ClearPart s) (taxed ls) → is_cyrillic_inn (first_line (map (part_for s) (taxed ls))) ≡ false
  unfolding is_cyrillic_inn same
  first_inn [] q w = refl
  first_inn (l ∷ ls) q w = placed_inn (looks_tax l) l refl q w.0

  part_head : (b : Bool) (l : List ℕ) → ClearPart s (pick b (copy l) (tax_name l)) → begins 47 (part_for s (pick b (copy l) (tax_name l))) ≡ begins 47 l
  part_head true l w = refl
  part_head false l w = w.as_name_lem.heads 47 slash

  payer_inn : (b : Bool) (l : List ℕ) (ls : List (List ℕ)) → begins 47 l ≡ b → s ≡ true → AllHold (ClearPart s) (pick b (copy l ∷ taxed ls) (taxed (l ∷ ls)))
      → is_cyrillic_inn (tax_part Payer (map (part_for s) (pick b (copy l ∷ taxed ls) (taxed (l ∷ ls))))) ≡ false
  payer_inn true l ls e q w = ap (λ (b : Bool). is_cyrillic_inn (pick b (first_line (map (part_for s) (taxed ls))) l)) e ∙ first_inn ls q w.1
  payer_inn false l ls e q w =
      let p : List ℕ = part_for s (pick (looks_tax l) (copy l) (tax_name l)) in
      ap (λ (b : Bool). is_cyrillic_inn (pick b (first_line (map (part_for s) (map name ls))) p)) (part_head (looks_tax l) l w.0 ∙ e) ∙ placed_inn (looks_tax l) l refl q w.0

  not_inn : (p : List ℕ) → (s ≡ true → is_cyrillic_inn p ≡ false) → rule_19.untaxed s p ≡ true
  unfolding rule_19.untaxed
  not_inn p h = go s h
    where
      go : (b : Bool) → (b ≡ true → is_cyrillic_inn p ≡ false) → not (b && is_cyrillic_inn p) ≡ true
      go true h = ap not (h refl)
      go false h = refl

  parts_sound : (sh : Shape) (ls : List (List ℕ)) → LineByLine sh → Fair ls → empty (first_line ls) ≡ false → AllHold (ClearPart s) (cast sh ls) → sound s sh (map (part_for s) (cast sh ls)) ≡ true
  unfolding sound cast
  parts_sound _ ls plain f e w = parts_general (cast Plain ls) ls (same_lines Plain ls) f e w
  parts_sound _ ls agent f e w = parts_general (cast Agent ls) ls (same_lines Agent ls) f e w
  parts_sound _ [] payer f e w = absurd (true≢false f.some)
  parts_sound _ (l ∷ ls) payer f e w =
      both (parts_general (cast Payer (l ∷ ls)) (l ∷ ls) (same_lines Payer (l ∷ ls)) f e w)
      (not_inn (tax_part Payer (map (part_for s) (cast Payer (l ∷ ls)))) (λ q. payer_inn (begins 47 l) l ls refl q w))
  parts_sound _ [] payee f e w = absurd (true≢false f.some)
  parts_sound _ (l ∷ ls) payee f e w =
      both (parts_general (cast Payee (l ∷ ls)) (l ∷ ls) (same_lines Payee (l ∷ ls)) f e w)
      (not_inn (tax_part Payee (map (part_for s) (cast Payee (l ∷ ls)))) (λ q. first_inn ls q w.1))

  not_crowded : (sh : Shape) (ps : List (List ℕ)) → LineByLine sh → crowded s sh ps ≡ false
  unfolding crowded
  not_crowded _ ps plain = refl
  not_crowded _ ps payer = refl
  not_crowded _ ps payee = refl
  not_crowded _ ps agent = refl

not_note : (sh : Shape) → LineByLine sh → is_note sh ≡ false
not_note _ plain = refl
not_note _ payer = refl
not_note _ payee = refl
not_note _ agent = refl

pub sheeted_names : (form : Form) (s : Bool) (t : List ℕ) (ls : List (List ℕ)) → LineByLine (shape_of form t) → Held form s t ls → Sheeted form s t ls
sheeted_names form s t ls v h =
    let sh : Shape = shape_of form t in
    let xs : List Part = cast sh ls in
    let ps : List (List ℕ) = content_parts s sh ls in
    let i : ps ≡ map (part_for s) xs = parts_are s sh ls v in
    let w : AllHold (ClearPart s) xs = held_clear form s t ls v h in
    let is : cast_parts sh ps ≡ map (turned (read_as s)) xs = cast_parts_lem sh ps v ∙ ap (cast sh) i ∙ cast_read s sh ls w in
    record {
      shows = subst (Shows s sh ls) (sym i) (shown.each v (parts_shown s xs w));
      own = λ q.
          record {
            is_sound = ap (sound s sh) i ∙ parts_sound s sh ls v h.fair (right_nonempty form s t ls h.right) w;
            says = ap (all (speaks s)) is ∙ parts_say s xs w;
            textual = ap (all plain_text) i ∙ parts_textual s xs w;
          };
      rpp = λ q. absurd (false≢true (sym (not_note sh v) ∙ q));
      fits = λ q. not_crowded s sh ps v;
    }
