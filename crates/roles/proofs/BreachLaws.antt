-- 14 is broken exactly if some text breaks a clause, and then at the first such text, which has the least place. Assumes nothing.
use Prim.Native.Nat.{ℕ, ◌+◌, ◌≤◌}
use mathlib.Core.Path.{◌≡◌, refl, sym, ap, ◌∙◌}
use mathlib.Core.Bool.{Bool, true, false, ◌||◌, false≢true}
use mathlib.Core.List.{List, [], ◌∷◌, ◌++◌, map}
use mathlib.Core.Logic.{◌↔◌}
use native.Mathlib.Omega.{arith}
use lib.Dec.{ltb}
use lib.ListN.{length, length-append}
use borrow.Author.Tests.{ltb-true}
use Rattle.base.specs.Choice.{pick}
use Rattle.base.specs.Bytes.{empty, begins}
use Rattle.base.specs.Rules.{then}
use Rattle.base.specs.Calls.{Answer, said, stuck, text_of}
use Rattle.base.specs.Verdicts.{Fine, Broken}
use Rattle.base.proofs.RuleLaws.{fine_broken, same_broken}
use Rattle.alphabets.specs.Bank.{reading}
use Rattle.fields.specs.Field.{Field, field, lined, lines_of}
use Rattle.fields.specs.Places.{lines_size, next_of}
use Rattle.fields.proofs.PlaceLaws.{size_append}
use Rattle.contents.specs.Tests.{looks_tax}
use Rattle.contents.specs.Parts.{opens_rpp}
use Rattle.roles.specs.Role.{Part, copy, name, tax_name, line_of, shape_of, taxed, cast}
use Rattle.roles.specs.Speech.{Manner, as_name, as_tax_name, as_details, Speech, speech, said_at, name_speeches, details_speech, code_size, nzp_size, note_speeches, speeches}
use Rattle.types.specs.declared.Form.{Form}
use Rattle.types.specs.Sign.{sign_of}
use Rattle.roles.specs.Rule14.{texts, mute, hidden, tax_like, clauses, breaks_14, unheard, speeches_of, rule_14}
use Rattle.roles.specs.Sentences.{Breach, unreadable, wordless, name_hides, tax_hides, like_tax, Heard, FirstBreach, Rising, NoneBefore}
use Rattle.roles.specs.declared.Shape.{Shape}
use Rattle.roles.specs.declared.Shape.TheVariants.{Plain, Payer, Payee, Agent, Details, Note103, Note202}

-- ---- the clauses
or_left : (a b : Bool) → a ≡ true → (a || b) ≡ true
or_left a b e = ap (λ (q : Bool). q || b) e

or_right : (a b : Bool) → b ≡ true → (a || b) ≡ true
or_right true b e = refl
or_right false b e = e

pub breaks_breach : (m : Manner) (b : List ℕ) → breaks_14 m b ≡ true → Breach m b
unfolding breaks_14
breaks_breach m b e = go m (reading true b) refl e
  where
    go : (m : Manner) (a : Answer) → reading true b ≡ a → clauses m (mute a) b (text_of a) ≡ true → Breach m b
    go m (stuck k) r e = unreadable k r
    go m (said []) r e = wordless r
    go as_details (said (x ∷ d)) r e = absurd (false≢true e)
    go as_name (said (x ∷ d)) r e = name_hides (x ∷ d) r e
    go as_tax_name (said (x ∷ d)) r e = by (hidden b (x ∷ d)) refl e
      where
        by : (q : Bool) → hidden b (x ∷ d) ≡ q → (q || tax_like (x ∷ d)) ≡ true → Breach as_tax_name b
        by true h e = tax_hides (x ∷ d) r h
        by false h e = like_tax (x ∷ d) r e

pub first_clause : (m : Manner) (b d : List ℕ) → clauses m true b d ≡ true
first_clause as_details b d = refl
first_clause as_name b d = refl
first_clause as_tax_name b d = refl

pub breach_breaks : (m : Manner) (b : List ℕ) → Breach m b → breaks_14 m b ≡ true
unfolding breaks_14
breach_breaks m b (unreadable k r) = ap (λ (a : Answer). clauses m (mute a) b (text_of a)) r ∙ first_clause m b []
breach_breaks m b (wordless r) = ap (λ (a : Answer). clauses m (mute a) b (text_of a)) r ∙ first_clause m b []
breach_breaks as_name b (name_hides d r h) = ap (λ (a : Answer). clauses as_name (mute a) b (text_of a)) r ∙ or_right (empty d) (hidden b d) h
breach_breaks as_tax_name b (tax_hides d r h) = ap (λ (a : Answer). clauses as_tax_name (mute a) b (text_of a)) r ∙ or_right (empty d) (hidden b d || tax_like d) (or_left (hidden b d) (tax_like d) h)
breach_breaks as_tax_name b (like_tax d r h) = ap (λ (a : Answer). clauses as_tax_name (mute a) b (text_of a)) r ∙ or_right (empty d) (hidden b d || tax_like d) (or_right (hidden b d) (tax_like d) h)

-- ---- over placed texts
pub unheard_heard : (xs : List Speech) → unheard xs ≡ Fine → Heard xs
unfolding unheard
unheard_heard [] e = tt
unheard_heard (speech m o b ∷ xs) e = go (breaks_14 m b) refl e (unheard_heard xs)
  where
    go : (q : Bool) → breaks_14 m b ≡ q → pick q (Broken 14 o) (unheard xs) ≡ Fine → (unheard xs ≡ Fine → Heard xs) → (breaks_14 m b ≡ false) × Heard xs
    go true h e r = absurd (fine_broken 14 o (sym e))
    go false h e r = (h, r e)

pub heard_append : (xs ys : List Speech) → Heard xs → unheard (xs ++ ys) ≡ unheard ys
unfolding unheard
heard_append [] ys h = refl
heard_append (speech m o b ∷ xs) ys h = ap (λ (q : Bool). pick q (Broken 14 o) (unheard (xs ++ ys))) h.0 ∙ heard_append xs ys h.1

pub unheard_append : (xs ys : List Speech) → unheard (xs ++ ys) ≡ then (unheard xs) (unheard ys)
unfolding unheard
unheard_append [] ys = refl
unheard_append (speech m o b ∷ xs) ys = go (breaks_14 m b) (unheard_append xs ys)
  where
    go : (q : Bool) → unheard (xs ++ ys) ≡ then (unheard xs) (unheard ys) → pick q (Broken 14 o) (unheard (xs ++ ys)) ≡ then (pick q (Broken 14 o) (unheard xs)) (unheard ys)
    go true e = refl
    go false e = e

heard_fine : (xs : List Speech) → Heard xs → unheard xs ≡ Fine
unfolding unheard
heard_fine [] h = refl
heard_fine (speech m o b ∷ xs) h = ap (λ (q : Bool). pick q (Broken 14 o) (unheard xs)) h.0 ∙ heard_fine xs h.1

-- 14 is fine exactly if no text breaks it
pub fine_iff : (xs : List Speech) → (unheard xs ≡ Fine) ↔ Heard xs
fine_iff xs = (unheard_heard xs, heard_fine xs)

broken_first : (xs : List Speech) (n p : ℕ) → unheard xs ≡ Broken n p → (n ≡ 14) × FirstBreach xs p
unfolding unheard
broken_first [] n p e = absurd (fine_broken n p e)
broken_first (speech m o b ∷ xs) n p e = go (breaks_14 m b) refl e (broken_first xs n p)
  where
    go : (q : Bool) → breaks_14 m b ≡ q → pick q (Broken 14 o) (unheard xs) ≡ Broken n p → (unheard xs ≡ Broken n p → (n ≡ 14) × FirstBreach xs p) → (n ≡ 14) × FirstBreach (speech m o b ∷ xs) p
    go true h e r =
        let f : n ≡ 14 = sym (same_broken e).0 in
        let g : o ≡ p = (same_broken e).1 in
        (f, record { before = []; after = xs; manner = m; text = b; list = ap (λ (k : ℕ). speech m k b ∷ xs) g; heard = tt; breach = breaks_breach m b h })
    go false h e r =
        let w : (n ≡ 14) × FirstBreach xs p = r e in
        let f : FirstBreach xs p = w.1 in
        (w.0, record { before = speech m o b ∷ f.before; after = f.after; manner = f.manner; text = f.text; list = ap (λ (l : List Speech). speech m o b ∷ l) f.list; heard = (h, f.heard); breach = f.breach })

first_broken : (xs : List Speech) (p : ℕ) → FirstBreach xs p → unheard xs ≡ Broken 14 p
unfolding unheard
first_broken xs p f =
    ap unheard f.list ∙ heard_append f.before (speech f.manner p f.text ∷ f.after) f.heard
    ∙ ap (λ (q : Bool). pick q (Broken 14 p) (unheard f.after)) (breach_breaks f.manner f.text f.breach)

-- 14 is broken at p exactly if the text there breaks a clause, and none before
pub broken_iff : (xs : List Speech) (p : ℕ) → (unheard xs ≡ Broken 14 p) ↔ FirstBreach xs p
broken_iff xs p = (λ e. (broken_first xs 14 p e).1, first_broken xs p)

-- no other number
pub unheard_number : (xs : List Speech) (n p : ℕ) → unheard xs ≡ Broken n p → n ≡ 14
unheard_number xs n p e = (broken_first xs n p e).0

-- ---- the least place: where the places do not fall, no text that breaks a clause stands before the first in the list
pub later : (xs : List Speech) (a p e : ℕ) → p ≤ a → Rising a e xs → NoneBefore p xs
later [] a p e h w = tt
later (speech m q b ∷ xs) a p e h w = (λ z. omega (arith, w.0), later xs q p e (omega (arith, w.0)) w.1)

pub least : (xs : List Speech) (a e n p : ℕ) → Rising a e xs → unheard xs ≡ Broken n p → NoneBefore p xs
unfolding unheard
least [] a e n p w u = tt
least (speech m q b ∷ xs) a e n p w u = go (breaks_14 m b) refl u (least xs q e n p w.1)
  where
    go : (t : Bool) → breaks_14 m b ≡ t → pick t (Broken 14 q) (unheard xs) ≡ Broken n p → (unheard xs ≡ Broken n p → NoneBefore p xs) → NoneBefore p (speech m q b ∷ xs)
    go true h u r = let g : q ≡ p = (same_broken u).1 in (λ z. omega arith, later xs q p e (omega arith) w.1)
    go false h u r = (λ z. absurd (false≢true (sym h ∙ z)), r u)

within_through : (xs : List Speech) (a e : ℕ) → Rising a e xs → a ≤ e
within_through [] a e w = w
within_through (speech m q b ∷ xs) a e w = omega (arith, w.0, within_through xs q e w.1)

-- and the first that breaks one does not stand behind the last place
pub unheard_within : (xs : List Speech) (a e n p : ℕ) → Rising a e xs → unheard xs ≡ Broken n p → p ≤ e
unfolding unheard
unheard_within [] a e n p w u = absurd (fine_broken n p u)
unheard_within (speech m q b ∷ xs) a e n p w u = go (breaks_14 m b) u (unheard_within xs q e n p w.1)
  where
    go : (t : Bool) → pick t (Broken 14 q) (unheard xs) ≡ Broken n p → (unheard xs ≡ Broken n p → p ≤ e) → p ≤ e
    go true u r = let g : q ≡ p = (same_broken u).1 in omega (arith, within_through xs q e w.1)
    go false u r = r u

pub within_end : (xs : List Speech) (a e f : ℕ) → Rising a e xs → e ≤ f → Rising a f xs
within_end [] a e f w h = omega arith
within_end (speech m q b ∷ xs) a e f w h = (w.0, within_end xs q e f w.1 h)

pub within_start : (xs : List Speech) (c a e : ℕ) → c ≤ a → Rising a e xs → Rising c e xs
within_start [] c a e h w = omega arith
within_start (speech m q b ∷ xs) c a e h w = (omega (arith, w.0), w.1)

pub within_append : (xs ys : List Speech) (a e f : ℕ) → Rising a e xs → Rising e f ys → Rising a f (xs ++ ys)
within_append [] ys a e f w v = within_start ys a e f w v
within_append (speech m q b ∷ xs) ys a e f w v = (w.0, within_append xs ys q e f w.1 v)

-- ---- the texts of a message stand in order: those of a field before the next field's content
said_within : (o : ℕ) (p : Part) → Rising o (o + length (line_of p) + 2) (said_at o p)
said_within o (copy p) = omega arith
said_within o (name p) = (omega arith, omega arith)
said_within o (tax_name p) = (omega arith, omega arith)

names_within : (o : ℕ) (ps : List Part) → Rising o (o + lines_size (map line_of ps)) (name_speeches o ps)
unfolding name_speeches
names_within o [] = omega arith
names_within o (p ∷ ps) =
    let e : o + length (line_of p) + 2 + lines_size (map line_of ps) ≡ o + (length (line_of p) + 2 + lines_size (map line_of ps)) = omega arith in
    rw (← e) (within_append (said_at o p) (name_speeches (o + length (line_of p) + 2) ps) o (o + length (line_of p) + 2) (o + length (line_of p) + 2 + lines_size (map line_of ps)) (said_within o p) (names_within (o + length (line_of p) + 2) ps))

-- casting keeps the lines
same_names : (ls : List (List ℕ)) → map line_of (map name ls) ≡ ls
same_names [] = refl
same_names (l ∷ ls) = ap (λ (k : List (List ℕ)). l ∷ k) (same_names ls)

same_copies : (ls : List (List ℕ)) → map line_of (map copy ls) ≡ ls
same_copies [] = refl
same_copies (l ∷ ls) = ap (λ (k : List (List ℕ)). l ∷ k) (same_copies ls)

same_either : (q : Bool) (l : List ℕ) → line_of (pick q (copy l) (tax_name l)) ≡ l
same_either true l = refl
same_either false l = refl

same_taxed : (ls : List (List ℕ)) → map line_of (taxed ls) ≡ ls
same_taxed [] = refl
same_taxed (l ∷ ls) = ap (λ (k : List (List ℕ)). line_of (pick (looks_tax l) (copy l) (tax_name l)) ∷ k) (same_names ls) ∙ ap (λ (k : List ℕ). k ∷ ls) (same_either (looks_tax l) l)

pub same_lines : (s : Shape) (ls : List (List ℕ)) → map line_of (cast s ls) ≡ ls
unfolding cast
same_lines Plain ls = same_copies ls
same_lines Payer [] = refl
same_lines Payer (l ∷ ls) = go (begins 47 l)
  where
    go : (q : Bool) → map line_of (pick q (copy l ∷ taxed ls) (taxed (l ∷ ls))) ≡ l ∷ ls
    go true = ap (λ (k : List (List ℕ)). l ∷ k) (same_taxed ls)
    go false = same_taxed (l ∷ ls)
same_lines Payee [] = refl
same_lines Payee (l ∷ ls) = ap (λ (k : List (List ℕ)). line_of (pick (begins 47 l) (copy l) (name l)) ∷ k) (same_taxed ls) ∙ ap (λ (k : List ℕ). k ∷ ls) (go (begins 47 l))
  where
    go : (q : Bool) → line_of (pick q (copy l) (name l)) ≡ l
    go true = refl
    go false = refl
same_lines Agent [] = refl
same_lines Agent (l ∷ ls) = ap (λ (k : List (List ℕ)). l ∷ k) (same_names ls)
same_lines Details ls = same_copies ls
same_lines Note103 ls = same_copies ls
same_lines Note202 ls = same_copies ls

cast_within : (s : Shape) (o : ℕ) (ls : List (List ℕ)) → Rising o (o + lines_size ls + 2) (name_speeches o (cast s ls))
cast_within s o ls = within_end (name_speeches o (cast s ls)) o (o + lines_size ls) (o + lines_size ls + 2) (rw (same_lines s ls) at (names_within o (cast s ls))) (omega arith)

details_within : (front mark o : ℕ) (ls : List (List ℕ)) → mark ≤ 2 → Rising o (o + lines_size ls + 2) (details_speech front mark o ls)
unfolding details_speech
details_within front mark o [] h = omega arith
details_within front mark o (l ∷ ls) h = go (ltb front (length l)) refl
  where
    go : (q : Bool) → ltb front (length l) ≡ q → (o ≤ pick q (o + front) (o + (length l + 2 + mark))) × (pick q (o + front) (o + (length l + 2 + mark)) ≤ o + (length l + 2 + lines_size ls) + 2)
    go true e = let g = ltb-true front (length l) e in (omega arith, omega arith)
    go false e = (omega arith, omega arith)

note_within : (front o : ℕ) (ls : List (List ℕ)) → Rising o (o + lines_size ls + 2) (note_speeches front o ls)
unfolding note_speeches
note_within front o [] = omega arith
note_within front o (l ∷ ls) = go (opens_rpp l)
  where
    go : (q : Bool) → Rising o (o + lines_size (l ∷ ls) + 2) (pick q (details_speech front 2 (o + length l + 2) ls) (details_speech front 2 o (l ∷ ls)))
    go true =
        within_start (details_speech front 2 (o + length l + 2) ls) o (o + length l + 2) (o + lines_size (l ∷ ls) + 2) (omega arith)
        (within_end (details_speech front 2 (o + length l + 2) ls) (o + length l + 2) (o + length l + 2 + lines_size ls + 2) (o + lines_size (l ∷ ls) + 2) (details_within front 2 (o + length l + 2) ls (omega arith)) (omega arith))
    go false = details_within front 2 o (l ∷ ls) (omega arith)

pub speeches_within : (s : Bool) (shape : Shape) (o : ℕ) (ls : List (List ℕ)) → Rising o (o + lines_size ls + 2) (speeches s shape o ls)
unfolding speeches
speeches_within s Plain o ls = omega arith
speeches_within s Payer o ls = cast_within Payer o ls
speeches_within s Payee o ls = cast_within Payee o ls
speeches_within s Agent o ls = cast_within Agent o ls
speeches_within s Details o ls = details_within (code_size s) 0 o ls (omega arith)
speeches_within s Note103 o ls = note_within nzp_size o ls
speeches_within s Note202 o ls = note_within (nzp_size + code_size s) o ls

pub speeches_none : (s : Bool) (shape : Shape) (o : ℕ) → speeches s shape o [] ≡ []
unfolding speeches note_speeches details_speech name_speeches cast
speeches_none s Plain o = refl
speeches_none s Payer o = refl
speeches_none s Payee o = refl
speeches_none s Agent o = refl
speeches_none s Details o = refl
speeches_none s Note103 o = refl
speeches_none s Note202 o = refl

field_within : (form : Form) (o : ℕ) (f : Field) → Rising (o + 2) (next_of o f + 2) (texts form o f)
field_within form o (field t []) = rw (speeches_none true (shape_of form t) (o + 2 + length t)) (omega arith)
field_within form o (field t (l ∷ ls)) =
    let start : ℕ = o + 2 + length t in
    let xs : List Speech = speeches true (shape_of form t) start (l ∷ ls) in
    let n = length-append t (58 ∷ l) in
    within_start xs (o + 2) start (next_of o (field t (l ∷ ls)) + 2) (omega arith)
    (within_end xs start (start + lines_size (l ∷ ls) + 2) (next_of o (field t (l ∷ ls)) + 2) (speeches_within true (shape_of form t) start (l ∷ ls)) (omega arith))

pub spoken_within : (form : Form) (o : ℕ) (fs : List Field) → Rising (o + 2) (o + lines_size (lines_of fs) + 2) (speeches_of form o fs)
unfolding speeches_of
spoken_within form o [] = omega arith
spoken_within form o (f ∷ fs) =
    let z = size_append (lined f) (lines_of fs) in
    within_append (texts form o f) (speeches_of form (next_of o f) fs) (o + 2) (next_of o f + 2) (o + lines_size (lines_of (f ∷ fs)) + 2) (field_within form o f)
    (within_end (speeches_of form (next_of o f) fs) (next_of o f + 2) (next_of o f + lines_size (lines_of fs) + 2) (o + lines_size (lines_of (f ∷ fs)) + 2) (spoken_within form (next_of o f) fs) (omega arith))

-- ---- 14 over the fields of a message: broken exactly if some text breaks a clause, at the first such text, and no such text stands before it
pub rule_14_broken : (form : Form) (fs : List Field) (p : ℕ) → rule_14 form fs ≡ Broken 14 p → (sign_of fs ≡ true) × FirstBreach (speeches_of form 5 fs) p × NoneBefore p (speeches_of form 5 fs)
unfolding rule_14
rule_14_broken form fs p e = go (sign_of fs) refl e
  where
    go : (s : Bool) → sign_of fs ≡ s → pick s (unheard (speeches_of form 5 fs)) Fine ≡ Broken 14 p → (sign_of fs ≡ true) × FirstBreach (speeches_of form 5 fs) p × NoneBefore p (speeches_of form 5 fs)
    go true h e = (h, (broken_first (speeches_of form 5 fs) 14 p e).1, least (speeches_of form 5 fs) 7 (5 + lines_size (lines_of fs) + 2) 14 p (spoken_within form 5 fs) e)
    go false h e = absurd (fine_broken 14 p e)

pub rule_14_breaks : (form : Form) (fs : List Field) (p : ℕ) → sign_of fs ≡ true → FirstBreach (speeches_of form 5 fs) p → rule_14 form fs ≡ Broken 14 p
unfolding rule_14
rule_14_breaks form fs p s f = ap (λ (q : Bool). pick q (unheard (speeches_of form 5 fs)) Fine) s ∙ first_broken (speeches_of form 5 fs) p f

pub rule_14_fine : (form : Form) (fs : List Field) → (rule_14 form fs ≡ Fine) ↔ (sign_of fs ≡ true → Heard (speeches_of form 5 fs))
unfolding rule_14
rule_14_fine form fs = (λ e s. unheard_heard (speeches_of form 5 fs) (rw s at e), go (sign_of fs) refl)
  where
    go : (q : Bool) → sign_of fs ≡ q → (sign_of fs ≡ true → Heard (speeches_of form 5 fs)) → pick q (unheard (speeches_of form 5 fs)) Fine ≡ Fine
    go true h f = heard_fine (speeches_of form 5 fs) (f h)
    go false h f = refl
