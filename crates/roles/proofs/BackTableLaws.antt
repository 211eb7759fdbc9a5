-- With the table backwards, what is found in a content is 14 over the field. Assumes nothing.
use Prim.Native.Nat.{ℕ, ◌+◌, ◌<◌, ◌≤◌}
use mathlib.Core.Path.{◌≡◌, refl, sym, ap, ap₂, ◌∙◌}
use mathlib.Core.Bool.{Bool, true, false, ◌&&◌, ◌||◌}
use mathlib.Core.List.{List, [], ◌∷◌, ◌++◌, map}
use native.Mathlib.Omega.{arith}
use lib.Dec.{eqb, ltb}
use lib.ListN.{length, get_or, drop}
use borrow.Author.Tests.{ne_eqb}
use Rattle.std.specs.Prelude.{Some}
use Rattle.types.specs.declared.Form.{Form}
use Rattle.base.specs.Choice.{pick, all}
use Rattle.base.specs.Bytes.{byte, digit, is_in, begins, same, without}
use Rattle.base.specs.Rules.{then}
use Rattle.base.specs.Calls.{Answer, said, stuck, text_of}
use Rattle.base.specs.Verdicts.{Broken}
use Rattle.alphabets.specs.Bank.{reads, reading}
use Rattle.alphabets.specs.Steps.{back_table}
use Rattle.std.specs.Prelude.{Ok, Err}
use Rattle.alphabets.specs.Pieces.{Piece, Read, piece_in, whole, characters_from}
use Rattle.alphabets.specs.Parts.{spoken as heard}
use Rattle.alphabets.proofs.PieceLaws.{reads_piece, characters_said}
use Rattle.alphabets.proofs.SpokenLaws.{counted}
use Rattle.fields.specs.Field.{Field, field}
use Rattle.fields.specs.Places.{lines_size, start_of, next_of}
use Rattle.fields.specs.ByLines.{joined}
use Rattle.fields.proofs.ContentLaws.{lines_joined}
use Rattle.fields.proofs.PlaceLaws.{joined_length}
use Rattle.contents.specs.Tests.{word_and_digit, looks_tax}
use Rattle.contents.specs.Parts.{opens_rpp}
use Rattle.roles.specs.Role.{Part, copy, name, tax_name, line_of, shape_of, cast}
use Rattle.roles.specs.Speech.{Manner, as_name, as_tax_name, as_details, Speech, speech, said_at, name_speeches, later_text, details_speech, code_size, nzp_size, note_speeches, speeches}
use Rattle.roles.specs.Rule14.{mute, hidden, is_cyrillic_inn, tax_like, clauses, breaks_14, unheard, texts, speeches_of}
use Rattle.roles.specs.Found.{mute_in, breaks_14_in, found, broken_in}
use Rattle.roles.specs.Places.{verdict_at}
use Rattle.roles.specs.declared.Shape.{Shape}
use Rattle.roles.specs.declared.Shape.TheVariants.{Plain, Payer, Payee, Agent, Details, Note103, Note202}
use Rattle.roles.proofs.BreachLaws.{first_clause, unheard_append, unheard_within, speeches_within}

-- ---- the clauses look at four signs of a reading
module _ (x y z : ℕ) (a : eqb 0 x ≡ false) (b : eqb 0 y ≡ false) (c : eqb 0 z ≡ false) where
  numbered_by : (s : List ℕ) → word_and_digit (x ∷ y ∷ z ∷ []) s ≡ ((eqb (byte s 0) x && (eqb (byte s 1) y && (eqb (byte s 2) z && true))) && digit (byte s 3))
  unfolding same
  numbered_by [] = rw a
  numbered_by (p ∷ []) = rw b
  numbered_by (p ∷ q ∷ []) = rw c
  numbered_by (p ∷ q ∷ r ∷ s) = refl

  numbered_same : (d u : List ℕ) → ((j : ℕ) → j < 4 → get_or d j 0 ≡ get_or u j 0) → word_and_digit (x ∷ y ∷ z ∷ []) d ≡ word_and_digit (x ∷ y ∷ z ∷ []) u
  numbered_same d u h = numbered_by d ∙ rw (h 0 (omega arith), h 1 (omega arith), h 2 (omega arith), h 3 (omega arith)) (sym (numbered_by u))

module _ (d u : List ℕ) (h : (j : ℕ) → j < 4 → get_or d j 0 ≡ get_or u j 0) where
  same_hidden : (b : List ℕ) → hidden b d ≡ hidden b u
  unfolding hidden
  same_hidden b = ap (λ (n : ℕ). begins 39 b && is_in n (47 ∷ 58 ∷ 45 ∷ [])) (h 0 (omega arith))

  same_like : tax_like d ≡ tax_like u
  unfolding tax_like looks_tax is_cyrillic_inn
  same_like = ap₂ (λ (p q : Bool). p || q) (numbered_same 73 78 78 refl refl refl d u h) (numbered_same 200 205 205 refl refl refl d u h)

  same_clauses : (m : Manner) (q : Bool) (b : List ℕ) → clauses m q b d ≡ clauses m q b u
  same_clauses as_details q b = refl
  same_clauses as_name q b = ap (λ (x : Bool). q || x) (same_hidden b)
  same_clauses as_tax_name q b = ap₂ (λ (x y : Bool). q || (x || y)) (same_hidden b) same_like

pub mute_back : (b : List ℕ) → mute_in (piece_in back_table false b) ≡ mute (reading true b)
mute_back b = go (piece_in back_table false b) (counted back_table false b) ∙ ap mute (sym (reads_piece false b))
  where
    go : (p : Piece) → ((n : ℕ) (z : Bool) → p ≡ Read n z → n ≡ length (heard back_table false b)) → mute_in p ≡ mute (whole (length b) p (heard back_table false b))
    go (Err k) h = refl
    go (Ok p) h = side p.latin (heard back_table false b) p.units (h p.units p.latin refl)
      where
        side : (z : Bool) (u : List ℕ) (n : ℕ) → n ≡ length u → (z || eqb n 0) ≡ mute (pick z (stuck (length b)) (said u))
        side true u n e = refl
        side false [] n e = rw e
        side false (x ∷ u) n e = ne_eqb n 0 (λ z. omega arith)

pub breaks_back : (m : Manner) (b : List ℕ) → breaks_14_in back_table m b ≡ breaks_14 m b
unfolding breaks_14_in breaks_14
breaks_back m b = ap (λ (q : Bool). clauses m q b (characters_from back_table 4 false b 0)) (mute_back b) ∙ go (reads false b) refl
  where
    go : (a : Answer) → reads false b ≡ a → clauses m (mute (reads false b)) b (characters_from back_table 4 false b 0) ≡ clauses m (mute (reads false b)) b (text_of (reads false b))
    go (stuck k) e = ap (λ (a : Answer). clauses m (mute a) b (characters_from back_table 4 false b 0)) e ∙ first_clause m b (characters_from back_table 4 false b 0) ∙ sym (ap (λ (a : Answer). clauses m (mute a) b (text_of a)) e ∙ first_clause m b [])
    go (said d) e =
        same_clauses (characters_from back_table 4 false b 0) d (characters_said 4 false b 0 d e) m (mute (reads false b)) b
        ∙ ap (λ (u : List ℕ). clauses m (mute (reads false b)) b u) (sym (ap text_of e))

-- ---- texts further on
abbrev moved : ℕ → Speech → Speech
moved o (speech m p b) = speech m (o + p) b

map_append : (o : ℕ) (xs ys : List Speech) → map (moved o) (xs ++ ys) ≡ map (moved o) xs ++ map (moved o) ys
map_append o [] ys = refl
map_append o (x ∷ xs) ys = ap (λ (zs : List Speech). moved o x ∷ zs) (map_append o xs ys)

said_moved : (o i : ℕ) (p : Part) → said_at (o + i) p ≡ map (moved o) (said_at i p)
said_moved o i (copy p) = refl
said_moved o i (name p) = refl
said_moved o i (tax_name p) = refl

names_moved : (o i : ℕ) (ps : List Part) → name_speeches (o + i) ps ≡ map (moved o) (name_speeches i ps)
unfolding name_speeches
names_moved o i [] = refl
names_moved o i (p ∷ ps) =
    let z : o + i + length (line_of p) + 2 ≡ o + (i + length (line_of p) + 2) = omega arith in
    ap₂ (λ (xs ys : List Speech). xs ++ ys) (said_moved o i p) (ap (λ (k : ℕ). name_speeches k ps) z ∙ names_moved o (i + length (line_of p) + 2) ps)
    ∙ sym (map_append o (said_at i p) (name_speeches (i + length (line_of p) + 2) ps))

details_moved : (front mark o i : ℕ) (ls : List (List ℕ)) → details_speech front mark (o + i) ls ≡ map (moved o) (details_speech front mark i ls)
unfolding details_speech
details_moved front mark o i [] = refl
details_moved front mark o i (l ∷ ls) = ap (λ (k : ℕ). speech as_details k (drop front l ++ later_text mark ls) ∷ []) (go (ltb front (length l)))
  where
    go : (q : Bool) → pick q (o + i + front) (o + i + (length l + 2 + mark)) ≡ o + pick q (i + front) (i + (length l + 2 + mark))
    go true = omega arith
    go false = omega arith

note_moved : (front o i : ℕ) (ls : List (List ℕ)) → note_speeches front (o + i) ls ≡ map (moved o) (note_speeches front i ls)
unfolding note_speeches
note_moved front o i [] = refl
note_moved front o i (l ∷ ls) = go (opens_rpp l)
  where
    go : (q : Bool) → pick q (details_speech front 2 (o + i + length l + 2) ls) (details_speech front 2 (o + i) (l ∷ ls)) ≡ map (moved o) (pick q (details_speech front 2 (i + length l + 2) ls) (details_speech front 2 i (l ∷ ls)))
    go true =
        let z : o + i + length l + 2 ≡ o + (i + length l + 2) = omega arith in
        ap (λ (k : ℕ). details_speech front 2 k ls) z ∙ details_moved front 2 o (i + length l + 2) ls
    go false = details_moved front 2 o i (l ∷ ls)

pub speeches_moved : (s : Bool) (shape : Shape) (o i : ℕ) (ls : List (List ℕ)) → speeches s shape (o + i) ls ≡ map (moved o) (speeches s shape i ls)
unfolding speeches
speeches_moved s Plain o i ls = refl
speeches_moved s Payer o i ls = names_moved o i (cast Payer ls)
speeches_moved s Payee o i ls = names_moved o i (cast Payee ls)
speeches_moved s Agent o i ls = names_moved o i (cast Agent ls)
speeches_moved s Details o i ls = details_moved (code_size s) 0 o i ls
speeches_moved s Note103 o i ls = note_moved nzp_size o i ls
speeches_moved s Note202 o i ls = note_moved (nzp_size + code_size s) o i ls

-- ---- what is found is the rule
found_unheard : (o : ℕ) (xs : List Speech) → unheard (map (moved o) xs) ≡ verdict_at 14 o (found back_table xs)
unfolding unheard found
found_unheard o [] = refl
found_unheard o (speech m p b ∷ xs) = ap (λ (q : Bool). pick q (Broken 14 (o + p)) (unheard (map (moved o) xs))) (sym (breaks_back m b)) ∙ go (breaks_14_in back_table m b) (found_unheard o xs)
  where
    go : (q : Bool) → unheard (map (moved o) xs) ≡ verdict_at 14 o (found back_table xs) → pick q (Broken 14 (o + p)) (unheard (map (moved o) xs)) ≡ verdict_at 14 o (pick q (Some p) (found back_table xs))
    go true e = refl
    go false e = e

-- one field: its content is its lines with CR LF between them
pub field_found : (form : Form) (o : ℕ) (t l : List ℕ) (ls : List (List ℕ)) → all (without 13) (l ∷ ls) ≡ true
    → unheard (texts form o (field t (l ∷ ls))) ≡ verdict_at 14 (start_of o (field t (l ∷ ls))) (broken_in back_table form t (joined (l ∷ ls)))
unfolding broken_in
field_found form o t l ls e =
    let n : ℕ = start_of o (field t (l ∷ ls)) in
    let z : n ≡ n + 0 = omega arith in
    ap (λ (k : ℕ). unheard (speeches true (shape_of form t) k (l ∷ ls))) z
    ∙ ap unheard (speeches_moved true (shape_of form t) n 0 (l ∷ ls))
    ∙ found_unheard n (speeches true (shape_of form t) 0 (l ∷ ls))
    ∙ ap (λ (k : List (List ℕ)). verdict_at 14 n (found back_table (speeches true (shape_of form t) 0 k))) (sym (lines_joined l ls e))

-- the place found lies in the content, or just behind it
pub spot_within : (form : Form) (t l : List ℕ) (ls : List (List ℕ)) (p : ℕ) → all (without 13) (l ∷ ls) ≡ true
    → broken_in back_table form t (joined (l ∷ ls)) ≡ Some p → p ≤ length (joined (l ∷ ls)) + 4
spot_within form t l ls p e u =
    let n : ℕ = start_of 0 (field t (l ∷ ls)) in
    let z = joined_length l ls in
    let w = unheard_within (texts form 0 (field t (l ∷ ls))) n (n + lines_size (l ∷ ls) + 2) 14 (n + p) (speeches_within true (shape_of form t) n (l ∷ ls)) (field_found form 0 t l ls e ∙ ap (verdict_at 14 n) u) in
    omega (arith, w, z)

-- field by field
pub spoken_next : (form : Form) (o : ℕ) (f : Field) (fs : List Field) → unheard (speeches_of form o (f ∷ fs)) ≡ then (unheard (texts form o f)) (unheard (speeches_of form (next_of o f) fs))
unfolding speeches_of
spoken_next form o f fs = unheard_append (texts form o f) (speeches_of form (next_of o f) fs)
