-- The lines that come out are a division, each has the most that it can lawfully have, and no other break saves a line; where none come out there
-- is no division (B1-B5, B10, D3e). Over any widths; then for the places; then at the contracts. Assumes nothing.
use Prim.Native.Nat.{ℕ, ◌+◌, ◌-◌, ◌≤◌, ◌<◌}
use mathlib.Core.Path.{◌≡◌, refl, sym, ap, ◌∙◌}
use mathlib.Core.Bool.{Bool, true, false}
use mathlib.Core.List.{List, [], ◌∷◌, ◌++◌, append_assoc, append-nil, tail, map}
use native.Mathlib.Omega.{arith}
use lib.Dec.{leb, ltb}
use lib.ListN.{length, length-append}
use borrow.Author.Tests.{ltb-true, ltb-false}
use Rattle.base.specs.Choice.{pick}
use Rattle.base.specs.Bytes.{is_in}
use Rattle.base.specs.Quoted.{bytes}
use Rattle.base.specs.Calls.{placed}
use Rattle.base.proofs.CallLaws.{one_answer}
use Rattle.fields.specs.ByLines.{joined}
use Rattle.details.specs.Lines.{together, none, line, Division, lines, Most, end_of, NoBreakSaves, NoTextSaves}
use Rattle.details.specs.Breaking.{opens, Fit, fits, unfit, last, breaks, line_pieces, cut_fit, broken, steady}
use Rattle.details.specs.Layouts.{Layout, layout, divided, DivisionIn, WhyThere, marked, later_bytes, laid, fit_lines, lines_for, laid_for, fit_size, size_for, Lays}
use Rattle.details.specs.declared.DetailsField.{DetailsField}
use Rattle.details.specs.declared.DetailsField.TheVariants.{In70, In72, BehindRpp}
use Rattle.std.specs.Prelude.{Option, Some, None}
use Rattle.details.proofs.BreakLaws.{Took, Came, took, stuck, came, lawful, none_fits, shortened, steadily}
use Rattle.details.proofs.LineLaws.{breaks_of_lem, division_of, most_of, starts_count, pieces_count}
use Rattle.details.proofs.SaveLaws.{no_break_saves}

-- ---- over any widths
pub fits_not : {A : Type 0} {a : A} → fits a ≡ unfit → ⊥
fits_not e = let z : ◌≡◌ {A = ℕ} 0 1 = cc in omega arith

module _ (ok : ℕ → Bool) (least : ℕ) (text : List ℕ) where
  pub data Ours : List ℕ → List (List ℕ) → Type 0 where
    ours : {w : ℕ} {ws es : List ℕ} → least - 1 < length text → Took ok text (least - 1) w ws es → Ours (w ∷ ws) (line_pieces text 0 es)

  ours_by : (b : Bool) {w : ℕ} {ws : List ℕ} {a : Fit (List ℕ)} {ls : List (List ℕ)} → ltb (least - 1) (length text) ≡ b → Came ok text (least - 1) w ws a
      → pick b (cut_fit text a) unfit ≡ fits ls → Ours (w ∷ ws) ls
  ours_by true {ls = ls} h (took {es} t) e = let f : ls ≡ line_pieces text 0 es = cc in rw f (ours (ltb-true _ _ h) t)
  ours_by true h (stuck t) e = absurd (fits_not (sym e))
  ours_by false h t e = absurd (fits_not (sym e))

  pub is_ours : {ls : List (List ℕ)} (widths : List ℕ) → broken ok least widths text ≡ fits ls → Ours widths ls
  unfolding broken
  is_ours [] e = absurd (fits_not (sym e))
  is_ours (w ∷ ws) e = ours_by (ltb (least - 1) (length text)) refl (came ok text ws (least - 1) w) e

  -- the lines that come out are a division
  pub lawful_lines : (widths : List ℕ) {ls : List (List ℕ)} → broken ok least widths text ≡ fits ls → Division ok least text widths ls
  lawful_lines widths e = go (is_ours widths e)
    where
      go : {ws : List ℕ} {ls : List (List ℕ)} → Ours ws ls → Division ok least text ws ls
      go (ours h t) = division_of ok text (lawful ok text h t)

  -- and each has the most that it can lawfully have
  pub most : (widths : List ℕ) {ls : List (List ℕ)} → broken ok least widths text ≡ fits ls → Most ok widths ls
  most widths e = go (is_ours widths e)
    where
      go : {ws : List ℕ} {ls : List (List ℕ)} → Ours ws ls → Most ok ws ls
      go (ours {w} {ws} {es} h t) =
          most_of ok text {from = 0} t (omega arith) (omega arith) h

  -- so no other break saves a line
  pub none_saves : (widths : List ℕ) {ls : List (List ℕ)} → broken ok least widths text ≡ fits ls → NoBreakSaves ok least text widths ls
  none_saves widths e = no_break_saves ok (lawful_lines widths e) (most widths e) least

  -- no division, no lines
  pub no_lines : (widths : List ℕ) → ((ls : List (List ℕ)) → Division ok least text widths ls → ⊥) → broken ok least widths text ≡ unfit
  no_lines widths n = go (broken ok least widths text) refl
    where
      go : (a : Fit (List (List ℕ))) → broken ok least widths text ≡ a → broken ok least widths text ≡ unfit
      go (fits ls) e = absurd (n ls (lawful_lines widths e))
      go unfit e = e

-- no lines, no division: for widths that are steady
pub no_division : (barred : List ℕ) (least : ℕ) (text widths : List ℕ) {ls : List (List ℕ)} → steady barred (tail widths) ≡ true
    → broken (opens barred) least widths text ≡ unfit → Division (opens barred) least text widths ls → ⊥
unfolding broken
no_division barred least text [] {ls = ls} s e x3 = elim x3 [ ]
no_division barred least text (w ∷ ws) s e (lines {l = l} {ls = ls} z p q m j) = go (ltb (least - 1) (length text)) refl (came (opens barred) text ws (least - 1) w) e
  where
    go : (b : Bool) {a : Fit (List ℕ)} → ltb (least - 1) (length text) ≡ b → Came (opens barred) text (least - 1) w ws a → pick b (cut_fit text a) unfit ≡ unfit → ⊥
    go true h (took t) r = fits_not r
    go true h (stuck t) r = none_fits (opens barred) text t (breaks_of_lem (opens barred) text m l (least - 1) w (length l) refl j (omega arith) q) (steadily barred ws s)
    go false h t r = omega (arith, ltb-false (least - 1) (length text) h, ap length j, length-append l (together ls))

-- where no byte is barred, what is no longer than a text that can be divided can be divided too, in no more lines
pub less_divided : (barred : List ℕ) (least : ℕ) (text less : List ℕ) {widths : List ℕ} {ls : List (List ℕ)} → barred ≡ [] → Division (opens barred) least text widths ls
    → least ≤ length less → 0 < length less → length less ≤ length text → (ks : List (List ℕ)) × Division (opens barred) least less widths ks × (length ks ≤ length ls)
unfolding opens is_in
less_divided barred least text less e (lines {w = w} {l = l} {ls = ls} z p q m j) a b c =
    let d = shortened (opens barred) text less (λ x. ap (λ (bs : List ℕ). opens bs x) e) c (breaks_of_lem (opens barred) text m l (least - 1) w (length l) refl j (omega arith) q) (omega arith) in
    (line_pieces less 0 d.0, division_of (opens barred) less d.1, omega (arith, d.2, pieces_count less 0 d.0, starts_count (length l) ls))

-- ---- no other break saves a line; where no byte is barred, no other text does that is as long
uncoded : {ok : ℕ → Bool} {least : ℕ} {text ws : List ℕ} {ls : List (List ℕ)} → Division ok least text ws ls → Division ok 0 text ws ls
uncoded (lines {l = l} z p q m j) = lines {l = l} z (omega arith) q m j

some_text : {ok : ℕ → Bool} {least : ℕ} {text ws : List ℕ} {ls : List (List ℕ)} → Division ok least text ws ls → 0 < length text
some_text (lines {l = l} {ls = ls} z p q m j) = omega (arith, ap length j, length-append l (together ls))

pub no_text_saves : (barred : List ℕ) {least : ℕ} (other : ℕ) {text widths : List ℕ} {ls : List (List ℕ)} → barred ≡ [] → Division (opens barred) least text widths ls
    → Most (opens barred) widths ls → NoTextSaves (opens barred) other text widths ls
no_text_saves barred other {text} e d m more h ks b =
    let c = less_divided barred 0 more text e (uncoded b) (omega arith) (some_text d) h in
    omega (arith, (no_break_saves (opens barred) d m 0).no_fewer c.0 c.1, c.2)

pub why_there : (v : Layout) {least : ℕ} (other : ℕ) {text : List ℕ} {ls : List (List ℕ)} → DivisionIn v least text ls → Most (opens v.barred) v.widths ls → WhyThere v other text ls
why_there v other d m = record { no_break = no_break_saves (opens v.barred) d m other; no_text = λ e. no_text_saves v.barred other e d m }

-- not for any widths: `aaa:::` in widths of 2, 1 and 4 is a, a and a:::, but once the first line has its most nothing goes on
abbrev grown : List ℕ
grown = 2 ∷ 1 ∷ 4 ∷ []

pub most_fails : broken (opens (bytes ":-")) 1 grown (bytes "aaa:::") ≡ unfit
unfolding broken breaks last opens is_in
most_fails = refl

pub yet_divided : Division (opens (bytes ":-")) 1 (bytes "aaa:::") grown (bytes "a" ∷ bytes "a" ∷ bytes "a:::" ∷ [])
unfolding opens is_in
yet_divided =
    lines {w = 2} {l = bytes "a"} (omega arith) (omega arith) (omega arith) (line {w = 1} {l = []} (omega arith) refl (line {w = 4} {l = bytes ":::"} (omega arith) refl none)) refl

-- nor is it so that no division has more lines, or that no line of one ends earlier: AB behind a code is one line of 70, and may be broken before the B
abbrev coded : List ℕ
coded = bytes "(VO10100)"

abbrev short : List (List ℕ)
short = (coded ++ bytes "AB") ∷ []

pub one_line : divided (layout In70) (length coded) (coded ++ bytes "AB") ≡ fits short
unfolding broken breaks
one_line = refl

pub two_lines : DivisionIn (layout In70) (length coded) (coded ++ bytes "AB") ((coded ++ bytes "A") ∷ bytes "B" ∷ [])
unfolding opens is_in
two_lines = lines {w = 35} {l = coded ++ bytes "A"} (omega arith) (omega arith) (omega arith) (line {w = 35} {l = []} (omega arith) refl none) refl

pub more_lines : ((ks : List (List ℕ)) → DivisionIn (layout In70) (length coded) (coded ++ bytes "AB") ks → length ks ≤ length short) → ⊥
more_lines f = omega (arith, f _ two_lines)

pub ends_earlier : ((ks : List (List ℕ)) → DivisionIn (layout In70) (length coded) (coded ++ bytes "AB") ks → (n : ℕ) → n ≤ length short → end_of n short ≤ end_of n ks) → ⊥
ends_earlier f = omega (arith, f _ two_lines 1 (omega arith))

-- ---- the bytes of the lines are the lines joined by CR LF
laid_joined : (v : Layout) (ls : List (List ℕ)) → laid v ls ≡ joined (marked v ls)
laid_joined v [] = refl
laid_joined v (l ∷ ls) = sym (append_assoc v.mark l (later_bytes v.next ls)) ∙ go (v.mark ++ l) ls
  where
    go : (x : List ℕ) (ls : List (List ℕ)) → x ++ later_bytes v.next ls ≡ joined (x ∷ map (λ (k : List ℕ). v.next ++ k) ls)
    go x [] = append-nil x
    go x (l ∷ ls) = ap (λ (r : List ℕ). x ++ 13 ∷ 10 ∷ r) (sym (append_assoc v.next l (later_bytes v.next ls)) ∙ go (v.next ++ l) ls)

-- ---- the places
steady_in : (p : DetailsField) → steady (layout p).barred (tail (layout p).widths) ≡ true
steady_in In70 = refl
steady_in In72 = refl
steady_in BehindRpp = refl

some_laid : {ok : ℕ → Bool} {least : ℕ} {text ws : List ℕ} {ls : List (List ℕ)} (v : Layout) → Division ok least text ws ls → 0 < length (laid v ls)
some_laid v (lines {l = l} {ls = ls} z q w m j) = omega (arith, length-append v.mark (l ++ later_bytes v.next ls), length-append l (later_bytes v.next ls))

-- what fits: its lines are a division, each has the most, no other break saves a line, and n counts the bytes of these lines with their marks
pub record Fitted (p : DetailsField) (least : ℕ) (text : List ℕ) (n : ℕ) : Type 0 where
  pub ls : List (List ℕ)
  pub is : divided (layout p) least text ≡ fits ls
  pub division : DivisionIn (layout p) least text ls
  pub fullest : Most (opens (layout p).barred) (layout p).widths ls
  pub why : WhyThere (layout p) least text ls
  pub long : n ≡ length (laid_for p least text)
  pub some : 0 < n

module _ (p : DetailsField) (least : ℕ) (text : List ℕ) where
  pub laid_lines_lem : laid_for p least text ≡ joined (lines_for p least text)
  unfolding laid_for lines_for
  laid_lines_lem = laid_joined (layout p) (fit_lines (divided (layout p) least text))

  -- no size exactly if there is no division
  pub unfit_none : size_for p least text ≡ None → {ls : List (List ℕ)} → DivisionIn (layout p) least text ls → ⊥
  unfolding size_for
  unfit_none e d = no_division (layout p).barred least text (layout p).widths (steady_in p) (go (divided (layout p) least text) e) d
    where
      go : (a : Fit (List (List ℕ))) → fit_size (layout p) a ≡ None → a ≡ unfit
      go (fits ls) q = cc
      go unfit q = refl

  pub none_unfit : ((ls : List (List ℕ)) → DivisionIn (layout p) least text ls → ⊥) → size_for p least text ≡ None
  unfolding size_for
  none_unfit n = ap (fit_size (layout p)) (no_lines (opens (layout p).barred) least text (layout p).widths n)

  pub fitted : (n : ℕ) → size_for p least text ≡ Some n → Fitted p least text n
  unfolding size_for laid_for
  fitted n e = go (divided (layout p) least text) refl
    where
      go : (a : Fit (List (List ℕ))) → divided (layout p) least text ≡ a → Fitted p least text n
      go (fits ls) i =
          let f : Some (length (laid (layout p) ls)) ≡ Some n = ap (fit_size (layout p)) (sym i) ∙ e in
          let g : n ≡ length (laid (layout p) ls) = cc in
          let d = lawful_lines (opens (layout p).barred) least text (layout p).widths i in
          let m = most (opens (layout p).barred) least text (layout p).widths i in
          record {
            ls = ls;
            is = i;
            division = d;
            fullest = m;
            why = why_there (layout p) least d m;
            long = g ∙ ap (λ (a : Fit (List (List ℕ))). length (laid (layout p) (fit_lines a))) (sym i);
            some = omega (arith, some_laid (layout p) d);
          }
      go unfit i = let f : Some n ≡ None = sym e ∙ ap (fit_size (layout p)) i in absurd (cc)

-- ---- at the contracts: any two outcomes are equal, the room counted
pub size_one : (p : DetailsField) (least : ℕ) (text : List ℕ) {r s : Option ℕ} → r ≡ size_for p least text → s ≡ size_for p least text → r ≡ s
size_one p least text e f = one_answer e f

-- what is put, if anything is: such lines, with their marks and CR LF between them
pub lays_fitted : {p : DetailsField} {least at n : ℕ} {text out now : List ℕ} → Lays p least text out at (Some n) now
    → (w : Fitted p least text n) × (now ≡ placed out at (joined (marked (layout p) w.ls)))
unfolding lines_for
lays_fitted {p} {least} {at} {n} {text} {out} {now} u =
    let w = fitted p least text n (by (leb (at + length (laid_for p least text)) (length out)) u.answers) in
    (w, u.leaves ∙ ap (placed out at) (laid_lines_lem p least text ∙ lines_are w.is))
  where
    lines_are : {ls : List (List ℕ)} → divided (layout p) least text ≡ fits ls → joined (lines_for p least text) ≡ joined (marked (layout p) ls)
    lines_are e = ap (λ (a : Fit (List (List ℕ))). joined (marked (layout p) (fit_lines a))) e

    by : (b : Bool) → Some n ≡ pick b (size_for p least text) None → size_for p least text ≡ Some n
    by true e = sym e
    by false e = cc

pub lays_one : {p : DetailsField} {least at : ℕ} {r s : Option ℕ} {text out a b : List ℕ} → Lays p least text out at r a → Lays p least text out at s b → (r ≡ s) × (a ≡ b)
lays_one u v = (one_answer u.answers v.answers, one_answer u.leaves v.leaves)
