-- Details: their code and their lines, and their parts as code finds them. Assumes nothing.
use Prim.Native.Nat.{ℕ, ◌+◌, ◌-◌, ◌≤◌, ◌<◌}
use mathlib.Core.Path.{◌≡◌, refl, sym, ap, ap₂, subst, ◌∙◌}
use mathlib.Core.Bool.{Bool, true, false, not, ◌&&◌, false≢true}
use mathlib.Core.List.{List, [], ◌∷◌, ◌++◌, map}
use native.Mathlib.Omega.{arith}
use native.Mathlib.Decide.{dec_lt}
use lib.Dec.{eqb}
use native.Mathlib.Nat.{zero-add}
use lib.ListN.{length, take, drop, length-append, take-append-drop}
use lib.Seq.{take-append_seam, length-take-le}
use borrow.Author.Tests.{eqb-true}
use Rattle.writer.specs.Comes.{Step, Put, Unfit}
use Rattle.base.specs.Choice.{all}
use Rattle.base.specs.Bytes.{digit, xset, count_up_to}
use Rattle.base.specs.Rules.{then}
use Rattle.base.specs.Calls.{Answer, said, text_of, over, placed, Puts}
use Rattle.base.specs.Verdicts.{Verdict, Fine}
use Rattle.base.proofs.Bools.{left, right, all_imp}
use Rattle.base.proofs.ByteLaws.{digit_set}
use Rattle.base.proofs.RuleLaws.{then_fine}
use Rattle.base.proofs.Room.{over_sets, puts_put, puts_on, puts_by}
use Rattle.alphabets.specs.Bank.{plainly}
use Rattle.alphabets.specs.Best.{writing}
use Rattle.alphabets.proofs.Theorems.{plain_iff}
use Rattle.fields.specs.Field.{with_cr_lf}
use Rattle.fields.specs.ByLines.{joined}
use Rattle.fields.proofs.PlaceLaws.{crlf_joined}
use Rattle.records.specs.Found.{pieces_at}
use Rattle.records.specs.Rule19.{is_digits, sole, detailed}
use Rattle.records.proofs.PieceLaws.{pieces_at_lem, past_end, end_within, piece_length, at_from, last_at, some_piece}
use Rattle.details.specs.Lines.{Later, none, line, Division, lines}
use Rattle.details.specs.Breaking.{Fit, fits, unfit}
use Rattle.details.specs.Layouts.{Layout, layout, divided, DivisionIn, later_bytes, fit_lines, lines_for, laid_for, size_for, Lays, is_unfit}
use Rattle.details.specs.Layouts as layouts
use Rattle.details.specs.declared.DetailsField.{DetailsField}
use Rattle.details.specs.declared.DetailsField.TheVariants.{In70, In72, BehindRpp}
use Rattle.std.specs.Prelude.{Option, Some, None}
use Rattle.details.proofs.RoomLaws.{too_long, room_most}
use Rattle.details.proofs.DivisionTheorems.{Fitted, fitted, laid_lines_lem}
use Rattle.details.specs.Front.{code}
use Rattle.runon.specs.Run.{bank_of, fits_in}
use Rattle.writer.specs.Spread.{coded, laid_lines}
use Rattle.writer.specs.Sheet.{stopped_at, unsaid}
use Rattle.writer.specs.Steps.{Adds, AddsLaid, AddsDetails}
use Rattle.writer.proofs.StepLaws.{came_put, adds_by, adds_unfit, adds_put, adds_stop}

-- ---- the code
pub code_puts : {s : Bool} (to : Bool) (vo : List ℕ) {out after : List ℕ} {r : ℕ} → s ≡ to → r ≤ 11 → Puts (code to vo) out 0 r after → (r ≤ 11) × Puts (code s vo) out 0 r after
code_puts to vo e l p = (l, puts_by (ap (λ (b : Bool). code b vo) (sym e)) p)

-- what was put into the front of a room stands there
pub put_front : (t : List ℕ) {room line : List ℕ} {n : ℕ} → Puts t room 0 n line → n ≤ length room → take n line ≡ t
put_front t {room} {line} {n} f h =
    let e : n ≡ length t = f.answers ∙ zero-add (length t) in
    let q : line ≡ t ++ drop (length t) room = f.fills (omega (arith, f.answers)) ∙ sym (over_sets t room (omega arith)) in
    ap₂ (λ (k : ℕ) (x : List ℕ). take k x) e q ∙ take-append_seam t (drop (length t) room)

-- ---- how much goes into lines of some widths, with k bytes more for each
abbrev room_of : ℕ → List ℕ → ℕ
room_of k [] = 0
room_of k (w ∷ ws) = w + k + room_of k ws

later_laid : {ok : ℕ → Bool} {ws : List ℕ} {ls : List (List ℕ)} (next : List ℕ) → Later ok ws ls → length (later_bytes next ls) ≤ room_of (2 + length next) ws
later_laid next none = omega arith
later_laid next (line {w} {x} {ws} {l} {ls} h o m) =
    let i = later_laid next m in omega (arith, length-append (13 ∷ 10 ∷ next) ((x ∷ l) ++ later_bytes next ls), length-append (x ∷ l) (later_bytes next ls))

division_laid : {ok : ℕ → Bool} {least w : ℕ} {ws text : List ℕ} {ls : List (List ℕ)} (v : Layout) → Division ok least text (w ∷ ws) ls
    → length (layouts.laid v ls) ≤ length v.mark + w + room_of (2 + length v.next) ws
division_laid v (lines {l = l} {ls = ls} a b h m e) =
    omega (arith, later_laid v.next m, length-append v.mark (l ++ later_bytes v.next ls), length-append l (later_bytes v.next ls))

-- no place has room for more than 248 bytes of lines
field_laid : (p : DetailsField) {least : ℕ} {text : List ℕ} {ls : List (List ℕ)} → DivisionIn (layout p) least text ls → length (layouts.laid (layout p) ls) ≤ 248
field_laid In70 d = omega (arith, division_laid (layout In70) d)
field_laid In72 d = omega (arith, division_laid (layout In72) d)
field_laid BehindRpp d = omega (arith, division_laid (layout BehindRpp) d)

-- ---- lines and the CR LF behind the last
module _ (p : DetailsField) (least : ℕ) (text : List ℕ) (n : ℕ) (e : Some n ≡ size_for p least text) where
  fit : Fitted p least text n
  fit = fitted p least text n (sym e)

  pub laid_few : n ≤ 248
  unfolding laid_for
  laid_few = let k : length (layouts.laid (layout p) fit.ls) ≡ n = ap (λ (a : Fit (List (List ℕ))). length (layouts.laid (layout p) (fit_lines a))) (sym fit.is) ∙ sym fit.long in omega (arith, field_laid p fit.division)

  laid_whole : laid_for p least text ++ 13 ∷ 10 ∷ [] ≡ with_cr_lf (lines_for p least text)
  unfolding lines_for
  laid_whole = ap (λ (t : List ℕ). t ++ 13 ∷ 10 ∷ []) (laid_lines_lem p least text) ∙ sym (go (fit_lines (divided (layout p) least text)) (ap fit_lines fit.is))
    where
      by : {ok : ℕ → Bool} {ws : List ℕ} {ls : List (List ℕ)} → Division ok least text ws ls → with_cr_lf (layouts.marked (layout p) ls) ≡ joined (layouts.marked (layout p) ls) ++ 13 ∷ 10 ∷ []
      by (lines {l = l} {ls = ls} a b h m e) = crlf_joined ((layout p).mark ++ l) (map (λ (k : List ℕ). (layout p).next ++ k) ls)

      go : (ls : List (List ℕ)) → ls ≡ fit.ls → with_cr_lf (layouts.marked (layout p) ls) ≡ joined (layouts.marked (layout p) ls) ++ 13 ∷ 10 ∷ []
      go ls q = subst (λ (ks : List (List ℕ)). with_cr_lf (layouts.marked (layout p) ks) ≡ joined (layouts.marked (layout p) ks) ++ 13 ∷ 10 ∷ []) (sym q) (by fit.division)

  pub lines_few : length (with_cr_lf (lines_for p least text)) ≤ 250
  lines_few = omega (arith, laid_few, fit.long, ap length laid_whole, length-append (laid_for p least text) (13 ∷ 10 ∷ []))

  pub lines_put : {out mid after : List ℕ} {at : ℕ} {r : Option ℕ} → Lays p least text out at r mid → after ≡ placed mid (at + n) (13 ∷ 10 ∷ []) → Adds Fine (is_unfit (size_for p least text)) (with_cr_lf (lines_for p least text)) out at (Put (at + n + 2)) after
  lines_put {at = at} l f =
      adds_put refl (sym (ap is_unfit e))
      (puts_by laid_whole
      (puts_on (laid_for p least text) (13 ∷ 10 ∷ []) (puts_put {u = laid_for p least text} (ap (λ (k : ℕ). at + k) fit.long) l.leaves) (puts_put {u = 13 ∷ 10 ∷ []} refl f)))

pub unfit_lines : (p : DetailsField) (least : ℕ) (text : List ℕ) → size_for p least text ≡ None → lines_for p least text ≡ []
unfolding size_for lines_for
unfit_lines p least text e = go (divided (layout p) least text) e
  where
    go : (d : Fit (List (List ℕ))) → layouts.fit_size (layout p) d ≡ None → layouts.marked (layout p) (fit_lines d) ≡ []
    go (fits ls) e = cc
    go unfit e = refl

pub lines_unfit : (p : DetailsField) (least : ℕ) (text out : List ℕ) (at : ℕ) → None ≡ size_for p least text → Adds Fine (is_unfit (size_for p least text)) (with_cr_lf (lines_for p least text)) out at Unfit out
lines_unfit p least text out at e = adds_unfit refl (sym (ap is_unfit e))

-- ---- a text behind its front, in a room of their own
pub twice_not : (b : Bool) → not (not b) ≡ b
twice_not true = refl
twice_not false = refl

module _ (s : Bool) (p : DetailsField) (o : ℕ) (text : List ℕ) {line last : List ℕ} {k : ℕ} {q : Step} (a : Adds (stopped_at o (writing s text)) false (text_of (writing s text)) line k q last) where
  abbrev front : List ℕ
  front = take k line

  pub laid_stop : (out : List ℕ) (at : ℕ) → ((m : ℕ) → q ≡ Put m → ⊥) → AddsLaid s p o front text out at q out
  laid_stop out at nope = adds_stop (stopped_at o (writing s text)) (text_of (writing s text)) q nope a

  module _ (h : k ≤ length line) {n : ℕ} (g : q ≡ Put n) where
    abbrev whole : List ℕ
    whole = front ++ bank_of s text

    known : (stopped_at o (writing s text) ≡ Fine) × (◌≡◌ {A = Bool} false false) × (n ≡ k + length (bank_of s text))
    known = came_put (stopped_at o (writing s text)) false (k + length (bank_of s text)) n (sym g ∙ a.answers)

    front_long : length front ≡ k
    front_long = length-take-le k line h

    whole_long : n ≡ length whole
    whole_long = let z = known.2 in omega (arith, front_long, length-append front (bank_of s text))

    front_put : Puts front line 0 k line
    front_put =
        let e : line ≡ over front line = sym (take-append-drop k line) ∙ ap (λ (j : ℕ). front ++ drop j line) (sym front_long) in
        record { answers = omega (arith, front_long); fills = λ z. e ∙ over_sets front line (omega (arith, front_long)) }

    whole_is : n ≤ length line → take n last ≡ whole
    whole_is m = put_front whole (puts_on front (bank_of s text) front_put (record { answers = known.2; fills = a.fills known.0 refl })) m

    pub laid_over : (out : List ℕ) (at : ℕ) → 250 < n → AddsLaid s p o front text out at Unfit out
    laid_over out at m = adds_unfit known.0 (ap (λ (z : Option ℕ). not (not (is_unfit z))) (too_long p (length front) whole (omega (arith, whole_long, room_most p))))

    pub laid_put : {out after : List ℕ} {at : ℕ} {r : Step} → n ≤ length line
        → Adds Fine (is_unfit (size_for p k (take n last))) (with_cr_lf (lines_for p k (take n last))) out at r after → AddsLaid s p o front text out at r after
    laid_put {out} {after} {at} {r} m d =
        subst (λ (v : Verdict). Adds v (not (fits_in s p front text)) (with_cr_lf (laid_lines s p front text)) out at r after) (sym known.0)
        (subst (λ (b : Bool). Adds Fine b (with_cr_lf (laid_lines s p front text)) out at r after) (sym (twice_not (is_unfit (size_for p (length front) whole))))
        (subst (λ (j : ℕ). Adds Fine (is_unfit (size_for p j whole)) (with_cr_lf (lines_for p j whole)) out at r after) (sym front_long)
        (subst (λ (t : List ℕ). Adds Fine (is_unfit (size_for p k t)) (with_cr_lf (lines_for p k t)) out at r after) (whole_is m) d)))

-- ---- the parts of a record as code finds them
-- there is one
pub some_within : (test : List (List ℕ) → Bool) (l : List ℕ) (i : ℕ) → test [] ≡ false → test (pieces_at 9 l i) ≡ true → i ≤ length l
some_within test l i e d = go (dec_lt (length l) i)
  where
    go : Dec (length l < i) → i ≤ length l
    go (yes h) = absurd (false≢true (sym e ∙ sym (ap test (past_end 9 l i h)) ∙ d))
    go (no h) = omega arith

-- a record's only part from i on goes to its end
pub sole_part : (l : List ℕ) (i : ℕ) → i ≤ length l → sole (pieces_at 9 l i) ≡ true → pieces_at 9 l i ≡ take (length l - i) (drop i l) ∷ []
sole_part l i h g = go (dec_lt e (length l))
  where
    e : ℕ
    e = i + count_up_to 9 (drop i l)

    one : (p : List ℕ) (ps : List (List ℕ)) → sole (p ∷ ps) ≡ true → ps ≡ []
    one p [] z = refl
    one p (q ∷ ps) z = absurd (false≢true z)

    rest : pieces_at 9 l (e + 1) ≡ []
    rest = one (take (e - i) (drop i l)) (pieces_at 9 l (e + 1)) (sym (ap sole (pieces_at_lem 9 l i e h refl)) ∙ g)

    go : Dec (e < length l) → pieces_at 9 l i ≡ take (length l - i) (drop i l) ∷ []
    go (yes k) = absurd (some_piece 9 (drop (e + 1) l) (sym (at_from 9 l (e + 1) (omega arith)) ∙ rest))
    go (no k) =
        let z : e ≡ length l = omega (arith, end_within 9 l i e h refl) in
        last_at 9 l i e h refl z ∙ ap (λ (n : ℕ). take (n - i) (drop i l) ∷ []) z

-- ---- digits are copied as they are
pub said_digits : (n : ℕ) (p : List ℕ) → is_digits n p ≡ true → plainly p ≡ said p
unfolding is_digits
said_digits n p e = (plain_iff p).1 (all_imp digit xset digit_set p (right (eqb (length p) n) (all digit p) e))

pub digits_long : (n : ℕ) (p : List ℕ) → is_digits n p ≡ true → length p ≡ n
unfolding is_digits
digits_long n p e = eqb-true (length p) n (left (eqb (length p) n) (all digit p) e)

-- ---- details: five VO digits from i on, a tab, and a text up to the end
pub record Detailed (l : List ℕ) (i : ℕ) : Type 0 where
  pub parts : pieces_at 9 l i ≡ take (i + 5 - i) (drop i l) ∷ take (length l - (i + 6)) (drop (i + 6) l) ∷ []
  pub five : is_digits 5 (take (i + 5 - i) (drop i l)) ≡ true
  pub inside : i + 6 ≤ length l

pub detailed_at : (l : List ℕ) (i : ℕ) → detailed (pieces_at 9 l i) ≡ true → Detailed l i
detailed_at l i d =
    let y : v + 1 ≡ i + 6 = omega (arith, z) in
    record {
      parts = pieces_at_lem 9 l i v h refl ∙ ap (λ (ps : List (List ℕ)). take (v - i) (drop i l) ∷ ps) (sole_part l (v + 1) w (right (is_digits 5 (take (v - i) (drop i l))) _ both))
          ∙ ap₂ (λ (k j : ℕ). take (k - i) (drop i l) ∷ take (length l - j) (drop j l) ∷ []) z y;
      five = subst (λ (k : ℕ). is_digits 5 (take (k - i) (drop i l)) ≡ true) z (left (is_digits 5 (take (v - i) (drop i l))) _ both);
      inside = omega (arith, w, z);
    }
  where
    v : ℕ
    v = i + count_up_to 9 (drop i l)

    h : i ≤ length l
    h = some_within detailed l i refl d

    both : (is_digits 5 (take (v - i) (drop i l)) && sole (pieces_at 9 l (v + 1))) ≡ true
    both = sym (ap detailed (pieces_at_lem 9 l i v h refl)) ∙ d

    w : v + 1 ≤ length l
    w = some_within sole l (v + 1) refl (right (is_digits 5 (take (v - i) (drop i l))) _ both)

    z : v ≡ i + 5
    z = omega (arith, digits_long 5 (take (v - i) (drop i l)) (left (is_digits 5 (take (v - i) (drop i l))) _ both), piece_length l i v (omega arith) (end_within 9 l i v h refl))

module _ {l : List ℕ} {i : ℕ} (w : Detailed l i) where
  abbrev vo : List ℕ
  vo = take (i + 5 - i) (drop i l)

  abbrev text : List ℕ
  text = take (length l - (i + 6)) (drop (i + 6) l)

  vo_long : length vo ≡ 5
  vo_long = digits_long 5 vo w.five

  pub text_long : length text ≡ length l - (i + 6)
  text_long = piece_length l (i + 6) (length l) w.inside (omega arith)

  -- behind the code at the start of a line
  pub details_laid : (s : Bool) (p : DetailsField) {room line out after : List ℕ} {front at : ℕ} {r : Step} → Puts (code s vo) room 0 front line → front ≤ length room
      → AddsLaid s p (i + 6) (take front line) text out at r after → AddsDetails s p i (pieces_at 9 l i) out at r after
  unfolding unsaid
  details_laid s p {room} {line} {out} {after} {front} {at} {r} f h a =
      subst (λ (ps : List (List ℕ)). AddsDetails s p i ps out at r after) (sym w.parts)
      (adds_by {t = with_cr_lf (laid_lines s p (code s vo) text)} stops refl (subst (λ (x : List ℕ). AddsLaid s p (i + 6) x text out at r after) (put_front (code s vo) f h) a))
    where
      stops : stopped_at (i + 6) (writing s text) ≡ unsaid s i (coded (vo ∷ text ∷ []))
      stops =
          let z : i + 6 ≡ i + length vo + 1 = omega (arith, vo_long) in
          sym (then_fine (stopped_at (i + 6) (writing s text)))
          ∙ ap (λ (o : ℕ). then (stopped_at o (writing s text)) Fine) z
          ∙ ap (λ (a : Answer). then (stopped_at i a) (then (stopped_at (i + length vo + 1) (writing s text)) Fine)) (sym (said_digits 5 vo w.five))
