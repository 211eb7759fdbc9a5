-- Details that are right are the code and a text over the lines of their field, and what is broken into such lines is right: the code whole in
-- the first line behind its mark, text there or on a later line; and perhaps an RPP line before (B1-B3, C70, C72, Cdetails, Crpp). Assumes
-- nothing.
use Prim.Native.Nat.{ℕ, zero, suc, ◌+◌, ◌≤◌, ◌<◌}
use Prim.Native.String.{String}
use mathlib.Core.Path.{◌≡◌, refl, sym, ap, ap₂, ◌∙◌}
use mathlib.Core.Bool.{Bool, true, false, not, ◌&&◌, ◌||◌, true≢false}
use mathlib.Core.Logic.{inl, inr}
use mathlib.Core.List.{List, [], ◌∷◌, ◌++◌, map, tail, append_assoc}
use native.Mathlib.Omega.{arith}
use lib.Dec.{eqb}
use lib.ListN.{length, take, drop, replicate, length-append, length-map, take-append-drop}
use lib.Seq.{take-append-le, drop-append-le, take-append_seam, drop-append_seam}
use borrow.Author.Tests.{eqb-true, eq-eqb}
use Rattle.base.specs.Choice.{all}
use Rattle.base.specs.Bytes.{empty, is_in}
use Rattle.base.specs.Quoted.{bytes}
use Rattle.base.specs.Says.{Not}
use Rattle.base.proofs.Bools.{left, right, both}
use Rattle.base.specs.Examples.{AllHold}
use Rattle.fields.specs.Shapes.{goes_on}
use Rattle.contents.specs.Words.{Size, join}
use Rattle.contents.specs.Lines.{code_opening, code_closing}
use Rattle.contents.specs.Fields as fields
use Rattle.contents.specs.Fields.{IsRpp, Details, RppAndDetails, Rest, InRest, RppAndRest}
use Rattle.contents.proofs.RppLaws.{rpp_behind}
use Rattle.records.specs.Rule19.{is_digits}
use Rattle.details.specs.Lines.{together, Later, none, line, Division, lines}
use Rattle.details.specs.Breaking.{opens}
use Rattle.details.specs.Layouts.{layout, marked, DivisionIn}
use Rattle.details.specs.declared.DetailsField.{DetailsField}
use Rattle.details.specs.declared.DetailsField.TheVariants.{In70, In72, BehindRpp}
use Rattle.details.specs.Front.{code, rpp_line}

-- ---- details by their place: in 70; in 72 of a 202; there behind an RPP line
abbrev pub IsIn : DetailsField → Bool → List (List ℕ) → Type 0
IsIn In70 s ls = fields.In70 s ls
IsIn In72 s ls = fields.In72 s 6 ls
IsIn BehindRpp s ls = fields.In72 s 5 ls

-- what the grammar says of a place is its layout: the marks, the room behind them, and how many lines may follow
pub record As (p : DetailsField) (first later : String) (room rest more : ℕ) : Type 0 where
  mark : (layout p).mark ≡ bytes first
  next : (layout p).next ≡ bytes later
  widths : (layout p).widths ≡ room ∷ replicate more rest
  wide : length (bytes first) + room ≡ 35

as_70 : As In70 "" "" 35 35 3
as_70 = record { mark = refl; next = refl; widths = refl; wide = refl }

pub as_72 : As In72 "/NZP/" "//" 30 33 5
as_72 = record { mark = refl; next = refl; widths = refl; wide = refl }

pub as_behind : As BehindRpp "/NZP/" "//" 30 33 4
as_behind = record { mark = refl; next = refl; widths = refl; wide = refl }

-- the code
code_on : (s : Bool) (vo t : List ℕ) → join (code_opening s ∷ vo ∷ code_closing s ∷ t ∷ []) ≡ code s vo ++ t
code_on true vo t = ap (λ (k : List ℕ). bytes "'(VO" ++ k) (sym (append_assoc vo (bytes ")'") t))
code_on false vo t = ap (λ (k : List ℕ). bytes "(VO" ++ k) (sym (append_assoc vo (bytes ")") t))

-- ---- details: their lines, without marks
pub record DetailsOver (p : DetailsField) (s : Bool) (ls : List (List ℕ)) : Type 0 where
  pub vo : List ℕ
  pub text : List ℕ
  pub texts : List (List ℕ)
  pub is : ls ≡ marked (layout p) ((code s vo ++ text) ∷ texts)
  pub five : is_digits 5 vo ≡ true
  pub short : length ((layout p).mark ++ (code s vo ++ text)) ≤ 35
  pub later : Later (opens (layout p).barred) (tail (layout p).widths) texts
  pub some : empty (text ++ together texts) ≡ false

-- what goes on as 4 wants it opens a later line lawfully
lawful : (p : DetailsField) (x : ℕ) (l : List ℕ) → goes_on ((layout p).next ++ x ∷ l) ≡ true → opens (layout p).barred x ≡ true
unfolding opens is_in
lawful In70 x l e = go (eqb x 58) (eqb x 45) e
  where
    go : (a b : Bool) → (not b && not a) ≡ true → not (a || (b || false)) ≡ true
    go true true e = e
    go true false e = e
    go false true e = e
    go false false e = e
lawful In72 x l e = refl
lawful BehindRpp x l e = refl

later_of : (p : DetailsField) (n w : ℕ) (ts : List (List ℕ)) → AllHold (Size 1 w) ts → length ts ≤ n → all goes_on (map (λ (k : List ℕ). (layout p).next ++ k) ts) ≡ true
    → Later (opens (layout p).barred) (replicate n w) ts
later_of p n w [] e h g = none
later_of p n w ([] ∷ ts) e h g = absurd (omega (arith, e.0.least))
later_of p zero w ((x ∷ l) ∷ ts) e h g = absurd (omega arith)
later_of p (suc n) w ((x ∷ l) ∷ ts) e h g =
    line e.0.most (lawful p x l (left (goes_on ((layout p).next ++ x ∷ l)) _ g)) (later_of p n w ts e.1 (omega arith) (right (goes_on ((layout p).next ++ x ∷ l)) _ g))

later_each : {ok : ℕ → Bool} (n w : ℕ) {ts : List (List ℕ)} → Later ok (replicate n w) ts → AllHold (Size 1 w) ts × (length ts ≤ n)
later_each zero w none = (tt, omega arith)
later_each (suc n) w none = (tt, omega arith)
later_each (suc n) w (line h o m) = let r = later_each n w m in ((record { least = omega arith; most = h }, r.0), omega (arith, r.1))

some_text : (w : ℕ) (t : List ℕ) (ts : List (List ℕ)) → AllHold (Size 1 w) ts → Not ((t ≡ []) × (ts ≡ [])) → empty (t ++ together ts) ≡ false
some_text w (x ∷ t) ts e n = refl
some_text w [] [] e n = absurd (n (refl, refl))
some_text w [] ([] ∷ ts) e n = absurd (omega (arith, e.0.least))
some_text w [] ((x ∷ l) ∷ ts) e n = refl

module _ {p : DetailsField} {first later : String} {room rest more : ℕ} (a : As p first later room rest more) (s : Bool) where
  -- the lines, as the grammar and as the layout have them
  lines_as : (vo t : List ℕ) (ts : List (List ℕ))
      → join (bytes first ∷ code_opening s ∷ vo ∷ code_closing s ∷ t ∷ []) ∷ map (λ (k : List ℕ). bytes later ++ k) ts ≡ marked (layout p) ((code s vo ++ t) ∷ ts)
  lines_as vo t ts = rw (a.mark, a.next, code_on s vo t)

  details_by_lem : {vo t : List ℕ} {ts ls : List (List ℕ)} → Details first later room rest (suc more) s vo t ts ls → all goes_on (tail ls) ≡ true → DetailsOver p s ls
  unfolding is_digits
  details_by_lem {vo} {t} {ts} {ls} d g =
      let e : ls ≡ marked (layout p) ((code s vo ++ t) ∷ ts) = d.lines ∙ lines_as vo t ts in
      let n = length-map ts (λ (k : List ℕ). (layout p).next ++ k) in
      let c : length (code s vo ++ t) ≤ room = rw (code_on s vo t) at d.front in
      record {
        vo = vo;
        text = t;
        texts = ts;
        is = e;
        five = both (eq-eqb (length vo) 5 d.number.size) d.number.each;
        short = rw a.mark (omega (arith, length-append (bytes first) (code s vo ++ t), a.wide));
        later = rw a.widths (later_of p more rest ts d.back (omega (arith, d.count, ap length e)) (rw e at g));
        some = some_text rest t ts d.back d.text;
      }

  -- the code stands whole in the first line, so behind it stands the text
  pass_by : (vo text : List ℕ) {least : ℕ} {ws : List ℕ} {ls : List (List ℕ)} → is_digits 5 vo ≡ true → length (code s vo) ≡ least → empty text ≡ false → ws ≡ (layout p).widths
      → Division (opens (layout p).barred) least (code s vo ++ text) ws ls → (vo t : List ℕ) × (ts : List (List ℕ)) × Details first later room rest (suc more) s vo t ts (marked (layout p) ls)
  unfolding is_digits
  pass_by vo text f z e i (lines {w} {ws} {l} {ls} o c h m j) =
      let n : ℕ = length (code s vo) in
      let k : n ≤ length l = omega arith in
      let r : List ℕ = drop n l in
      let u : l ≡ code s vo ++ r =
      sym (take-append-drop n l) ∙ ap (λ (x : List ℕ). x ++ r) (sym (take-append-le n l (together ls) k) ∙ ap (take n) j ∙ take-append_seam (code s vo) text) in
      let v : r ++ together ls ≡ text = sym (drop-append-le n l (together ls) k) ∙ ap (drop n) j ∙ drop-append_seam (code s vo) text in
      let q : w ∷ ws ≡ room ∷ replicate more rest = i ∙ a.widths in
      let b : w ≡ room = cc in
      let g : ws ≡ replicate more rest = cc in
      let y = later_each more rest (rw g at m) in (
        vo,
        r,
        ls,
        record {
          number = record { size = eqb-true (length vo) 5 (left (eqb (length vo) 5) _ f); each = right (eqb (length vo) 5) _ f };
          lines = ap (λ (x : List ℕ). marked (layout p) (x ∷ ls)) u ∙ sym (lines_as vo r ls);
          front = rw (code_on s vo r) (omega (arith, ap length u));
          back = y.0;
          count = omega (arith, y.1, length-map ls (λ (k : List ℕ). (layout p).next ++ k));
          text = λ x. true≢false (ap₂ (λ (b : List ℕ) (bs : List (List ℕ)). empty (b ++ together bs)) (sym x.0) (sym x.1) ∙ ap empty v ∙ e);
        },
      )

pub details_lines_lem : (p : DetailsField) (s : Bool) (ls : List (List ℕ)) → IsIn p s ls → all goes_on (tail ls) ≡ true → DetailsOver p s ls
details_lines_lem In70 s ls d g = details_by_lem as_70 s d.3 g
details_lines_lem In72 s ls d g = details_by_lem as_72 s d.3 g
details_lines_lem BehindRpp s ls d g = details_by_lem as_behind s d.3 g

-- ---- an RPP line, and nothing or details behind it
-- 72 of a 202
pub data Note (s : Bool) (ls : List (List ℕ)) : Type 0 where
  with_rpp : (r : List ℕ) (ks : List (List ℕ)) → ls ≡ rpp_line r ∷ ks → empty r ≡ false → DetailsOver BehindRpp s ks → Note s ls
  without : DetailsOver In72 s ls → Note s ls

on : (ls : List (List ℕ)) → all goes_on ls ≡ true → all goes_on (tail ls) ≡ true
on [] g = refl
on (l ∷ ls) g = right (goes_on l) _ g

pub note_lines_lem : (s : Bool) (ls : List (List ℕ)) → RppAndDetails s ls → all goes_on (tail ls) ≡ true → Note s ls
note_lines_lem s ls (inl d) g = without (details_lines_lem In72 s ls d g)
note_lines_lem s [] (inr d) g = absurd d
note_lines_lem s (l ∷ ls) (inr d) g =
    let w = rpp_behind l d.0 in
    with_rpp w.0 ls (ap (λ (k : List ℕ). k ∷ ls) w.1) w.2 (details_lines_lem BehindRpp s ls d.1 (on ls g))

-- ---- 72 of a 103: the rest of the details has no code
pub record RestOver (p : DetailsField) (ls : List (List ℕ)) : Type 0 where
  pub text : List ℕ
  pub texts : List (List ℕ)
  pub is : ls ≡ (bytes "/NZP/" ++ text) ∷ map (λ (k : List ℕ). bytes "//" ++ k) texts
  pub divides : DivisionIn (layout p) 0 (text ++ together texts) (text ∷ texts)
  pub some : empty (text ++ together texts) ≡ false

-- an RPP line, or the rest, or both
pub data Note103 (ls : List (List ℕ)) : Type 0 where
  alone : (r : List ℕ) → ls ≡ rpp_line r ∷ [] → empty r ≡ false → IsRpp (rpp_line r) → Note103 ls
  rest : RestOver In72 ls → Note103 ls
  after : (r : List ℕ) (ks : List (List ℕ)) → ls ≡ rpp_line r ∷ ks → empty r ≡ false → IsRpp (rpp_line r) → RestOver BehindRpp ks → Note103 ls

rest_by_lem : {p : DetailsField} {more : ℕ} → As p "/NZP/" "//" 30 33 more → {t : List ℕ} {ts ls : List (List ℕ)} → Rest (suc more) t ts ls → all goes_on (tail ls) ≡ true → RestOver p ls
rest_by_lem {p} {more} a {t} {ts} {ls} d g =
    let n = length-map ts (λ (k : List ℕ). bytes "//" ++ k) in
    let f = d.front in
    let o : all goes_on (map (λ (k : List ℕ). (layout p).next ++ k) ts) ≡ true = rw a.next (rw d.lines at g) in
    let z : 0 < length t = omega (arith, f.least) in
    let c : 0 ≤ length t = omega arith in
    let m : Later (opens (layout p).barred) (replicate more 33) ts = later_of p more 33 ts d.back (omega (arith, d.count, ap length d.lines)) o in
    record {
      text = t;
      texts = ts;
      is = d.lines;
      divides = rw a.widths (lines z c f.most m refl);
      some = some_text 33 t ts d.back (λ x. omega (arith, f.least, ap length x.0));
    }

pub lines_103 : (ls : List (List ℕ)) → RppAndRest ls → all goes_on (tail ls) ≡ true → Note103 ls
lines_103 [] (inl d) g = absurd d
lines_103 (l ∷ []) (inl d) g = let w = rpp_behind l d in alone w.0 (ap (λ (k : List ℕ). k ∷ []) w.1) w.2 (rw w.1 at d)
lines_103 (l ∷ k ∷ ls) (inl d) g = absurd d
lines_103 ls (inr (inl (t, ts, d))) g = rest (rest_by_lem as_72 d g)
lines_103 [] (inr (inr d)) g = absurd d
lines_103 (l ∷ ls) (inr (inr (i, (t, ts, d)))) g =
    let w = rpp_behind l i in
    after w.0 ls (ap (λ (k : List ℕ). k ∷ ls) w.1) w.2 (rw w.1 at i) (rest_by_lem as_behind d (on ls g))

-- ---- details broken into lines are right
pub divided_pass : (p : DetailsField) (s : Bool) (vo : List ℕ) → is_digits 5 vo ≡ true → {ws : List ℕ} {ls : List (List ℕ)} (text : List ℕ) → empty text ≡ false → ws ≡ (layout p).widths
    → Division (opens (layout p).barred) (length (code s vo)) (code s vo ++ text) ws ls → IsIn p s (marked (layout p) ls)
divided_pass In70 s vo f text e i d = pass_by as_70 s vo text f refl e i d
divided_pass In72 s vo f text e i d = pass_by as_72 s vo text f refl e i d
divided_pass BehindRpp s vo f text e i d = pass_by as_behind s vo text f refl e i d

-- and so is the rest of them
pub rest_pass : {p : DetailsField} {more : ℕ} → As p "/NZP/" "//" 30 33 more → (text : List ℕ) {ws : List ℕ} {ls : List (List ℕ)} → ws ≡ (layout p).widths
    → Division (opens (layout p).barred) 0 text ws ls → InRest (suc more) (marked (layout p) ls)
rest_pass {p} {more} a text i (lines {w} {ws} {l} {ls} o c h m j) =
    let q : w ∷ ws ≡ 30 ∷ replicate more 33 = i ∙ a.widths in
    let b : w ≡ 30 = cc in
    let g : ws ≡ replicate more 33 = cc in
    let y = later_each more 33 (rw g at m) in (
      l,
      ls,
      record {
        lines = rw (a.mark, a.next);
        front = record { least = omega arith; most = omega arith };
        back = y.0;
        count = omega (arith, y.1, length-map ls (λ (k : List ℕ). (layout p).next ++ k));
      },
    )
