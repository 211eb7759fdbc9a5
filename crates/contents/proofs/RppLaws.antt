-- The RPP line: its tests and its pieces. Assumes nothing.
use Prim.Native.Nat.{ℕ, suc, ◌+◌, ◌-◌, ◌≤◌, ◌<◌}
use mathlib.Core.Path.{◌≡◌, refl, sym, ap, ap₂, subst, ◌∙◌}
use mathlib.Core.Bool.{false}
use mathlib.Core.Logic.{inl, inr}
use mathlib.Core.List.{List, [], ◌∷◌, ◌++◌, append-nil}
use native.Mathlib.Omega.{arith}
use lib.ListN.{length, take, drop, length-drop, length-append, drop_of_length-le, take-append-drop}
use lib.Seq.{drop-cons, drop-drop, get_or-drop, take_all, take_at, drop_at}
use Rattle.base.specs.Bytes.{byte, digit, empty}
use Rattle.base.specs.Quoted.{bytes, ascii}
use Rattle.base.proofs.ByteLaws.{is_filled}
use Rattle.contents.specs.Words.{Text, Line, Digits, Perhaps, with_mark}
use Rattle.contents.specs.Lines.{RppLine}
use Rattle.contents.specs.Fields.{IsRpp}
use Rattle.contents.specs.Answers.{cut, Leads, RppBody, Pointed, EndsIn, RppWith}
use Rattle.contents.proofs.LineTests.{way_size}
use Rattle.contents.proofs.Laws.{Spot, spot, stands_at, StandsAt, made, cut_one, cut_first, cut_length, mark_stops, run_once, mark_some, mark_size_lem, some_just}

-- ---- a part that is perhaps there, behind a point
-- what stands from i on, by its first byte
first_at : (i y : ℕ) (r l : Text) → drop i l ≡ y ∷ r → (byte l i ≡ y) × (drop (1 + i) l ≡ r)
first_at i y r l e =
    let z : i + 0 ≡ i = omega arith in
    let o : i + 1 ≡ 1 + i = omega arith in
    (ap (byte l) (sym z) ∙ sym (get_or-drop i l 0 0) ∙ ap (λ (t : Text). byte t 0) e, ap (λ (k : ℕ). drop k l) (sym o) ∙ sym (drop-drop 1 i l) ∙ ap (drop 1) e)

-- it is there
pointed : (i n : ℕ) (x s l : Text) → Digits n x → drop i l ≡ bytes "." ++ (x ++ s) → Pointed i n l × (drop (n + (1 + i)) l ≡ s)
pointed i n x s l d e =
    let a = first_at i (ascii ".") (x ++ s) l e in
    let o : 1 + i + n ≡ n + (1 + i) = omega arith in (
      record { point = a.0; number = subst (Digits n) (sym (ap (take n) a.1 ∙ take_at x s n d.size)) d },
      ap (λ (k : ℕ). drop k l) (sym o) ∙ sym (drop-drop n (1 + i) l) ∙ ap (drop n) a.1 ∙ drop_at x s n d.size,
    )

pointed_made : (i n : ℕ) (l : Text) → 0 < n → n + (1 + i) ≤ length l → Pointed i n l → drop i l ≡ with_mark "." (cut (1 + i) n l) ++ drop (n + (1 + i)) l
pointed_made i n l z h p =
    let o : 1 + i + n ≡ n + (1 + i) = omega arith in
    let q : suc i ≡ 1 + i = omega arith in
    drop-cons l i 0 (omega arith)
    ∙ ap₂ (λ (y k : ℕ). y ∷ drop k l) p.point q
    ∙ ap (λ (t : Text). bytes "." ++ t) (sym (take-append-drop n (drop (1 + i) l)) ∙ ap (λ (t : Text). cut (1 + i) n l ++ t) (drop-drop n (1 + i) l ∙ ap (λ (k : ℕ). drop k l) o))
    ∙ ap (λ (t : Text). t ++ drop (n + (1 + i)) l) (sym (mark_some "." (cut (1 + i) n l) (omega (arith, p.number.size))))

-- it is the line's last, or there is none
ends_by : (i n : ℕ) (x l : Text) → Perhaps (Digits n) x → 0 < n → i ≤ length l → drop i l ≡ with_mark "." x → EndsIn i n l
ends_by i n x l (inl q) z h e = inl (omega (arith, length-drop i l, ap length (e ∙ ap (with_mark ".") q)))
ends_by i n x l (inr d) z h e =
    let f = e ∙ mark_some "." x (omega (arith, d.size)) in
    inr (omega (arith, length-drop i l, ap length f, d.size), (pointed i n x [] l d (f ∙ ap (λ (t : Text). bytes "." ++ t) (sym (append-nil x)))).0)

ends_made : (i n : ℕ) (l : Text) → 0 < n → EndsIn i n l → (x : Text) × Perhaps (Digits n) x × (drop i l ≡ with_mark "." x)
ends_made i n l z (inl e) = ([], inl refl, drop_of_length-le l {i = i} (omega arith))
ends_made i n l z (inr (e, p)) = (
  cut (1 + i) n l,
  inr p.number,
  pointed_made i n l z (omega arith) p ∙ ap (λ (t : Text). with_mark "." (cut (1 + i) n l) ++ t) (drop_of_length-le l {i = n + (1 + i)} (omega arith)) ∙ append-nil (with_mark "." (cut (1 + i) n l)),
)

-- ---- the line as pieces, the last of them what stands behind its way
abbrev front : ℕ → ℕ → List Spot
front n k =
    spot 5 5 ∷ spot n (n + 5) ∷ spot 1 (1 + (n + 5)) ∷ spot 6 (7 + (n + 5)) ∷ spot 1 (8 + (n + 5)) ∷ spot 1 (9 + (n + 5)) ∷ spot 1 (10 + (n + 5)) ∷ spot 4 (14 + (n + 5))
    ∷ spot k (k + (14 + (n + 5))) ∷ []

-- what the code tests
pub record RppTests (n : ℕ) (l : Text) : Type 0 where
  pub word : cut 0 5 l ≡ bytes "/RPP/"
  pub run : Leads 5 6 l n
  pub some : 1 ≤ n
  pub there : 14 + (n + 5) ≤ length l
  pub body : RppBody (n + 5) l
  pub short : length l < 7 + (14 + (n + 5)) → EndsIn (14 + (n + 5)) 2 l
  pub long : 7 + (14 + (n + 5)) ≤ length l → Pointed (14 + (n + 5)) 6 l × EndsIn (7 + (14 + (n + 5))) 2 l

module _ (number date turn way value sort l : Text) (t : RppLine number date turn way value sort l) where
  abbrev endings : Text
  endings = with_mark "." value ++ with_mark "." sort

  laid : StandsAt 0 (front (length number) (length endings)) (bytes "/RPP/" ∷ number ∷ bytes "." ∷ date ∷ bytes "." ∷ turn ∷ bytes "." ∷ way ∷ endings ∷ []) l
  laid =
      stands_at (front (length number) (length endings)) (bytes "/RPP/" ∷ number ∷ bytes "." ∷ date ∷ bytes "." ∷ turn ∷ bytes "." ∷ way ∷ endings ∷ []) l
      (refl, refl, (refl, refl, (refl, refl, (t.day.size, omega arith, (refl, omega arith, (t.order.size, omega arith, (refl, omega arith, (way_size way t.kind, omega arith, (refl, refl, tt)))))))))
      t.line

  -- the pieces, as tests
  module _ (n : ℕ) (z : n ≡ length number) (h : length l ≡ length endings + (14 + (n + 5))) (w : cut 0 5 l ≡ bytes "/RPP/") (a : cut 5 n l ≡ number)
      (p : cut (n + 5) 1 l ≡ bytes ".") (b : cut (1 + (n + 5)) 6 l ≡ date) (q : cut (7 + (n + 5)) 1 l ≡ bytes ".") (c : cut (8 + (n + 5)) 1 l ≡ turn)
      (r : cut (9 + (n + 5)) 1 l ≡ bytes ".") (d : cut (10 + (n + 5)) 4 l ≡ way) (e : cut (14 + (n + 5)) (length endings) l ≡ endings) where
    body_of : RppBody (n + 5) l
    body_of = record {
      point = cut_first (n + 5) l p;
      day = rw b t.day;
      point_2 = cut_first (7 + (n + 5)) l q;
      order = rw c t.order;
      point_3 = cut_first (9 + (n + 5)) l r;
      kind = rw d t.kind;
    }

    stops : digit (byte l (5 + n)) ≡ false
    unfolding digit
    stops = mark_stops 5 n (n + 5) 46 l (omega arith) refl p

    run_of : Leads 5 6 l n
    run_of = record { within = omega arith; most = omega (arith, t.serial.most); each = rw a t.serial.each; stop = λ x y. stops }

    rest : drop (14 + (n + 5)) l ≡ endings
    rest = sym (take_all (length endings) (drop (14 + (n + 5)) l) (simp length-drop (omega arith))) ∙ e

    ends_short : Perhaps (Digits 6) value → length l < 7 + (14 + (n + 5)) → EndsIn (14 + (n + 5)) 2 l
    ends_short (inl i) k = ends_by (14 + (n + 5)) 2 sort l t.last (omega arith) (omega arith) (rest ∙ rw i)
    ends_short (inr i) k = absurd (omega (arith, length-append (with_mark "." value) (with_mark "." sort), ap length (mark_some "." value (omega (arith, i.size))), i.size))

    ends_long : Perhaps (Digits 6) value → 7 + (14 + (n + 5)) ≤ length l → Pointed (14 + (n + 5)) 6 l × EndsIn (7 + (14 + (n + 5))) 2 l
    ends_long (inl i) k = let m = mark_size_lem "." sort in absurd (omega (arith, h, ap (λ (x : Text). length (with_mark "." x ++ with_mark "." sort)) i, some_just 2 sort t.last))
    ends_long (inr i) k =
        let m = mark_some "." value (omega (arith, i.size)) in
        let s = pointed (14 + (n + 5)) 6 value (with_mark "." sort) l i (rest ∙ ap (λ (x : Text). x ++ with_mark "." sort) m) in
        let o : 6 + (1 + (14 + (n + 5))) ≡ 7 + (14 + (n + 5)) = omega arith in
        (s.0, ends_by (7 + (14 + (n + 5))) 2 sort l t.last (omega arith) k (ap (λ (k : ℕ). drop k l) (sym o) ∙ s.1))

    tests_of : RppTests n l × (digit (byte l (5 + n)) ≡ false)
    tests_of = (
      record { word = w; run = run_of; some = omega (arith, t.serial.least); there = omega arith; body = body_of; short = ends_short t.due; long = ends_long t.due },
      stops,
    )

  rpp_tests : RppTests (length number) l × (digit (byte l (5 + length number)) ≡ false)
  rpp_tests =
      let x = laid in let y = x.1.1 in let v = y.1.1.1.1.1 in
      tests_of (length number) refl v.1.1 x.0 x.1.0 y.0 y.1.0 y.1.1.0 y.1.1.1.0 y.1.1.1.1.0 v.0 v.1.0

-- a line passes the tests with the run that stands there
pub rpp_passes : (l : Text) (n : ℕ) → Leads 5 6 l n → IsRpp l → RppTests n l
rpp_passes l n a (number, date, turn, way, value, sort, t) =
    let q = rpp_tests number date turn way value sort l t in
    rw (run_once 5 6 l a q.0.run q.1 (omega (arith, q.0.there))) q.0

pub rpp_front : (l : Text) → IsRpp l → (cut 0 5 l ≡ bytes "/RPP/") × (20 ≤ length l)
rpp_front l (number, date, turn, way, value, sort, t) = let q = (rpp_tests number date turn way value sort l t).0 in (q.word, omega (arith, q.there, q.some))

-- its mark, and more behind it
pub rpp_behind : (l : Line) → IsRpp l → (r : Text) × (l ≡ bytes "/RPP/" ++ r) × (empty r ≡ false)
rpp_behind l i =
    let f = rpp_front l i in (
      drop 5 l,
      sym (take-append-drop 5 l) ∙ ap (λ (x : Text). x ++ drop 5 l) f.0,
      is_filled (drop 5 l) (λ e. absurd (omega (arith, length-drop 5 l, f.1))),
    )

-- a line with parts of these sizes is one
pub rpp_is : {n value : ℕ} {l : Line} → RppWith n value l → IsRpp l
rpp_is t = (_, _, _, _, _, t.0.0, t.0.1)

-- what passes the tests is one
module _ (n : ℕ) (l : Text) (w : cut 0 5 l ≡ bytes "/RPP/") (a : Leads 5 6 l n) (s : 1 ≤ n) (h : 14 + (n + 5) ≤ length l) (b : RppBody (n + 5) l) where
  point_at : (i : ℕ) → i < length l → byte l i ≡ 46 → cut i 1 l ≡ bytes "."
  point_at i k e = cut_one i l k ∙ rw e

  rpp_made : (value sort : Text) → Perhaps (Digits 6) value → Perhaps (Digits 2) sort → drop (14 + (n + 5)) l ≡ with_mark "." value ++ with_mark "." sort
      → RppLine (cut 5 n l) (cut (1 + (n + 5)) 6 l) (cut (8 + (n + 5)) 1 l) (cut (10 + (n + 5)) 4 l) value sort l
  rpp_made value sort v u e =
      let k : ℕ = length l - (14 + (n + 5)) in
      record {
        serial = record { least = omega (arith, cut_length 5 n l a.within); most = omega (arith, cut_length 5 n l a.within, a.most); each = a.each };
        day = b.day;
        order = b.order;
        kind = b.kind;
        due = v;
        last = u;
        line =
            made (front n k) l (refl, (refl, (refl, (omega arith, (omega arith, (omega arith, (omega arith, (omega arith, (refl, omega arith)))))))))
            ∙ rw (w, point_at (n + 5) (omega arith) b.point, point_at (7 + (n + 5)) (omega arith) b.point_2, point_at (9 + (n + 5)) (omega arith) b.point_3, take_all k (drop (14 + (n + 5)) l) (simp length-drop (omega arith)), e);
      }

  pub rpp_short : EndsIn (14 + (n + 5)) 2 l → RppWith n 0 l
  rpp_short d =
      let x = ends_made (14 + (n + 5)) 2 l (omega arith) d in
      ((x.0, rpp_made [] x.0 (inl refl) x.1 x.2), cut_length 5 n l a.within, refl)

  pub rpp_long : 7 + (14 + (n + 5)) ≤ length l → Pointed (14 + (n + 5)) 6 l → EndsIn (7 + (14 + (n + 5))) 2 l → RppWith n 6 l
  rpp_long k p d =
      let x = ends_made (7 + (14 + (n + 5))) 2 l (omega arith) d in
      let o : 1 + (14 + (n + 5)) ≡ 15 + (n + 5) = omega arith in
      let f : 6 + (1 + (14 + (n + 5))) ≡ 7 + (14 + (n + 5)) = omega arith in
      let m = ap (λ (i : ℕ). cut i 6 l) o in
      let v = subst (Digits 6) m p.number in (
        (x.0, rpp_made (cut (15 + (n + 5)) 6 l) x.0 (inr v) x.1 (pointed_made (14 + (n + 5)) 6 l (omega arith) (omega arith) p ∙ ap₂ (λ (v u : Text). with_mark "." v ++ u) m (ap (λ (k : ℕ). drop k l) f ∙ x.2))),
        cut_length 5 n l a.within,
        v.size,
      )
