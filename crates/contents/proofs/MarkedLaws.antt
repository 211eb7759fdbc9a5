-- Lines that begin with a mark, and 72's rest of the details, which is made of such lines (C72). Assumes nothing.
use Rattle.base.specs.Says.{Not}
use Prim.Native.Nat.{ℕ, ◌-◌, ◌≤◌, ◌<◌}
use mathlib.Core.Path.{◌≡◌, refl, sym, ap, ap₂, ◌∙◌, subst}
use mathlib.Core.Logic.{inl, inr}
use mathlib.Core.List.{List, [], ◌∷◌, ◌++◌, map}
use native.Mathlib.Omega.{arith}
use lib.ListN.{length, drop, length-append, length-drop, take-append-drop}
use lib.Seq.{take_at, drop_at}
use Rattle.base.specs.Quoted.{bytes}
use Rattle.base.specs.Bytes.{byte}
use Rattle.base.specs.Examples.{AllHold}
use Rattle.contents.specs.Words.{Text, Line, Size}
use Rattle.contents.specs.Fields.{IsRpp, One, Then, Any, Several, Rest, InRest, RppAndRest}
use Rattle.contents.specs.Answers.{cut, Marked, RppWith}
use Rattle.contents.proofs.RppLaws.{rpp_front, rpp_is}

-- ---- such a line, by its bytes
pub marked_tests : (mark : Text) (l : Line) → Marked mark (35 - length mark) l → (length mark < length l) × (length l ≤ 35) × (cut 0 (length mark) l ≡ mark)
marked_tests mark l m =
    let n = ap length m.1 ∙ length-append mark m.0 in
    let z = m.2 in
    (omega (arith, z.least), omega (arith, z.least, z.most), ap (cut 0 (length mark)) m.1 ∙ take_at mark m.0 (length mark) refl)

pub marked_made : (mark : Text) (l : Line) → length mark < length l → length l ≤ 35 → cut 0 (length mark) l ≡ mark → Marked mark (35 - length mark) l
marked_made mark l a b w =
    let n = length-drop (length mark) l in
    (drop (length mark) l, sym (take-append-drop (length mark) l) ∙ ap (λ (s : Text). s ++ drop (length mark) l) w, record { least = omega arith; most = omega arith })

-- ---- several, and the texts behind the mark
module _ (mark : Text) where
  pub marked_texts : (room : ℕ) (ls : List Line) → AllHold (Marked mark room) ls → (ts : List Text) × (ls ≡ map (λ (s : Text). mark ++ s) ts) × AllHold (Size 1 room) ts
  marked_texts room [] e = ([], refl, tt)
  marked_texts room (l ∷ ls) e =
      let w = marked_texts room ls e.1 in
      (e.0.0 ∷ w.0, ap₂ (λ (x : Line) (y : List Line). x ∷ y) e.0.1 w.1, (e.0.2, w.2))

  pub texts_marked : (room : ℕ) (ts : List Text) → AllHold (Size 1 room) ts → AllHold (Marked mark room) (map (λ (s : Text). mark ++ s) ts)
  texts_marked room [] e = tt
  texts_marked room (t ∷ ts) e = ((t, refl, e.0), texts_marked room ts e.1)

  -- a text stands behind it in one way only
  behind_once : (s t : Text) → mark ++ s ≡ mark ++ t → s ≡ t
  behind_once s t e = sym (drop_at mark s (length mark) refl) ∙ ap (drop (length mark)) e ∙ drop_at mark t (length mark) refl

  texts_once : (ss ts : List Text) → map (λ (s : Text). mark ++ s) ss ≡ map (λ (s : Text). mark ++ s) ts → ss ≡ ts
  texts_once [] [] e = refl
  texts_once [] (t ∷ ts) e = absurd (omega (arith, ap length e))
  texts_once (s ∷ ss) [] e = absurd (omega (arith, ap length e))
  texts_once (s ∷ ss) (t ∷ ts) e =
      let f : mark ++ s ≡ mark ++ t = cc e in
      let g : map (λ (s : Text). mark ++ s) ss ≡ map (λ (s : Text). mark ++ s) ts = cc e in
      ap₂ (λ (x : Text) (y : List Text). x ∷ y) (behind_once s t f) (texts_once ss ts g)

-- ---- an RPP line does not begin with /NZP/
pub rpp_not_nzp : (l : Line) → IsRpp l → Not (Marked (bytes "/NZP/") 30 l)
rpp_not_nzp l r m =
    let a = (rpp_front l r).0 in
    let b = (marked_tests (bytes "/NZP/") l m).2 in
    let e = ap (λ (s : Text). byte s 1) (sym a ∙ b) in
    absurd (omega arith)

-- ---- 72 in 103: the rest of the details, of the lines l and ms
module _ (most : ℕ) (l : Line) where
  pub rest_made : (ms : List Line) → Marked (bytes "/NZP/") 30 l → AllHold (Marked (bytes "//") 33) ms → length (l ∷ ms) ≤ most → InRest most (l ∷ ms)
  rest_made ms f b h =
      let w = marked_texts (bytes "//") 33 ms b in
      (f.0, w.0, record { lines = ap₂ (λ (x : Line) (y : List Line). x ∷ y) f.1 w.1; front = f.2; back = w.2; count = h })

  module _ (ms : List Line) (d : InRest most (l ∷ ms)) where
    pub rest_first : Marked (bytes "/NZP/") 30 l
    rest_first = let e : l ≡ bytes "/NZP/" ++ d.0 = cc d.2.lines in (d.0, e, d.2.front)

    pub rest_later : AllHold (Marked (bytes "//") 33) ms
    rest_later =
        let e : ms ≡ map (λ (s : Text). bytes "//" ++ s) d.1 = cc d.2.lines in
        subst (AllHold (Marked (bytes "//") 33)) (sym e) (texts_marked (bytes "//") 33 d.1 d.2.back)

  -- as the lines are read: the first, and those behind it, if any
  pub rest_one : 1 ≤ most → Marked (bytes "/NZP/") 30 l → InRest most (l ∷ [])
  rest_one g f = rest_made [] f tt (omega arith)

  pub rest_more : (ms : List Line) → 1 ≤ most → Marked (bytes "/NZP/") 30 l → Several (Marked (bytes "//") 33) (most - 1) ms → InRest most (l ∷ ms)
  rest_more ms g f n = let a = n.most in rest_made ms f n.each (omega arith)

  pub rest_several : (ms : List Line) → InRest most (l ∷ ms) → 1 ≤ length ms → Several (Marked (bytes "//") 33) (most - 1) ms
  rest_several ms d h = let a = d.2.count in record { least = h; most = omega arith; each = rest_later ms d }

pub rest_some : (most : ℕ) → Not (InRest most [])
rest_some most d = absurd (omega (arith, ap length d.2.lines))

-- it has its texts in one way only
pub rest_once : {most most' : ℕ} {t t' : Text} {ts ts' : List Text} {ls : List Line} → Rest most t ts ls → Rest most' t' ts' ls → (t ≡ t') × (ts ≡ ts')
rest_once {t = t} {t' = t'} {ts = ts} {ts' = ts'} x y =
    let e = sym x.lines ∙ y.lines in
    let f : bytes "/NZP/" ++ t ≡ bytes "/NZP/" ++ t' = cc e in
    let g : map (λ (s : Text). bytes "//" ++ s) ts ≡ map (λ (s : Text). bytes "//" ++ s) ts' = cc e in
    (behind_once (bytes "/NZP/") t t' f, texts_once (bytes "//") ts ts' g)

-- and 72 is made in one of its three ways only
pub rest_alone : (most : ℕ) (ls : List Line) → InRest most ls → Not (Then IsRpp Any ls)
rest_alone most [] d r = r
rest_alone most (l ∷ ls) d r = rpp_not_nzp l r.0 (rest_first most l ls d)

pub rpp_alone : (most : ℕ) (ls : List Line) → One IsRpp ls → Not (Then IsRpp (InRest most) ls)
rpp_alone most [] o r = r
rpp_alone most (l ∷ []) o r = rest_some most r.1
rpp_alone most (l ∷ m ∷ ls) o r = o

-- ---- what 72 of a 103 is not, of the lines l and ms
pub no_rpp_no_rest : (l : Line) (ms : List Line) → Not (IsRpp l) → Not (InRest 6 (l ∷ ms)) → Not (RppAndRest (l ∷ ms))
no_rpp_no_rest l [] f g (inl x) = f x
no_rpp_no_rest l (m ∷ ms) f g (inl x) = x
no_rpp_no_rest l ms f g (inr (inl x)) = g x
no_rpp_no_rest l ms f g (inr (inr x)) = f x.0

pub rpp_no_rest : (n value : ℕ) (l : Line) (ms : List Line) → RppWith n value l → 1 ≤ length ms → Not (InRest 5 ms) → Not (RppAndRest (l ∷ ms))
rpp_no_rest n value l [] t h g (inl x) = absurd (omega arith)
rpp_no_rest n value l (m ∷ ms) t h g (inl x) = x
rpp_no_rest n value l ms t h g (inr (inl x)) = rest_alone 6 (l ∷ ms) x (rpp_is t, tt)
rpp_no_rest n value l ms t h g (inr (inr x)) = g x.1
