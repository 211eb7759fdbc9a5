-- A line cut up is the line, and what is laid out as such pieces is cut into them: so a format's parts are one only. Assumes nothing.
use Prim.Native.Nat.{ℕ, zero, suc, ◌<◌}
use mathlib.Core.Path.{◌≡◌, refl, ap, ◌∙◌}
use mathlib.Core.Bool.{Bool, true, false}
use mathlib.Core.Logic.{inl, inr}
use mathlib.Core.List.{List, [], ◌∷◌, ◌++◌}
use native.Mathlib.Omega.{arith}
use lib.Dec.{leb}
use lib.ListN.{length, take, drop, length-append}
use lib.Seq.{take_at, drop_at}
use borrow.Author.Tests.{le-leb, lt-leb}
use Rattle.base.specs.Choice.{pick, all}
use Rattle.base.specs.Bytes.{byte, digit}
use Rattle.base.specs.Says.{◌or◌}
use Rattle.base.proofs.Bools.{left, right, both}
use Rattle.contents.specs.Words.{Text, join}
use Rattle.contents.specs.Tests.{Piece, sized, digits, all_of, lead_digits, front_of, cut_by}

-- ---- a piece, and what stands behind it
take_whole : (n : ℕ) (s : Text) → take n s ++ drop (length (take n s)) s ≡ s
take_whole zero s = refl
take_whole (suc n) [] = refl
take_whole (suc n) (x ∷ s) = ap (λ (t : Text). x ∷ t) (take_whole n s)

lead_whole : (s : Text) → lead_digits s ++ drop (length (lead_digits s)) s ≡ s
unfolding lead_digits
lead_whole [] = refl
lead_whole (x ∷ s) = go (digit x) (lead_whole s)
  where
    go : (b : Bool) → lead_digits s ++ drop (length (lead_digits s)) s ≡ s → pick b (x ∷ lead_digits s) [] ++ drop (length (pick b (x ∷ lead_digits s) [])) (x ∷ s) ≡ x ∷ s
    go true e = ap (λ (t : Text). x ∷ t) e
    go false e = refl

front_whole : (p : Piece) (s : Text) → front_of p s ++ drop (length (front_of p s)) s ≡ s
front_whole (sized n) s = take_whole n s
front_whole digits s = lead_whole s
front_whole (all_of n) s = go (leb n (length s))
  where
    go : (b : Bool) → pick b (take n s) [] ++ drop (length (pick b (take n s) [])) s ≡ s
    go true = take_whole n s
    go false = refl

-- this text is such a piece, by what stands behind it: digits are ended by a byte that is none, or by the end; none of so many bytes, if fewer are left
abbrev pub FrontIs : Piece → Text → Text → Type 0
FrontIs (sized n) t s = length t ≡ n
FrontIs digits t s = (all digit t ≡ true) × (digit (byte s 0) ≡ false)
FrontIs (all_of n) t s = (length t ≡ n) or ((t ≡ []) × (length s < n))

lead_on : (a b : Text) → all digit a ≡ true → digit (byte b 0) ≡ false → lead_digits (a ++ b) ≡ a
unfolding lead_digits
lead_on [] [] h e = refl
lead_on [] (y ∷ b) h e = rw e
lead_on (x ∷ a) b h e = rw (left (digit x) (all digit a) h) (ap (λ (t : Text). x ∷ t) (lead_on a b (right (digit x) (all digit a) h) e))

front_on : (p : Piece) (t s : Text) → FrontIs p t s → front_of p (t ++ s) ≡ t
front_on (sized n) t s f = take_at t s n f
front_on digits t s f = lead_on t s f.0 f.1
front_on (all_of n) t s (inl e) = ap (λ (b : Bool). pick b (take n (t ++ s)) []) (le-leb n (length (t ++ s)) (simp length-append (omega arith))) ∙ take_at t s n e
front_on (all_of n) t s (inr (e, h)) = rw e (ap (λ (b : Bool). pick b (take n s) []) (lt-leb n (length s) h))

pub lead_digits_lem : (s : Text) → all digit (lead_digits s) ≡ true
unfolding lead_digits
lead_digits_lem [] = refl
lead_digits_lem (x ∷ s) = go (digit x) refl (lead_digits_lem s)
  where
    go : (b : Bool) → digit x ≡ b → all digit (lead_digits s) ≡ true → all digit (pick b (x ∷ lead_digits s) []) ≡ true
    go true e h = both e h
    go false e h = refl

-- ---- pieces joined are the line
join_on : (t : Text) (ps : List Piece) (s : Text) → join (t ∷ cut_by ps s) ≡ t ++ join (cut_by ps s)
join_on t [] s = refl
join_on t (p ∷ ps) s = refl

pub cut_whole : (ps : List Piece) (s : Text) → join (cut_by ps s) ≡ s
cut_whole [] s = refl
cut_whole (p ∷ ps) s =
    join_on (front_of p s) ps (drop (length (front_of p s)) s) ∙ ap (λ (t : Text). front_of p s ++ t) (cut_whole ps (drop (length (front_of p s)) s)) ∙ front_whole p s

-- ---- texts that are such pieces, one behind another
abbrev pub Fit : List Piece → List Text → Type 0
Fit [] [] = ⊥
Fit [] (t ∷ []) = Unit {0}
Fit [] (t ∷ u ∷ ts) = ⊥
Fit (p ∷ ps) [] = ⊥
Fit (p ∷ ps) (t ∷ ts) = FrontIs p t (join ts) × Fit ps ts

join_more : (t : Text) (ps : List Piece) (ts : List Text) → Fit ps ts → join (t ∷ ts) ≡ t ++ join ts
join_more t ps (u ∷ ts) f = refl
join_more t [] [] f = absurd f
join_more t (p ∷ ps) [] f = absurd f

pub cut_once : (ps : List Piece) (ts : List Text) → Fit ps ts → cut_by ps (join ts) ≡ ts
cut_once [] [] f = absurd f
cut_once [] (t ∷ []) f = refl
cut_once [] (t ∷ u ∷ ts) f = absurd f
cut_once (p ∷ ps) [] f = absurd f
cut_once (p ∷ ps) (t ∷ ts) f =
    ap (cut_by (p ∷ ps)) (join_more t ps ts f.1)
    ∙ ap (λ (a : Text). a ∷ cut_by ps (drop (length a) (t ++ join ts))) (front_on p t (join ts) f.0)
    ∙ ap (λ (b : List Text). t ∷ b) (ap (cut_by ps) (drop_at t (join ts) (length t) refl) ∙ cut_once ps ts f.1)
