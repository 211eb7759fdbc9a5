-- Lines written one behind another are found again, and those found are what was there. Assumes nothing.
use Prim.Native.Nat.{ℕ, suc, ◌+◌}
use mathlib.Core.Path.{◌≡◌, refl, sym, ap, ◌∙◌}
use mathlib.Core.Bool.{Bool, true, false, not, ◌&&◌, false≢true, true≢false}
use mathlib.Core.List.{List, [], ◌∷◌, ◌++◌}
use native.Mathlib.Omega.{arith}
use lib.Dec.{eqb}
use lib.ListN.{length}
use borrow.Author.Tests.{eqb-true, ne_eqb}
use Rattle.base.specs.Choice.{pick, all}
use Rattle.base.specs.Bytes.{xset, begins, other, without}
use Rattle.base.specs.Verdicts.{Fine, Broken}
use Rattle.base.proofs.RuleLaws.{fine_broken}
use Rattle.fields.specs.Field.{with_cr_lf, onto, cut_lines, lines}
use Rattle.fields.specs.Frame.{scan}
use Rattle.fields.specs.Shapes.{ended}
use Rattle.base.proofs.Bools.{left, right, both, isnt, all_imp}

-- ---- written, then found
pub one_line : (l r : List ℕ) → without 13 l ≡ true → lines (l ++ 13 ∷ 10 ∷ r) ≡ l ∷ lines r
unfolding cut_lines
one_line [] r e = refl
one_line (x ∷ l) r e = rw (isnt (eqb x 13) (left (other 13 x) (without 13 l) e), one_line l r (right (other 13 x) (without 13 l) e))

pub lines_crlf : (ls : List (List ℕ)) → all (without 13) ls ≡ true → lines (with_cr_lf ls) ≡ ls
unfolding cut_lines
lines_crlf [] e = refl
lines_crlf (l ∷ ls) e =
    one_line l (with_cr_lf ls) (left (without 13 l) (all (without 13) ls) e)
    ∙ ap (λ (k : List (List ℕ)). l ∷ k) (lines_crlf ls (right (without 13 l) (all (without 13) ls) e))

-- ---- a line found has no CR
pub onto_all : (t : ℕ → Bool) (x : ℕ) (ls : List (List ℕ)) → t x ≡ true → all (all t) ls ≡ true → all (all t) (onto x ls) ≡ true
onto_all t x [] e h = both (both e refl) refl
onto_all t x (l ∷ ls) e h = both (both e (left (all t l) (all (all t) ls) h)) (right (all t l) (all (all t) ls) h)

pub lines_no_cr : (lf : Bool) (b : List ℕ) → all (without 13) (cut_lines lf b) ≡ true
unfolding cut_lines
lines_no_cr lf [] = refl
lines_no_cr true (x ∷ b) = lines_no_cr false b
lines_no_cr false (x ∷ b) = go (eqb x 13) refl (lines_no_cr true b) (lines_no_cr false b)
  where
    go : (q : Bool) → eqb x 13 ≡ q → all (without 13) (cut_lines true b) ≡ true → all (without 13) (cut_lines false b) ≡ true
        → all (without 13) (pick q ([] ∷ cut_lines true b) (onto x (cut_lines false b))) ≡ true
    go true e h k = h
    go false e h k = onto_all (other 13) x (cut_lines false b) (ap not e) k

-- ---- bytes of the set
-- a byte outside the set is none of the set's
pub in_not : (c : ℕ) → xset c ≡ false → (x : ℕ) → xset x ≡ true → eqb x c ≡ false
in_not c e x h = ne_eqb x c (λ q. false≢true (sym e ∙ ap xset (sym q) ∙ h))

pub no_cr : (x : ℕ) → xset x ≡ true → eqb x 13 ≡ false
unfolding xset Rattle.base.specs.Bytes.letter Rattle.base.specs.Bytes.capital Rattle.base.specs.Bytes.shared Rattle.base.specs.Bytes.digit Rattle.base.specs.Bytes.is_in Rattle.base.specs.Bytes.marks
no_cr = in_not 13 refl

pub no_lf : (x : ℕ) → xset x ≡ true → eqb x 10 ≡ false
unfolding xset Rattle.base.specs.Bytes.letter Rattle.base.specs.Bytes.capital Rattle.base.specs.Bytes.shared Rattle.base.specs.Bytes.digit Rattle.base.specs.Bytes.is_in Rattle.base.specs.Bytes.marks
no_lf = in_not 10 refl

pub set_no_cr : (l : List ℕ) → all xset l ≡ true → without 13 l ≡ true
set_no_cr l e = all_imp xset (other 13) (λ x h. ap not (no_cr x h)) l e

-- ---- 3 says: a byte in front that it does not refuse is a CR before its LF, or one of the set
pub data Came (x o : ℕ) (b : List ℕ) : Type 0 where
  turned : eqb x 13 ≡ true → begins 10 b ≡ true → scan true (suc o) b ≡ Fine → Came x o b
  inner : eqb x 13 ≡ false → xset x ≡ true → scan false (suc o) b ≡ Fine → Came x o b

pub came : (x o : ℕ) (b : List ℕ) → scan false o (x ∷ b) ≡ Fine → Came x o b
unfolding scan
came x o b h = go (eqb x 13) (begins 10 b) (xset x) refl refl refl h
  where
    go : (q r z : Bool) → eqb x 13 ≡ q → begins 10 b ≡ r → xset x ≡ z
        → pick q (pick r (scan true (suc o) b) (Broken 3 o)) (pick z (scan false (suc o) b) (Broken 3 o)) ≡ Fine → Came x o b
    go true true z eq er ez h = turned eq er h
    go true false z eq er ez h = absurd (fine_broken 3 o (sym h))
    go false r true eq er ez h = inner eq ez h
    go false r false eq er ez h = absurd (fine_broken 3 o (sym h))

pub lines_in_lem : (lf : Bool) (o : ℕ) (b : List ℕ) → scan lf o b ≡ Fine → all (all xset) (cut_lines lf b) ≡ true
unfolding cut_lines scan
lines_in_lem lf o [] h = refl
lines_in_lem true o (x ∷ b) h = lines_in_lem false (suc o) b h
lines_in_lem false o (x ∷ b) h = go (came x o b h) (lines_in_lem true (suc o) b) (lines_in_lem false (suc o) b)
  where
    go : Came x o b → (scan true (suc o) b ≡ Fine → all (all xset) (cut_lines true b) ≡ true) → (scan false (suc o) b ≡ Fine → all (all xset) (cut_lines false b) ≡ true)
        → all (all xset) (pick (eqb x 13) ([] ∷ cut_lines true b) (onto x (cut_lines false b))) ≡ true
    go (turned q r s) ht hf = rw q (ht s)
    go (inner q i s) ht hf = rw q (onto_all xset x (cut_lines false b) i (hf s))

-- ---- found, then written
pub ended_tail : (x : ℕ) (b : List ℕ) → ended (x ∷ b) ≡ true → ended b ≡ true
ended_tail x [] e = refl
ended_tail x (y ∷ r) e = e

onto_crlf : (x : ℕ) (b : List ℕ) (ls : List (List ℕ)) → xset x ≡ true → ended (x ∷ b) ≡ true → with_cr_lf ls ≡ b → with_cr_lf (onto x ls) ≡ x ∷ b
onto_crlf x b [] i e h = absurd (true≢false (sym (ap (λ (r : List ℕ). ended (x ∷ r)) h ∙ e) ∙ no_lf x i))
onto_crlf x b (l ∷ ls) i e h = ap (λ (r : List ℕ). x ∷ r) h

abbrev Back : Bool → List ℕ → Type 0
Back true b = begins 10 b ≡ true → 10 ∷ with_cr_lf (cut_lines true b) ≡ b
Back false b = with_cr_lf (cut_lines false b) ≡ b

back : (lf : Bool) (o : ℕ) (b : List ℕ) → ended b ≡ true → scan lf o b ≡ Fine → Back lf b
unfolding cut_lines scan
back false o [] e h = refl
back true o [] e h = λ q. absurd (false≢true q)
back true o (x ∷ b) e h = λ q. ap (λ (r : List ℕ). 10 ∷ r) (back false (suc o) b (ended_tail x b e) h) ∙ ap (λ (y : ℕ). y ∷ b) (sym (eqb-true x 10 q))
back false o (x ∷ b) e h = go (came x o b h) (back true (suc o) b (ended_tail x b e)) (back false (suc o) b (ended_tail x b e))
  where
    go : Came x o b → (scan true (suc o) b ≡ Fine → Back true b) → (scan false (suc o) b ≡ Fine → Back false b)
        → with_cr_lf (pick (eqb x 13) ([] ∷ cut_lines true b) (onto x (cut_lines false b))) ≡ x ∷ b
    go (turned q r s) ht hf = rw q (ap (λ (k : List ℕ). 13 ∷ k) (ht s r) ∙ ap (λ (y : ℕ). y ∷ b) (sym (eqb-true x 13 q)))
    go (inner q i s) ht hf = rw q (onto_crlf x b (cut_lines false b) i e (hf s))

pub crlf_lines : (o : ℕ) (b : List ℕ) → ended b ≡ true → scan false o b ≡ Fine → with_cr_lf (lines b) ≡ b
crlf_lines o b e h = back false o b e h

-- ---- 3, run by run: bytes of the set, a line's end, and where it stops
pub scan_run : (o : ℕ) (l r : List ℕ) → all xset l ≡ true → scan false o (l ++ r) ≡ scan false (o + length l) r
unfolding scan
scan_run o [] r e = let z : o ≡ o + 0 = omega arith in ap (λ (p : ℕ). scan false p r) z
scan_run o (x ∷ l) r e =
    let z : suc o + length l ≡ o + suc (length l) = omega arith in
    rw (no_cr x (left (xset x) (all xset l) e), left (xset x) (all xset l) e) (scan_run (suc o) l r (right (xset x) (all xset l) e) ∙ ap (λ (p : ℕ). scan false p r) z)

pub scan_turn : (o : ℕ) (r : List ℕ) → scan false o (13 ∷ 10 ∷ r) ≡ scan false (o + 2) r
unfolding scan
scan_turn o r = let z : suc (suc o) ≡ o + 2 = omega arith in ap (λ (p : ℕ). scan false p r) z

pub scan_stop : (o x : ℕ) (r : List ℕ) → xset x ≡ false → (eqb x 13 && begins 10 r) ≡ false → scan false o (x ∷ r) ≡ Broken 3 o
unfolding scan
scan_stop o x r i e = rw i (go (eqb x 13) (begins 10 r) e)
  where
    go : (q b : Bool) → (q && b) ≡ false → pick q (pick b (scan true (suc o) r) (Broken 3 o)) (Broken 3 o) ≡ Broken 3 o
    go true true e = absurd (true≢false e)
    go true false e = refl
    go false b e = refl

-- lines of the set are not refused
pub scan_crlf : (o : ℕ) (ls : List (List ℕ)) → all (all xset) ls ≡ true → scan false o (with_cr_lf ls) ≡ Fine
unfolding scan
scan_crlf o [] e = refl
scan_crlf o (l ∷ ls) e =
    scan_run o l (13 ∷ 10 ∷ with_cr_lf ls) (left (all xset l) (all (all xset) ls) e) ∙ scan_turn (o + length l) (with_cr_lf ls)
    ∙ scan_crlf (o + length l + 2) ls (right (all xset l) (all (all xset) ls) e)
