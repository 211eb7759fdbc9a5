-- Details that all stood in 70 are never 16 when they are written again: where they don't fit 70 whole, at the least all but the first character fit
-- 72, alone and behind an RPP line (K7). Assumes nothing.
use Prim.Native.Nat.{ℕ, ◌+◌, ◌≤◌, ◌<◌}
use mathlib.Core.Path.{◌≡◌, refl, sym, ap, subst, ◌∙◌}
use mathlib.Core.Bool.{Bool, true, false, not, true≢false}
use mathlib.Core.List.{List, [], ◌∷◌, ◌++◌, append-nil}
use native.Mathlib.Omega.{arith}
use lib.ListN.{length, replicate, length-append}
use Rattle.base.specs.Bytes.{is_in}
use Rattle.base.specs.Quoted.{ascii}
use Rattle.base.specs.Calls.{said, text_of}
use Rattle.base.proofs.CallLaws.{not_said}
use Rattle.alphabets.specs.Bank.{past, reads}
use Rattle.alphabets.specs.Best.{writing}
use Rattle.alphabets.proofs.Shortest.{Came, turned, signed, came}
use Rattle.alphabets.proofs.Theorems.{plain_only, no_shorter, reads_back, shortest_iff}
use Rattle.alphabets.proofs.SizeLaws.{twice_at_most}
use Rattle.alphabets.proofs.SaidLaws.{no_longer}
use Rattle.alphabets.proofs.HalfLaws.{both_written}
use Rattle.details.specs.declared.DetailsField.{DetailsField}
use Rattle.details.specs.declared.DetailsField.TheVariants.{In70, In72, BehindRpp}
use Rattle.details.specs.Lines.{none, lines}
use Rattle.details.specs.Breaking.{opens, last, breaks, broken}
use Rattle.details.specs.Layouts.{layout, DivisionIn, size_for, is_unfit}
use Rattle.std.specs.Prelude.{Option, Some, None}
use Rattle.details.proofs.DivisionTheorems.{fitted}
use Rattle.details.proofs.RoomLaws.{division_within}
use Rattle.runon.specs.Cut.{Fits, Lawful, Comes, unfit}
use Rattle.runon.specs.Run.{bank_of, run_for}
use Rattle.runon.specs.Steps.{room_70}
use Rattle.runon.specs.Heard.{HeardWhole}
use Rattle.runon.specs.declared.Run.TheVariants.{Unfit}
use Rattle.runon.proofs.FitLaws.{fits_bank}
use Rattle.runon.proofs.CutTheorems.{comes}
use Rattle.runon.proofs.AgainLaws.{again_written, Free, free_72, free_rpp, free_fits}

-- ---- a bank text without its first character
record Less (s : Bool) (b d : List ℕ) : Type 0 where
  text : List ℕ
  says : reads s text ≡ said d
  less : length text < length b

mark_says : (s : Bool) (b d : List ℕ) → reads (not s) b ≡ said d → reads s (39 ∷ b) ≡ said d
unfolding reads
mark_says s b d e = ap past e

without_first : (s : Bool) (b : List ℕ) (x : ℕ) (d : List ℕ) → reads s b ≡ said (x ∷ d) → Less s b d
unfolding reads
without_first false [] x d e = let z : ◌≡◌ {A = ℕ} 0 1 = cc in absurd (omega arith)
without_first true [] x d e = absurd (not_said 0 (x ∷ d) e)
without_first s (y ∷ b) x d e = go (came s y b (x ∷ d) e) (without_first (not s) b x d)
  where
    go : Came s y b (x ∷ d) → (reads (not s) b ≡ said (x ∷ d) → Less (not s) b d) → Less s (y ∷ b) d
    go (turned h r) ih = let i = ih r in record { text = 39 ∷ i.text; says = mark_says s i.text d i.says; less = omega (arith, i.less) }
    go (signed z r p n a q w) ih = let f : r ≡ d = cc in record { text = b; says = w ∙ ap said f; less = omega arith }

rest_shorter : (s : Bool) (x : ℕ) (d t u : List ℕ) → writing s (x ∷ d) ≡ said t → writing s d ≡ said u → length u ≤ length t
rest_shorter true x d t u e f =
    let w = without_first false t x d (reads_back true (x ∷ d) t e) in
    let n = no_shorter true d u w.text f w.says in
    omega (arith, w.less)
rest_shorter false x d t u e f = omega (arith, ap length (plain_only (x ∷ d) t e), ap length (plain_only d u f))

-- ---- a text of few bytes goes into one line of 70; one that the lines of 72 behind an RPP line hold into 72
pub one_line : (s : Bool) (front text b : List ℕ) → writing s text ≡ said b → 0 < length b → length front + length b ≤ 35 → Fits s In70 front text
one_line s front text b e some h =
    let l : length (front ++ b) ≡ length front + length b = length-append front b in
    record {
      spelt = b;
      shortest = (shortest_iff s text b).0 e;
      rows = (front ++ b) ∷ [];
      division = lines {w = 35} {l = front ++ b} (omega arith) (omega arith) (omega arith) none (append-nil (front ++ b));
    }

abbrev full : List ℕ
full = replicate 162 (ascii "A")

pub divided_72 : (note : DetailsField) (text : List ℕ) → is_unfit (size_for note 0 text) ≡ false → (ls : List (List ℕ)) × DivisionIn (layout note) 0 text ls
divided_72 note text e = go (size_for note 0 text) refl e
  where
    go : (z : Option ℕ) → size_for note 0 text ≡ z → is_unfit z ≡ false → (ls : List (List ℕ)) × DivisionIn (layout note) 0 text ls
    go (Some n) f q = let w = fitted note 0 text n f in (w.ls, w.division)
    go None f q = absurd (true≢false q)

in_72_lem : (ls : List (List ℕ)) × DivisionIn (layout In72) 0 full ls
unfolding size_for broken breaks last opens is_in
in_72_lem = divided_72 In72 full refl

in_rpp : (ls : List (List ℕ)) × DivisionIn (layout BehindRpp) 0 full ls
unfolding size_for broken breaks last opens is_in
in_rpp = divided_72 BehindRpp full refl

-- ---- so it is written
module _ (s : Bool) (front : List ℕ) (note : DetailsField) (free : Free note) (room : (ls : List (List ℕ)) × DivisionIn (layout note) 0 full ls) (short : length front ≤ 31) where
  some_way : (text t : List ℕ) → writing s text ≡ said t → 0 < length text → length front + length t ≤ room_70 → (Fits s In70 front text → ⊥)
      → ((a b : List ℕ) → Lawful s front note text a b → ⊥) → ⊥
  some_way [] t e h l n m = omega arith
  some_way (x ∷ []) t e h l n m =
      n (one_line s front (x ∷ []) t e (omega (arith, no_longer s (x ∷ []) t e)) (omega (arith, twice_at_most 1 s (x ∷ []) t e (omega arith))))
  some_way (x ∷ y ∷ d) t e h l n m =
      let b = both_written s (x ∷ []) (y ∷ d) t e in
      let p = no_longer s (x ∷ []) b.one b.writes_one in
      let q = no_longer s (y ∷ d) b.two b.writes_two in
      let i = twice_at_most 1 s (x ∷ []) b.one b.writes_one (omega arith) in
      let j = rest_shorter s x (y ∷ d) t b.two e b.writes_two in
      let f = one_line s front (x ∷ []) b.one b.writes_one (omega arith) (omega arith) in
      let g = free_fits s note free full (y ∷ d) b.two b.writes_two (omega arith) (omega arith) room.1 in
      let u : length f.spelt ≡ length b.one = ap length (sym (fits_bank s In70 front (x ∷ []) f) ∙ ap text_of b.writes_one) in
      let v : length g.spelt ≡ length b.two = ap length (sym (fits_bank s note [] (y ∷ d) g) ∙ ap text_of b.writes_two) in
      m (x ∷ []) (y ∷ d) (record { cut = record { whole = refl; some_one = omega arith; some_two = omega arith }; in_70 = f; in_72 = g; within = omega arith })

  never_16 : (bank text : List ℕ) → HeardWhole s front bank text → run_for s front note text ≡ Unfit → ⊥
  never_16 bank text h e = go (subst (Comes s front note text) e (comes s front note text))
    where
      w : writing s text ≡ said (bank_of s text)
      w = again_written s bank text h.says

      go : Comes s front note text Unfit → ⊥
      go (unfit u n m) =
          some_way text (bank_of s text) w h.some
          (omega (arith, no_shorter s text (bank_of s text) bank w h.says, division_within h.in_70, length-append front bank)) n m

pub never_72 : (s : Bool) (front bank text : List ℕ) → length front ≤ 31 → HeardWhole s front bank text → run_for s front In72 text ≡ Unfit → ⊥
never_72 s front bank text h = never_16 s front In72 free_72 in_72_lem h bank text

pub never_rpp : (s : Bool) (front bank text : List ℕ) → length front ≤ 31 → HeardWhole s front bank text → run_for s front BehindRpp text ≡ Unfit → ⊥
never_rpp s front bank text h = never_16 s front BehindRpp free_rpp in_rpp h bank text
