-- What a text comes to is what the sentences say, and they leave one answer; and which cuts need not be tried (B1-B3, D3, N15, N16). Assumes
-- nothing.
use Prim.Native.Nat.{ℕ, zero, suc, ◌+◌, ◌-◌, ◌*◌, ◌/◌, ◌≤◌, ◌<◌}
use mathlib.Core.Path.{◌≡◌, refl, sym, ap, ap₂, subst, ◌∙◌}
use mathlib.Core.Bool.{Bool, true, false, false≢true}
use mathlib.Core.List.{List, [], ◌++◌}
use native.Mathlib.Omega.{arith}
use native.Mathlib.Decide.{dec_lt}
use lib.Dec.{ltb}
use lib.ListN.{length, take, drop, length-append, length-take, length-drop, take-append-drop}
use lib.Seq.{take-append_seam, drop-append_seam, length-take-le, take-add}
use borrow.Author.Tests.{ltb-true, ltb-false, leb-true, lt-ltb, le-leb}
use Rattle.base.specs.Choice.{pick}
use Rattle.base.specs.Calls.{Answer, said, stuck, text_of}
use Rattle.base.proofs.Bools.{left, right, both}
use Rattle.base.proofs.CallLaws.{not_said, one_answer}
use Rattle.alphabets.specs.Best.{writing}
use Rattle.alphabets.proofs.Theorems.{unwritable_iff}
use Rattle.alphabets.proofs.StopLaws.{unwritable_at}
use Rattle.alphabets.proofs.SizeLaws.{twice_at_most}
use Rattle.alphabets.proofs.SaidLaws.{no_longer}
use Rattle.alphabets.proofs.HalfLaws.{says_both, both_written}
use Rattle.fields.specs.Frame.{limit}
use Rattle.details.specs.declared.DetailsField.{DetailsField}
use Rattle.details.specs.declared.DetailsField.TheVariants.{In70}
use Rattle.roles.specs.Rule21.{most}
use Rattle.runon.specs.Cut.{Fits, Lawful, Stops, Comes, stops, whole, cut, unfit}
use Rattle.runon.specs.Run.{bank_of, fits_in, within_most, cut_at, last_cut, unless_stuck, run_for}
use Rattle.runon.specs.Steps.{room_70}
use Rattle.runon.specs.declared.Run.{Run}
use Rattle.runon.specs.declared.Run.TheVariants.{Stuck, Whole, Cut, Unfit}
use Rattle.runon.proofs.FitLaws.{fits_written, fits_bank, fits_test, test_fits, fits_room, fits_short}

-- ---- a test that holds, in parts
pub record Parts (s : Bool) (front : List ℕ) (note : DetailsField) (text : List ℕ) (k : ℕ) : Type 0 where
  pub some : 0 < k
  pub more : k < length text
  pub sums : within_most s front (take k text) (drop k text) ≡ true
  pub one : fits_in s In70 front (take k text) ≡ true
  pub two : fits_in s note [] (drop k text) ≡ true

module _ (s : Bool) (front : List ℕ) (note : DetailsField) (text : List ℕ) where
  pub parts : (k : ℕ) → cut_at s front note text k ≡ true → Parts s front note text k
  unfolding cut_at
  parts k e =
      let a = right (ltb 0 k) _ e in
      let b = right (ltb k (length text)) _ a in
      let c = right (within_most s front (take k text) (drop k text)) _ b in
      record {
        some = ltb-true 0 k (left (ltb 0 k) _ e);
        more = ltb-true k (length text) (left (ltb k (length text)) _ a);
        sums = left (within_most s front (take k text) (drop k text)) _ b;
        one = left (fits_in s In70 front (take k text)) _ c;
        two = right (fits_in s In70 front (take k text)) _ c;
      }

  of_parts : (k : ℕ) → Parts s front note text k → cut_at s front note text k ≡ true
  unfolding cut_at
  of_parts k w = both (lt-ltb 0 k w.some) (both (lt-ltb k (length text) w.more) (both w.sums (both w.one w.two)))

  -- ---- the test and the sentence
  pub lawful_test : (a b : List ℕ) → Lawful s front note text a b → cut_at s front note text (length a) ≡ true
  lawful_test a b h =
      let f : take (length a) text ≡ a = ap (take (length a)) (sym h.cut.whole) ∙ take-append_seam a b in
      let g : drop (length a) text ≡ b = ap (drop (length a)) (sym h.cut.whole) ∙ drop-append_seam a b in
      let m : length front + length (bank_of s a) + length (bank_of s b) ≤ most = omega (arith, h.within, ap length (fits_bank s In70 front a h.in_70), ap length (fits_bank s note [] b h.in_72)) in
      of_parts (length a)
      (record {
        some = h.cut.some_one;
        more = omega (arith, h.cut.some_two, length-append a b, ap length h.cut.whole);
        sums = ap₂ (λ (x y : List ℕ). within_most s front x y) f g ∙ le-leb (length front + length (bank_of s a) + length (bank_of s b)) most m;
        one = ap (fits_in s In70 front) f ∙ fits_test s In70 front a h.in_70;
        two = ap (fits_in s note []) g ∙ fits_test s note [] b h.in_72;
      })

  module _ (t : List ℕ) (written : writing s text ≡ said t) where
    pub test_lawful : (k : ℕ) → cut_at s front note text k ≡ true → Lawful s front note text (take k text) (drop k text)
    test_lawful k e =
        let w = parts k e in
        let j : take k text ++ drop k text ≡ text = take-append-drop k text in
        let b = both_written s (take k text) (drop k text) t (ap (writing s) j ∙ written) in
        let f = test_fits s In70 front (take k text) b.one b.writes_one w.one in
        let g = test_fits s note [] (drop k text) b.two b.writes_two w.two in
        let m : length front + length (bank_of s (take k text)) + length (bank_of s (drop k text)) ≤ most = leb-true _ most w.sums in
        let i : length (take k text) ≡ k = length-take-le k text (omega (arith, w.more)) in
        let l : length (drop k text) ≡ length text - k = length-drop k text in
        record {
          cut = record { whole = j; some_one = omega (arith, w.some); some_two = omega (arith, w.more) };
          in_70 = f;
          in_72 = g;
          within = omega (arith, ap length (fits_bank s In70 front (take k text) f), ap length (fits_bank s note [] (drop k text) g));
        }

    -- ---- where no cut is lawful: where the whole is over the most, and behind the room of 70
    pub none_over : most < length front + length t → (k : ℕ) → cut_at s front note text k ≡ true → ⊥
    none_over h k e =
        let w = parts k e in
        let b = both_written s (take k text) (drop k text) t (ap (writing s) (take-append-drop k text) ∙ written) in
        let m : length front + length (bank_of s (take k text)) + length (bank_of s (drop k text)) ≤ most = leb-true _ most w.sums in
        omega (arith, b.least, ap length (ap text_of b.writes_one), ap length (ap text_of b.writes_two))

    pub none_behind : (k : ℕ) → room_70 < length front + k → cut_at s front note text k ≡ true → ⊥
    none_behind k h e =
        let w = parts k e in
        let i : length (take k text) ≡ k = length-take-le k text (omega (arith, w.more)) in
        omega (arith, fits_short (test_lawful k e).in_70)

    -- before a first half that is n bytes too long, where so few characters fewer are too few
    pub none_near : (k n : ℕ) → k ≤ length text → length front + length (bank_of s (take k text)) ≡ n + room_70 → 0 < n → (j : ℕ) → j ≤ k → (j < k → (k - j) + (k - j) + 2 < n)
        → cut_at s front note text j ≡ true → ⊥
    none_near k n h e p j l q c =
        let b = both_written s (take k text) (drop k text) t (ap (writing s) (take-append-drop k text) ∙ written) in
        let i : length (bank_of s (take k text)) ≡ length b.one = ap length (ap text_of b.writes_one) in
        go (dec_lt j k) b.one b.writes_one i
      where
        in_70_lem : Fits s In70 front (take j text)
        in_70_lem = (test_lawful j c).in_70

        go : Dec (j < k) → (u : List ℕ) → writing s (take k text) ≡ said u → length (bank_of s (take k text)) ≡ length u → ⊥
        go (no y) u v i =
            let z : j ≡ k = omega arith in
            let g : length (bank_of s (take j text)) ≡ length in_70_lem.spelt = ap length (fits_bank s In70 front (take j text) in_70_lem) in
            let o : length (bank_of s (take j text)) ≡ length (bank_of s (take k text)) = ap (λ (x : ℕ). length (bank_of s (take x text))) z in
            omega (arith, fits_room in_70_lem)
        go (yes y) u v i =
            let z : k ≡ j + (k - j) = omega arith in
            let a : take j text ++ take (k - j) (drop j text) ≡ take k text = sym (ap (λ (x : ℕ). take x text) z ∙ take-add j (k - j) text) in
            let x = both_written s (take j text) (take (k - j) (drop j text)) u (ap (writing s) a ∙ v) in
            let g : length in_70_lem.spelt ≡ length x.one = ap length (sym (fits_bank s In70 front (take j text) in_70_lem) ∙ ap text_of x.writes_one) in
            let m : length (take (k - j) (drop j text)) ≤ 2 * ((k - j + 1) / 2) = simp (length-take, length-drop) (omega arith) in
            let r = twice_at_most ((k - j + 1) / 2) s (take (k - j) (drop j text)) x.two x.writes_two m in
            omega (arith, fits_room in_70_lem, x.least, q y)

  -- ---- the search
  pub none_to : (n : ℕ) → ((k : ℕ) → cut_at s front note text k ≡ true → ⊥) → last_cut s front note text n ≡ Unfit
  unfolding last_cut
  none_to zero f = refl
  none_to (suc n) f = go (cut_at s front note text (suc n)) refl (none_to n f)
    where
      go : (b : Bool) → cut_at s front note text (suc n) ≡ b → last_cut s front note text n ≡ Unfit → pick b (Cut (suc n)) (last_cut s front note text n) ≡ Unfit
      go true e i = absurd (f (suc n) e)
      go false e i = i

  pub down_to : (top n : ℕ) → top ≤ n → ((k : ℕ) → top < k → k ≤ n → cut_at s front note text k ≡ true → ⊥) → last_cut s front note text n ≡ last_cut s front note text top
  unfolding last_cut
  down_to top zero h f = let z : 0 ≡ top = omega arith in ap (last_cut s front note text) z
  down_to top (suc n) h f = go (dec_lt top (suc n)) (cut_at s front note text (suc n)) refl (λ k. down_to top n k (λ j a b. f j a (omega arith)))
    where
      go : Dec (top < suc n) → (b : Bool) → cut_at s front note text (suc n) ≡ b → (top ≤ n → last_cut s front note text n ≡ last_cut s front note text top)
          → last_cut s front note text (suc n) ≡ last_cut s front note text top
      go (no l) b e i = let z : suc n ≡ top = omega arith in ap (last_cut s front note text) z
      go (yes l) true e i = absurd (f (suc n) l (omega arith) e)
      go (yes l) false e i = rw e (i (omega arith))

  -- what it finds is the last, and it misses none
  data Found (n : ℕ) : Run → Type 0 where
    at : (k : ℕ) → cut_at s front note text k ≡ true → ((j : ℕ) → j ≤ n → cut_at s front note text j ≡ true → j ≤ k) → Found n (Cut k)
    nowhere : ((j : ℕ) → j ≤ n → cut_at s front note text j ≡ true → ⊥) → Found n Unfit

  never_0 : (j : ℕ) → j ≤ 0 → cut_at s front note text j ≡ true → ⊥
  never_0 j h e = omega (arith, (parts j e).some)

  found : (n : ℕ) → Found n (last_cut s front note text n)
  unfolding last_cut
  found zero = nowhere never_0
  found (suc n) = go (cut_at s front note text (suc n)) refl (found n)
    where
      below : (j : ℕ) → j ≤ suc n → cut_at s front note text j ≡ true → cut_at s front note text (suc n) ≡ false → j ≤ n
      below j h f e = by (dec_lt j (suc n))
        where
          by : Dec (j < suc n) → j ≤ n
          by (yes l) = omega arith
          by (no l) = let z : j ≡ suc n = omega arith in absurd (false≢true (sym e ∙ ap (cut_at s front note text) (sym z) ∙ f))

      go : (b : Bool) → cut_at s front note text (suc n) ≡ b → {r : Run} → Found n r → Found (suc n) (pick b (Cut (suc n)) r)
      go true e w = at (suc n) e (λ j h f. h)
      go false e (at k p q) = at k p (λ j h f. q j (below j h f e) f)
      go false e (nowhere q) = nowhere (λ j h f. q j (below j h f e) f)

  -- ---- what a text comes to
  -- what may be cut lawfully is short, and can be written
  pub lawful_long : (a b : List ℕ) → Lawful s front note text a b → length text ≤ most
  lawful_long a b h =
      omega (arith, h.within, no_longer s a h.in_70.spelt (fits_written s In70 front a h.in_70), no_longer s b h.in_72.spelt (fits_written s note [] b h.in_72), length-append a b, ap length h.cut.whole)

  lawful_in : (a b : List ℕ) → Lawful s front note text a b → length a ≤ length text
  lawful_in a b h = omega (arith, length-append a b, ap length h.cut.whole)

  -- a text with a byte that can't be written fits nothing, nor does a cut of it
  pub stop_is : (k : ℕ) → Stops s text k → writing s text ≡ stuck k
  stop_is k w = (unwritable_at s text k).1 w.first

  pub stop_whole : (k : ℕ) → Stops s text k → Fits s In70 front text → ⊥
  stop_whole k w f = not_said k f.spelt (sym (stop_is k w) ∙ fits_written s In70 front text f)

  pub stop_cut : (k : ℕ) → Stops s text k → (a b : List ℕ) → Lawful s front note text a b → ⊥
  stop_cut k w a b h =
      (unwritable_iff s text).0 (k, stop_is k w) (h.in_70.spelt ++ h.in_72.spelt)
      (says_both s h.in_70.spelt h.in_72.spelt a b h.in_70.shortest.reads_as h.in_72.shortest.reads_as ∙ ap said h.cut.whole)

  comes_cut : (t : List ℕ) → writing s text ≡ said t → (Fits s In70 front text → ⊥) → {r : Run} → Found (length text) r → Comes s front note text r
  comes_cut t e n (at k p q) =
      let w = parts k p in
      let i : length (take k text) ≡ k = length-take-le k text (omega (arith, w.more)) in
      cut k n (record { lawful = test_lawful t e k p; longest = λ a b h. subst (λ (x : ℕ). length a ≤ x) (sym i) (q (length a) (lawful_in a b h) (lawful_test a b h)) })
  comes_cut t e n (nowhere q) = unfit (λ k w. not_said k t (sym (stop_is k w) ∙ e)) n (λ a b h. q (length a) (lawful_in a b h) (lawful_test a b h))

  pub comes : Comes s front note text (run_for s front note text)
  unfolding run_for
  comes = go (ltb limit (length text)) refl
    where
      found_by : (t : List ℕ) → writing s text ≡ said t → (b : Bool) → fits_in s In70 front text ≡ b → Comes s front note text (pick b Whole (last_cut s front note text (length text)))
      found_by t e true f = whole (test_fits s In70 front text t e f)
      found_by t e false f = comes_cut t e (λ w. false≢true (sym f ∙ fits_test s In70 front text w)) (found (length text))

      by : length text ≤ limit → (a : Answer) → writing s text ≡ a → Comes s front note text (unless_stuck a (pick (fits_in s In70 front text) Whole (last_cut s front note text (length text))))
      by h (said t) e = found_by t e (fits_in s In70 front text) refl
      by h (stuck k) e = stops k (record { within = h; first = (unwritable_at s text k).0 e })

      go : (b : Bool) → ltb limit (length text) ≡ b → Comes s front note text (pick b Unfit (unless_stuck (writing s text) (pick (fits_in s In70 front text) Whole (last_cut s front note text (length text)))))
      go true e =
          let l = ltb-true limit (length text) e in
          unfit (λ k w. omega (arith, w.within)) (λ f. omega (arith, fits_short f)) (λ a b h. omega (arith, lawful_long a b h))
      go false e = by (ltb-false limit (length text) e) (writing s text) refl

  -- ---- and the sentences leave one answer
  taken_at : (k : ℕ) → Lawful s front note text (take k text) (drop k text) → length (take k text) ≡ k
  taken_at k h = let l = length-drop k text in let m = h.cut.some_two in length-take-le k text (omega arith)

  pub comes_one : {r q : Run} → Comes s front note text r → Comes s front note text q → r ≡ q
  comes_one (whole f) (whole g) = refl
  comes_one (whole f) (cut k n l) = absurd (n f)
  comes_one (whole f) (unfit u n m) = absurd (n f)
  comes_one (whole f) (stops k w) = absurd (stop_whole k w f)
  comes_one (cut k n l) (whole f) = absurd (n f)
  comes_one (cut k n l) (cut j m i) =
      ap Cut
      (omega (arith, taken_at k l.lawful, taken_at j i.lawful, l.longest (take j text) (drop j text) i.lawful, i.longest (take k text) (drop k text) l.lawful))
  comes_one (cut k n l) (unfit u m i) = absurd (i (take k text) (drop k text) l.lawful)
  comes_one (cut k n l) (stops j w) = absurd (stop_cut j w (take k text) (drop k text) l.lawful)
  comes_one (unfit u n m) (whole f) = absurd (n f)
  comes_one (unfit u n m) (cut k i l) = absurd (m (take k text) (drop k text) l.lawful)
  comes_one (unfit u n m) (unfit v i j) = refl
  comes_one (unfit u n m) (stops k w) = absurd (u k w)
  comes_one (stops k w) (whole f) = absurd (stop_whole k w f)
  comes_one (stops k w) (cut j n l) = absurd (stop_cut k w (take j text) (drop j text) l.lawful)
  comes_one (stops k w) (unfit u n m) = absurd (u k w)
  comes_one (stops k w) (stops j v) = let z : stuck k ≡ stuck j = sym (stop_is k w) ∙ stop_is j v in let m : k ≡ j = cc in ap Stuck m

-- ---- at the contract: any two outcomes are equal
pub run_one : (s : Bool) (front : List ℕ) (note : DetailsField) (text : List ℕ) {r q : Run} → r ≡ run_for s front note text → q ≡ run_for s front note text → r ≡ q
run_one s front note text e f = one_answer e f
