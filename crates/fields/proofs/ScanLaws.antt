-- 3 is given exactly at the first bad byte. Assumes nothing.
use Prim.Native.Nat.{ℕ, zero, suc, ◌+◌, ◌<◌}
use mathlib.Core.Path.{◌≡◌, refl, sym, ap, ◌∙◌, subst}
use mathlib.Core.Bool.{Bool, true, false, not, false≢true, true≢false}
use mathlib.Core.List.{List, [], ◌∷◌}
use mathlib.Core.Logic.{◌↔◌}
use native.Mathlib.Omega.{arith}
use native.Mathlib.Decide.{dec_lt}
use native.Mathlib.Nat.{not-suc-le-zero, le_of_suc-le-suc}
use lib.Dec.{eqb}
use lib.ListN.{length}
use borrow.Author.Tests.{eqb-true}
use Rattle.base.specs.Choice.{pick}
use Rattle.base.specs.Bytes.{xset, byte, begins}
use Rattle.base.specs.Verdicts.{Verdict, Fine, Broken}
use Rattle.base.proofs.ByteLaws.{begins_byte}
use Rattle.base.proofs.RuleLaws.{fine_broken, same_broken}
use Rattle.fields.specs.Field.{body}
use Rattle.fields.specs.Frame.{scan, rule_3}
use Rattle.fields.specs.Sentences.{byte_bad, Nowhere, FirstAt}
use Rattle.fields.proofs.LineLaws.{no_lf}

-- ---- the test at each byte; cr: the byte before the text is a CR
abbrev after_cr : Bool → List ℕ → ℕ → Bool
after_cr cr b zero = cr
after_cr cr b (suc k) = eqb (byte b k) 13

abbrev bad : Bool → List ℕ → ℕ → Bool
bad cr b k = pick (eqb (byte b k) 13) (not (eqb (byte b (suc k)) 10)) (pick (eqb (byte b k) 10) (not (after_cr cr b k)) (not (xset (byte b k))))

bad_is : (b : List ℕ) (k : ℕ) → byte_bad b k ≡ bad false b k
unfolding byte_bad
bad_is b zero = refl
bad_is b (suc k) = refl

bad_on : (cr : Bool) (x : ℕ) (b : List ℕ) (k : ℕ) → bad cr (x ∷ b) (suc k) ≡ bad (eqb x 13) b k
bad_on cr x b zero = refl
bad_on cr x b (suc k) = refl

-- ---- scan says where, or that it is nowhere
data Says (cr : Bool) (o : ℕ) (b : List ℕ) (v : Verdict) : Type 0 where
  nowhere : v ≡ Fine → Nowhere (bad cr b) (length b) → Says cr o b v
  at_one : (k : ℕ) → v ≡ Broken 3 (o + k) → k < length b → bad cr b k ≡ true → Nowhere (bad cr b) k → Says cr o b v

-- a good byte in front
on : (cr : Bool) (o x : ℕ) (b : List ℕ) (v : Verdict) → bad cr (x ∷ b) 0 ≡ false → Says (eqb x 13) (suc o) b v → Says cr o (x ∷ b) v
on cr o x b v e (nowhere q h) = nowhere q (go h)
  where
    go : Nowhere (bad (eqb x 13) b) (length b) → Nowhere (bad cr (x ∷ b)) (suc (length b))
    go h zero l = e
    go h (suc j) l = bad_on cr x b j ∙ h j (le_of_suc-le-suc l)
on cr o x b v e (at_one k q l t h) =
    let z : suc o + k ≡ o + suc k = omega arith in
    at_one (suc k) (q ∙ ap (Broken 3) z) (omega arith) (bad_on cr x b k ∙ t) (go h)
  where
    go : Nowhere (bad (eqb x 13) b) k → Nowhere (bad cr (x ∷ b)) (suc k)
    go h zero l = e
    go h (suc j) l = bad_on cr x b j ∙ h j (le_of_suc-le-suc l)

-- a bad one
here : (cr : Bool) (o x : ℕ) (b : List ℕ) (v : Verdict) → bad cr (x ∷ b) 0 ≡ true → v ≡ Broken 3 o → Says cr o (x ∷ b) v
here cr o x b v e q = let z : o ≡ o + 0 = omega arith in at_one 0 (q ∙ ap (Broken 3) z) (omega arith) e (λ k l. absurd (not-suc-le-zero l))

says : (lf : Bool) (o : ℕ) (b : List ℕ) → (lf ≡ true → begins 10 b ≡ true) → Says lf o b (scan lf o b)
unfolding scan
says lf o [] w = nowhere refl (λ k l. absurd (not-suc-le-zero l))
says true o (x ∷ b) w =
    let t : x ≡ 10 = eqb-true x 10 (w refl) in
    let f : eqb x 13 ≡ false = ap (λ (y : ℕ). eqb y 13) t in
    on true o x b (scan false (suc o) b) (ap (λ (y : ℕ). bad true (y ∷ b) 0) t)
    (subst (λ (c : Bool). Says c (suc o) b (scan false (suc o) b)) (sym f) (says false (suc o) b (λ e. absurd (false≢true e))))
says false o (x ∷ b) w =
    go (eqb x 13) (begins 10 b) (eqb x 10) (xset x) refl (sym (begins_byte 10 b refl)) refl refl (λ e. says true (suc o) b (λ q. e)) (says false (suc o) b (λ e. absurd (false≢true e)))
  where
    go : (q r l i : Bool) → eqb x 13 ≡ q → eqb (byte b 0) 10 ≡ r → eqb x 10 ≡ l → xset x ≡ i
        → (r ≡ true → Says true (suc o) b (scan true (suc o) b)) → Says false (suc o) b (scan false (suc o) b)
        → Says false o (x ∷ b) (pick q (pick r (scan true (suc o) b) (Broken 3 o)) (pick i (scan false (suc o) b) (Broken 3 o)))
    go true true l i eq er el ei ht hf = on false o x b (scan true (suc o) b) (rw (eq, er)) (rw eq (ht refl))
    go true false l i eq er el ei ht hf = here false o x b (Broken 3 o) (rw (eq, er)) refl
    go false r true true eq er el ei ht hf = absurd (true≢false (sym el ∙ no_lf x ei))
    go false r true false eq er el ei ht hf = here false o x b (Broken 3 o) (rw (eq, el)) refl
    go false r false true eq er el ei ht hf = on false o x b (scan false (suc o) b) (rw (eq, el, ei)) (rw eq hf)
    go false r false false eq er el ei ht hf = here false o x b (Broken 3 o) (rw (eq, el, ei)) refl

-- ---- two first places are one
same_least : (t : ℕ → Bool) (j k : ℕ) → t j ≡ true → t k ≡ true → Nowhere t j → Nowhere t k → j ≡ k
same_least t j k p q u v = go (dec_lt j k) (dec_lt k j)
  where
    go : Dec (j < k) → Dec (k < j) → j ≡ k
    go (yes h) d = absurd (true≢false (sym p ∙ v j h))
    go (no h) (yes g) = absurd (true≢false (sym q ∙ u k g))
    go (no h) (no g) = omega arith

module _ (o : ℕ) (b : List ℕ) where
  said : Says false o b (scan false o b)
  said = says false o b (λ e. absurd (false≢true e))

  -- 3 is not given exactly if no byte is bad
  pub scan_fine : (scan false o b ≡ Fine) ↔ Nowhere (byte_bad b) (length b)
  scan_fine = (λ e. go e said, λ h. back h said)
    where
      go : scan false o b ≡ Fine → Says false o b (scan false o b) → Nowhere (byte_bad b) (length b)
      go e (nowhere q h) = λ k l. bad_is b k ∙ h k l
      go e (at_one k q l t h) = absurd (fine_broken 3 (o + k) (sym e ∙ q))

      back : Nowhere (byte_bad b) (length b) → Says false o b (scan false o b) → scan false o b ≡ Fine
      back f (nowhere q h) = q
      back f (at_one k q l t h) = absurd (true≢false (sym t ∙ sym (bad_is b k) ∙ f k l))

  -- and it is given exactly at the first bad byte
  pub scan_broken : (p : ℕ) → (scan false o b ≡ Broken 3 p) ↔ FirstAt (byte_bad b) (length b) o p
  scan_broken p = (λ e. go e said, λ w. back w said)
    where
      go : scan false o b ≡ Broken 3 p → Says false o b (scan false o b) → FirstAt (byte_bad b) (length b) o p
      go e (nowhere q h) = absurd (fine_broken 3 p (sym q ∙ e))
      go e (at_one k q l t h) =
          let z : Broken 3 p ≡ Broken 3 (o + k) = sym e ∙ q in
          record { at = k; place = (same_broken z).1; below = l; holds = bad_is b k ∙ t; before = λ j g. bad_is b j ∙ h j g }

      back : FirstAt (byte_bad b) (length b) o p → Says false o b (scan false o b) → scan false o b ≡ Broken 3 p
      back w (nowhere q h) = absurd (true≢false (sym w.holds ∙ bad_is b w.at ∙ h w.at w.below))
      back w (at_one k q l t h) =
          let z : k ≡ w.at = same_least (byte_bad b) k w.at (bad_is b k ∙ t) w.holds (λ j g. bad_is b j ∙ h j g) w.before in
          q ∙ ap (λ (j : ℕ). Broken 3 (o + j)) z ∙ ap (Broken 3) (sym w.place)

-- ---- of a message: the bytes from 5 up to the -
pub rule_3_fine : (m : List ℕ) → (rule_3 m ≡ Fine) ↔ Nowhere (byte_bad (body m)) (length (body m))
unfolding rule_3
rule_3_fine m = scan_fine 5 (body m)

pub rule_3_broken : (m : List ℕ) (p : ℕ) → (rule_3 m ≡ Broken 3 p) ↔ FirstAt (byte_bad (body m)) (length (body m)) 5 p
unfolding rule_3
rule_3_broken m p = scan_broken 5 (body m) p
