-- 2 and 4, exactly where their sentences say, and the body of a framed message. Assumes nothing.
use Prim.Native.Nat.{ℕ, suc, ◌+◌, ◌-◌, ◌≤◌, ◌<◌}
use mathlib.Core.Path.{◌≡◌, refl, sym, ap, ap₂, ◌∙◌}
use mathlib.Core.Bool.{Bool, true, false, ◌&&◌, and-true, and-false}
use mathlib.Core.List.{List, [], ◌∷◌, ◌++◌}
use mathlib.Core.Logic.{◌↔◌}
use native.Mathlib.Omega.{arith}
use lib.Dec.{eqb}
use lib.ListN.{length, take, drop, get_or, length-append, length-take, length-drop, take-append-drop}
use lib.Seq.{drop_at, drop-drop, get_or-take, get_or-drop}
use borrow.Author.Tests.{eq-eqb, ne_eqb, eqb-true, eqb-false}
use lib.Pointwise.{pointwise}
use Rattle.std.specs.List.{starts_with, ends_with}
use Rattle.base.specs.Choice.{pick}
use Rattle.base.specs.Bytes.{empty, same}
use Rattle.base.specs.Verdicts.{Fine, Broken}
use Rattle.base.proofs.Bools.{left, right, both}
use Rattle.base.proofs.ByteLaws.{same_is, same_refl}
use Rattle.base.proofs.RuleLaws.{fine_broken, same_broken}
use Rattle.fields.specs.Field.{opening, closing, body, lines}
use Rattle.fields.specs.Frame.{framed, rule_2, line_bad, bad_line, rule_4}
use Rattle.fields.specs.Places.{lines_size}
use Rattle.fields.specs.Shapes.{ended}
use Rattle.fields.specs.Sentences.{Framed, Good, BadLineAt}
use Rattle.base.proofs.Bools.{left, right, both}

-- ---- 2
module _ (m : List ℕ) where
  pub framed_is : framed m ≡ true → Framed m
  unfolding framed
  framed_is e =
      record {
        rest = drop 5 m;
        starts = sym (take-append-drop 5 m) ∙ ap (λ (k : List ℕ). k ++ drop 5 m) (same_is (take 5 m) opening (left (same (take 5 m) opening) _ e));
        front = take (length m - 4) m;
        ends =
            sym (take-append-drop (length m - 4) m)
            ∙ ap (λ (k : List ℕ). take (length m - 4) m ++ k) (same_is (drop (length m - 4) m) (13 ∷ 10 ∷ closing) (right (same (take 5 m) opening) _ e));
      }

  -- the front has at least the {4: of the start, since CR is none of its bytes
  front_long : (f r : List ℕ) → opening ++ r ≡ f ++ 13 ∷ 10 ∷ closing → 3 ≤ length f
  front_long [] r e = absurd (let z : ◌≡◌ {A = ℕ} 123 13 = ap (λ (k : List ℕ). get_or k 0 0) e in omega arith)
  front_long (a ∷ []) r e = absurd (let z : ◌≡◌ {A = ℕ} 52 13 = ap (λ (k : List ℕ). get_or k 1 0) e in omega arith)
  front_long (a ∷ b ∷ []) r e = absurd (let z : ◌≡◌ {A = ℕ} 58 13 = ap (λ (k : List ℕ). get_or k 2 0) e in omega arith)
  front_long (a ∷ b ∷ c ∷ f) r e = omega arith

  pub framed_long : Framed m → 7 ≤ length m
  framed_long w =
      let h = front_long w.front w.rest (sym w.starts ∙ w.ends) in
      let e = ap length w.ends ∙ length-append w.front (13 ∷ 10 ∷ closing) in
      omega arith

  pub last_four : Framed m → drop (length m - 4) m ≡ 13 ∷ 10 ∷ closing
  last_four w =
      let e = ap length w.ends ∙ length-append w.front (13 ∷ 10 ∷ closing) in
      let n : length w.front ≡ length m - 4 = omega arith in
      ap (drop (length m - 4)) w.ends ∙ drop_at w.front (13 ∷ 10 ∷ closing) (length m - 4) n

  pub is_framed : Framed m → framed m ≡ true
  unfolding framed
  is_framed w =
      both (ap (λ (k : List ℕ). same k opening) (ap (take 5) w.starts) ∙ same_refl opening)
      (ap (λ (k : List ℕ). same k (13 ∷ 10 ∷ closing)) (last_four w) ∙ same_refl (13 ∷ 10 ∷ closing))

  -- 2 is not given exactly if the message is framed
  pub rule_2_fine : (rule_2 m ≡ Fine) ↔ Framed m
  unfolding rule_2
  rule_2_fine = (λ e. framed_is (go (framed m) e), λ w. ap (λ (b : Bool). pick b Fine (Broken 2 0)) (is_framed w))
    where
      go : (b : Bool) → pick b Fine (Broken 2 0) ≡ Fine → b ≡ true
      go true e = refl
      go false e = absurd (fine_broken 2 0 (sym e))

  -- and else it is given, at 0
  pub rule_2_broken : (rule_2 m ≡ Broken 2 0) ↔ (Framed m → ⊥)
  unfolding rule_2
  rule_2_broken = (λ e w. fine_broken 2 0 (sym (rule_2_fine.1 w) ∙ e), λ h. go (framed m) refl h)
    where
      go : (b : Bool) → framed m ≡ b → (Framed m → ⊥) → pick b Fine (Broken 2 0) ≡ Broken 2 0
      go true e h = absurd (h (framed_is e))
      go false e h = refl

-- as code compares the two ends
compared : (s t : List ℕ) → pointwise eqb s t ≡ same t s
unfolding same
compared [] [] = refl
compared [] (y ∷ t) = refl
compared (x ∷ s) [] = refl
compared (x ∷ s) (y ∷ t) = ap₂ ◌&&◌ (eqb_swap x y) (compared s t)
  where
    eqb_swap : (x y : ℕ) → eqb x y ≡ eqb y x
    eqb_swap x y = go (eqb x y) refl
      where
        go : (b : Bool) → eqb x y ≡ b → b ≡ eqb y x
        go true e = sym (eq-eqb y x (sym (eqb-true x y e)))
        go false e = sym (ne_eqb y x (λ q. eqb-false x y e (sym q)))

pub framed_both : (m : List ℕ) → framed m ≡ (starts_with eqb m opening && ends_with eqb m (13 ∷ 10 ∷ closing))
unfolding framed
framed_both m = ap₂ ◌&&◌ (sym (compared opening (take 5 m))) (sym (compared (13 ∷ 10 ∷ closing) (drop (length m - 4) m)))

-- ---- the body
ended_last : (b : List ℕ) → ((k : ℕ) → length b ≡ suc k → get_or b k 0 ≡ 10) → ended b ≡ true
ended_last [] h = refl
ended_last (x ∷ []) h = eq-eqb x 10 (h 0 refl)
ended_last (x ∷ y ∷ r) h = ended_last (y ∷ r) (λ k e. h (suc k) (ap suc e))

module _ (m : List ℕ) (w : Framed m) where
  pub body_length : length (body m) + 7 ≡ length m
  unfolding body
  body_length = let h = framed_long m w in simp (length-take, length-drop) (omega arith)

  pub body_ended : ended (body m) ≡ true
  unfolding body
  body_ended = ended_last (body m) (λ k e.
      let h = framed_long m w in
      let n = body_length in
      let i : k < length m - 7 = omega arith in
      let p : 5 + k ≡ length m - 4 + 1 = omega arith in
      get_or-take (length m - 7) (drop 5 m) k 0 i ∙ get_or-drop 5 m k 0 ∙ ap (λ (j : ℕ). get_or m j 0) p
      ∙ sym (get_or-drop (length m - 4) m 1 0) ∙ ap (λ (l : List ℕ). get_or l 1 0) (last_four m w))

  pub around_body : opening ++ (body m ++ closing) ≡ m
  unfolding body
  around_body =
      let h = framed_long m w in
      let p : 5 + (length m - 7) ≡ length m - 4 + 2 = omega arith in
      let c : drop (length m - 7) (drop 5 m) ≡ closing =
      drop-drop (length m - 7) 5 m ∙ ap (λ (j : ℕ). drop j m) p ∙ sym (drop-drop 2 (length m - 4) m) ∙ ap (drop 2) (last_four m w) in
      let b : body m ++ closing ≡ drop 5 m = ap (λ (k : List ℕ). take (length m - 7) (drop 5 m) ++ k) (sym c) ∙ take-append-drop (length m - 7) (drop 5 m) in
      let s : drop 5 m ≡ w.rest = ap (drop 5) w.starts in
      ap (λ (k : List ℕ). opening ++ k) (b ∙ s) ∙ sym w.starts

-- ---- 4
pub good_of : (is_first : Bool) (o : ℕ) (ls : List (List ℕ)) → bad_line is_first o ls ≡ Fine → Good is_first ls
unfolding bad_line
good_of f o [] e = tt
good_of f o (l ∷ ls) e = go (line_bad f l) refl (good_of false (o + length l + 2) ls) e
  where
    go : (b : Bool) → line_bad f l ≡ b → (bad_line false (o + length l + 2) ls ≡ Fine → Good false ls)
        → pick b (Broken 4 o) (bad_line false (o + length l + 2) ls) ≡ Fine → Good f (l ∷ ls)
    go true q h e = absurd (fine_broken 4 o (sym e))
    go false q h e = (q, h e)

pub of_good : (is_first : Bool) (o : ℕ) (ls : List (List ℕ)) → Good is_first ls → bad_line is_first o ls ≡ Fine
unfolding bad_line
of_good f o [] g = refl
of_good f o (l ∷ ls) g = rw g.0 (of_good false (o + length l + 2) ls g.1)

-- 4 is not given exactly if every line is good
pub lines_fine : (is_first : Bool) (o : ℕ) (ls : List (List ℕ)) → (bad_line is_first o ls ≡ Fine) ↔ Good is_first ls
lines_fine f o ls = (good_of f o ls, of_good f o ls)

bad_of : (is_first : Bool) (o : ℕ) (ls : List (List ℕ)) (p : ℕ) → bad_line is_first o ls ≡ Broken 4 p → BadLineAt is_first o ls p
unfolding bad_line
bad_of f o [] p e = absurd (fine_broken 4 p e)
bad_of f o (l ∷ ls) p e = go (line_bad f l) refl (bad_of false (o + length l + 2) ls p) e
  where
    go : (b : Bool) → line_bad f l ≡ b → (bad_line false (o + length l + 2) ls ≡ Broken 4 p → BadLineAt false (o + length l + 2) ls p)
        → pick b (Broken 4 o) (bad_line false (o + length l + 2) ls) ≡ Broken 4 p → BadLineAt f o (l ∷ ls) p
    go true q h e =
        let z : o ≡ p = (same_broken e).1 in
        record { before = []; line = l; behind = ls; list = refl; good = tt; bad = rw and-true q; place = omega arith }
    go false q h e =
        let w = h e in
        let z = w.place in
        record {
          before = l ∷ w.before;
          line = w.line;
          behind = w.behind;
          list = ap (λ (k : List (List ℕ)). l ∷ k) w.list;
          good = (q, w.good);
          bad = rw and-false w.bad;
          place = omega arith;
        }

of_bad : (is_first : Bool) (o : ℕ) (ks : List (List ℕ)) (l : List ℕ) (ls : List (List ℕ)) → Good is_first ks → line_bad (is_first && empty ks) l ≡ true
    → bad_line is_first o (ks ++ l ∷ ls) ≡ Broken 4 (o + lines_size ks)
unfolding bad_line
of_bad f o [] l ls g b =
    let e : line_bad f l ≡ true = rw and-true at b in
    let z : o ≡ o + 0 = omega arith in
    rw e (ap (Broken 4) z)
of_bad f o (k ∷ ks) l ls g b =
    let e : line_bad false l ≡ true = rw and-false at b in
    let z : o + length k + 2 + lines_size ks ≡ o + (length k + 2 + lines_size ks) = omega arith in
    rw g.0 (of_bad false (o + length k + 2) ks l ls g.1 e ∙ ap (Broken 4) z)

-- and it is given exactly at the first bad line
pub lines_broken : (is_first : Bool) (o : ℕ) (ls : List (List ℕ)) (p : ℕ) → (bad_line is_first o ls ≡ Broken 4 p) ↔ BadLineAt is_first o ls p
lines_broken f o ls p =
    (bad_of f o ls p, λ w. ap (bad_line f o) w.list ∙ of_bad f o w.before w.line w.behind w.good w.bad ∙ ap (Broken 4) (sym w.place))

-- of a message: the lines from 5 on, of which the first must open a field
pub rule_4_fine : (m : List ℕ) → (rule_4 m ≡ Fine) ↔ Good true (lines (body m))
unfolding rule_4
rule_4_fine m = lines_fine true 5 (lines (body m))

pub rule_4_broken : (m : List ℕ) (p : ℕ) → (rule_4 m ≡ Broken 4 p) ↔ BadLineAt true 5 (lines (body m)) p
unfolding rule_4
rule_4_broken m p = lines_broken true 5 (lines (body m)) p
