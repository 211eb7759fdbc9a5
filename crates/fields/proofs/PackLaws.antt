-- Tags as numbers: the tag of a line, and that no two tags have one number. Assumes nothing.
use Prim.Native.Nat.{ℕ, ◌+◌, ◌-◌, ◌*◌, ◌/◌, ◌%◌, ◌≤◌, ◌<◌}
use mathlib.Core.Path.{◌≡◌, refl, sym, ap, ◌∙◌}
use mathlib.Core.Bool.{Bool, true, false, not, ◌&&◌, ◌||◌, and-false, or-false, true≢false, false≢true}
use mathlib.Core.List.{List, [], ◌∷◌, tail}
use native.Mathlib.Omega.{arith}
use lib.Dec.{eqb, eqb-suc-zero}
use lib.ListN.{length, take, drop, length-drop}
use lib.Seq.{get_or-drop, take-length}
use Rattle.std.specs.List.{starts_with}
use borrow.Author.Tests.{eq-eqb, ne_eqb, eqb-true, eqb-false}
use Rattle.std.specs.Prelude.{Option, Some, None, unwrap_or}
use Rattle.std.specs.Option.{is_none}
use Rattle.base.specs.Choice.{pick}
use Rattle.base.specs.Bytes.{byte, digit, capital, begins, empty, same}
use Rattle.base.proofs.ByteLaws.{begins_byte, digit_range, capital_range, same_is, same_refl}
use Rattle.fields.specs.Field.{upto}
use Rattle.fields.specs.Frame.{tagged, line_bad}
use Rattle.fields.specs.Shapes.{shaped, pack, unpack, front_tag, packed, bad_start}
use Rattle.fields.proofs.TagLaws.{Shape, plain, lettered, shape_of_lem, Headed, headed, tagged_headed, head_tag, no_colon}

digit_no_colon : (x : ℕ) → digit x ≡ true → eqb x 58 ≡ false
digit_no_colon x e = let r = digit_range x e in ne_eqb x 58 (λ q. omega arith)

-- ---- from a number to the tag and back
pub pack_unpack : (n : ℕ) → pack (unpack n) ≡ n
pack_unpack n = go (eqb (n % 256) 0) refl
  where
    go : (b : Bool) → eqb (n % 256) 0 ≡ b → n / 65536 * 65536 + n / 256 % 256 * 256 + byte (pick b [] (n % 256 ∷ [])) 0 ≡ n
    go true e = omega (arith, eqb-true (n % 256) 0 e)
    go false e = omega arith

pub same_unpack : (x y : ℕ) → same (unpack x) (unpack y) ≡ eqb x y
same_unpack x y = go (same (unpack x) (unpack y)) (eqb x y) refl refl
  where
    go : (a b : Bool) → same (unpack x) (unpack y) ≡ a → eqb x y ≡ b → a ≡ b
    go true true p q = refl
    go false false p q = refl
    go true false p q = absurd (eqb-false x y q (sym (pack_unpack x) ∙ ap pack (same_is (unpack x) (unpack y) p) ∙ pack_unpack y))
    go false true p q = absurd (true≢false (sym (same_refl (unpack x)) ∙ ap (λ (z : ℕ). same (unpack x) (unpack z)) (eqb-true x y q) ∙ p))

-- ---- from a tag to its number and back
unpacked : (a b c : ℕ) → b < 256 → c < 256 → unpack (a * 65536 + b * 256 + c) ≡ a ∷ b ∷ pick (eqb c 0) [] (c ∷ [])
unpacked a b c h k =
    let x : (a * 65536 + b * 256 + c) / 65536 ≡ a = omega arith in
    let y : (a * 65536 + b * 256 + c) / 256 % 256 ≡ b = omega arith in
    let z : (a * 65536 + b * 256 + c) % 256 ≡ c = omega arith in
    rw (x, y, z)

pub unpack_pack : (t : List ℕ) → shaped t ≡ true → unpack (pack t) ≡ t
unpack_pack t e = go (shape_of_lem t e)
  where
    go : Shape t → unpack (pack t) ≡ t
    go (plain a b q d d') =
        let r = digit_range b d' in
        ap (λ (u : List ℕ). unpack (pack u)) q ∙ unpacked a b 0 (omega arith) (omega arith) ∙ sym q
    go (lettered a b c q d d' k) =
        let r = digit_range b d' in
        let s = capital_range c k in
        ap (λ (u : List ℕ). unpack (pack u)) q ∙ unpacked a b c (omega arith) (omega arith)
        ∙ ap (λ (z : Bool). a ∷ b ∷ pick z [] (c ∷ [])) (ne_eqb c 0 (λ z. omega arith)) ∙ sym q

-- no two tags have one number
pub pack_one : (t u : List ℕ) → shaped t ≡ true → shaped u ≡ true → pack t ≡ pack u → t ≡ u
pack_one t u p q e = sym (unpack_pack t p) ∙ ap unpack e ∙ unpack_pack u q

pub pack_some : (t : List ℕ) → shaped t ≡ true → eqb (pack t) 0 ≡ false
pack_some t e = go (shape_of_lem t e)
  where
    go : Shape t → eqb (pack t) 0 ≡ false
    go (plain a b q d d') = let r = digit_range a d in ne_eqb (pack t) 0 (λ z. let p : a * 65536 + b * 256 + 0 ≡ 0 = sym (ap pack q) ∙ z in omega arith)
    go (lettered a b c q d d' k) = let r = digit_range a d in ne_eqb (pack t) 0 (λ z. let p : a * 65536 + b * 256 + c ≡ 0 = sym (ap pack q) ∙ z in omega arith)

-- ---- the number of a line's tag
pub packed_tag : {l : List ℕ} (h : Headed l) → packed l ≡ pack h.tag
unfolding packed
packed_tag {l} h =
    ap (λ (b : Bool). pick b (pack (upto 58 (tail l))) 0) (ap tagged h.is ∙ tagged_headed h.tag h.rest h.shape) ∙ ap pack (head_tag h)

-- ---- the tag at the front of a line, if there is one
tag_there : (l : List ℕ) → tagged l ≡ true → front_tag l ≡ Some (pack (upto 58 (tail l)))
unfolding front_tag
tag_there l e = rw e

not_tagged : (l : List ℕ) → tagged l ≡ false → None ≡ front_tag l
unfolding front_tag
not_tagged l e = rw e

pub front_tag_lem : {l : List ℕ} (h : Headed l) → front_tag l ≡ Some (pack h.tag)
front_tag_lem {l} h = tag_there l (ap tagged h.is ∙ tagged_headed h.tag h.rest h.shape) ∙ ap (λ (t : List ℕ). Some (pack t)) (head_tag h)

pub front_headed : (l : List ℕ) {n : ℕ} → Some n ≡ front_tag l → (h : Headed l) × (n ≡ pack h.tag)
front_headed l {n} h = go (tagged l) refl
  where
    go : (b : Bool) → tagged l ≡ b → (h : Headed l) × (n ≡ pack h.tag)
    go true e = let d = headed l e in let z = front_tag_lem d in (d, cc)
    go false e = let z = not_tagged l e in absurd (cc)

-- as one number, 0 where there is none
pub packed_front : (l : List ℕ) {o : Option ℕ} → o ≡ front_tag l → unwrap_or o 0 ≡ packed l
unfolding front_tag packed
packed_front l e = ap (λ (o : Option ℕ). unwrap_or o 0) e ∙ go (tagged l)
  where
    go : (b : Bool) → unwrap_or (pick b (Some (pack (upto 58 (tail l)))) None) 0 ≡ pick b (pack (upto 58 (tail l))) 0
    go true = refl
    go false = refl

-- a line is bad by its first byte, or opens a field and has no tag
pub line_bad_lem : (is_first : Bool) (l : List ℕ) → line_bad is_first l ≡ (bad_start is_first l || (is_none (front_tag l) && eqb (byte l 0) 58))
unfolding line_bad bad_start
line_bad_lem f l = go (empty l) (begins 45 l) (begins 58 l) (tagged l) refl refl
  where
    colon : begins 58 l ≡ eqb (byte l 0) 58
    colon = begins_byte 58 l refl

    go : (a b c d : Bool) → begins 58 l ≡ c → tagged l ≡ d
        → (a || (b || pick c (not d) f)) ≡ ((a || (b || (not c && f))) || (is_none (front_tag l) && eqb (byte l 0) 58))
    go true b c d o e = refl
    go false true c d o e = refl
    go false false true true o e = sym (ap (λ o. is_none o && eqb (byte l 0) 58) (tag_there l e))
    go false false true false o e = sym (ap (λ o. is_none o && eqb (byte l 0) 58) (sym (not_tagged l e)) ∙ sym colon ∙ o)
    go false false false d o e = sym (ap (λ (q : Bool). f || (is_none (front_tag l) && q)) (sym colon ∙ o) ∙ ap (λ (q : Bool). f || q) (and-false (is_none (front_tag l))) ∙ or-false f)

-- a line that is not has a first byte
pub good_start : (is_first : Bool) (l : List ℕ) → bad_start is_first l ≡ false → 0 < length l
unfolding bad_start
good_start f [] e = absurd (true≢false e)
good_start f (x ∷ l) e = omega arith

-- ---- as code reads it
first_colon : (l : List ℕ) → starts_with eqb l (58 ∷ []) ≡ eqb (byte l 0) 58
first_colon [] = refl
first_colon (x ∷ l) = go (eqb x 58) refl
  where
    go : (b : Bool) → eqb x 58 ≡ b → (eqb 58 x && true) ≡ b
    go true e = rw (eq-eqb 58 x (sym (eqb-true x 58 e)))
    go false e = rw (ne_eqb 58 x (λ q. eqb-false x 58 e (sym q)))

short : (l : List ℕ) → length l < 4 → tagged l ≡ false
unfolding tagged digit
short [] h = refl
short (o ∷ []) h = simp and-false
short (o ∷ a ∷ []) h = simp and-false
short (o ∷ a ∷ b ∷ []) h = simp and-false
short (o ∷ a ∷ b ∷ c ∷ r) h = absurd (omega arith)

module _ (l : List ℕ) where
  pub none_short : length l < 4 → None ≡ front_tag l
  none_short h = not_tagged l (short l h)

  pub none_colon : (byte l 0 ≡ 58 → ⊥) → None ≡ front_tag l
  unfolding tagged
  none_colon h = not_tagged l (rw (ne_eqb (byte l 0) 58 h))

  pub none_first : digit (byte l 1) ≡ false → None ≡ front_tag l
  unfolding tagged
  none_first h = not_tagged l (rw h (and-false (eqb (byte l 0) 58)))

  pub none_second : digit (byte l 2) ≡ false → None ≡ front_tag l
  unfolding tagged
  none_second h = not_tagged l (simp (h, and-false))

  pub none_capital : (byte l 3 ≡ 58 → ⊥) → capital (byte l 3) ≡ false → None ≡ front_tag l
  unfolding tagged
  none_capital h k = not_tagged l (simp (ne_eqb (byte l 3) 58 h, k, and-false))

  pub none_behind : (byte l 3 ≡ 58 → ⊥) → eqb (byte l 4) 58 ≡ false → None ≡ front_tag l
  unfolding tagged
  none_behind h k = not_tagged l (simp (ne_eqb (byte l 3) 58 h, k, and-false))

  -- the byte behind a colon and three bytes, as code looks at it
  pub colon_behind : starts_with eqb (take (length l - 4) (drop 4 l)) (58 ∷ []) ≡ eqb (byte l 4) 58
  colon_behind =
      ap (λ (n : ℕ). starts_with eqb (take n (drop 4 l)) (58 ∷ [])) (sym (length-drop 4 l)) ∙ ap (λ (k : List ℕ). starts_with eqb k (58 ∷ [])) (take-length (drop 4 l))
      ∙ first_colon (drop 4 l) ∙ ap (λ (x : ℕ). eqb x 58) (get_or-drop 4 l 0 0)

pub some_two : (l : List ℕ) {n : ℕ} → 4 ≤ length l → byte l 0 ≡ 58 → byte l 3 ≡ 58 → digit (byte l 1) ≡ true → digit (byte l 2) ≡ true
    → n ≡ byte l 1 * 65536 + byte l 2 * 256 + 0 → Some n ≡ front_tag l
unfolding front_tag tagged upto
some_two [] h o c a b e = absurd (omega arith)
some_two (x ∷ []) h o c a b e = absurd (omega arith)
some_two (x ∷ y ∷ []) h o c a b e = absurd (omega arith)
some_two (x ∷ y ∷ z ∷ []) h o c a b e = absurd (omega arith)
some_two (x ∷ y ∷ z ∷ u ∷ r) h o c a b e = rw (eq-eqb x 58 o, a, b, eq-eqb u 58 c, digit_no_colon y a, digit_no_colon z b) (ap (λ (k : ℕ). Some k) e)

pub some_three : (l : List ℕ) {n : ℕ} → byte l 0 ≡ 58 → eqb (byte l 4) 58 ≡ true → digit (byte l 1) ≡ true → digit (byte l 2) ≡ true → capital (byte l 3) ≡ true
    → n ≡ byte l 1 * 65536 + byte l 2 * 256 + byte l 3 → Some n ≡ front_tag l
unfolding front_tag tagged upto
some_three [] o c a b k e = absurd (false≢true c)
some_three (x ∷ []) o c a b k e = absurd (false≢true c)
some_three (x ∷ y ∷ []) o c a b k e = absurd (false≢true c)
some_three (x ∷ y ∷ z ∷ []) o c a b k e = absurd (false≢true c)
some_three (x ∷ y ∷ z ∷ u ∷ []) o c a b k e = absurd (false≢true c)
some_three (x ∷ y ∷ z ∷ u ∷ v ∷ r) o c a b k e =
    rw (eq-eqb x 58 o, a, b, no_colon u k, k, c, digit_no_colon y a, digit_no_colon z b) (ap (λ (k : ℕ). Some k) e)

-- ---- a line by its first byte
bad_start_at : (is_first : Bool) (l : List ℕ) → bad_start is_first l ≡ pick (eqb (length l) 0) true (pick (eqb (byte l 0) 45) true (pick (eqb (byte l 0) 58) false is_first))
unfolding bad_start
bad_start_at f [] = refl
bad_start_at f (x ∷ l) = rw (eqb-suc-zero (length l)) (go (eqb x 45) (eqb x 58))
  where
    go : (a b : Bool) → (a || (not b && f)) ≡ pick a true (pick b false f)
    go true b = refl
    go false true = refl
    go false false = refl

module _ (f : Bool) (l : List ℕ) where
  pub bad_empty : length l < 1 → true ≡ bad_start f l
  bad_empty h = rw (bad_start_at, eq-eqb (length l) 0 (omega arith))

  pub bad_dash : 1 ≤ length l → byte l 0 ≡ 45 → true ≡ bad_start f l
  bad_dash h e = rw (bad_start_at, ne_eqb (length l) 0 (λ q. omega arith), eq-eqb (byte l 0) 45 e)

  pub bad_colon : 1 ≤ length l → byte l 0 ≡ 58 → false ≡ bad_start f l
  bad_colon h e = rw (bad_start_at, ne_eqb (length l) 0 (λ q. omega arith), ne_eqb (byte l 0) 45 (λ q. omega arith), eq-eqb (byte l 0) 58 e)

  pub bad_other : 1 ≤ length l → (byte l 0 ≡ 45 → ⊥) → (byte l 0 ≡ 58 → ⊥) → f ≡ bad_start f l
  bad_other h d c = rw (bad_start_at, ne_eqb (length l) 0 (λ q. omega arith), ne_eqb (byte l 0) 45 d, ne_eqb (byte l 0) 58 c)
