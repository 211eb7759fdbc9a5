-- The Latin group of a text: what is written from the Latin side on; and the text up to the first group, whose end is a place to cut (T10, D3).
-- Assumes nothing.
use Prim.Native.Nat.{ℕ, zero, suc, ◌+◌, ◌*◌, ◌≤◌, ◌<◌}
use mathlib.Core.Path.{◌≡◌, refl, sym, ap, ap₂, ◌∙◌}
use mathlib.Core.Bool.{Bool, true, false, not, false≢true}
use mathlib.Core.List.{List, [], ◌∷◌, ◌++◌, append_assoc}
use native.Mathlib.Omega.{arith}
use native.Mathlib.Decide.{dec_lt}
use lib.ListN.{length, drop, take, length-append, take-append-drop}
use Rattle.base.specs.Choice.{pick, all}
use Rattle.base.specs.Calls.{said}
use Rattle.base.proofs.Bools.{left, right, both}
use Rattle.base.proofs.CallLaws.{not_said}
use Rattle.alphabets.specs.Grid.{Kind, unwritable, russian, latin, common, kind, spell, allowed}
use Rattle.alphabets.specs.Bank.{reads}
use Rattle.alphabets.specs.Best.{latin_first, latin_next, side_for, cross, best, nowhere, spot_after, bad}
use Rattle.alphabets.specs.Steps.{group}
use Rattle.alphabets.proofs.Back.{never, rest_good, reads_best}
use Rattle.alphabets.proofs.Shortest.{at_most, beats, Came, turned, signed, came, leave, dear}

-- ---- the Latin group
pub group_first : (x : ℕ) (xs : List ℕ) → latin_next (x ∷ xs) ≡ true → best true (x ∷ xs) ≡ x ∷ best true xs
unfolding best latin_next
group_first x xs n = go (kind x) refl n
  where
    go : (k : Kind) → kind x ≡ k → latin_first k (latin_next xs) ≡ true → best true (x ∷ xs) ≡ x ∷ best true xs
    go unwritable e n = absurd (false≢true n)
    go russian e n = absurd (false≢true n)
    go latin e n = rw e
    go common e n = rw (e, n)

pub group_text : (d : List ℕ) → best true d ≡ take (group d) d ++ 39 ∷ best false (drop (group d) d)
unfolding group latin_next
group_text [] = leave [] refl
group_text (x ∷ xs) = go (latin_next (x ∷ xs)) refl (group_text xs)
  where
    go : (q : Bool) → latin_next (x ∷ xs) ≡ q → best true xs ≡ take (group xs) xs ++ 39 ∷ best false (drop (group xs) xs)
        → best true (x ∷ xs) ≡ take (pick q (suc (group xs)) 0) (x ∷ xs) ++ 39 ∷ best false (drop (pick q (suc (group xs)) 0) (x ∷ xs))
    go false e ih = leave (x ∷ xs) e
    go true e ih = group_first x xs e ∙ ap (λ (u : List ℕ). x ∷ u) ih

pub group_le : (d : List ℕ) → group d ≤ length d
unfolding group
group_le [] = omega arith
group_le (x ∷ xs) = go (latin_next (x ∷ xs)) (group_le xs)
  where
    go : (q : Bool) → group xs ≤ length xs → pick q (suc (group xs)) 0 ≤ suc (length xs)
    go true h = omega arith
    go false h = omega arith

-- a group is opened at a Latin letter, and is not empty
pub group_latin : (x : ℕ) (xs : List ℕ) → kind x ≡ latin → group (x ∷ xs) ≡ suc (group xs)
unfolding group latin_next
group_latin x xs e = rw e

pub group_none : (d : List ℕ) → latin_next d ≡ false → group d ≡ 0
unfolding group
group_none [] n = refl
group_none (x ∷ xs) n = rw n

-- a group alone is written as it is, and closed
group_next : (d : List ℕ) → latin_next (take (group d) d) ≡ latin_next d
unfolding group latin_next
group_next [] = refl
group_next (x ∷ xs) = go (latin_next (x ∷ xs)) refl (group_next xs)
  where
    go : (q : Bool) → latin_next (x ∷ xs) ≡ q → latin_next (take (group xs) xs) ≡ latin_next xs → latin_next (take (pick q (suc (group xs)) 0) (x ∷ xs)) ≡ latin_next (x ∷ xs)
    go true e ih = ap (latin_first (kind x)) ih
    go false e ih = sym e

group_alone : (d : List ℕ) → best true (take (group d) d) ≡ take (group d) d ++ (39 ∷ [])
unfolding group latin_next best
group_alone [] = refl
group_alone (x ∷ xs) = go (latin_next (x ∷ xs)) refl (group_alone xs)
  where
    go : (q : Bool) → latin_next (x ∷ xs) ≡ q → best true (take (group xs) xs) ≡ take (group xs) xs ++ (39 ∷ [])
        → best true (take (pick q (suc (group xs)) 0) (x ∷ xs)) ≡ take (pick q (suc (group xs)) 0) (x ∷ xs) ++ (39 ∷ [])
    go true e ih = group_first x (take (group xs) xs) (ap (latin_first (kind x)) (group_next xs) ∙ e) ∙ ap (λ (u : List ℕ). x ∷ u) ih
    go false e ih = refl

group_some : (x : ℕ) (xs : List ℕ) → latin_next (x ∷ xs) ≡ true → 0 < length (take (group (x ∷ xs)) (x ∷ xs))
unfolding group
group_some x xs n = rw n (omega arith)

-- ---- on the Russian side: what is spelt there, and a Latin letter
abbrev in_russian : ℕ → Bool
in_russian x = allowed (kind x) false

abbrev spelt : List ℕ → List ℕ
spelt [] = []
spelt (x ∷ xs) = spell (kind x) false x ∷ spelt xs

spelt_long : (x : List ℕ) → length (spelt x) ≡ length x
spelt_long [] = refl
spelt_long (v ∷ x) = ap suc (spelt_long x)

russian_first : (v : ℕ) (d : List ℕ) → in_russian v ≡ true → best false (v ∷ d) ≡ spell (kind v) false v ∷ best false d
unfolding best
russian_first v d a = go (kind v) a
  where
    go : (k : Kind) → allowed k false ≡ true
        → cross false (side_for k false (latin_next d)) (spell k (side_for k false (latin_next d)) v ∷ best (side_for k false (latin_next d)) d) ≡ spell k false v ∷ best false d
    go unwritable a = absurd (false≢true a)
    go russian a = refl
    go latin a = absurd (false≢true a)
    go common a = refl

russian_front : (x d : List ℕ) → all in_russian x ≡ true → best false (x ++ d) ≡ spelt x ++ best false d
russian_front [] d a = refl
russian_front (v ∷ x) d a = russian_first v (x ++ d) (left (in_russian v) _ a) ∙ ap (λ (u : List ℕ). spell (kind v) false v ∷ u) (russian_front x d (right (in_russian v) _ a))

russian_long : (x : List ℕ) → all in_russian x ≡ true → length (best false x) ≡ length x
unfolding best
russian_long [] a = refl
russian_long (v ∷ x) a = ap length (russian_first v x (left (in_russian v) _ a)) ∙ ap suc (russian_long x (right (in_russian v) _ a))

latin_first_lem : (y : ℕ) (d : List ℕ) → kind y ≡ latin → best false (y ∷ d) ≡ 39 ∷ y ∷ best true d
unfolding best
latin_first_lem y d e = rw e

-- one character that is no Latin letter, and one alone from the Latin side
no_latin_long : (v : ℕ) (d : List ℕ) → latin_next (v ∷ d) ≡ false → length (best false (v ∷ d)) ≡ suc (length (best false d))
unfolding best latin_next
no_latin_long v d e = go (kind v) e
  where
    go : (k : Kind) → latin_first k (latin_next d) ≡ false
        → length (cross false (side_for k false (latin_next d)) (spell k (side_for k false (latin_next d)) v ∷ best (side_for k false (latin_next d)) d)) ≡ suc (length (best false d))
    go unwritable e = refl
    go russian e = refl
    go latin e = absurd (false≢true (sym e))
    go common e = refl

alone_long : (v : ℕ) → length (best true (v ∷ [])) ≡ 2
unfolding best latin_next
alone_long v = go (kind v)
  where
    go : (k : Kind) → length (cross true (side_for k true false) (spell k (side_for k true false) v ∷ best (side_for k true false) [])) ≡ 2
    go unwritable = refl
    go russian = refl
    go latin = refl
    go common = refl

-- to change the side costs a byte at most
near_side : (d : List ℕ) → length (best false d) ≤ suc (length (best true d))
near_side d = go (latin_next d) refl
  where
    go : (q : Bool) → latin_next d ≡ q → length (best false d) ≤ suc (length (best true d))
    go true e = omega (arith, (dear d e).more)
    go false e = omega (arith, ap length (leave d e))

-- ---- among the first n characters there is no Latin letter, or a first one
data Begins (n : ℕ) (d : List ℕ) : Type 0 where
  without : (x r : List ℕ) → x ++ r ≡ d → length x ≡ n → all in_russian x ≡ true → Begins n d
  opened : (x : List ℕ) (y : ℕ) (e : List ℕ) → x ++ (y ∷ e) ≡ d → length x < n → all in_russian x ≡ true → kind y ≡ latin → Begins n d

begins : (n : ℕ) (d : List ℕ) → n ≤ length d → bad d ≡ nowhere → Begins n d
unfolding bad
begins zero d h b = without [] d refl refl refl
begins (suc n) [] h b = absurd (omega arith)
begins (suc n) (v ∷ d) h b = go (kind v) refl b (begins n d (omega arith) (rest_good (kind v) (bad d) b))
  where
    more : in_russian v ≡ true → Begins n d → Begins (suc n) (v ∷ d)
    more a (without x r e l p) = without (v ∷ x) r (ap (λ (u : List ℕ). v ∷ u) e) (ap suc l) (both a p)
    more a (opened x y e q l p k) = opened (v ∷ x) y e (ap (λ (u : List ℕ). v ∷ u) q) (omega arith) (both a p) k

    go : (k : Kind) → kind v ≡ k → spot_after k (bad d) ≡ nowhere → Begins n d → Begins (suc n) (v ∷ d)
    go unwritable e b i = absurd (never 0 b)
    go russian e b i = more (ap (λ (k : Kind). allowed k false) e) i
    go latin e b i = opened [] v d refl (omega arith) refl e
    go common e b i = more (ap (λ (k : Kind). allowed k false) e) i

-- ---- how any bank text says it: what is before the first Latin letter takes an apostrophe at least
record Before (s : Bool) (b x : List ℕ) (y : ℕ) (e : List ℕ) : Type 0 where
  front : List ℕ
  behind : List ℕ
  is : b ≡ front ++ (y ∷ behind)
  says : reads true behind ≡ said e
  long : length x + pick s 0 1 ≤ length front

before : (s : Bool) (b x : List ℕ) (y : ℕ) (e : List ℕ) → kind y ≡ latin → reads s b ≡ said (x ++ (y ∷ e)) → Before s b x y e
unfolding reads
before false [] x y e k r = let f : [] ≡ x ++ (y ∷ e) = cc in absurd (omega (arith, ap length f, length-append x (y ∷ e)))
before true [] x y e k r = absurd (not_said 0 (x ++ (y ∷ e)) r)
before s (z ∷ b) x y e k r = go (came s z b (x ++ (y ∷ e)) r) (λ t u q. before t b u y e k q)
  where
    turn : (t : Bool) (m n : ℕ) → m + pick (not t) 0 1 ≤ n → m + pick t 0 1 ≤ suc n
    turn true m n h = omega arith
    turn false m n h = omega arith

    here : (t : Bool) → allowed (kind y) t ≡ true → spell (kind y) t y ≡ z → reads t b ≡ said e → Before t (z ∷ b) [] y e
    here true a p q = record { front = []; behind = b; is = ap (λ (i : ℕ). i ∷ b) (sym p ∙ rw k refl); says = q; long = omega arith }
    here false a p q = absurd (false≢true (rw k at a))

    there : (u : List ℕ) (v : ℕ) (w : List ℕ) → u ++ (y ∷ e) ≡ v ∷ w → allowed (kind v) s ≡ true → spell (kind v) s v ≡ z → reads s b ≡ said w
        → ((t : Bool) (u : List ℕ) → reads t b ≡ said (u ++ (y ∷ e)) → Before t b u y e) → Before s (z ∷ b) u y e
    there [] v w f a p q ih =
        let g : v ≡ y = cc in
        let h : w ≡ e = cc in
        here s (ap (λ (i : ℕ). allowed (kind i) s) (sym g) ∙ a) (ap (λ (i : ℕ). spell (kind i) s i) (sym g) ∙ p) (q ∙ ap said h)
    there (c ∷ u) v w f a p q ih =
        let h : w ≡ u ++ (y ∷ e) = cc in
        let i = ih s u (q ∙ ap said h) in
        record { front = z ∷ i.front; behind = i.behind; is = ap (λ (j : List ℕ). z ∷ j) i.is; says = i.says; long = omega (arith, i.long) }

    go : Came s z b (x ++ (y ∷ e)) → ((t : Bool) (u : List ℕ) → reads t b ≡ said (u ++ (y ∷ e)) → Before t b u y e) → Before s (z ∷ b) x y e
    go (turned h q) ih =
        let i = ih (not s) x q in
        record { front = z ∷ i.front; behind = i.behind; is = ap (λ (j : List ℕ). z ∷ j) i.is; says = i.says; long = turn s (length x) (length i.front) i.long }
    go (signed v w f n a p q) ih = there x v w f a p q ih

-- one that is as short as can be holds the group as it is
kept : (e c : List ℕ) → reads true c ≡ said e → length c ≤ length (best true e) → (z : List ℕ) × (c ≡ take (group e) e ++ z)
unfolding group latin_next reads
kept [] c r h = (c, refl)
kept (v ∷ e) [] r h = absurd (not_said 0 (v ∷ e) r)
kept (v ∷ e) (w ∷ c) r h = go (latin_next (v ∷ e)) refl (λ q l. kept e c q l)
  where
    itself : (k : Kind) → latin_first k (latin_next e) ≡ true → spell k true v ≡ v
    itself unwritable n = absurd (false≢true n)
    itself russian n = absurd (false≢true n)
    itself latin n = refl
    itself common n = refl

    by : latin_next (v ∷ e) ≡ true → Came true w c (v ∷ e) → (reads true c ≡ said e → length c ≤ length (best true e) → (z : List ℕ) × (c ≡ take (group e) e ++ z)) → (z : List ℕ) × (w ∷ c ≡ v ∷ (take (group e) e ++ z))
    by n (turned f q) ih = absurd (omega (arith, (dear (v ∷ e) n).more, at_most (beats false c (v ∷ e) q)))
    by n (signed x u f m a p q) ih =
        let g : x ≡ v = cc in
        let k : u ≡ e = cc in
        let o : w ≡ v = sym p ∙ ap (λ (j : ℕ). spell (kind j) true j) g ∙ itself (kind v) n in
        let i = ih (q ∙ ap said k) (omega (arith, ap length (group_first v e n))) in
        (i.0, ap₂ (λ (j : ℕ) (l : List ℕ). j ∷ l) o i.1)

    go : (q : Bool) → latin_next (v ∷ e) ≡ q → (reads true c ≡ said e → length c ≤ length (best true e) → (z : List ℕ) × (c ≡ take (group e) e ++ z))
        → (z : List ℕ) × (w ∷ c ≡ take (pick q (suc (group e)) 0) (v ∷ e) ++ z)
    go true n ih = by n (came true w c (v ∷ e) r) ih
    go false n ih = (w ∷ c, refl)

-- ---- apostrophes come in pairs
pairs : (s : Bool) (b d : List ℕ) → reads s b ≡ said d → (k : ℕ) × (length b ≡ length d + 2 * k + pick s 1 0)
unfolding reads
pairs false [] d r = let e : [] ≡ d = cc in (0, omega (arith, ap length e))
pairs true [] d r = absurd (not_said 0 d r)
pairs s (x ∷ b) d r = go (came s x b d r) (λ t u q. pairs t b u q)
  where
    turn : (t : Bool) → (k : ℕ) × (length b ≡ length d + 2 * k + pick (not t) 1 0) → (k : ℕ) × (suc (length b) ≡ length d + 2 * k + pick t 1 0)
    turn true i = let f = i.1 in (i.0, omega arith)
    turn false i = let f = i.1 in (suc i.0, omega arith)

    go : Came s x b d → ((t : Bool) (u : List ℕ) → reads t b ≡ said u → (k : ℕ) × (length b ≡ length u + 2 * k + pick t 1 0)) → (k : ℕ) × (suc (length b) ≡ length d + 2 * k + pick s 1 0)
    go (turned e q) ih = turn s (ih (not s) d q)
    go (signed y t e n a p q) ih = let i = ih s t q in let f = i.1 in (i.0, omega (arith, ap length e))

-- ---- a beginning of d that is written apart and costs nothing beside a bank text b that says d
-- it ends with the first Latin group: it is written as `anew`, the group, a letter first, and an apostrophe; and b holds the group behind as many bytes
pub record Opened (b a : List ℕ) : Type 0 where
  pub lead : List ℕ
  pub anew : List ℕ
  pub letter : ℕ
  pub more : List ℕ
  pub rest : List ℕ
  pub latin_letter : kind letter ≡ latin
  pub is : b ≡ lead ++ (letter ∷ (more ++ rest))
  pub spells : best false a ≡ anew ++ (letter ∷ (more ++ (39 ∷ [])))
  pub as_many : length anew ≡ length lead
  pub some : 0 < length anew
  pub few : length anew ≤ 4
  pub some_more : 0 < length more
  pub some_rest : 0 < length rest

pub data Beginning (b d : List ℕ) : Type 0 where
  -- of a few bytes
  few_bytes : (a r : List ℕ) → a ++ r ≡ d → 4 ≤ length (best false a) → length (best false a) ≤ 7 → length (best false a) + length (best false r) ≤ length b → Beginning b d
  -- or up to the end of the first Latin group
  whole_group : (a r : List ℕ) → a ++ r ≡ d → Opened b a → length (best false a) + length (best false r) ≤ length b → Beginning b d

module _ (b d : List ℕ) (r : reads false b ≡ said d) (good : bad d ≡ nowhere) where
  least : length (best false d) ≤ length b
  least = at_most (beats false b d r)

  -- four characters
  four : (x u : List ℕ) → x ++ u ≡ d → length x ≡ 4 → all in_russian x ≡ true → Beginning b d
  four x u e l p =
      let f : length (best false x) ≡ 4 = russian_long x p ∙ l in
      few_bytes x u e (omega arith) (omega arith) (omega (arith, least, ap (λ (y : List ℕ). length (best false y)) e, ap length (russian_front x u p), length-append (spelt x) (best false u), spelt_long x))

  -- a first Latin letter, behind three characters at most
  module _ (x : List ℕ) (y : ℕ) (p : all in_russian x ≡ true) (k : kind y ≡ latin) (few : length x < 4) where
    -- what is written then
    open_text : (e : List ℕ) → best false (x ++ (y ∷ e)) ≡ spelt x ++ (39 ∷ y ∷ best true e)
    open_text e = russian_front x (y ∷ e) p ∙ ap (λ (u : List ℕ). spelt x ++ u) (latin_first_lem y e k)

    open_long : (e : List ℕ) → length (best false (x ++ (y ∷ e))) ≡ length x + 2 + length (best true e)
    open_long e = omega (arith, ap length (open_text e), length-append (spelt x) (39 ∷ y ∷ best true e), spelt_long x)

    -- the letter and one character more
    two : (v : ℕ) (e : List ℕ) → x ++ (y ∷ v ∷ e) ≡ d → length x + 4 + length (best false e) ≤ length b → Beginning b d
    two v e f h =
        let l : length (best false (x ++ (y ∷ v ∷ []))) ≡ length x + 4 = omega (arith, open_long (v ∷ []), alone_long v) in
        few_bytes (x ++ (y ∷ v ∷ [])) e (append_assoc x (y ∷ v ∷ []) e ∙ f) (omega arith) (omega arith) (omega arith)

    -- the whole group, where b is as short as can be
    group_whole : (v : ℕ) (e : List ℕ) → x ++ (y ∷ v ∷ e) ≡ d → latin_next (v ∷ e) ≡ true → length b ≤ length (best false d) → Beginning b d
    group_whole v e f n h =
        let g : List ℕ = take (group (v ∷ e)) (v ∷ e) in
        let q : List ℕ = drop (group (v ∷ e)) (v ∷ e) in
        let t : length (best false d) ≡ length x + 2 + length (best true (v ∷ e)) = ap (λ (z : List ℕ). length (best false z)) (sym f) ∙ open_long (v ∷ e) in
        let w : Before false b x y (v ∷ e) = before false b x y (v ∷ e) k (r ∙ ap said (sym f)) in
        let a : length b ≡ length w.front + suc (length w.behind) = ap length w.is ∙ length-append w.front (y ∷ w.behind) in
        let c : length (best true (v ∷ e)) ≤ length w.behind = at_most (beats true w.behind (v ∷ e) w.says) in
        let o = kept (v ∷ e) w.behind w.says (omega (arith, w.long)) in
        let m : length (best true (v ∷ e)) ≡ length g + suc (length (best false q)) = ap length (group_text (v ∷ e)) ∙ length-append g (39 ∷ best false q) in
        let i : best false (x ++ (y ∷ g)) ≡ (spelt x ++ (39 ∷ [])) ++ (y ∷ (g ++ (39 ∷ []))) =
        open_text g ∙ ap (λ (u : List ℕ). spelt x ++ (39 ∷ y ∷ u)) (group_alone (v ∷ e)) ∙ sym (append_assoc (spelt x) (39 ∷ []) (y ∷ (g ++ (39 ∷ [])))) in
        let j : length (best false (x ++ (y ∷ g))) ≡ length x + 2 + (length g + 1) = open_long g ∙ ap (λ (z : ℕ). length x + 2 + z) (ap length (group_alone (v ∷ e)) ∙ length-append g (39 ∷ [])) in
        let u : length (spelt x ++ (39 ∷ [])) ≡ length x + 1 = omega (arith, length-append (spelt x) (39 ∷ []), spelt_long x) in
        whole_group (x ++ (y ∷ g)) q (append_assoc x (y ∷ g) q ∙ ap (λ (z : List ℕ). x ++ (y ∷ z)) (take-append-drop (group (v ∷ e)) (v ∷ e)) ∙ f)
        (record {
          lead = w.front;
          anew = spelt x ++ (39 ∷ []);
          letter = y;
          more = g;
          rest = o.0;
          latin_letter = k;
          is = w.is ∙ ap (λ (z : List ℕ). w.front ++ (y ∷ z)) o.1;
          spells = i;
          as_many = omega (arith, w.long);
          some = omega arith;
          few = omega arith;
          some_more = group_some v e n;
          some_rest = omega (arith, ap length o.1, length-append g o.0);
        })
        (omega arith)

    -- one of the two
    opens_so : (e : List ℕ) → x ++ (y ∷ e) ≡ d → 0 < length e → Beginning b d
    opens_so [] f h = absurd (omega arith)
    opens_so (v ∷ e) f h = go (latin_next (v ∷ e)) refl (dec_lt (length (best false d)) (length b))
      where
        t : length (best false d) ≡ length x + 2 + length (best true (v ∷ e))
        t = ap (λ (z : List ℕ). length (best false z)) (sym f) ∙ open_long (v ∷ e)

        go : (q : Bool) → latin_next (v ∷ e) ≡ q → Dec (length (best false d) < length b) → Beginning b d
        go false n c = two v e f (omega (arith, t, least, ap length (leave (v ∷ e) n), no_latin_long v e n))
        go true n (no c) = group_whole v e f n (omega arith)
        go true n (yes c) =
            let i = pairs false b d r in
            let j = pairs false (best false d) d (reads_best false d good) in
            two v e f (omega (arith, t, i.1, j.1, ap length (group_first v e n), near_side e))

pub beginning : (b d : List ℕ) → reads false b ≡ said d → bad d ≡ nowhere → 5 ≤ length d → Beginning b d
beginning b d r g h = go (begins 4 d (omega arith) g)
  where
    go : Begins 4 d → Beginning b d
    go (without x u e l p) = four b d r g x u e l p
    go (opened x y e f l p k) = opens_so b d r g x y p k l e f (omega (arith, ap length f, length-append x (y ∷ e)))
