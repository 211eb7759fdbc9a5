-- The places as they are kept, and what is looked for among them. Assumes nothing.
use Prim.Native.Nat.{ℕ, suc, ◌+◌, ◌-◌, ◌≤◌, ◌<◌}
use mathlib.Core.Path.{◌≡◌, refl, sym, ap, ap₂, ◌∙◌}
use mathlib.Core.Bool.{Bool, true, false, not, ◌&&◌, ◌||◌, or-false, true≢false}
use mathlib.Core.List.{List, [], ◌∷◌, map}
use mathlib.Core.Logic.{⊎_elim}
use native.Mathlib.Omega.{arith}
use lib.Dec.{eqb, ltb}
use lib.ListN.{length, take, drop, get_or, length-drop}
use lib.Seq.{get_or-drop, take-length}
use borrow.Author.Tests.{eq-eqb, ne_eqb, eqb-true, eqb-false, ltb-false}
use Rattle.std.specs.Prelude.{Option, Some, None, unwrap_or, cond, position, IfSome, IfNone}
use Rattle.std.specs.List.{list_any, position_or_len, slice_range}
use Rattle.std.proofs.lemmas.List.{take-map, drop-map, drop-take, length-map, get_or-map}
use Rattle.std.proofs.lemmas.List.Sums.{prefix_len-le-length, fails_before_first}
use Rattle.std.proofs.lemmas.List.Quantifiers.{position-Some}
use Rattle.std.proofs.lemmas.Bool.{cases_lt}
use Rattle.std.proofs.lemmas.Option.{none-some}
use Rattle.base.specs.Choice.{pick, all}
use Rattle.base.specs.Bytes.{same}
use Rattle.fields.specs.Shapes.{unpack}
use Rattle.fields.proofs.PackLaws.{same_unpack}
use Rattle.types.specs.declared.forms.Place.{Place as Kept}
use Rattle.types.specs.Form.{Place, optional}
use Rattle.types.specs.Walk.{among, is_of, is_optional, find, skips, wrong}
use Rattle.types.specs.Sentences.{place_at}
use Rattle.types.specs.Tables.{place, fault, Sought, NoneSought}
use Rattle.types.proofs.WalkLaws.{wrong_5, wrong_6, wrong_7, wrong_0}

-- ---- a tag among those of a place: its number is met where it is
met : (tag x : ℕ) → same (unpack tag) (unpack x) ≡ eqb x tag
met tag x = same_unpack tag x ∙ go (eqb x tag) refl
  where
    go : (b : Bool) → eqb x tag ≡ b → eqb tag x ≡ b
    go true e = eq-eqb tag x (sym (eqb-true x tag e))
    go false e = ne_eqb tag x (λ q. eqb-false x tag e (sym q))

pub among_one : (tag x : ℕ) → eqb x tag ≡ among (unpack tag) (unpack x ∷ [])
among_one tag x = sym (or-false (same (unpack tag) (unpack x)) ∙ met tag x)

pub among_either : (tag x y : ℕ) → (eqb x tag || eqb y tag) ≡ among (unpack tag) (unpack x ∷ unpack y ∷ [])
among_either tag x y = sym (ap₂ ◌||◌ (met tag x) (or-false (same (unpack tag) (unpack y)) ∙ met tag y))

-- ---- the first place with a tag
first_at : (ks : List Kept) (t : List ℕ) → position_or_len (λ p. is_of t (place p)) ks ≡ find (map place ks) t
unfolding find
first_at [] t = refl
first_at (k ∷ ks) t = go (is_of t (place k)) (first_at ks t)
  where
    go : (b : Bool) → position_or_len (λ p. is_of t (place p)) ks ≡ find (map place ks) t → cond (not b) (1 + position_or_len (λ p. is_of t (place p)) ks) 0 ≡ pick b 0 (suc (find (map place ks) t))
    go true e = refl
    go false e = omega arith

pub first_or_none : (ks : List Kept) (t : List ℕ) {r : Option ℕ} → r ≡ position (λ p. is_of t (place p)) ks → unwrap_or r (length ks) ≡ find (map place ks) t
first_or_none ks t e =
    ap (λ o. unwrap_or o (length ks)) e ∙ go (position_or_len (λ p. is_of t (place p)) ks) (prefix_len-le-length (λ p. not (is_of t (place p))) ks) ∙ first_at ks t
  where
    by : (n : ℕ) (b : Bool) → ltb n (length ks) ≡ b → n ≤ length ks → unwrap_or (cond b (Some n) None) (length ks) ≡ n
    by n true q h = refl
    by n false q h = let z = ltb-false n (length ks) q in omega arith

    go : (n : ℕ) → n ≤ length ks → unwrap_or (cond (ltb n (length ks)) (Some n) None) (length ks) ≡ n
    go n h = by n (ltb n (length ks)) refl h

-- ---- a mandatory place in a part
any_mandatory : (ks : List Kept) → list_any (λ p. not (is_optional (place p))) ks ≡ not (all is_optional (map place ks))
any_mandatory [] = refl
any_mandatory (k ∷ ks) = go (is_optional (place k)) (any_mandatory ks)
  where
    go : (b : Bool) → list_any (λ p. not (is_optional (place p))) ks ≡ not (all is_optional (map place ks))
        → (not b || list_any (λ p. not (is_optional (place p))) ks) ≡ not (b && all is_optional (map place ks))
    go true e = e
    go false e = refl

pub skips_part : (ks : List Kept) (from to : ℕ) → from ≤ to → list_any (λ p. not (is_optional (place p))) (slice_range ks from to) ≡ skips (map place ks) from to
skips_part ks from to h =
    let z : from + (to - from) ≡ to = omega arith in
    any_mandatory (slice_range ks from to) ∙ ap (λ (l : List Place). not (all is_optional l))
    (ap (map place) (sym (drop-take from (to - from) ks) ∙ ap (λ (n : ℕ). drop from (take n ks)) z) ∙ sym (drop-map place from (take to ks)) ∙ ap (drop from) (sym (take-map place to ks)))

-- ---- what is wrong
module _ (ks : List Kept) (next at : ℕ) where
  size : length (map place ks) ≡ length ks
  size = length-map ks place

  pub fault_5 : length ks ≤ at → Some 5 ≡ fault (wrong (map place ks) next at)
  fault_5 h = sym (ap fault (wrong_5 (map place ks) next at (omega (arith, size))))

  pub fault_6 : at < length ks → at < next → Some 6 ≡ fault (wrong (map place ks) next at)
  fault_6 h l = sym (ap fault (wrong_6 (map place ks) next at (omega (arith, size)) l))

  pub fault_7 : at < length ks → next ≤ at → list_any (λ p. not (is_optional (place p))) (slice_range ks next at) ≡ true → Some 7 ≡ fault (wrong (map place ks) next at)
  fault_7 h l e = sym (ap fault (wrong_7 (map place ks) next at (omega (arith, size)) l (sym (skips_part ks next at l) ∙ e)))

  pub fault_none : at < length ks → next ≤ at → list_any (λ p. not (is_optional (place p))) (slice_range ks next at) ≡ false → None ≡ fault (wrong (map place ks) next at)
  fault_none h l e = sym (ap fault (wrong_0 (map place ks) next at (omega (arith, size)) l (sym (skips_part ks next at l) ∙ e)))

-- ---- the quick look, from next on
-- where it stops
abbrev stops : List ℕ → Kept → Bool
stops t k = is_of t (place k) || not (is_optional (place k))

module _ (ks : List Kept) (next : ℕ) (t : List ℕ) (h : next ≤ length ks) where
  rest_is : slice_range ks next (length ks) ≡ drop next ks
  rest_is = ap (λ (n : ℕ). take n (drop next ks)) (sym (length-drop next ks)) ∙ take-length (drop next ks)

  rest_size : next + length (slice_range ks next (length ks)) ≡ length ks
  rest_size = let n = ap length rest_is ∙ length-drop next ks in omega (arith, n)

  kept_at : (i : ℕ) (d : Kept) → next + i < length ks → place_at (map place ks) (next + i) ≡ place (get_or (slice_range ks next (length ks)) i d)
  kept_at i d l =
      get_or-map place ks (next + i) d (optional []) l ∙ ap place (sym (get_or-drop next ks i d)) ∙ ap (λ (l : List Kept). place (get_or l i d)) (sym rest_is)

  -- the places that are passed have not the tag and may be left out
  passed : (q : ℕ) (d : Kept) → ((k : ℕ) → k < q → stops t (get_or (slice_range ks next (length ks)) k d) ≡ false) → next + q ≤ length ks → (i : ℕ) → next ≤ i → i < next + q
      → (is_of t (place_at (map place ks) i) ≡ false) × (is_optional (place_at (map place ks) i) ≡ true)
  passed q d f m i l u =
      let k : ℕ = i - next in
      let z : i ≡ next + k = omega (arith, l) in
      let g = ap (place_at (map place ks)) z ∙ kept_at k d (omega (arith, l, u, m)) in
      let o = both _ _ (f k (omega (arith, l, u))) in
      (ap (is_of t) g ∙ o.0, ap is_optional g ∙ o.1)
    where
      both : (a b : Bool) → (a || not b) ≡ false → (a ≡ false) × (b ≡ true)
      both false true z = (refl, refl)
      both false false z = absurd (true≢false z)
      both true b z = absurd (true≢false z)

  pub sits : (q : ℕ) (d : Kept) → position (stops t) (slice_range ks next (length ks)) ≡ Some q → is_of t (place (get_or (slice_range ks next (length ks)) q d)) ≡ true
      → Sought (map place ks) next t (next + q)
  sits q d e w =
      let p = position-Some (stops t) (slice_range ks next (length ks)) q d e in
      let within : next + q < length ks = omega (arith, p.0, rest_size) in
      let f = passed q d p.2 (omega (arith, within)) in
      record {
        seated = record { within = omega (arith, within, length-map ks place); low = omega arith; free = λ s. true≢false (sym (f s.at s.low s.high).1 ∙ s.mandatory) };
        has = ap (is_of t) (kept_at q d within) ∙ w;
        first = λ i l u. (f i l u).0;
      }

  -- nothing is met up to the end
  pub sits_nowhere : (d : Kept) → position (stops t) (slice_range ks next (length ks)) ≡ None → NoneSought (map place ks) next t
  sits_nowhere d e r s =
      let f = passed (length (slice_range ks next (length ks))) d (λ k m. fails_before_first (stops t) (slice_range ks next (length ks)) k d (past k m)) (omega (arith, rest_size)) in
      (f r s.low (omega (arith, s.within, rest_size, length-map ks place))).0
    where
      past : (k : ℕ) → k < length (slice_range ks next (length ks)) → k < position_or_len (stops t) (slice_range ks next (length ks))
      past k m = go (ltb (position_or_len (stops t) (slice_range ks next (length ks))) (length (slice_range ks next (length ks)))) refl e
        where
          go : (b : Bool) → ltb (position_or_len (stops t) (slice_range ks next (length ks))) (length (slice_range ks next (length ks))) ≡ b
              → cond b (Some (position_or_len (stops t) (slice_range ks next (length ks)))) None ≡ None → k < position_or_len (stops t) (slice_range ks next (length ks))
          go true y z = absurd (none-some _ (sym z))
          go false y z = let x = ltb-false _ _ y in omega (arith, x, m)

  -- a place is met that has not the tag: it is mandatory, and none behind it is to be had
  pub sits_behind : (q : ℕ) (d : Kept) → position (stops t) (slice_range ks next (length ks)) ≡ Some q → is_of t (place (get_or (slice_range ks next (length ks)) q d)) ≡ false
      → NoneSought (map place ks) next t
  sits_behind q d e w r s =
      let p = position-Some (stops t) (slice_range ks next (length ks)) q d e in
      let within : next + q < length ks = omega (arith, p.0, rest_size) in
      let g = kept_at q d within in
      ⊎_elim
      (λ before. (passed q d p.2 (omega (arith, within)) r s.low before).0)
      (λ on. ⊎_elim
      (λ behind. absurd (s.free (record { at = next + q; low = omega arith; high = behind; mandatory = ap is_optional g ∙ must _ _ w p.1 })))
      (λ there. let z : r ≡ next + q = omega (arith, on, there) in ap (λ (j : ℕ). is_of t (place_at (map place ks) j)) z ∙ ap (is_of t) g ∙ w)
      (cases_lt (next + q) r))
      (cases_lt r (next + q))
    where
      must : (a b : Bool) → a ≡ false → (a || not b) ≡ true → b ≡ false
      must false true y z = absurd (true≢false (sym z))
      must false false y z = refl
      must true b y z = absurd (true≢false y)

-- ---- any two answers of the quick look are equal
pub sought_one : (ps : List Place) (next : ℕ) (t : List ℕ) (q r : ℕ) → Sought ps next t q → Sought ps next t r → q ≡ r
sought_one ps next t q r a b =
    ⊎_elim
    (λ l. absurd (true≢false (sym a.has ∙ b.first q a.seated.low l)))
    (λ l. ⊎_elim
    (λ u. absurd (true≢false (sym b.has ∙ a.first r b.seated.low u)))
    (λ u. omega (arith, l, u))
    (cases_lt r q))
    (cases_lt q r)

pub seek_one : (ps : List Place) (next : ℕ) (t : List ℕ) (a b : Option ℕ) → IfSome a (Sought ps next t) → IfNone a (NoneSought ps next t) → IfSome b (Sought ps next t)
    → IfNone b (NoneSought ps next t) → a ≡ b
seek_one ps next t None None s n u m = refl
seek_one ps next t None (Some r) s n u m = absurd (true≢false (sym u.has ∙ n r u.seated))
seek_one ps next t (Some q) None s n u m = absurd (true≢false (sym s.has ∙ m q s.seated))
seek_one ps next t (Some q) (Some r) s n u m = ap (λ (k : ℕ). Some k) (sought_one ps next t q r s u)
