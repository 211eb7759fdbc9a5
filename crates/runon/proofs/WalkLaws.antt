-- 5 to 7 over a 103 whose 72 goes or comes: where its fields pass, they pass joined and run on. The walk sees tags alone, so this carries from fields
-- to records and back (P1, N5-N7). Assumes nothing.
use Prim.Native.Nat.{ℕ, suc, ◌≤◌, ◌<◌}
use mathlib.Core.Path.{◌≡◌, refl, sym, ap, subst, ◌∙◌}
use mathlib.Core.Bool.{Bool, true, false, ◌||◌, true≢false, false≢true}
use mathlib.Core.List.{List, [], ◌∷◌, ◌++◌}
use native.Mathlib.Omega.{arith}
use native.Mathlib.Decide.{dec_lt}
use lib.Dec.{eqb}
use lib.ListN.{length, take, drop}
use borrow.Author.Tests.{eqb-true, eqb-false}
use Rattle.base.specs.Choice.{pick}
use Rattle.base.specs.Bytes.{same, empty}
use Rattle.base.specs.Verdicts.{Fine}
use Rattle.base.proofs.RuleLaws.{fine_broken}
use Rattle.base.proofs.ByteLaws.{same_is}
use Rattle.fields.specs.Field.{Field, field, tag_of}
use Rattle.fields.specs.Places.{next_of}
use Rattle.types.specs.declared.Form.{Form}
use Rattle.types.specs.declared.Form.TheVariants.{Other, Mt103, Mt202}
use Rattle.types.specs.Form.{Place, places_103, places_of}
use Rattle.types.specs.Walk.{is_of, is_optional, find, skips, wrong, walk}
use Rattle.types.specs.Sentences.{place_at, Skipped, Seated}
use Rattle.types.specs.Sign.{first_line}
use Rattle.types.proofs.WalkLaws.{find_stands, skips_not, not_skips, wrong_0, wrong_seated, walk_on, walk_stop, walk_end}
use Rattle.records.specs.Record.{Record}
use Rattle.runon.specs.RunOn.{tag_70, tag_72, tag_77B, how_many, parts_of, second_part, text_in, run_of, halved, new_note, run_as, cut_by, run_on, join_as, join}
use Rattle.runon.specs.declared.Run.{Run}
use Rattle.runon.specs.declared.Run.TheVariants.{Stuck, Whole, Cut, Unfit}

-- ---- the walk as a list of seats
module _ (ps : List Place) where
  pub data Goes : ℕ → List Field → Type 0 where
    over : {next : ℕ} → (Skipped ps next (length ps) → ⊥) → Goes next []
    seat : {next : ℕ} {f : Field} {fs : List Field} → Seated ps next (find ps (tag_of f)) → Goes (suc (find ps (tag_of f))) fs → Goes next (f ∷ fs)

  pub walk_goes : (fs : List Field) (next o : ℕ) → walk ps next o fs ≡ Fine → Goes next fs
  walk_goes [] next o e = over (go (skips ps next (length ps)) refl)
    where
      go : (b : Bool) → skips ps next (length ps) ≡ b → Skipped ps next (length ps) → ⊥
      go true f = absurd (fine_broken 7 o (sym e ∙ walk_end ps next o true f))
      go false f = skips_not ps next (length ps) f
  walk_goes (f ∷ fs) next o e = go (eqb (wrong ps next (find ps (tag_of f))) 0) refl (walk_goes fs (suc (find ps (tag_of f))) (next_of o f))
    where
      go : (b : Bool) → eqb (wrong ps next (find ps (tag_of f))) 0 ≡ b → (walk ps (suc (find ps (tag_of f))) (next_of o f) fs ≡ Fine → Goes (suc (find ps (tag_of f))) fs) → Goes next (f ∷ fs)
      go true q ih = let z = eqb-true _ 0 q in seat (wrong_seated ps next (find ps (tag_of f)) z) (ih (sym (walk_on ps next o f fs z) ∙ e))
      go false q ih = absurd (fine_broken _ o (sym e ∙ walk_stop ps next o f fs (eqb-false _ 0 q)))

  pub goes_walk : {next : ℕ} {fs : List Field} → Goes next fs → (o : ℕ) → walk ps next o fs ≡ Fine
  goes_walk {next} (over n) o = walk_end ps next o false (not_skips ps next (length ps) n)
  goes_walk {next} (seat {f = f} {fs = fs} s g) o =
      walk_on ps next o f fs (wrong_0 ps next (find ps (tag_of f)) s.within s.low (not_skips ps next (find ps (tag_of f)) s.free)) ∙ goes_walk g (next_of o f)

  -- without a field of an optional place
  skip_over : {next q r : ℕ} → Seated ps next q → is_optional (place_at ps q) ≡ true → (Skipped ps (suc q) r → ⊥) → Skipped ps next r → ⊥
  skip_over {next} {q} {r} s o n k = go (dec_lt k.at q) (dec_lt q k.at)
    where
      go : Dec (k.at < q) → Dec (q < k.at) → ⊥
      go (yes a) d = s.free (record { at = k.at; low = k.low; high = a; mandatory = k.mandatory })
      go (no a) (yes b) = n (record { at = k.at; low = omega arith; high = k.high; mandatory = k.mandatory })
      go (no a) (no b) = let z : k.at ≡ q = omega arith in true≢false (sym o ∙ ap (λ (i : ℕ). is_optional (place_at ps i)) (sym z) ∙ k.mandatory)

  pub earlier : {next q : ℕ} {fs : List Field} → Seated ps next q → is_optional (place_at ps q) ≡ true → Goes (suc q) fs → Goes next fs
  earlier s o (over n) = over (skip_over s o n)
  earlier {next} {q} s o (seat {f = f} t g) = seat {next = next} {f = f} (record { within = t.within; low = omega (arith, s.low, t.low); free = skip_over s o t.free }) g

-- ---- 103: 72 is place 12 and 77B place 13, and none is mandatory behind 11
abbrev pub ps : List Place
ps = places_of Mt103

pub has_14 : length ps ≡ 14
unfolding places_103
has_14 = refl

find_72 : find ps tag_72 ≡ 12
unfolding places_103 find same
find_72 = refl

find_77B : find ps tag_77B ≡ 13
unfolding places_103 find same
find_77B = refl

may_72 : is_optional (place_at ps 12) ≡ true
unfolding places_103
may_72 = refl

may_77B : is_optional (place_at ps 13) ≡ true
unfolding places_103
may_77B = refl

or_false : (b : Bool) → (b || false) ≡ true → b ≡ true
or_false true e = refl
or_false false e = e

-- a place that one tag alone has
pub at_place : (t u : List ℕ) (q : ℕ) → q < length ps → is_of t (place_at ps q) ≡ (same t u || false) → find ps t ≡ q → same t u ≡ true
at_place t u q h i e = or_false (same t u) (sym i ∙ ap (λ (n : ℕ). is_of t (place_at ps n)) (sym e) ∙ (find_stands ps t (omega arith)).has)

at_12 : (t : List ℕ) → find ps t ≡ 12 → same t tag_72 ≡ true
unfolding places_103
at_12 t e = at_place t tag_72 12 (omega (arith, has_14)) refl e

at_13 : (t : List ℕ) → find ps t ≡ 13 → same t tag_77B ≡ true
unfolding places_103
at_13 t e = at_place t tag_77B 13 (omega (arith, has_14)) refl e

-- ---- 72 goes
goes_join : (two : List ℕ) {next : ℕ} (fs : List Record) → Goes ps next fs → Goes ps next (join_as two fs)
goes_join two [] g = g
goes_join two {next} (field t xs ∷ fs) (seat s g) = go (same t tag_70) (same t tag_72) (empty (first_line xs)) refl (goes_join two {next = suc (find ps t)} fs g)
  where
    go : (a b c : Bool) → same t tag_72 ≡ b → Goes ps (suc (find ps t)) (join_as two fs)
        → Goes ps next (pick a (field t (first_line xs ∷ (second_part xs ++ two) ∷ []) ∷ join_as two fs) (pick b (pick c (join_as two fs) (field t (first_line xs ∷ []) ∷ join_as two fs)) (field t xs ∷ join_as two fs)))
    go true b c e i = seat s i
    go false true true e i = let z : find ps t ≡ 12 = ap (find ps) (same_is t tag_72 e) ∙ find_72 in earlier ps s (ap (λ (q : ℕ). is_optional (place_at ps q)) z ∙ may_72) i
    go false true false e i = seat s i
    go false false c e i = seat s i

-- ---- 72 comes
seat_72 : {next q : ℕ} → next ≤ 12 → 12 < q → (Skipped ps next q → ⊥) → Seated ps next 12
seat_72 h k n = record { within = omega (arith, has_14); low = h; free = λ w. n (record { at = w.at; low = w.low; high = omega (arith, w.high); mandatory = w.mandatory }) }

none_behind : Skipped ps 13 (length ps) → ⊥
none_behind w = let z : w.at ≡ 13 = omega (arith, w.low, w.high, has_14) in true≢false (sym may_77B ∙ ap (λ (i : ℕ). is_optional (place_at ps i)) (sym z) ∙ w.mandatory)

new_seat : (two : List ℕ) {next : ℕ} {fs : List Record} → Seated ps next 12 → Goes ps 13 fs → Goes ps next (new_note two ∷ fs)
new_seat two {next} {fs} s g = seat (subst (λ (q : ℕ). Seated ps next q) (sym find_72) s) (subst (λ (q : ℕ). Goes ps (suc q) fs) (sym find_72) g)

module _ (one two : List ℕ) where
  -- a record keeps its tag
  goes_halved : {next : ℕ} (t : List ℕ) (xs : List (List ℕ)) {fs : List Record} → Seated ps next (find ps t) → Goes ps (suc (find ps t)) fs → Goes ps next (halved one two (field t xs) ∷ fs)
  goes_halved {next} t xs {fs} s g = go (same t tag_70) (same t tag_72)
    where
      go : (a b : Bool) → Goes ps next (pick a (field t (first_line xs ∷ one ∷ [])) (pick b (field t (first_line xs ∷ two ∷ [])) (field t xs)) ∷ fs)
      go true b = seat s g
      go false true = seat s g
      go false false = seat s g

  goes_old : {next : ℕ} (fs : List Record) → Goes ps next fs → Goes ps next (run_as false one two fs)
  goes_old [] g = g
  goes_old {next = next} (field t xs ∷ fs) (seat s g) = goes_halved t xs s (goes_old {next = suc (find ps t)} fs g)

  goes_new : {next : ℕ} (fs : List Record) → Goes ps next fs → how_many tag_72 fs ≡ 0 → next ≤ 12 → Goes ps next (run_as true one two fs)
  goes_new [] (over n) e h = new_seat two (seat_72 h (omega (arith, has_14)) n) (over none_behind)
  goes_new {next} (field t xs ∷ fs) (seat s g) e h = go (same t tag_77B) (same t tag_72) refl refl e (goes_old fs g) (goes_new {next = suc (find ps t)} fs g)
    where
      go : (a b : Bool) → same t tag_77B ≡ a → same t tag_72 ≡ b → pick b (suc (how_many tag_72 fs)) (how_many tag_72 fs) ≡ 0 → Goes ps (suc (find ps t)) (run_as false one two fs)
          → (how_many tag_72 fs ≡ 0 → suc (find ps t) ≤ 12 → Goes ps (suc (find ps t)) (run_as true one two fs))
          → Goes ps next (pick a (new_note two ∷ field t xs ∷ run_as false one two fs) (halved one two (field t xs) ∷ run_as true one two fs))
      go a true p q e i ih = absurd (omega arith)
      go true false p q e i ih =
          let z : find ps t ≡ 13 = ap (find ps) (same_is t tag_77B p) ∙ find_77B in
          new_seat two (seat_72 h (omega arith) s.free) (seat {next = 13} {f = field t xs} (record { within = s.within; low = omega arith; free = λ w. omega (arith, w.low, w.high) }) i)
      go false false p q e i ih = goes_halved t xs s (ih e (below (dec_lt (find ps t) 12)))
        where
          below : Dec (find ps t < 12) → suc (find ps t) ≤ 12
          below (yes l) = omega arith
          below (no l) = by (dec_lt (find ps t) 13)
            where
              by : Dec (find ps t < 13) → suc (find ps t) ≤ 12
              by (yes m) = let z : find ps t ≡ 12 = omega arith in absurd (false≢true (sym q ∙ at_12 t z))
              by (no m) = let z : find ps t ≡ 13 = omega (arith, s.within, has_14) in absurd (false≢true (sym p ∙ at_13 t z))

-- ---- the laws
goes_cut : (r : Run) (rs : List Record) → Goes ps 0 rs → Goes ps 0 (cut_by r rs)
goes_cut (Cut k) rs g = go (eqb (how_many tag_72 rs) 0) refl
  where
    go : (b : Bool) → eqb (how_many tag_72 rs) 0 ≡ b → Goes ps 0 (run_as b (take k (text_in rs)) (drop k (text_in rs)) rs)
    go true e = goes_new (take k (text_in rs)) (drop k (text_in rs)) rs g (eqb-true (how_many tag_72 rs) 0 e) (omega arith)
    go false e = goes_old (take k (text_in rs)) (drop k (text_in rs)) rs g
goes_cut (Stuck k) rs g = g
goes_cut Whole rs g = g
goes_cut Unfit rs g = g

-- fields that pass 5 to 7 pass run on, and joined; where they stand does not matter
pub walk_run : (form : Form) (s : Bool) (o p : ℕ) (rs : List Record) → walk (places_of form) 0 o rs ≡ Fine → walk (places_of form) 0 p (run_on form s rs) ≡ Fine
unfolding run_on
walk_run Mt103 s o p rs e = goes_walk ps (goes_cut (run_of s rs) rs (walk_goes ps rs 0 o e)) p
walk_run Mt202 s o p rs e = goes_walk (places_of Mt202) (walk_goes (places_of Mt202) rs 0 o e) p
walk_run Other s o p rs e = goes_walk [] (walk_goes [] rs 0 o e) p

pub walk_join : (form : Form) (o p : ℕ) (rs : List Record) → walk (places_of form) 0 o rs ≡ Fine → walk (places_of form) 0 p (join form rs) ≡ Fine
unfolding join
walk_join Mt103 o p rs e = goes_walk ps (goes_join (second_part (parts_of tag_72 rs)) rs (walk_goes ps rs 0 o e)) p
walk_join Mt202 o p rs e = goes_walk (places_of Mt202) (walk_goes (places_of Mt202) rs 0 o e) p
walk_join Other o p rs e = goes_walk [] (walk_goes [] rs 0 o e) p
