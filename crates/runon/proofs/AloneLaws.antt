-- Details that ran on into a 72 without an RPP line are never 16 when they are written again: where the text of 70 doesn't fit it any more, some
-- beginning of it does, and the rest goes into 72 with no byte more in all (K7). Assumes nothing.
use Prim.Native.Nat.{ℕ, ◌+◌, ◌≤◌, ◌<◌}
use mathlib.Core.Path.{◌≡◌, refl, sym, ap, subst, ◌∙◌}
use mathlib.Core.Bool.{Bool, true, false, not, ◌||◌, false≢true}
use mathlib.Core.List.{List, [], ◌∷◌, ◌++◌, append_assoc}
use native.Mathlib.Omega.{arith}
use native.Mathlib.Decide.{dec_lt}
use lib.Dec.{eqb}
use lib.ListN.{length, replicate, length-append}
use borrow.Author.Tests.{eqb-true}
use Rattle.base.specs.Bytes.{letter, shared, digit, capital, marks, is_in}
use Rattle.base.specs.Quoted.{ascii}
use Rattle.base.specs.Calls.{said}
use Rattle.alphabets.specs.Grid.{latin, common, grid, kind}
use Rattle.alphabets.specs.Best.{best, writing}
use Rattle.alphabets.proofs.Theorems.{written, reads_back, no_shorter, shortest_iff}
use Rattle.alphabets.proofs.SizeLaws.{twice_at_most}
use Rattle.alphabets.proofs.SaidLaws.{no_longer}
use Rattle.alphabets.proofs.HalfLaws.{says_both, Both, both_written}
use Rattle.alphabets.proofs.GroupLaws.{Opened, Beginning, few_bytes, whole_group, beginning}
use Rattle.details.specs.declared.DetailsField.{DetailsField}
use Rattle.details.specs.declared.DetailsField.TheVariants.{In70, In72, BehindRpp}
use Rattle.details.specs.Breaking.{opens, last, breaks, broken}
use Rattle.details.specs.Layouts.{layout, DivisionIn, size_for, sum}
use Rattle.details.proofs.TrimLaws.{trimmed}
use Rattle.runon.specs.Cut.{Fits, Lawful}
use Rattle.runon.specs.Run.{bank_of, run_for}
use Rattle.runon.specs.Heard.{Heard}
use Rattle.runon.specs.declared.Run.TheVariants.{Unfit}
use Rattle.runon.proofs.FitLaws.{fits_written, fits_bank}
use Rattle.runon.proofs.AgainLaws.{again_written, Free, free_72, free_fits, Again, crowded, again}
use Rattle.runon.proofs.NeverLaws.{one_line, divided_72}

-- ---- what the lines of 72 hold
abbrev room_72 : ℕ
room_72 = sum (layout In72).widths

abbrev full_72 : List ℕ
full_72 = replicate room_72 (ascii "A")

in_room_72 : (ls : List (List ℕ)) × DivisionIn (layout In72) 0 full_72 ls
unfolding size_for broken breaks last opens is_in
in_room_72 = divided_72 In72 full_72 refl

-- ---- a Latin letter may open a line, and so may an apostrophe
latin_not : common ≡ latin → ⊥
latin_not e = let z : ◌≡◌ {A = ℕ} 0 1 = cc in omega arith

latin_opens : (y : ℕ) → kind y ≡ latin → opens (layout In70).barred y ≡ true
unfolding opens is_in kind grid letter shared digit capital marks
latin_opens y e = go (eqb y (ascii ":")) (eqb y (ascii "-")) refl refl
  where
    go : (p q : Bool) → eqb y (ascii ":") ≡ p → eqb y (ascii "-") ≡ q → not (p || (q || false)) ≡ true
    go true q f g = absurd (latin_not (sym (ap kind (eqb-true y (ascii ":") f)) ∙ e))
    go false true f g = absurd (latin_not (sym (ap kind (eqb-true y (ascii "-") g)) ∙ e))
    go false false f g = refl

mark_opens : opens (layout In70).barred (ascii "'") ≡ true
unfolding opens is_in
mark_opens = refl

-- ---- what is written for no text is none
some_text : (a : List ℕ) → 0 < length (best false a) → 0 < length a
unfolding best
some_text [] h = h
some_text (x ∷ a) h = omega arith

-- ---- with the sign
module _ (front bank more one two : List ℕ) (h : Heard true front In72 bank more one two) (long : 11 ≤ length front) (near : length front ≤ 27) where
  -- the first text, written again
  first : writing true one ≡ said (bank_of true one)
  first = again_written true bank one h.first.says

  -- a beginning of it, and what is left
  module _ (a r : List ℕ) (e : a ++ r ≡ one) where
    halves : Both true a r (bank_of true one)
    halves = both_written true a r (bank_of true one) (ap (writing true) e ∙ first)

    one_is : halves.one ≡ best false a
    one_is = (written a halves.one halves.writes_one).is

    two_is : halves.two ≡ best false r
    two_is = (written r halves.two halves.writes_two).is

    -- where it fits 70 and costs nothing, it is the first half of a lawful cut
    beginning_lawful : Fits true In70 front a → 4 ≤ length (best false a) → length (best false a) + length (best false r) ≤ length bank → Lawful true front In72 (one ++ two) a (r ++ two)
    beginning_lawful f some fair =
        let b = says_both true halves.two more r two (reads_back true r halves.two halves.writes_two) h.says in
        let w = again_written true (halves.two ++ more) (r ++ two) b in
        let n = no_shorter true (r ++ two) (bank_of true (r ++ two)) (halves.two ++ more) w b in
        let m = no_longer true (r ++ two) (bank_of true (r ++ two)) w in
        let i : length (halves.two ++ more) ≡ length (best false r) + length more = length-append halves.two more ∙ ap (λ (k : ℕ). k + length more) (ap length two_is) in
        let j : length (r ++ two) ≡ length r + length two = length-append r two in
        let k : length f.spelt ≡ length (best false a) = ap length (written a f.spelt (fits_written true In70 front a f)).is in
        let g = free_fits true In72 free_72 full_72 (r ++ two) (bank_of true (r ++ two)) w (omega (arith, h.some)) (omega (arith, h.within)) in_room_72.1 in
        let l : length g.spelt ≡ length (bank_of true (r ++ two)) = ap length (sym (fits_bank true In72 [] (r ++ two) g)) in
        record {
          cut = record { whole = sym (append_assoc a r two) ∙ ap (λ (u : List ℕ). u ++ two) e; some_one = some_text a (omega arith); some_two = omega (arith, h.some) };
          in_70 = f;
          in_72 = g;
          within = omega (arith, h.within);
        }

    -- a beginning of a few bytes fits on one line; one up to the end of the first Latin group in the lines that held it
    short_fits : 4 ≤ length (best false a) → length (best false a) ≤ 7 → Fits true In70 front a
    short_fits some few = let n = ap length one_is in one_line true front a halves.one halves.writes_one (omega arith) (omega arith)

    opened_fits : Opened bank a → Fits true In70 front a
    opened_fits o = go o.rest o.is o.some_rest
      where
        go : (z : List ℕ) → bank ≡ o.lead ++ (o.letter ∷ (o.more ++ z)) → 0 < length z → Fits true In70 front a
        go [] i s = absurd (omega arith)
        go (k ∷ z) i s =
            let f : front ++ bank ≡ (front ++ o.lead) ++ (o.letter ∷ (o.more ++ (k ∷ z))) = ap (λ (u : List ℕ). front ++ u) i ∙ sym (append_assoc front o.lead (o.letter ∷ (o.more ++ (k ∷ z)))) in
            let d : DivisionIn (layout In70) (length front) ((front ++ o.lead) ++ (o.letter ∷ (o.more ++ (k ∷ z)))) h.first.rows = subst (λ (u : List ℕ). DivisionIn (layout In70) (length front) u h.first.rows) f h.first.in_70 in
            let m : length (front ++ o.anew) ≡ length front + length o.anew = length-append front o.anew in
            let t = trimmed (opens (layout In70).barred) (length front) 35 3 (front ++ o.lead) (front ++ o.anew) o.letter o.more k (ascii "'") z (latin_opens o.letter o.latin_letter) mark_opens
            (omega (arith, length-append front o.lead, o.as_many)) (omega arith) (omega (arith, o.some)) (omega (arith, o.few)) d in
            let g : (front ++ o.anew) ++ (o.letter ∷ (o.more ++ (ascii "'" ∷ []))) ≡ front ++ halves.one =
            append_assoc front o.anew (o.letter ∷ (o.more ++ (ascii "'" ∷ []))) ∙ ap (λ (u : List ℕ). front ++ u) (sym (one_is ∙ o.spells)) in
            record {
              spelt = halves.one;
              shortest = (shortest_iff true a halves.one).0 halves.writes_one;
              rows = t.0;
              division = subst (λ (u : List ℕ). DivisionIn (layout In70) (length front) u t.0) g t.1;
            }

    opened_long : (o : Opened bank a) → 4 ≤ length (best false a)
    opened_long o =
        omega (arith, o.some, o.some_more, ap length o.spells, length-append o.anew (o.letter ∷ (o.more ++ (ascii "'" ∷ []))), length-append o.more (ascii "'" ∷ []))

  -- so some cut is lawful
  some_lawful : 5 ≤ length one → ((a b : List ℕ) → Lawful true front In72 (one ++ two) a b → ⊥) → ⊥
  some_lawful five n = go (beginning bank one h.first.says (written one (bank_of true one) first).whole five)
    where
      go : Beginning bank one → ⊥
      go (few_bytes a r e some few fair) = n a (r ++ two) (beginning_lawful a r e (short_fits a r e some few) some fair)
      go (whole_group a r e o fair) = n a (r ++ two) (beginning_lawful a r e (opened_fits a r e o) (opened_long a r e o) fair)

  -- a text of four characters at most fits on one line
  never_signed : Again true front In72 free_72 bank more one two h Unfit → ⊥
  never_signed (crowded s n m l) = go (dec_lt 4 (length one))
    where
      go : Dec (4 < length one) → ⊥
      go (yes y) = some_lawful y l
      go (no y) =
          n (one_line true front one (bank_of true one) first (omega (arith, no_longer true one (bank_of true one) first, h.first.some)) (omega (arith, twice_at_most 2 true one (bank_of true one) first (omega arith))))

-- ---- so 16 needs the sign, and a text in 72 behind an RPP line
module _ (s : Bool) (front : List ℕ) (note : DetailsField) (free : Free note) (bank more one two : List ℕ) (h : Heard s front note bank more one two) (e : run_for s front note (one ++ two) ≡ Unfit) where
  crowds : Again s front note free bank more one two h Unfit
  crowds = subst (Again s front note free bank more one two h) e (again s front note free bank more one two h)

  needs_sign : s ≡ true
  needs_sign = go crowds
    where
      go : Again s front note free bank more one two h Unfit → s ≡ true
      go (crowded q n m l) = q

pub never_alone : (s : Bool) (front bank more one two : List ℕ) → (s ≡ true → 11 ≤ length front) → length front ≤ 27 → Heard s front In72 bank more one two
    → run_for s front In72 (one ++ two) ≡ Unfit → ⊥
never_alone true front bank more one two f g h e = never_signed front bank more one two h (f refl) g (crowds true front In72 free_72 bank more one two h e)
never_alone false front bank more one two f g h e = false≢true (needs_sign false front In72 free_72 bank more one two h e)

pub only_behind : (s : Bool) (front : List ℕ) (note : DetailsField) → Free note → (bank more one two : List ℕ) → (s ≡ true → 11 ≤ length front) → length front ≤ 27
    → Heard s front note bank more one two → run_for s front note (one ++ two) ≡ Unfit → (s ≡ true) × (note ≡ BehindRpp)
only_behind s front In70 free bank more one two f g h e = absurd (omega (arith, ap length free))
only_behind s front In72 free bank more one two f g h e = absurd (never_alone s front bank more one two f g h e)
only_behind s front BehindRpp free bank more one two f g h e = (needs_sign s front BehindRpp free bank more one two h e, refl)
