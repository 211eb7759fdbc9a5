-- The line that a content begins with: its dates, its BIK and its account by the content's bytes (Cparty, Crpp, N9, N12). Assumes nothing.
use Prim.Native.Nat.{ℕ, ◌+◌, ◌-◌, ◌≤◌, ◌<◌}
use mathlib.Core.Path.{◌≡◌, refl, sym, ap, ap₂, ◌∙◌}
use mathlib.Core.Bool.{Bool, true, false, not}
use mathlib.Core.List.{List, [], ◌∷◌}
use mathlib.Core.Logic.{inl, inr}
use native.Mathlib.Omega.{arith}
use lib.Dec.{eqb}
use lib.ListN.{length, take, drop, length-append, length-take, length-drop}
use lib.Seq.{drop-drop, take-take}
use borrow.Author.Tests.{eqb-true, eqb-false}
use Rattle.base.specs.Choice.{pick}
use Rattle.base.specs.Bytes.{count_up_to, empty, same}
use Rattle.base.specs.Quoted.{bytes}
use Rattle.base.specs.Says.{Not}
use Rattle.base.proofs.ByteLaws.{is_empty, is_filled, drop_take}
use Rattle.fields.specs.Lines.{lines_in}
use Rattle.contents.specs.declared.lines.Party.TheVariants as party
use Rattle.contents.specs.declared.lines.Rpp.{Rpp}
use Rattle.std.specs.Prelude.{Option, None, Some}
use Rattle.contents.specs.Words.{Text, Line, join, with_mark, Digits, Perhaps}
use Rattle.contents.specs.Lines.{RppLine}
use Rattle.contents.specs.Fields.{Then, Any}
use Rattle.contents.specs.Answers.{cut, Stand, BikWith, RppWith, RppIs, IsA}
use Rattle.contents.proofs.FieldLaws.{within_0, taken_0, front_0}
use Rattle.contents.proofs.Laws.{mark_some}
use Rattle.contents.proofs.LineTests.{way_size}
use Rattle.values.specs.Day.{real_day}
use Rattle.values.specs.Values as kinds
use Rattle.values.specs.Values.{date, at, date_if_any, rpp_dates, both_parts, parties, of_first}
use Rattle.values.specs.Judged.{no_day, last_three, bik_differs}
use Rattle.values.specs.Answers.{fault_of}
use Rattle.values.proofs.GrammarLaws.{rpp_values, bik_values, account_values}

-- ---- either way round
pub swap : {A : Type 0} (b : Bool) (x y : A) → pick b x y ≡ pick (not b) y x
swap true x y = refl
swap false x y = refl

-- ---- the first line of a content stands at its front
module _ (c : Text) (l : Line) (ms : List Line) (q : lines_in c ≡ l ∷ ms) where
  first_is : l ≡ take (0 + count_up_to 13 c) c
  first_is =
      let f = front_0 c (0 + count_up_to 13 c) refl in
      let e : l ∷ ms ≡ take (0 + count_up_to 13 c) c ∷ f.0 = sym q ∙ f.1 in
      cc

  first_long : length l ≤ length c
  first_long = omega (arith, ap length first_is, taken_0 c (0 + count_up_to 13 c) refl, within_0 c (0 + count_up_to 13 c) refl)

  first_cut : (i n : ℕ) → i + n ≤ length l → cut i n l ≡ cut i n c
  first_cut i n h =
      let e : ℕ = 0 + count_up_to 13 c in
      let z : length l ≡ e = ap length first_is ∙ sym (taken_0 c e refl) in
      ap (cut i n) first_is ∙ ap (take n) (drop_take i e c) ∙ take-take n (e - i) (drop i c) (omega arith)

-- bytes that stand there are within
stand_within : (i n : ℕ) (s : Text) → Stand i n s → Not (n ≡ 0) → i + n ≤ length s
stand_within i n s e z = omega (arith, length-take n (drop i s), length-drop i s)

last_cut_lem : (i n : ℕ) (s : Text) → Stand i n s → 3 ≤ n → last_three (cut i n s) ≡ cut (i + (n - 3)) 3 s
last_cut_lem i n s e h =
    let z : n - (n - 3) ≡ 3 = omega arith in
    ap (λ (k : ℕ). drop (k - 3) (cut i n s)) e ∙ drop_take (n - 3) n (drop i s) ∙ ap₂ take z (drop-drop (n - 3) i s)

both_some : (b a : Text) → 0 < length a → both_parts b a ≡ at 0 (kinds.party b a) ∷ []
both_some b [] h = absurd (omega arith)
both_some b (x ∷ a) h = refl

-- a part that is perhaps there, and is: its size
perhaps_size : (n : ℕ) (s : Text) → Perhaps (Digits n) s → Not (length s ≡ 0) → length s ≡ n
perhaps_size n s (inl e) z = absurd (z (ap length e))
perhaps_size n s (inr d) z = d.size

-- ---- Cparty, N12: by the bytes of the content
abbrev party_fault : List Line → Option ℕ
party_fault ls = fault_of bik_differs (of_first parties ls)

pub party_account_lem : (ls : List Line) → Then (IsA party.Account) Any ls → party_fault ls ≡ None
unfolding fault_of
party_account_lem [] w = absurd w
party_account_lem (l ∷ ls) w = ap (fault_of bik_differs) (account_values w.0)

pub party_bik_lem : (n : ℕ) (ls : List Line) → Then (BikWith n) Any ls → n ≡ 0 → party_fault ls ≡ None
unfolding fault_of
party_bik_lem n [] w e = absurd w
party_bik_lem n (l ∷ ls) w e = ap (fault_of bik_differs) (bik_values w.0.0 ∙ ap (λ (k : ℕ). both_parts (cut 4 9 l) (cut 14 k l)) e)

module _ (c : Text) where
  both_by : (n : ℕ) (ls : List Line) → lines_in c ≡ ls → Then (BikWith n) Any ls → Not (n ≡ 0)
      → (34 ≤ length c) × (party_fault ls ≡ pick (same (cut 10 3 c) (cut 31 3 c)) None (Some 0))
  unfolding fault_of
  both_by n [] q w z = absurd w
  both_by n (l ∷ ls) q w z =
      let p = w.0.0 in
      let st = w.0.1 in
      let e : n ≡ 20 = sym st ∙ perhaps_size 20 (cut 14 n l) p.number (λ y. z (sym st ∙ y)) in
      let h = stand_within 14 n l st z in
      let k = first_long c l ls q in
      let a : last_three (cut 4 9 l) ≡ cut 10 3 c = last_cut_lem 4 9 l p.nine.size (omega arith) ∙ first_cut c l ls q 10 3 (omega arith) in
      let f : 14 + (n - 3) ≡ 31 = omega arith in
      let b : last_three (cut 14 n l) ≡ cut 31 3 c = last_cut_lem 14 n l st (omega arith) ∙ ap (λ (i : ℕ). cut i 3 l) f ∙ first_cut c l ls q 31 3 (omega arith) in (
        omega arith,
        ap (fault_of bik_differs) (bik_values p ∙ both_some (cut 4 9 l) (cut 14 n l) (omega arith)) ∙ ap₂ (λ (x y : Text). pick (not (same x y)) (Some 0) None) a b ∙ sym (swap (same (cut 10 3 c) (cut 31 3 c)) None (Some 0)),
      )

  pub party_both : (n : ℕ) → Then (BikWith n) Any (lines_in c) → Not (n ≡ 0) → (34 ≤ length c) × (party_fault (lines_in c) ≡ pick (same (cut 10 3 c) (cut 31 3 c)) None (Some 0))
  party_both n w z = both_by n (lines_in c) refl w z

  -- as it was read
  module _ (account : Bool) (w : Then (IsA (party.Bik account)) Any (lines_in c)) where
    pub party_alone : account ≡ false → party_fault (lines_in c) ≡ None
    party_alone e = party_bik_lem (pick account 20 0) (lines_in c) w (ap (λ (b : Bool). pick b 20 0) e)

    pub party_pair : account ≡ true → (34 ≤ length c) × (party_fault (lines_in c) ≡ pick (same (cut 10 3 c) (cut 31 3 c)) None (Some 0))
    party_pair e = let k : pick {A = ℕ} account 20 0 ≡ 20 = ap (λ (b : Bool). pick b 20 0) e in party_both (pick account 20 0) w (λ z. absurd (omega arith))

-- ---- Crpp, N9: by the bytes of the content
abbrev rpp_fault : List Line → Option ℕ
rpp_fault ls = fault_of no_day (of_first rpp_dates ls)

two_dates : (p q : ℕ) (d v : Text) → fault_of no_day (at p (date d) ∷ date_if_any q v) ≡ pick (real_day d) (pick (empty v) None (pick (real_day v) None (Some q))) (Some p)
unfolding fault_of
two_dates p q d [] = sym (swap (real_day d) None (Some p))
two_dates p q d (x ∷ v) = sym (swap (real_day d) (pick (real_day (x ∷ v)) None (Some q)) (Some p) ∙ ap (pick (not (real_day d)) (Some p)) (swap (real_day (x ∷ v)) None (Some q)))

-- a content that begins with such an RPP line: its dates are there, and what 9 says of them
pub record RppRead (c : Text) (n value : ℕ) (ls : List Line) : Type 0 where
  pub few : n ≤ 6
  pub room : 7 + (n + 5) ≤ length c
  pub due_room : Not (value ≡ 0) → 21 + (n + 5) ≤ length c
  pub faults : rpp_fault ls ≡ pick (real_day (cut (1 + (n + 5)) 6 c)) (pick (eqb value 0) None (pick (real_day (cut (15 + (n + 5)) 6 c)) None (Some (15 + (n + 5))))) (Some (1 + (n + 5)))

read_by : (c : Text) (n value : ℕ) (ls : List Line) → lines_in c ≡ ls → Then (RppWith n value) Any ls → RppRead c n value ls
read_by c n value [] q w = absurd w
read_by c n value (l ∷ ls) q w = record {
  few = omega (arith, p.serial.most, w.0.1);
  room = omega (arith, size, first_long c l ls q);
  due_room = λ z. omega (arith, due z, first_long c l ls q);
  faults = ap (fault_of no_day) (rpp_values p) ∙ two_dates mark (1 + behind) (cut (1 + (n + 5)) 6 l) v ∙ places;
}
  where
    sort : Text
    sort = w.0.0.0

    p : RppLine (cut 5 n l) (cut (1 + (n + 5)) 6 l) (cut (8 + (n + 5)) 1 l) (cut (10 + (n + 5)) 4 l) (cut (15 + (n + 5)) value l) sort l
    p = w.0.0.1

    v : Text
    v = cut (15 + (n + 5)) value l

    mark : ℕ
    mark = length (join (bytes "/RPP/" ∷ cut 5 n l ∷ bytes "." ∷ []))

    behind : ℕ
    behind = length (join (bytes "/RPP/" ∷ cut 5 n l ∷ bytes "." ∷ cut (1 + (n + 5)) 6 l ∷ bytes "." ∷ cut (8 + (n + 5)) 1 l ∷ bytes "." ∷ cut (10 + (n + 5)) 4 l ∷ []))

    size : length l ≡ 14 + (n + 5) + (length (with_mark "." v) + length (with_mark "." sort))
    size =
        let z = simp length-append at (ap length p.line) in
        omega (arith, w.0.1, p.day.size, p.order.size, way_size (cut (10 + (n + 5)) 4 l) p.kind)

    six : Not (value ≡ 0) → length v ≡ 6
    six z = perhaps_size 6 v p.due (λ e. z (sym w.0.2 ∙ e))

    due : Not (value ≡ 0) → 21 + (n + 5) ≤ length l
    due z = omega (arith, size, six z, ap length (mark_some "." v (omega (arith, six z))))

    mark_at_lem : mark ≡ 1 + (n + 5)
    mark_at_lem = simp length-append (omega (arith, w.0.1))

    behind_at_lem : 1 + behind ≡ 15 + (n + 5)
    behind_at_lem = simp length-append (omega (arith, w.0.1, p.day.size, p.order.size, way_size (cut (10 + (n + 5)) 4 l) p.kind))

    first : cut (1 + (n + 5)) 6 l ≡ cut (1 + (n + 5)) 6 c
    first = first_cut c l ls q (1 + (n + 5)) 6 (omega (arith, size))

    second : (b : Bool) → eqb value 0 ≡ b → pick (empty v) None (pick (real_day v) None (Some (1 + behind))) ≡ pick b None (pick (real_day (cut (15 + (n + 5)) 6 c)) None (Some (15 + (n + 5))))
    second true e = rw (is_empty v (w.0.2 ∙ eqb-true value 0 e))
    second false e =
        let z = eqb-false value 0 e in
        let k : value ≡ 6 = sym w.0.2 ∙ six z in
        let x : v ≡ cut (15 + (n + 5)) 6 c = ap (λ (i : ℕ). cut (15 + (n + 5)) i l) k ∙ first_cut c l ls q (15 + (n + 5)) 6 (omega (arith, due z)) in
        ap (λ (b : Bool). pick b None (pick (real_day v) None (Some (1 + behind)))) (is_filled v (λ y. z (sym w.0.2 ∙ y)))
        ∙ ap₂ (λ (d : Text) (i : ℕ). pick (real_day d) None (Some i)) x behind_at_lem

    places : pick (real_day (cut (1 + (n + 5)) 6 l)) (pick (empty v) None (pick (real_day v) None (Some (1 + behind)))) (Some mark)
        ≡ pick (real_day (cut (1 + (n + 5)) 6 c)) (pick (eqb value 0) None (pick (real_day (cut (15 + (n + 5)) 6 c)) None (Some (15 + (n + 5))))) (Some (1 + (n + 5)))
    places = ap₂ (λ (d : Text) (m : ℕ). pick (real_day d) (pick (empty v) None (pick (real_day v) None (Some (1 + behind)))) (Some m)) first mark_at_lem
        ∙ ap (λ (k : Option ℕ). pick (real_day (cut (1 + (n + 5)) 6 c)) k (Some (1 + (n + 5)))) (second (eqb value 0) refl)

-- by the line as it was read
module _ (c : Text) (r : Rpp) (w : Then (RppIs r) Any (lines_in c)) where
  abbrev n : ℕ
  n = r.number

  pub rpp_read : RppRead c r.number (pick r.value 6 0) (lines_in c)
  rpp_read = read_by c r.number (pick r.value 6 0) (lines_in c) refl w

  pub rpp_due_room : r.value ≡ true → 21 + (n + 5) ≤ length c
  rpp_due_room e = rpp_read.due_room (λ z. absurd (omega (arith, sym (ap (λ (b : Bool). pick b 6 0) e) ∙ z)))

  pub rpp_first : real_day (cut (1 + (n + 5)) 6 c) ≡ false → rpp_fault (lines_in c) ≡ Some (1 + (n + 5))
  rpp_first e = rpp_read.faults ∙ rw e

  pub rpp_one : real_day (cut (1 + (n + 5)) 6 c) ≡ true → r.value ≡ false → rpp_fault (lines_in c) ≡ None
  rpp_one e f = rpp_read.faults ∙ rw (e, f)

  pub rpp_two : real_day (cut (1 + (n + 5)) 6 c) ≡ true → r.value ≡ true → rpp_fault (lines_in c) ≡ pick (real_day (cut (15 + (n + 5)) 6 c)) None (Some (15 + (n + 5)))
  rpp_two e f = rpp_read.faults ∙ rw (e, f)
