-- The 32A of an accepted message: it is there, in roubles, the kopecks are the value of its digits, and its date is a day of the calendar (K3, C32A,
-- Camount, Cdate, N9, N10). Assumes nothing.
use Prim.Native.Nat.{ℕ, suc, ◌+◌, ◌*◌, ◌/◌, ◌%◌, ◌≤◌, ◌<◌}
use mathlib.Core.Path.{◌≡◌, refl, sym, ap, ap₂, ◌∙◌, subst}
use mathlib.Core.Bool.{Bool, true, false, not, ◌||◌, false≢true}
use mathlib.Core.List.{List, [], ◌∷◌}
use native.Mathlib.Omega.{arith}
use native.Mathlib.Decide.{dec_lt}
use lib.Dec.{eqb}
use lib.ListN.{length, drop}
use borrow.Author.Tests.{eqb-true}
use Rattle.base.specs.Choice.{pick, all}
use Rattle.base.specs.Bytes.{same, is_in}
use Rattle.base.specs.Quoted.{bytes}
use Rattle.base.specs.Verdicts.{Verdict, Fine, answered}
use Rattle.base.proofs.Bools.{left, right}
use Rattle.base.proofs.ByteLaws.{same_is}
use Rattle.base.proofs.RuleLaws.{fine_broken, then_clean}
use Rattle.fields.specs.Field.{Field, field, tag_of, fields}
use Rattle.fields.specs.Places.{start_of, next_of, end_of}
use Rattle.fields.specs.ByLines.{joined, Standing}
use Rattle.fields.proofs.PlaceLaws.{next_standing, content_part, fields_stand}
use Rattle.types.specs.declared.Form.{Form}
use Rattle.types.specs.declared.Form.TheVariants.{Other, Mt103, Mt202}
use Rattle.types.specs.Form.{Place, places_of, places_103, places_202}
use Rattle.types.specs.Walk.{find, is_optional, rule_18}
use Rattle.types.specs.Sign.{sign_of}
use Rattle.types.proofs.WalkLaws.{seated, walked_accepted}
use Rattle.types.specs.Sentences.{place_at, Seated, Accepted, Present}
use Rattle.contents.specs.declared.Content.{Content}
use Rattle.contents.specs.declared.Content.TheVariants as holds
use Rattle.contents.specs.Words.{Text, Line}
use Rattle.contents.specs.Lines.{Payment}
use Rattle.contents.specs.Fields.{IsPayment, One, Right}
use Rattle.contents.specs.Tags.{tags_103, tags_202, held_by}
use Rattle.contents.specs.Rule8.{right_field}
use Rattle.contents.proofs.RuleLaws.{field_says}
use Rattle.values.specs.Values as values
use Rattle.values.specs.Values.{ValueKind, tag, values_of, values_in}
use Rattle.values.specs.Judged.{first_bad, no_day, foreign}
use Rattle.std.specs.Prelude.{Option, None, Some, is_some, Ok}
use Rattle.values.specs.Answers.{date_of, kopecks_of, fault_of, fault_verdict}
use Rattle.values.specs.Day as days
use Rattle.values.specs.Sentences.{OfCalendar}
use Rattle.values.proofs.DayLaws.{day_iff}
use Rattle.values.proofs.GrammarLaws.{paid_values_lem, paid_kopecks, paid_date_lem}
use Rattle.values.proofs.StepLaws.{first_field}
use Rattle.message.specs.Lists.{part_at, Part}
use Rattle.message.specs.Paid.{PaidIn}
use Rattle.message.specs.Calls.{span_by, span_of, part_of, content_of, paid, amount_of, day_split, day_of, on}
use Rattle.message.specs.declared.Day.{Day}
use Rattle.message.proofs.SpanLaws.{part_listed}
use Rattle.frame.proofs.CallLaws.{taken}
use Rattle.message.specs.Message.{verdict_of}
use Rattle.message.proofs.RuleLaws.{accepted_rules}
use Rattle.message.proofs.VerdictTheorems.{frame_clean, contents_right, days_right, roubles_only}

-- ---- a mandatory place is present
must_present : (ps : List Place) (next : ℕ) (fs : List Field) (i : ℕ) → Accepted ps next fs → next ≤ i → i < length ps → is_optional (place_at ps i) ≡ false → Present ps fs i
must_present ps next [] i a l h o = absurd (a.whole (record { at = i; low = l; high = h; mandatory = o }))
must_present ps next (f ∷ fs) i a l h o =
    go (seated ps next (tag_of f) a.fine.0) (dec_lt i (find ps (tag_of f))) (dec_lt (find ps (tag_of f)) i)
    (λ k. must_present ps (suc (find ps (tag_of f))) fs i (record { fine = a.fine.1; whole = a.whole }) k h o)
  where
    q : ℕ
    q = find ps (tag_of f)

    further : Present ps fs i → Present ps (f ∷ fs) i
    further p = let w = p.within in record { number = suc p.number; within = omega arith; place = p.place }

    go : Seated ps next q → Dec (i < q) → Dec (q < i) → (suc q ≤ i → Present ps fs i) → Present ps (f ∷ fs) i
    go s (yes b) d r = absurd (s.free (record { at = i; low = l; high = b; mandatory = o }))
    go s (no b) (yes c) r = further (r (omega arith))
    go s (no b) (no c) r = let z : q ≡ i = omega arith in record { number = 0; within = omega arith; place = z }

-- ---- 32A: one line, with its parts
record PaidLine (ls : List Line) : Type 0 where
  line : Line
  date : Text
  currency : Text
  whole : Text
  decimals : Text
  is : ls ≡ line ∷ []
  parts : Payment date currency whole decimals line

paid_line : (ls : List Line) → One IsPayment ls → PaidLine ls
paid_line [] p = absurd p
paid_line (l ∷ []) (date, currency, whole, decimals, p) = record { line = l; date = date; currency = currency; whole = whole; decimals = decimals; is = refl; parts = p }
paid_line (l ∷ k ∷ ks) p = absurd p

-- ---- the field of a place: its content is right, and no date and no currency of it is wrong
record Shown (m : List ℕ) (ps : List Place) (q o : ℕ) (fs : List Field) (form : Form) (sign : Bool) : Type 0 where
  tag : List ℕ
  line : List ℕ
  more : List (List ℕ)
  at_place : find ps tag ≡ q
  content : part_of m (part_at ps q o fs) ≡ joined (line ∷ more)
  right_is : right_field form sign (field tag (line ∷ more)) ≡ true
  days : fault_of no_day (values_of tag (held_by form tag) (line ∷ more)) ≡ None
  roubles : fault_of foreign (values_of tag (held_by form tag) (line ∷ more)) ≡ None

no_fault : (number s : ℕ) (k : Option ℕ) → fault_verdict number s k ≡ Fine → k ≡ None
no_fault number s None e = refl
no_fault number s (Some k) e = absurd (fine_broken number (s + k) (sym e))

-- a rule that no value of a field's breaks, and none of those behind it
rest_fine : (number : ℕ) (bad : ValueKind → Bool) → ((t : List ℕ) → bad (tag t) ≡ false) → (form : Form) (o : ℕ) (t : List ℕ) (ls : List (List ℕ)) (fs : List Field)
    → first_bad number bad (values_in form o (field t ls ∷ fs)) ≡ Fine → (fault_of bad (values_of t (held_by form t) ls) ≡ None) × (first_bad number bad (values_in form (next_of o (field t ls)) fs) ≡ Fine)
rest_fine number bad h form o t ls fs e =
    let k : Option ℕ = fault_of bad (values_of t (held_by form t) ls) in
    let s : ℕ = start_of o (field t ls) in
    let c = then_clean (fault_verdict number s k) (first_bad number bad (values_in form (next_of o (field t ls)) fs)) (sym (first_field form o t ls fs number bad h) ∙ e) in
    (no_fault number s k c.0, c.1)

shown : (m : List ℕ) (ps : List Place) (q o : ℕ) (fs : List Field) (form : Form) (sign : Bool) → Standing m o fs → all (right_field form sign) fs ≡ true → first_bad 9 no_day (values_in form o fs) ≡ Fine
    → first_bad 10 foreign (values_in form o fs) ≡ Fine → (part_at ps q o fs ≡ None → ⊥) → Shown m ps q o fs form sign
unfolding part_at
shown m ps q o [] form sign w r d u h = absurd (h refl)
shown m ps q o (field t [] ∷ fs) form sign w r d u h = absurd (false≢true w.able)
shown m ps q o (field t (l ∷ ls) ∷ fs) form sign w r d u h =
    let f = field t (l ∷ ls) in
    let a = rest_fine 9 no_day (λ v. refl) form o t (l ∷ ls) fs d in
    let b = rest_fine 10 foreign (λ v. refl) form o t (l ∷ ls) fs u in
    go (eqb (find ps t) q) refl h a.0 b.0
    (shown m ps q (next_of o f) fs form sign (next_standing m o t l ls fs w) (right (right_field form sign f) (all (right_field form sign) fs) r) a.1 b.1)
  where
    go : (b : Bool) → eqb (find ps t) q ≡ b → (pick b (Part (start_of o (field t (l ∷ ls))) (end_of o (field t (l ∷ ls)))) (part_at ps q (next_of o (field t (l ∷ ls))) fs) ≡ None → ⊥)
        → fault_of no_day (values_of t (held_by form t) (l ∷ ls)) ≡ None → fault_of foreign (values_of t (held_by form t) (l ∷ ls)) ≡ None
        → ((part_at ps q (next_of o (field t (l ∷ ls))) fs ≡ None → ⊥) → Shown m ps q (next_of o (field t (l ∷ ls))) fs form sign)
        → Shown m ps q o (field t (l ∷ ls) ∷ fs) form sign
    go true e g k n i =
        record {
          tag = t;
          line = l;
          more = ls;
          at_place = eqb-true (find ps t) q e;
          content = ap (λ (b : Bool). part_of m (pick b (Part (start_of o (field t (l ∷ ls))) (end_of o (field t (l ∷ ls)))) (part_at ps q (next_of o (field t (l ∷ ls))) fs))) e ∙ content_part m o t l ls fs w;
          right_is = left (right_field form sign (field t (l ∷ ls))) (all (right_field form sign) fs) r;
          days = k;
          roubles = n;
        }
    go false e g k n i =
        let s = i g in
        record {
          tag = s.tag;
          line = s.line;
          more = s.more;
          at_place = s.at_place;
          content = ap (λ (b : Bool). part_of m (pick b (Part (start_of o (field t (l ∷ ls))) (end_of o (field t (l ∷ ls)))) (part_at ps q (next_of o (field t (l ∷ ls))) fs))) e ∙ s.content;
          right_is = s.right_is;
          days = s.days;
          roubles = s.roubles;
        }

-- ---- the place of 32A is mandatory, and its tag alone stands there
record Sits (ps : List Place) (q : ℕ) : Type 0 where
  below : q < length ps
  mandatory : is_optional (place_at ps q) ≡ false
  alone : (t : List ℕ) → find ps t ≡ q → same t (bytes "32A") ≡ true

third : (a b c d : Bool) (n : ℕ) → pick (a || false) 0 (suc (pick (b || false) 0 (suc (pick (c || false) 0 (suc (pick (d || false) 0 (suc n))))))) ≡ 3 → d ≡ true
third true b c d n e = absurd (omega arith)
third false true c d n e = absurd (omega arith)
third false false true d n e = absurd (omega arith)
third false false false true n e = refl
third false false false false n e = absurd (omega arith)

second : (a b c : Bool) (n : ℕ) → pick (a || false) 0 (suc (pick (b || false) 0 (suc (pick (c || false) 0 (suc n))))) ≡ 2 → c ≡ true
second true b c n e = absurd (omega arith)
second false true c n e = absurd (omega arith)
second false false true n e = refl
second false false false n e = absurd (omega arith)

sits_103 : Sits places_103 3
unfolding places_103 places_202 find
sits_103 =
    record { below = omega arith; mandatory = refl; alone = λ t e. third (same t (bytes "20")) (same t (bytes "23B")) (same t (bytes "26T")) (same t (bytes "32A")) (find (drop 4 places_103) t) e }

sits_202 : Sits places_202 2
unfolding places_103 places_202 find
sits_202 = record { below = omega arith; mandatory = refl; alone = λ t e. second (same t (bytes "20")) (same t (bytes "21")) (same t (bytes "32A")) (find (drop 3 places_202) t) e }

-- ---- what the rules say of the parts
abbrev paid_values : Text → Text → List values.Value
paid_values d c = values.at 0 (values.date d) ∷ values.at (length d) (values.currency c) ∷ []

day_fine : (date currency : Text) → fault_of no_day (paid_values date currency) ≡ None → days.real_day date ≡ true
unfolding fault_of
day_fine date currency e = go (days.real_day date) e
  where
    go : (b : Bool) → ◌≡◌ {A = Option ℕ} (pick (not b) (Some 0) None) None → b ≡ true
    go true e = refl
    go false e = absurd (false≢true (sym (ap is_some e)))

rub_fine : (date currency : Text) → fault_of foreign (paid_values date currency) ≡ None → currency ≡ bytes "RUB"
unfolding fault_of
rub_fine date currency e = same_is currency (bytes "RUB") (go (same currency (bytes "RUB")) e)
  where
    go : (b : Bool) → pick (not b) (Some (length date)) None ≡ None → b ≡ true
    go true e = refl
    go false e = absurd (false≢true (sym (ap is_some e)))

-- a day of the calendar comes out of its number again
month_long : (y m : ℕ) → days.days_in y m ≤ 31
unfolding days.days_in
month_long y m = go (eqb m 2) (days.leap y) (is_in m (4 ∷ 6 ∷ 9 ∷ 11 ∷ []))
  where
    go : (a b c : Bool) → pick a (pick b 29 28) (pick c 30 31) ≤ 31
    go true true c = omega arith
    go true false c = omega arith
    go false b true = omega arith
    go false b false = omega arith

split_dated : (date : Text) → OfCalendar (days.year date) (days.month date) (days.day date) → day_split (days.dated date) ≡ on (days.year date) (days.month date) (days.day date)
unfolding days.dated
split_dated date c = go (days.year date) (days.month date) (days.day date) c.last_month (omega (arith, c.last_day, month_long (days.year date) (days.month date)))
  where
    go : (y m d : ℕ) → m ≤ 12 → d ≤ 31 → day_split (y * 10000 + m * 100 + d) ≡ on y m d
    go y m d h k =
        let n : ℕ = y * 10000 + m * 100 + d in
        let a : n / 10000 ≡ y = omega arith in
        let b : n / 100 % 100 ≡ m = omega arith in
        let c : n % 100 ≡ d = omega arith in
        rw (a, b, c)

not_nothing : (s t : ℕ) → Part s t ≡ None → ⊥
not_nothing s t e = let z : ◌≡◌ {A = ℕ} 0 1 = cc in omega arith

module _ (form : Form) (m : List ℕ) (e : verdict_of form m ≡ Fine) (q : ℕ) (s : Sits (places_of form) q) (z : q ≡ find (places_of form) (bytes "32A"))
    (st : held_by form (bytes "32A") ≡ holds.Payment) where
  is_there : part_at (places_of form) q 5 (fields m) ≡ None → ⊥
  is_there n =
      let t = taken form m (frame_clean form m e) in
      let p = must_present (places_of form) 0 (fields m) q ((walked_accepted form m).0 t.walk_fine) (omega arith) s.below s.mandatory in
      not_nothing _ _ (sym (part_listed (places_of form) 0 5 (fields m) p.number q t.right p.within p.place) ∙ n)

  the_field : Shown m (places_of form) q 5 (fields m) form (sign_of (fields m))
  the_field =
      let t = taken form m (frame_clean form m e) in
      shown m (places_of form) q 5 (fields m) form (sign_of (fields m)) (fields_stand m t.frame_fine t.bytes_fine t.lines_fine) (contents_right form m e) (days_right form m e) (roubles_only form m e) is_there

  its_tag : the_field.tag ≡ bytes "32A"
  its_tag = same_is the_field.tag (bytes "32A") (s.alone the_field.tag the_field.at_place)

  its_line : PaidLine (the_field.line ∷ the_field.more)
  its_line =
      let f = the_field in
      paid_line (f.line ∷ f.more)
      (subst (λ (c : Content). Right c (sign_of (fields m)) (f.line ∷ f.more)) (ap (held_by form) its_tag ∙ st) ((field_says form (sign_of (fields m)) (field f.tag (f.line ∷ f.more))).0 f.right_is))

  its_content : paid form m ≡ its_line.line
  unfolding paid content_of span_of
  its_content =
      ap (λ (k : ℕ). part_of m (span_by (verdict_of form m) (part_at (places_of form) k 5 (fields m)))) (sym z)
      ∙ ap (λ (v : Verdict). part_of m (span_by v (part_at (places_of form) q 5 (fields m)))) e ∙ the_field.content ∙ ap joined its_line.is

  -- the values of the field are the parts of its line
  its_values : values_of the_field.tag (held_by form the_field.tag) (the_field.line ∷ the_field.more) ≡ paid_values its_line.date its_line.currency
  unfolding values_of
  its_values = ap₂ (λ (c : Content) (ls : List (List ℕ)). values_of the_field.tag c ls) (ap (held_by form) its_tag ∙ st) its_line.is ∙ paid_values_lem its_line.parts

  its_calendar : OfCalendar (days.year its_line.date) (days.month its_line.date) (days.day its_line.date)
  unfolding days.real_day
  its_calendar =
      let d = its_line.date in
      (day_iff (days.year d) (days.month d) (days.day d)).0 (day_fine d its_line.currency (ap (fault_of no_day) (sym its_values) ∙ the_field.days))

  paid_in : PaidIn form m
  unfolding amount_of day_of
  paid_in =
      let p = its_line in
      record {
        line = p.line;
        date = p.date;
        currency = p.currency;
        whole = p.whole;
        decimals = p.decimals;
        is = its_content;
        parts = p.parts;
        roubles = rub_fine p.date p.currency (ap (fault_of foreign) (sym its_values) ∙ the_field.roubles);
        amount = ap (λ (v : Verdict). answered v (kopecks_of (paid form m))) e ∙ ap (λ (u : List ℕ). Ok (kopecks_of u)) its_content ∙ ap (λ (n : ℕ). Ok n) (paid_kopecks p.parts);
        calendar = its_calendar;
        day = ap (λ (v : Verdict). answered v (day_split (date_of (paid form m)))) e ∙ ap (λ (u : List ℕ). Ok (day_split (date_of u))) its_content ∙ ap (λ (n : ℕ). Ok (day_split n)) (paid_date_lem p.parts) ∙ ap (λ (x : Day). Ok x) (split_dated p.date its_calendar);
      }

pub paid_whole_lem : (form : Form) (m : List ℕ) → verdict_of form m ≡ Fine → PaidIn form m
unfolding rule_18 held_by tags_103 tags_202 places_103 places_202 find same
paid_whole_lem Mt103 m e = paid_in Mt103 m e 3 sits_103 refl refl
paid_whole_lem Mt202 m e = paid_in Mt202 m e 2 sits_202 refl refl
paid_whole_lem Other m e = absurd (fine_broken 18 0 (sym (accepted_rules Other m e).pass.type))
