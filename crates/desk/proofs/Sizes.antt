-- The answers of the calls fit one word (K4). Assumes nothing.
use Prim.Native.Nat.{ℕ, zero, suc, ◌+◌, ◌-◌, ◌^◌, ◌<◌, ◌≤◌}
use mathlib.Core.Path.{◌≡◌, refl, sym, ap, ◌∙◌, subst}
use mathlib.Core.Bool.{Bool, true, false}
use mathlib.Core.List.{List, [], ◌∷◌}
use native.Mathlib.Omega.{arith}
use lib.Dec.{ltb}
use lib.ListN.{length, take, drop}
use lib.Pow.{pow_mono}
use lib.Seq.{get_or-drop}
use Rattle.std.specs.Prelude.{Err, Option, None, Result, Some}
use Rattle.base.specs.Choice.{pick}
use Rattle.base.specs.Bytes.{between}
use Rattle.base.specs.Quoted.{bytes}
use Rattle.base.specs.Rules.{last_number, then, first}
use Rattle.base.specs.Calls.{short}
use Rattle.base.specs.Verdicts.{Verdict, Fine, Broken, Outcome, Done, answered}
use Rattle.base.proofs.ByteLaws.{Bytes}
use Rattle.base.proofs.RuleLaws.{first_last}
use Rattle.alphabets.specs.Text.{Small}
use Rattle.fields.specs.Field.{fields}
use Rattle.fields.specs.Frame.{limit}
use Rattle.fields.specs.Places.{listed}
use Rattle.fields.proofs.PlaceLaws.{listed_length}
use Rattle.types.specs.declared.Form.{Form}
use Rattle.types.proofs.TableLaws.{few_places}
use Rattle.types.specs.Form.{places_of}
use Rattle.types.specs.Walk.{find}
use Rattle.frame.specs.Frame.{word_of}
use Rattle.frame.proofs.CallLaws.{taken}
use Rattle.frame.proofs.SmallLaws as verdicts
use Rattle.message.specs.Lists.{part_at}
use Rattle.message.specs.declared.Span.{Span}
use Rattle.values.specs.Number.{onward, number}
use Rattle.values.specs.Day.{year_of, dated}
use Rattle.contents.specs.Tests.{is_payment}
use Rattle.contents.specs.Parts.{paid_date}
use Rattle.values.specs.Answers.{kopecks_of, date_of}
use Rattle.values.proofs.MoneyLaws.{kopecks_of_small}
use Rattle.message.specs.Message.{message_rules, verdict_of}
use Rattle.message.proofs.VerdictTheorems.{frame_clean}
use Rattle.message.proofs.SmallLaws.{verdict_small}
use Rattle.message.specs.declared.Accepted.{Accepted}
use Rattle.base.specs.declared.Refusal.{Refusal}
use Rattle.message.specs.Calls.{Checks, span_by, span_of, part_of, content_of, paid, amount_of, day_of, Inside, counted, day_split}
use Rattle.message.proofs.PartLaws.{inside_clean}
use Rattle.writer.specs.Sheet.{MessageTo}
use Rattle.written.proofs.SizeLaws.{refused_small, written_small}
use Rattle.sheets.specs.Gather.{sheet_of}
use Rattle.sheets.specs.Calls.{SheetTo}
use Rattle.sheets.proofs.SizeLaws.{sheet_size}
use Rattle.desk.specs.Sizes.{Fits, SmallOutcome, SmallCheck, SmallSpan, SmallAmount, SmallDay}

-- ---- refusals of messages and texts
fits : (n p : ℕ) → (n ≤ last_number) × (p ≤ limit) → Fits n p
fits n p h = (omega (arith, h.0), omega (arith, h.1))

pub text_small : (o : Outcome) → Small o → SmallOutcome o
text_small (Done n) h = omega arith
text_small (Err r) h = fits r.number r.place (omega (arith, h.0), h.1)

-- ---- the message for a sheet
pub message_small : (s out : List ℕ) (r : Outcome) (after : List ℕ) → MessageTo s out r after → SmallOutcome r
message_small s out (Done n) after g = omega (arith, written_small s out after n g)
message_small s out (Err r) after g = let h = refused_small s out after r.number r.place g in (h.0, omega (arith, h.1))

-- ---- the sheet of a message: 17 stands only behind an accepted one, whose sheet is within the limit
room_small : (t out : List ℕ) → length t ≤ limit → SmallOutcome (answered (short t out) (length t))
unfolding short
room_small t out h = go (ltb (length out) (length t))
  where
    go : (q : Bool) → SmallOutcome (answered (pick q (Broken 17 (length t)) Fine) (length t))
    go true = fits 17 (length t) (omega arith, h)
    go false = omega (arith, h)

pub sheet_small : (form : Form) (m out : List ℕ) (r : Outcome) (after : List ℕ) → SheetTo form m out r after → SmallOutcome r
unfolding SheetTo verdict_of
sheet_small form m out r after g =
    subst SmallOutcome (sym (g.answers ∙ ap (λ (v : Verdict). answered v (length (sheet_of form m))) (first_last (message_rules form m) (short (sheet_of form m) out))))
    (go (first (message_rules form m)) refl (verdict_small form m))
  where
    go : (v : Verdict) → verdict_of form m ≡ v → verdicts.Small limit v → SmallOutcome (answered (then v (short (sheet_of form m) out)) (length (sheet_of form m)))
    go Fine e s = room_small (sheet_of form m) out (sheet_size form m e)
    go (Err r) e s = fits r.number r.place s

-- ---- the check
fine_small : (form : Form) (m list : List ℕ) → verdict_of form m ≡ Fine → SmallCheck (answered (short (listed 5 (fields m)) list) (counted (length (fields m)) (word_of form m)))
unfolding short
fine_small form m list e = go (ltb (length list) (length (listed 5 (fields m))))
  where
    go : (q : Bool) → SmallCheck (answered (pick q (Broken 17 (length (listed 5 (fields m)))) Fine) (counted (length (fields m)) (word_of form m)))
    go true = let t = taken form m (frame_clean form m e) in (omega arith, omega (arith, t.few, listed_length 5 (fields m)))
    go false = let t = taken form m (frame_clean form m e) in (omega (arith, t.few), omega (arith, t.sound.below, pow_mono {j = 14} (few_places form)))

pub check_small : (form : Form) (m list : List ℕ) (r : Result Accepted Refusal) (after : List ℕ) → Checks form m list r after → SmallCheck r
unfolding verdict_of
check_small form m list r after g =
    subst SmallCheck (sym (g.answers ∙ ap (λ (v : Verdict). answered v (counted (length (fields m)) (word_of form m))) (first_last (message_rules form m) (short (listed 5 (fields m)) list))))
    (go (first (message_rules form m)) refl (verdict_small form m))
  where
    go : (v : Verdict) → verdict_of form m ≡ v → verdicts.Small limit v → SmallCheck (answered (then v (short (listed 5 (fields m)) list)) (counted (length (fields m)) (word_of form m)))
    go Fine e s = fine_small form m list e
    go (Err r) e s = fits r.number r.place s

-- ---- a call on a form, said of the type that it is the form of
pub checks_as : {f g : Form} {m list a : List ℕ} {r : Result Accepted Refusal} → f ≡ g → Checks f m list r a → Checks g m list r a
checks_as {m = m} {list = list} {a = a} {r = r} e c = subst (λ (x : Form). Checks x m list r a) e c

pub sheet_as : (m out a : List ℕ) (r : Outcome) {f g : Form} → f ≡ g → SheetTo f m out r a → SheetTo g m out r a
sheet_as m out a r e c = subst (λ (x : Form). SheetTo x m out r a) e c

-- ---- the part of a place
inside_small : (m : List ℕ) (s : Option Span) → length m ≤ limit → Inside m s → SmallSpan s
inside_small m (Some s) h i = (i.0, omega (arith, i.1))
inside_small m None h i = tt

pub span_small : (form : Form) (m : List ℕ) (place : ℕ) → SmallSpan (span_of form m place)
unfolding span_of
span_small form m place = go (verdict_of form m) refl
  where
    go : (v : Verdict) → verdict_of form m ≡ v → SmallSpan (span_by v (part_at (places_of form) place 5 (fields m)))
    go (Err r) e = tt
    go Fine e = inside_small m (part_at (places_of form) place 5 (fields m)) (taken form m (frame_clean form m e)).within (inside_clean form m e place)

-- ---- kopecks and the date
pub amount_small : (form : Form) (m : List ℕ) → SmallAmount (amount_of form m)
unfolding amount_of
amount_small form m = go (verdict_of form m) (verdict_small form m)
  where
    go : (v : Verdict) → verdicts.Small limit v → SmallAmount (answered v (kopecks_of (paid form m)))
    go Fine s = tt
    go (Err r) s = fits r.number r.place s

pub day_small : (form : Form) (m : List ℕ) → SmallDay (day_of form m)
unfolding day_of
day_small form m = go (verdict_of form m) (verdict_small form m)
  where
    go : (v : Verdict) → verdicts.Small limit v → SmallDay (answered v (day_split (date_of (paid form m))))
    go Fine s = tt
    go (Err r) s = fits r.number r.place s

-- parts of bytes are bytes
take_bytes : (n : ℕ) (s : List ℕ) → Bytes s → Bytes (take n s)
take_bytes zero s b i = omega arith
take_bytes (suc n) [] b i = omega arith
take_bytes (suc n) (x ∷ s) b zero = b 0
take_bytes (suc n) (x ∷ s) b (suc i) = take_bytes n s (λ j. b (suc j)) i

part_bytes : (i n : ℕ) (s : List ℕ) → Bytes s → Bytes (take n (drop i s))
part_bytes i n s b = take_bytes n (drop i s) (λ j. subst (λ (x : ℕ). x < 256) (sym (get_or-drop i s j 0)) (b (i + j)))

paid_bytes : (form : Form) (m : List ℕ) → Bytes m → Bytes (paid form m)
unfolding paid content_of
paid_bytes form m b = go (span_of form m (find (places_of form) (bytes "32A")))
  where
    go : (s : Option Span) → Bytes (part_of m s)
    go (Some s) = part_bytes s.start (s.end - s.start) m b
    go None = λ i. omega arith

-- the kopecks fit
pub kopecks_fit : (form : Form) (m : List ℕ) → Bytes m → kopecks_of (paid form m) < 2 ^ 63
kopecks_fit form m b = kopecks_of_small (paid form m)

-- and so does the date
two_small : (s : List ℕ) → Bytes s → number (take 2 s) < 2300
unfolding onward
two_small [] b = omega arith
two_small (x ∷ []) b = omega (arith, b 0)
two_small (x ∷ y ∷ r) b = omega (arith, b 0, b 1)

year_small : (n : ℕ) → n < 2300 → year_of n < 4300
unfolding year_of
year_small n h = go (between 80 n 99)
  where
    go : (q : Bool) → pick q (1900 + n) (2000 + n) < 4300
    go true = omega arith
    go false = omega arith

dated_small : (s : List ℕ) → Bytes s → dated s < 4294967296
unfolding dated
dated_small s b =
    let y = year_small (number (take 2 s)) (two_small s b) in
    let m = two_small (drop 2 s) (λ j. subst (λ (x : ℕ). x < 256) (sym (get_or-drop 2 s j 0)) (b (2 + j))) in
    let d = two_small (drop 4 s) (λ j. subst (λ (x : ℕ). x < 256) (sym (get_or-drop 4 s j 0)) (b (4 + j))) in
    omega arith

pub date_fits : (form : Form) (m : List ℕ) → Bytes m → date_of (paid form m) < 4294967296
unfolding date_of
date_fits form m b = go (is_payment (paid form m))
  where
    go : (q : Bool) → pick q (dated (paid_date (paid form m))) 0 < 4294967296
    go true = dated_small (paid_date (paid form m)) (take_bytes 6 (paid form m) (paid_bytes form m b))
    go false = omega arith
