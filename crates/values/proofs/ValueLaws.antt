-- The values of a message come in the order of their places; and what kinds a content has. Assumes nothing.
use Prim.Native.Nat.{ℕ, ◌+◌, ◌≤◌, ◌<◌}
use mathlib.Core.Path.{◌≡◌, refl, sym, ap, subst}
use mathlib.Core.Bool.{Bool, true, false}
use mathlib.Core.List.{List, [], ◌∷◌, map}
use native.Mathlib.Omega.{arith}
use native.Mathlib.Nat.{le_refl}
use lib.ListN.{length, length-append, length-drop, length-take}
use Rattle.base.specs.Choice.{pick}
use Rattle.base.specs.Bytes.{begins}
use Rattle.base.specs.Examples.{AllHold}
use Rattle.fields.specs.Field.{Field, field}
use Rattle.fields.specs.Places.{lines_size, start_of, next_of}
use Rattle.fields.specs.ByLines.{joined}
use Rattle.fields.proofs.PlaceLaws.{joined_length}
use Rattle.types.specs.declared.Form.{Form}
use Rattle.types.specs.Sentences.{end_of_fields}
use Rattle.contents.specs.declared.Content.{Content}
use Rattle.contents.specs.declared.Content.TheVariants as holds
use Rattle.contents.specs.Words.{Text, Line, join}
use Rattle.contents.specs.Tests.{piece, rpp_pieces, rpp_parts, is_party_by_bik, looks_tax}
use Rattle.contents.specs.Tags.{held_by}
use Rattle.contents.specs.Parts.{unmarked, paid_date, paid_currency, currency_at, party_bik, party_account, tax_inn, tax_kpp, opens_rpp, rpp_date, rpp_value, rpp_value_at}
use Rattle.contents.proofs.CutLaws.{cut_whole}
use Rattle.values.specs.Values.{ValueKind, tag, date, currency, party, tax, Value, at, place_of, kind_of, moved, payment, date_if_any, rpp_dates, both_parts, parties, of_first, taxes, customer_taxes, payer_taxes, note_dates, values_of, values_in}
use Rattle.values.proofs.JudgedLaws.{Ordered, none, next, ordered_low, ordered_high, ordered_append}

-- ---- what holds either way
picked : {A : Type 0} (P : A → Type 0) (b : Bool) {x y : A} → P x → P y → P (pick b x y)
picked P true p q = p
picked P false p q = q

-- ---- what holds of the values of each content
by_content : (P : List Value → Type 0) (t : Text) (content : Content) (ls : List Line)
    → P [] → P (of_first payment ls) → P (payer_taxes t ls) → P (of_first parties ls) → P (customer_taxes t ls) → P (of_first note_dates ls) → P (values_of t content ls)
unfolding values_of
by_content P t holds.Unknown ls n a b c d e = n
by_content P t holds.Reference ls n a b c d e = n
by_content P t holds.Related ls n a b c d e = n
by_content P t holds.Operation ls n a b c d e = n
by_content P t holds.Purpose ls n a b c d e = n
by_content P t holds.Payment ls n a b c d e = a
by_content P t holds.Payer ls n a b c d e = b
by_content P t holds.BankByBic ls n a b c d e = c
by_content P t holds.BankByName ls n a b c d e = c
by_content P t holds.OwnAccount ls n a b c d e = n
by_content P t holds.AccountAndBic ls n a b c d e = n
by_content P t holds.BeneficiaryBank ls n a b c d e = d
by_content P t holds.Beneficiary ls n a b c d e = d
by_content P t holds.Details ls n a b c d e = n
by_content P t holds.Charges ls n a b c d e = n
by_content P t holds.DocumentAndRest ls n a b c d e = e
by_content P t holds.DocumentAndDetails ls n a b c d e = e
by_content P t holds.Regulatory ls n a b c d e = n

-- ---- in the order of their places
ordered_moved : (n : ℕ) {o e : ℕ} {vs : List Value} → Ordered o vs e → Ordered (n + o) (map (moved n) vs) (n + e)
ordered_moved n {o} {e} (none h) = let g : n + o ≤ n + e = omega arith in none g
ordered_moved n {o} (next {v = at p k} h r) = let g : n + o ≤ n + p = omega arith in next g (ordered_moved n r)

nothing : (e : ℕ) → Ordered 0 [] e
nothing e = let g : 0 ≤ e = omega arith in none g

-- one value, within the content
alone : (v : Value) (e : ℕ) → place_of v ≤ e → Ordered 0 (v ∷ []) e
alone v e h = let g : 0 ≤ place_of v = omega arith in next g (none h)

payment_order : (l : Line) → Ordered 0 (payment l) (length l)
unfolding payment
payment_order l =
    let z : 0 ≤ 0 = omega arith in
    let h : 0 ≤ currency_at l = omega arith in
    let k : currency_at l ≤ length l = omega (arith, length-take 6 l) in
    next z (next h (none k))

-- a date and perhaps one more behind it
dates_order : (p q e : ℕ) (d s : Text) → p ≤ q → p ≤ e → (0 < length s → q ≤ e) → Ordered 0 (at p (date d) ∷ date_if_any q s) e
dates_order p q e d [] h k m = let z : 0 ≤ p = omega arith in next z (none k)
dates_order p q e d (x ∷ s) h k m = let z : 0 ≤ p = omega arith in next z (next h (none (m (omega arith))))

rpp_order : (l : Line) → Ordered 0 (rpp_dates l) (length l)
unfolding rpp_dates
rpp_order l = go (rpp_parts l) (cut_whole rpp_pieces l)
  where
    go : (ts : List Text) → join (piece 0 ts ∷ piece 1 ts ∷ piece 2 ts ∷ piece 3 ts ∷ piece 4 ts ∷ piece 5 ts ∷ piece 6 ts ∷ piece 7 ts ∷ piece 8 ts ∷ piece 9 ts ∷ []) ≡ l
        → Ordered 0 (at (length (join (piece 0 ts ∷ piece 1 ts ∷ piece 2 ts ∷ []))) (date (piece 3 ts))
        ∷ date_if_any (1 + length (join (piece 0 ts ∷ piece 1 ts ∷ piece 2 ts ∷ piece 3 ts ∷ piece 4 ts ∷ piece 5 ts ∷ piece 6 ts ∷ piece 7 ts ∷ []))) (unmarked "." (piece 8 ts))) (length l)
    go ts q =
        let z = simp length-append at (ap length q) in
        let y = length-drop 1 (piece 8 ts) in
        dates_order _ _ (length l) (piece 3 ts) (unmarked "." (piece 8 ts)) (simp length-append (omega arith)) (simp length-append (omega arith)) (λ s. simp length-append (omega arith))

parties_order : (l : Line) → Ordered 0 (parties l) (length l)
unfolding parties
parties_order l = picked (λ vs. Ordered 0 vs (length l)) (is_party_by_bik l) (go (party_account l)) (nothing (length l))
  where
    go : (a : Text) → Ordered 0 (both_parts (party_bik l) a) (length l)
    go [] = nothing (length l)
    go (x ∷ a) = alone (at 0 (party (party_bik l) (x ∷ a))) (length l) (omega arith)

note_order : (l : Line) → Ordered 0 (note_dates l) (length l)
note_order l = picked (λ vs. Ordered 0 vs (length l)) (opens_rpp l) (rpp_order l) (nothing (length l))

-- lines joined: the first is within them, and so is where the second begins
first_within : (l : Line) (ls : List Line) → length l ≤ length (joined (l ∷ ls))
first_within l [] = le_refl (length l)
first_within l (k ∷ ls) = omega (arith, length-append l (13 ∷ 10 ∷ joined (k ∷ ls)))

first_order : (f : Line → List Value) → ((l : Line) → Ordered 0 (f l) (length l)) → (ls : List Line) → Ordered 0 (of_first f ls) (length (joined ls))
first_order f h [] = nothing 0
first_order f h (l ∷ ls) = ordered_high (first_within l ls) (h l)

taxes_order : (t : Text) (n e : ℕ) (ls : List Line) → n ≤ e → Ordered 0 (taxes t n ls) e
unfolding taxes
taxes_order t n e [] h = nothing e
taxes_order t n e (l ∷ ls) h = picked (λ vs. Ordered 0 vs e) (looks_tax l) (alone (at n (tax t (tax_inn l) (tax_kpp l))) e h) (nothing e)

customer_order : (t : Text) (ls : List Line) → Ordered 0 (customer_taxes t ls) (length (joined ls))
unfolding customer_taxes taxes
customer_order t [] = nothing 0
customer_order t (l ∷ []) = nothing (length l)
customer_order t (l ∷ k ∷ ls) = taxes_order t (lines_size (l ∷ [])) (length (joined (l ∷ k ∷ ls))) (k ∷ ls) (omega (arith, length-append l (13 ∷ 10 ∷ joined (k ∷ ls))))

payer_order : (t : Text) (ls : List Line) → Ordered 0 (payer_taxes t ls) (length (joined ls))
unfolding payer_taxes
payer_order t [] = nothing 0
payer_order t (l ∷ ls) =
    let e : ℕ = length (joined (l ∷ ls)) in
    picked (λ vs. Ordered 0 vs e) (begins 47 l) (customer_order t (l ∷ ls)) (taxes_order t 0 e (l ∷ ls) (omega arith))

pub values_order : (t : Text) (content : Content) (ls : List Line) → Ordered 0 (values_of t content ls) (length (joined ls))
values_order t content ls =
    by_content (λ vs. Ordered 0 vs (length (joined ls))) t content ls (nothing (length (joined ls))) (first_order payment payment_order ls) (payer_order t ls)
    (first_order parties parties_order ls) (customer_order t ls) (first_order note_dates note_order ls)

-- a content without lines has none
no_values : (t : Text) (content : Content) → values_of t content [] ≡ []
unfolding payer_taxes customer_taxes
no_values t content = by_content (λ vs. vs ≡ []) t content [] refl refl refl refl refl refl

module _ (form : Form) where
  field_order : (o : ℕ) (t : Text) (ls : List Line) → Ordered o (at o (tag t) ∷ map (moved (start_of o (field t ls))) (values_of t (held_by form t) ls)) (next_of o (field t ls))
  field_order o t [] =
      let g : o ≤ next_of o (field t []) = omega arith in
      next (le_refl o) (subst (λ (vs : List Value). Ordered o (map (moved (o + 2 + length t)) vs) (next_of o (field t []))) (sym (no_values t (held_by form t))) (none g))
  field_order o t (l ∷ ls) =
      let s : ℕ = o + 2 + length t in
      let c = joined (l ∷ ls) in
      let h = length-append t (58 ∷ l) in
      let g : o ≤ s + 0 = omega arith in
      let k : s + length c ≤ next_of o (field t (l ∷ ls)) = omega (arith, joined_length l ls) in
      next (le_refl o) (ordered_low g (ordered_high k (ordered_moved s (values_order t (held_by form t) (l ∷ ls)))))

  -- the values of a message come in the order of their places
  pub in_order : (o : ℕ) (fs : List Field) → Ordered o (values_in form o fs) (end_of_fields o fs)
  in_order o [] = none (le_refl o)
  in_order o (field t ls ∷ fs) = ordered_append (field_order o t ls) (in_order (next_of o (field t ls)) fs)

-- ---- every value is of a form of which something holds
abbrev pub EveryKind : (ValueKind → Type 0) → List Value → Type 0
EveryKind P vs = AllHold (λ (v : Value). P (kind_of v)) vs

module _ (P : ValueKind → Type 0) where
  pub every_first : (f : Line → List Value) → ((l : Line) → EveryKind P (f l)) → (ls : List Line) → EveryKind P (of_first f ls)
  every_first f h [] = tt
  every_first f h (l ∷ ls) = h l

  every_paid : ((s : Text) → P (date s)) → ((s : Text) → P (currency s)) → (l : Line) → EveryKind P (payment l)
  unfolding payment
  every_paid d c l = (d (paid_date l), (c (paid_currency l), tt))

  pub every_rpp : ((s : Text) → P (date s)) → (l : Line) → EveryKind P (rpp_dates l)
  unfolding rpp_dates
  every_rpp d l = (d (rpp_date l), go (rpp_value l))
    where
      go : (s : Text) → EveryKind P (date_if_any (rpp_value_at l) s)
      go [] = tt
      go (x ∷ s) = (d (x ∷ s), tt)

  every_note : ((s : Text) → P (date s)) → (l : Line) → EveryKind P (note_dates l)
  every_note d l = picked (EveryKind P) (opens_rpp l) (every_rpp d l) tt

  pub every_party : ((b a : Text) → P (party b a)) → (l : Line) → EveryKind P (parties l)
  unfolding parties
  every_party p l = picked (EveryKind P) (is_party_by_bik l) (go (party_account l)) tt
    where
      go : (a : Text) → EveryKind P (both_parts (party_bik l) a)
      go [] = tt
      go (x ∷ a) = (p (party_bik l) (x ∷ a), tt)

  every_tax : (t : Text) → ((i k : Text) → P (tax t i k)) → (n : ℕ) (ls : List Line) → EveryKind P (taxes t n ls)
  unfolding taxes
  every_tax t x n [] = tt
  every_tax t x n (l ∷ ls) = picked (EveryKind P) (looks_tax l) (x (tax_inn l) (tax_kpp l), tt) tt

  every_customer : (t : Text) → ((i k : Text) → P (tax t i k)) → (ls : List Line) → EveryKind P (customer_taxes t ls)
  unfolding customer_taxes
  every_customer t x [] = tt
  every_customer t x (l ∷ ls) = every_tax t x (lines_size (l ∷ [])) ls

  every_payer : (t : Text) → ((i k : Text) → P (tax t i k)) → (ls : List Line) → EveryKind P (payer_taxes t ls)
  unfolding payer_taxes
  every_payer t x [] = tt
  every_payer t x (l ∷ ls) = picked (EveryKind P) (begins 47 l) (every_customer t x (l ∷ ls)) (every_tax t x 0 (l ∷ ls))

  -- no content has a tag; a tax line is with its field's
  pub every_value : (t : Text) → ((s : Text) → P (date s)) → ((s : Text) → P (currency s)) → ((b a : Text) → P (party b a)) → ((i k : Text) → P (tax t i k))
      → (content : Content) (ls : List Line) → EveryKind P (values_of t content ls)
  every_value t d c p x content ls =
      by_content (EveryKind P) t content ls tt (every_first payment (every_paid d c) ls) (every_payer t x ls) (every_first parties (every_party p) ls) (every_customer t x ls)
      (every_first note_dates (every_note d) ls)
