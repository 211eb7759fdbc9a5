-- The tests of single lines are exact, and the parts of a line are those that it is cut into (section C). Assumes nothing.
use Prim.Native.Nat.{ℕ, ◌+◌, ◌-◌, ◌*◌, ◌/◌, ◌%◌, ◌≤◌}
use Prim.Native.String.{String}
use mathlib.Core.Path.{◌≡◌, refl, sym, ap, ap₂, ◌∙◌, subst}
use mathlib.Core.Bool.{Bool, true, false, not, ◌&&◌, true≢false, false≢true}
use mathlib.Core.Logic.{inl, inr, ⊎_elim}
use mathlib.Core.List.{List, [], ◌∷◌, ◌++◌}
use native.Mathlib.Nat.{div-add-mod'}
use native.Mathlib.Omega.{arith}
use lib.Dec.{eqb}
use lib.ListN.{length, take, drop, length-append, take-append-drop}
use lib.Seq.{take_at, drop_at, drop-nil, get_or-drop}
use borrow.Author.Tests.{eqb-true}
use Rattle.base.specs.Choice.{all}
use Rattle.base.specs.Bytes.{byte, digit, capital, begins, empty}
use Rattle.base.specs.Quoted.{bytes}
use Rattle.base.specs.Says.{Not, ◌or◌, Says}
use Rattle.base.proofs.SaysLaws.{says_so, says_not, says_by, says_as, says_and, says_or, says_no, says_le, says_eq, says_true, says_text, says_empty}
use Rattle.contents.specs.Words.{Text, Line, Size, Just, capital_or_digit, Digits, Capitals, CapitalsOrDigits, join, Perhaps, with_mark, BeginsWith}
use Rattle.contents.specs.Lines.{Reference, two_digits, Purpose, Payment, PartyByBik, Bic, Inn, TaxLine, Way, RppLine}
use Rattle.contents.specs.Fields.{IsPurpose, IsPayment, IsOwnAccount, IsParty, IsBic, IsAccount, IsTax, LooksTax, IsRpp}
use Rattle.contents.specs.Tests.{sized, digits, all_of, piece, sizes, just, starts, perhaps, ends, has_pair, is_reference, number_in, is_purpose, payment_parts, payment_test, is_payment, is_own_account, bik_parts, is_party_by_bik, is_party, bic_parts, is_bic, is_account, is_inn, tax_parts, is_tax, looks_tax, is_way, rpp_pieces, rpp_parts, rpp_test, is_rpp}
use Rattle.contents.specs.Parts.{unmarked}
use Rattle.contents.proofs.CutLaws.{FrontIs, cut_whole, cut_once}
use Rattle.contents.proofs.Laws.{mark_some, mark_size_lem, some_just}

-- ---- parts
pub size_says : (a n : ℕ) (s : Text) → Says (Size a n s) (sizes a n s)
size_says a n s = says_as (λ p. record { least = p.0; most = p.1 }) (λ z. (z.least, z.most)) (says_and (says_le a (length s)) (says_le (length s) n))

pub just_says : (kind : ℕ → Bool) (n : ℕ) (s : Text) → Says (Just kind n s) (just kind n s)
just_says kind n s = says_as (λ p. record { size = p.0; each = p.1 }) (λ j. (j.size, j.each)) (says_and (says_eq (length s) n) (says_true (all kind s)))

-- a word, and behind it such a text
pub starts_says : (w : String) (P : Text → Type 0) (p : Text → Bool) → ((s : Text) → Says (P s) (p s)) → (l : Line)
    → Says ((s : Text) × (l ≡ bytes w ++ s) × P s) (starts (bytes w) l && p (drop (length (bytes w)) l))
starts_says w P p h l = says_as made tested (says_and (says_text (take n l) (bytes w)) (h (drop n l)))
  where
    n : ℕ
    n = length (bytes w)

    made : (take n l ≡ bytes w) × P (drop n l) → (s : Text) × (l ≡ bytes w ++ s) × P s
    made p = (drop n l, sym (take-append-drop n l) ∙ ap (λ (t : Text). t ++ drop n l) p.0, p.1)

    tested : (s : Text) × (l ≡ bytes w ++ s) × P s → (take n l ≡ bytes w) × P (drop n l)
    tested p = (ap (take n) p.1 ∙ take_at (bytes w) p.0 n refl, subst P (sym (ap (drop n) p.1 ∙ drop_at (bytes w) p.0 n refl)) p.2)

-- perhaps a mark, and behind it such a part, which is not empty
pub perhaps_says : (mark : String) (P : Text → Type 0) (p : Text → Bool) → ((s : Text) → Says (P s) (p s)) → Not (P []) → (s : Text)
    → Says ((part : Text) × Perhaps P part × (s ≡ with_mark mark part)) (perhaps (bytes mark) p s)
perhaps_says mark P p h z [] = says_so ([], inl refl, refl)
perhaps_says mark P p h z (x ∷ s) = says_as made tested (starts_says mark P p h (x ∷ s))
  where
    some : (t : Text) → P t → bytes mark ++ t ≡ with_mark mark t
    some [] q = absurd (z q)
    some (y ∷ t) q = refl

    made : (t : Text) × (x ∷ s ≡ bytes mark ++ t) × P t → (part : Text) × Perhaps P part × (x ∷ s ≡ with_mark mark part)
    made q = (q.0, inr q.2, q.1 ∙ some q.0 q.2)

    tested : (part : Text) × Perhaps P part × (x ∷ s ≡ with_mark mark part) → (t : Text) × (x ∷ s ≡ bytes mark ++ t) × P t
    tested (part, inl e, q) = absurd (false≢true (ap empty (q ∙ ap (with_mark mark) e)))
    tested (part, inr e, q) = (part, q ∙ sym (some part e), e)

-- ---- C20
pub begins_says : (l : Line) → Says (BeginsWith "/" l) (begins 47 l)
begins_says [] = says_not (λ b. true≢false (ap empty b.1))
begins_says (x ∷ l) = says_by (λ e. (l, ap (λ (y : ℕ). y ∷ l) (eqb-true x 47 e))) (λ b. ap (begins 47) b.1)

ends_says : (l : Line) → Says ((s : Text) × (l ≡ s ++ bytes "/")) (ends 47 l)
unfolding ends
ends_says [] = says_not (λ b. none b.0 b.1)
  where
    none : (s : Text) → [] ≡ s ++ bytes "/" → ⊥
    none [] e = true≢false (ap empty e)
    none (y ∷ s) e = true≢false (ap empty e)
ends_says (x ∷ []) = says_by (λ e. ([], ap (λ (y : ℕ). y ∷ []) (eqb-true x 47 e))) (λ b. last b.0 b.1)
  where
    last : (s : Text) → x ∷ [] ≡ s ++ bytes "/" → eqb x 47 ≡ true
    last [] e = ap (begins 47) e
    last (y ∷ []) e = absurd (true≢false (ap (λ (t : Text). empty (drop 1 t)) e))
    last (y ∷ z ∷ s) e = absurd (true≢false (ap (λ (t : Text). empty (drop 1 t)) e))
ends_says (x ∷ y ∷ l) = says_as (λ b. (x ∷ b.0, ap (λ (t : Text). x ∷ t) b.1)) (λ b. more b.0 b.1) (ends_says (y ∷ l))
  where
    more : (s : Text) → x ∷ y ∷ l ≡ s ++ bytes "/" → (s : Text) × (y ∷ l ≡ s ++ bytes "/")
    more [] e = absurd (false≢true (ap (λ (t : Text). empty (drop 1 t)) e))
    more (z ∷ s) e = (s, ap (drop 1) e)

pair_says : (l : Line) → Says ((s t : Text) × (l ≡ join (s ∷ bytes "//" ∷ t ∷ []))) (has_pair 47 l)
unfolding has_pair
pair_says [] = says_not (λ b. none b.0 b.1 b.2)
  where
    none : (s t : Text) → [] ≡ s ++ (bytes "//" ++ t) → ⊥
    none [] t e = true≢false (ap empty e)
    none (y ∷ s) t e = true≢false (ap empty e)
pair_says (x ∷ l) = says_as (⊎_elim here later) (λ b. find b.0 b.1 b.2) (says_or (says_and (says_eq x 47) (begins_says l)) (pair_says l))
  where
    here : (x ≡ 47) × BeginsWith "/" l → (s t : Text) × (x ∷ l ≡ join (s ∷ bytes "//" ∷ t ∷ []))
    here p = ([], p.1.0, ap₂ (λ (y : ℕ) (k : Line). y ∷ k) p.0 p.1.1)

    later : (s t : Text) × (l ≡ join (s ∷ bytes "//" ∷ t ∷ [])) → (s t : Text) × (x ∷ l ≡ join (s ∷ bytes "//" ∷ t ∷ []))
    later p = (x ∷ p.0, p.1, ap (λ (k : Line). x ∷ k) p.2)

    find : (s t : Text) → x ∷ l ≡ s ++ (bytes "//" ++ t) → ((x ≡ 47) × BeginsWith "/" l) or ((s t : Text) × (l ≡ join (s ∷ bytes "//" ∷ t ∷ [])))
    find [] t e = inl (cc, (t, ap (drop 1) e))
    find (y ∷ s) t e = inr (s, t, ap (drop 1) e)

pub reference_says : (l : Line) → Says (Reference l) (is_reference l)
unfolding is_reference
reference_says l =
    says_as
    (λ p. record { size = p.0; no_first = λ s e. p.1.0 (s, e); no_last = λ s e. p.1.1.0 (s, e); no_pair = λ s t e. p.1.1.1.0 (s, t, e); no_plus = p.1.1.1.1 })
    (λ r. (r.size, (λ b. r.no_first b.0 b.1, (λ b. r.no_last b.0 b.1, (λ b. r.no_pair b.0 b.1 b.2, r.no_plus)))))
    (says_and (size_says 1 16 l) (says_and (says_no (begins_says l)) (says_and (says_no (ends_says l)) (says_and (says_no (pair_says l)) (says_no (says_text l (bytes "+")))))))

-- ---- C26T
number_in_lem : (n : ℕ) (l : Line) → l ≡ bytes "S" ++ two_digits n → number_in l ≡ n
number_in_lem n l e = ap number_in e ∙ go
  where
    go : (48 + n / 10 - 48) * 10 + (48 + n % 10 - 48) ≡ n
    go = let a : 48 + n / 10 - 48 ≡ n / 10 = omega arith in let b : 48 + n % 10 - 48 ≡ n % 10 = omega arith in rw (a, b) (div-add-mod' n 10)

pub purpose_says : (l : Line) → Says (IsPurpose l) (is_purpose l)
unfolding is_purpose
purpose_says l =
    says_as (λ p. (number_in l, record { least = p.0.0; most = p.0.1; other = p.1.0; line = p.1.1 })) (λ p. tested p.0 p.1)
    (says_and (says_and (says_le 1 (number_in l)) (says_le (number_in l) 26)) (says_and (says_no (says_eq (number_in l) 15)) (says_text l (bytes "S" ++ two_digits (number_in l)))))
  where
    tested : (n : ℕ) → Purpose n l → ((1 ≤ number_in l) × (number_in l ≤ 26)) × (Not (number_in l ≡ 15) × (l ≡ bytes "S" ++ two_digits (number_in l)))
    tested n p =
        subst (λ (k : ℕ). ((1 ≤ k) × (k ≤ 26)) × (Not (k ≡ 15) × (l ≡ bytes "S" ++ two_digits k))) (sym (number_in_lem n l p.line))
        ((p.least, p.most), (p.other, p.line))

-- ---- C32A: its parts are those that the line is cut into
pub paid_parts : {date currency whole decimals l : Text} → Payment date currency whole decimals l → payment_parts l ≡ date ∷ currency ∷ whole ∷ bytes "," ∷ decimals ∷ []
unfolding digit
paid_parts {date} {currency} {whole} {decimals} t =
    ap payment_parts t.line
    ∙ cut_once (sized 6 ∷ sized 3 ∷ digits ∷ sized 1 ∷ []) (date ∷ currency ∷ whole ∷ bytes "," ∷ decimals ∷ []) (t.day.size, (t.money.size, ((t.units.each, refl), (refl, tt))))

abbrev PaidTests : List Text → Type 0
PaidTests ts =
    Digits 6 (piece 0 ts) × (Capitals 3 (piece 1 ts) × (((1 ≤ length (piece 2 ts)) × (all digit (piece 2 ts) ≡ true)) × ((piece 3 ts ≡ bytes ",")
    × (((length (piece 4 ts) ≤ 2) × (all digit (piece 4 ts) ≡ true)) × (length (piece 2 ts) + (1 + length (piece 4 ts)) ≤ 15)))))

paid_tests : (ts : List Text) → Says (PaidTests ts) (payment_test ts)
paid_tests ts =
    says_and (just_says digit 6 (piece 0 ts)) (says_and (just_says capital 3 (piece 1 ts)) (says_and (says_and (says_le 1 (length (piece 2 ts))) (says_true (all digit (piece 2 ts))))
    (says_and (says_text (piece 3 ts) (bytes ",")) (says_and (says_and (says_le (length (piece 4 ts)) 2) (says_true (all digit (piece 4 ts)))) (says_le (length (piece 2 ts) + (1 + length (piece 4 ts))) 15)))))

pub payment_says : (l : Line) → Says (IsPayment l) (is_payment l)
unfolding is_payment
payment_says l = says_as made (λ p. tested p.4) (paid_tests (payment_parts l))
  where
    ts : List Text
    ts = payment_parts l

    made : PaidTests (payment_parts l) → IsPayment l
    made p = (
      piece 0 (payment_parts l),
      piece 1 (payment_parts l),
      piece 2 (payment_parts l),
      piece 4 (payment_parts l),
      record {
        day = p.0;
        money = p.1.0;
        units = record { least = p.1.1.0.0; each = p.1.1.0.1 };
        parts = record { least = omega arith; most = p.1.1.1.1.0.0; each = p.1.1.1.1.0.1 };
        amount = simp length-append p.1.1.1.1.1;
        line =
            sym (cut_whole (sized 6 ∷ sized 3 ∷ digits ∷ sized 1 ∷ []) l)
            ∙ ap (λ (x : Text). join (piece 0 (payment_parts l) ∷ piece 1 (payment_parts l) ∷ piece 2 (payment_parts l) ∷ x ∷ piece 4 (payment_parts l) ∷ [])) p.1.1.1.0;
      },
    )

    tested : {date currency whole decimals : Text} → Payment date currency whole decimals l → PaidTests (payment_parts l)
    tested t = subst PaidTests (sym (paid_parts t)) (t.day, (t.money, ((t.units.least, t.units.each), (refl, ((t.parts.most, t.parts.each), simp length-append at t.amount)))))

-- ---- C53B, Caccount, and how a tax line begins: a word and such a text
pub own_says : (l : Line) → Says (IsOwnAccount l) (is_own_account l)
unfolding is_own_account
own_says l =
    says_as (λ p. (p.0, record { number = p.2; line = p.1 })) (λ p. (p.0, p.1.line, p.1.number)) (starts_says "/D/" (Digits 20) (just digit 20) (just_says digit 20) l)

pub account_says : (l : Line) → Says (IsAccount l) (is_account l)
unfolding is_account
account_says l =
    says_as (λ p. (p.0, record { size = p.2.0; first = p.2.1; line = p.1 })) (λ p. (p.0, p.1.line, (p.1.size, p.1.first)))
    (starts_says "/" (λ (s : Text). Size 1 34 s × Not (BeginsWith "/" s)) (λ (s : Text). sizes 1 34 s && not (begins 47 s)) (λ s. says_and (size_says 1 34 s) (says_no (begins_says s))) l)

digit_says : (s : Text) → Says ((d : ℕ) × (t : Text) × (digit d ≡ true) × (s ≡ d ∷ t)) (digit (byte s 0))
unfolding digit
digit_says [] = says_not (λ p. true≢false (ap empty p.3))
digit_says (x ∷ s) = says_by (λ e. (x, s, e, refl)) (λ p. ap (λ (t : Text). digit (byte t 0)) p.3 ∙ p.2)

pub looks_says : (l : Line) → Says (LooksTax l) (looks_tax l)
unfolding looks_tax
looks_says l =
    says_as (λ p. (p.2.0, p.2.1, record { digit_first = p.2.2; line = p.1 ∙ ap (λ (t : Text). bytes "INN" ++ t) p.2.3 }))
    (λ p. (p.0 ∷ p.1, p.2.line, (p.0, p.1, p.2.digit_first, refl)))
    (says_third (starts_says "INN" (λ (s : Text). (d : ℕ) × (t : Text) × (digit d ≡ true) × (s ≡ d ∷ t)) (λ (s : Text). digit (byte s 0)) digit_says l))
  where
    says_third : {P : Type 0} → Says P (starts (bytes "INN") l && digit (byte (drop 3 l) 0)) → Says P (starts (bytes "INN") l && digit (byte l 3))
    says_third {P} p = subst (λ (b : ℕ). Says P (starts (bytes "INN") l && digit b)) (get_or-drop 3 l 0 0) p

pub looks_by : {l : Line} {r : Bool} → r ≡ looks_tax l → Says (LooksTax l) r
looks_by {l} e = subst (Says (LooksTax l)) (sym e) (looks_says l)

-- ---- Cparty
pub bik_parts_lem : {bik account l : Text} → PartyByBik bik account l → bik_parts l ≡ bytes "//RU" ∷ bik ∷ with_mark "." account ∷ []
bik_parts_lem {bik} {account} t =
    ap bik_parts t.line ∙ cut_once (sized 4 ∷ sized 9 ∷ []) (bytes "//RU" ∷ bik ∷ with_mark "." account ∷ []) (refl, (t.nine.size, tt))

no_digits : (n : ℕ) → Not (n ≡ 0) → Not (Digits n [])
no_digits n z d = z (sym d.size)

abbrev BikTests : List Text → Type 0
BikTests ts =
    (piece 0 ts ≡ bytes "//RU") × (Digits 9 (piece 1 ts) × ((take 2 (piece 1 ts) ≡ bytes "04") × ((account : Text) × Perhaps (Digits 20) account × (piece 2 ts ≡ with_mark "." account))))

pub bik_says : (l : Line) → Says ((bik account : Text) × PartyByBik bik account l) (is_party_by_bik l)
unfolding is_party_by_bik
bik_says l =
    says_as made (λ p. tested p.2)
    (says_and (says_text (piece 0 (bik_parts l)) (bytes "//RU")) (says_and (just_says digit 9 (piece 1 (bik_parts l))) (says_and (says_text (take 2 (piece 1 (bik_parts l))) (bytes "04"))
    (perhaps_says "." (Digits 20) (just digit 20) (just_says digit 20) (no_digits 20 (λ e. absurd (omega arith))) (piece 2 (bik_parts l))))))
  where
    made : BikTests (bik_parts l) → (bik account : Text) × PartyByBik bik account l
    made p = (
      piece 1 (bik_parts l),
      p.1.1.1.0,
      record {
        nine = p.1.0;
        begins = p.1.1.0;
        number = p.1.1.1.1;
        line = sym (cut_whole (sized 4 ∷ sized 9 ∷ []) l) ∙ ap₂ (λ (x y : Text). join (x ∷ piece 1 (bik_parts l) ∷ y ∷ [])) p.0 p.1.1.1.2;
      },
    )

    tested : {bik account : Text} → PartyByBik bik account l → BikTests (bik_parts l)
    tested {bik} {account} t = subst BikTests (sym (bik_parts_lem t)) (refl, (t.nine, (t.begins, (account, t.number, refl))))

pub party_says : (l : Line) → Says (IsParty l) (is_party l)
unfolding is_party
party_says l =
    says_or (bik_says l)
    (says_as (λ p. (p.0, record { number = p.2; line = p.1 })) (λ p. (p.0, p.1.line, p.1.number)) (starts_says "/" (Digits 20) (just digit 20) (just_says digit 20) l))

-- ---- Cbic
abbrev BicTests : List Text → Type 0
BicTests ts = Capitals 4 (piece 0 ts) × (Capitals 2 (piece 1 ts) × (CapitalsOrDigits 2 (piece 2 ts) × Perhaps (CapitalsOrDigits 3) (piece 3 ts)))

pub bic_says : (l : Line) → Says (IsBic l) (is_bic l)
unfolding is_bic
bic_says l =
    says_as (λ p. made p.0 p.1.0 p.1.1.0 p.1.1.1) (λ p. tested p.4)
    (says_and (just_says capital 4 (piece 0 (bic_parts l))) (says_and (just_says capital 2 (piece 1 (bic_parts l))) (says_and (just_says capital_or_digit 2 (piece 2 (bic_parts l)))
    (says_or (says_empty (piece 3 (bic_parts l))) (just_says capital_or_digit 3 (piece 3 (bic_parts l)))))))
  where
    made : Capitals 4 (piece 0 (bic_parts l)) → Capitals 2 (piece 1 (bic_parts l)) → CapitalsOrDigits 2 (piece 2 (bic_parts l)) → Perhaps (CapitalsOrDigits 3) (piece 3 (bic_parts l)) → IsBic l
    made a b c d = (piece 0 (bic_parts l), piece 1 (bic_parts l), piece 2 (bic_parts l), piece 3 (bic_parts l), record { four = a; two = b; town = c; three = d; line = sym (cut_whole (sized 4 ∷ sized 2 ∷ sized 2 ∷ []) l) })

    tested : {bank land location branch : Text} → Bic bank land location branch l → BicTests (bic_parts l)
    tested {bank} {land} {location} {branch} t =
        subst BicTests
        (sym (ap bic_parts t.line ∙ cut_once (sized 4 ∷ sized 2 ∷ sized 2 ∷ []) (bank ∷ land ∷ location ∷ branch ∷ []) (t.four.size, (t.two.size, (t.town.size, tt)))))
        (t.four, (t.two, (t.town, t.three)))

-- ---- Ctax
inn_says : (twelve : Bool) (s : Text) → Says (Inn twelve s) (is_inn twelve s)
inn_says true s = says_or (just_says digit 10 s) (just_says digit 12 s)
inn_says false s = just_says digit 10 s

inn_digits : (twelve : Bool) (s : Text) → Inn twelve s → all digit s ≡ true
inn_digits true s (inl d) = d.each
inn_digits true s (inr d) = d.each
inn_digits false s d = d.each

-- a mark that is no digit, or nothing, ends digits
kpp_ends : (kpp : Text) → digit (byte (with_mark ".KPP" kpp) 0) ≡ false
unfolding digit
kpp_ends [] = refl
kpp_ends (x ∷ s) = refl

pub tax_parts_lem : {twelve : Bool} {inn kpp l : Text} → TaxLine twelve inn kpp l → tax_parts l ≡ bytes "INN" ∷ inn ∷ with_mark ".KPP" kpp ∷ []
tax_parts_lem {twelve} {inn} {kpp} t =
    ap tax_parts t.line ∙ cut_once (sized 3 ∷ digits ∷ []) (bytes "INN" ∷ inn ∷ with_mark ".KPP" kpp ∷ []) (refl, ((inn_digits twelve inn t.person, kpp_ends kpp), tt))

abbrev TaxTests : Bool → List Text → Type 0
TaxTests twelve ts = (piece 0 ts ≡ bytes "INN") × (Inn twelve (piece 1 ts) × ((kpp : Text) × Perhaps (Digits 9) kpp × (piece 2 ts ≡ with_mark ".KPP" kpp)))

pub tax_says : (twelve : Bool) (l : Line) → Says (IsTax twelve l) (is_tax twelve l)
unfolding is_tax
tax_says twelve l =
    says_as made (λ p. tested p.2)
    (says_and (says_text (piece 0 (tax_parts l)) (bytes "INN")) (says_and (inn_says twelve (piece 1 (tax_parts l)))
    (perhaps_says ".KPP" (Digits 9) (just digit 9) (just_says digit 9) (no_digits 9 (λ e. absurd (omega arith))) (piece 2 (tax_parts l)))))
  where
    made : TaxTests twelve (tax_parts l) → IsTax twelve l
    made p = (
      piece 1 (tax_parts l),
      p.1.1.0,
      record {
        person = p.1.0;
        reason = p.1.1.1;
        line = sym (cut_whole (sized 3 ∷ digits ∷ []) l) ∙ ap₂ (λ (x y : Text). join (x ∷ piece 1 (tax_parts l) ∷ y ∷ [])) p.0 p.1.1.2;
      },
    )

    tested : {inn kpp : Text} → TaxLine twelve inn kpp l → TaxTests twelve (tax_parts l)
    tested {inn} {kpp} t = subst (TaxTests twelve) (sym (tax_parts_lem t)) (refl, (t.person, (kpp, t.reason, refl)))

-- ---- Crpp
way_says : (w : Text) → Says (Way w) (is_way w)
way_says w = says_or (says_text w (bytes "POST")) (says_or (says_text w (bytes "TELG")) (says_or (says_text w (bytes "ELEK")) (says_text w (bytes "BESP"))))

pub way_size : (w : Text) → Way w → length w ≡ 4
way_size w (inl e) = ap length e
way_size w (inr (inl e)) = ap length e
way_size w (inr (inr (inl e))) = ap length e
way_size w (inr (inr (inr e))) = ap length e

-- a value date is all or none of the seven bytes that it takes: two digits behind it, or alone, are fewer
value_all : (value sort : Text) → Perhaps (Digits 6) value → Perhaps (Digits 2) sort → FrontIs (all_of (length (bytes ".") + 6)) (with_mark "." value) (with_mark "." sort)
value_all value sort (inl e) q = let s = mark_size_lem "." sort in inr (ap (with_mark ".") e, omega (arith, some_just 2 sort q))
value_all value sort (inr d) q = inl (omega (arith, ap length (mark_some "." value (omega (arith, d.size))), d.size))

pub rpp_parts_lem : {number date turn way value sort l : Text} → RppLine number date turn way value sort l
    → rpp_parts l ≡ bytes "/RPP/" ∷ number ∷ bytes "." ∷ date ∷ bytes "." ∷ turn ∷ bytes "." ∷ way ∷ with_mark "." value ∷ with_mark "." sort ∷ []
unfolding digit
rpp_parts_lem {number} {date} {turn} {way} {value} {sort} t =
    ap rpp_parts t.line
    ∙ cut_once rpp_pieces (bytes "/RPP/" ∷ number ∷ bytes "." ∷ date ∷ bytes "." ∷ turn ∷ bytes "." ∷ way ∷ with_mark "." value ∷ with_mark "." sort ∷ [])
    (refl, ((t.serial.each, refl), (refl, (t.day.size, (refl, (t.order.size, (refl, (way_size way t.kind, (value_all value sort t.due t.last, tt)))))))))

abbrev RppTests : List Text → Type 0
RppTests ts =
    (piece 0 ts ≡ bytes "/RPP/") × (((1 ≤ length (piece 1 ts)) × ((length (piece 1 ts) ≤ 6) × (all digit (piece 1 ts) ≡ true))) × ((piece 2 ts ≡ bytes ".")
    × (Digits 6 (piece 3 ts) × ((piece 4 ts ≡ bytes ".") × (Digits 1 (piece 5 ts) × ((piece 6 ts ≡ bytes ".")
    × (Way (piece 7 ts) × (((value : Text) × Perhaps (Digits 6) value × (piece 8 ts ≡ with_mark "." value))
    × ((sort : Text) × Perhaps (Digits 2) sort × (piece 9 ts ≡ with_mark "." sort))))))))))

rpp_tests : (ts : List Text) → Says (RppTests ts) (rpp_test ts)
rpp_tests ts =
    says_and (says_text (piece 0 ts) (bytes "/RPP/"))
    (says_and (says_and (says_le 1 (length (piece 1 ts))) (says_and (says_le (length (piece 1 ts)) 6) (says_true (all digit (piece 1 ts)))))
    (says_and (says_text (piece 2 ts) (bytes ".")) (says_and (just_says digit 6 (piece 3 ts)) (says_and (says_text (piece 4 ts) (bytes "."))
    (says_and (just_says digit 1 (piece 5 ts)) (says_and (says_text (piece 6 ts) (bytes ".")) (says_and (way_says (piece 7 ts))
    (says_and (perhaps_says "." (Digits 6) (just digit 6) (just_says digit 6) (no_digits 6 (λ e. absurd (omega arith))) (piece 8 ts))
    (perhaps_says "." (Digits 2) (just digit 2) (just_says digit 2) (no_digits 2 (λ e. absurd (omega arith))) (piece 9 ts))))))))))

pub rpp_says : (l : Line) → Says (IsRpp l) (is_rpp l)
unfolding is_rpp
rpp_says l = says_as (made (rpp_parts l) (cut_whole rpp_pieces l)) (λ p. tested p.6) (rpp_tests (rpp_parts l))
  where
    made : (ts : List Text)
        → join (piece 0 ts ∷ piece 1 ts ∷ piece 2 ts ∷ piece 3 ts ∷ piece 4 ts ∷ piece 5 ts ∷ piece 6 ts ∷ piece 7 ts ∷ piece 8 ts ∷ piece 9 ts ∷ []) ≡ l → RppTests ts → IsRpp l
    made ts w (a, (b, (c, (d, (e, (f, (g, (h, (i, j))))))))) = (
      piece 1 ts,
      piece 3 ts,
      piece 5 ts,
      piece 7 ts,
      i.0,
      j.0,
      record {
        serial = record { least = b.0; most = b.1.0; each = b.1.1 };
        day = d;
        order = f;
        kind = h;
        due = i.1;
        last = j.1;
        line =
            sym w ∙ ap₂ (λ (x y : Text). join (x ∷ piece 1 ts ∷ y ∷ piece 3 ts ∷ piece 4 ts ∷ piece 5 ts ∷ piece 6 ts ∷ piece 7 ts ∷ piece 8 ts ∷ piece 9 ts ∷ [])) a c
            ∙ ap₂ (λ (x y : Text). join (bytes "/RPP/" ∷ piece 1 ts ∷ bytes "." ∷ piece 3 ts ∷ x ∷ piece 5 ts ∷ y ∷ piece 7 ts ∷ piece 8 ts ∷ piece 9 ts ∷ [])) e g
            ∙ ap₂ (λ (x y : Text). join (bytes "/RPP/" ∷ piece 1 ts ∷ bytes "." ∷ piece 3 ts ∷ bytes "." ∷ piece 5 ts ∷ bytes "." ∷ piece 7 ts ∷ x ∷ y ∷ [])) i.2 j.2;
      },
    )

    tested : {number date turn way value sort : Text} → RppLine number date turn way value sort l → RppTests (rpp_parts l)
    tested {value = value} {sort = sort} t =
        subst RppTests (sym (rpp_parts_lem t))
        (refl, ((t.serial.least, (t.serial.most, t.serial.each)), (refl, (t.day, (refl, (t.order, (refl, (t.kind, ((value, t.due, refl), (sort, t.last, refl))))))))))

-- ---- a line has its parts once: they are the pieces that it is cut into
pub unmarked_mark : (mark : String) (s : Text) → unmarked mark (with_mark mark s) ≡ s
unmarked_mark mark [] = drop-nil (length (bytes mark))
unmarked_mark mark (x ∷ s) = drop_at (bytes mark) (x ∷ s) (length (bytes mark)) refl

mark_once : (mark : String) (a b : Text) → with_mark mark a ≡ with_mark mark b → a ≡ b
mark_once mark a b e = sym (unmarked_mark mark a) ∙ ap (unmarked mark) e ∙ unmarked_mark mark b

pub paid_once : {d c w m d' c' w' m' l : Text} → Payment d c w m l → Payment d' c' w' m' l → (d ≡ d') × (c ≡ c') × (w ≡ w') × (m ≡ m')
paid_once t u =
    let e = sym (paid_parts t) ∙ paid_parts u in
    (ap (piece 0) e, ap (piece 1) e, ap (piece 2) e, ap (piece 4) e)

pub bik_once : {b a b' a' l : Text} → PartyByBik b a l → PartyByBik b' a' l → (b ≡ b') × (a ≡ a')
bik_once {a = a} {a' = a'} t u = let e = sym (bik_parts_lem t) ∙ bik_parts_lem u in (ap (piece 1) e, mark_once "." a a' (ap (piece 2) e))

pub tax_once : {twelve : Bool} {i k i' k' l : Text} → TaxLine twelve i k l → TaxLine twelve i' k' l → (i ≡ i') × (k ≡ k')
tax_once {k = k} {k' = k'} t u = let e = sym (tax_parts_lem t) ∙ tax_parts_lem u in (ap (piece 1) e, mark_once ".KPP" k k' (ap (piece 2) e))

pub rpp_once : {n d t w v s n' d' t' w' v' s' l : Text} → RppLine n d t w v s l → RppLine n' d' t' w' v' s' l → (n ≡ n') × (d ≡ d') × (t ≡ t') × (w ≡ w') × (v ≡ v') × (s ≡ s')
rpp_once {v = v} {s = s} {v' = v'} {s' = s'} x y =
    let e = sym (rpp_parts_lem x) ∙ rpp_parts_lem y in
    (ap (piece 1) e, ap (piece 3) e, ap (piece 5) e, ap (piece 7) e, mark_once "." v v' (ap (piece 8) e), mark_once "." s s' (ap (piece 9) e))
