-- Words that stand for answers: each stands for one (K4, K9). Assumes nothing.
use Prim.Native.Nat.{ℕ, zero, suc, ◌<◌}
use mathlib.Core.Path.{◌≡◌, refl, sym, ap, ◌∙◌}
use mathlib.Core.Bool.{not}
use mathlib.Core.List.{List}
use mathlib.Core.Logic.{◌↔◌}
use native.Mathlib.Omega.{arith}
use lib.Dec.{eqb}
use borrow.Author.Tests.{ne_eqb}
use Rattle.std.specs.Prelude.{Result, Ok, Err}
use Rattle.types.specs.declared.Form.{Form}
use Rattle.base.specs.Verdicts.{Verdict, Fine, Outcome, Done, Refused, answered}
use Rattle.alphabets.proofs.SizeLaws.{read_small, write_small}
use Rattle.alphabets.proofs.CallTheorems.{read_one, write_one}
use Rattle.base.proofs.ByteLaws.{Bytes}
use Rattle.base.proofs.RuleLaws.{fine_broken}
use Rattle.values.specs.Answers.{kopecks_of, date_of}
use Rattle.message.specs.Message.{verdict_of}
use Rattle.message.specs.declared.Accepted.{Accepted}
use Rattle.base.specs.declared.Refusal.{Refusal}
use Rattle.message.specs.Calls.{paid, amount_of, counted, day_split, day_of}
use Rattle.message.proofs.CheckTheorems.{checks_one}
use Rattle.written.proofs.ToMessageTheorems.{message_one}
use Rattle.sheets.proofs.ToSheetTheorems.{sheet_one}
use Rattle.desk.specs.Answer.{word, checked_word, amount_word, day_word, is_on}
use Rattle.desk.specs.Exports.{WordOf, ReadWord, WrittenWord, CheckWord, MessageWord, SheetWord}
use Rattle.desk.specs.Sizes.{SmallOutcome, SmallCheck}
use Rattle.desk.proofs.Sizes.{text_small, message_small, sheet_small, check_small, kopecks_fit, date_fits}

pub on_is : (sign : ℕ) → not (eqb sign 0) ≡ is_on sign
on_is zero = refl
on_is (suc n) = rw (ne_eqb (suc n) 0 (omega arith))

-- a small answer is told by its word
pub word_one : (o p : Outcome) → SmallOutcome o → SmallOutcome p → word o ≡ word p → o ≡ p
word_one (Done n) (Done m) a b e = ap Done e
word_one (Done n) (Err r) a b e = absurd (omega arith)
word_one (Err r) (Done n) a b e = absurd (omega arith)
word_one (Err r) (Err u) a b e =
    let x = a.0 in
    let y = a.1 in
    let z = b.0 in
    let w = b.1 in
    let f : r.number ≡ u.number = omega arith in
    let g : r.place ≡ u.place = omega arith in
    ap (λ (n : ℕ). Refused n r.place) f ∙ ap (Refused u.number) g

-- below 2^63 exactly if accepted
pub below_iff : (o : Outcome) → SmallOutcome o → (word o < 9223372036854775808) ↔ ((n : ℕ) × (o ≡ Done n))
below_iff (Done n) a = ((λ h. (n, refl)), (λ h. omega arith))
below_iff (Err r) a = ((λ h. absurd (omega arith)), (λ h. absurd (apart h.0 h.1)))
  where
    apart : (n : ℕ) → Refused r.number r.place ≡ Done n → ⊥
    apart n e = let z : ◌≡◌ {A = ℕ} 0 1 = cc in omega arith

-- ---- exports over a call that lends room
module _ {A : Type 0} {w : A → ℕ} {Call : A → List ℕ → Type 0} where
  -- any two outcomes are equal, the room counted, where those of the call are
  pub one_word : {r q : ℕ} {a b : List ℕ} → ((x y : A) (c d : List ℕ) → Call x c → Call y d → (x ≡ y) × (c ≡ d)) → WordOf w Call r a → WordOf w Call q b → (r ≡ q) × (a ≡ b)
  one_word {a = a} {b = b} one m n = let e = one m.answer n.answer a b m.call n.call in (m.value ∙ ap w e.0 ∙ sym n.value, e.1)

  -- number and place fit, where every answer of the call is small
  pub word_fits : {r : ℕ} {a : List ℕ} (Small : A → Type 0) → ((x : A) (c : List ℕ) → Call x c → Small x) → (m : WordOf w Call r a) → Small m.answer
  word_fits {a = a} Small small m = small m.answer a m.call

pub read_word_one : (sign : ℕ) (bank out : List ℕ) {r q : ℕ} {a b : List ℕ} → ReadWord sign bank out r a → ReadWord sign bank out q b → (r ≡ q) × (a ≡ b)
read_word_one sign bank out = one_word (read_one (is_on sign) bank out)

pub write_word_one : (sign : ℕ) (text out : List ℕ) {r q : ℕ} {a b : List ℕ} → WrittenWord sign text out r a → WrittenWord sign text out q b → (r ≡ q) × (a ≡ b)
write_word_one sign text out = one_word (write_one (is_on sign) text out)

pub check_word_one : (form : Form) (m list : List ℕ) {r q : ℕ} {a b : List ℕ} → CheckWord form m list r a → CheckWord form m list q b → (r ≡ q) × (a ≡ b)
check_word_one form m list = one_word (λ x y a b c d. checks_one c d)

pub message_word_one : (s out : List ℕ) {r q : ℕ} {a b : List ℕ} → MessageWord s out r a → MessageWord s out q b → (r ≡ q) × (a ≡ b)
message_word_one s out = one_word (λ x y a b c d. message_one s out c d)

pub sheet_word_one : (form : Form) (m out : List ℕ) {r q : ℕ} {a b : List ℕ} → SheetWord form m out r a → SheetWord form m out q b → (r ≡ q) × (a ≡ b)
sheet_word_one form m out = one_word (λ x y a b c d. sheet_one form m out c d)

pub read_fits : (sign : ℕ) (bank out : List ℕ) {r : ℕ} {a : List ℕ} (m : ReadWord sign bank out r a) → SmallOutcome m.answer
read_fits sign bank out = word_fits SmallOutcome (λ x a c. text_small x (read_small (is_on sign) bank out x a c))

pub write_fits : (sign : ℕ) (text out : List ℕ) {r : ℕ} {a : List ℕ} (m : WrittenWord sign text out r a) → SmallOutcome m.answer
write_fits sign text out = word_fits SmallOutcome (λ x a c. text_small x (write_small (is_on sign) text out x a c))

pub check_fits : (form : Form) (m list : List ℕ) {r : ℕ} {a : List ℕ} (x : CheckWord form m list r a) → SmallCheck x.answer
check_fits form m list = word_fits SmallCheck (check_small form m list)

pub message_fits : (s out : List ℕ) {r : ℕ} {a : List ℕ} (m : MessageWord s out r a) → SmallOutcome m.answer
message_fits s out = word_fits SmallOutcome (message_small s out)

pub sheet_fits : (form : Form) (m out : List ℕ) {r : ℕ} {a : List ℕ} (x : SheetWord form m out r a) → SmallOutcome x.answer
sheet_fits form m out = word_fits SmallOutcome (sheet_small form m out)

-- a check's answer is told by its word, too
pub checked_one : (c d : Result Accepted Refusal) → SmallCheck c → SmallCheck d → checked_word c ≡ checked_word d → c ≡ d
checked_one (Ok c) (Ok d) a b e =
    let x = a.0 in
    let y = b.0 in
    let f : c.fields ≡ d.fields = omega arith in
    let g : c.present ≡ d.present = omega arith in
    ap (λ (i : ℕ). Ok (counted i c.present)) f ∙ ap (λ (i : ℕ). Ok (counted d.fields i)) g
checked_one (Ok c) (Err r) a b e = absurd (omega (arith, a.0, a.1))
checked_one (Err r) (Ok d) a b e = absurd (omega (arith, b.0, b.1))
checked_one (Err r) (Err u) a b e =
    let x = a.1 in
    let y = b.1 in
    let f : r.number ≡ u.number = omega arith in
    let g : r.place ≡ u.place = omega arith in
    ap (λ (n : ℕ). Refused n r.place) f ∙ ap (Refused u.number) g

pub checked_below_iff : (c : Result Accepted Refusal) → SmallCheck c → (checked_word c < 9223372036854775808) ↔ ((n : ℕ) × (w : ℕ) × (c ≡ Ok (counted n w)))
checked_below_iff (Ok c) a = ((λ h. (c.fields, c.present, refl)), (λ h. omega (arith, a.0, a.1)))
checked_below_iff (Err r) a = ((λ h. absurd (omega arith)), (λ h. absurd (apart h.0 h.1 h.2)))
  where
    apart : (n w : ℕ) → Err r ≡ Ok (counted n w) → ⊥
    apart n w e = let z : ◌≡◌ {A = ℕ} 0 1 = cc in omega arith

-- kopecks and a date come out below 2^63 exactly if the message is accepted
pub amount_below_iff : (form : Form) (m : List ℕ) → Bytes m → (amount_word (amount_of form m) < 9223372036854775808) ↔ (verdict_of form m ≡ Fine)
unfolding amount_of
amount_below_iff form m b = go (verdict_of form m)
  where
    go : (v : Verdict) → (amount_word (answered v (kopecks_of (paid form m))) < 9223372036854775808) ↔ (v ≡ Fine)
    go Fine = (λ h. refl, λ e. omega (arith, kopecks_fit form m b))
    go (Err r) = (λ h. absurd (omega arith), λ e. absurd (fine_broken r.number r.place (sym e)))

-- a date split is the date
pub date_whole : (n : ℕ) → day_word (Ok (day_split n)) ≡ n
date_whole n = omega arith

pub day_below_iff : (form : Form) (m : List ℕ) → Bytes m → (day_word (day_of form m) < 9223372036854775808) ↔ (verdict_of form m ≡ Fine)
unfolding day_of
day_below_iff form m b = go (verdict_of form m)
  where
    go : (v : Verdict) → (day_word (answered v (day_split (date_of (paid form m)))) < 9223372036854775808) ↔ (v ≡ Fine)
    go Fine = (λ h. refl, λ e. omega (arith, date_fits form m b, date_whole (date_of (paid form m))))
    go (Err r) = (λ h. absurd (omega arith), λ e. absurd (fine_broken r.number r.place (sym e)))
