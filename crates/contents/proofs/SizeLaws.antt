-- A right content is one to six lines, each of 1 to 35 bytes (section C). Assumes nothing.
use Prim.Native.Nat.{ℕ, suc, ◌+◌, ◌*◌, ◌≤◌}
use Prim.Native.String.{String}
use mathlib.Core.Path.{◌≡◌, refl, ap}
use mathlib.Core.Bool.{Bool, true, false}
use mathlib.Core.Logic.{inl, inr}
use mathlib.Core.List.{List, [], ◌∷◌, ◌++◌, map}
use native.Mathlib.Omega.{arith}
use lib.ListN.{length, length-append}
use Rattle.base.specs.Bytes.{empty}
use Rattle.base.specs.Quoted.{bytes}
use Rattle.base.specs.Says.{◌or◌}
use Rattle.base.specs.Examples.{AllHold}
use Rattle.fields.specs.Field.{field}
use Rattle.fields.specs.Places.{lines_size}
use Rattle.types.specs.declared.Form.{Form}
use Rattle.types.specs.Sign.{first_line}
use Rattle.contents.specs.declared.Content.{Content}
use Rattle.contents.specs.declared.Content.TheVariants as holds
use Rattle.contents.specs.Words.{Text, Line, Size, join}
use Rattle.contents.specs.Lines.{Reference, Name, code_opening, code_closing}
use Rattle.contents.specs.Fields.{Is, IsPurpose, IsPayment, IsOwnAccount, IsParty, IsBic, IsAccount, IsTax, IsRpp, One, Then, Names, Beside, Customer, Details, InRest, Right}
use Rattle.contents.specs.Tags.{held_by}
use Rattle.contents.specs.Rule8.{right_field}
use Rattle.contents.proofs.Laws.{mark_size_lem, some_just}
use Rattle.contents.proofs.LineLaws.{account_size}
use Rattle.contents.proofs.TaxLaws.{tax_tests, inn_range}
use Rattle.contents.proofs.LineTests.{way_size}
use Rattle.contents.proofs.RuleLaws.{field_says}

-- ---- lines
reference_name : (l : Line) → Reference l → Name l
reference_name l r = let z = r.size in record { least = z.least; most = omega arith }

purpose_name : (l : Line) → IsPurpose l → Name l
purpose_name l p = let e = ap length p.1.line in record { least = omega arith; most = omega arith }

payment_name : (l : Line) → IsPayment l → Name l
payment_name l (date, money, whole, parts, p) =
    let e = simp length-append at (ap length p.line) in
    let a = simp length-append at p.amount in
    let d = p.day in
    let m = p.money in
    record { least = omega arith; most = omega arith }

own_name : (l : Line) → IsOwnAccount l → Name l
own_name l p = let e = simp length-append at (ap length p.1.line) in let n = p.1.number in record { least = omega arith; most = omega arith }

party_name : (l : Line) → IsParty l → Name l
party_name l (inl (bik, account, p)) =
    let e = simp length-append at (ap length p.line) in
    let c = p.nine in
    let b = mark_size_lem "." account in
    let n = some_just 20 account p.number in
    record { least = omega arith; most = omega arith }
party_name l (inr (account, p)) = let e = simp length-append at (ap length p.line) in let n = p.number in record { least = omega arith; most = omega arith }

bic_name : (l : Line) → IsBic l → Name l
bic_name l (bank, land, location, branch, p) =
    let e = simp length-append at (ap length p.line) in
    let a = p.four in
    let b = p.two in
    let c = p.town in
    let d = some_just 3 branch p.three in
    record { least = omega arith; most = omega arith }

account_name : (l : Line) → IsAccount l → Name l
account_name l a = let z = account_size l a in record { least = omega (arith, z.0); most = z.1 }

tax_name_lem : (twelve : Bool) (l : Line) → IsTax twelve l → Name l
tax_name_lem twelve l (inn, kpp, p) = go (tax_tests twelve inn kpp l p).size
  where
    go : (length l ≡ length inn + 3) or (length l ≡ length inn + 16) → Name l
    go (inl e) = let r = (inn_range twelve (length inn) (tax_tests twelve inn kpp l p).count).1 in record { least = omega arith; most = omega arith }
    go (inr e) = let r = (inn_range twelve (length inn) (tax_tests twelve inn kpp l p).count).1 in record { least = omega arith; most = omega arith }

rpp_name : (l : Line) → IsRpp l → Name l
rpp_name l (number, date, turn, way, value, sort, p) =
    let e = simp length-append at (ap length p.line) in
    let n = p.serial in
    let d = p.day in
    let o = p.order in
    let w = way_size way p.kind in
    let b = mark_size_lem "." value in
    let v = some_just 6 value p.due in
    let c = mark_size_lem "." sort in
    let s = some_just 2 sort p.last in
    record { least = omega arith; most = omega arith }

-- ---- a field's lines
wider : {n m : ℕ} (ls : List Line) → n ≤ m → Names n ls → Names m ls
wider ls h p = let a = p.most in record { least = p.least; most = omega arith; each = p.each }

module _ {P : Line → Type 0} (h : (l : Line) → P l → Name l) where
  one_names : (ls : List Line) → One P ls → Names 1 ls
  one_names [] p = absurd p
  one_names (l ∷ []) p = record { least = omega arith; most = omega arith; each = (h l p, tt) }
  one_names (l ∷ k ∷ ls) p = absurd p

  then_names : {Q : List Line → Type 0} {n : ℕ} → ((ls : List Line) → Q ls → Names n ls) → (ls : List Line) → Then P Q ls → Names (suc n) ls
  then_names g [] p = absurd p
  then_names g (l ∷ ls) p = let r = g ls p.1 in let m = r.most in record { least = omega arith; most = omega arith; each = (h l p.0, r.each) }

is_names : (w : String) → Size 1 35 (bytes w) → (ls : List Line) → One (Is w) ls → Names 6 ls
is_names w z ls p = wider ls (omega arith) (one_names (λ l e. rw e z) ls p)

beside_names : (twelve : Bool) (ls : List Line) → Beside twelve ls → Names 4 ls
beside_names twelve ls (inl p) = then_names (tax_name_lem twelve) (λ k n. n) ls p
beside_names twelve ls (inr p) = p.1

customer_names : (twelve : Bool) (ls : List Line) → Customer twelve ls → Names 5 ls
customer_names twelve ls p = then_names account_name (beside_names twelve) ls p

marked_names : (later : String) (rest : ℕ) (ts : List Text) → length (bytes later) + rest ≤ 35 → AllHold (Size 1 rest) ts → AllHold Name (map (λ (s : Text). bytes later ++ s) ts)
marked_names later rest [] h e = tt
marked_names later rest (t ∷ ts) h e =
    let n = length-append (bytes later) t in
    let z = e.0 in
    (record { least = omega arith; most = omega arith }, marked_names later rest ts h e.1)

module _ (first later : String) (room rest most : ℕ) (sign : Bool) (h : length (bytes first) + room ≤ 35) (k : length (bytes later) + rest ≤ 35) where
  details_names : (ls : List Line) → (code t : Text) × (ts : List Text) × Details first later room rest most sign code t ts ls → Names most ls
  details_names ls (code, t, ts, d) =
      let n = simp length-append at d.front in
      let c = d.number in
      let front : Name (join (bytes first ∷ code_opening sign ∷ code ∷ code_closing sign ∷ t ∷ [])) = record { least = simp length-append (omega arith); most = simp length-append (omega arith) } in
      record { least = omega (arith, ap length d.lines); most = d.count; each = rw d.lines (front, marked_names later rest ts k d.back) }

rest_names : (most : ℕ) (ls : List Line) → InRest most ls → Names most ls
rest_names most ls (t, ts, d) =
    let n = length-append (bytes "/NZP/") t in
    let z = d.front in
    let front : Name (bytes "/NZP/" ++ t) = record { least = omega arith; most = omega arith } in
    record { least = omega (arith, ap length d.lines); most = d.count; each = rw d.lines (front, marked_names "//" 33 ts (omega arith) d.back) }

-- 70 has at most four lines
pub names_70 : (sign : Bool) (ls : List Line) → Right holds.Details sign ls → Names 4 ls
names_70 sign ls r = details_names "" "" 35 35 4 sign (omega arith) (omega arith) ls r

-- ---- every content
right_names : (c : Content) (sign : Bool) (ls : List Line) → Right c sign ls → Names 6 ls
right_names holds.Unknown sign ls r = absurd r
right_names holds.Reference sign ls r = wider ls (omega arith) (one_names reference_name ls r)
right_names holds.Related sign ls r = is_names "NONREF" (record { least = omega arith; most = omega arith }) ls r
right_names holds.Operation sign ls r = is_names "CRED" (record { least = omega arith; most = omega arith }) ls r
right_names holds.Purpose sign ls r = wider ls (omega arith) (one_names purpose_name ls r)
right_names holds.Payment sign ls r = wider ls (omega arith) (one_names payment_name ls r)
right_names holds.Payer sign ls (inl r) = wider ls (omega arith) (customer_names true ls r)
right_names holds.Payer sign ls (inr r) = wider ls (omega arith) (beside_names true ls r.1)
right_names holds.BankByBic sign ls (inl r) = wider ls (omega arith) (one_names bic_name ls r)
right_names holds.BankByBic sign ls (inr r) = wider ls (omega arith) (then_names party_name (one_names bic_name) ls r)
right_names holds.BankByName sign ls r = wider ls (omega arith) (then_names party_name (λ k n. n) ls r)
right_names holds.OwnAccount sign ls r = wider ls (omega arith) (one_names own_name ls r)
right_names holds.AccountAndBic sign ls r = wider ls (omega arith) (then_names account_name (one_names bic_name) ls r)
right_names holds.BeneficiaryBank sign ls r = wider ls (omega arith) (customer_names false ls r)
right_names holds.Beneficiary sign ls r = wider ls (omega arith) (customer_names true ls r)
right_names holds.Details sign ls r = wider ls (omega arith) (names_70 sign ls r)
right_names holds.Charges sign ls r = is_names "OUR" (record { least = omega arith; most = omega arith }) ls r
right_names holds.DocumentAndRest sign ls (inl r) = wider ls (omega arith) (one_names rpp_name ls r)
right_names holds.DocumentAndRest sign ls (inr (inl r)) = rest_names 6 ls r
right_names holds.DocumentAndRest sign ls (inr (inr r)) = then_names rpp_name (rest_names 5) ls r
right_names holds.DocumentAndDetails sign ls (inl r) = details_names "/NZP/" "//" 30 33 6 sign (omega arith) (omega arith) ls r
right_names holds.DocumentAndDetails sign ls (inr r) = then_names rpp_name (details_names "/NZP/" "//" 30 33 5 sign (omega arith) (omega arith)) ls r
right_names holds.Regulatory sign ls r = wider ls (omega arith) r.lines

-- ---- so none is empty, and none is long
names_some : {n : ℕ} (ls : List Line) → Names n ls → empty (first_line ls) ≡ false
names_some [] p = absurd (omega (arith, p.least))
names_some ([] ∷ ls) p = absurd (omega (arith, p.each.0.least))
names_some ((x ∷ l) ∷ ls) p = refl

pub right_nonempty : (form : Form) (sign : Bool) (t : List ℕ) (ls : List (List ℕ)) → right_field form sign (field t ls) ≡ true → empty (first_line ls) ≡ false
right_nonempty form sign t ls e = names_some ls (right_names (held_by form t) sign ls ((field_says form sign (field t ls)).0 e))

lines_size_lem : (ls : List Line) → AllHold Name ls → lines_size ls ≤ 37 * length ls
lines_size_lem [] e = omega arith
lines_size_lem (l ∷ ls) e = omega (arith, e.0.most, lines_size_lem ls e.1)

pub right_size : (c : Content) (sign : Bool) (ls : List (List ℕ)) → Right c sign ls → lines_size ls ≤ 37 * 6
right_size c sign ls r = let p = right_names c sign ls r in let m = p.most in omega (arith, lines_size_lem ls p.each)
