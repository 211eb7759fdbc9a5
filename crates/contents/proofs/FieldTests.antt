-- The tests of whole fields are exact: `right` says whether the grammar's `Right` holds (section C, N8). Assumes nothing.
use Prim.Native.Nat.{ℕ, ◌+◌, ◌≤◌}
use Prim.Native.String.{String}
use mathlib.Core.Path.{◌≡◌, refl, sym, ap, ap₂, ◌∙◌, subst}
use mathlib.Core.Bool.{Bool, true, false, true≢false}
use mathlib.Core.List.{List, [], ◌∷◌, ◌++◌, map}
use lib.ListN.{length, length-append}
use Rattle.base.specs.Choice.{all}
use Rattle.base.specs.Bytes.{digit, empty, same}
use Rattle.base.specs.Quoted.{bytes}
use Rattle.std.specs.Borrow.{Bor}
use Rattle.base.specs.Says.{Not, Says}
use Rattle.base.proofs.SaysLaws.{says_so, says_not, says_as, says_and, says_or, says_no, says_le, says_text, says_empty}
use Rattle.base.specs.Examples.{AllHold}
use Rattle.contents.specs.declared.Content.{Content}
use Rattle.contents.specs.declared.Content.TheVariants as holds
use Rattle.contents.specs.Words.{Text, Line, Size, Digits, join}
use Rattle.contents.specs.Lines.{Name, code_opening, code_closing}
use Rattle.contents.specs.Fields.{One, Then, Any, Several, Names, Beside, Customer, Payer, Details, InRest, Right}
use Rattle.contents.specs.Tests.{sized, piece, sizes, is_name, one, first_then, any, several, beside, customer, payer, code_parts, code_test, marked, is_details, is_rest, right}
use Rattle.contents.specs.Answers.{Marked, TestsLines, Passes}
use Rattle.contents.proofs.FieldLaws.{lent}
use Rattle.contents.proofs.CutLaws.{cut_whole, cut_once}
use Rattle.contents.proofs.MarkedLaws.{marked_texts, texts_marked, rest_made, rest_first, rest_later, rest_some}
use Rattle.contents.proofs.LineTests.{size_says, just_says, starts_says, begins_says, reference_says, purpose_says, payment_says, own_says, account_says, looks_says, party_says, bic_says, tax_says, rpp_says}

-- ---- lines of a kind
module _ (P : Line → Type 0) (p : Line → Bool) (h : (l : Line) → Says (P l) (p l)) where
  pub one_says : (ls : List Line) → Says (One P ls) (one p ls)
  one_says [] = says_not (λ x. x)
  one_says (l ∷ []) = h l
  one_says (l ∷ k ∷ ls) = says_not (λ x. x)

  pub then_says : (Q : List Line → Type 0) (q : List Line → Bool) → ((ls : List Line) → Says (Q ls) (q ls)) → (ls : List Line) → Says (Then P Q ls) (first_then p q ls)
  then_says Q q g [] = says_not (λ x. x)
  then_says Q q g (l ∷ ls) = says_and (h l) (g ls)

  pub each_says : (ls : List Line) → Says (AllHold P ls) (all p ls)
  each_says [] = says_so tt
  each_says (l ∷ ls) = says_and (h l) (each_says ls)

  pub several_says : (n : ℕ) (ls : List Line) → Says (Several P n ls) (several p n ls)
  several_says n ls =
      says_as (λ x. record { least = x.0; most = x.1.0; each = x.1.1 }) (λ x. (x.least, (x.most, x.each)))
      (says_and (says_le 1 (length ls)) (says_and (says_le (length ls) n) (each_says ls)))

any_says : (ls : List Line) → Says (Any ls) (any ls)
any_says ls = says_so tt

names_says : (n : ℕ) (ls : List Line) → Says (Names n ls) (several is_name n ls)
names_says n ls = several_says Name is_name (size_says 1 35) n ls

-- the test of names, lent to a reader of lines
pub names_lent : {answers : Bor Line → Bool → Type 0} {n : ℕ} {ls : List Line} {r : Bool} → ((t : Line → Bool) → TestsLines answers t → Says (Several (Passes t) n ls) r)
    → ((l : Bor Line) (q : Bool) → answers l q → Says (Name l.now) q) → Says (Names n ls) r
names_lent f says = lent is_name (size_says 1 35) says f

-- ---- customers
beside_says : (twelve : Bool) (ls : List Line) → Says (Beside twelve ls) (beside twelve ls)
beside_says twelve ls =
    says_or (then_says _ _ (tax_says twelve) (Names 3) (several is_name 3) (names_says 3) ls)
    (says_and (says_no (then_says _ _ looks_says Any any any_says ls)) (names_says 4 ls))

customer_says : (twelve : Bool) (ls : List Line) → Says (Customer twelve ls) (customer twelve ls)
customer_says twelve ls = then_says _ _ account_says (Beside twelve) (beside twelve) (beside_says twelve) ls

payer_says : (ls : List Line) → Says (Payer ls) (payer ls)
payer_says ls = says_or (customer_says true ls) (says_and (says_no (then_says _ _ begins_says Any any any_says ls)) (beside_says true ls))

-- ---- details: the first line
pub code_parts_lem : (first : String) (sign : Bool) (code t : Text) → Digits 5 code
    → code_parts (bytes first) sign (join (bytes first ∷ code_opening sign ∷ code ∷ code_closing sign ∷ t ∷ [])) ≡ bytes first ∷ code_opening sign ∷ code ∷ code_closing sign ∷ t ∷ []
code_parts_lem first sign code t d =
    cut_once (sized (length (bytes first)) ∷ sized (length (code_opening sign)) ∷ sized 5 ∷ sized (length (code_closing sign)) ∷ []) (bytes first ∷ code_opening sign ∷ code ∷ code_closing sign ∷ t ∷ [])
    (refl, (refl, (d.size, (refl, tt))))

abbrev CodeTests : String → ℕ → Bool → List Text → Type 0
CodeTests first room sign ts =
    (piece 0 ts ≡ bytes first) × ((piece 1 ts ≡ code_opening sign) × (Digits 5 (piece 2 ts) × ((piece 3 ts ≡ code_closing sign)
    × (length (code_opening sign) + (5 + (length (code_closing sign) + length (piece 4 ts))) ≤ room))))

code_tests : (first : String) (room : ℕ) (sign : Bool) (ts : List Text) → Says (CodeTests first room sign ts) (code_test (bytes first) room sign ts)
code_tests first room sign ts =
    says_and (says_text (piece 0 ts) (bytes first)) (says_and (says_text (piece 1 ts) (code_opening sign)) (says_and (just_says digit 5 (piece 2 ts)) (says_and (says_text (piece 3 ts) (code_closing sign))
    (says_le (length (code_opening sign) + (5 + (length (code_closing sign) + length (piece 4 ts)))) room))))

-- ---- details: the later lines
marked_says : (mark : String) (room : ℕ) (l : Line) → Says (Marked (bytes mark) room l) (marked (bytes mark) room l)
marked_says mark room l = starts_says mark (Size 1 room) (sizes 1 room) (size_says 1 room) l

pub laters_lent : {answers : Bor Line → Bool → Type 0} {n : ℕ} {ls : List Line} {r : Bool} → ((t : Line → Bool) → TestsLines answers t → Says (Several (Passes t) n ls) r)
    → ((l : Bor Line) (q : Bool) → answers l q → Says (Marked (bytes "//") 33 l.now) q) → Says (Several (Marked (bytes "//") 33) n ls) r
laters_lent f says = lent (marked (bytes "//") 33) (marked_says "//" 33) says f

abbrev on : String → List Text → List Line
on later ts = map (λ (s : Text). bytes later ++ s) ts

on_empty : (later : String) (ls : List Line) (ts : List Text) → ls ≡ on later ts → ls ≡ [] → ts ≡ []
on_empty later ls [] e z = refl
on_empty later ls (t ∷ ts) e z = absurd (true≢false (ap empty (sym z ∙ e)))

-- ---- details
abbrev IsDetails : String → String → ℕ → ℕ → ℕ → Bool → List Line → Type 0
IsDetails first later room rest most sign ls = (code t : Text) × (ts : List Text) × Details first later room rest most sign code t ts ls

module _ (first later : String) (room rest most : ℕ) (sign : Bool) where
  abbrev Parts : Line → List Line → Type 0
  Parts l ls =
      CodeTests first room sign (code_parts (bytes first) sign l)
      × (AllHold (Marked (bytes later) rest) ls × ((length (l ∷ ls) ≤ most) × Not ((piece 4 (code_parts (bytes first) sign l) ≡ []) × (ls ≡ []))))

  first_size : (a b c d : Text) → Digits 5 b → length a + (5 + (length c + length d)) ≤ room → length (join (a ∷ b ∷ c ∷ d ∷ [])) ≤ room
  first_size a b c d n h = simp (length-append, n.size) h

  made : (l : Line) (ls : List Line) → Parts l ls → IsDetails first later room rest most sign (l ∷ ls)
  made l ls p =
      let ts = code_parts (bytes first) sign l in
      let w = marked_texts (bytes later) rest ls p.1.0 in
      let q = p.0 in (
        piece 2 ts,
        piece 4 ts,
        w.0,
        record {
          number = q.1.1.0;
          lines =
              ap₂ (λ (x : Line) (y : List Line). x ∷ y)
              (sym (cut_whole (sized (length (bytes first)) ∷ sized (length (code_opening sign)) ∷ sized 5 ∷ sized (length (code_closing sign)) ∷ []) l)
              ∙ ap₂ (λ (x y : Text). join (x ∷ y ∷ piece 2 ts ∷ piece 3 ts ∷ piece 4 ts ∷ [])) q.0 q.1.0
              ∙ ap (λ (x : Text). join (bytes first ∷ code_opening sign ∷ piece 2 ts ∷ x ∷ piece 4 ts ∷ [])) q.1.1.1.0)
              w.1;
          front = first_size (code_opening sign) (piece 2 ts) (code_closing sign) (piece 4 ts) q.1.1.0 q.1.1.1.1;
          back = w.2;
          count = p.1.1.0;
          text = λ z. p.1.1.1 (z.0, w.1 ∙ ap (on later) z.1);
        },
      )

  tested : (l : Line) (ls : List Line) (code t : Text) (ts : List Text) → Details first later room rest most sign code t ts (l ∷ ls) → Parts l ls
  tested l ls code t ts d =
      let e : l ≡ join (bytes first ∷ code_opening sign ∷ code ∷ code_closing sign ∷ t ∷ []) = cc d.lines in
      let f : ls ≡ on later ts = cc d.lines in
      let g = ap (code_parts (bytes first) sign) e ∙ code_parts_lem first sign code t d.number in
      let h : piece 4 (code_parts (bytes first) sign l) ≡ t = ap (piece 4) g in (
        subst (CodeTests first room sign) (sym g) (refl, (refl, (d.number, (refl, simp (length-append, d.number.size) at d.front)))),
        (subst (AllHold (Marked (bytes later) rest)) (sym f) (texts_marked (bytes later) rest ts d.back), (d.count, λ z. d.text (sym h ∙ z.0, on_empty later ls ts f z.1))),
      )

  pub details_says : (ls : List Line) → Says (IsDetails first later room rest most sign ls) (is_details (bytes first) (bytes later) room rest most sign ls)
  unfolding is_details
  details_says [] = says_not (λ d. true≢false (ap empty d.3.lines))
  details_says (l ∷ ls) =
      says_as (made l ls) (λ d. tested l ls d.0 d.1 d.2 d.3)
      (says_and (code_tests first room sign (code_parts (bytes first) sign l))
      (says_and (each_says (Marked (bytes later) rest) (marked (bytes later) rest) (marked_says later rest) ls)
      (says_and (says_le (length (l ∷ ls)) most) (says_no (says_and (says_empty (piece 4 (code_parts (bytes first) sign l))) (says_empty ls))))))

-- ---- the rest of the details
rest_says : (most : ℕ) (ls : List Line) → Says (InRest most ls) (is_rest most ls)
unfolding is_rest
rest_says most [] = says_not (rest_some most)
rest_says most (l ∷ ls) =
    says_as (λ p. rest_made most l ls p.0 p.1.0 p.1.1) (λ d. (rest_first most l ls d, (rest_later most l ls d, d.2.count)))
    (says_and (marked_says "/NZP/" 30 l) (says_and (each_says _ _ (marked_says "//" 33) ls) (says_le (length (l ∷ ls)) most)))

-- ---- every content
is_says : (w : String) (ls : List Line) → Says (One (λ l. l ≡ bytes w) ls) (one (λ l. same l (bytes w)) ls)
is_says w ls = one_says (λ l. l ≡ bytes w) (λ l. same l (bytes w)) (λ l. says_text l (bytes w)) ls

pub right_says : (c : Content) (sign : Bool) (ls : List Line) → Says (Right c sign ls) (right c sign ls)
unfolding right
right_says holds.Unknown sign ls = says_not (λ x. x)
right_says holds.Reference sign ls = one_says _ _ reference_says ls
right_says holds.Related sign ls = is_says "NONREF" ls
right_says holds.Operation sign ls = is_says "CRED" ls
right_says holds.Purpose sign ls = one_says _ _ purpose_says ls
right_says holds.Payment sign ls = one_says _ _ payment_says ls
right_says holds.Payer sign ls = payer_says ls
right_says holds.BankByBic sign ls = says_or (one_says _ _ bic_says ls) (then_says _ _ party_says _ _ (one_says _ _ bic_says) ls)
right_says holds.BankByName sign ls = then_says _ _ party_says (Names 4) (several is_name 4) (names_says 4) ls
right_says holds.OwnAccount sign ls = one_says _ _ own_says ls
right_says holds.AccountAndBic sign ls = then_says _ _ account_says _ _ (one_says _ _ bic_says) ls
right_says holds.BeneficiaryBank sign ls = customer_says false ls
right_says holds.Beneficiary sign ls = customer_says true ls
right_says holds.Details sign ls = details_says "" "" 35 35 4 sign ls
right_says holds.Charges sign ls = is_says "OUR" ls
right_says holds.DocumentAndRest sign ls = says_or (one_says _ _ rpp_says ls) (says_or (rest_says 6 ls) (then_says _ _ rpp_says _ _ (rest_says 5) ls))
right_says holds.DocumentAndDetails sign ls = says_or (details_says "/NZP/" "//" 30 33 6 sign ls) (then_says _ _ rpp_says _ _ (details_says "/NZP/" "//" 30 33 5 sign) ls)
right_says holds.Regulatory sign ls =
    says_as (λ p. record { first = p.0; lines = p.1 }) (λ r. (r.first, r.lines)) (says_and (then_says _ _ begins_says Any any any_says ls) (names_says 3 ls))
