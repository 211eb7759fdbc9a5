-- From the readers' answers to whether a field is right. Assumes nothing.
use Rattle.std.specs.Prelude.{Option, None, Some}
use Rattle.std.specs.Option.{is_some}
use Rattle.base.specs.Choice.{pick}
use Rattle.base.specs.Says.{Not, ◌or◌, Says}
use Rattle.base.proofs.SaysLaws.{says_so, says_not}
use Prim.Native.Nat.{ℕ, ◌+◌, ◌≤◌, ◌<◌, min}
use mathlib.Core.Path.{◌≡◌, refl, sym, ap, ap₂, ◌∙◌}
use mathlib.Core.Bool.{Bool, true, false}
use mathlib.Core.Logic.{inl, inr, ⊎_elim}
use mathlib.Core.List.{List, [], ◌∷◌}
use native.Mathlib.Omega.{arith}
use native.Mathlib.Decide.{dec_lt}
use lib.ListN.{length, take, drop}
use lib.Seq.{take_all}
use Rattle.base.specs.Bytes.{count_up_to}
use Rattle.fields.specs.Lines.{lines_in}
use Rattle.contents.specs.Words.{Text, Line}
use Rattle.contents.specs.Fields.{IsParty, IsBic, IsRpp, One, Then, Any, Names, Beside, Customer, Payer, BankByBic, BankByName, In72, RppAndDetails, InRest, RppAndRest}
use Rattle.contents.specs.Answers.{BesideIs, AccountFirst, CustomerSaid, PayerSaid, IsA, BicSaid, NameSaid, RppIs, RppSaid, NoteSaid, RestSaid}
use Rattle.contents.specs.declared.lines.Party.{Party}
use Rattle.contents.specs.declared.lines.Party.TheVariants as party
use Rattle.contents.specs.declared.lines.Rpp.{Rpp}
use Rattle.contents.specs.declared.whole.Held.{Held}
use Rattle.contents.specs.declared.whole.Held.TheVariants as held
use Rattle.contents.specs.declared.whole.Bank.{Bank}
use Rattle.contents.specs.declared.whole.Bank.TheVariants as bank
use Rattle.contents.specs.declared.whole.Note.{Note}
use Rattle.contents.specs.declared.whole.Note.TheVariants as note
use Rattle.contents.proofs.RppLaws.{rpp_is}
use Rattle.contents.proofs.FieldLaws.{last_0, on_0}
use Rattle.contents.proofs.LineTests.{rpp_once}
use Rattle.contents.proofs.VoLaws.{rpp_not_72}
use Rattle.contents.proofs.MarkedLaws.{rest_alone}

beside_is : (twelve : Bool) (at : ℕ) (ls : List Line) (h : Held) → BesideIs twelve at ls h → Beside twelve ls
beside_is twelve at ls held.Plain s = inr s
beside_is twelve at [] (held.Taxed p t) s = absurd s.1
beside_is twelve at (l ∷ ls) (held.Taxed p t) s = inl ((_, _, s.1.0.0), s.1.1)

account_is : (twelve : Bool) (ls : List Line) (h : Held) → AccountFirst twelve ls h → Customer twelve ls
account_is twelve [] h s = s
account_is twelve (l ∷ ls) h s = (s.0, beside_is twelve (length l + 2) ls h s.1)

pub customer_is : (twelve : Bool) (ls : List Line) (r : Option Held) → CustomerSaid twelve ls r → Says (Customer twelve ls) (is_some r)
customer_is twelve ls None s = says_not s
customer_is twelve ls (Some h) s = says_so (account_is twelve ls h s)

pub payer_is : (ls : List Line) (r : Option Held) → PayerSaid ls r → Says (Payer ls) (is_some r)
payer_is ls None s = says_not s
payer_is ls (Some h) s = says_so (⊎_elim (λ x. inl (account_is true ls h x)) (λ x. inr (x.0, beside_is true 0 ls h x.1)) s)

party_is : (p : Party) (l : Line) → IsA p l → IsParty l
party_is party.Account l s = inr (_, s)
party_is (party.Bik account) l s = inl (_, _, s.0)

led_is : (Q : List Line → Type 0) (p : Party) (ls : List Line) → Then (IsA p) Q ls → Then IsParty Q ls
led_is Q p [] s = s
led_is Q p (l ∷ ls) s = (party_is p l s.0, s.1)

pub bic_is : (ls : List Line) (r : Option Bank) → BicSaid ls r → Says (BankByBic ls) (is_some r)
bic_is ls None s = says_not s
bic_is ls (Some bank.Alone) s = says_so (inl s)
bic_is ls (Some (bank.Led p)) s = says_so (inr (led_is (One IsBic) p ls s))

pub name_is : (ls : List Line) (r : Option Party) → NameSaid ls r → Says (BankByName ls) (is_some r)
name_is ls None s = says_not s
name_is ls (Some p) s = says_so (led_is (Names 4) p ls s)

dated_is : (sign : Bool) (r : Rpp) (ls : List Line) → Then (RppIs r) (In72 sign 5) ls → Then IsRpp (In72 sign 5) ls
dated_is sign r [] s = s
dated_is sign r (l ∷ ls) s = (rpp_is s.0, s.1)

pub note_is : (sign : Bool) (ls : List Line) (r : Option Note) → NoteSaid sign ls r → Says (RppAndDetails sign ls) (is_some r)
note_is sign ls None s = says_not s
note_is sign ls (Some note.Plain) s = says_so (inl s)
note_is sign ls (Some (note.Dated r)) s = says_so (inr (dated_is sign r ls s))

rest_dated_is : (r : Rpp) (ls : List Line) → One (RppIs r) ls or Then (RppIs r) (InRest 5) ls → RppAndRest ls
rest_dated_is r [] (inl s) = absurd s
rest_dated_is r (l ∷ []) (inl s) = inl (rpp_is s)
rest_dated_is r (l ∷ k ∷ ls) (inl s) = absurd s
rest_dated_is r [] (inr s) = absurd s
rest_dated_is r (l ∷ ls) (inr s) = inr (inr (rpp_is s.0, s.1))

pub rest_is : (ls : List Line) (r : Option Note) → RestSaid ls r → Says (RppAndRest ls) (is_some r)
rest_is ls None s = says_not s
rest_is ls (Some note.Plain) s = says_so (inr (inl s))
rest_is ls (Some (note.Dated r)) s = says_so (rest_dated_is r ls s)

-- ---- any two answers of the reader of an RPP line are equal, and so are those of a reader of 72
-- an RPP line has its number and its value date in one way only
value_once : (a b : Bool) → pick {A = ℕ} a 6 0 ≡ pick b 6 0 → a ≡ b
value_once true true e = refl
value_once true false e = absurd (omega arith)
value_once false true e = absurd (omega arith)
value_once false false e = refl

rpp_same : (r q : Rpp) (l : Line) → RppIs r l → RppIs q l → r ≡ q
rpp_same r q l a b =
    let o = rpp_once a.0.1 b.0.1 in
    made (sym a.1 ∙ ap length o.0 ∙ b.1) (value_once r.value q.value (sym a.2 ∙ ap length o.4 ∙ b.2))
  where
    make : ℕ → Bool → Rpp
    make n v = record { number = n; value = v }

    made : r.number ≡ q.number → r.value ≡ q.value → r ≡ q
    made e f = ap₂ make e f

pub rpp_said_one : (l : Line) (r q : Option Rpp) → RppSaid l r → RppSaid l q → r ≡ q
rpp_said_one l None None a b = refl
rpp_said_one l None (Some q) a b = absurd (a (rpp_is b))
rpp_said_one l (Some r) None a b = absurd (b (rpp_is a))
rpp_said_one l (Some r) (Some q) a b = ap Some (rpp_same r q l a b)

-- either answers by the first line, so both do
first_same : (r q : Rpp) (ls : List Line) → Then (RppIs r) Any ls → Then (RppIs q) Any ls → Some (note.Dated r) ≡ Some (note.Dated q)
first_same r q [] a b = absurd a
first_same r q (l ∷ ls) a b = ap (λ (x : Rpp). Some (note.Dated x)) (rpp_same r q l a.0 b.0)

first_rpp : (r : Rpp) (ls : List Line) → Then (RppIs r) Any ls → Then IsRpp Any ls
first_rpp r [] a = a
first_rpp r (l ∷ ls) a = (rpp_is a.0, tt)

details_first : (sign : Bool) (r : Rpp) (ls : List Line) → Then (RppIs r) (In72 sign 5) ls → Then (RppIs r) Any ls
details_first sign r [] a = a
details_first sign r (l ∷ ls) a = (a.0, tt)

rest_first : (r : Rpp) (ls : List Line) → One (RppIs r) ls or Then (RppIs r) (InRest 5) ls → Then (RppIs r) Any ls
rest_first r [] (inl a) = a
rest_first r (l ∷ []) (inl a) = (a, tt)
rest_first r (l ∷ k ∷ ls) (inl a) = absurd a
rest_first r [] (inr a) = a
rest_first r (l ∷ ls) (inr a) = (a.0, tt)

no_details : (sign : Bool) (r : Rpp) (ls : List Line) → In72 sign 6 ls → Not (Then (RppIs r) Any ls)
no_details sign r [] d a = a
no_details sign r (l ∷ ls) d a = rpp_not_72 sign 6 r.number (pick r.value 6 0) l ls a.0 d

pub note_said_one : (sign : Bool) (ls : List Line) (r q : Option Note) → NoteSaid sign ls r → NoteSaid sign ls q → r ≡ q
note_said_one sign ls None None a b = refl
note_said_one sign ls None (Some note.Plain) a b = absurd (a (inl b))
note_said_one sign ls None (Some (note.Dated q)) a b = absurd (a (inr (dated_is sign q ls b)))
note_said_one sign ls (Some note.Plain) None a b = absurd (b (inl a))
note_said_one sign ls (Some note.Plain) (Some note.Plain) a b = refl
note_said_one sign ls (Some note.Plain) (Some (note.Dated q)) a b = absurd (no_details sign q ls a (details_first sign q ls b))
note_said_one sign ls (Some (note.Dated r)) None a b = absurd (b (inr (dated_is sign r ls a)))
note_said_one sign ls (Some (note.Dated r)) (Some note.Plain) a b = absurd (no_details sign r ls b (details_first sign r ls a))
note_said_one sign ls (Some (note.Dated r)) (Some (note.Dated q)) a b = first_same r q ls (details_first sign r ls a) (details_first sign q ls b)

pub rest_said_one : (ls : List Line) (r q : Option Note) → RestSaid ls r → RestSaid ls q → r ≡ q
rest_said_one ls None None a b = refl
rest_said_one ls None (Some note.Plain) a b = absurd (a (inr (inl b)))
rest_said_one ls None (Some (note.Dated q)) a b = absurd (a (rest_dated_is q ls b))
rest_said_one ls (Some note.Plain) None a b = absurd (b (inr (inl a)))
rest_said_one ls (Some note.Plain) (Some note.Plain) a b = refl
rest_said_one ls (Some note.Plain) (Some (note.Dated q)) a b = absurd (rest_alone 6 ls a (first_rpp q ls (rest_first q ls b)))
rest_said_one ls (Some (note.Dated r)) None a b = absurd (b (rest_dated_is r ls a))
rest_said_one ls (Some (note.Dated r)) (Some note.Plain) a b = absurd (rest_alone 6 ls b (first_rpp r ls (rest_first r ls a)))
rest_said_one ls (Some (note.Dated r)) (Some (note.Dated q)) a b = first_same r q ls (rest_first r ls a) (rest_first q ls b)

-- one line
pub not_one : (P : Line → Type 0) (s : Text) → Not (lines_in s ≡ s ∷ []) → Not (One P (lines_in s))
not_one P s f o = go (dec_lt (0 + count_up_to 13 s) (length s))
  where
    none : (l : Line) (ms : List Line) → 1 ≤ length ms → One P (l ∷ ms) → ⊥
    none l [] h x = absurd (omega arith)
    none l (m ∷ ms) h x = x

    go : Dec (0 + count_up_to 13 s < length s) → ⊥
    go (yes k) = let g = on_0 s (0 + count_up_to 13 s) refl (min (0 + count_up_to 13 s + 2) (length s)) k refl in none (take (0 + count_up_to 13 s) s) (lines_in (drop (min (0 + count_up_to 13 s + 2) (length s)) s)) g.2 (rw g.0 at o)
    go (no k) = f (last_0 s (0 + count_up_to 13 s) refl (omega arith) ∙ ap (λ (l : Line). l ∷ []) (take_all (0 + count_up_to 13 s) s (omega arith)))
