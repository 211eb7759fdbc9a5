-- What is found in a content, from what its reader answered: the parts that it hands on are the grammar's (C32A, Crpp, Cparty, Ctax, N9, N10, N12,
-- N13). Assumes nothing.
use Prim.Native.Nat.{ℕ, ◌+◌}
use mathlib.Core.Path.{◌≡◌, refl, sym, ap, ap₂, ◌∙◌, subst}
use mathlib.Core.Bool.{Bool, true, false, not, or-false, false≢true, ◌||◌}
use Rattle.std.specs.Prelude.{Option, None, Some, is_some}
use Rattle.std.specs.Bool.{then_some}
use mathlib.Core.List.{List, [], ◌∷◌}
use mathlib.Core.Logic.{⊎_elim}
use native.Mathlib.Omega.{arith}
use lib.ListN.{length}
use Rattle.fields.specs.Lines.{lines_in}
use Rattle.base.specs.Choice.{pick}
use Rattle.base.specs.Bytes.{begins, empty, same}
use Rattle.base.specs.Quoted.{bytes}
use Rattle.base.specs.Says.{Says, Not}
use Rattle.base.proofs.SaysLaws.{says_not, says_same}
use Rattle.fields.specs.Places.{lines_size}
use Rattle.contents.specs.declared.Content.{Content}
use Rattle.contents.specs.declared.Content.TheVariants as holds
use Rattle.contents.specs.declared.whole.Held.{Held}
use Rattle.contents.specs.declared.whole.Held.TheVariants as held
use Rattle.contents.specs.declared.whole.Bank.{Bank}
use Rattle.contents.specs.declared.whole.Bank.TheVariants as bank
use Rattle.contents.specs.declared.whole.Note.{Note}
use Rattle.contents.specs.declared.whole.Note.TheVariants as note
use Rattle.contents.specs.Words.{Text, Line}
use Rattle.contents.specs.Fields.{One, Then, Any, Right}
use Rattle.contents.specs.Parts.{paid_date, paid_currency}
use Rattle.contents.specs.Answers.{cut, RppIs, BesideIs, AccountFirst, CustomerSaid, NoAccount, PayerSaid, BicSaid, NameSaid, NoteSaid, RestSaid, SingleLine}
use Rattle.contents.specs.declared.lines.Party.{Party}
use Rattle.contents.proofs.LineTests.{begins_says}
use Rattle.contents.proofs.RightLaws.{customer_is, payer_is, bic_is, name_is, note_is, rest_is}
use Rattle.values.specs.Day.{real_day}
use Rattle.values.specs.Values as kinds
use Rattle.values.specs.Values.{ValueKind, date, tax, Value, at, payment, rpp_dates, parties, of_first, taxes, customer_taxes, payer_taxes, note_dates, values_of}
use Rattle.values.specs.Judged.{no_day, foreign, bik_differs, has_kpp, has}
use Rattle.values.specs.Answers.{fault_of, Finding, FoundIn, nothing}
use Rattle.values.specs.Steps.{finds, held_found, party_found, bank_found, note_found, DatedBy, is_something, made_of, OneLine, NoValues}
use Rattle.values.specs.declared.Finds.{Finds}
use Rattle.values.proofs.ValueLaws.{EveryKind, every_first, every_rpp, every_party}
use Rattle.values.proofs.StepLaws.{has_none, fault_none}
use Rattle.values.proofs.FrontLaws.{swap}
use Rattle.values.proofs.GrammarLaws.{note_values, nzp_values, bic_values, tax_values, untaxed_values}

-- ---- there is one answer
finds_same : (f g : Finds) → f.day ≡ g.day → f.currency ≡ g.currency → f.party ≡ g.party → f.kpp ≡ g.kpp → f ≡ g
finds_same f g a b c d = ap₂ (λ (x y : Option ℕ). finds x y f.party f.kpp) a b ∙ ap₂ (λ (x : Option ℕ) (y : Bool). finds g.day g.currency x y) c d

same_finds : (content : Content) (ls : List Line) (f g : Finds) → Finding content ls f → Finding content ls g → f ≡ g
same_finds content ls f g x y =
    finds_same f g (x.day_is [] ∙ sym (y.day_is [])) (x.currency_is [] ∙ sym (y.currency_is [])) (x.party_is [] ∙ sym (y.party_is [])) (x.kpp_is [] ∙ sym (y.kpp_is []))

pub found_once : (content : Content) (sign : Bool) (ls : List Line) (r q : Option (Option Finds)) → FoundIn content sign ls r → FoundIn content sign ls q → r ≡ q
found_once content sign ls None None a b = refl
found_once content sign ls None (Some None) a b = absurd (a b.0)
found_once content sign ls None (Some (Some g)) a b = absurd (a b.0)
found_once content sign ls (Some None) None a b = absurd (b a.0)
found_once content sign ls (Some None) (Some None) a b = refl
found_once content sign ls (Some None) (Some (Some g)) a b = absurd (b.2 (same_finds content ls g nothing b.1 a.1))
found_once content sign ls (Some (Some f)) None a b = absurd (b a.0)
found_once content sign ls (Some (Some f)) (Some None) a b = absurd (a.2 (same_finds content ls f nothing a.1 b.1))
found_once content sign ls (Some (Some f)) (Some (Some g)) a b = ap (λ (x : Finds). Some (Some x)) (same_finds content ls f g a.1 b.1)

-- ---- what is found where a content is right
abbrev Good : Content → List Line → Option Finds → Type 0
Good content ls None = Finding content ls nothing
Good content ls (Some f) = Finding content ls f × Not (f ≡ nothing)

pub found_by : (content : Content) (sign : Bool) (ls : List Line) (r : Option Finds) → Right content sign ls → Good content ls r → FoundIn content sign ls (Some r)
found_by content sign ls None y g = (y, g)
found_by content sign ls (Some f) y g = (y, g.0, g.1)

-- a place where a test does not hold
pub place_unless : (p : ℕ) {r b : Bool} {d : Option ℕ} → d ≡ then_some (not r) p → r ≡ b → d ≡ pick b None (Some p)
place_unless p {r} e q = e ∙ go r ∙ ap (λ (b : Bool). pick b None (Some p)) q
  where
    go : (b : Bool) → then_some (not b) p ≡ pick b None (Some p)
    go true = refl
    go false = refl

-- what is made of the four
nothing_is : (x : Finds) → is_something x ≡ false → x ≡ nothing
nothing_is x e = go x.day x.currency x.party x.kpp e
  where
    go : (d c p : Option ℕ) (k : Bool) → (is_some d || (is_some c || (is_some p || k))) ≡ false → finds d c p k ≡ nothing
    go None None None false e = refl
    go None None None true e = absurd (false≢true (sym e))
    go None None (Some p) k e = absurd (false≢true (sym e))
    go None (Some c) p k e = absurd (false≢true (sym e))
    go (Some d) c p k e = absurd (false≢true (sym e))

good_made : (content : Content) (ls : List Line) (x : Finds) → Finding content ls x → Good content ls (made_of x)
good_made content ls x w = go (is_something x) refl
  where
    go : (b : Bool) → is_something x ≡ b → Good content ls (pick b (Some x) None)
    go true e = (w, λ q. false≢true (sym (ap is_something q) ∙ e))
    go false e = subst (Finding content ls) (nothing_is x e) w

pub made_found : (content : Content) (sign : Bool) (ls : List Line) {x : Finds} {r : Option Finds} → r ≡ made_of x → Right content sign ls → Finding content ls x → FoundIn content sign ls (Some r)
made_found content sign ls {x} {r} e y w = found_by content sign ls r y (subst (Good content ls) (sym e) (good_made content ls x w))

module _ (content : Content) (ls : List Line) where
  -- by the content's values, whatever the tag
  finding_of : (vs : Text → List Value) → ((t : Text) → values_of t content ls ≡ vs t) → {d c p : Option ℕ} {k : Bool} → ((t : Text) → d ≡ fault_of no_day (vs t)) → ((t : Text) → c ≡ fault_of foreign (vs t))
      → ((t : Text) → p ≡ fault_of bik_differs (vs t)) → ((t : Text) → k ≡ has has_kpp (vs t)) → Finding content ls (finds d c p k)
  finding_of vs e a b c d = record {
    day_is = λ t. a t ∙ sym (ap (fault_of no_day) (e t));
    currency_is = λ t. b t ∙ sym (ap (fault_of foreign) (e t));
    party_is = λ t. c t ∙ sym (ap (fault_of bik_differs) (e t));
    kpp_is = λ t. d t ∙ sym (ap (has has_kpp) (e t));
  }

  pub finding_none : ((t : Text) → values_of t content ls ≡ []) → Finding content ls (finds None None None false)
  unfolding fault_of
  finding_none e = finding_of (λ t. []) e (λ t. refl) (λ t. refl) (λ t. refl) (λ t. refl)

  finding_tax : (p : ℕ) (inn kpp : Text) → ((t : Text) → values_of t content ls ≡ at p (tax t inn kpp) ∷ []) → {b : Bool} → b ≡ not (empty kpp) → Finding content ls (finds None None None b)
  unfolding fault_of
  finding_tax p inn kpp e q = finding_of (λ t. at p (tax t inn kpp) ∷ []) e (λ t. refl) (λ t. refl) (λ t. refl) (λ t. q ∙ sym (or-false (not (empty kpp))))

  -- an RPP line has dates alone, a party line parties alone
  finding_rpp : ((t : Text) → values_of t content ls ≡ of_first rpp_dates ls) → Finding content ls (finds (fault_of no_day (of_first rpp_dates ls)) None None false)
  finding_rpp e =
      let vs = of_first rpp_dates ls in
      finding_of (λ t. vs) e (λ t. refl) (λ t. sym (fault_none foreign vs (dates foreign (λ s. refl)))) (λ t. sym (fault_none bik_differs vs (dates bik_differs (λ s. refl)))) (λ t. sym (has_none has_kpp vs (dates has_kpp (λ s. refl))))
    where
      dates : (u : ValueKind → Bool) → ((s : Text) → u (date s) ≡ false) → EveryKind (λ k. u k ≡ false) (of_first rpp_dates ls)
      dates u h = every_first (λ k. u k ≡ false) rpp_dates (every_rpp (λ k. u k ≡ false) h) ls

  finding_party : ((t : Text) → values_of t content ls ≡ of_first parties ls) → Finding content ls (finds None None (fault_of bik_differs (of_first parties ls)) false)
  finding_party e =
      let vs = of_first parties ls in
      finding_of (λ t. vs) e (λ t. sym (fault_none no_day vs (pairs no_day (λ b a. refl)))) (λ t. sym (fault_none foreign vs (pairs foreign (λ b a. refl)))) (λ t. refl) (λ t. sym (has_none has_kpp vs (pairs has_kpp (λ b a. refl))))
    where
      pairs : (u : ValueKind → Bool) → ((b a : Text) → u (kinds.party b a) ≡ false) → EveryKind (λ k. u k ≡ false) (of_first parties ls)
      pairs u h = every_first (λ k. u k ≡ false) parties (every_party (λ k. u k ≡ false) h) ls

-- ---- 32A
pub finding_paid : (l : Line) {d c : Option ℕ} → length (paid_date l) ≡ 6 → d ≡ pick (real_day (paid_date l)) None (Some 0) → c ≡ pick (same (cut 6 3 l) (bytes "RUB")) None (Some 6)
    → Finding holds.Payment (l ∷ []) (finds d c None false)
unfolding values_of payment fault_of
finding_paid l z a b = record {
  day_is = λ t. a ∙ swap (real_day (paid_date l)) None (Some 0);
  currency_is = λ t. b ∙ ap (λ (n : ℕ). pick (same (cut n 3 l) (bytes "RUB")) None (Some 6)) (sym z) ∙ swap (same (paid_currency l) (bytes "RUB")) None (Some 6) ∙ ap (λ (n : ℕ). pick (not (same (paid_currency l) (bytes "RUB"))) (Some n) None) (sym z);
  party_is = λ t. refl;
  kpp_is = λ t. refl;
}

-- ---- Ctax: 50K, 59, 58D
kpp_size : (kpp : Text) (b : Bool) → length kpp ≡ pick b 9 0 → b ≡ not (empty kpp)
kpp_size [] true e = absurd (omega arith)
kpp_size [] false e = refl
kpp_size (x ∷ s) true e = refl
kpp_size (x ∷ s) false e = absurd (omega arith)

module _ (content : Content) (ls : List Line) where
  -- the lines ms, from n on, have the tax place
  beside_good : (ms : List Line) (n o : ℕ) (twelve : Bool) → ((t : Text) → values_of t content ls ≡ taxes t n ms) → (h : Held) → BesideIs twelve o ms h → Good content ls (held_found h)
  unfolding taxes
  beside_good [] n o twelve e held.Plain b = finding_none content ls e
  beside_good (m ∷ ms) n o twelve e held.Plain b = finding_none content ls (λ t. e t ∙ untaxed_values t n m ms (λ x. b.0 (x, tt)))
  beside_good [] n o twelve e (held.Taxed p x) b = absurd b.1
  beside_good (m ∷ ms) n o twelve e (held.Taxed p x) b =
      let w = b.1.0 in
      let k : ℕ = pick x.kpp 9 0 in
      good_made content ls _ (finding_tax content ls n (cut 3 x.inn m) (cut (4 + (x.inn + 3)) k m) (λ t. e t ∙ tax_values t n m ms w.0) (kpp_size (cut (4 + (x.inn + 3)) k m) x.kpp w.2))

account_good : (content : Content) (ls : List Line) (twelve : Bool) → ((t : Text) → values_of t content ls ≡ customer_taxes t ls) → (h : Held) → AccountFirst twelve ls h → Good content ls (held_found h)
unfolding customer_taxes
account_good content [] twelve e h b = absurd b
account_good content (l ∷ ls) twelve e h b = beside_good content (l ∷ ls) ls (lines_size (l ∷ [])) (length l + 2) twelve e h b.1

module _ (sign : Bool) (ls : List Line) (h : Held) where
  pub bank_held : CustomerSaid false ls (Some h) → FoundIn holds.BeneficiaryBank sign ls (Some (held_found h))
  unfolding values_of
  bank_held s = found_by holds.BeneficiaryBank sign ls (held_found h) ((customer_is false ls (Some h) s).so refl) (account_good holds.BeneficiaryBank ls false (λ t. refl) h s)

  pub customer_held : CustomerSaid true ls (Some h) → FoundIn holds.Beneficiary sign ls (Some (held_found h))
  unfolding values_of
  customer_held s = found_by holds.Beneficiary sign ls (held_found h) ((customer_is true ls (Some h) s).so refl) (account_good holds.Beneficiary ls true (λ t. refl) h s)

-- 50K by its first line
payer_account : (ls : List Line) (h : Held) → AccountFirst true ls h → Good holds.Payer ls (held_found h)
unfolding values_of payer_taxes
payer_account [] h b = absurd b
payer_account (l ∷ ls) h b =
    account_good holds.Payer (l ∷ ls) true (λ t. ap (λ (q : Bool). pick q (customer_taxes t (l ∷ ls)) (taxes t 0 (l ∷ ls))) (ap (begins 47) b.0.1.line)) h b

payer_bare : (ls : List Line) (h : Held) → NoAccount ls h → Good holds.Payer ls (held_found h)
unfolding values_of payer_taxes taxes
payer_bare [] h b = beside_good holds.Payer [] [] 0 0 true (λ t. refl) h b.1
payer_bare (l ∷ ls) h b =
    beside_good holds.Payer (l ∷ ls) (l ∷ ls) 0 0 true
    (λ t. ap (λ (q : Bool). pick q (customer_taxes t (l ∷ ls)) (taxes t 0 (l ∷ ls))) (says_same (begins_says l) (says_not (λ x. b.0 (x, tt))))) h b.1

pub payer_held : (sign : Bool) (ls : List Line) (h : Held) → PayerSaid ls (Some h) → FoundIn holds.Payer sign ls (Some (held_found h))
payer_held sign ls h s = found_by holds.Payer sign ls (held_found h) ((payer_is ls (Some h) s).so refl) (⊎_elim (payer_account ls h) (payer_bare ls h) s)

-- ---- the first line, whatever follows
led : (P : Line → Type 0) (Q : List Line → Type 0) (ls : List Line) → Then P Q ls → Then P Any ls
led P Q [] s = s
led P Q (l ∷ ls) s = (s.0, tt)

-- ---- Cparty: 52A, 56, 57

bic_good : (ls : List Line) (b : Bank) → BicSaid ls (Some b) → Good holds.BankByBic ls (bank_found ls b)
unfolding values_of
bic_good [] bank.Alone s = absurd s
bic_good (l ∷ []) bank.Alone s = finding_none holds.BankByBic (l ∷ []) (λ t. bic_values s)
bic_good (l ∷ k ∷ ls) bank.Alone s = absurd s
bic_good ls (bank.Led p) s = good_made holds.BankByBic ls _ (finding_party holds.BankByBic ls (λ t. refl))

pub bank_by_bic : (sign : Bool) (ls : List Line) (b : Bank) → BicSaid ls (Some b) → FoundIn holds.BankByBic sign ls (Some (bank_found ls b))
bank_by_bic sign ls b s = found_by holds.BankByBic sign ls (bank_found ls b) ((bic_is ls (Some b) s).so refl) (bic_good ls b s)

pub bank_by_name : (sign : Bool) (ls : List Line) (p : Party) → NameSaid ls (Some p) → FoundIn holds.BankByName sign ls (Some (party_found ls))
unfolding values_of
bank_by_name sign ls p s = found_by holds.BankByName sign ls (party_found ls) ((name_is ls (Some p) s).so refl) (good_made holds.BankByName ls _ (finding_party holds.BankByName ls (λ t. refl)))

-- ---- a content of one line
module _ (content : Content) (o : OneLine content) (sign : Bool) (s : Text) where
  pub is_line : lines_in s ≡ s ∷ [] → SingleLine content s → Right content sign (lines_in s)
  is_line e p = (o sign (lines_in s)).1 (rw e p)

  pub not_line : lines_in s ≡ s ∷ [] → Not (SingleLine content s) → Not (Right content sign (lines_in s))
  not_line e n x = n (rw e at ((o sign (lines_in s)).0 x))

-- by the content's name
pub found_as : (k : Content) (sign : Bool) (ls : List Line) {content : Content} {r s : Option Finds} → content ≡ k → r ≡ s → FoundIn k sign ls (Some s) → FoundIn content sign ls (Some r)
found_as k sign ls {r = r} e f x = subst (λ (c : Content). FoundIn c sign ls (Some r)) (sym e) (subst (λ (q : Option Finds). FoundIn k sign ls (Some q)) (sym f) x)

pub line_asks : (k : Content) (s : Text) {content : Content} {r : Bool} → content ≡ k → NoValues k → OneLine k → Says (SingleLine k s) r → NoValues content × OneLine content × Says (SingleLine content s) r
line_asks k s {r = r} e n o h = subst (λ (x : Content). NoValues x × OneLine x × Says (SingleLine x s) r) (sym e) (n, o, h)

pub plain_asks : (k : Content) (sign : Bool) (ls : List Line) {content : Content} {r : Bool} → content ≡ k → NoValues k → Says (Right k sign ls) r → NoValues content × Says (Right content sign ls) r
plain_asks k sign ls {r = r} e n h = subst (λ (x : Content). NoValues x × Says (Right x sign ls) r) (sym e) (n, h)

-- ---- Crpp: 72
pub details_dated : (sign : Bool) (ls : List Line) (n : Note) → NoteSaid sign ls (Some n) → DatedBy ls n
details_dated sign ls note.Plain s = ap (of_first note_dates) s.3.lines ∙ nzp_values _
details_dated sign ls (note.Dated r) s = led _ _ ls s

pub rest_dated : (ls : List Line) (n : Note) → RestSaid ls (Some n) → DatedBy ls n
rest_dated ls note.Plain s = ap (of_first note_dates) s.2.lines ∙ nzp_values _
rest_dated ls (note.Dated r) s = ⊎_elim (alone ls) (led _ _ ls) s
  where
    alone : (ls : List Line) → One (RppIs r) ls → Then (RppIs r) Any ls
    alone [] x = x
    alone (l ∷ []) x = (x, tt)
    alone (l ∷ m ∷ ls) x = absurd x

note_good : (content : Content) (ls : List Line) → ((t : Text) → values_of t content ls ≡ of_first note_dates ls) → (n : Note) → DatedBy ls n → Good content ls (note_found ls n)
note_good content ls e note.Plain d = finding_none content ls (λ t. e t ∙ d)
note_good content [] e (note.Dated r) d = absurd d
note_good content (l ∷ ls) e (note.Dated r) d = good_made content (l ∷ ls) _ (finding_rpp content (l ∷ ls) (λ t. e t ∙ note_values d.0.0.1))

module _ (sign : Bool) (ls : List Line) (n : Note) where
  pub rpp_and_details : NoteSaid sign ls (Some n) → FoundIn holds.DocumentAndDetails sign ls (Some (note_found ls n))
  unfolding values_of
  rpp_and_details s =
      found_by holds.DocumentAndDetails sign ls (note_found ls n) ((note_is sign ls (Some n) s).so refl) (note_good holds.DocumentAndDetails ls (λ t. refl) n (details_dated sign ls n s))

  pub rpp_and_rest : RestSaid ls (Some n) → FoundIn holds.DocumentAndRest sign ls (Some (note_found ls n))
  unfolding values_of
  rpp_and_rest s = found_by holds.DocumentAndRest sign ls (note_found ls n) ((rest_is ls (Some n) s).so refl) (note_good holds.DocumentAndRest ls (λ t. refl) n (rest_dated ls n s))
