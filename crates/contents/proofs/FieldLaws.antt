-- The lines of a field: the first and the others; names; the tax place. Assumes nothing.
use Rattle.std.specs.Borrow.{Bor}
use Rattle.base.specs.Says.{Not, ◌or◌, Says}
use Rattle.base.specs.Examples.{AllHold}
use Rattle.base.proofs.SaysLaws.{says_as, says_same, is_so}
use Prim.Native.Nat.{ℕ, ◌+◌, ◌-◌, ◌≤◌, ◌<◌, min}
use mathlib.Core.Path.{◌≡◌, refl, sym, ap, ◌∙◌}
use mathlib.Core.Bool.{Bool, true, true≢false}
use mathlib.Core.Logic.{inl, inr, ⊎_elim}
use mathlib.Core.List.{List, [], ◌∷◌}
use native.Mathlib.Omega.{arith}
use native.Mathlib.Decide.{dec_lt}
use lib.ListN.{length, take, drop, drop_of_length-le}
use lib.Seq.{length-take-le, get_or-take}
use Rattle.base.specs.Bytes.{count_up_to, byte, digit}
use Rattle.base.proofs.MarkLaws.{up_rest, up_pass}
use Rattle.fields.specs.Lines.{split, lines_in}
use Rattle.fields.proofs.ContentLaws.{lines_last, lines_more}
use Rattle.contents.proofs.Laws.{kind_at, head_tail}
use Rattle.contents.proofs.LineLaws.{looks_tax_lem, account_size}
use Rattle.contents.proofs.TaxLaws.{tax_tests, inn_range}
use Rattle.contents.specs.Words.{Text, Line, BeginsWith}
use Rattle.contents.specs.Fields.{LooksTax, IsTax, IsAccount, Then, Any, Names, Several, Beside, Customer, Payer}
use Rattle.contents.specs.Answers.{BesideSaid, CustomerSaid, PayerSaid, TestsLines, Passes}
use Rattle.std.specs.Prelude.{Option, None, Some}
use Rattle.contents.specs.declared.whole.Held.{Held}
use Rattle.contents.specs.declared.whole.Held.TheVariants as held

-- ---- the first line and the others
module _ (s : Text) (at e : ℕ) (h : at ≤ length s) (q : e ≡ at + count_up_to 13 (drop at s)) where
  pub front : (ms : List Line) × (lines_in (drop at s) ≡ take (e - at) (drop at s) ∷ ms)
  front = go (dec_lt e (length s))
    where
      go : Dec (e < length s) → (ms : List Line) × (lines_in (drop at s) ≡ take (e - at) (drop at s) ∷ ms)
      go (yes k) = (lines_in (drop (min (e + 2) (length s)) s), lines_more s at e h q k)
      go (no k) = ([], lines_last s at e h q (omega arith))

pub some_line : (s : Text) (at : ℕ) → at ≤ length s → 1 ≤ length (lines_in (drop at s))
some_line s at h = let f = front s at (at + count_up_to 13 (drop at s)) h refl in let g = ap length f.1 in omega arith

-- ---- several lines of a kind
module _ {P : Line → Type 0} (n : ℕ) where
  pub names_none : (ls : List Line) → n ≡ 0 → Not (Several P n ls)
  names_none ls e p = let a = p.least in let b = p.most in absurd (omega arith)

  pub names_last : (l : Line) → Not (n ≡ 0) → P l → Several P n (l ∷ [])
  names_last l z p = record { least = omega arith; most = omega arith; each = (p, tt) }

  pub names_more : (l : Line) (ls : List Line) → Not (n ≡ 0) → P l → Several P (n - 1) ls → Several P n (l ∷ ls)
  names_more l ls z p r = let a = r.most in record { least = omega arith; most = omega arith; each = (p, r.each) }

  pub names_first : (l : Line) (ls : List Line) → Several P n (l ∷ ls) → P l
  names_first l ls r = r.each.0

  pub names_rest : (l : Line) (ls : List Line) → 1 ≤ length ls → Several P n (l ∷ ls) → Several P (n - 1) ls
  names_rest l ls h r = let a = r.most in record { least = h; most = omega arith; each = r.each.1 }

-- ---- a test that is lent
pub passes : {b r : Bool} → r ≡ b → Says (b ≡ true) r
passes q = record { so = λ e. sym q ∙ e; not_so = λ e p. true≢false (sym p ∙ sym q ∙ e) }

-- it is lent for a kind of lines: several lines that pass it are several of the kind
pub lent : {P : Line → Type 0} {answers : Bor Line → Bool → Type 0} (test : Line → Bool) {n : ℕ} {ls : List Line} {r : Bool} → ((l : Line) → Says (P l) (test l))
    → ((l : Bor Line) (q : Bool) → answers l q → Says (P l.now) q) → ((t : Line → Bool) → TestsLines answers t → Says (Several (Passes t) n ls) r) → Says (Several P n ls) r
lent {P = P} test exact says f = says_as
    (λ s. record { least = s.least; most = s.most; each = on _ s.each })
    (λ s. record { least = s.least; most = s.most; each = back _ s.each })
    (f test (λ l q a. says_same (says l q a) (exact l.now)))
  where
    on : (ks : List Line) → AllHold (Passes test) ks → AllHold P ks
    on [] h = tt
    on (k ∷ ks) h = ((exact k).so h.0, on ks h.1)

    back : (ks : List Line) → AllHold P ks → AllHold (Passes test) ks
    back [] h = tt
    back (k ∷ ks) h = (is_so (exact k) h.0, back ks h.1)

-- ---- with the place of the next line
pub lines_on : (s : Text) (at e n : ℕ) (h : at ≤ length s) (q : e ≡ at + count_up_to 13 (drop at s)) → e < length s → n ≡ min (e + 2) (length s)
    → (lines_in (drop at s) ≡ take (e - at) (drop at s) ∷ lines_in (drop n s)) × (n ≤ length s) × (1 ≤ length (lines_in (drop n s)))
lines_on s at e n h q k z =
    let a : n ≤ length s = omega arith in
    (lines_more s at e h q k ∙ ap (λ (i : ℕ). take (e - at) (drop at s) ∷ lines_in (drop i s)) (sym z), a, some_line s n a)

-- a tax line looks like one
pub tax_looks : (twelve : Bool) (l : Line) → IsTax twelve l → LooksTax l
tax_looks twelve l t =
    let q = tax_tests twelve t.0 t.1 l t.2 in
    let r = inn_range twelve (length t.0) q.count in
    looks_tax_lem l (room q.size) q.word (kind_at digit 3 l (length t.0) 0 q.digits.each (long q.size) (omega (arith, r.0)))
  where
    room : (length l ≡ length t.0 + 3) or (length l ≡ length t.0 + 16) → 4 ≤ length l
    room (inl e) = omega (arith, (inn_range twelve (length t.0) (tax_tests twelve t.0 t.1 l t.2).count).0)
    room (inr e) = omega arith

    long : (length l ≡ length t.0 + 3) or (length l ≡ length t.0 + 16) → 3 + length t.0 ≤ length l
    long (inl e) = omega arith
    long (inr e) = omega arith

-- ---- the tax place: of the lines l and ms
module _ (twelve : Bool) (l : Line) (ms : List Line) where
  -- a line that looks like a tax line must be one
  pub looks_wrong : LooksTax l → Not (IsTax twelve l) → Not (Beside twelve (l ∷ ms))
  looks_wrong t n (inl b) = n b.0
  looks_wrong t n (inr b) = b.0 (t, tt)

  pub looks_rest : LooksTax l → Not (Names 3 ms) → Not (Beside twelve (l ∷ ms))
  looks_rest t n (inl b) = n b.1
  looks_rest t n (inr b) = b.0 (t, tt)

  -- another is the first name
  pub plain_wrong : Not (LooksTax l) → Not (Names 4 (l ∷ ms)) → Not (Beside twelve (l ∷ ms))
  plain_wrong t n (inl b) = t (tax_looks twelve l b.0)
  plain_wrong t n (inr b) = n b.1

  pub plain : Not (LooksTax l) → Not (Then LooksTax Any (l ∷ ms))
  plain t b = t b.0

-- ---- the same at the content's start
module _ (s : Text) (e : ℕ) (q : e ≡ 0 + count_up_to 13 s) where
  e_0 : e - 0 ≡ e
  e_0 = omega arith

  pub within_0 : e ≤ length s
  within_0 = omega (arith, up_rest 13 s 0 (omega arith))

  pub taken_0 : e ≡ length (take e s)
  taken_0 = sym (length-take-le e s within_0)

  pub front_0 : (ms : List Line) × (lines_in s ≡ take e s ∷ ms)
  front_0 = let f = front s 0 e (omega arith) q in (f.0, f.1 ∙ ap (λ (k : ℕ). take k s ∷ f.0) e_0)

  pub last_0 : length s ≤ e → lines_in s ≡ take e s ∷ []
  last_0 h = lines_last s 0 e (omega arith) q h ∙ ap (λ (k : ℕ). take k s ∷ []) e_0

  pub on_0 : (n : ℕ) → e < length s → n ≡ min (e + 2) (length s) → (lines_in s ≡ take e s ∷ lines_in (drop n s)) × (n ≤ length s) × (1 ≤ length (lines_in (drop n s)))
  on_0 n h z = let g = lines_on s 0 e n (omega arith) q h z in (g.0 ∙ ap (λ (k : ℕ). take k s ∷ lines_in (drop n s)) e_0, g.1, g.2)

  -- an account, and what stands beside it
  pub account_then : (twelve : Bool) (n : ℕ) (r : Option Held) → e < length s → n ≡ min (e + 2) (length s) → IsAccount (take e s) → BesideSaid twelve n (lines_in (drop n s)) r
      → CustomerSaid twelve (take e s ∷ lines_in (drop n s)) r
  unfolding split
  account_then twelve n None h z a b = λ k. b k.1
  account_then twelve n (Some held.Plain) h z a b = (a, b)
  account_then twelve n (Some (held.Taxed p t)) h z a b = (a, (b.0 ∙ go (dec_lt (length s) (e + 2)), b.1))
    where
      none : n ≡ length s → ⊥
      none w = absurd (omega (arith, (rw (drop_of_length-le s {i = n} (omega arith)) at b.1).1.least))

      go : Dec (length s < e + 2) → n ≡ length (take e s) + 2
      go (yes k) = absurd (none (omega arith))
      go (no k) = omega (arith, taken_0)

  -- the first line begins with / exactly if the content does
  pub slash_first : (ms : List Line) → Then (BeginsWith "/") Any (take e s ∷ ms) → byte s 0 ≡ 47
  slash_first ms b =
      let f = b.0.1 in
      let k : 0 < e = omega (arith, ap length f, taken_0) in
      sym (get_or-take e s 0 0 k) ∙ ap (λ (l : Line). byte l 0) f

  pub first_slash : (ms : List Line) → 0 < length s → byte s 0 ≡ 47 → Then (BeginsWith "/") Any (take e s ∷ ms)
  first_slash ms h x =
      let u = up_pass 13 s 0 1 refl h (λ (y : byte s 0 ≡ 13). absurd (omega arith)) in
      let k : 0 < e = omega arith in
      let g : byte (take e s) 0 ≡ 47 = get_or-take e s 0 0 k ∙ x in
      ((drop 1 (take e s), head_tail (take e s) (omega (arith, taken_0)) ∙ rw g), tt)

account_slash : (twelve : Bool) (l : Line) (ms : List Line) → Customer twelve (l ∷ ms) → Then (BeginsWith "/") Any (l ∷ ms)
account_slash twelve l ms k = ((k.0.0, k.0.1.line), tt)

-- 50K by its first byte
pub payer_account : (l : Line) (ms : List Line) (r : Option Held) → Then (BeginsWith "/") Any (l ∷ ms) → CustomerSaid true (l ∷ ms) r → PayerSaid (l ∷ ms) r
payer_account l ms None b k = ⊎_elim (λ x. k x) (λ x. x.0 b)
payer_account l ms (Some h) b k = inl k

pub payer_bare : (l : Line) (ms : List Line) (r : Option Held) → Not (Then (BeginsWith "/") Any (l ∷ ms)) → BesideSaid true 0 (l ∷ ms) r → PayerSaid (l ∷ ms) r
payer_bare l ms None b k = ⊎_elim (λ x. b (account_slash true l ms x)) (λ x. k x.1)
payer_bare l ms (Some h) b k = inr (b, k)

pub payer_empty : (s : Text) → length s ≡ 0 → Not (Payer (lines_in s))
unfolding split
payer_empty [] e (inl x) = absurd (omega (arith, (account_size [] x.0).0))
payer_empty [] e (inr x) = none x.1
  where
    none : Beside true ([] ∷ []) → ⊥
    none (inl y) = absurd (omega (arith, y.1.least))
    none (inr y) = absurd (omega (arith, y.1.each.0.least))
payer_empty (x ∷ s) e p = absurd (omega arith)
