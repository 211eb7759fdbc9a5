-- 53B, BICs and party lines: their tests and their pieces. Assumes nothing.
use Rattle.base.specs.Says.{Not}
use Prim.Native.Nat.{ℕ, ◌+◌, ◌≤◌}
use mathlib.Core.Path.{◌≡◌, refl, sym, ap, ◌∙◌}
use mathlib.Core.Logic.{inl, inr, ⊎_elim}
use mathlib.Core.List.{List, [], ◌∷◌}
use native.Mathlib.Omega.{arith}
use lib.ListN.{length, take, drop}
use lib.Seq.{take-take}
use Rattle.base.specs.Quoted.{bytes}
use Rattle.contents.specs.Words.{Text, Line, Digits, Capitals, CapitalsOrDigits, Perhaps}
use Rattle.contents.specs.Lines.{PartyByBik, PartyByAccount}
use Rattle.contents.specs.Fields.{IsOwnAccount, IsBic, IsParty, One, BankByBic}
use Rattle.contents.specs.Answers.{cut, BikWith}
use Rattle.contents.proofs.Laws.{Spot, spot, stands_at, StandsAt, made, mark_some}

-- ---- 53B
pub own_tests : (l : Text) → IsOwnAccount l → (length l ≡ 23) × (cut 0 3 l ≡ bytes "/D/") × Digits 20 (cut 3 20 l)
own_tests l (a, t) =
    let p = stands_at (spot 3 3 ∷ spot 20 23 ∷ []) (bytes "/D/" ∷ a ∷ []) l (refl, refl, (t.number.size, refl, tt)) t.line in
    (p.1.1, p.0, rw p.1.0 t.number)

pub own_made : (l : Text) → length l ≡ 23 → cut 0 3 l ≡ bytes "/D/" → Digits 20 (cut 3 20 l) → IsOwnAccount l
own_made l e w d = (cut 3 20 l, record { number = d; line = made (spot 3 3 ∷ spot 20 23 ∷ []) l (refl, (refl, sym e)) ∙ rw w })

-- ---- BIC
abbrev bic_spots : ℕ → List Spot
bic_spots b = spot 4 4 ∷ spot 2 6 ∷ spot 2 8 ∷ spot b (b + 8) ∷ []

pub record BicTests (l : Text) : Type 0 where
  pub least : 8 ≤ length l
  pub four : Capitals 4 (cut 0 4 l)
  pub two : Capitals 2 (cut 4 2 l)
  pub town : CapitalsOrDigits 2 (cut 6 2 l)
  pub tail : Not (length l ≡ 8) → (length l ≡ 11) × CapitalsOrDigits 3 (cut 8 3 l)

pub bic_tests : (l : Text) → IsBic l → BicTests l
bic_tests l (a, b, c, d, t) = record {
  least = omega (arith, p.1.1.1.1);
  four = rw p.0 t.four;
  two = rw p.1.0 t.two;
  town = rw p.1.1.0 t.town;
  tail = go t.three;
}
  where
    p : StandsAt 0 (bic_spots (length d)) (a ∷ b ∷ c ∷ d ∷ []) l
    p = stands_at (bic_spots (length d)) (a ∷ b ∷ c ∷ d ∷ []) l (t.four.size, refl, (t.two.size, refl, (t.town.size, refl, (refl, refl, tt)))) t.line

    go : Perhaps (CapitalsOrDigits 3) d → Not (length l ≡ 8) → (length l ≡ 11) × CapitalsOrDigits 3 (cut 8 3 l)
    go (inl e) off = absurd (off (omega (arith, p.1.1.1.1, ap length e)))
    go (inr s) off = (omega (arith, p.1.1.1.1, s.size), rw (ap (λ (k : ℕ). cut 8 k l) (sym s.size) ∙ p.1.1.1.0) s)

module _ (l : Text) (f : Capitals 4 (cut 0 4 l)) (w : Capitals 2 (cut 4 2 l)) (s : CapitalsOrDigits 2 (cut 6 2 l)) where
  pub bic_long : length l ≡ 11 → CapitalsOrDigits 3 (cut 8 3 l) → IsBic l
  bic_long e b = (cut 0 4 l, cut 4 2 l, cut 6 2 l, cut 8 3 l, record { four = f; two = w; town = s; three = inr b; line = made (bic_spots 3) l (refl, (refl, (refl, (refl, sym e)))) })

-- ---- party lines
pub record BikTests (l : Text) : Type 0 where
  pub least : 13 ≤ length l
  pub other : Not (length l ≡ 21)
  pub word : cut 0 4 l ≡ bytes "//RU"
  pub begins : cut 4 2 l ≡ bytes "04"
  pub nine : Digits 9 (cut 4 9 l)
  pub tail : Not (length l ≡ 13) → (length l ≡ 34) × (cut 13 1 l ≡ bytes ".") × Digits 20 (cut 14 20 l)

pub bik_tests : (bik account l : Text) → PartyByBik bik account l → BikTests l
bik_tests bik account l t = go t.number
  where
    first : cut 4 9 l ≡ bik → cut 4 2 l ≡ bytes "04"
    first e = sym (take-take 2 9 (drop 4 l) (omega arith)) ∙ ap (take 2) e ∙ t.begins

    go : Perhaps (Digits 20) account → BikTests l
    go (inl e) =
        let p = stands_at (spot 4 4 ∷ spot 9 13 ∷ spot 0 13 ∷ []) (bytes "//RU" ∷ bik ∷ [] ∷ []) l (refl, refl, (t.nine.size, refl, (refl, refl, tt))) (t.line ∙ rw e) in
        let z = p.1.1.1 in
        record { least = omega arith; other = λ x. absurd (omega arith); word = p.0; begins = first p.1.0; nine = rw p.1.0 t.nine; tail = λ off. absurd (off z) }
    go (inr d) =
        let p = stands_at (spot 4 4 ∷ spot 9 13 ∷ spot 1 14 ∷ spot 20 34 ∷ []) (bytes "//RU" ∷ bik ∷ bytes "." ∷ account ∷ []) l (refl, refl, (t.nine.size, refl, (refl, refl, (d.size, refl, tt))))
        (t.line ∙ rw (mark_some "." account (omega (arith, d.size)))) in
        let z = p.1.1.1.1 in
        record { least = omega arith; other = λ x. absurd (omega arith); word = p.0; begins = first p.1.0; nine = rw p.1.0 t.nine; tail = λ off. (z, p.1.1.0, rw p.1.1.1.0 d) }

pub account_tests : (account l : Text) → PartyByAccount account l → (length l ≡ 21) × (cut 0 1 l ≡ bytes "/") × Digits 20 (cut 1 20 l)
account_tests a l t =
    let p = stands_at (spot 1 1 ∷ spot 20 21 ∷ []) (bytes "/" ∷ a ∷ []) l (refl, refl, (t.number.size, refl, tt)) t.line in
    (p.1.1, p.0, rw p.1.0 t.number)

module _ (l : Text) (w : cut 0 4 l ≡ bytes "//RU") (b : cut 4 2 l ≡ bytes "04") (c : Digits 9 (cut 4 9 l)) where
  pub bik_long : length l ≡ 34 → cut 13 1 l ≡ bytes "." → Digits 20 (cut 14 20 l) → BikWith 20 l
  bik_long e p d = (
    record {
      nine = c;
      begins = take-take 2 9 (drop 4 l) (omega arith) ∙ b;
      number = inr d;
      line = made (spot 4 4 ∷ spot 9 13 ∷ spot 1 14 ∷ spot 20 34 ∷ []) l (refl, (refl, (refl, (refl, sym e)))) ∙ rw (w, p, mark_some "." (cut 14 20 l) (omega (arith, d.size)));
    },
    d.size,
  )

-- a line of 21 bytes is no party line by BIK, and another none by account
pub not_party : (l : Text) → ((bik account : Text) → Not (PartyByBik bik account l)) → ((account : Text) → Not (PartyByAccount account l)) → Not (IsParty l)
not_party l b a (inl x) = b x.0 x.1 x.2
not_party l b a (inr x) = a x.0 x.1

-- ---- banks: of the line l and the lines ms

module _ (l : Line) (ms : List Line) where
  one_none : 1 ≤ length ms → One IsBic (l ∷ ms) → ⊥
  one_none h b = go ms h b
    where
      go : (ms : List Line) → 1 ≤ length ms → One IsBic (l ∷ ms) → ⊥
      go [] h b = absurd (omega arith)
      go (m ∷ ms) h b = b

  pub bic_no_party : 1 ≤ length ms → Not (IsParty l) → Not (BankByBic (l ∷ ms))
  bic_no_party h n = ⊎_elim (λ x. one_none h x) (λ x. n x.0)

  pub bic_no_rest : 1 ≤ length ms → Not (One IsBic ms) → Not (BankByBic (l ∷ ms))
  bic_no_rest h n = ⊎_elim (λ x. one_none h x) (λ x. n x.1)

pub bic_not_alone : (l : Line) → Not (IsBic l) → Not (BankByBic (l ∷ []))
bic_not_alone l n = ⊎_elim (λ x. n x) (λ x. x.1)

pub one_last : (l : Line) (ms : List Line) → 1 ≤ length ms → Not (One IsBic (l ∷ ms))
one_last l ms h = one_none l ms h
