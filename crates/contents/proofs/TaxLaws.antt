-- The tax line: what its sizes and its pieces are, and that they make it one. Assumes nothing.
use Rattle.base.specs.Says.{Not, ◌or◌}
use Prim.Native.Nat.{ℕ, ◌+◌, ◌≤◌}
use mathlib.Core.Path.{◌≡◌, refl, sym, ◌∙◌}
use mathlib.Core.Bool.{Bool, true, false}
use mathlib.Core.Logic.{inl, inr}
use mathlib.Core.List.{List, [], ◌∷◌}
use native.Mathlib.Omega.{arith}
use lib.ListN.{length}
use Rattle.std.specs.Prelude.{None, Some}
use Rattle.base.specs.Quoted.{bytes}
use Rattle.contents.specs.Words.{Text, Digits, Perhaps}
use Rattle.contents.specs.Lines.{Inn, TaxLine}
use Rattle.contents.specs.Answers.{cut, InnSize, InnSaid, TaxWith}
use Rattle.contents.proofs.Laws.{Spot, spot, stands_at, StandsAt, made, mark_some}

inn_size : (twelve : Bool) (inn : Text) → Inn twelve inn → InnSize twelve (length inn) × Digits (length inn) inn
inn_size true inn (inl p) = (inl p.size, record { size = refl; each = p.each })
inn_size true inn (inr p) = (inr p.size, record { size = refl; each = p.each })
inn_size false inn p = (p.size, record { size = refl; each = p.each })

inn_made : (twelve : Bool) (n : ℕ) (inn : Text) → InnSize twelve n → Digits n inn → Inn twelve inn
inn_made true n inn (inl e) p = inl (rw e at p)
inn_made true n inn (inr e) p = inr (rw e at p)
inn_made false n inn e p = rw e at p

pub inn_range : (twelve : Bool) (n : ℕ) → InnSize twelve n → (1 ≤ n) × (n ≤ 12)
inn_range true n (inl e) = (omega arith, omega arith)
inn_range true n (inr e) = (omega arith, omega arith)
inn_range false n e = (omega arith, omega arith)

-- its pieces, without a KPP and with one
abbrev inn_spots : ℕ → List Spot
inn_spots n = spot 3 3 ∷ spot n (n + 3) ∷ spot 0 (n + 3) ∷ []

abbrev kpp_spots : ℕ → List Spot
kpp_spots n = spot 3 3 ∷ spot n (n + 3) ∷ spot 4 (4 + (n + 3)) ∷ spot 9 (n + 16) ∷ []

module _ (twelve : Bool) (inn kpp l : Text) (t : TaxLine twelve inn kpp l) where
  inn_laid : kpp ≡ [] → StandsAt 0 (inn_spots (length inn)) (bytes "INN" ∷ inn ∷ [] ∷ []) l
  inn_laid e = stands_at (inn_spots (length inn)) (bytes "INN" ∷ inn ∷ [] ∷ []) l (refl, refl, (refl, refl, (refl, omega arith, tt))) (t.line ∙ rw e)

  kpp_laid : Digits 9 kpp → StandsAt 0 (kpp_spots (length inn)) (bytes "INN" ∷ inn ∷ bytes ".KPP" ∷ kpp ∷ []) l
  kpp_laid d =
      stands_at (kpp_spots (length inn)) (bytes "INN" ∷ inn ∷ bytes ".KPP" ∷ kpp ∷ []) l (refl, refl, (refl, refl, (refl, refl, (d.size, omega arith, tt))))
      (t.line ∙ rw (mark_some ".KPP" kpp (omega (arith, d.size))))

-- what the code tests
pub record TaxTests (twelve : Bool) (n : ℕ) (l : Text) : Type 0 where
  pub size : (length l ≡ n + 3) or (length l ≡ n + 16)
  pub count : InnSize twelve n
  pub word : cut 0 3 l ≡ bytes "INN"
  pub digits : Digits n (cut 3 n l)
  pub kpp : Not (length l ≡ n + 3) → (cut (n + 3) 4 l ≡ bytes ".KPP") × Digits 9 (cut (4 + (n + 3)) 9 l)

pub tax_tests : (twelve : Bool) (inn kpp l : Text) → TaxLine twelve inn kpp l → TaxTests twelve (length inn) l
tax_tests twelve inn kpp l t = go t.reason
  where
    go : Perhaps (Digits 9) kpp → TaxTests twelve (length inn) l
    go (inl e) = let p = inn_laid twelve inn kpp l t e in let s = inn_size twelve inn t.person in
        record { size = inl p.1.1.1; count = s.0; word = p.0; digits = rw p.1.0 s.1; kpp = λ z. absurd (z p.1.1.1) }
    go (inr d) = let p = kpp_laid twelve inn kpp l t d in let s = inn_size twelve inn t.person in
        record { size = inr p.1.1.1.1; count = s.0; word = p.0; digits = rw p.1.0 s.1; kpp = λ z. (p.1.1.0, rw p.1.1.1.0 d) }

-- where no INN has that size, there is no tax line
pub tax_none : (twelve : Bool) (l : Text) → InnSaid twelve (length l) None → (inn kpp : Text) → Not (TaxLine twelve inn kpp l)
tax_none twelve l b inn kpp t = let q = tax_tests twelve inn kpp l t in b (length inn) (record { count = q.count; line = q.size })

module _ (twelve : Bool) (l : Text) (n : ℕ) (b : InnSaid twelve (length l) (Some n)) where
  -- a tax line passes the tests
  pub tax_passes : (inn kpp : Text) → TaxLine twelve inn kpp l → TaxTests twelve n l
  tax_passes inn kpp t = let q = tax_tests twelve inn kpp l t in rw (b.1 (length inn) (record { count = q.count; line = q.size })) q

  -- and what passes them is one
  pub tax_inn_lem : cut 0 3 l ≡ bytes "INN" → Digits n (cut 3 n l) → length l ≡ n + 3 → TaxWith twelve n 0 l
  tax_inn_lem w d e = (record { person = inn_made twelve n (cut 3 n l) b.0.count d; reason = inl refl; line = made (inn_spots n) l (refl, (refl, (omega arith, sym e))) ∙ rw w }, d.size, refl)

-- ---- the size of an INN by the size of its line
