-- 32A: its tests and its pieces. Assumes nothing.
use Prim.Native.Nat.{ℕ, ◌+◌, ◌-◌, ◌≤◌, ◌<◌}
use mathlib.Core.Path.{◌≡◌, refl, ◌∙◌}
use mathlib.Core.Bool.{false}
use mathlib.Core.List.{List, [], ◌∷◌}
use native.Mathlib.Omega.{arith}
use lib.ListN.{length, length-append}
use Rattle.base.specs.Bytes.{byte, digit}
use Rattle.base.specs.Quoted.{bytes}
use Rattle.contents.specs.Words.{Text, Digits, Capitals}
use Rattle.contents.specs.Lines.{Payment}
use Rattle.contents.specs.Answers.{cut, Leads, PaidWith}
use Rattle.contents.proofs.Laws.{Spot, spot, stands_at, StandsAt, made, cut_length, mark_stops, run_once}

abbrev spots : ℕ → ℕ → List Spot
spots n d = spot 6 6 ∷ spot 3 9 ∷ spot n (n + 9) ∷ spot 1 (1 + (n + 9)) ∷ spot d (d + (1 + (n + 9))) ∷ []

-- what the code tests
pub record PaidTests (n : ℕ) (l : Text) : Type 0 where
  pub least : 11 ≤ length l
  pub most : length l ≤ 24
  pub day : Digits 6 (cut 0 6 l)
  pub money : Capitals 3 (cut 6 3 l)
  pub run : Leads 9 14 l n
  pub some : 1 ≤ n
  pub there : n + 9 < length l
  pub few : length l - (1 + (n + 9)) ≤ 2
  pub comma : cut (n + 9) 1 l ≡ bytes ","
  pub parts : Digits (length l - (1 + (n + 9))) (cut (1 + (n + 9)) (length l - (1 + (n + 9))) l)

module _ (date currency whole decimals l : Text) (t : Payment date currency whole decimals l) where
  paid_laid : StandsAt 0 (spots (length whole) (length decimals)) (date ∷ currency ∷ whole ∷ bytes "," ∷ decimals ∷ []) l
  paid_laid =
      stands_at (spots (length whole) (length decimals)) (date ∷ currency ∷ whole ∷ bytes "," ∷ decimals ∷ []) l
      (t.day.size, refl, (t.money.size, refl, (refl, refl, (refl, refl, (refl, refl, tt))))) t.line

  ends : digit (byte l (9 + length whole)) ≡ false
  unfolding digit
  ends = mark_stops 9 (length whole) (length whole + 9) 44 l (omega arith) refl paid_laid.1.1.1.0

  pub paid_tests : PaidTests (length whole) l
  paid_tests =
      let p = paid_laid in
      let z = p.1.1.1.1.1 in
      let a : length whole + (1 + length decimals) ≤ 15 = simp length-append at t.amount in
      let d : length l - (1 + (length whole + 9)) ≡ length decimals = omega arith in
      record {
        least = omega (arith, t.units.least);
        most = omega arith;
        day = rw p.0 t.day;
        money = rw p.1.0 t.money;
        run = record { within = omega arith; most = omega arith; each = rw p.1.1.0 t.units.each; stop = λ h k. ends };
        some = t.units.least;
        there = omega arith;
        few = omega (arith, t.parts.most);
        comma = p.1.1.1.0;
        parts = rw (d, p.1.1.1.1.0) (record { size = refl; each = t.parts.each });
      }

-- a line passes the tests with the run that stands there
pub paid_passes : (date currency whole decimals l : Text) (n : ℕ) → Leads 9 14 l n → Payment date currency whole decimals l → PaidTests n l
paid_passes date currency whole decimals l n a t =
    let q = paid_tests date currency whole decimals l t in
    rw (run_once 9 14 l a q.run (ends date currency whole decimals l t) (omega (arith, q.there))) q

-- what passes them is one
pub paid_made : (n : ℕ) (l : Text) → PaidTests n l
    → PaidWith n (length l - (1 + (n + 9))) l
paid_made n l t =
    let d : ℕ = length l - (1 + (n + 9)) in
    let z = cut_length 9 n l t.run.within in
    let y = t.parts.size in
    let u = t.run.most in
    let v = t.most in
    let w = t.there in (
      record {
        day = t.day;
        money = t.money;
        units = record { least = omega (arith, t.some); each = t.run.each };
        parts = record { least = omega arith; most = omega (arith, t.few); each = t.parts.each };
        amount = simp length-append (omega arith);
        line = made (spots n d) l (refl, (refl, (refl, (refl, (refl, omega arith))))) ∙ rw t.comma;
      },
      z,
      y,
    )
