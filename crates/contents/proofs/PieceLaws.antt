-- What the library's words say of lists of bytes, in ours: tests of every byte, and how many at the front pass. Assumes nothing.
use Prim.Native.Nat.{ℕ, suc, ◌+◌, ◌-◌, ◌≤◌, ◌<◌, min}
use mathlib.Core.Path.{◌≡◌, refl, sym, ap, subst, ◌∙◌}
use mathlib.Core.Bool.{Bool, true, false, cond, ◌&&◌, false≢true}
use mathlib.Core.List.{[], ◌∷◌, ◌++◌}
use native.Mathlib.Omega.{arith}
use lib.Dec.{eqb}
use lib.Pointwise.{pointwise}
use lib.ListN.{length, take, drop, length-drop, length-take}
use lib.Seq.{take-take}
use Rattle.std.proofs.lemmas.Slice.Eq.{slice_eq-Decides}
use Rattle.std.proofs.lemmas.Bool.Decides.{Decides-eqb}
use Rattle.std.specs.Prelude.{Option, None, Some}
use Rattle.std.specs.Bool.{then_some}
use Rattle.std.specs.List.{list_all, prefix_len}
use Rattle.base.specs.Choice.{all}
use Rattle.base.specs.Bytes.{byte, digit}
use Rattle.contents.specs.Tests.{starts}
use Rattle.base.specs.Says.{Says}
use Rattle.base.proofs.SaysLaws.{says_true}
use Rattle.contents.specs.Words.{Text, Just}
use Rattle.contents.specs.Answers.{cut, Leads}
use Rattle.contents.proofs.Laws.{just, cut_byte}
use Rattle.contents.proofs.LineLaws.{starts_by}

all_is : (t : ℕ → Bool) (s : Text) → list_all t s ≡ all t s
all_is t [] = refl
all_is t (x ∷ s) = ap (λ (b : Bool). t x && b) (all_is t s)

pub all_push : (t : ℕ → Bool) (s : Text) (x : ℕ) → all t (s ++ (x ∷ [])) ≡ (all t s && t x)
all_push t [] x = go (t x)
  where
    go : (b : Bool) → (b && true) ≡ b
    go true = refl
    go false = refl
all_push t (y ∷ s) x = ap (λ (b : Bool). t y && b) (all_push t s x) ∙ go (t y) (all t s) (t x)
  where
    go : (a b c : Bool) → (a && (b && c)) ≡ ((a && b) && c)
    go true b c = refl
    go false b c = refl

module _ (t : ℕ → Bool) (i n : ℕ) (s : Text) (h : i + n ≤ length s) where
  room : i + n - i ≡ n
  room = omega arith

  pub just_of : {r : Bool} → r ≡ all t (take (i + n - i) (drop i s)) → Says (Just t n (cut i n s)) r
  just_of {r} e = just t i s n r h (rw (e, room) (says_true (all t (cut i n s))))

  pub just_by : {r : Bool} → r ≡ list_all t (take (i + n - i) (drop i s)) → Says (Just t n (cut i n s)) r
  just_by e = just_of (e ∙ all_is t (take (i + n - i) (drop i s)))

-- ---- how many pass, of the first n
module _ (t : ℕ → Bool) where
  passes : (s : Text) → all t (take (prefix_len t s) s) ≡ true
  passes [] = refl
  passes (x ∷ s) = go (t x) refl (passes s)
    where
      go : (b : Bool) → t x ≡ b → all t (take (prefix_len t s) s) ≡ true → all t (take (cond b (1 + prefix_len t s) 0) (x ∷ s)) ≡ true
      go true e h = let q : 1 + prefix_len t s ≡ suc (prefix_len t s) = omega arith in ap (λ (k : ℕ). all t (take k (x ∷ s))) q ∙ ap (λ (b : Bool). b && all t (take (prefix_len t s) s)) e ∙ h
      go false e h = refl

  no_more : (s : Text) → prefix_len t s ≤ length s
  no_more [] = omega arith
  no_more (x ∷ s) = go (t x) (no_more s)
    where
      go : (b : Bool) → prefix_len t s ≤ length s → cond b (1 + prefix_len t s) 0 ≤ suc (length s)
      go true h = omega arith
      go false h = omega arith

  stops : (s : Text) → prefix_len t s < length s → t (byte s (prefix_len t s)) ≡ false
  stops [] h = absurd (omega arith)
  stops (x ∷ s) h = go (t x) refl (stops s) h
    where
      go : (b : Bool) → t x ≡ b → (prefix_len t s < length s → t (byte s (prefix_len t s)) ≡ false) → cond b (1 + prefix_len t s) 0 < suc (length s) → t (byte (x ∷ s) (cond b (1 + prefix_len t s) 0)) ≡ false
      go true e h k = let q : 1 + prefix_len t s ≡ suc (prefix_len t s) = omega arith in ap (λ (n : ℕ). t (byte (x ∷ s) n)) q ∙ h (omega arith)
      go false e h k = e

pub leads_by : (i n : ℕ) (s : Text) {r : ℕ} → i ≤ length s → r ≡ prefix_len digit (take n (drop i s)) → Leads i n s r
leads_by i n s {r} h e = record {
  within = omega (arith, e, most, size);
  most = omega (arith, e, most, size);
  each = ap (all digit) (sym (take-take r n (drop i s) (omega (arith, e, most, size))) ∙ ap (λ (k : ℕ). take k t) e) ∙ passes digit t;
  stop = λ x y. ap digit (sym (cut_byte i n r s x) ∙ ap (byte t) e) ∙ stops digit t (omega (arith, e, size));
}
  where
    t : Text
    t = take n (drop i s)

    most : prefix_len digit t ≤ length t
    most = no_more digit t

    size : length t ≡ min n (length s - i)
    size = length-take n (drop i s) ∙ ap (min n) (length-drop i s)

-- ---- what is perhaps made, by a test
pub made_if : {A : Type 0} (P : Option A → Type 0) {b : Bool} {x : A} {r : Option A} → r ≡ then_some b x → (b ≡ true → P (Some x)) → (b ≡ false → P None) → P r
made_if P {b = true} e f g = subst P (sym e) (f refl)
made_if P {b = false} e f g = subst P (sym e) (g refl)

-- ---- how a text begins
pub starts_is : (w s : Text) {r : Bool} → r ≡ pointwise eqb w (take (length w) s) → r ≡ starts w s
starts_is w s {r} e =
    let d = slice_eq-Decides Decides-eqb w (take (length w) s) r e in
    starts_by w s (record { so = λ q. sym (d.0 q); not_so = λ q x. false≢true (sym q ∙ d.1 (sym x)) })
