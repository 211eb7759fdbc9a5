-- The parts of a record one after another: each as it is cast, and as code finds it. Assumes nothing.
use Prim.Native.Nat.{ℕ, ◌+◌, ◌-◌, ◌≤◌, ◌<◌}
use mathlib.Core.Path.{◌≡◌, refl, sym, ap, subst, ◌∙◌}
use mathlib.Core.Bool.{Bool, true, false, not, ◌&&◌}
use mathlib.Core.List.{List, [], ◌∷◌, ◌++◌, map, append_assoc}
use native.Mathlib.Omega.{arith}
use lib.ListN.{length, take, drop}
use Rattle.writer.specs.Comes.{Step, Put}
use Rattle.base.specs.Choice.{pick}
use Rattle.base.specs.Bytes.{begins, count_up_to}
use Rattle.base.specs.Rules.{then}
use Rattle.base.specs.Calls.{Answer, said, stuck, text_of}
use Rattle.base.specs.Verdicts.{Verdict, Fine}
use Rattle.base.proofs.RuleLaws.{fine_broken}
use Rattle.alphabets.specs.Bank.{plainly}
use Rattle.alphabets.specs.Best.{writing}
use Rattle.alphabets.proofs.Theorems.{plain_only}
use Rattle.fields.specs.Field.{with_cr_lf}
use Rattle.contents.specs.Tests.{looks_tax}
use Rattle.roles.specs.Role.{Part, copy, name, tax_name, line_of}
use Rattle.roles.specs.Parts.{cast_by, is_name_by, next_role}
use Rattle.roles.specs.declared.Role.{Role}
use Rattle.roles.specs.declared.Role.TheVariants.{Copies, OfPayer, OfPayee, OfAgent, Taxed, Names}
use Rattle.roles.proofs.PartLaws.{first_part, cast_none, cast_cons, first_line_lem}
use Rattle.records.specs.Found.{pieces_at}
use Rattle.records.proofs.PieceLaws.{pieces_at_lem, past_end, end_within, piece_length}
use Rattle.writer.specs.Spread.{said_part, line_for}
use Rattle.writer.specs.Sheet.{stopped_at, unsaid}
use Rattle.writer.specs.Steps.{Adds}
use Rattle.writer.proofs.StepLaws.{adds_then, adds_none, adds_cut, adds_by, adds_same, Onward}

-- ---- the parts as they are cast
copied : (s : Bool) (p : List ℕ) → writing (s && false) p ≡ plainly p
copied true p = refl
copied false p = refl

spoken : (s : Bool) (p : List ℕ) → writing (s && true) p ≡ writing s p
spoken true p = refl
spoken false p = refl

first_said : (s : Bool) (role : Role) (p : List ℕ) → writing (s && is_name_by role p) p ≡ said_part s (first_part role p)
first_said s Copies p = copied s p
first_said s OfPayer p = go (begins 47 p) (looks_tax p)
  where
    go : (a b : Bool) → writing (s && (not a && not b)) p ≡ said_part s (pick a (copy p) (pick b (copy p) (tax_name p)))
    go true b = copied s p
    go false true = copied s p
    go false false = spoken s p
first_said s OfPayee p = go (begins 47 p)
  where
    go : (a : Bool) → writing (s && not a) p ≡ said_part s (pick a (copy p) (name p))
    go true = copied s p
    go false = spoken s p
first_said s OfAgent p = copied s p
first_said s Taxed p = go (looks_tax p)
  where
    go : (a : Bool) → writing (s && not a) p ≡ said_part s (pick a (copy p) (tax_name p))
    go true = copied s p
    go false = spoken s p
first_said s Names p = spoken s p

-- a copied text that is written is itself
pub plain_line : (p : List ℕ) (o : ℕ) → stopped_at o (plainly p) ≡ Fine → text_of (plainly p) ≡ p
plain_line p o e = go (plainly p) refl e
  where
    go : (a : Answer) → plainly p ≡ a → stopped_at o a ≡ Fine → text_of a ≡ p
    go (said t) f e = sym (plain_only p t f)
    go (stuck k) f e = absurd (fine_broken 15 (o + k) (sym e))

said_line : (s : Bool) (c : Part) (o : ℕ) → stopped_at o (said_part s c) ≡ Fine → text_of (said_part s c) ≡ line_for s c
said_line s (copy p) o e = plain_line p o e
said_line s (name p) o e = refl
said_line s (tax_name p) o e = refl

-- ---- the parts as code finds them: from i on as from the first
abbrev pub PartsLeft : Verdict → List ℕ → List ℕ → ℕ → Bool → Role → List ℕ → ℕ → List ℕ → ℕ → Type 0
PartsLeft v t out at s role l i now n = Onward v false t out at (unsaid s i (cast_by role (pieces_at 9 l i))) false (with_cr_lf (map (line_for s) (cast_by role (pieces_at 9 l i)))) now n

module _ (s : Bool) (role : Role) (l : List ℕ) (i e : ℕ) (h : i ≤ length l) (q : e ≡ i + count_up_to 9 (drop i l)) where
  abbrev part : List ℕ
  part = take (e - i) (drop i l)

  abbrev this : Part
  this = first_part role part

  abbrev rest : List Part
  rest = cast_by (next_role role part) (pieces_at 9 l (e + 1))

  list : cast_by role (pieces_at 9 l i) ≡ this ∷ rest
  list = ap (cast_by role) (pieces_at_lem 9 l i e h q) ∙ cast_cons role part (pieces_at 9 l (e + 1))

  stops_at : then (stopped_at i (said_part s this)) (unsaid s (e + 1) rest) ≡ unsaid s i (cast_by role (pieces_at 9 l i))
  unfolding unsaid
  stops_at =
      let z : e + 1 ≡ i + length (line_of this) + 1 = omega (arith, ap length (first_line_lem role part), piece_length l i e (omega arith) (end_within 9 l i e h q)) in
      ap (λ (k : ℕ). then (stopped_at i (said_part s this)) (unsaid s k rest)) z ∙ sym (ap (unsaid s i) list)

  lines_at : (line_for s this ++ 13 ∷ 10 ∷ []) ++ with_cr_lf (map (line_for s) rest) ≡ with_cr_lf (map (line_for s) (cast_by role (pieces_at 9 l i)))
  lines_at = append_assoc (line_for s this) (13 ∷ 10 ∷ []) (with_cr_lf (map (line_for s) rest)) ∙ sym (ap (λ (cs : List Part). with_cr_lf (map (line_for s) cs)) list)

  module _ {b : Bool} (eb : b ≡ (s && is_name_by role part)) {now mid : List ℕ} {n : ℕ} {r : Step} (a : Adds (stopped_at i (writing b part)) false (text_of (writing b part) ++ 13 ∷ 10 ∷ []) now n r mid) where
    line_at : Adds (stopped_at i (said_part s this)) false (line_for s this ++ 13 ∷ 10 ∷ []) now n r mid
    line_at =
        adds_same (stopped_at i (said_part s this)) (λ z. ap (λ (t : List ℕ). t ++ 13 ∷ 10 ∷ []) (said_line s this i z))
        (subst (λ (x : Answer). Adds (stopped_at i x) false (text_of x ++ 13 ∷ 10 ∷ []) now n r mid) (ap (λ (x : Bool). writing x part) eb ∙ first_said s role part) a)

    -- this one is put, and what is left is the parts behind it
    pub parts_on : {v : Verdict} {t out : List ℕ} {at m : ℕ} → PartsLeft v t out at s role l i now n → r ≡ Put m → {role' : Role} → role' ≡ next_role role part → PartsLeft v t out at s role' l (e + 1) mid m
    parts_on {m = m} f er e' q after d =
        let a1 = subst (λ (x : Step). Adds (stopped_at i (said_part s this)) false (line_for s this ++ 13 ∷ 10 ∷ []) now n x mid) er line_at in
        let d1 = subst (λ (x : Role). Adds (unsaid s (e + 1) (cast_by x (pieces_at 9 l (e + 1)))) false (with_cr_lf (map (line_for s) (cast_by x (pieces_at 9 l (e + 1))))) mid m q after) e' d in
        f q after (adds_by stops_at lines_at (adds_then (stopped_at i (said_part s this)) (unsaid s (e + 1) rest) (line_for s this ++ 13 ∷ 10 ∷ []) (with_cr_lf (map (line_for s) rest)) a1 d1))

    -- this one stops
    pub parts_stop : {v : Verdict} {t out after : List ℕ} {at : ℕ} → PartsLeft v t out at s role l i now n → ((m : ℕ) → r ≡ Put m → ⊥) → Adds v false t out at r after
    parts_stop {after = after} f nope =
        f r after (adds_by {t = with_cr_lf (map (line_for s) (cast_by role (pieces_at 9 l i)))} stops_at refl (adds_cut (stopped_at i (said_part s this)) (unsaid s (e + 1) rest) (line_for s this ++ 13 ∷ 10 ∷ []) r nope line_at))

-- no part is left
pub parts_end : (s : Bool) (role : Role) (l : List ℕ) (i : ℕ) → length l < i → {v : Verdict} {t out now : List ℕ} {at n : ℕ} → PartsLeft v t out at s role l i now n → Adds v false t out at (Put n) now
unfolding unsaid
parts_end s role l i h {now = now} {n = n} f =
    f (Put n) now (subst (λ (cs : List Part). Adds (unsaid s i cs) false (with_cr_lf (map (line_for s) cs)) now n (Put n) now) (sym (ap (cast_by role) (past_end 9 l i h) ∙ cast_none role)) adds_none)
