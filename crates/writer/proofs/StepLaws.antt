-- Steps one behind another: what a step comes to, and where its bytes are. Assumes nothing.
use Prim.Native.Nat.{ℕ, ◌+◌, ◌≤◌}
use mathlib.Core.Path.{◌≡◌, refl, sym, ap, ap₂, subst, ◌∙◌}
use mathlib.Core.Bool.{Bool, true, false, not, ◌||◌, true≢false, false≢true}
use mathlib.Core.List.{List, [], ◌∷◌, ◌++◌}
use native.Mathlib.Omega.{arith}
use lib.ListN.{length, length-append}
use Rattle.writer.specs.Comes.{Step, Put, Stuck, Unfit}
use Rattle.std.specs.Prelude.{Err}
use Rattle.base.specs.Rules.{then}
use Rattle.base.specs.Calls.{placed, Puts}
use Rattle.base.specs.Verdicts.{Verdict, Fine, Broken}
use Rattle.base.proofs.RuleLaws.{fine_broken, then_fine}
use Rattle.base.proofs.Room.{puts_put, puts_on, puts_none}
use Rattle.writer.specs.declared.Halt.{Halt}
use Rattle.writer.specs.Steps.{came, Adds, Within, stuck_in, unfit_in, put_in}

-- ---- three parts one behind another
pub three_puts : (a b c : List ℕ) {out o₁ o₂ o₃ : List ℕ} {at n m r : ℕ} → n ≡ at + length a → o₁ ≡ placed out at a → m ≡ n + length b → o₂ ≡ placed o₁ n b → r ≡ m + length c → o₃ ≡ placed o₂ m c → Puts (a ++ (b ++ c)) out at r o₃
three_puts a b c i e j f k g = puts_on a (b ++ c) (puts_put {u = a} i e) (puts_on b c (puts_put {u = b} j f) (puts_put {u = c} k g))

-- ---- what a step is by its answer
put_unfit : {n : ℕ} → Put n ≡ Unfit → ⊥
put_unfit e = let z : ◌≡◌ {A = ℕ} 0 1 = cc in omega arith

put_stuck : {n p : ℕ} → Put n ≡ Stuck p → ⊥
put_stuck e = let z : ◌≡◌ {A = ℕ} 0 1 = cc in omega arith

unfit_stuck : {p : ℕ} → Unfit ≡ Stuck p → ⊥
unfit_stuck e = let z : ◌≡◌ {A = ℕ} 0 1 = cc in omega arith

pub came_put : (v : Verdict) (b : Bool) (k n : ℕ) → Put n ≡ came v b k → (v ≡ Fine) × (b ≡ false) × (n ≡ k)
came_put Fine false k n e = (refl, refl, cc)
came_put Fine true k n e = absurd (put_unfit e)
came_put (Err r) b k n e = absurd (put_stuck e)

pub came_unfit : (v : Verdict) (b : Bool) (k : ℕ) → Unfit ≡ came v b k → (v ≡ Fine) × (b ≡ true)
came_unfit Fine true k e = (refl, refl)
came_unfit Fine false k e = absurd (put_unfit (sym e))
came_unfit (Err r) b k e = absurd (unfit_stuck e)

pub came_stuck : (v : Verdict) (b : Bool) (k p : ℕ) → Stuck p ≡ came v b k → (j : ℕ) × (v ≡ Broken j p)
came_stuck Fine true k p e = absurd (unfit_stuck (sym e))
came_stuck Fine false k p e = absurd (put_stuck (sym e))
came_stuck (Err r) b k p e = let z : p ≡ r.place = cc in (r.number, ap (Broken r.number) (sym z))

-- details are crowded: the place is not looked at
came_crowd : (v : Verdict) (k n : ℕ) → came v true k ≡ came v true n
came_crowd Fine k n = refl
came_crowd (Err r) k n = refl

pub adds_by : {v w : Verdict} {b : Bool} {t u out after : List ℕ} {at : ℕ} {r : Step} → v ≡ w → t ≡ u → Adds v b t out at r after → Adds w b u out at r after
adds_by {v} {w} {b} {t} {u} {out} {after} {at} {r} e f a = subst (λ (l : List ℕ). Adds w b l out at r after) f (subst (λ (x : Verdict). Adds x b t out at r after) e a)

-- what is left: a step from here is one from the start
abbrev pub Onward : Verdict → Bool → List ℕ → List ℕ → ℕ → Verdict → Bool → List ℕ → List ℕ → ℕ → Type 0
Onward v b t out at w c u now n = (r : Step) (after : List ℕ) → Adds w c u now n r after → Adds v b t out at r after

-- ---- the bytes matter only where no rule stops them
pub adds_same : (v : Verdict) {b : Bool} {t u out after : List ℕ} {at : ℕ} {r : Step} → (v ≡ Fine → t ≡ u) → Adds v b t out at r after → Adds v b u out at r after
adds_same Fine {b} {out = out} {after = after} {at = at} {r = r} h a = subst (λ (l : List ℕ). Adds Fine b l out at r after) (h refl) a
adds_same (Err r) h a = record { answers = a.answers; fills = λ e. absurd (fine_broken r.number r.place (sym e)) }

-- nor where details are crowded
pub adds_alike : (v : Verdict) (b : Bool) {t u out after : List ℕ} {at : ℕ} {r : Step} → (v ≡ Fine → b ≡ false → t ≡ u) → Adds v b t out at r after → Adds v b u out at r after
adds_alike Fine false {out = out} {after = after} {at = at} {r = r} h a = subst (λ (l : List ℕ). Adds Fine false l out at r after) (h refl refl) a
adds_alike Fine true h a = record { answers = a.answers; fills = λ e f. absurd (true≢false f) }
adds_alike (Err r) b h a = record { answers = a.answers; fills = λ e. absurd (fine_broken r.number r.place (sym e)) }

pub adds_stuck : {v : Verdict} {b : Bool} {t out after : List ℕ} {at j p : ℕ} → v ≡ Broken j p → Adds v b t out at (Stuck p) after
adds_stuck {b = b} {t = t} {at = at} {j = j} {p = p} e = record { answers = ap (λ (w : Verdict). came w b (at + length t)) (sym e); fills = λ f. absurd (fine_broken j p (sym f ∙ e)) }

pub adds_unfit : {v : Verdict} {b : Bool} {t out after : List ℕ} {at : ℕ} → v ≡ Fine → b ≡ true → Adds v b t out at Unfit after
adds_unfit {t = t} {at = at} e f = record { answers = ap₂ (λ (w : Verdict) (c : Bool). came w c (at + length t)) (sym e) (sym f); fills = λ g h. absurd (true≢false (sym f ∙ h)) }

pub adds_put : {v : Verdict} {b : Bool} {t out after : List ℕ} {at n : ℕ} → v ≡ Fine → b ≡ false → Puts t out at n after → Adds v b t out at (Put n) after
adds_put {t = t} {at = at} e f p =
    record { answers = ap Put p.answers ∙ ap₂ (λ (w : Verdict) (c : Bool). came w c (at + length t)) (sym e) (sym f); fills = λ _ _. p.fills }

-- nothing more
pub adds_none : {out : List ℕ} {at : ℕ} → Adds Fine false [] out at (Put at) out
adds_none = adds_put refl refl puts_none

-- bytes before a step
pub adds_front : {v : Verdict} {b : Bool} (t u : List ℕ) {out mid after : List ℕ} {at n : ℕ} {r : Step} → Puts t out at n mid → Adds v b u mid n r after → Adds v b (t ++ u) out at r after
adds_front {v} {b} t u {at = at} {n = n} p a =
    let z : n + length u ≡ at + length (t ++ u) = omega (arith, p.answers, length-append t u) in
    record { answers = a.answers ∙ ap (came v b) z; fills = λ g h. (puts_on t u p (record { answers = refl; fills = a.fills g h })).fills }

-- a step behind one that was put
pub adds_then : (v w : Verdict) {b c : Bool} (t u : List ℕ) {out mid after : List ℕ} {at n : ℕ} {r : Step} → Adds v b t out at (Put n) mid → Adds w c u mid n r after
    → Adds (then v w) c (t ++ u) out at r after
adds_then v w {b} {c} t u {out = out} {after = after} {at = at} {n = n} {r = r} a d =
    let k = came_put v b (at + length t) n a.answers in
    subst (λ (x : Verdict). Adds (then x w) c (t ++ u) out at r after) (sym k.0) (adds_front t u (record { answers = k.2; fills = a.fills k.0 k.1 }) d)

-- ---- places that count from o on
abbrev pub moved_by : ℕ → Verdict → Verdict
moved_by o Fine = Fine
moved_by o (Err r) = Broken r.number (o + r.place)

-- the same from its own place on, with a rule behind and without
pub adds_cut : (v w : Verdict) (t : List ℕ) {u out now mid after : List ℕ} {c : Bool} {at n : ℕ} (r : Step) → ((m : ℕ) → r ≡ Put m → ⊥) → Adds v false t now n r mid → Adds (then v w) c u out at r after
adds_cut v w t (Put m) h a = absurd (h m refl)
adds_cut v w t {n = n} Unfit h a = absurd (false≢true (came_unfit v false (n + length t) a.answers).1)
adds_cut v w t {n = n} (Stuck p) h a = adds_stuck (ap (λ (x : Verdict). then x w) (came_stuck v false (n + length t) p a.answers).1)

-- CR LF behind a text
pub adds_end : (v : Verdict) (t : List ℕ) {out mid after : List ℕ} {at n : ℕ} {r : Step} → r ≡ Put n → Adds v false t out at r mid → after ≡ placed mid n (13 ∷ 10 ∷ []) → Adds v false (t ++ 13 ∷ 10 ∷ []) out at (Put (n + 2)) after
adds_end v t {out} {mid} {at = at} e a f =
    adds_by (then_fine v) refl (adds_then v Fine t (13 ∷ 10 ∷ []) (subst (λ (x : Step). Adds v false t out at x mid) e a) (adds_put refl refl (puts_put {u = 13 ∷ 10 ∷ []} refl f)))

-- and none behind one that stops
pub adds_stop : (v : Verdict) (t : List ℕ) {u out now mid after : List ℕ} {c : Bool} {at n : ℕ} (r : Step) → ((m : ℕ) → r ≡ Put m → ⊥) → Adds v false t now n r mid → Adds v c u out at r after
adds_stop v t {u = u} r h a = adds_by {t = u} (then_fine v) refl (adds_cut v Fine t r h a)

pub within_more : {r : Step} {k m : ℕ} (l n : ℕ) → Within r k m → k ≤ l → m ≤ n → Within r l n
within_more l n (stuck_in {p = p} w) h g = stuck_in {p = p} {k = l} (omega arith)
within_more l n unfit_in h g = unfit_in
within_more l n (put_in {m = m} w) h g = put_in {m = m} {n = n} (omega arith)

pub in_put : (m k n : ℕ) → m ≤ n → Within (Put m) k n
in_put m k n h = put_in h

pub in_stuck : (p k n : ℕ) → p ≤ k → Within (Stuck p) k n
in_stuck p k n h = stuck_in h

put_in_lem : {m k n : ℕ} → Within (Put m) k n → m ≤ n
put_in_lem (put_in w) = w

stuck_in_lem : {p k n : ℕ} → Within (Stuck p) k n → p ≤ k
stuck_in_lem (stuck_in w) = w

pub within_put : {r : Step} {k m n : ℕ} → r ≡ Put m → Within r k n → m ≤ n
within_put {k = k} {n = n} e w = put_in_lem (subst (λ (x : Step). Within x k n) e w)

pub within_stuck : {r : Step} {k p n : ℕ} → r ≡ Stuck p → Within r k n → p ≤ k
within_stuck {k = k} {n = n} e w = stuck_in_lem (subst (λ (x : Step). Within x k n) e w)

-- by the tags that `let .. else` tells
pub halted : {r : Step} {h k : Halt} → r ≡ Err h → h ≡ k → r ≡ Err k
halted e f = e ∙ ap (λ (x : Halt). Err x) f

pub not_put : {r : Step} {h : Halt} → r ≡ Err h → (m : ℕ) → r ≡ Put m → ⊥
not_put e m f = let z : ◌≡◌ {A = ℕ} 0 1 = cc in omega arith

-- one that was not put tells nothing of the room
pub within_any : {r : Step} {k n : ℕ} (m : ℕ) → ((j : ℕ) → r ≡ Put j → ⊥) → Within r k n → Within r k m
within_any m h (stuck_in w) = stuck_in w
within_any m h unfit_in = unfit_in
within_any m h (put_in {m = j} w) = absurd (h j refl)

-- ---- records one behind another: how it goes on behind one, whether all has fitted and the place
pub data Goes : Bool → ℕ → Step → Bool → ℕ → Type 0 where
  unfit_on : {fit : Bool} {n : ℕ} → Goes fit n Unfit false n
  put_on : {fit : Bool} {n m : ℕ} → Goes fit n (Put m) fit m

pub goes_unfit : {fit f : Bool} {n k : ℕ} {r : Step} → r ≡ Unfit → f ≡ false → k ≡ n → Goes fit n r f k
goes_unfit e f g = rw (e, f, g) unfit_on

pub goes_put : {fit f : Bool} {n k m : ℕ} {r : Step} → r ≡ Put m → f ≡ fit → k ≡ m → Goes fit n r f k
goes_put e f g = rw (e, f, g) put_on

pub within_next : {fit f : Bool} {at j k m : ℕ} {r : Step} (n : ℕ) → Goes fit at r f j → Within r k m → at ≤ n → m ≤ n → j ≤ n
within_next n unfit_on w h g = h
within_next n put_on w h g = let z = put_in_lem w in omega arith

-- details that don't fit are remembered; the first rule's places count from o on
pub adds_join : (o : ℕ) (v w : Verdict) (b c : Bool) (t u : List ℕ) {fit f : Bool} {out mid after : List ℕ} {at n : ℕ} {q r : Step} → Goes fit at q f n → Adds v b t out at q mid
    → Adds w (not f || c) u mid n r after → Adds (then (moved_by o v) w) (not fit || (b || c)) (t ++ u) out at r after
adds_join o v w b c t u {out = out} {after = after} {at = at} {r = r} (unfit_on {fit = fit}) a d =
    let k = came_unfit v b (at + length t) a.answers in
    let z : (not fit || (b || c)) ≡ true = ap (λ (x : Bool). not fit || (x || c)) k.1 ∙ always fit in
    subst (λ (x : Verdict). Adds (then (moved_by o x) w) (not fit || (b || c)) (t ++ u) out at r after) (sym k.0)
    (record { answers = d.answers ∙ came_crowd w _ (at + length (t ++ u)) ∙ ap (λ (y : Bool). came w y (at + length (t ++ u))) (sym z); fills = λ e f. absurd (true≢false (sym z ∙ f)) })
  where
    always : (x : Bool) → (not x || true) ≡ true
    always true = refl
    always false = refl
adds_join o v w b c t u {out = out} {after = after} {at = at} {r = r} (put_on {fit = fit} {m = m}) a d =
    let k = came_put v b (at + length t) m a.answers in
    subst (λ (x : Verdict). Adds (then (moved_by o x) w) (not fit || (b || c)) (t ++ u) out at r after) (sym k.0)
    (subst (λ (x : Bool). Adds w (not fit || (x || c)) (t ++ u) out at r after) (sym k.1) (adds_front t u (record { answers = k.2; fills = a.fills k.0 k.1 }) d))
