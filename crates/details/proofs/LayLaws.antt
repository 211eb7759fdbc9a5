-- Parts put into the room one behind another, and the loop that puts the lines. Assumes nothing.
use Prim.Native.Nat.{ℕ, zero, suc, ◌+◌, ◌-◌, ◌*◌, ◌≤◌, ◌<◌}
use mathlib.Core.Path.{◌≡◌, refl, sym, ap, ◌∙◌}
use mathlib.Core.Bool.{Bool}
use mathlib.Core.List.{List, ◌∷◌, ◌++◌}
use native.Mathlib.Omega.{arith}
use borrow.Author.Tests.{lt-ltb}
use lib.ListN.{length, drop, replicate, length-append, length-drop}
use lib.Seq.{sets, length-sets, take_all}
use Rattle.base.specs.Calls.{placed}
use Rattle.base.proofs.Room.{sets_append, placed_fits}
use Rattle.details.specs.Breaking.{Fit, fits, unfit, last, breaks, part}
use Rattle.std.specs.Prelude.{Option, Some, unwrap_or}
use Rattle.details.specs.Steps.{cut_at, breaks_of, laid_by, whole_by, RoomFor}
use Rattle.details.proofs.BreakLaws.{last_le, Took, done, goes, Came, took, stuck, came}

-- ---- two parts
module _ (out : List ℕ) (at : ℕ) (a b : List ℕ) (h : at + length (a ++ b) ≤ length out) where
  pub both_fit : at + length a + length b ≤ length out
  both_fit = omega (arith, length-append a b)

  pub both_put : (o o' : List ℕ) → o ≡ placed out at a → o' ≡ placed o (at + length a) b → (at + length a + length b ≡ at + length (a ++ b)) × (o' ≡ sets out at (a ++ b))
  both_put o o' e f =
      let g : o ≡ sets out at a = e ∙ placed_fits out at a (omega (arith, both_fit)) in
      let k : length o ≡ length out = ap length g ∙ length-sets out at a in (
        omega (arith, length-append a b),
        f ∙ placed_fits o (at + length a) b (omega (arith, both_fit)) ∙ ap (λ (l : List ℕ). sets l (at + length a) b) g ∙ sym (sets_append a b out at),
      )

-- ---- the loop over the lines
marked_length : (mark out o : List ℕ) (at : ℕ) → at + length mark ≤ length out → o ≡ placed out at mark → length o ≡ length out
marked_length mark out o at k e = ap length (e ∙ placed_fits out at mark k) ∙ length-sets out at mark

record Step (ok : ℕ → Bool) (text : List ℕ) (a h later left : ℕ) (es : List ℕ) : Type 0 where
  rest : List ℕ
  fewer : ℕ
  one : left ≡ suc fewer
  is : es ≡ last ok text h ∷ rest
  further : a < last ok text h
  then : Took ok text (last ok text h) (last ok text h + later) (replicate fewer later) rest

step_of : {ok : ℕ → Bool} {text : List ℕ} {a h : ℕ} {es : List ℕ} (later left : ℕ) → Took ok text a h (replicate left later) es → h < length text → Step ok text a h later left es
step_of later zero (done k) l = absurd (omega arith)
step_of later (suc m) (done k) l = absurd (omega arith)
step_of later (suc m) (goes k p t) l = record { rest = _; fewer = m; one = refl; is = refl; further = p; then = t }

-- goal is what the room is to be
pub record Laying (ok : ℕ → Bool) (text sep : List ℕ) (later : ℕ) (goal out : List ℕ) (n from a h : ℕ) : Type 0 where
  pub left : ℕ
  pub es : List ℕ
  pub how : Took ok text a h (replicate left later) es
  pub near : h + 1000 * left ≤ 2000000
  pub behind : from ≤ a
  pub inside : a < length text
  pub room : n + length (laid_by sep text from es) ≤ length out
  pub whole : goal ≡ sets out n (laid_by sep text from es)

module _ (text sep : List ℕ) where
  pub mark_fits : (mark : List ℕ) (b : Fit (List ℕ)) (at room : ℕ) → RoomFor mark sep text b at room → at + length mark ≤ room
  mark_fits mark (fits es) at room r = omega (arith, length-append mark (laid_by sep text 0 es))
  mark_fits mark unfit at room r = absurd r

  -- behind the mark
  pub lay_whole : (mark : List ℕ) (b : Fit (List ℕ)) (out o o' : List ℕ) (at : ℕ) → RoomFor mark sep text b at (length out) → o ≡ placed out at mark
      → o' ≡ sets o (at + length mark) (laid_by sep text 0 (breaks_of b)) → (length o' ≡ length out) × (o' ≡ placed out at (whole_by mark sep text b))
  lay_whole mark (fits es) out o o' at q e f =
      let l : List ℕ = laid_by sep text 0 es in
      let m = length-append mark l in
      let k : at + length mark ≤ length out = omega arith in (
        ap length f ∙ length-sets o (at + length mark) l ∙ marked_length mark out o at k e,
        f ∙ ap (λ (x : List ℕ). sets x (at + length mark) l) (e ∙ placed_fits out at mark k) ∙ sym (sets_append mark l out at) ∙ sym (placed_fits out at (mark ++ l) q),
      )
  lay_whole mark unfit out o o' at q e f = absurd q

module _ (ok : ℕ → Bool) (text sep : List ℕ) (later : ℕ) where
  pub lay_start : (mark : List ℕ) (low high more : ℕ) (out o : List ℕ) (at : ℕ) → low < length text → high + 1000 * more ≤ 2000000
      → RoomFor mark sep text (breaks ok text low high (replicate more later)) at (length out) → o ≡ placed out at mark
      → Laying ok text sep later (sets o (at + length mark) (laid_by sep text 0 (breaks_of (breaks ok text low high (replicate more later))))) o (at + length mark) 0 low high
  lay_start mark low high more out o at h k r e = go (came ok text (replicate more later) low high) r
    where
      go : {b : Fit (List ℕ)} → Came ok text low high (replicate more later) b → RoomFor mark sep text b at (length out)
          → Laying ok text sep later (sets o (at + length mark) (laid_by sep text 0 (breaks_of b))) o (at + length mark) 0 low high
      go (took {es} t) q =
          let m = length-append mark (laid_by sep text 0 es) in
          let g : length o ≡ length out = marked_length mark out o at (omega arith) e in
          record { left = more; es = es; how = t; near = k; behind = omega arith; inside = h; room = omega arith; whole = refl }
      go (stuck t) q = absurd q

  -- a turn: a line up to e, and sep
  pub record Turned (goal out : List ℕ) (n from a e : ℕ) : Type 0 where
    pub further : a < e
    pub upto : e < length text
    pub near : e ≤ 2000000
    pub behind : from ≤ e
    pub room : n + length (part from e text ++ sep) ≤ length out
    pub then : Laying ok text sep later goal (sets out n (part from e text ++ sep)) (n + length (part from e text ++ sep)) e e (e + later)

  lay_cut : {goal out : List ℕ} {n from a h : ℕ} → Laying ok text sep later goal out n from a h → h < length text → cut_at ok text a h ≡ Some (last ok text h)
  lay_cut {a = a} {h = h} v k = let s = step_of later v.left v.how k in rw (lt-ltb a (last ok text h) s.further)

  pub lay_turn : {goal out : List ℕ} {n from a h : ℕ} → Laying ok text sep later goal out n from a h → later ≤ 1000 → h < length text → (e : ℕ) → e ≡ unwrap_or (cut_at ok text a h) a
      → Turned goal out n from a e
  lay_turn {goal} {out} {n} {from} {a} {h} v z k e q =
      let s = step_of later v.left v.how k in
      let l = last_le ok text h in
      let f : e ≡ last ok text h = q ∙ ap (λ (o : Option ℕ). unwrap_or o a) (lay_cut v k) in
      let t : List ℕ = part from e text ++ sep in
      let r : List ℕ = laid_by sep text e s.rest in
      let g : laid_by sep text from v.es ≡ t ++ r =
      ap (laid_by sep text from) s.is ∙ ap (λ (i : ℕ). (part from i text ++ sep) ++ laid_by sep text i s.rest) (sym f) in
      let m : length (laid_by sep text from v.es) ≡ length t + length r = ap length g ∙ length-append t r in
      record {
        further = omega (arith, s.further);
        upto = omega arith;
        near = omega (arith, v.near);
        behind = omega (arith, s.further, v.behind);
        room = omega (arith, v.room);
        then =
            record {
              left = s.fewer;
              es = s.rest;
              how = rw f s.then;
              near = omega (arith, v.near, s.one);
              behind = omega arith;
              inside = omega arith;
              room = omega (arith, v.room, length-sets out n t);
              whole = v.whole ∙ ap (sets out n) g ∙ sets_append t r out n;
            };
      }

  pub lay_moved : {goal : List ℕ} {from a h : ℕ} {o o' : List ℕ} {n n' : ℕ} → (n' ≡ n) × (o' ≡ o) → Laying ok text sep later goal o n from a h → Laying ok text sep later goal o' n' from a h
  lay_moved q v = rw (q.0, q.1) v

  -- the last line
  pub lay_end : {goal out : List ℕ} {n from a h : ℕ} → Laying ok text sep later goal out n from a h → length text ≤ h → (o : List ℕ) → o ≡ placed out n (part from (length text) text) → o ≡ goal
  lay_end {goal} {out} {n} {from} {a} {h} v k o q = go v.left v.how v.room v.whole
    where
      f : part from (length text) text ≡ drop from text
      f = take_all (length text - from) (drop from text) (simp length-drop (omega arith))

      go : {es : List ℕ} (left : ℕ) → Took ok text a h (replicate left later) es → n + length (laid_by sep text from es) ≤ length out → goal ≡ sets out n (laid_by sep text from es) → o ≡ goal
      go zero (done p) r w = q ∙ ap (placed out n) f ∙ placed_fits out n (drop from text) r ∙ sym w
      go (suc m) (done p) r w = q ∙ ap (placed out n) f ∙ placed_fits out n (drop from text) r ∙ sym w
      go (suc m) (goes p i t) r w = absurd (omega arith)
