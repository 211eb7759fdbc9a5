-- `alphabets::runs::run_of` meets its contract. Assumes nothing.
use Prim.Native.Nat.{ℕ, ◌+◌, ◌-◌, ◌*◌, ◌/◌, ◌≤◌}
use mathlib.Core.Path.{ap, ◌≡◌, ◌∙◌, subst}
use mathlib.Core.List.{[], List}
use native.Mathlib.Omega.{arith}
use lib.ListN.{length, drop, take, get_or, length-drop}
use lib.Seq.{length-take-le}
use Rattle.std.specs.Prelude.{position, leb}
use Rattle.alphabets.proofs.RunLaws.{Going, going_by, going_part, going_end, chunk_at, run_ended, run_found, found_at, found_none}
use Rattle.alphabets.proofs.runs.run_of.Goals as goal

pub returns-in-Some : goal.returns-in-Some
returns-in-Some c = let a = c.args in
    let whole : 4 ≤ length a.s.now - 4 * c.loop-k.k = omega (arith, c.as_chunks.ensures.front_len) in
    let part : get_or c.as_chunks.result.0.now c.loop-k.k [] ≡ take 4 (drop (4 * c.loop-k.k) a.s.now) = ap (λ (l : List (List ℕ)). get_or l c.loop-k.k []) c.as_chunks.ensures.front ∙ chunk_at 4 (length a.s.now / 4) c.loop-k.k a.s.now [] (omega (arith, c.as_chunks.ensures.front_len)) in
    let w = found_at a.t.now a.floor (take 4 (drop (4 * c.loop-k.k) a.s.now)) (c.in-Some.ensures ∙ ap (position (λ (x : ℕ). leb (get_or a.t.now x 0) a.floor)) part) in
    going_part c.loop-k.invariant 4 whole w.0 (omega (arith, w.1, length-take-le 4 (drop (4 * c.loop-k.k) a.s.now) (omega (arith, length-drop (4 * c.loop-k.k) a.s.now))))

pub loop-k-preserved : goal.loop-k-preserved
loop-k-preserved c = let a = c.args in
    let whole : 4 ≤ length a.s.now - 4 * c.loop-k.k = omega (arith, c.as_chunks.ensures.front_len) in
    let part : get_or c.as_chunks.result.0.now c.loop-k.k [] ≡ take 4 (drop (4 * c.loop-k.k) a.s.now) = ap (λ (l : List (List ℕ)). get_or l c.loop-k.k []) c.as_chunks.ensures.front ∙ chunk_at 4 (length a.s.now / 4) c.loop-k.k a.s.now [] (omega (arith, c.as_chunks.ensures.front_len)) in
    let w = found_none a.t.now a.floor (take 4 (drop (4 * c.loop-k.k) a.s.now)) c.stop_in.result (c.stop_in.ensures ∙ ap (position (λ (x : ℕ). leb (get_or a.t.now x 0) a.floor)) part) c.in_default.not-Some in
    let z : 4 * c.loop-k.k + 4 ≡ 4 * (c.loop-k.k + 1) = omega arith in
    subst (λ (k : ℕ). Going a.t.now a.floor a.s.now k) z
    (going_by c.loop-k.invariant 4 whole w (omega (arith, length-take-le 4 (drop (4 * c.loop-k.k) a.s.now) (omega (arith, length-drop (4 * c.loop-k.k) a.s.now)))))

pub overflow_add-result-2 : goal.overflow_add-result-2
overflow_add-result-2 c = let a = c.args in
    omega (arith, c.as_chunks.ensures.front_len, c.as_chunks.ensures.back_len, (run_ended a.t.now a.floor c.as_chunks.result.1.now).within, run_found a.t.now a.floor c.as_chunks.result.1.now c.stop_in-2.ensures c.unwrap_or.ensures)

pub returns : goal.returns
returns c = let a = c.args in
    let z : 4 * length c.as_chunks.result.0.now ≡ 4 * c.loop-k.k = omega arith in
    let y : length a.s.now / 4 * 4 ≡ 4 * c.loop-k.k = omega (arith, c.as_chunks.ensures.front_len) in
    going_end c.loop-k.invariant z (c.as_chunks.ensures.back ∙ ap (λ (j : ℕ). drop j a.s.now) y) (run_found a.t.now a.floor c.as_chunks.result.1.now c.stop_in-2.ensures c.unwrap_or.ensures)
