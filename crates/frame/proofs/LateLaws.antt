-- A refusal that waits for 3, or for 3 and 4, while line after line passes. Assumes nothing.
use Prim.Native.Nat.{ℕ, ◌+◌, ◌-◌, ◌≤◌}
use mathlib.Core.Path.{◌≡◌, refl, ap, ◌∙◌}
use mathlib.Core.Bool.{true, false}
use mathlib.Core.List.{List}
use lib.ListN.{length}
use Rattle.base.specs.Rules.{then}
use Rattle.base.specs.Verdicts.{Verdict, Broken}
use Rattle.fields.specs.Field.{cut_lines, lines}
use Rattle.fields.specs.Frame.{scan, line_bad, bad_line}
use Rattle.frame.specs.Rest.{body_from, Tail, LineAt, after_3, after_4}
use Rattle.frame.proofs.RunLaws.{line_scan, rest_end}
use Rattle.frame.proofs.PassLaws.{bad_on, bad_stop}

-- ---- for 3
pub record For3 (m : List ℕ) (i at : ℕ) : Type 0 where
  pub tail : Tail m at
  pub bytes : scan false i (body_from m i) ≡ scan false at (body_from m at)

pub for_3_begin : {m : List ℕ} {i : ℕ} → Tail m i → For3 m i i
for_3_begin t = record { tail = t; bytes = refl }

module _ {m : List ℕ} {i at : ℕ} (w : For3 m i at) (v : Verdict) where
  pub for_3_stop : {end : ℕ} → scan false at (body_from m at) ≡ Broken 3 end → after_3 m i v ≡ Broken 3 end
  unfolding after_3
  for_3_stop q = ap (λ (u : Verdict). then u v) (w.bytes ∙ q)

  pub for_3_end : length m - 2 ≤ at → after_3 m i v ≡ v
  unfolding after_3 scan
  for_3_end h = ap (λ (u : Verdict). then u v) (w.bytes ∙ ap (scan false at) (rest_end m at h))

pub for_3_on : {m : List ℕ} {i at end : ℕ} {l : List ℕ} → For3 m i at → LineAt m at end l → For3 m i (end + 2)
for_3_on w r = record { tail = r.behind; bytes = w.bytes ∙ line_scan r }

-- ---- for 3 and 4
pub record For4 (m : List ℕ) (i at : ℕ) : Type 0 where
  pub for_3 : For3 m i at
  pub fronts : bad_line false i (lines (body_from m i)) ≡ bad_line false at (lines (body_from m at))

pub for_4_begin : {m : List ℕ} {i : ℕ} → Tail m i → For4 m i i
for_4_begin t = record { for_3 = for_3_begin t; fronts = refl }

module _ {m : List ℕ} {i at : ℕ} (w : For4 m i at) (v : Verdict) where
  pub for_4_stop : {end : ℕ} → scan false at (body_from m at) ≡ Broken 3 end → after_4 m i v ≡ Broken 3 end
  unfolding after_4
  for_4_stop q = for_3_stop w.for_3 (then (bad_line false i (lines (body_from m i))) v) q

  pub for_4_bad : {end : ℕ} {l : List ℕ} → LineAt m at end l → line_bad false l ≡ true → after_4 m i v ≡ after_3 m (end + 2) (Broken 4 at)
  unfolding after_3 after_4
  for_4_bad {end} r b =
      ap (λ (u : Verdict). then u (then (bad_line false i (lines (body_from m i))) v)) (w.for_3.bytes ∙ line_scan r)
      ∙ ap (λ (u : Verdict). then (scan false (end + 2) (body_from m (end + 2))) (then u v)) (w.fronts ∙ bad_stop r false b)

  pub for_4_end : length m - 2 ≤ at → after_4 m i v ≡ v
  unfolding after_4 bad_line cut_lines
  for_4_end h =
      for_3_end w.for_3 (then (bad_line false i (lines (body_from m i))) v) h
      ∙ ap (λ (u : Verdict). then u v) (w.fronts ∙ ap (λ (b : List ℕ). bad_line false at (lines b)) (rest_end m at h))

pub for_4_on : {m : List ℕ} {i at end : ℕ} {l : List ℕ} → For4 m i at → LineAt m at end l → line_bad false l ≡ false → For4 m i (end + 2)
for_4_on w r b = record { for_3 = for_3_on w.for_3 r; fronts = w.fronts ∙ bad_on r false b }
