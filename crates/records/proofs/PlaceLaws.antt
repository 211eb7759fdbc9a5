-- The sums of Places are where records and parts stand, in a sheet's bytes and as code steps over them. Assumes nothing.
use Prim.Native.Nat.{ℕ, suc, ◌+◌, ◌-◌, ◌<◌, ◌≤◌}
use mathlib.Core.Path.{◌≡◌, refl, sym, ap, ◌∙◌}
use mathlib.Core.List.{List, [], ◌∷◌, ◌++◌, map}
use native.Mathlib.Omega.{arith}
use lib.ListN.{length, take, drop, length-append, drop_of_length-le}
use lib.Seq.{drop_at, drop-drop}
use Rattle.records.specs.Record.{Record, tabbed, line, sheet, pieces, front, record_of}
use Rattle.records.specs.Places.{records_size, next_record}
use Rattle.records.specs.Found.{pieces_at}
use Rattle.records.proofs.PieceLaws.{at_from, end_within, more_at, piece_length}
use Rattle.records.proofs.SheetLaws.{line_record}
use Rattle.base.specs.Bytes.{count_up_to}

-- ---- records in a sheet
pub size_sheet : (rs : List Record) → length (sheet rs) ≡ records_size rs
size_sheet [] = refl
size_sheet (r ∷ rs) = let n = size_sheet rs in omega (arith, n, length-append (line r) (10 ∷ sheet rs))

-- behind the bytes of the records before, those that are left begin
pub drop_sheet : (before rs : List Record) → drop (records_size before) (sheet (before ++ rs)) ≡ sheet rs
drop_sheet [] rs = refl
drop_sheet (r ∷ before) rs =
    let z : length (line r) + 1 + records_size before ≡ length (line r) + suc (records_size before) = omega arith in
    ap (λ (k : ℕ). drop k (line r ++ 10 ∷ sheet (before ++ rs))) z
    ∙ sym (drop-drop (suc (records_size before)) (length (line r)) (line r ++ 10 ∷ sheet (before ++ rs)))
    ∙ ap (drop (suc (records_size before))) (drop_at (line r) (10 ∷ sheet (before ++ rs)) (length (line r)) refl) ∙ drop_sheet before rs

-- ---- parts in a record: how many bytes parts take, with a tab before each
abbrev pub width_of : List (List ℕ) → ℕ
width_of [] = 0
width_of (p ∷ ps) = suc (length p + width_of ps)

pub size_tabbed : (ps : List (List ℕ)) → length (tabbed ps) ≡ width_of ps
size_tabbed [] = refl
size_tabbed (p ∷ ps) = let n = size_tabbed ps in omega (arith, n, length-append p (tabbed ps))

pub drop_tabbed : (before ps : List (List ℕ)) → drop (width_of before) (tabbed (before ++ ps)) ≡ tabbed ps
drop_tabbed [] ps = refl
drop_tabbed (p ∷ before) ps =
    sym (drop-drop (width_of before) (length p) (p ++ tabbed (before ++ ps)))
    ∙ ap (drop (width_of before)) (drop_at p (tabbed (before ++ ps)) (length p) refl) ∙ drop_tabbed before ps

-- ---- as code steps: the record from i to e, and the next at e + 1
module _ (s : List ℕ) (i e : ℕ) (h : i ≤ length s) (q : e ≡ i + count_up_to 10 (drop i s)) where
  pub next_at : next_record i (record_of (take (e - i) (drop i s))) ≡ e + 1
  next_at =
      let n = piece_length s i e (omega arith) (end_within 10 s i e h q) in
      let m : length (line (record_of (take (e - i) (drop i s)))) ≡ length (take (e - i) (drop i s)) = ap length (line_record (take (e - i) (drop i s))) in
      omega (arith, n, m)

  pub front_at : e < length s → map record_of (front (pieces_at 10 s i)) ≡ record_of (take (e - i) (drop i s)) ∷ map record_of (front (pieces_at 10 s (e + 1)))
  front_at l =
      let m = more_at 10 s i e h q l in
      ap (λ (ls : List (List ℕ)). map record_of (front ls)) m.at
      ∙ ap (λ (ls : List (List ℕ)). record_of (take (e - i) (drop i s)) ∷ map record_of (front ls)) (sym m.on)

pub front_end : (s : List ℕ) → map record_of (front (pieces_at 10 s (length s))) ≡ []
unfolding pieces
front_end s =
    let z : length s ≤ length s = omega arith in
    ap (λ (ls : List (List ℕ)). map record_of (front ls)) (at_from 10 s (length s) z ∙ ap (pieces 10) (drop_of_length-le s {i = length s} z))
