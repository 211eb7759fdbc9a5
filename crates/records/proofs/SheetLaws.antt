-- Records written as a sheet are read again, and a sheet is its records written again and what stands behind the last LF. Assumes nothing.
use Prim.Native.Nat.{ℕ, suc}
use mathlib.Core.Path.{◌≡◌, refl, sym, ap, ap₂, ◌∙◌}
use mathlib.Core.Bool.{Bool, true, false, not, ◌||◌}
use mathlib.Core.List.{List, [], ◌∷◌, ◌++◌, map, append-nil}
use native.Mathlib.Omega.{arith}
use lib.Dec.{eqb}
use lib.ListN.{length}
use borrow.Author.Tests.{eqb-true}
use Rattle.base.specs.Choice.{pick, all}
use Rattle.base.specs.Bytes.{other, without}
use Rattle.base.proofs.Bools.{left, right, both, or_right, all_append, all_imp}
use Rattle.fields.specs.Field.{field, onto}
use Rattle.fields.specs.Shapes.{ended}
use Rattle.fields.proofs.LineLaws.{onto_all}
use Rattle.records.specs.Record.{Record, tabbed, line, sheet, pieces, front, final, parted, record_of, records, rest, plain_text, writable}
use Rattle.records.proofs.PieceLaws.{piece_at, piece_last, some_piece}

-- ---- read, then written: a record
pub line_record : (l : List ℕ) → line (record_of l) ≡ l
unfolding record_of pieces
line_record [] = refl
line_record (x ∷ xs) = go (eqb x 9) (pieces 9 xs) refl (some_piece 9 xs) (line_record xs)
  where
    go : (q : Bool) (ls : List (List ℕ)) → eqb x 9 ≡ q → (ls ≡ [] → ⊥) → line (parted ls) ≡ xs → line (parted (pick q ([] ∷ ls) (onto x ls))) ≡ x ∷ xs
    go q [] e n h = absurd (n refl)
    go true (p ∷ ps) e n h = ap₂ (λ (y : ℕ) (r : List ℕ). y ∷ r) (sym (eqb-true x 9 e)) h
    go false (p ∷ ps) e n h = ap (λ (r : List ℕ). x ∷ r) h

-- the lines of a sheet, and the sheet
abbrev pub with_lf : List (List ℕ) → List ℕ
with_lf [] = []
with_lf (l ∷ ls) = l ++ 10 ∷ with_lf ls

pub lf_pieces : (s : List ℕ) → with_lf (front (pieces 10 s)) ++ final (pieces 10 s) ≡ s
unfolding pieces
lf_pieces [] = refl
lf_pieces (x ∷ xs) = go (eqb x 10) (pieces 10 xs) refl (some_piece 10 xs) (lf_pieces xs)
  where
    go : (q : Bool) (ls : List (List ℕ)) → eqb x 10 ≡ q → (ls ≡ [] → ⊥) → with_lf (front ls) ++ final ls ≡ xs
        → with_lf (front (pick q ([] ∷ ls) (onto x ls))) ++ final (pick q ([] ∷ ls) (onto x ls)) ≡ x ∷ xs
    go q [] e n h = absurd (n refl)
    go true (l ∷ ls) e n h = ap₂ (λ (y : ℕ) (r : List ℕ). y ∷ r) (sym (eqb-true x 10 e)) h
    go false (l ∷ []) e n h = ap (λ (r : List ℕ). x ∷ r) h
    go false (l ∷ k ∷ ls) e n h = ap (λ (r : List ℕ). x ∷ r) h

sheet_lines : (ls : List (List ℕ)) → sheet (map record_of ls) ≡ with_lf ls
sheet_lines [] = refl
sheet_lines (l ∷ ls) = ap₂ (λ (k r : List ℕ). k ++ 10 ∷ r) (line_record l) (sheet_lines ls)

-- any bytes are the records that are ended, written again, and the rest
pub sheet_rest : (s : List ℕ) → sheet (records s) ++ rest s ≡ s
unfolding records rest
sheet_rest s = ap (λ (r : List ℕ). r ++ final (pieces 10 s)) (sheet_lines (front (pieces 10 s))) ∙ lf_pieces s

pub sheet_whole : (s : List ℕ) → rest s ≡ [] → sheet (records s) ≡ s
sheet_whole s e = sym (append-nil (sheet (records s))) ∙ ap (λ (r : List ℕ). sheet (records s) ++ r) (sym e) ∙ sheet_rest s

-- nothing stands behind the last byte LF
rest_ended : (s : List ℕ) → ended s ≡ true → rest s ≡ []
unfolding rest pieces
rest_ended [] e = refl
rest_ended (x ∷ []) e = ap (λ (q : Bool). final (pick q ([] ∷ [] ∷ []) ((x ∷ []) ∷ []))) e
rest_ended (x ∷ y ∷ r) e = go (eqb x 10) (pieces 10 (y ∷ r)) (some_piece 10 (y ∷ r)) (lf_pieces (y ∷ r)) (rest_ended (y ∷ r) e)
  where
    go : (q : Bool) (ls : List (List ℕ)) → (ls ≡ [] → ⊥) → with_lf (front ls) ++ final ls ≡ y ∷ r → final ls ≡ [] → final (pick q ([] ∷ ls) (onto x ls)) ≡ []
    go q [] n h i = absurd (n refl)
    go true (l ∷ ls) n h i = i
    go false (l ∷ []) n h i = let z : ◌≡◌ {A = ℕ} 0 (suc (length r)) = ap length (sym i ∙ h) in absurd (omega arith)
    go false (l ∷ k ∷ ls) n h i = i

pub sheet_records : (s : List ℕ) → ended s ≡ true → sheet (records s) ≡ s
sheet_records s e = sheet_whole s (rest_ended s e)

-- ---- written, then read
pieces_line : (t : List ℕ) (ps : List (List ℕ)) → without 9 t ≡ true → all plain_text ps ≡ true → pieces 9 (t ++ tabbed ps) ≡ t ∷ ps
pieces_line t [] e h = ap (pieces 9) (append-nil t) ∙ piece_last 9 t e
pieces_line t (p ∷ ps) e h =
    piece_at 9 t (p ++ tabbed ps) e
    ∙ ap (λ (ls : List (List ℕ)). t ∷ ls) (pieces_line p ps (left (without 9 p) (without 10 p) (left (plain_text p) (all plain_text ps) h)) (right (plain_text p) (all plain_text ps) h))

pub record_line_lem : (r : Record) → writable r ≡ true → record_of (line r) ≡ r
unfolding record_of
record_line_lem (field t ps) e =
    ap parted (pieces_line t ps (left (without 9 t) (without 10 t) (left (plain_text t) (all plain_text ps) e)) (right (plain_text t) (all plain_text ps) e))

tabbed_no_lf : (ps : List (List ℕ)) → all plain_text ps ≡ true → without 10 (tabbed ps) ≡ true
tabbed_no_lf [] e = refl
tabbed_no_lf (p ∷ ps) e =
    all_append (other 10) p (tabbed ps) (right (without 9 p) (without 10 p) (left (plain_text p) (all plain_text ps) e)) (tabbed_no_lf ps (right (plain_text p) (all plain_text ps) e))

line_no_lf : (r : Record) → writable r ≡ true → without 10 (line r) ≡ true
line_no_lf (field t ps) e =
    all_append (other 10) t (tabbed ps) (right (without 9 t) (without 10 t) (left (plain_text t) (all plain_text ps) e)) (tabbed_no_lf ps (right (plain_text t) (all plain_text ps) e))

pieces_sheet : (rs : List Record) → all writable rs ≡ true → pieces 10 (sheet rs) ≡ map line rs ++ [] ∷ []
pieces_sheet [] e = piece_last 10 [] refl
pieces_sheet (r ∷ rs) e =
    piece_at 10 (line r) (sheet rs) (line_no_lf r (left (writable r) (all writable rs) e))
    ∙ ap (λ (ls : List (List ℕ)). line r ∷ ls) (pieces_sheet rs (right (writable r) (all writable rs) e))

front_last : (ls : List (List ℕ)) (k : List ℕ) → front (ls ++ k ∷ []) ≡ ls
front_last [] k = refl
front_last (l ∷ []) k = refl
front_last (l ∷ m ∷ ls) k = ap (λ (x : List (List ℕ)). l ∷ x) (front_last (m ∷ ls) k)

final_last : (ls : List (List ℕ)) (k : List ℕ) → final (ls ++ k ∷ []) ≡ k
final_last [] k = refl
final_last (l ∷ []) k = refl
final_last (l ∷ m ∷ ls) k = final_last (m ∷ ls) k

records_lines : (rs : List Record) → all writable rs ≡ true → map record_of (map line rs) ≡ rs
records_lines [] e = refl
records_lines (r ∷ rs) e = ap₂ (λ (x : Record) (xs : List Record). x ∷ xs) (record_line_lem r (left (writable r) (all writable rs) e)) (records_lines rs (right (writable r) (all writable rs) e))

pub records_sheet : (rs : List Record) → all writable rs ≡ true → records (sheet rs) ≡ rs
unfolding records
records_sheet rs e =
    ap (λ (ls : List (List ℕ)). map record_of (front ls)) (pieces_sheet rs e)
    ∙ ap (map record_of) (front_last (map line rs) []) ∙ records_lines rs e

pub rest_sheet : (rs : List Record) → all writable rs ≡ true → rest (sheet rs) ≡ []
unfolding rest
rest_sheet rs e = ap final (pieces_sheet rs e) ∙ final_last (map line rs) []

-- ---- records read are such as can be written
-- a test that holds of every byte but c holds of every byte of the pieces
pieces_keep : (c : ℕ) (t : ℕ → Bool) (s : List ℕ) → all (λ (x : ℕ). eqb x c || t x) s ≡ true → all (all t) (pieces c s) ≡ true
unfolding pieces
pieces_keep c t [] e = refl
pieces_keep c t (x ∷ xs) e = go (eqb x c) (left (eqb x c || t x) _ e) (pieces_keep c t xs (right (eqb x c || t x) _ e))
  where
    go : (q : Bool) → (q || t x) ≡ true → all (all t) (pieces c xs) ≡ true → all (all t) (pick q ([] ∷ pieces c xs) (onto x (pieces c xs))) ≡ true
    go true h k = k
    go false h k = onto_all t x (pieces c xs) h k

no_c : (c : ℕ) (s : List ℕ) → all (λ (x : ℕ). eqb x c || other c x) s ≡ true
no_c c [] = refl
no_c c (x ∷ s) = both (go (eqb x c)) (no_c c s)
  where
    go : (q : Bool) → (q || not q) ≡ true
    go true = refl
    go false = refl

pub pieces_without : (c : ℕ) (s : List ℕ) → all (without c) (pieces c s) ≡ true
pieces_without c s = pieces_keep c (other c) s (no_c c s)

record_writable : (l : List ℕ) → without 10 l ≡ true → writable (record_of l) ≡ true
unfolding record_of
record_writable l e = go (pieces 9 l) (pieces_without 9 l) (pieces_keep 9 (other 10) l (all_imp (other 10) (λ (x : ℕ). eqb x 9 || other 10 x) (λ x h. or_right (eqb x 9) (other 10 x) h) l e))
  where
    all_both : (ps : List (List ℕ)) → all (without 9) ps ≡ true → all (without 10) ps ≡ true → all plain_text ps ≡ true
    all_both [] a b = refl
    all_both (p ∷ ps) a b =
        both (both (left (without 9 p) (all (without 9) ps) a) (left (without 10 p) (all (without 10) ps) b))
        (all_both ps (right (without 9 p) (all (without 9) ps) a) (right (without 10 p) (all (without 10) ps) b))

    go : (ls : List (List ℕ)) → all (without 9) ls ≡ true → all (without 10) ls ≡ true → writable (parted ls) ≡ true
    go [] a b = refl
    go (t ∷ ps) a b = all_both (t ∷ ps) a b

pub records_writable : (s : List ℕ) → all writable (records s) ≡ true
unfolding records
records_writable s = go (pieces 10 s) (pieces_without 10 s)
  where
    go : (ls : List (List ℕ)) → all (without 10) ls ≡ true → all writable (map record_of (front ls)) ≡ true
    go [] e = refl
    go (l ∷ []) e = refl
    go (l ∷ k ∷ ls) e = both (record_writable l (left (without 10 l) _ e)) (go (k ∷ ls) (right (without 10 l) _ e))
