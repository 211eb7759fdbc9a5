-- What runs on is joined again to the records that there were (S2, S4, C72). Assumes nothing.
use Prim.Native.Nat.{ℕ, suc}
use mathlib.Core.Path.{◌≡◌, refl, sym, ap, ap₂, ◌∙◌}
use mathlib.Core.Bool.{Bool, true, false, ◌&&◌, false≢true}
use mathlib.Core.List.{List, [], ◌∷◌, ◌++◌, append-nil}
use native.Mathlib.Omega.{arith}
use lib.Dec.{eqb}
use lib.ListN.{take, drop, take-append-drop}
use borrow.Author.Tests.{eqb-true, eqb-false}
use Rattle.base.specs.Choice.{pick, all}
use Rattle.base.specs.Bytes.{same, empty}
use Rattle.base.proofs.Bools.{left, right, isnt}
use Rattle.fields.specs.Field.{field}
use Rattle.types.specs.declared.Form.{Form}
use Rattle.types.specs.declared.Form.TheVariants.{Other, Mt103, Mt202}
use Rattle.types.specs.Sign.{first_line}
use Rattle.records.specs.Record.{Record}
use Rattle.records.specs.Rule19.{is_digits, sole, detailed}
use Rattle.runon.specs.RunOn.{tag_70, tag_72, tag_77B, how_many, parts_of, second_part, text_in, may_run, run_of, halved, new_note, run_as, cut_by, run_on, join_as, join, plain_record}
use Rattle.runon.specs.declared.Run.{Run}
use Rattle.runon.specs.declared.Run.TheVariants.{Stuck, Whole, Cut, Unfit}
use Rattle.runon.proofs.RecordLaws.{not_72, last_tag, Ones, one_of, halved_70, halved_72, halved_not, joined_70, joined_72, joined_not}

-- ---- the parts that 19 asks for
pub two_parts : (ps : List (List ℕ)) (d : List ℕ) → detailed ps ≡ true → second_part ps ≡ d → first_line ps ∷ d ∷ [] ≡ ps
two_parts [] d e f = absurd (false≢true e)
two_parts (v ∷ []) d e f = absurd (false≢true (right (is_digits 5 v) _ e))
two_parts (v ∷ p ∷ []) d e f = ap (λ (x : List ℕ). v ∷ x ∷ []) (sym f)
two_parts (v ∷ p ∷ q ∷ ps) d e f = absurd (false≢true (right (is_digits 5 v) _ e))

pub one_part : (ps : List (List ℕ)) → sole ps ≡ true → (first_line ps ∷ [] ≡ ps) × (empty (first_line ps) ≡ false)
one_part [] e = absurd (false≢true e)
one_part (p ∷ []) e = (refl, isnt (empty p) e)
one_part (p ∷ q ∷ ps) e = absurd (false≢true e)

module _ (t : List ℕ) (ps : List (List ℕ)) (h : plain_record (field t ps) ≡ true) where
  pub plain_70 : same t tag_70 ≡ true → detailed ps ≡ true
  plain_70 e = ap (λ (b : Bool). pick b (detailed ps) (pick (same t tag_72) (sole ps) true)) (sym e) ∙ h

  pub plain_72 : same t tag_70 ≡ false → same t tag_72 ≡ true → sole ps ≡ true
  plain_72 e f = ap₂ (λ (a b : Bool). pick a (detailed ps) (pick b (sole ps) true)) (sym e) (sym f) ∙ h

-- ---- a cut and back
module _ (one two d : List ℕ) (j : one ++ two ≡ d) where
  one_back : (vo t : List ℕ) (ps : List (List ℕ)) (rs : List Record) → plain_record (field t ps) ≡ true → (same t tag_70 ≡ true → (first_line ps ≡ vo) × (second_part ps ≡ d))
      → join_as two (halved one two (field t ps) ∷ rs) ≡ field t ps ∷ join_as two rs
  one_back vo t ps rs h o = go (same t tag_70) (same t tag_72) refl refl
    where
      go : (a b : Bool) → same t tag_70 ≡ a → same t tag_72 ≡ b → join_as two (halved one two (field t ps) ∷ rs) ≡ field t ps ∷ join_as two rs
      go true b e f =
          ap (λ (r : Record). join_as two (r ∷ rs)) (halved_70 one two t ps e)
          ∙ joined_70 two t (first_line ps ∷ one ∷ []) rs e
          ∙ ap (λ (x : List ℕ). field t (first_line ps ∷ x ∷ []) ∷ join_as two rs) j
          ∙ ap (λ (x : List (List ℕ)). field t x ∷ join_as two rs) (two_parts ps d (plain_70 t ps h e) (o e).1)
      go false true e f =
          let w = one_part ps (plain_72 t ps h e f) in
          ap (λ (r : Record). join_as two (r ∷ rs)) (halved_72 one two t ps f)
          ∙ joined_72 two t (first_line ps ∷ two ∷ []) rs f w.1
          ∙ ap (λ (x : List (List ℕ)). field t x ∷ join_as two rs) w.0
      go false false e f = ap (λ (r : Record). join_as two (r ∷ rs)) (halved_not one two t ps e f) ∙ joined_not two t ps rs e f

  -- the new 72 goes
  new_back : (rs : List Record) → join_as two (new_note two ∷ rs) ≡ join_as two rs
  unfolding same
  new_back rs = refl

  cut_back : (vo : List ℕ) (new : Bool) (rs : List Record) → all plain_record rs ≡ true → Ones tag_70 vo d rs → join_as two (run_as new one two rs) ≡ rs
  cut_back vo true [] h o = new_back []
  cut_back vo false [] h o = refl
  cut_back vo new (field t ps ∷ rs) h o = go (new && same t tag_77B) refl (cut_back vo false rs (right (plain_record (field t ps)) _ h) o.1) (cut_back vo new rs (right (plain_record (field t ps)) _ h) o.1)
    where
      go : (a : Bool) → (new && same t tag_77B) ≡ a → join_as two (run_as false one two rs) ≡ rs → join_as two (run_as new one two rs) ≡ rs
          → join_as two (pick a (new_note two ∷ field t ps ∷ run_as false one two rs) (halved one two (field t ps) ∷ run_as new one two rs)) ≡ field t ps ∷ rs
      go true e i k =
          let w = last_tag t (right new (same t tag_77B) e) in
          new_back (field t ps ∷ run_as false one two rs) ∙ joined_not two t ps (run_as false one two rs) w.0 w.1 ∙ ap (λ (x : List Record). field t ps ∷ x) i
      go false e i k = one_back vo t ps (run_as new one two rs) (left (plain_record (field t ps)) _ h) o.0 ∙ ap (λ (x : List Record). field t ps ∷ x) k

  -- the text of 72 is the second half
  note_parts_lem : (new : Bool) (rs : List Record) → (new ≡ false → how_many tag_72 rs ≡ 0 → ⊥) → second_part (parts_of tag_72 (run_as new one two rs)) ≡ two
  unfolding same
  note_parts_lem true [] n = refl
  note_parts_lem false [] n = absurd (n refl refl)
  note_parts_lem new (field t ps ∷ rs) n = go (new && same t tag_77B) (same t tag_72) refl n (note_parts_lem new rs)
    where
      go : (a b : Bool) → same t tag_72 ≡ b → (new ≡ false → pick b (suc (how_many tag_72 rs)) (how_many tag_72 rs) ≡ 0 → ⊥)
          → ((new ≡ false → how_many tag_72 rs ≡ 0 → ⊥) → second_part (parts_of tag_72 (run_as new one two rs)) ≡ two)
          → second_part (parts_of tag_72 (pick a (new_note two ∷ field t ps ∷ run_as false one two rs) (halved one two (field t ps) ∷ run_as new one two rs))) ≡ two
      go true b f n ih = refl
      go false true f n ih =
          ap (λ (r : Record). second_part (parts_of tag_72 (r ∷ run_as new one two rs))) (halved_72 one two t ps f)
          ∙ ap (λ (b : Bool). second_part (pick b (first_line ps ∷ two ∷ []) (parts_of tag_72 (run_as new one two rs)))) f
      go false false f n ih = by (same t tag_70) refl
        where
          by : (c : Bool) → same t tag_70 ≡ c → second_part (parts_of tag_72 (halved one two (field t ps) ∷ run_as new one two rs)) ≡ two
          by true e =
              ap (λ (r : Record). second_part (parts_of tag_72 (r ∷ run_as new one two rs))) (halved_70 one two t ps e)
              ∙ ap (λ (b : Bool). second_part (pick b (first_line ps ∷ one ∷ []) (parts_of tag_72 (run_as new one two rs)))) f
              ∙ ih n
          by false e =
              ap (λ (r : Record). second_part (parts_of tag_72 (r ∷ run_as new one two rs))) (halved_not one two t ps e f)
              ∙ ap (λ (b : Bool). second_part (pick b ps (parts_of tag_72 (run_as new one two rs)))) f
              ∙ ih n

-- ---- where nothing runs on
plain_text_lem : (rs : List Record) → all plain_record rs ≡ true → second_part (parts_of tag_72 rs) ≡ []
plain_text_lem [] h = refl
plain_text_lem (field t ps ∷ rs) h = go (same t tag_72) (same t tag_70) refl refl (plain_text_lem rs (right (plain_record (field t ps)) _ h))
  where
    short : (ps : List (List ℕ)) → sole ps ≡ true → second_part ps ≡ []
    short [] e = refl
    short (p ∷ []) e = refl
    short (p ∷ q ∷ ps) e = absurd (false≢true e)

    go : (b a : Bool) → same t tag_72 ≡ b → same t tag_70 ≡ a → second_part (parts_of tag_72 rs) ≡ [] → second_part (pick b ps (parts_of tag_72 rs)) ≡ []
    go true true f e i = absurd (false≢true (sym (not_72 t e) ∙ f))
    go true false f e i = short ps (plain_72 t ps (left (plain_record (field t ps)) _ h) e f)
    go false a f e i = i

plain_back : (rs : List Record) → all plain_record rs ≡ true → join_as [] rs ≡ rs
plain_back [] h = refl
plain_back (field t ps ∷ rs) h = go (same t tag_70) (same t tag_72) refl refl (left (plain_record (field t ps)) _ h) (plain_back rs (right (plain_record (field t ps)) _ h))
  where
    go : (a b : Bool) → same t tag_70 ≡ a → same t tag_72 ≡ b → plain_record (field t ps) ≡ true → join_as [] rs ≡ rs → join_as [] (field t ps ∷ rs) ≡ field t ps ∷ rs
    go true b e f p i =
        joined_70 [] t ps rs e
        ∙ ap₂ (λ (x : List (List ℕ)) (y : List Record). field t x ∷ y)
        (ap (λ (x : List ℕ). first_line ps ∷ x ∷ []) (append-nil (second_part ps)) ∙ two_parts ps (second_part ps) (plain_70 t ps p e) refl) i
    go false true e f p i =
        let w = one_part ps (plain_72 t ps p e f) in
        joined_72 [] t ps rs f w.1 ∙ ap₂ (λ (x : List (List ℕ)) (y : List Record). field t x ∷ y) w.0 i
    go false false e f p i = joined_not [] t ps rs e f ∙ ap (λ (y : List Record). field t ps ∷ y) i

pub plain_join : (form : Form) (rs : List Record) → all plain_record rs ≡ true → join form rs ≡ rs
unfolding join
plain_join Mt103 rs h = ap (λ (x : List ℕ). join_as x rs) (plain_text_lem rs h) ∙ plain_back rs h
plain_join Mt202 rs h = refl
plain_join Other rs h = refl

-- ---- the law
pub cut_alone : (b : Bool) (r : Run) (k : ℕ) → pick b r Whole ≡ Cut k → b ≡ true
cut_alone true r k e = refl
cut_alone false r k e = let z : ◌≡◌ {A = ℕ} 0 1 = cc in absurd (omega arith)

pub join_run : (form : Form) (s : Bool) (rs : List Record) → all plain_record rs ≡ true → join form (run_on form s rs) ≡ rs
unfolding join run_on run_of
join_run Mt202 s rs h = refl
join_run Other s rs h = refl
join_run Mt103 s rs h = by (run_of s rs) refl
  where
    by : (r : Run) → run_of s rs ≡ r → join Mt103 (cut_by r rs) ≡ rs
    by (Cut k) e =
        let one : List ℕ = take k (text_in rs) in
        let two : List ℕ = drop k (text_in rs) in
        let new : Bool = eqb (how_many tag_72 rs) 0 in
        let j : one ++ two ≡ text_in rs = take-append-drop k (text_in rs) in
        let c : eqb (how_many tag_70 rs) 1 ≡ true = left (eqb (how_many tag_70 rs) 1) _ (cut_alone (may_run rs) _ k e) in
        let n : how_many tag_70 rs ≡ 1 = eqb-true (how_many tag_70 rs) 1 c in
        ap (λ (x : List ℕ). join_as x (run_as new one two rs)) (note_parts_lem one two (text_in rs) j new rs (λ f. eqb-false (how_many tag_72 rs) 0 f))
        ∙ cut_back one two (text_in rs) j (first_line (parts_of tag_70 rs)) new rs h (one_of tag_70 rs (omega arith))
    by (Stuck k) e = plain_join Mt103 rs h
    by Whole e = plain_join Mt103 rs h
    by Unfit e = plain_join Mt103 rs h
