-- The parts of a record as code finds them: from one place on, by the end of the first, shape by shape. Assumes nothing.
use Prim.Native.Nat.{ℕ, ◌+◌, ◌≤◌}
use mathlib.Core.Path.{◌≡◌, refl, sym, ap, ◌∙◌}
use mathlib.Core.Logic.{◌⊎◌, inl, inr}
use mathlib.Core.Bool.{Bool, true, false, ◌&&◌, true≢false}
use mathlib.Core.List.{List, [], ◌∷◌}
use native.Mathlib.Omega.{arith}
use lib.Dec.{eqb}
use lib.ListN.{length, take, drop}
use lib.Seq.{length-take-le}
use borrow.Author.Tests.{eq-eqb, eqb-true}
use Rattle.base.specs.Choice.{pick, all}
use Rattle.base.specs.Bytes.{byte, digit, count_up_to}
use Rattle.base.proofs.ByteLaws.{digit_range}
use Rattle.base.proofs.Bools.{left, right}
use Rattle.fields.specs.Field.{field}
use Rattle.fields.specs.Shapes.{shaped, pack, unpack}
use Rattle.fields.proofs.PackLaws.{unpack_pack, pack_some}
use Rattle.types.specs.declared.Form.{Form}
use Rattle.types.specs.Sign.{first_line}
use Rattle.roles.specs.Role.{shape_of}
use Rattle.roles.specs.declared.Shape.{Shape}
use Rattle.roles.specs.declared.Shape.TheVariants.{Plain, Agent}
use Rattle.types.specs.declared.Form.TheVariants.{Other}
use Rattle.records.specs.Record.{Record, parted, record_of}
use Rattle.std.specs.Prelude.{None, Some}
use Rattle.types.specs.Form.{form_of}
use Rattle.records.specs.Found.{parts_in, pieces_at, tag_number, named_type}
use Rattle.records.specs.Rule19.{is_digits, general, sound, good, typed, type_number, form_in}
use Rattle.records.proofs.PieceLaws.{pieces_head, end_within}

-- ---- a record by the end of its tag
module _ (l : List ℕ) (t : ℕ) (q : t ≡ 0 + count_up_to 9 (drop 0 l)) where
  pub record_at : record_of l ≡ field (take t l) (pieces_at 9 l (t + 1))
  unfolding record_of
  record_at = ap parted (pieces_head 9 l t q)

  pub tag_within : t ≤ length l
  tag_within = end_within 9 l 0 t (omega arith) q

  pub tag_size : t ≡ length (take t l)
  tag_size = sym (length-take-le t l tag_within)

-- ---- a record by the number of its tag
pub good_untagged : (form : Form) (s : Bool) (t : List ℕ) (ps : List (List ℕ)) → tag_number t ≡ 0 → false ≡ good form s (field t ps)
unfolding tag_number
good_untagged form s t ps z = go (shaped t) refl z
  where
    go : (b : Bool) → shaped t ≡ b → pick b (pack t) 0 ≡ 0 → false ≡ (shaped t && sound s (shape_of form t) ps)
    go true e k = absurd (true≢false (sym (eq-eqb (pack t) 0 k) ∙ pack_some t e))
    go false e k = sym (ap (λ (b : Bool). b && sound s (shape_of form t) ps) e)

pub good_shape : {r : Bool} (form : Form) (s : Bool) (t : List ℕ) (ps : List (List ℕ)) (tag : ℕ) (sh : Shape) → tag ≡ tag_number t → (tag ≡ 0 → ⊥) → sh ≡ shape_of form (unpack tag)
    → r ≡ sound s sh ps → r ≡ good form s (field t ps)
unfolding tag_number
good_shape {r} form s t ps tag sh n k m u = go (shaped t) refl n
  where
    go : (b : Bool) → shaped t ≡ b → tag ≡ pick b (pack t) 0 → r ≡ (shaped t && sound s (shape_of form t) ps)
    go false e z = absurd (k z)
    go true e z =
        let w : unpack tag ≡ t = ap unpack z ∙ unpack_pack t e in
        u ∙ ap (λ (x : Shape). sound s x ps) (m ∙ ap (shape_of form) w) ∙ sym (ap (λ (b : Bool). b && sound s (shape_of form t) ps) e)

-- three digits
pub record Three (p : List ℕ) : Type 0 where
  pub size : length p ≡ 3
  pub first : 48 ≤ byte p 0
  pub second : 48 ≤ byte p 1
  pub third : 48 ≤ byte p 2

pub three : (p : List ℕ) → is_digits 3 p ≡ true → Three p
unfolding is_digits
three p e = go p (eqb-true (length p) 3 (left (eqb (length p) 3) (all digit p) e)) (right (eqb (length p) 3) (all digit p) e)
  where
    go : (p : List ℕ) → length p ≡ 3 → all digit p ≡ true → Three p
    go [] n a = absurd (omega arith)
    go (x ∷ []) n a = absurd (omega arith)
    go (x ∷ y ∷ []) n a = absurd (omega arith)
    go (x ∷ y ∷ z ∷ []) n a =
        let b = right (digit x) (digit y && (digit z && true)) a in
        record {
          size = n;
          first = (digit_range x (left (digit x) (digit y && (digit z && true)) a)).0;
          second = (digit_range y (left (digit y) (digit z && true) b)).0;
          third = (digit_range z (left (digit z) true (right (digit y) (digit z && true) b))).0;
        }
    go (x ∷ y ∷ z ∷ w ∷ p) n a = absurd (omega arith)

-- the shape that a tag was found to have
pub sound_by : {r : Bool} {sh to : Shape} (s : Bool) (ps : List (List ℕ)) → sh ≡ to → r ≡ sound s to ps → r ≡ sound s sh ps
sound_by s ps e h = h ∙ ap (λ (x : Shape). sound s x ps) (sym e)

pub sound_plain : {r : Bool} {sh : Shape} (s : Bool) (ps : List (List ℕ)) → (sh ≡ Plain) ⊎ (sh ≡ Agent) → r ≡ general ps → r ≡ sound s sh ps
unfolding sound
sound_plain s ps (inl e) h = sound_by s ps e h
sound_plain s ps (inr e) h = sound_by s ps e h

-- the type that a record names
pub type_missing : (r : Record) → None ≡ named_type r → typed r ≡ false
type_missing r e = go (typed r) e
  where
    go : (b : Bool) → None ≡ pick b (Some (type_number (first_line (parts_in r)))) None → b ≡ false
    go true e = cc
    go false e = refl

pub record Named (r : Record) (n : ℕ) : Type 0 where
  pub yes : typed r ≡ true
  pub is : form_of n ≡ form_in r

pub type_there : (r : Record) (n : ℕ) → Some n ≡ named_type r → Named r n
type_there (field t ps) n e = go (typed (field t ps)) refl e
  where
    go : (b : Bool) → typed (field t ps) ≡ b → Some n ≡ pick b (Some (type_number (first_line ps))) None → Named (field t ps) n
    go true y e = let z : n ≡ type_number (first_line ps) = cc in record { yes = y; is = ap form_of z ∙ sym (ap (λ (b : Bool). pick b (form_of (type_number (first_line ps))) Other) y) }
    go false y e = cc

pub type_none : (r : Record) → typed r ≡ false → form_in r ≡ Other
type_none (field t ps) k = rw k
