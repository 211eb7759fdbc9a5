-- No field that 8 lets pass is long (N8, section C). Assumes nothing.
use Prim.Native.Nat.{ℕ, ◌*◌, ◌≤◌}
use mathlib.Core.Path.{◌≡◌}
use mathlib.Core.Bool.{Bool, true, false, false≢true}
use mathlib.Core.List.{List, [], ◌∷◌}
use native.Mathlib.Omega.{arith}
use lib.ListN.{length, length-append}
use Rattle.types.specs.declared.Form.{Form}
use Rattle.base.specs.Bytes.{digit, capital}
use Rattle.base.proofs.Bools.{right}
use Rattle.fields.specs.Field.{field, lined, with_cr_lf}
use Rattle.fields.specs.Places.{lines_size}
use Rattle.fields.specs.Shapes.{shaped}
use Rattle.fields.proofs.FieldLaws.{crlf_size}
use Rattle.contents.specs.Tags.{held_by}
use Rattle.contents.specs.Rule8.{right_field}
use Rattle.contents.proofs.RuleLaws.{field_says}
use Rattle.contents.proofs.SizeLaws.{right_size}

-- a tag has three bytes at most
tag_short : (t : List ℕ) → shaped t ≡ true → length t ≤ 3
unfolding shaped
tag_short [] e = omega arith
tag_short (a ∷ []) e = omega arith
tag_short (a ∷ b ∷ []) e = omega arith
tag_short (a ∷ b ∷ c ∷ []) e = omega arith
tag_short (a ∷ b ∷ c ∷ d ∷ r) e = absurd (false≢true (right (capital c) false (right (digit b) _ (right (digit a) _ e))))

pub right_short : (form : Form) (s : Bool) (t : List ℕ) (ls : List (List ℕ)) → shaped t ≡ true → right_field form s (field t ls) ≡ true → length (with_cr_lf (lined (field t ls))) ≤ 300
right_short form s t [] e r = omega arith
right_short form s t (l ∷ ls) e r =
    let b : lines_size (l ∷ ls) ≤ 37 * 6 = right_size (held_by form t) s (l ∷ ls) ((field_says form s (field t (l ∷ ls))).0 r) in
    omega (arith, tag_short t e, length-append t (58 ∷ l), crlf_size (lined (field t (l ∷ ls))))
