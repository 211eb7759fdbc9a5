-- What the tags of a type hold: one that is none of them, what is true of each, and that they are just those of the form's places. Assumes nothing.
use Prim.Native.Nat.{ℕ}
use mathlib.Core.Path.{◌≡◌, refl, sym, ap, ◌∙◌}
use mathlib.Core.Bool.{Bool, true, false}
use mathlib.Core.List.{List, [], ◌∷◌, ◌++◌}
use Rattle.base.specs.Choice.{pick}
use Rattle.base.specs.Bytes.{same}
use Rattle.base.specs.Quoted.{bytes}
use Rattle.base.proofs.ByteLaws.{same_is}
use Rattle.fields.specs.Shapes.{pack, unpack}
use Rattle.fields.proofs.PackLaws.{pack_unpack}
use Rattle.types.specs.declared.Form.{Form}
use Rattle.types.specs.declared.Form.TheVariants.{Other, Mt103, Mt202}
use Rattle.types.specs.Form.{Place, places_of, places_103, places_202}
use Rattle.types.specs.Tables as tables
use Rattle.contents.specs.declared.Content.TheVariants as holds
use Rattle.contents.specs.Tags.{Tag, tag, tags_103, tags_202, held_in, tags_of}

-- ---- a tag that is none of them
abbrev pub NoneOf : ℕ → List Tag → Type 0
NoneOf n [] = Unit {0}
NoneOf n (tag u c ∷ ts) = (n ≡ pack (bytes u) → ⊥) × NoneOf n ts

pub no_tag : (ts : List Tag) (n : ℕ) → NoneOf n ts → held_in ts (unpack n) ≡ holds.Unknown
no_tag [] n h = refl
no_tag (tag u c ∷ ts) n h = go (same (unpack n) (bytes u)) refl (no_tag ts n h.1)
  where
    go : (b : Bool) → same (unpack n) (bytes u) ≡ b → held_in ts (unpack n) ≡ holds.Unknown → pick b c (held_in ts (unpack n)) ≡ holds.Unknown
    go true e r = absurd (h.0 (sym (pack_unpack n) ∙ ap pack (same_is (unpack n) (bytes u) e)))
    go false e r = r

-- ---- the tags that hold something are those of the form's places, in order
abbrev tags_in : List Place → List (List ℕ)
tags_in [] = []
tags_in (p ∷ ps) = tables.place_tags p ++ tags_in ps

abbrev names : List Tag → List (List ℕ)
names [] = []
names (tag u c ∷ ts) = bytes u ∷ names ts

pub same_tags : (form : Form) → names (tags_of form) ≡ tags_in (places_of form)
unfolding tags_103 tags_202 places_103 places_202
same_tags Mt103 = refl
same_tags Mt202 = refl
same_tags Other = refl
