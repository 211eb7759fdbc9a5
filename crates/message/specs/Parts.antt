-- A field of a message that the quick pass took, by its spot: what the functions that go over the fields are promised. Assumes nothing.
use Rattle.std.specs.Prelude.{ℕ, ◌+◌, ◌-◌, ◌≤◌, ◌≡◌, true, List, ◌∷◌, eqb, length, take, drop}
use Rattle.base.specs.Choice.{all}
use Rattle.base.specs.Bytes.{byte, begins, without}
use Rattle.fields.specs.Field.{field, fields}
use Rattle.fields.specs.Places.{start_of, next_of, end_of}
use Rattle.fields.specs.Shapes.{unpack}
use Rattle.fields.specs.ByLines.{joined}
use Rattle.message.specs.declared.parts.FieldAt.{FieldAt}
use Rattle.base.specs.Quoted.{ascii}

-- the field at k is this part of the message
pub record Here (m spots : List ℕ) (k : ℕ) (p : FieldAt) : Type 0 where
  pub tag : List ℕ
  pub line : List ℕ
  pub more : List (List ℕ)
  pub is : drop k (fields m) ≡ field tag (line ∷ more) ∷ drop (k + 1) (fields m)
  pub colon_is : p.colon ≡ byte spots k
  pub next_is : byte spots (k + 1) ≡ next_of p.colon (field tag (line ∷ more))
  pub tag_is : unpack p.tag ≡ tag
  pub start_is : p.start ≡ start_of p.colon (field tag (line ∷ more))
  pub end_is : p.end ≡ end_of p.colon (field tag (line ∷ more))
  pub content_is : take (p.end - p.start) (drop p.start m) ≡ joined (line ∷ more)
  pub no_cr : all (without (ascii "\r")) (line ∷ more) ≡ true
  pub sign_is : eqb (byte m p.start) (ascii "+") ≡ begins (ascii "+") line
  pub low : p.start ≤ p.end
  pub high : p.end + 2 ≤ length m
