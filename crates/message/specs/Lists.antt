-- The part of a place among the fields of a message (K2). Assumes nothing.
use Rattle.std.specs.Prelude.{ℕ, List, [], ◌∷◌, eqb, Option, None, Some}
use Rattle.base.specs.Choice.{pick}
use Rattle.fields.specs.Field.{Field, tag_of}
use Rattle.fields.specs.Places.{start_of, next_of, end_of}
use Rattle.types.specs.Form.{Place}
use Rattle.types.specs.Walk.{find}
use Rattle.message.specs.declared.Span.{Span}

-- where a content stands
abbrev pub Part : ℕ → ℕ → Option Span
Part start end = Some (record { start = start; end = end })

-- the content of the first field with that place; the first field's colon stands at o
unfoldable pub part_at : List Place → ℕ → ℕ → List Field → Option Span
part_at ps place o [] = None
part_at ps place o (f ∷ fs) = pick (eqb (find ps (tag_of f)) place) (Part (start_of o f) (end_of o f)) (part_at ps place (next_of o f) fs)
