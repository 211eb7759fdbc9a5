-- `reader::place_behind` meets its contract: the word's next bit is the next place with a content. Assumes nothing.
use mathlib.Core.Path.{refl}
use Rattle.types.specs.Form.{form_of}
use Rattle.reader.proofs.PlaceLaws.{place_far, place_is}
use Rattle.reader.proofs.place_behind.Goals as goal

pub returns-then-place-ge-END : goal.returns-then-place-ge-END
returns-then-place-ge-END c = let a = c.args in place_far (form_of a.kind) a.m.now a.place c.if-place-ge-END.true

pub returns : goal.returns
returns c = let a = c.args in
    place_is (form_of a.kind) a.m.now a.place c.if-place-ge-END.false c.present_in.ensures refl c.next_bit.ensures
