-- `writer::built::put_content` meets its contract: by the shape. Assumes nothing.
use borrow.Enum.Refused.{opened}
use Prim.Native.Nat.{◌+◌, ◌*◌}
use native.Mathlib.Omega.{arith}
use lib.ListN.{length}
use Rattle.records.specs.Found.{pieces_at}
use Rattle.writer.proofs.StepLaws.{within_more}
use Rattle.writer.proofs.PutLaws.{content_parts_lem, content_details, content_note, content_rpp, sole_within, sound_details, sound_note}
use Rattle.writer.proofs.built.put_content.Goals as goal

pub put_purpose-requires : goal.put_purpose-requires
put_purpose-requires c = let a = c.args in (c.requires.0, omega (arith, c.requires), sound_details a.sign (pieces_at 9 a.l.now a.i) c.in-Details.is c.requires.3)

pub put_rpp-requires : goal.put_rpp-requires
put_rpp-requires c = let a = c.args in (c.requires.0, sole_within a.sign a.l.now a.i c.in-Note103.is c.requires.3, omega arith, omega (arith, c.requires))

pub put_note-requires : goal.put_note-requires
put_note-requires c = let a = c.args in (c.requires.0, c.requires.2, sound_note a.sign (pieces_at 9 a.l.now a.i) c.in-Note202.is c.requires.3)

pub put_parts-requires : goal.put_parts-requires
put_parts-requires c = (c.requires.0, c.requires.1, c.requires.2)

pub returns-in-Details : goal.returns-in-Details
returns-in-Details c = let a = c.args in
    let e = c.in-Details.is in (
      content_details a.sign a.i (pieces_at 9 a.l.now a.i) e c.put_purpose.ensures.0,
      within_more (length a.l.now) (a.at + 4 * length a.l.now + 300) c.put_purpose.ensures.1 (omega arith) (omega arith),
    )

pub returns-in-Note103 : goal.returns-in-Note103
returns-in-Note103 c = let a = c.args in (content_rpp a.sign a.l.now a.i c.in-Note103.is (sole_within a.sign a.l.now a.i c.in-Note103.is c.requires.3) c.requires.3 c.put_rpp.ensures.0, within_more (length a.l.now) (a.at + 4 * length a.l.now + 300) c.put_rpp.ensures.1 (omega arith) (omega arith))

pub returns-in-Note202 : goal.returns-in-Note202
returns-in-Note202 c = let a = c.args in (content_note a.sign a.i (pieces_at 9 a.l.now a.i) c.in-Note202.is c.put_note.ensures.0, within_more (length a.l.now) (a.at + 4 * length a.l.now + 300) c.put_note.ensures.1 (omega arith) (omega arith))

pub returns-in_default : goal.returns-in_default
returns-in_default c = let a = c.args in (content_parts_lem a.sign a.i (pieces_at 9 a.l.now a.i) a.shape (opened c.in_default.in_default-own.keys4) c.first_role.ensures c.put_parts.ensures.0, within_more (length a.l.now) (a.at + 4 * length a.l.now + 300) c.put_parts.ensures.1 (omega arith) (omega arith))
