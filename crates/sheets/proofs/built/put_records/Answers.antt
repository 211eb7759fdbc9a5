-- `sheets::built::put_records` meets its contract: from each field on as from the first. Assumes nothing.
use mathlib.Core.Path.{refl}
use native.Mathlib.Omega.{arith}
use borrow.Author.Rules.{rules}
use Rattle.fields.specs.Lines.{lines_in}
use Rattle.message.proofs.TakenLaws.{settled_in}
use Rattle.sheets.specs.Steps.{rest_text}
use Rattle.sheets.proofs.CallLaws.{type_in}
use Rattle.sheets.proofs.FieldLaws.{part_within, at_on, sheet_on, sheet_end}
use Rattle.sheets.proofs.built.put_records.Goals as goal

pub put_type-at-requires : goal.put_type-at-requires
put_type-at-requires c = type_in c.args.f.now

pub loop-k-init : goal.loop-k-init
loop-k-init c = (refl, omega (arith, (settled_in c.args.f.now).start, c.put_type-at.ensures.0), λ r after d. d)

pub put_field-at-requires : goal.put_field-at-requires
put_field-at-requires c = let s = settled_in c.args.f.now in
    (c.part_at.ensures.1, omega (arith, part_within s c.loop-k.k (omega (arith, c.loop-k-test.true, c.count-n.ensures)), c.loop-k.invariant.1, s.few, c.count-n.ensures, c.loop-k-test.true))

pub loop-k-preserved : goal.loop-k-preserved
loop-k-preserved c = let f = c.args.f.now in
    let s = settled_in f in
    let r = c.args.r.now in
    let b = r.back.now in (
      search rules,
      at_on s c.loop-k.k (omega (arith, c.loop-k-test.true, c.count-n.ensures)) c.part_at.ensures.0 c.args.r.now.short c.loop-k.invariant.1 c.put_field-at.ensures.0,
      sheet_on s c.loop-k.k (omega (arith, c.loop-k-test.true, c.count-n.ensures)) b f.form r.sign (rest_text b r.sign (lines_in r.rest.now)) c.part_at.ensures.0 c.loop-k.invariant.2 c.put_field-at.ensures.1,
    )

pub returns : goal.returns
returns c = let f = c.args.f.now in
    let r = c.args.r.now in
    let b = r.back.now in
    sheet_end f.message.now c.loop-k.k c.count-n.result c.count-n.ensures c.loop-k-test.false b f.form r.sign (rest_text b r.sign (lines_in r.rest.now)) c.put_type-at.ensures.1 c.loop-k.invariant.2
