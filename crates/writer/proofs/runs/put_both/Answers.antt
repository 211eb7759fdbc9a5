-- `writer::runs::put_both` meets its contract: the tag, the RPP line, then the rest. Assumes nothing.
use Prim.Native.Nat.{◌+◌, ◌*◌}
use native.Mathlib.Omega.{arith}
use lib.ListN.{length}
use Rattle.runon.specs.RunOn.{tag_72}
use Rattle.writer.proofs.StepLaws.{not_put, within_more, within_put}
use Rattle.writer.proofs.PutLaws.{tag_behind}
use Rattle.writer.proofs.RunLaws.{rpp_within, rpp_is_put, both_put}
use Rattle.writer.proofs.runs.put_both.Goals as goal

pub put_rpp-requires : goal.put_rpp-requires
put_rpp-requires c = let a = c.args in
    let p = c.requires.l_len_bound in
    let q = c.requires.l_value in (p.0, rpp_within a.sign a.rest.now q.3 a.l.now q.0 q.1 p.3, omega arith, omega (arith, p, tag_behind tag_72 c.put_tag-n.ensures))

pub returns-in_err-m : goal.returns-in_err-m
returns-in_err-m c = let a = c.args in
    let p = c.requires.l_len_bound in
    let q = c.requires.l_value in absurd (rpp_is_put a.sign a.rest.now q.3 a.l.now q.0 q.1 p.3 c.put_rpp.ensures.0 (not_put c.in_err-m.was))

pub put_rest-requires : goal.put_rest-requires
put_rest-requires c = let p = c.requires.l_len_bound in (p.1, omega (arith, p, tag_behind tag_72 c.put_tag-n.ensures, within_put c.in_ok-m.was c.put_rpp.ensures.1))

pub returns : goal.returns
returns c = let a = c.args in
    let p = c.requires.l_len_bound in
    let q = c.requires.l_value in
    let n = length a.l.now in (
      both_put a.sign a.rest.now q.3 a.l.now q.0 q.1 p.3 q.2 c.put_tag-n.ensures c.in_ok-m.was c.put_rpp.ensures.0 c.put_rest.ensures.0,
      within_more 10000 (a.at + 400 * (n + 1)) c.put_rest.ensures.1 (omega (arith, p)) (omega (arith, tag_behind tag_72 c.put_tag-n.ensures, within_put c.in_ok-m.was c.put_rpp.ensures.1)),
    )
