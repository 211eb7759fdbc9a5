-- `message::check::check` meets its contract: the message is refused, the list is too short, or it is filled. Assumes nothing.
use Prim.Native.Nat.{ℕ, ◌*◌}
use mathlib.Core.Path.{◌≡◌, sym, ap₂, ◌∙◌, subst}
use mathlib.Core.List.{List}
use native.Mathlib.Omega.{arith}
use lib.Count.{ones}
use lib.ListN.{length}
use Rattle.std.specs.Prelude.{Ok}
use Rattle.std.proofs.lemmas.Result.{err_from_is_err_and}
use Rattle.base.specs.Calls.{over}
use Rattle.base.specs.Verdicts.{Refused}
use Rattle.fields.specs.Field.{fields}
use Rattle.fields.specs.Places.{listed}
use Rattle.types.specs.declared.Form.{Form}
use Rattle.frame.specs.Frame.{word_of}
use Rattle.message.specs.Calls.{Checks, counted}
use Rattle.message.proofs.CheckLaws.{gives_refused, gives_short, gives_full}
use Rattle.message.proofs.TakenLaws.{settled_in, ones_in, word_in, as_lent}
use Rattle.message.proofs.check.check.Goals as goal

pub returns-in_err-f : goal.returns-in_err-f
returns-in_err-f c = let a = c.args in
    let p = err_from_is_err_and c.from_residual.result c.from_residual.ensures.1 in
    rw (p.1, p.2) (gives_refused a.form a.m.now a.list.now c.in_err-f.ensures)

pub overflow_mul-n : goal.overflow_mul-n
overflow_mul-n c = let f = c.in_ok-f.f in
    let few = (settled_in f).few in
    let n = ones_in f in omega (arith, few, n)

pub overflow_mul-result : goal.overflow_mul-result
overflow_mul-result c = let f = c.in_ok-f.f in
    let few = (settled_in f).few in
    let n = ones_in f in omega (arith, few, n)

pub returns-then-list-n : goal.returns-then-list-n
returns-then-list-n c = let a = c.args in
    let e = c.in_ok-f.ensures in
    let f = c.in_ok-f.f in
    let n = as_lent e.1 e.2 (λ (form : Form) (m : List ℕ). ones f.frame.present ≡ length (fields m)) (ones_in f) in
    subst (λ (x : ℕ). Checks a.form a.m.now a.list.now (Refused 17 (3 * x)) a.list.now) (sym n) (gives_short a.form a.m.now a.list.now e.0 (omega (arith, n, c.if-list-n.true)))

pub fill-requires : goal.fill-requires
fill-requires c = let n = ones_in c.in_ok-f.f in omega (arith, n, c.if-list-n.false)

pub returns : goal.returns
returns c = let a = c.args in
    let e = c.in_ok-f.ensures in
    let f = c.in_ok-f.f in
    let n = as_lent e.1 e.2 (λ (form : Form) (m : List ℕ). ones f.frame.present ≡ length (fields m)) (ones_in f) in
    let w = as_lent e.1 e.2 (λ (form : Form) (m : List ℕ). f.frame.present ≡ word_of form m) (word_in f) in
    let filled = as_lent e.1 e.2 (λ (form : Form) (m : List ℕ). c.fill.new.list ≡ over (listed 5 (fields m)) a.list.now) c.fill.ensures in
    let r = gives_full a.form a.m.now a.list.now e.0 (omega (arith, n, c.if-list-n.false)) in
    record { answers = ap₂ (λ (k x : ℕ). Ok (counted k x)) n w ∙ r.answers; leaves = filled ∙ r.leaves }
