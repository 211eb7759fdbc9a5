-- `alphabets::read_text` meets its contract. Assumes nothing.
use Prim.Native.Nat.{ℕ, ◌≤◌}
use mathlib.Core.Path.{◌≡◌, sym, subst}
use mathlib.Core.Bool.{Bool, true, false}
use mathlib.Core.List.{List}
use lib.ListN.{length}
use Rattle.base.specs.Calls.{text_of, placed, Gives}
use Rattle.base.specs.Verdicts.{Outcome}
use Rattle.alphabets.specs.Bank.{reading}
use Rattle.alphabets.specs.Parts.{extent_of}
use Rattle.alphabets.specs.Text.{ReadTo, text_rules, ending_of}
use Rattle.alphabets.specs.Extent.{Extent}
use Rattle.alphabets.proofs.TextLaws.{too_long, answered}
use Rattle.alphabets.proofs.read_text.Goals as goal

settled : (s t : Bool) (bank out after : List ℕ) (z : Extent) (r : Outcome) → s ≡ t → length bank ≤ 10000 → (z ≡ extent_of (reading t bank)) × (after ≡ placed out 0 (text_of (reading t bank))) → r ≡ ending_of 14 z (length out) → ReadTo s bank out r after
unfolding ReadTo
settled s t bank out after z r e h w g = subst (λ (q : Bool). Gives (text_rules 10000 14 bank (reading q bank) out) (text_of (reading q bank)) out r after) (sym e) (answered 10000 14 bank (reading t bank) out after z r h w g)

pub returns-then-bank-gt10000 : goal.returns-then-bank-gt10000
unfolding ReadTo
returns-then-bank-gt10000 c = let a = c.args in too_long 10000 14 a.bank.now (reading a.sign a.bank.now) a.out.now c.if-bank-gt10000.true

pub returns-then-sign : goal.returns-then-sign
returns-then-sign c = let a = c.args in settled a.sign true a.bank.now a.out.now _ _ _ c.if-sign.true c.if-bank-gt10000.false c.put_whole.ensures c.ending.ensures

pub returns : goal.returns
returns c = let a = c.args in settled a.sign false a.bank.now a.out.now _ _ _ c.if-sign.false c.if-bank-gt10000.false c.put_plain.ensures c.ending-2.ensures
