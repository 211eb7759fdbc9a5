-- `reader::next_bit` meets its contract: no bit before the one that is found is set. Assumes nothing.
use Prim.Native.Nat.{ℕ}
use mathlib.Core.Path.{◌≡◌, ◌∙◌}
use borrow.Author.Rules.{rules}
use borrow.Author.Tests.{tests}
use Rattle.std.proofs.lemmas.Iterator.{first_from_Range}
use Rattle.base.specs.Bits.{bit}
use Rattle.reader.proofs.PlaceLaws.{bit_found}
use Rattle.reader.proofs.next_bit.Goals as goal

pub returns : goal.returns
returns c = let w : ℕ = c.args.word in
    c.unwrap_or.ensures
    ∙ bit_found w c.args.from c.find.result (first_from_Range _ _ _ c.find.result (λ (i : ℕ). bit w i ≡ 1) (λ (i : ℕ). bit w i ≡ 1 → ⊥) c.find.ensures.ran (λ x q k. search (rules, tests)) (λ x q k. search (rules, tests)))
