-- `message::facts::is_marked` meets its contract: no tag that 11 or 13 ask for. Assumes nothing.
use mathlib.Core.Logic.{inl, inr}
use Rattle.message.proofs.FactLaws.{unmarked}
use Rattle.message.proofs.facts.is_marked.Goals as goal

pub returns-in_default : goal.returns-in_default
returns-in_default c = let n = c.in_default.in_default-own.rest.1 in
    λ e. unmarked c.args.tag (λ q. n (inl q)) (λ q. n (inr (inl q))) (λ q. n (inr (inr (inl q)))) (λ q. n (inr (inr (inr (inl q))))) (λ q. n (inr (inr (inr (inr (inl q)))))) (λ q. n (inr (inr (inr (inr (inr q))))))
