pub mod RunLaws
pub mod PassLaws
pub mod RuleLaws
pub mod LateLaws
pub mod CallLaws
pub mod PassTheorems
pub mod Examples
pub mod SmallLaws
