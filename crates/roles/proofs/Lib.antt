pub mod Examples
pub mod BreachLaws
pub mod LineLaws
pub mod ClauseLaws
pub mod FoundLaws
pub mod LengthLaws
mod TextLaws
pub mod OverTheorems
pub mod BackTableLaws
pub mod CastLaws
pub mod PartLaws
pub mod RestLaws
