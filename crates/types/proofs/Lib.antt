pub mod WalkLaws
pub mod WordLaws
pub mod StepLaws
pub mod TableLaws
pub mod Examples
