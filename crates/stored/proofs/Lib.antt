pub mod WordLaws
pub mod ListLaws
