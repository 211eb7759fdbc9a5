pub mod Sentences
pub mod Held
pub mod Cases
