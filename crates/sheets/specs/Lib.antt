pub mod Gather
pub mod Sentences
pub mod Calls
pub mod Cases
pub mod Steps
