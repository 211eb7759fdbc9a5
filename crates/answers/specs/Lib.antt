pub mod Line
pub mod Programs
pub mod Back
pub mod Steps
pub mod Cases
