pub mod Back
pub mod Again
pub mod Shown
pub mod Why
pub mod Cases
