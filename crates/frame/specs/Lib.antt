pub mod Frame
pub mod Rest
pub mod Cases
