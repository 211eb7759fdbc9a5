pub mod Cut
pub mod Run
pub mod RunOn
pub mod Heard
pub mod Steps
pub mod Cases
