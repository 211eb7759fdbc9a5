pub mod Lines
pub mod Breaking
pub mod Front
pub mod Layouts
pub mod Steps
pub mod Cases
