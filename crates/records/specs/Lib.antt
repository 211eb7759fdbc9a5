pub mod Record
pub mod Places
pub mod Rule19
pub mod Sentences
pub mod Found
pub mod Cases
